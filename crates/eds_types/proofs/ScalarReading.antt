-- Scalars, binaries, texts of a fixed length and arrays are read exactly.
use Rattle.eds_base.specs.declared.spans.Span.{Span}
use Rattle.eds_base.specs.declared.fault.Fault.{Fault}
use Rattle.std.proofs.Common.{◌≡◌, ℕ, zero, suc, ◌*◌, ◌≤◌, ℤ, Bool, true, false, cond, List, [], ◌∷◌, ◌++◌, length, take, drop, Option, Some, None, Result, Ok, Err, refl, sym, ap, subst, ◌∙◌, arith, ◌⊎◌, inl, inr, IsAscii}
use Rattle.std.specs.Prelude.{nat_lt}
use Rattle.std.proofs.lemmas.Bool.{and_parts, and_from, ltb-true, lt-ltb, false_from_ne_true, both_ways}
use Rattle.std.proofs.lemmas.Bool.Decides.{Decides-int_eq}
use Rattle.std.proofs.lemmas.List.{length-append, take-append-drop, length-take}
use Rattle.std.proofs.lemmas.Str.{IsUtf8-from_is_utf8, is_utf8-from_IsUtf8}
use Rattle.eds_base.specs.declared.ids.TypeId.{TypeId}
use Rattle.eds_base.specs.declared.fault.Reason.{Reason}
use Rattle.eds_base.specs.declared.fault.Reason.TheVariants.{OutOfRange, NoLabel, BadDigit, BadText}
use Rattle.eds_bits.specs.declared.forms.IntForm.{IntForm}
use Rattle.eds_bits.specs.declared.forms.BoolForm.{BoolForm}
use Rattle.eds_bits.specs.declared.forms.TextForm.{TextForm}
use Rattle.eds_types.specs.declared.row.Kind.TheVariants as kind
use Rattle.eds_base.specs.Reading.{same as same_text}
use Rattle.eds_base.specs.Spans.{IsWithin}
use Rattle.eds_bits.specs.Bits.{Bits, octets_of}
use Rattle.eds_bits.specs.IntForms.{number_of}
use Rattle.eds_bits.specs.Scalars.{before_stop, IsCoded}
use Rattle.eds_bits.specs.Style.{any}
use Rattle.eds_types.proofs.ExactReading.{ok_err, Exact, exact_as, done, failed, ok_is, err_is, IsBits, IsShort, bits_exact, Judged, JudgeFails, judge_exact, Items, items_exact}
use Rattle.eds_types.proofs.SameValues.{same_text-is, list_of-plains_of, plains_of-list_of}
use Rattle.eds_types.proofs.ReadingTests.{within_from, within_in}
use Rattle.eds_types.specs.Failing.{fault_here, ItemFails, KindFails, IsListed}
use Rattle.eds_types.specs.Fields.{listed}
use Rattle.eds_types.specs.Plain.{Plain, num, label, truth, text, bits, items, list_of, plains_of}
use Rattle.eds_types.specs.Reading.{Read, judge, read_bits, read_items, is_within, ranged, number_is, label_of, label_as, named, truth_of, is_ascii, is_coded, coded, read_text}
use Rattle.eds_types.specs.Rows.{Table}
use Rattle.eds_types.specs.Spelling.{ItemsSpell, KindSpells}

take_front : {A : Type 0} (c rest : List A) → take (length c) (c ++ rest) ≡ c
take_front [] rest = refl
take_front (x ∷ c) rest = ap (λ y. x ∷ y) (take_front c rest)

-- what so many bits say
abbrev pub Says : ℕ → (Bits → Result Plain Fault) → Plain → Bits → Type 0
Says n j v c = (length c ≡ n) × (j c ≡ Ok v)

abbrev pub Rejects : ℕ → (Bits → Result Plain Fault) → Bits → Fault → Type 0
Rejects n j b g = IsShort n b g ⊎ ((n ≤ length b) × (j (take n b) ≡ Err g))

pub says_exact : (n : ℕ) (j : Bits → Result Plain Fault) → Exact (λ b. judge j (read_bits n b)) (Says n j) (Rejects n j)
says_exact n j = exact_as _ (Judged (IsBits n) j) _ (JudgeFails (IsBits n) j (IsShort n)) _ (judge_exact (read_bits n) (IsBits n) (IsShort n) j (bits_exact n))
    (λ v c h. (h.read.1, ap j (sym h.read.0) ∙ h.is))
    (λ v c h. record { x = c; read = (refl, h.0); is = h.1 })
    there back
  where
    there : (b : Bits) (g : Fault) → JudgeFails (IsBits n) j (IsShort n) b g → Rejects n j b g
    there b g (inl h) = inl h
    there b g (inr h) =
        let e : take n b ≡ h.x = ap (λ m. take m b) (sym h.read.1) ∙ ap (take (length h.c)) h.bits ∙ take_front h.c h.rest ∙ sym h.read.0 in
        inr (omega (arith, ap length h.bits, length-append h.c h.rest, h.read.1), ap j e ∙ h.is)

    back : (b : Bits) (g : Fault) → Rejects n j b g → JudgeFails (IsBits n) j (IsShort n) b g
    back b g (inl h) = inl h
    back b g (inr h) = let enough = h.0 in inr (record { x = take n b; c = take n b; rest = drop n b; bits = sym (take-append-drop n b); read = (refl, omega (arith, length-take n b)); is = h.1 })

ascii_from : (os : List ℕ) → is_ascii os ≡ true → IsAscii os
ascii_from [] e zero = omega arith
ascii_from [] e (suc i) = omega arith
ascii_from (o ∷ os) e zero = ltb-true o 128 (and_parts (nat_lt o 128) (is_ascii os) e).0
ascii_from (o ∷ os) e (suc i) = ascii_from os (and_parts (nat_lt o 128) (is_ascii os) e).1 i

ascii_in : (os : List ℕ) → IsAscii os → is_ascii os ≡ true
ascii_in [] h = refl
ascii_in (o ∷ os) h = and_from (nat_lt o 128) (is_ascii os) (lt-ltb o 128 (h 0)) (ascii_in os (λ i. h (suc i)))

pub coded_from : (ascii : Bool) (os : List ℕ) → is_coded ascii os ≡ true → IsCoded ascii os
coded_from true os e = ascii_from os e
coded_from false os e = IsUtf8-from_is_utf8 os e

pub coded_in : (ascii : Bool) (os : List ℕ) → IsCoded ascii os → is_coded ascii os ≡ true
coded_in true os h = ascii_in os h
coded_in false os h = is_utf8-from_IsUtf8 os h

coded_by : Bool → List ℕ → Result Plain Fault
coded_by b os = cond b (Ok (text os)) (Err (fault_here BadText))

pub coded_ok : (ascii : Bool) (os : List ℕ) (v : Plain) → coded ascii os ≡ Ok v → IsCoded ascii os × (v ≡ text os)
unfolding coded_by
coded_ok ascii os v e = go (is_coded ascii os) refl e
  where
    go : (b : Bool) → is_coded ascii os ≡ b → coded_by b os ≡ Ok v → IsCoded ascii os × (v ≡ text os)
    go true h e = (coded_from ascii os h, sym (ok_is (text os) v e))
    go false h e = absurd (ok_err (done v) v (fault_here BadText) refl (sym e))

pub ok_coded : (ascii : Bool) (os : List ℕ) → IsCoded ascii os → coded ascii os ≡ Ok (text os)
unfolding coded_by
ok_coded ascii os h = ap (λ b. coded_by b os) (coded_in ascii os h)

pub coded_err : (ascii : Bool) (os : List ℕ) (g : Fault) → coded ascii os ≡ Err g → (IsCoded ascii os → ⊥) × (g ≡ fault_here BadText)
unfolding coded_by
coded_err ascii os g e = go (is_coded ascii os) refl e
  where
    go : (b : Bool) → is_coded ascii os ≡ b → coded_by b os ≡ Err g → (IsCoded ascii os → ⊥) × (g ≡ fault_here BadText)
    go true h e = absurd (ok_err (done (text os)) (text os) g refl e)
    go false h e = ((λ k. both_ways (is_coded ascii os) h (coded_in ascii os k)), sym (err_is Plain (fault_here BadText) g e))

pub err_coded : (ascii : Bool) (os : List ℕ) → (IsCoded ascii os → ⊥) → coded ascii os ≡ Err (fault_here BadText)
unfolding coded_by
err_coded ascii os h = ap (λ b. coded_by b os) (false_from_ne_true (is_coded ascii os) (λ e. h (coded_from ascii os e)))

-- a size and a termination octet of a text
pub record IsTextSize (n stop : ℕ) : Type 0 where
  pub some : 1 ≤ n
  pub few : n ≤ 65536
  pub plain : stop ≤ 127

abbrev pub size_of : (form : TextForm) → IsTextSize form.length form.stop
size_of form = record { some = form.some; few = form.few; plain = form.plain }

-- the form of a text, by its parts
abbrev pub text_form : (n : ℕ) → Bool → Bool → (stop : ℕ) → IsTextSize n stop → TextForm
text_form n fixed ascii stop size = record { length = n; fixed = fixed; ascii = ascii; stop = stop; some = size.some; few = size.few; plain = size.plain }

module _ (t : Table) (read : ℕ → Bits → Read Plain) (SpellsInner : ℕ → Plain → Bits → Type 0) (FailsInner : ℕ → Bits → Fault → Type 0) where
  -- ---- integers

  ranged_by : Bool → ℤ → Result Plain Fault
  ranged_by b n = cond b (Ok (num n)) (Err (fault_here OutOfRange))

  ranged_ok : (spans : List Span) (o : Option ℤ) (v : Plain) → ranged spans o ≡ Ok v → (n : ℤ) × (o ≡ Some n) × (v ≡ num n) × IsWithin spans n
  unfolding ranged_by
  ranged_ok spans None v e = absurd (ok_err (done v) v (fault_here BadDigit) refl (sym e))
  ranged_ok spans (Some n) v e = go (is_within spans n) refl e
    where
      go : (b : Bool) → is_within spans n ≡ b → ranged_by b n ≡ Ok v → (m : ℤ) × (Some n ≡ Some m) × (v ≡ num m) × IsWithin spans m
      go true h e = (n, refl, sym (ok_is (num n) v e), within_from spans n h)
      go false h e = absurd (ok_err (done v) v (fault_here OutOfRange) refl (sym e))

  ok_ranged : (spans : List Span) (n : ℤ) → IsWithin spans n → ranged spans (Some n) ≡ Ok (num n)
  unfolding ranged_by
  ok_ranged spans n h = ap (λ b. ranged_by b n) (within_in spans n h)

  abbrev Why : Option ℤ → (ℤ → Type 0) → Reason → Fault → Type 0
  Why o Good bad g = ((o ≡ None) × (g ≡ fault_here BadDigit)) ⊎ ((n : ℤ) × (o ≡ Some n) × (Good n → ⊥) × (g ≡ fault_here bad))

  ranged_err : (spans : List Span) (o : Option ℤ) (g : Fault) → ranged spans o ≡ Err g → Why o (IsWithin spans) OutOfRange g
  unfolding ranged_by
  ranged_err spans None g e = inl (refl, sym (err_is Plain (fault_here BadDigit) g e))
  ranged_err spans (Some n) g e = go (is_within spans n) refl e
    where
      go : (b : Bool) → is_within spans n ≡ b → ranged_by b n ≡ Err g → Why (Some n) (IsWithin spans) OutOfRange g
      go true h e = absurd (ok_err (done (num n)) (num n) g refl e)
      go false h e = inr (n, refl, (λ w. both_ways (is_within spans n) h (within_in spans n w)), sym (err_is Plain (fault_here OutOfRange) g e))

  err_ranged : (spans : List Span) (o : Option ℤ) (g : Fault) → Why o (IsWithin spans) OutOfRange g → ranged spans o ≡ Err g
  unfolding ranged_by
  err_ranged spans o g (inl h) = ap (ranged spans) h.0 ∙ ap (failed Plain) (sym h.1)
  err_ranged spans o g (inr h) = ap (ranged spans) h.1 ∙ ap (λ b. ranged_by b h.0) (false_from_ne_true (is_within spans h.0) (λ e. h.2 (within_from spans h.0 e))) ∙ ap (failed Plain) (sym h.3)

  pub int_exact : (id : ℕ) (form : IntForm) (spans : List Span) → Exact (λ b. judge (λ c. ranged spans (number_of form c)) (read_bits form.bits b)) (KindSpells any t SpellsInner id (kind.Int form spans)) (KindFails t SpellsInner FailsInner id (kind.Int form spans))
  int_exact id form spans = exact_as _ (Says form.bits j) _ (Rejects form.bits j) _ (says_exact form.bits j)
      (λ v c h. let r = ranged_ok spans (number_of form c) v h.1 in (r.0, r.2, r.3, record { is = record { size = h.0; number = r.1 }; zero_plain = tt }))
      (λ v c h. ((h.3).is.size, ap (ranged spans) (h.3).is.number ∙ ok_ranged spans h.0 h.2 ∙ ap done (sym h.1)))
      there back
    where
      j : Bits → Result Plain Fault
      j c = ranged spans (number_of form c)

      there : (b : Bits) (g : Fault) → Rejects form.bits j b g → KindFails t SpellsInner FailsInner id (kind.Int form spans) b g
      there b g (inl h) = inl h
      there b g (inr h) = inr (record { enough = h.0; why = ranged_err spans (number_of form (take form.bits b)) g h.1 })

      back : (b : Bits) (g : Fault) → KindFails t SpellsInner FailsInner id (kind.Int form spans) b g → Rejects form.bits j b g
      back b g (inl h) = inl h
      back b g (inr h) = inr (h.enough, err_ranged spans (number_of form (take form.bits b)) g h.why)

  -- ---- enumerations

  number_is-is : (o : Option ℤ) (n : ℤ) → number_is o n ≡ true → o ≡ Some n
  number_is-is None n e = absurd cc
  number_is-is (Some m) n e = ap Some ((Decides-int_eq m n).0 e)

  is-number_is : (o : Option ℤ) (n : ℤ) → o ≡ Some n → number_is o n ≡ true
  is-number_is o n e = ap (λ o. number_is o n) e ∙ (Decides-int_eq n n).1 refl

  label_by : List (List ℕ × ℤ) → List ℕ × ℤ → List (List ℕ × ℤ) → ℤ → Bool → Option (List ℕ)
  label_by listing e es n b = cond b (Some e.0) (label_of listing es n)

  label_found : (listing es : List (List ℕ × ℤ)) (n : ℤ) (l : List ℕ) → label_of listing es n ≡ Some l → listed listing l ≡ Some n
  unfolding label_by
  label_found listing [] n l e = absurd cc
  label_found listing (x ∷ xs) n l e = go (number_is (listed listing x.0) n) refl e (label_found listing xs n l)
    where
      go : (b : Bool) → number_is (listed listing x.0) n ≡ b → label_by listing x xs n b ≡ Some l → (label_of listing xs n ≡ Some l → listed listing l ≡ Some n) → listed listing l ≡ Some n
      go true h e ih = let q : x.0 ≡ l = cc in ap (listed listing) (sym q) ∙ number_is-is (listed listing x.0) n h
      go false h e ih = ih e

  -- a label that is listed is found
  label_there : (listing es : List (List ℕ × ℤ)) (n m : ℤ) (l : List ℕ) → listed listing l ≡ Some n → listed es l ≡ Some m → label_of listing es n ≡ None → ⊥
  unfolding label_by
  label_there listing [] n m l e f h = absurd cc
  label_there listing (x ∷ xs) n m l e f h = go (number_is (listed listing x.0) n) refl h (same_text x.0 l) refl f (label_there listing xs n m l e)
    where
      go : (b : Bool) → number_is (listed listing x.0) n ≡ b → label_by listing x xs n b ≡ None → (c : Bool) → same_text x.0 l ≡ c → cond c (Some x.1) (listed xs l) ≡ Some m → (listed xs l ≡ Some m → label_of listing xs n ≡ None → ⊥) → ⊥
      go true p h c q f ih = let z : Some x.0 ≡ None = h in absurd cc
      go false p h true q f ih = both_ways (number_is (listed listing x.0) n) p (is-number_is (listed listing x.0) n (ap (listed listing) (same_text-is x.0 l q) ∙ e))
      go false p h false q f ih = ih f h

  label_some : (listing : List (List ℕ × ℤ)) (n : ℤ) (l : List ℕ) → ((l m : List ℕ) (n : ℤ) → listed listing l ≡ Some n → listed listing m ≡ Some n → l ≡ m) → listed listing l ≡ Some n → label_of listing listing n ≡ Some l
  label_some listing n l one e = go (label_of listing listing n) refl
    where
      go : (o : Option (List ℕ)) → label_of listing listing n ≡ o → label_of listing listing n ≡ Some l
      go None h = absurd (label_there listing listing n n l e e h)
      go (Some m) h = h ∙ ap Some (one m l n (label_found listing listing n m h) e)

  named_ok : (listing : List (List ℕ × ℤ)) (o : Option ℤ) (v : Plain) → named listing o ≡ Ok v → (l : List ℕ) × (n : ℤ) × (o ≡ Some n) × (v ≡ label l) × (listed listing l ≡ Some n)
  named_ok listing None v e = absurd (ok_err (done v) v (fault_here BadDigit) refl (sym e))
  named_ok listing (Some n) v e = go (label_of listing listing n) refl e
    where
      go : (o : Option (List ℕ)) → label_of listing listing n ≡ o → label_as o ≡ Ok v → (l : List ℕ) × (m : ℤ) × (Some n ≡ Some m) × (v ≡ label l) × (listed listing l ≡ Some m)
      go None h e = absurd (ok_err (done v) v (fault_here NoLabel) refl (sym e))
      go (Some l) h e = (l, n, refl, sym (ok_is (label l) v e), label_found listing listing n l h)

  named_err : (listing : List (List ℕ × ℤ)) (o : Option ℤ) (g : Fault) → named listing o ≡ Err g → Why o (IsListed listing) NoLabel g
  named_err listing None g e = inl (refl, sym (err_is Plain (fault_here BadDigit) g e))
  named_err listing (Some n) g e = go (label_of listing listing n) refl e
    where
      go : (o : Option (List ℕ)) → label_of listing listing n ≡ o → label_as o ≡ Err g → Why (Some n) (IsListed listing) NoLabel g
      go None h e = inr (n, refl, (λ w. label_there listing listing n n w.0 w.1 w.1 h), sym (err_is Plain (fault_here NoLabel) g e))
      go (Some l) h e = absurd (ok_err (done (label l)) (label l) g refl e)

  err_named : (listing : List (List ℕ × ℤ)) (o : Option ℤ) (g : Fault) → Why o (IsListed listing) NoLabel g → named listing o ≡ Err g
  err_named listing o g (inl h) = ap (named listing) h.0 ∙ ap (failed Plain) (sym h.1)
  err_named listing o g (inr h) = ap (named listing) h.1 ∙ go (label_of listing listing h.0) refl
    where
      go : (o : Option (List ℕ)) → label_of listing listing h.0 ≡ o → label_as (label_of listing listing h.0) ≡ Err g
      go None e = ap label_as e ∙ ap (failed Plain) (sym h.3)
      go (Some l) e = absurd (h.2 (l, label_found listing listing h.0 l e))

  pub enum_exact : (id : ℕ) (form : IntForm) (listing : List (List ℕ × ℤ)) → ((l m : List ℕ) (n : ℤ) → listed listing l ≡ Some n → listed listing m ≡ Some n → l ≡ m)
      → Exact (λ b. judge (λ c. named listing (number_of form c)) (read_bits form.bits b)) (KindSpells any t SpellsInner id (kind.Enum form listing)) (KindFails t SpellsInner FailsInner id (kind.Enum form listing))
  enum_exact id form listing one = exact_as _ (Says form.bits j) _ (Rejects form.bits j) _ (says_exact form.bits j)
      (λ v c h. let r = named_ok listing (number_of form c) v h.1 in (r.0, r.1, r.3, r.4, record { is = record { size = h.0; number = r.2 }; zero_plain = tt }))
      (λ v c h. ((h.4).is.size, ap (named listing) (h.4).is.number ∙ ap label_as (label_some listing h.1 h.0 one h.3) ∙ ap done (sym h.2)))
      there back
    where
      j : Bits → Result Plain Fault
      j c = named listing (number_of form c)

      there : (b : Bits) (g : Fault) → Rejects form.bits j b g → KindFails t SpellsInner FailsInner id (kind.Enum form listing) b g
      there b g (inl h) = inl h
      there b g (inr h) = inr (record { enough = h.0; why = named_err listing (number_of form (take form.bits b)) g h.1 })

      back : (b : Bits) (g : Fault) → KindFails t SpellsInner FailsInner id (kind.Enum form listing) b g → Rejects form.bits j b g
      back b g (inl h) = inl h
      back b g (inr h) = inr (h.enough, err_named listing (number_of form (take form.bits b)) g h.why)

  -- ---- booleans and binaries

  never : (n : ℕ) (f : Bits → Plain) (b : Bits) (g : Fault) → Rejects n (λ c. Ok (f c)) b g → IsShort n b g
  never n f b g (inl h) = h
  never n f b g (inr h) = absurd (ok_err (done (f (take n b))) (f (take n b)) g refl h.1)

  pub bool_exact : (id : ℕ) (form : BoolForm) → Exact (λ b. judge (λ c. Ok (truth (truth_of form c))) (read_bits form.bits b)) (KindSpells any t SpellsInner id (kind.Bool form)) (KindFails t SpellsInner FailsInner id (kind.Bool form))
  bool_exact id form = exact_as _ (Says form.bits (λ c. Ok (truth (truth_of form c)))) _ (Rejects form.bits (λ c. Ok (truth (truth_of form c)))) _ (says_exact form.bits (λ c. Ok (truth (truth_of form c))))
      (λ v c h. (truth_of form c, sym (ok_is (truth (truth_of form c)) v h.1), record { size = h.0; meaning = refl; one = tt }))
      (λ v c h. ((h.2).size, ap (λ x. done (truth x)) (sym (h.2).meaning) ∙ ap done (sym h.1)))
      (never form.bits (λ c. truth (truth_of form c))) (λ b g h. inl h)

  pub bin_exact : (id n : ℕ) → Exact (λ b. judge (λ c. Ok (bits n (octets_of c))) (read_bits n b)) (KindSpells any t SpellsInner id (kind.Bin n false)) (KindFails t SpellsInner FailsInner id (kind.Bin n false))
  bin_exact id n = exact_as _ (Says n (λ c. Ok (bits n (octets_of c)))) _ (Rejects n (λ c. Ok (bits n (octets_of c)))) _ (says_exact n (λ c. Ok (bits n (octets_of c))))
      (λ v c h. (h.0, sym (ok_is (bits n (octets_of c)) v h.1) ∙ ap (λ m. bits m (octets_of c)) (sym h.0)))
      (λ v c h. (h.0, ap (λ m. done (bits m (octets_of c))) (sym h.0) ∙ ap done (sym h.1)))
      (never n (λ c. bits n (octets_of c))) (λ b g h. inl h)

  -- ---- arrays

  pub array_exact : (id : ℕ) (item : TypeId) (n : ℕ) → Exact (read item.0) (SpellsInner item.0) (FailsInner item.0) → Exact (λ b. judge (λ vs. Ok (items (plains_of vs))) (read_items (read item.0) n 0 b)) (KindSpells any t SpellsInner id (kind.Arr item n)) (KindFails t SpellsInner FailsInner id (kind.Arr item n))
  array_exact id item n s = exact_as _ (Judged (Items (SpellsInner item.0) n) (λ vs. Ok (items (plains_of vs)))) _ (JudgeFails (Items (SpellsInner item.0) n) (λ vs. Ok (items (plains_of vs))) (ItemFails (SpellsInner item.0) (FailsInner item.0) n)) _
      (judge_exact (read_items (read item.0) n 0) (Items (SpellsInner item.0) n) (ItemFails (SpellsInner item.0) (FailsInner item.0) n) (λ vs. Ok (items (plains_of vs))) (items_exact (read item.0) (SpellsInner item.0) (FailsInner item.0) s n))
      (λ v c h. (plains_of h.x, sym (ok_is (items (plains_of h.x)) v h.is), ap length (list_of-plains_of h.x) ∙ h.read.count, subst (λ vs. ItemsSpell (SpellsInner item.0) vs c) (sym (list_of-plains_of h.x)) h.read.spelled))
      (λ v c h. record { x = list_of h.0; read = record { count = h.2; spelled = h.3 }; is = ap (λ vs. done (items vs)) (plains_of-list_of h.0) ∙ ap done (sym h.1) })
      only (λ b g h. inl h)
    where
      only : (b : Bits) (g : Fault) → JudgeFails (Items (SpellsInner item.0) n) (λ vs. Ok (items (plains_of vs))) (ItemFails (SpellsInner item.0) (FailsInner item.0) n) b g → ItemFails (SpellsInner item.0) (FailsInner item.0) n b g
      only b g (inl h) = h
      only b g (inr h) = absurd (ok_err (done (items (plains_of h.x))) (items (plains_of h.x)) g refl h.is)

  -- ---- texts of a fixed length

  pub fixed_exact : (id n : ℕ) (ascii : Bool) (stop : ℕ) (size : IsTextSize n stop) → Exact (read_text (text_form n true ascii stop size) true) (KindSpells any t SpellsInner id (kind.Str (text_form n true ascii stop size))) (KindFails t SpellsInner FailsInner id (kind.Str (text_form n true ascii stop size)))
  fixed_exact id n ascii stop size = exact_as _ (Says (8 * n) j) _ (Rejects (8 * n) j) _ (says_exact (8 * n) j)
      (λ v c h. let r = coded_ok ascii (said c) v h.1 in (said c, r.1, record { size = h.0; value = refl; coded = r.0; filler = tt }))
      (λ v c h. ((h.2).size, ok_coded ascii (said c) (subst (IsCoded ascii) (h.2).value (h.2).coded) ∙ ap (λ s. done (text s)) (sym (h.2).value) ∙ ap done (sym h.1)))
      there back
    where
      said : Bits → List ℕ
      said c = before_stop stop (octets_of c)

      j : Bits → Result Plain Fault
      j c = coded ascii (said c)

      there : (b : Bits) (g : Fault) → Rejects (8 * n) j b g → KindFails t SpellsInner FailsInner id (kind.Str (text_form n true ascii stop size)) b g
      there b g (inl h) = inl h
      there b g (inr h) = let r = coded_err ascii (said (take (8 * n) b)) g h.1 in inr (h.0, r.0, r.1)

      back : (b : Bits) (g : Fault) → KindFails t SpellsInner FailsInner id (kind.Str (text_form n true ascii stop size)) b g → Rejects (8 * n) j b g
      back b g (inl h) = inl h
      back b g (inr h) = inr (h.0, err_coded ascii (said (take (8 * n) b)) h.1 ∙ ap (failed Plain) (sym h.2))
