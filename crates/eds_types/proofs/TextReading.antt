-- Texts that end with their termination octet are read exactly.
use Rattle.eds_base.specs.declared.fault.Fault.{Fault}
use Rattle.std.proofs.Common.{◌≡◌, ℕ, zero, suc, ◌+◌, ◌*◌, ◌/◌, ◌<◌, ◌≤◌, Bool, true, false, cond, List, [], ◌∷◌, ◌++◌, length, map, take, drop, Result, Ok, Err, refl, sym, ap, subst, ◌∙◌, append_assoc, arith, inl, inr, ◌==◌}
use Rattle.std.specs.Prelude.{nat_lt}
use Rattle.std.proofs.lemmas.Bool.{ltb-true, ltb-false, lt-ltb, le-ltb, false_from_ne_true, both_ways, eqb-true, eqb-false, eq-eqb, ne_eqb}
use Rattle.std.proofs.lemmas.List.{length-append, take-append-drop, length-take, length-drop}
use Rattle.std.proofs.Math.Seq.{drop-append_seam}
use Rattle.eds_base.specs.declared.fault.Reason.TheVariants.{Short, Unterminated}
use Rattle.eds_bits.specs.declared.forms.TextForm.{TextForm}
use Rattle.eds_types.specs.declared.row.Kind.TheVariants as kind
use Rattle.eds_bits.specs.Bits.{Bits, octets_of, unsigned_of, first_pieces}
use Rattle.eds_bits.proofs.OctetLaws.{octets_whole}
use Rattle.eds_bits.specs.Lists.{Has}
use Rattle.eds_bits.specs.Scalars.{before_stop}
use Rattle.eds_bits.specs.Style.{any}
use Rattle.eds_types.proofs.ExactReading.{Is, Exact, done, failed}
use Rattle.eds_types.proofs.ScalarReading.{IsTextSize, text_form, fixed_exact, coded_ok, ok_coded, coded_err, err_coded}
use Rattle.eds_types.proofs.ReadingTests.{has_from, has_in}
use Rattle.eds_types.specs.Failing.{fault_here, whole_octets, KindFails}
use Rattle.eds_types.specs.Plain.{Plain, text}
use Rattle.eds_types.specs.Reading.{Read, judged, coded, stopped, unstopped, read_open_text, read_text}
use Rattle.eds_types.specs.Rows.{Table, list_has}
use Rattle.eds_types.specs.Spelling.{KindSpells}

-- the first k octets
unfoldable pub octs : ℕ → Bits → List ℕ
octs zero b = []
octs (suc k) b = unsigned_of (take 8 b) ∷ octs k (drop 8 b)

pub take_within : {A : Type 0} (n : ℕ) (c rest : List A) → n ≤ length c → take n (c ++ rest) ≡ take n c
take_within zero c rest h = refl
take_within (suc n) [] rest h = absurd (omega arith)
take_within (suc n) (x ∷ c) rest h = ap (λ l. x ∷ l) (take_within n c rest (omega arith))

drop_within : {A : Type 0} (n : ℕ) (c rest : List A) → n ≤ length c → drop n (c ++ rest) ≡ drop n c ++ rest
drop_within zero c rest h = refl
drop_within (suc n) [] rest h = absurd (omega arith)
drop_within (suc n) (x ∷ c) rest h = drop_within n c rest (omega arith)

pub pieces_octs : (k : ℕ) (b : Bits) → map unsigned_of (first_pieces k 8 b) ≡ octs k b
unfolding first_pieces octs
pieces_octs zero b = refl
pieces_octs (suc k) b = ap (λ l. unsigned_of (take 8 b) ∷ l) (pieces_octs k (drop 8 b))

pub octets_octs : (k : ℕ) (b : Bits) → length b ≡ 8 * k → octets_of b ≡ octs k b
octets_octs k b h = octets_whole k b h ∙ pieces_octs k b

pub octs_within : (k : ℕ) (c rest : Bits) → 8 * k ≤ length c → octs k (c ++ rest) ≡ octs k c
unfolding octs
octs_within zero c rest h = refl
octs_within (suc k) c rest h =
    ap (λ l. unsigned_of l ∷ octs k (drop 8 (c ++ rest))) (take_within 8 c rest (omega arith))
    ∙ ap (λ l. unsigned_of (take 8 c) ∷ octs k l) (drop_within 8 c rest (omega arith))
    ∙ ap (λ l. unsigned_of (take 8 c) ∷ l) (octs_within k (drop 8 c) rest (omega (arith, length-drop 8 c)))

pub take_octs : (k m : ℕ) (b : Bits) → k ≤ m → take k (octs m b) ≡ octs k b
unfolding octs
take_octs zero m b h = refl
take_octs (suc k) zero b h = absurd (omega arith)
take_octs (suc k) (suc m) b h = ap (λ l. unsigned_of (take 8 b) ∷ l) (take_octs k m (drop 8 b) (omega arith))

pub length_octs : (k : ℕ) (b : Bits) → length (octs k b) ≡ k
unfolding octs
length_octs zero b = refl
length_octs (suc k) b = ap suc (length_octs k (drop 8 b))

pub whole_octs : (b : Bits) → whole_octets b ≡ octs (length b / 8) b
whole_octs b =
    let n : length (take (8 * (length b / 8)) b) ≡ 8 * (length b / 8) = omega (arith, length-take (8 * (length b / 8)) b) in
    octets_octs (length b / 8) (take (8 * (length b / 8)) b) n
    ∙ sym (octs_within (length b / 8) (take (8 * (length b / 8)) b) (drop (8 * (length b / 8)) b) (omega arith))
    ∙ ap (octs (length b / 8)) (take-append-drop (8 * (length b / 8)) b)

pub whole_length : (b : Bits) → length (whole_octets b) ≡ length b / 8
whole_length b = ap length (whole_octs b) ∙ length_octs (length b / 8) b

-- the first octets of the whole are those of a front
front_octets : (b c rest : Bits) (k : ℕ) → b ≡ c ++ rest → length c ≡ 8 * k → take k (whole_octets b) ≡ octets_of c
front_octets b c rest k e h =
    let n = ap length e ∙ length-append c rest in
    ap (take k) (whole_octs b) ∙ take_octs k (length b / 8) b (omega arith) ∙ ap (octs k) e ∙ octs_within k c rest (omega arith) ∙ sym (octets_octs k c h)

-- ---- where the termination octet stands

before_by : ℕ → ℕ → List ℕ → Bool → List ℕ
before_by stop o os b = cond b [] (o ∷ before_stop stop os)

pub record Cut (stop : ℕ) (os : List ℕ) : Type 0 where
  pub tail : List ℕ
  pub is : os ≡ before_stop stop os ++ stop ∷ tail
  pub free : Has (before_stop stop os) stop → ⊥

pub none_has : (stop : ℕ) → Has [] stop → ⊥
none_has stop h = go h.before h.is
  where
    go : (xs : List ℕ) → [] ≡ xs ++ stop ∷ h.after → ⊥
    go [] e = cc
    go (x ∷ xs) e = cc

pub more_has : (x : ℕ) (xs : List ℕ) (stop : ℕ) → (x ≡ stop → ⊥) → Has (x ∷ xs) stop → Has xs stop
more_has x xs stop ne h = go h.before h.is
  where
    go : (ys : List ℕ) → x ∷ xs ≡ ys ++ stop ∷ h.after → Has xs stop
    go [] e = let q : x ≡ stop = cc in absurd (ne q)
    go (y ∷ ys) e = let q : xs ≡ ys ++ stop ∷ h.after = cc in record { before = ys; after = h.after; is = q }

pub later_has : (x : ℕ) (xs : List ℕ) (stop : ℕ) → Has xs stop → Has (x ∷ xs) stop
later_has x xs stop h = record { before = x ∷ h.before; after = h.after; is = ap (λ l. x ∷ l) h.is }

pub before_found : (stop o : ℕ) (os : List ℕ) → o ≡ stop → before_stop stop (o ∷ os) ≡ []
unfolding before_by
before_found stop o os e = ap (before_by stop o os) (eq-eqb o stop e)

pub before_on : (stop o : ℕ) (os : List ℕ) → (o ≡ stop → ⊥) → before_stop stop (o ∷ os) ≡ o ∷ before_stop stop os
unfolding before_by
before_on stop o os ne = ap (before_by stop o os) (ne_eqb o stop ne)

pub cut_at : (stop : ℕ) (os : List ℕ) → Has os stop → Cut stop os
cut_at stop [] h = absurd (none_has stop h)
cut_at stop (o ∷ os) h = go (o == stop) refl (cut_at stop os)
  where
    go : (b : Bool) → (o == stop) ≡ b → (Has os stop → Cut stop os) → Cut stop (o ∷ os)
    go true e ih =
        let q = eqb-true o stop e in
        record { tail = os; is = ap (λ z. z ∷ os) q ∙ ap (λ l. l ++ stop ∷ os) (sym (before_found stop o os q)); free = λ k. none_has stop (subst (λ l. Has l stop) (before_found stop o os q) k) }
    go false e ih =
        let ne = eqb-false o stop e in
        let c = ih (more_has o os stop ne h) in
        record { tail = c.tail; is = ap (λ l. o ∷ l) c.is ∙ ap (λ l. l ++ stop ∷ c.tail) (sym (before_on stop o os ne)); free = λ k. c.free (more_has o (before_stop stop os) stop ne (subst (λ l. Has l stop) (before_on stop o os ne) k)) }

pub before_is : (stop : ℕ) (s tail : List ℕ) → (Has s stop → ⊥) → before_stop stop (s ++ stop ∷ tail) ≡ s
before_is stop [] tail h = before_found stop stop tail refl
before_is stop (x ∷ s) tail h = before_on stop x (s ++ stop ∷ tail) (λ e. h (record { before = []; after = s; is = ap (λ z. z ∷ s) e })) ∙ ap (λ l. x ∷ l) (before_is stop s tail (λ k. h (later_has x s stop k)))

pub take_has : (n stop : ℕ) (s tail : List ℕ) → length s < n → Has (take n (s ++ stop ∷ tail)) stop
take_has zero stop s tail h = absurd (omega arith)
take_has (suc n) stop [] tail h = record { before = []; after = take n tail; is = refl }
take_has (suc n) stop (x ∷ s) tail h = later_has x (take n (s ++ stop ∷ tail)) stop (take_has n stop s tail (omega arith))

pub has_whole : (n stop : ℕ) (os : List ℕ) → Has (take n os) stop → Has os stop
has_whole n stop os h = record { before = h.before; after = h.after ++ drop n os; is = sym (take-append-drop n os) ∙ ap (λ l. l ++ drop n os) h.is ∙ append_assoc h.before (stop ∷ h.after) (drop n os) }

pub before_short : (n stop : ℕ) (os : List ℕ) → Has (take n os) stop → length (before_stop stop os) < n
before_short zero stop os h = absurd (none_has stop h)
before_short (suc n) stop [] h = absurd (none_has stop h)
before_short (suc n) stop (o ∷ os) h = go (o == stop) refl (before_short n stop os)
  where
    go : (b : Bool) → (o == stop) ≡ b → (Has (take n os) stop → length (before_stop stop os) < n) → length (before_stop stop (o ∷ os)) < suc n
    go true e ih = omega (arith, ap length (before_found stop o os (eqb-true o stop e)))
    go false e ih = let ne = eqb-false o stop e in omega (arith, ap length (before_on stop o os ne), ih (more_has o (take n os) stop ne h))

take_short : (n : ℕ) (os : List ℕ) → length os ≤ n → take n os ≡ os
take_short zero [] h = refl
take_short zero (o ∷ os) h = absurd (omega arith)
take_short (suc n) [] h = refl
take_short (suc n) (o ∷ os) h = ap (λ l. o ∷ l) (take_short n os (omega arith))

module _ (t : Table) (read : ℕ → Bits → Read Plain) (SpellsInner : ℕ → Plain → Bits → Type 0) (FailsInner : ℕ → Bits → Fault → Type 0) (id n : ℕ) (ascii : Bool) (stop : ℕ) (form_size : IsTextSize n stop) where
  abbrev F : TextForm
  F = text_form n false ascii stop form_size

  by_octet : Bits → Bool → Read Plain
  by_octet b q = cond q (stopped F b) (unstopped F b)

  by_room : Bool → Read Plain
  by_room q = cond q (Err (fault_here Short)) (Err (fault_here Unterminated))

  abbrev P : Plain → Bits → Type 0
  P = KindSpells any t SpellsInner id (kind.Str F)

  abbrev Q : Bits → Fault → Type 0
  Q = KindFails t SpellsInner FailsInner id (kind.Str F)

  abbrev said : Bits → List ℕ
  said b = before_stop stop (whole_octets b)

  text_there : (b : Bits) → Has (take (n + 1) (whole_octets b)) stop → (r : Result Plain Fault) → coded ascii (said b) ≡ r → Is P Q b (judged (drop (8 * (length (said b) + 1)) b) r)
  text_there b h (Err g) e = let k = coded_err ascii (said b) g e in inr (inr (h, k.0, k.1))
  text_there b h (Ok v) e =
      let k = coded_ok ascii (said b) v e in
      let c = cut_at stop (whole_octets b) (has_whole (n + 1) stop (whole_octets b) h) in
      let m = length (said b) + 1 in
      let lw = ap length c.is ∙ length-append (said b) (stop ∷ c.tail) in
      let enough : 8 * m ≤ length b = omega (arith, whole_length b) in
      let size : length (take (8 * m) b) ≡ 8 * m = omega (arith, length-take (8 * m) b) in
      let w : whole_octets b ≡ (said b ++ stop ∷ []) ++ c.tail = c.is ∙ sym (append_assoc (said b) (stop ∷ []) c.tail) in
      let lm : m ≡ length (said b ++ stop ∷ []) = sym (length-append (said b) (stop ∷ [])) in
      let os : octets_of (take (8 * m) b) ≡ said b ++ stop ∷ [] = sym (front_octets b (take (8 * m) b) (drop (8 * m) b) m (sym (take-append-drop (8 * m) b)) size) ∙ ap (λ j. take j (whole_octets b)) lm ∙ ap (take (length (said b ++ stop ∷ []))) w ∙ take_within (length (said b ++ stop ∷ [])) (said b ++ stop ∷ []) c.tail (omega arith) ∙ take_short (length (said b ++ stop ∷ [])) (said b ++ stop ∷ []) (omega arith) in
      let short = before_short (n + 1) stop (whole_octets b) h in
      record {
        front = take (8 * m) b;
        is = sym (take-append-drop (8 * m) b);
        has = (said b, k.1, record { size = size; octets = os; short = omega arith; coded = k.0; free = c.free });
      }

  open_from : (b : Bits) → Is P Q b (read_open_text F b)
  unfolding by_octet by_room
  open_from b = go (list_has (take (n + 1) (whole_octets b)) stop) refl
    where
      room : (Has (take (n + 1) (whole_octets b)) stop → ⊥) → (q : Bool) → nat_lt (length (whole_octets b)) (n + 1) ≡ q → Is P Q b (by_room q)
      room out true e = let l = ltb-true (length (whole_octets b)) (n + 1) e in inl ((λ h. out (subst (λ z. Has z stop) (sym (take_short (n + 1) (whole_octets b) (omega arith))) h)), l, refl)
      room out false e = inr (inl (ltb-false (length (whole_octets b)) (n + 1) e, out, refl))

      go : (q : Bool) → list_has (take (n + 1) (whole_octets b)) stop ≡ q → Is P Q b (by_octet b q)
      go true e = text_there b (has_from (take (n + 1) (whole_octets b)) stop e) (coded ascii (said b)) refl
      go false e = room (λ h. both_ways (list_has (take (n + 1) (whole_octets b)) stop) e (has_in (take (n + 1) (whole_octets b)) stop h.before h.after h.is)) (nat_lt (length (whole_octets b)) (n + 1)) refl

  found : (b : Bits) → Has (take (n + 1) (whole_octets b)) stop → read_open_text F b ≡ stopped F b
  unfolding by_octet
  found b h = ap (by_octet b) (has_in (take (n + 1) (whole_octets b)) stop h.before h.after h.is)

  missing : (b : Bits) → (Has (take (n + 1) (whole_octets b)) stop → ⊥) → read_open_text F b ≡ unstopped F b
  unfolding by_octet
  missing b h = ap (by_octet b) (false_from_ne_true (list_has (take (n + 1) (whole_octets b)) stop) (λ e. h (has_from (take (n + 1) (whole_octets b)) stop e)))

  open_to : (b : Bits) (r : Read Plain) → Is P Q b r → read_open_text F b ≡ r
  unfolding by_room
  open_to b (Ok v) h =
      let c = h.front in
      let s = (h.has).0 in
      let k = (h.has).2 in
      let m = length s + 1 in
      let tail = drop m (whole_octets b) in
      let top : take m (whole_octets b) ≡ s ++ stop ∷ [] = front_octets b c v.1 m h.is k.size ∙ k.octets in
      let w : whole_octets b ≡ s ++ stop ∷ tail = sym (take-append-drop m (whole_octets b)) ∙ ap (λ l. l ++ tail) top ∙ append_assoc s (stop ∷ []) tail in
      let there = subst (λ l. Has (take (n + 1) l) stop) (sym w) (take_has (n + 1) stop s tail (let sh = k.short in omega arith)) in
      let word : said b ≡ s = ap (before_stop stop) w ∙ before_is stop s tail k.free in
      let rest : drop (8 * m) b ≡ v.1 = ap (λ j. drop j b) (sym k.size) ∙ ap (drop (length c)) h.is ∙ drop-append_seam c v.1 in
      found b there ∙ ap (λ z. judged (drop (8 * (length z + 1)) b) (coded ascii z)) word ∙ ap (judged (drop (8 * m) b)) (ok_coded ascii s k.coded) ∙ ap (λ z. done (text s, z)) rest ∙ ap (λ z. done (z, v.1)) (sym (h.has).1)
  open_to b (Err g) (inl h) =
      let l = h.1 in
      missing b (λ k. h.0 (subst (λ z. Has z stop) (take_short (n + 1) (whole_octets b) (omega arith)) k)) ∙ ap by_room (lt-ltb (length (whole_octets b)) (n + 1) l) ∙ ap (failed (Plain × Bits)) (sym h.2)
  open_to b (Err g) (inr (inl h)) = missing b h.1 ∙ ap by_room (le-ltb (length (whole_octets b)) (n + 1) h.0) ∙ ap (failed (Plain × Bits)) (sym h.2)
  open_to b (Err g) (inr (inr h)) = found b h.0 ∙ ap (judged (drop (8 * (length (said b) + 1)) b)) (err_coded ascii (said b) h.1) ∙ ap (failed (Plain × Bits)) (sym h.2)

  pub open_exact : Exact (read_text F false) P Q
  open_exact = record { from = open_from; to = open_to }

pub text_exact : (t : Table) (read : ℕ → Bits → Read Plain) (SpellsInner : ℕ → Plain → Bits → Type 0) (FailsInner : ℕ → Bits → Fault → Type 0) (id n : ℕ) (fixed ascii : Bool) (stop : ℕ) (size : IsTextSize n stop) → Exact (read_text (text_form n fixed ascii stop size) fixed) (KindSpells any t SpellsInner id (kind.Str (text_form n fixed ascii stop size))) (KindFails t SpellsInner FailsInner id (kind.Str (text_form n fixed ascii stop size)))
text_exact t read SpellsInner FailsInner id n true ascii stop size = fixed_exact t read SpellsInner FailsInner id n ascii stop size
text_exact t read SpellsInner FailsInner id n false ascii stop size = open_exact t read SpellsInner FailsInner id n ascii stop size
