-- Each kind of part is read exactly.
use Rattle.eds_base.specs.declared.fault.Fault.{Fault}
use Rattle.std.proofs.Common.{◌≡◌, ℕ, ◌+◌, ◌-◌, ◌*◌, ◌<◌, ◌≤◌, ℤ, pos, negsuc, arith, unwrap_or, Bool, true, false, cond, length, Option, Some, None, Result, Ok, Err, refl, sym, ap, subst, ◌∙◌, ◌⊎◌, inl, inr}
use Rattle.std.specs.Prelude.{slice_get, nat_lt, IfSome}
use Rattle.std.proofs.lemmas.Bool.{false_from_ne_true, ltb-false, le-ltb}
use Rattle.eds_base.specs.declared.fault.Reason.{Reason}
use Rattle.eds_base.specs.declared.fault.Reason.TheVariants.{Short, FixedDiffers, CheckDiffers}
use Rattle.eds_types.specs.declared.row.Part.{Part}
use Rattle.eds_types.specs.declared.row.Part.TheVariants as part
use Rattle.eds_bits.specs.Bits.{Bits, octets_of, octets_for}
use Rattle.eds_bits.specs.Scalars.{check_of}
use Rattle.eds_bits.specs.Style.{any}
use Rattle.eds_types.proofs.ExactReading.{Is, Exact, exact_as, inside_exact, done, failed, err_is, IsBits, IsShort, bits_exact, Judged, JudgeFails, judge_exact, Moved, advance_exact, Items, items_exact}
use Rattle.eds_types.proofs.SameValues.{same-is, is-same, list_of-plains_of, plains_of-list_of}
use Rattle.eds_types.specs.Failing.{fault_behind, fault_here, part_step, ItemFails, PartFails, Differs, TailFits, TailFails, EntryPasses, EntryFailsBy, EntryFails}
use Rattle.eds_types.specs.Fields.{type_by}
use Rattle.eds_types.specs.Plain.{Plain, num, label, truth, text, bits, items, fields, list_of, plains_of, plain}
use Rattle.eds_types.specs.Reading.{Read, same, expected, number_in, after_number, read_bits, read_items, read_part, octets_left, tail_octets, tail_room, read_tail, read_entry_by, read_entry, judge, advance}
use Rattle.eds_types.specs.Rows.{Table, Placed}
use Rattle.eds_types.specs.Spelling.{BinHas, Progress, with_bits, with_value, count_at, ItemsSpell, PartPasses}
use Rattle.eds_types.specs.Sizes.{tail_of, trailers_size}
use Rattle.eds_types.proofs.Tables.{LengthIsInt, IsIntRow}

by_same : Plain → Reason → Plain → Bool → Result (Unit {0}) Fault
by_same v r w b = cond b (Ok tt) (Err (fault_here r))

expected_ok : (v : Plain) (r : Reason) (w : Plain) → expected v r w ≡ Ok tt → w ≡ v
unfolding by_same
expected_ok v r w e = go (same w v) refl e
  where
    go : (b : Bool) → same w v ≡ b → by_same v r w b ≡ Ok tt → w ≡ v
    go true h e = same-is w v h
    go false h e = absurd cc

ok_expected : (v : Plain) (r : Reason) → expected v r v ≡ Ok tt
unfolding by_same
ok_expected v r = ap (by_same v r v) (is-same v)

expected_err : (v : Plain) (r : Reason) (w : Plain) (g : Fault) → expected v r w ≡ Err g → (w ≡ v → ⊥) × (g ≡ fault_here r)
unfolding by_same
expected_err v r w g e = go (same w v) refl e
  where
    ok_err : (u : Unit {0}) → done u ≡ failed (Unit {0}) g → ⊥
    ok_err u e = cc

    go : (b : Bool) → same w v ≡ b → by_same v r w b ≡ Err g → (w ≡ v → ⊥) × (g ≡ fault_here r)
    go true h e = absurd (ok_err tt e)
    go false h e = ((λ q. let k : true ≡ false = sym (is-same v) ∙ ap (λ z. same z v) (sym q) ∙ h in absurd cc), sym (err_is (Unit {0}) (fault_here r) g e))

err_expected : (v : Plain) (r : Reason) (w : Plain) → (w ≡ v → ⊥) → expected v r w ≡ Err (fault_here r)
unfolding by_same
err_expected v r w n = ap (by_same v r w) (false_from_ne_true (same w v) (λ e. n (same-is w v e)))

number_ok : (v : Plain) (r : ℤ) → number_in v ≡ Ok r → v ≡ num r
number_ok (num n) r e = let p : n ≡ r = cc in ap num p
number_ok (label l) r e = absurd cc
number_ok (truth b) r e = absurd cc
number_ok (text s) r e = absurd cc
number_ok (bits n o) r e = absurd cc
number_ok (items vs) r e = absurd cc
number_ok (fields k vs) r e = absurd cc

module _ (t : Table) (read : ℕ → Bits → Read Plain) (SpellsInner : ℕ → Plain → Bits → Type 0) (FailsInner : ℕ → Bits → Fault → Type 0) where
  abbrev pub OnlyNumbers : ℕ → Type 0
  OnlyNumbers x = (v : Plain) (c : Bits) → SpellsInner x v c → (r : ℤ) × (v ≡ num r)

  -- the type is an open binary of at most n bits
  pub record IsOpen (n x : ℕ) : Type 0 where
    pub to : (v : Plain) (c : Bits) → SpellsInner x v c → BinHas n true (length c) × (v ≡ bits (length c) (octets_of c))
    pub from : (v : Plain) (c : Bits) → BinHas n true (length c) → v ≡ bits (length c) (octets_of c) → SpellsInner x v c

  -- the type of the part is read exactly, or is an open binary
  pub record PartGood (p : Part) : Type 0 where
    pub type : tail_of t p ≡ None → (x : ℕ) → type_by (Some p) ≡ Some x → Exact (read x) (SpellsInner x) (FailsInner x)
    pub tail : (n x : ℕ) → tail_of t p ≡ Some n → type_by (Some p) ≡ Some x → IsOpen n x
    pub numbers : LengthIsInt t p → (x : ℕ) → type_by (Some p) ≡ Some x → IsIntRow (slice_get t x) → OnlyNumbers x
    pub length_is_int : LengthIsInt t p

  abbrev PartExact : Progress → Placed → Part → Type 0
  PartExact s p q = Exact (read_part t read s p q) (PartPasses any t SpellsInner s p q) (PartFails t SpellsInner FailsInner s q)

  -- a value that is to stand there
  expect_exact : (s : Progress) (x : ℕ) (v : Plain) (r : Reason) → Exact (read x) (SpellsInner x) (FailsInner x)
      → Exact (λ b. advance (λ u c. with_bits s c) b (judge (expected v r) (read x b))) (λ u b. SpellsInner x v b × (u ≡ with_bits s b)) (λ b g. FailsInner x b g ⊎ (Differs t SpellsInner FailsInner x v b × (g ≡ fault_here r)))
  expect_exact s x v r e = exact_as _ (Moved (Judged (SpellsInner x) (expected v r)) (λ u c. with_bits s c)) _ (JudgeFails (SpellsInner x) (expected v r) (FailsInner x)) _
      (advance_exact (λ b. judge (expected v r) (read x b)) (Judged (SpellsInner x) (expected v r)) (JudgeFails (SpellsInner x) (expected v r) (FailsInner x)) (λ u c. with_bits s c) (judge_exact (read x) (SpellsInner x) (FailsInner x) (expected v r) e))
      (λ u c h. (subst (λ w. SpellsInner x w c) (expected_ok v r h.read.x h.read.is) h.read.read, h.is))
      (λ u c h. record { x = tt; read = record { x = v; read = h.0; is = ok_expected v r }; is = h.1 })
      to_differs from_differs
    where
      to_differs : (b : Bits) (g : Fault) → JudgeFails (SpellsInner x) (expected v r) (FailsInner x) b g → FailsInner x b g ⊎ (Differs t SpellsInner FailsInner x v b × (g ≡ fault_here r))
      to_differs b g (inl h) = inl h
      to_differs b g (inr h) = let d = expected_err v r h.x g h.is in inr (record { other = h.x; c = h.c; rest = h.rest; bits = h.bits; spelled = h.read; differs = d.0 }, d.1)

      from_differs : (b : Bits) (g : Fault) → (FailsInner x b g ⊎ (Differs t SpellsInner FailsInner x v b × (g ≡ fault_here r))) → JudgeFails (SpellsInner x) (expected v r) (FailsInner x) b g
      from_differs b g (inl h) = inl h
      from_differs b g (inr h) = inr (record { x = h.0.other; c = h.0.c; rest = h.0.rest; bits = h.0.bits; read = h.0.spelled; is = err_expected v r h.0.other h.0.differs ∙ ap (failed (Unit {0})) (sym h.1) })

  pub part_exact : (s : Progress) (p : Placed) (q : Part) → PartGood q → tail_of t q ≡ None → PartExact s p q
  part_exact s p (part.Plain name id) g c = exact_as _ (Moved (SpellsInner id.0) (with_value s p)) _ (FailsInner id.0) _
      (advance_exact (read id.0) (SpellsInner id.0) (FailsInner id.0) (with_value s p) (g.type c id.0 refl))
      (λ u c h. (h.x, h.read, h.is)) (λ u c h. record { x = h.0; read = h.1; is = h.2 }) (λ b k h. h) (λ b k h. h)
  part_exact s p (part.Fixed name id v) g c = expect_exact s id.0 (plain v) FixedDiffers (g.type c id.0 refl)
  part_exact s p (part.Pad n) g c = exact_as _ (Moved (IsBits n) (λ u c. with_bits s c)) _ (IsShort n) _
      (advance_exact (read_bits n) (IsBits n) (IsShort n) (λ u c. with_bits s c) (bits_exact n))
      (λ u c h. (h.read.1, tt, h.is)) (λ u c h. record { x = c; read = (refl, h.0); is = h.2 }) (λ b k h. h) (λ b k h. h)
  part_exact s p (part.List name id y i) g c = exact_as _ (Moved (Items (SpellsInner id.0) (count_at s y.0 i)) (λ vs c. with_value s p (items (plains_of vs)) c)) _ (ItemFails (SpellsInner id.0) (FailsInner id.0) (count_at s y.0 i)) _
      (advance_exact (read_items (read id.0) (count_at s y.0 i) 0) (Items (SpellsInner id.0) (count_at s y.0 i)) (ItemFails (SpellsInner id.0) (FailsInner id.0) (count_at s y.0 i)) (λ vs c. with_value s p (items (plains_of vs)) c) (items_exact (read id.0) (SpellsInner id.0) (FailsInner id.0) (g.type c id.0 refl) (count_at s y.0 i)))
      (λ u c h. (plains_of h.x, ap length (list_of-plains_of h.x) ∙ h.read.count, subst (λ vs. ItemsSpell (SpellsInner id.0) vs c) (sym (list_of-plains_of h.x)) h.read.spelled, h.is))
      (λ u c h. record { x = list_of h.0; read = record { count = h.1; spelled = h.2 }; is = h.3 ∙ ap (λ vs. with_value s p (items vs) c) (sym (plains_of-list_of h.0)) })
      (λ b k h. h) (λ b k h. h)
  part_exact s p (part.Length name id c0 c1) g c = exact_as _ (Moved (Judged (SpellsInner id.0) number_in) (after_number s c0 c1)) _ (JudgeFails (SpellsInner id.0) number_in (FailsInner id.0)) _
      (advance_exact (λ b. judge number_in (read id.0 b)) (Judged (SpellsInner id.0) number_in) (JudgeFails (SpellsInner id.0) number_in (FailsInner id.0)) (after_number s c0 c1) (judge_exact (read id.0) (SpellsInner id.0) (FailsInner id.0) number_in (g.type c id.0 refl)))
      (λ u c h. (h.x, subst (λ w. SpellsInner id.0 w c) (number_ok h.read.x h.x h.read.is) h.read.read, h.is))
      (λ u c h. record { x = h.0; read = record { x = num h.0; read = h.1; is = refl }; is = h.2 })
      only_fails (λ b k h. inl h)
    where
      ok_err : (r : ℤ) (k : Fault) → done r ≡ failed ℤ k → ⊥
      ok_err r k e = cc

      only_fails : (b : Bits) (k : Fault) → JudgeFails (SpellsInner id.0) number_in (FailsInner id.0) b k → FailsInner id.0 b k
      only_fails b k (inl h) = h
      only_fails b k (inr h) = let n = g.numbers g.length_is_int id.0 refl g.length_is_int h.x h.c h.read in absurd (ok_err n.0 k (sym (ap number_in n.1) ∙ h.is))
  part_exact s p (part.Check name id k) g c = expect_exact s id.0 (num (pos (check_of k s.before))) CheckDiffers (g.type c id.0 refl)

  -- ---- tails

  left_some : (c : ℤ) (q j : ℕ) → octets_left c q ≡ Some j → c ≡ pos (j + q)
  left_some (pos c) q j e = go (nat_lt c q) refl e
    where
      go : (w : Bool) → nat_lt c q ≡ w → cond w None (Some (c - q)) ≡ Some j → pos c ≡ pos (j + q)
      go true h e = absurd cc
      go false h e = let m : c - q ≡ j = cc in ap pos (omega (arith, ltb-false c q h))
  left_some (negsuc c) q j e = absurd cc

  some_left : (c : ℤ) (q j : ℕ) → c ≡ pos (j + q) → octets_left c q ≡ Some j
  some_left c q j e = ap (λ z. octets_left z q) e ∙ ap (λ w. cond w None (Some (j + q - q))) (le-ltb (j + q) q (omega arith)) ∙ ap Some (omega arith)

  abbrev others : Progress → Placed → ℕ
  others s p = octets_for (length s.before + trailers_size t p.container)

  abbrev Told : Progress → ℤ
  Told s = unwrap_or s.octets (pos 0)

  room_by : ℕ → ℕ → Bool → Option ℕ
  room_by n j w = cond w None (Some j)

  -- the room of a tail is the number of octets that fits, if it has so many bits at most
  room_is : (n : ℕ) (s : Progress) (p : Placed) (j : ℕ) → tail_room t n s p ≡ Some j → (8 * j ≤ n) × TailFits t s p j
  room_is n s p j e = go (octets_left (Told s) (others s p)) refl e
    where
      go : (o : Option ℕ) → octets_left (Told s) (others s p) ≡ o → tail_octets n o ≡ Some j → (8 * j ≤ n) × TailFits t s p j
      go None h e = absurd cc
      go (Some i) h e = by (nat_lt n (8 * i)) refl e
        where
          by : (w : Bool) → nat_lt n (8 * i) ≡ w → cond w None (Some i) ≡ Some j → (8 * j ≤ n) × TailFits t s p j
          by true k e = absurd cc
          by false k e = let m : i ≡ j = cc in (omega (arith, m, ltb-false n (8 * i) k), left_some (Told s) (others s p) j (h ∙ ap Some m))

  is_room : (n : ℕ) (s : Progress) (p : Placed) (j : ℕ) → 8 * j ≤ n → TailFits t s p j → tail_room t n s p ≡ Some j
  is_room n s p j l e = ap (tail_octets n) (some_left (Told s) (others s p) j e) ∙ ap (λ w. cond w None (Some j)) (le-ltb n (8 * j) l)

  tail_exact : (n : ℕ) (s : Progress) (p : Placed) (x : ℕ) → IsOpen n x
      → Exact (λ b. read_tail t (tail_room t n s p) s p b) (λ u b. ((v : Plain) × SpellsInner x v b × (u ≡ with_value s p v b)) × ((j : ℕ) × (length b ≡ 8 * j) × TailFits t s p j)) (TailFails t SpellsInner FailsInner n s p)
  tail_exact n s p x o = go (tail_room t n s p) refl
    where
      P : Progress → Bits → Type 0
      P u b = ((v : Plain) × SpellsInner x v b × (u ≡ with_value s p v b)) × ((j : ℕ) × (length b ≡ 8 * j) × TailFits t s p j)

      F : Bits → Fault → Type 0
      F b g = TailFails t SpellsInner FailsInner n s p b g

      some_is : (i j : ℕ) → Some i ≡ Some j → i ≡ j
      some_is i j e = cc

      go : (r : Option ℕ) → tail_room t n s p ≡ r → Exact (λ b. read_tail t r s p b) P F
      go None h = record { from = λ b. inl (none, refl); to = back }
        where
          none : (j : ℕ) → 8 * j ≤ n → TailFits t s p j → ⊥
          none j l e = let q = sym h ∙ is_room n s p j l e in absurd (none_some j q)
            where
              none_some : (j : ℕ) → ◌≡◌ {A = Option ℕ} None (Some j) → ⊥
              none_some j e = cc

          back : (b : Bits) (r : Read Progress) → Is P F b r → read_tail t None s p b ≡ r
          back b (Ok u) i = let has = (i.has).0 in let z = (o.to has.0 i.front has.1).0 in absurd (none ((i.has).1).0 (omega (arith, ((i.has).1).1, z.0)) ((i.has).1).2)
          back b (Err g) (inl i) = ap (failed (Progress × Bits)) (sym i.1)
          back b (Err g) (inr i) = absurd (none i.0 i.1 i.2)
      go (Some j) h = exact_as _ (Moved (IsBits (8 * j)) (λ c d. with_value s p (bits (8 * j) (octets_of d)) d)) P (λ b g. (w : Fault) × IsShort (8 * j) b w × (g ≡ fault_behind (part_step p) w)) F
          (inside_exact (part_step p) _ _ _ (advance_exact (read_bits (8 * j)) (IsBits (8 * j)) (IsShort (8 * j)) (λ c d. with_value s p (bits (8 * j) (octets_of d)) d) (bits_exact (8 * j))))
          there back (λ b g k. inr (j, fit.0, fit.1, (k.1).0, k.2 ∙ ap (fault_behind (part_step p)) (k.1).1)) fails
        where
          fit : (8 * j ≤ n) × TailFits t s p j
          fit = room_is n s p j h

          one : (i : ℕ) → 8 * i ≤ n → TailFits t s p i → j ≡ i
          one i l e = some_is j i (sym h ∙ is_room n s p i l e)

          there : (u : Progress) (c : Bits) → Moved (IsBits (8 * j)) (λ c d. with_value s p (bits (8 * j) (octets_of d)) d) u c → P u c
          there u c k =
              let len : length c ≡ 8 * j = (k.read).1 in
              ((bits (8 * j) (octets_of c), o.from (bits (8 * j) (octets_of c)) c (omega (arith, len, fit.0), (j, len)) (ap (λ m. bits m (octets_of c)) (sym len)), k.is), (j, len, fit.1))

          back : (u : Progress) (c : Bits) → P u c → Moved (IsBits (8 * j)) (λ c d. with_value s p (bits (8 * j) (octets_of d)) d) u c
          back u c k =
              let z = o.to (k.0).0 c (k.0).1 in
              let same : j ≡ (k.1).0 = one (k.1).0 (omega (arith, (k.1).1, (z.0).0)) (k.1).2 in
              let len : length c ≡ 8 * j = (k.1).1 ∙ ap (λ i. 8 * i) (sym same) in
              record { x = c; read = (refl, len); is = (k.0).2 ∙ ap (λ v. with_value s p v c) (z.1 ∙ ap (λ m. bits m (octets_of c)) len) }

          fails : (b : Bits) (g : Fault) → F b g → (w : Fault) × IsShort (8 * j) b w × (g ≡ fault_behind (part_step p) w)
          fails b g (inl k) = absurd (k.0 j fit.0 fit.1)
          fails b g (inr k) = (fault_here Short, (subst (λ i. length b < 8 * i) (sym (one k.0 k.1 k.2)) k.3, refl), k.4)

  tail_part : (n : ℕ) (s : Progress) (p : Placed) (q : Part) → PartGood q → tail_of t q ≡ Some n
      → Exact (λ b. read_tail t (tail_room t n s p) s p b) (λ u b. PartPasses any t SpellsInner s p q u b × ((j : ℕ) × (length b ≡ 8 * j) × TailFits t s p j)) (TailFails t SpellsInner FailsInner n s p)
  tail_part n s p (part.Plain name id) g e = tail_exact n s p id.0 (g.tail n id.0 e refl)
  tail_part n s p (part.Fixed name id v) g e = absurd cc
  tail_part n s p (part.Pad m) g e = absurd cc
  tail_part n s p (part.List name id y i) g e = absurd cc
  tail_part n s p (part.Length name id c0 c1) g e = absurd cc
  tail_part n s p (part.Check name id k) g e = absurd cc

  -- an entry is read exactly
  pub entry_exact : (s : Progress) (p : Placed) → PartGood p.part → Exact (λ b. read_entry t read s p b) (EntryPasses t SpellsInner s p) (EntryFails t SpellsInner FailsInner s p)
  entry_exact s p g = go (tail_of t p.part) refl
    where
      go : (o : Option ℕ) → tail_of t p.part ≡ o
          → Exact (λ b. read_entry_by t read o s p b) (λ u b. PartPasses any t SpellsInner s p p.part u b × IfSome o (λ n. (j : ℕ) × (length b ≡ 8 * j) × TailFits t s p j)) (λ b g. EntryFailsBy t SpellsInner FailsInner o s p b g)
      go None e = exact_as _ (PartPasses any t SpellsInner s p p.part) _ _ _ (inside_exact (part_step p) _ _ _ (part_exact s p p.part g e)) (λ u c h. (h, tt)) (λ u c h. h.0) (λ b k h. h) (λ b k h. h)
      go (Some n) e = tail_part n s p p.part g e
