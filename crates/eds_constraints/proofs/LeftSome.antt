-- What is left on a path by the constraints of a chain, where no rule on constraints is broken: some number, which they all admit.
use Rattle.std.proofs.Common.{◌≡◌, ℕ, zero, suc, ◌+◌, ◌<◌, ◌≤◌, ℤ, ◌≤ℤ◌, ◌⊎◌, inl, inr, Bool, true, false, List, [], ◌∷◌, ◌++◌, length, Option, Some, None, refl, sym, ap, subst, ◌∙◌, arith, append_assoc, append-nil}
use Rattle.std.specs.Prelude.{if◌then◌else◌, int_le, is_some, slice_get}
use Rattle.std.specs.List.{AllByRecursion, flat_map, range_with_len}
use Rattle.std.specs.Int.Signed.{≤ℤ_refl}
use Rattle.std.proofs.lemmas.Grind.{flat_map-append}
use Rattle.std.proofs.lemmas.Int.{ints}
use Rattle.std.proofs.lemmas.Option.{slice_get_within}
use Rattle.std.proofs.lemmas.Slice.Eq.{bytes_eq-Decides}
use Rattle.eds_base.specs.Reading.{same}
use Rattle.eds_base.specs.declared.rule.Rule.TheVariants.{ConstraintTarget, ConstraintValue}
use Rattle.eds_base.specs.declared.spans.Span.{Span}
use Rattle.eds_base.specs.Spans.{IsWithin, bottom}
use Rattle.eds_types.specs.declared.row.TypeRow.{TypeRow}
use Rattle.eds_types.specs.Rows.{Table, base_in, base_of, chain_before, chain_within, chain, numbers}
use Rattle.eds_types.specs.Rules.{KeepsRules}
use Rattle.eds_types.proofs.AllOf.{All-both, All-weaker}
use Rattle.eds_types.proofs.ChainLaws.{front_same, chain_step}
use Rattle.eds_types.proofs.RuleFacts.{table_of}
use Rattle.eds_constraints.specs.declared.asked.Aim.{Aim}
use Rattle.eds_domains.specs.declared.range.Range.{Range}
use Rattle.eds_constraints.specs.Breaks.{Lists, Posed, broken, aim_at, admitted, posed_of, target_at, value_at, some_of, left_by, left_behind, left_on, is_emptied, empty_by, empty_at, empties_after, posed_above, empties_of, breaks_target, breaks_value, breaks_empty}
use Rattle.eds_domains.specs.Domains.{interval, raised, lowered, narrowed_span, narrowed, has_none}
use Rattle.eds_constraints.specs.Sets.{all_numbers, between, met}
use Rattle.eds_constraints.proofs.LeftFacts.{after_last}
use Rattle.eds_constraints.proofs.SetFacts.{met_within, all_rise}

-- ---- a set with an interval has a number

abbrev IsInOrder : Span → Type 0
IsInOrder s = s.low ≤ℤ s.high

interval_ordered : (low high : ℤ) → AllByRecursion IsInOrder (interval low high)
interval_ordered low high = go (int_le low high) refl
  where
    in_order : int_le low high ≡ true → low ≤ℤ high
    in_order e = grind (arith, ints)

    go : (b : Bool) → int_le low high ≡ b → AllByRecursion IsInOrder (interval low high)
    go true e = rw e (in_order e, tt)
    go false e = rw e tt

narrowed_ordered : (range : Range) (spans : List Span) → AllByRecursion IsInOrder (narrowed range spans)
narrowed_ordered range [] = tt
narrowed_ordered range (s ∷ spans) = All-both IsInOrder (narrowed_span range s) (narrowed range spans) (interval_ordered (raised range.low s.low) (lowered range.high s.high)) (narrowed_ordered range spans)

met_ordered : (xs ys : List Span) → AllByRecursion IsInOrder (met xs ys)
met_ordered [] ys = tt
met_ordered (s ∷ xs) ys = All-both IsInOrder (narrowed (between s) ys) (met xs ys) (narrowed_ordered (between s) ys) (met_ordered xs ys)

some_number : (s : List Span) → AllByRecursion IsInOrder s → has_none s ≡ false → (some_of s ≡ Some s) × ((n : ℤ) × IsWithin s n)
some_number [] h e = absurd cc
some_number (x ∷ s) h e = (refl, (x.low, inl (≤ℤ_refl x.low, h.0)))

-- ---- what some constraints leave

-- a constraint admits a number
abbrev pub AdmitsIt : Table → ℤ → Posed → Type 0
AdmitsIt t n c = (set : List Span) × (admitted t c ≡ Some set) × IsWithin set n

-- a constraint admits a number where it is on the path
abbrev pub AdmitsOn : Table → List ℕ → ℤ → Posed → Type 0
AdmitsOn t q n c = c.asked.path ≡ q → AdmitsIt t n c

-- some numbers are left on the path, and all the constraints on it admit them
pub record Leaves (t : Table) (q : List ℕ) (cs : List Posed) : Type 0 where
  pub left : List Span
  pub is : left_on t q cs ≡ Some left
  pub some : (n : ℤ) × IsWithin left n
  pub all : (n : ℤ) → IsWithin left n → AllByRecursion (AdmitsOn t q n) cs

-- a constraint breaks no rule by itself
abbrev pub IsAdmitting : Table → Posed → Type 0
IsAdmitting t c = (set : List Span) × (admitted t c ≡ Some set)

no_break : (b : Bool) (asked : _) → empty_by b asked ≡ [] → b ≡ false
no_break true asked e = absurd cc
no_break false asked e = refl

both_none : {A : Type 0} (xs ys : List A) → xs ++ ys ≡ [] → (xs ≡ []) × (ys ≡ [])
both_none [] ys e = (refl, e)
both_none (x ∷ xs) ys e = absurd cc

module _ (t : Table) where
  none_leaves : (q : List ℕ) → Leaves t q []
  none_leaves q = record { left = all_numbers; is = refl; some = (bottom, inl (≤ℤ_refl bottom, all_rise.1)); all = λ n w. tt }

  one_more : (q : List ℕ) (cs : List Posed) (c : Posed) → Leaves t q cs → IsAdmitting t c → is_emptied (left_on t c.asked.path cs) (admitted t c) ≡ false → Leaves t q (cs ++ c ∷ [])
  one_more q cs c l a e = go (same c.asked.path q) refl
    where
      step : left_on t q (cs ++ c ∷ []) ≡ left_behind t q (Some l.left) c
      step = after_last t q (Some all_numbers) cs c ∙ ap (λ x. left_behind t q x c) l.is

      go : (b : Bool) → same c.asked.path q ≡ b → Leaves t q (cs ++ c ∷ [])
      go true f =
          let one : c.asked.path ≡ q = (bytes_eq-Decides c.asked.path q).0 f in
          let full : has_none (met l.left a.0) ≡ false = sym (ap (λ p. is_emptied (left_on t p cs) (admitted t c)) one ∙ ap (λ x. is_emptied x (admitted t c)) l.is ∙ ap (is_emptied (Some l.left)) a.1) ∙ e in
          let some = some_number (met l.left a.0) (met_ordered l.left a.0) full in
          record {
            left = met l.left a.0;
            is = step ∙ ap (λ b. if b then left_by (Some l.left) (admitted t c) else Some l.left) f ∙ ap (left_by (Some l.left)) a.1 ∙ some.0;
            some = some.1;
            all = λ n w. let both = (met_within l.left a.0 n).0 w in All-both (AdmitsOn t q n) cs (c ∷ []) (l.all n both.0) ((λ _. (a.0, a.1, both.1)), tt);
          }
      go false f = record {
        left = l.left;
        is = step ∙ ap (λ b. if b then left_by (Some l.left) (admitted t c) else Some l.left) f;
        some = l.some;
        all = λ n w. All-both (AdmitsOn t q n) cs (c ∷ []) (l.all n w) ((λ g. absurd (apart g)), tt);
      }
        where
          apart : c.asked.path ≡ q → ⊥
          apart g = let h : true ≡ false = sym ((bytes_eq-Decides c.asked.path q).1 g) ∙ f in cc

  some_more : (cs ds : List Posed) → ((q : List ℕ) → Leaves t q cs) → AllByRecursion (IsAdmitting t) ds → empties_after t cs ds ≡ [] → (q : List ℕ) → Leaves t q (cs ++ ds)
  some_more cs [] l a e q = subst (Leaves t q) (sym (append-nil cs)) (l q)
  some_more cs (d ∷ ds) l a e q =
      let none = both_none (empty_at t cs d) (empties_after t (cs ++ d ∷ []) ds) e in
      let full = no_break (is_emptied (left_on t d.asked.path cs) (admitted t d)) d.asked none.0 in
      subst (Leaves t q) (append_assoc cs (d ∷ []) ds) (some_more (cs ++ d ∷ []) ds (λ p. one_more p cs d (l p) a.0 full) a.1 none.1 q)

-- ---- where nothing breaks a rule

none_of_each : {A X : Type 0} (f : X → List A) (xs : List X) → flat_map f xs ≡ [] → AllByRecursion (λ x. f x ≡ []) xs
none_of_each f [] e = tt
none_of_each f (x ∷ xs) e = let p = both_none (f x) (flat_map f xs) e in (p.0, none_of_each f xs p.1)

of_range : (P : ℕ → Type 0) (a n k : ℕ) → AllByRecursion P (range_with_len a n) → a ≤ k → k < a + n → P k
of_range P a zero k h lo hi = absurd (omega arith)
of_range P a (suc n) k h lo hi = elim (cases a k lo) [ inl e ↦ subst P e h.0 | inr l ↦ of_range P (a + 1) n k h.1 l (omega arith) ]
  where
    cases : (a k : ℕ) → a ≤ k → (a ≡ k) ⊎ (a + 1 ≤ k)
    cases a k lo = grind arith

of_all : (P : ℕ → Type 0) (t : Table) (k : ℕ) → AllByRecursion P (numbers t) → k < length t → P k
of_all P t k h lt = of_range P 0 (length t) k h (omega arith) (omega arith)

-- there is an aim, as `target_at` finds none missing
abbrev pub IsAimed : Table → Posed → Type 0
IsAimed t c = (aim : Aim) × (aim_at t c ≡ Some aim)

aimed : (t : Table) (c : Posed) → target_at t c ≡ [] → IsAimed t c
aimed t c e = go (aim_at t c) refl e
  where
    go : (o : Option Aim) → aim_at t c ≡ o → (if is_some o then [] else broken ConstraintTarget c.asked ∷ []) ≡ [] → IsAimed t c
    go None f h = absurd cc
    go (Some aim) f h = (aim, f)

admitting : (t : Table) (c : Posed) → IsAimed t c → value_at t c ≡ [] → IsAdmitting t c
admitting t c a e = go (admitted t c) refl (sym (ap (λ o. if is_some o then (if is_some (admitted t c) then [] else broken ConstraintValue c.asked ∷ []) else []) a.1) ∙ e)
  where
    go : (o : Option (List Span)) → admitted t c ≡ o → (if is_some (admitted t c) then [] else broken ConstraintValue c.asked ∷ []) ≡ [] → IsAdmitting t c
    go None f h = absurd (let g : broken ConstraintValue c.asked ∷ [] ≡ [] = sym (ap (λ o. if is_some o then [] else broken ConstraintValue c.asked ∷ []) f) ∙ h in cc)
    go (Some set) f h = (set, f)

module _ (t : Table) (lists : Lists) (target : breaks_target t lists ≡ []) where
  pub all_aimed : (k : ℕ) → k < length t → AllByRecursion (IsAimed t) (posed_of t lists k)
  all_aimed k lt = All-weaker (λ c. target_at t c ≡ []) (IsAimed t) (aimed t) (posed_of t lists k) (none_of_each (target_at t) (posed_of t lists k) (of_all (λ id. flat_map (target_at t) (posed_of t lists id) ≡ []) t k (none_of_each (λ id. flat_map (target_at t) (posed_of t lists id)) (numbers t) target) lt))

  module _ (value : breaks_value t lists ≡ []) where
    all_valued : (k : ℕ) → k < length t → AllByRecursion (λ c. value_at t c ≡ []) (posed_of t lists k)
    all_valued k lt = none_of_each (value_at t) (posed_of t lists k) (of_all (λ id. flat_map (value_at t) (posed_of t lists id) ≡ []) t k (none_of_each (λ id. flat_map (value_at t) (posed_of t lists id)) (numbers t) value) lt)

    pub all_admitting : (k : ℕ) → k < length t → AllByRecursion (IsAdmitting t) (posed_of t lists k)
    all_admitting k lt = both (posed_of t lists k) (all_aimed k lt) (all_valued k lt)
      where
        both : (cs : List Posed) → AllByRecursion (IsAimed t) cs → AllByRecursion (λ c. value_at t c ≡ []) cs → AllByRecursion (IsAdmitting t) cs
        both [] a v = tt
        both (c ∷ cs) a v = (admitting t c a.0 v.0, both cs a.1 v.1)

    module _ (empty : breaks_empty t lists ≡ []) (keeps : KeepsRules t) where
      none_empty : (k : ℕ) → k < length t → empties_of t lists k ≡ []
      none_empty k lt = of_all (λ id. empties_of t lists id ≡ []) t k (none_of_each (empties_of t lists) (numbers t) empty) lt

      base_there : (k base : ℕ) → base_of t k ≡ Some base → base < length t
      base_there k base e = go (slice_get t k) refl e
        where
          go : (o : Option TypeRow) → slice_get t k ≡ o → base_in o ≡ Some base → base < length t
          go None f h = absurd cc
          go (Some row) f h = let b = keeps.bases k base row f e in slice_get_within t base b.0 b.1

      above : (k : ℕ) → posed_above t lists k ≡ flat_map (posed_of t lists) (chain_before (chain t) (base_of t k))
      unfolding chain_within
      above k = ap (flat_map (posed_of t lists)) (front_same (chain_before (chain_within 15 t) (base_of t k)) (chain_before (chain t) (base_of t k)) k k (chain_step t (table_of t keeps) k (base_of t k) refl))

      whole : (k : ℕ) → flat_map (posed_of t lists) (chain t k) ≡ posed_above t lists k ++ posed_of t lists k
      whole k =
          ap (flat_map (posed_of t lists)) (chain_step t (table_of t keeps) k (base_of t k) refl)
          ∙ flat_map-append (posed_of t lists) (chain_before (chain t) (base_of t k)) (k ∷ [])
          ∙ ap (λ cs. flat_map (posed_of t lists) (chain_before (chain t) (base_of t k)) ++ cs) (append-nil (posed_of t lists k))
          ∙ ap (λ cs. cs ++ posed_of t lists k) (sym (above k))

      along : (n k : ℕ) → keeps.level k < n → k < length t → (q : List ℕ) → Leaves t q (flat_map (posed_of t lists) (chain t k))
      along zero k low lt q = absurd (omega arith)
      along (suc n) k low lt q = subst (Leaves t q) (sym (whole k)) (some_more t (posed_above t lists k) (posed_of t lists k) (λ p. subst (Leaves t p) (sym (above k)) (before (base_of t k) refl (along n) p)) (all_admitting k lt) (none_empty k lt) q)
        where
          before : (o : Option ℕ) → base_of t k ≡ o → ((b : ℕ) → keeps.level b < n → b < length t → (q : List ℕ) → Leaves t q (flat_map (posed_of t lists) (chain t b))) → (p : List ℕ) → Leaves t p (flat_map (posed_of t lists) (chain_before (chain t) o))
          before None e up p = none_leaves t p
          before (Some base) e up p = let l = keeps.base_level k base e in up base (omega arith) (base_there k base e) p

      -- on each path some number is left that all the constraints of a chain on it admit
      pub chain_leaves : (k : ℕ) → k < length t → (q : List ℕ) → Leaves t q (flat_map (posed_of t lists) (chain t k))
      chain_leaves k lt q = along 16 k (keeps.chains k) lt q
