-- What constraints admit of the entries to which they lead.
use Rattle.std.proofs.Common.{◌≡◌, ℕ, ℤ, pos, ◌≤ℤ◌, ◌⊎◌, inl, inr, ◌≤◌, Bool, true, false, List, [], ◌∷◌, ◌++◌, length, Option, Some, None, refl, sym, ap, subst, ◌∙◌, arith, append_assoc}
use Rattle.std.specs.Prelude.{◌&&◌, option_map, is_some, slice_get}
use Rattle.std.specs.Int.Signed.{≤ℤ_refl}
use Rattle.std.proofs.lemmas.Bool.{and_parts}
use Rattle.std.proofs.lemmas.Int.{ints}
use Rattle.eds_base.specs.declared.spans.Span.{Span}
use Rattle.eds_base.specs.Numbers.{whole_number, flag_value}
use Rattle.eds_base.specs.Reading.{◌>>=◌, same, only}
use Rattle.eds_base.specs.Spans.{IsWithin}
use Rattle.eds_bits.specs.Lists.{Has, HasOne}
use Rattle.eds_types.specs.declared.row.Kind.{Kind}
use Rattle.eds_types.specs.declared.row.Kind.TheVariants as kind
use Rattle.eds_types.specs.declared.row.TypeRow.{TypeRow}
use Rattle.eds_types.specs.Domains.{int_domain_by, InDomainOf, InDomainOfRow}
use Rattle.eds_types.specs.Fields.{listed}
use Rattle.eds_types.specs.Reading.{is_within}
use Rattle.eds_types.specs.Rows.{Table, container_by, container_in, is_concrete, chain, list_has}
use Rattle.eds_types.specs.Rules.{IsTypeSet, IsOneNumber, ComparesWith, TargetKeeps}
use Rattle.eds_types.proofs.ChainLaws.{under_is}
use Rattle.eds_types.proofs.LeastBound.{there}
use Rattle.eds_types.proofs.ReadingTests.{has_from, has_in, within_from}
use Rattle.eds_types.proofs.Tables.{IsTable}
use Rattle.eds_constraints.specs.declared.asked.Test.{Test}
use Rattle.eds_constraints.specs.declared.asked.Test.TheVariants.{Value, Within, Under}
use Rattle.eds_domains.specs.declared.range.Range.{Range}
use Rattle.eds_constraints.specs.ConstrainedRows.{is_on_kind}
use Rattle.eds_domains.specs.Domains.{narrowed}
use Rattle.eds_constraints.specs.Paths.{suits, suits_row}
use Rattle.eds_constraints.specs.Sets.{one_number, truth_number, number_within, value_set, type_set, concrete_under, set_by, set_of}
use Rattle.eds_constraints.proofs.ConcreteFacts.{concrete_within}
use Rattle.eds_domains.proofs.DomainFacts.{narrowed_within}

-- ---- one number

just_it : (n m : ℤ) → IsWithin (one_number n) m → m ≡ n
just_it n m w = elim w [ inl a ↦ (let low = a.0 in let high = a.1 in omega (arith, ints)) | inr b ↦ absurd b ]

one_is : (n : ℤ) → IsOneNumber (one_number n)
one_is n = record { number = n; in_it = inl (≤ℤ_refl n, ≤ℤ_refl n); only = just_it n }

same_set : (a b : List Span) → Some a ≡ Some b → a ≡ b
same_set a b e = cc

one_of_set : (o : Option ℤ) (set : List Span) → option_map one_number o ≡ Some set → (n : ℤ) × (o ≡ Some n) × (one_number n ≡ set)
one_of_set None set e = absurd cc
one_of_set (Some n) set e = (n, refl, same_set (one_number n) set e)

truth_of_set : (o : Option Bool) (set : List Span) → option_map (λ b. one_number (truth_number b)) o ≡ Some set → (b : Bool) × (one_number (truth_number b) ≡ set)
truth_of_set None set e = absurd cc
truth_of_set (Some b) set e = (b, same_set (one_number (truth_number b)) set e)

-- ---- values and ranges

value_compares : (k : Kind) (text : List ℕ) (set : List Span) → value_set k text ≡ Some set → ComparesWith k set
value_compares (kind.Int form spans) text set e = tt
value_compares (kind.Enum form listing) text set e = let p = one_of_set (listed listing text) set e in subst IsOneNumber p.2 (one_is p.0)
value_compares (kind.Bool form) text set e = let p = truth_of_set (flag_value text) set e in subst IsOneNumber p.1 (one_is (truth_number p.0))
value_compares (kind.Str form) text set e = absurd cc
value_compares (kind.Bin n free) text set e = absurd cc
value_compares (kind.Arr item n) text set e = absurd cc
value_compares (kind.Con c) text set e = absurd cc

range_compares : (k : Kind) (range : Range) (set : List Span) → option_map (narrowed range) (int_domain_by k) ≡ Some set → ComparesWith k set
range_compares (kind.Int form spans) range set e = tt
range_compares (kind.Enum form listing) range set e = absurd cc
range_compares (kind.Bool form) range set e = absurd cc
range_compares (kind.Str form) range set e = absurd cc
range_compares (kind.Bin n free) range set e = absurd cc
range_compares (kind.Arr item n) range set e = absurd cc
range_compares (kind.Con c) range set e = absurd cc

listed_one : (listing : List (List ℕ × ℤ)) (text : List ℕ) (n : ℤ) → listed listing text ≡ Some n → HasOne (λ e. e.1 ≡ n) listing
listed_one [] text n e = absurd cc
listed_one (x ∷ xs) text n e = go (same x.0 text) refl (listed_one xs text n)
  where
    go : (b : Bool) → same x.0 text ≡ b → (listed xs text ≡ Some n → HasOne (λ e. e.1 ≡ n) xs) → HasOne (λ e. e.1 ≡ n) (x ∷ xs)
    go true h more = let f : Some x.1 ≡ Some n = rw h at e in inl cc
    go false h more = inr (more (rw h at e))

number_in : (spans : List Span) (n m : ℤ) → IsWithin (number_within spans n) m → IsWithin spans m
number_in spans n m w = go (is_within spans n) refl
  where
    go : (b : Bool) → is_within spans n ≡ b → IsWithin spans m
    go true e = let v : IsWithin (one_number n) m = rw e at w in subst (IsWithin spans) (sym (just_it n m v)) (within_from spans n e)
    go false e = absurd (let v : IsWithin [] m = rw e at w in v)

number_of_set : (spans : List Span) (o : Option ℤ) (set : List Span) (m : ℤ) → option_map (number_within spans) o ≡ Some set → IsWithin set m → IsWithin spans m
number_of_set spans None set m e w = absurd cc
number_of_set spans (Some n) set m e w = number_in spans n m (subst (λ s. IsWithin s m) (sym (same_set (number_within spans n) set e)) w)

truth_is : (b : Bool) (m : ℤ) → m ≡ truth_number b → (m ≡ pos 0) ⊎ (m ≡ pos 1)
truth_is true m e = inr e
truth_is false m e = inl e

value_in : (t : Table) (id : ℕ) (k : Kind) (text : List ℕ) (set : List Span) (m : ℤ) → value_set k text ≡ Some set → IsWithin set m → InDomainOf t id k m
value_in t id (kind.Int form spans) text set m e w = number_of_set spans (whole_number text) set m e w
value_in t id (kind.Enum form listing) text set m e w =
    let p = one_of_set (listed listing text) set e in
    let q : m ≡ p.0 = just_it p.0 m (subst (λ s. IsWithin s m) (sym p.2) w) in
    listed_one listing text m (p.1 ∙ ap Some (sym q))
value_in t id (kind.Bool form) text set m e w = let p = truth_of_set (flag_value text) set e in truth_is p.0 m (just_it (truth_number p.0) m (subst (λ s. IsWithin s m) (sym p.1) w))
value_in t id (kind.Str form) text set m e w = absurd cc
value_in t id (kind.Bin n free) text set m e w = absurd cc
value_in t id (kind.Arr item n) text set m e w = absurd cc
value_in t id (kind.Con c) text set m e w = absurd cc

range_in : (t : Table) (id : ℕ) (k : Kind) (range : Range) (set : List Span) (m : ℤ) → option_map (narrowed range) (int_domain_by k) ≡ Some set → IsWithin set m → InDomainOf t id k m
range_in t id (kind.Int form spans) range set m e w = ((narrowed_within range spans m).0 (subst (λ s. IsWithin s m) (sym (same_set (narrowed range spans) set e)) w)).0
range_in t id (kind.Enum form listing) range set m e w = absurd cc
range_in t id (kind.Bool form) range set m e w = absurd cc
range_in t id (kind.Str form) range set m e w = absurd cc
range_in t id (kind.Bin n free) range set m e w = absurd cc
range_in t id (kind.Arr item n) range set m e w = absurd cc
range_in t id (kind.Con c) range set m e w = absurd cc

-- ---- containers

both_true : (a b : Bool) → a ≡ true → b ≡ true → (a && b) ≡ true
both_true true true e f = refl
both_true true false e f = f
both_true false b e f = absurd cc

only_is : (b : Bool) (s set : List Span) → only b s ≡ Some set → (b ≡ true) × (s ≡ set)
only_is true s set e = (refl, same_set s set e)
only_is false s set e = absurd cc

module _ (t : Table) (few : length t ≤ 4096) where
  kept_set : (target kept : ℕ) (set : List Span) → type_set t target kept ≡ Some set → IsTypeSet t target set
  kept_set target kept set e =
      let p = only_is (list_has (chain t kept) target) (concrete_under t kept) set e in
      subst (IsTypeSet t target) p.1 (record {
        kept = kept;
        under = has_from (chain t kept) target p.0;
        ids = λ n w. let q = (concrete_within t kept few n).0 w in let b = and_parts (is_concrete t q.0) (list_has (chain t q.0) kept) q.3 in (q.0, q.1, b.0, has_from (chain t q.0) kept b.1);
        all = λ k c u. (concrete_within t kept few (pos k)).1 (k, refl, there t k c, both_true (is_concrete t k) (list_has (chain t k) kept) c (has_in (chain t k) kept u.before u.after u.is));
      })

  by_test : (target : ℕ) (row : TypeRow) (test : Test) (set : List Span) → slice_get t target ≡ Some row → suits test row.kind ≡ true → set_by t target row.kind test ≡ Some set → TargetKeeps t target (is_on_kind test) set
  by_test target row (Value text) set is s e = (row, is, value_compares row.kind text set e)
  by_test target row (Within range) set is s e = (row, is, range_compares row.kind range set e)
  by_test target row (Under id) set is s e = (ap (λ o. is_some (container_in o)) is ∙ s, kept_set target id.0 set e)

  pub set_speaks : (target : ℕ) (test : Test) (set : List Span) → suits_row test (slice_get t target) ≡ true → set_of t target test ≡ Some set → TargetKeeps t target (is_on_kind test) set
  set_speaks target test set s e = go (slice_get t target) refl s e
    where
      go : (o : Option TypeRow) → slice_get t target ≡ o → suits_row test o ≡ true → (o >>= λ row. set_by t target row.kind test) ≡ Some set → TargetKeeps t target (is_on_kind test) set
      go None is s e = absurd cc
      go (Some row) is s e = by_test target row test set is s e

  module _ (is : IsTable t) where
    under_both : (target kept k : ℕ) → Has (chain t kept) target → Has (chain t k) kept → Has (chain t k) target
    under_both target kept k a b =
        let p = under_is t is kept k b.before b.after b.is in
        record { before = a.before; after = a.after ++ b.after; is = p.1 ∙ ap (λ c. c ++ b.after) a.is ∙ append_assoc a.before (target ∷ a.after) b.after }

    type_in : (target : ℕ) (k : Kind) (kept : ℕ) (set : List Span) (m : ℤ) → is_some (container_by k) ≡ true → type_set t target kept ≡ Some set → IsWithin set m → InDomainOf t target k m
    type_in target (kind.Int form spans) kept set m s e w = absurd cc
    type_in target (kind.Enum form listing) kept set m s e w = absurd cc
    type_in target (kind.Bool form) kept set m s e w = absurd cc
    type_in target (kind.Str form) kept set m s e w = absurd cc
    type_in target (kind.Bin n free) kept set m s e w = absurd cc
    type_in target (kind.Arr item n) kept set m s e w = absurd cc
    type_in target (kind.Con c) kept set m s e w =
        let p = kept_set target kept set e in
        let q = p.ids m w in (q.0, q.1, q.2, under_both target p.kept q.0 p.under q.3)

    in_by_test : (target : ℕ) (k : Kind) (test : Test) (set : List Span) (m : ℤ) → suits test k ≡ true → set_by t target k test ≡ Some set → IsWithin set m → InDomainOf t target k m
    in_by_test target k (Value text) set m s e w = value_in t target k text set m e w
    in_by_test target k (Within range) set m s e w = range_in t target k range set m e w
    in_by_test target k (Under id) set m s e w = type_in target k id.0 set m s e w

    pub set_in_domain : (target : ℕ) (test : Test) (set : List Span) (m : ℤ) → suits_row test (slice_get t target) ≡ true → set_of t target test ≡ Some set → IsWithin set m → InDomainOfRow t target (slice_get t target) m
    set_in_domain target test set m s e w = go (slice_get t target) s e
      where
        go : (o : Option TypeRow) → suits_row test o ≡ true → (o >>= λ row. set_by t target row.kind test) ≡ Some set → InDomainOfRow t target o m
        go None s e = absurd cc
        go (Some row) s e = in_by_test target row.kind test set m s e w
