-- A type of one size has it as its fixed size.
use Rattle.std.proofs.Common.{◌≡◌, ℕ, zero, suc, ◌*◌, ◌≤◌, cond, Option, Some, None, option_map, refl, sym, ap, ◌∙◌, arith}
use Rattle.std.specs.Prelude.{slice_get}
use Rattle.std.proofs.Math.Nat.{mul-le-mul_right}
use Rattle.eds_types.specs.declared.row.TypeRow.{TypeRow}
use Rattle.eds_types.specs.declared.row.Kind.{Kind}
use Rattle.eds_types.specs.declared.row.Kind.TheVariants as kind
use Rattle.eds_types.specs.Packing.{most_bits}
use Rattle.eds_types.specs.Rows.{Table}
use Rattle.eds_types.specs.Rules.{KeepsRules, KindKeeps}
use Rattle.eds_types.specs.Sizes.{kind_size, row_size, size_within}
use Rattle.eds_layout.specs.Fixed.{at_most, fix_kind, fix_family, fix_row, fix_within}
use Rattle.eds_layout.specs.FixedLaws.{SizeIsFixed}
use Rattle.eds_layout.proofs.Agreed.{some_is, none_some}
use Rattle.eds_layout.proofs.ExactSizes.{at_most_from}

module _ (t : Table) (keeps : KeepsRules t) where
  size_fixed : (k id n : ℕ) → size_within k t id ≡ Some n → n ≤ most_bits → fix_within k t id ≡ Some n
  unfolding size_within fix_within
  size_fixed zero id n e le = none_some n e
  size_fixed (suc k) id n e le = go (slice_get t id) refl e (size_fixed k)
    where
      by_kind : (q : Kind) → KindKeeps q → kind_size (size_within k t) q ≡ Some n → ((id n : ℕ) → size_within k t id ≡ Some n → n ≤ most_bits → fix_within k t id ≡ Some n) → fix_kind (fix_within k t) q (fix_family t (fix_within k t) id) ≡ Some n
      by_kind (kind.Int form spans) h e ih = at_most_from (Some form.bits) n e le
      by_kind (kind.Enum form listing) h e ih = at_most_from (Some form.bits) n e le
      by_kind (kind.Bool form) h e ih = at_most_from (Some form.bits) n e le
      by_kind (kind.Str form) h e ih = at_most_from (cond form.fixed (Some (8 * form.length)) None) n e le
      by_kind (kind.Bin m free) h e ih = at_most_from (cond free None (Some m)) n e le
      by_kind (kind.Arr item m) h e ih = by_item (size_within k t item.0) refl e
        where
          by_item : (o : Option ℕ) → size_within k t item.0 ≡ o → option_map (λ i. m * i) o ≡ Some n → at_most (option_map (λ i. m * i) (fix_within k t item.0)) ≡ Some n
          by_item None q f = none_some n f
          by_item (Some i) q f =
              let p : m * i ≡ n = some_is (m * i) n f in
              let some = h.0 in
              let few : 1 * i ≤ m * i = mul-le-mul_right i some in
              let small : i ≤ most_bits = omega arith in
              at_most_from (option_map (λ i. m * i) (fix_within k t item.0)) n (ap (option_map (λ i. m * i)) (ih item.0 i q small) ∙ f) le
      by_kind (kind.Con c) h e ih = none_some n e

      go : (o : Option TypeRow) → slice_get t id ≡ o → row_size (size_within k t) (slice_get t id) ≡ Some n → ((id n : ℕ) → size_within k t id ≡ Some n → n ≤ most_bits → fix_within k t id ≡ Some n) → fix_row t (fix_within k t) id (slice_get t id) ≡ Some n
      go None r e ih = none_some n (sym (ap (row_size (size_within k t)) r) ∙ e)
      go (Some row) r e ih = ap (fix_row t (fix_within k t) id) r ∙ by_kind row.kind (keeps.kinds id row r) (sym (ap (row_size (size_within k t)) r) ∙ e) ih

pub size_is_fixed : SizeIsFixed
size_is_fixed t keeps id n e le = size_fixed t keeps 32 id n e le
