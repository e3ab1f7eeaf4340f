-- One level of nesting.
use Rattle.std.proofs.Common.{◌≡◌, ℕ, zero, suc, ◌-◌, Some, ap, arith, refl}
use Rattle.std.specs.Prelude.{slice_get}
use Rattle.eds_bits.specs.Bits.{Bits}
use Rattle.eds_types.specs.declared.row.TypeRow.{TypeRow}
use Rattle.eds_types.specs.Reading.{read_kind, read_row, read_within}
use Rattle.eds_types.specs.Rows.{Table}

pub next_level : (n : ℕ) (t : Table) (id : ℕ) (row : TypeRow) (b : Bits) → (n ≡ 0 → ⊥) → slice_get t id ≡ Some row → read_within n t id b ≡ read_kind t (read_within (n - 1) t) id row.kind b
unfolding read_within
next_level zero t id row b h e = absurd (h refl)
next_level (suc n) t id row b h e = let k : suc n - 1 ≡ n = omega arith in rw k (ap (λ o. read_row t (read_within n t) id o b) e)
