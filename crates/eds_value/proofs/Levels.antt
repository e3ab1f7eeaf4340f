-- Where JSON is nested one deeper.
use Rattle.std.proofs.Common.{◌≡◌, ℕ, zero, suc, ◌-◌, ◌≤◌, List, [], ◌∷◌, length, Option, Some, None, Err, refl, ap, arith}
use Rattle.std.specs.Prelude.{slice_get}
use Rattle.serde_json.specs.Data.{Data}
use Rattle.eds_types.specs.declared.row.TypeRow.{TypeRow}
use Rattle.eds_types.specs.Rows.{Table}
use Rattle.eds_value.specs.ValueOfJson.{value_by, value_in_row, value_within}

pub no_level : (n : ℕ) (t : Table) (id : ℕ) (d : Data) → n ≡ 0 → value_within n t id d ≡ Err []
unfolding value_within
no_level zero t id d h = refl
no_level (suc n) t id d h = absurd cc

past : (rows : List TypeRow) (i : ℕ) → length rows ≤ i → slice_get rows i ≡ None
past [] i h = refl
past (r ∷ rows) zero h = absurd (omega arith)
past (r ∷ rows) (suc i) h = past rows i (omega arith)

pub no_row : (n : ℕ) (t : Table) (id : ℕ) (d : Data) → length t ≤ id → value_within n t id d ≡ Err []
unfolding value_within
no_row zero t id d h = refl
no_row (suc n) t id d h = ap (λ (o : Option TypeRow). value_in_row t (value_within n t) id o d) (past t id h)

pub next_level : (n : ℕ) (t : Table) (id : ℕ) (row : TypeRow) (d : Data) → (n ≡ 0 → ⊥) → slice_get t id ≡ Some row → value_within n t id d ≡ value_by t (value_within (n - 1) t) id row.kind d
unfolding value_within
next_level zero t id row d h e = absurd (h refl)
next_level (suc n) t id row d h e = let k : suc n - 1 ≡ n = omega arith in rw k (ap (λ (o : Option TypeRow). value_in_row t (value_within n t) id o d) e)
