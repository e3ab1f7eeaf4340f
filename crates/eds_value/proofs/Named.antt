-- Containers found by their name, row by row.
use Rattle.std.proofs.Common.{◌≡◌, ℕ, ◌+◌, List, drop, Bool, true, false, ◌&&◌, if◌then◌else◌, Option, Some, sym, ◌∙◌, ap}
use Rattle.std.specs.Prelude.{slice_get}
use Rattle.eds_base.specs.Reading.{same}
use Rattle.eds_types.specs.declared.row.TypeRow.{TypeRow}
use Rattle.eds_types.specs.Rows.{Table}
use Rattle.eds_value.specs.ValueOfJson.{is_container, named_from}
use Rattle.eds_value.proofs.Steps.{drop-read}

step : (word : List ℕ) (t : Table) (i : ℕ) (row : TypeRow) (b : Bool) → slice_get t i ≡ Some row → b ≡ (is_container row && same row.name word)
    → named_from word (drop i t) i ≡ (if b then Some i else named_from word (drop (i + 1) t) (i + 1))
step word t i row b is test = ap (λ (rows : List TypeRow). named_from word rows i) (drop-read t i row is) ∙ ap (λ (b : Bool). if b then Some i else named_from word (drop (i + 1) t) (i + 1)) (sym test)

-- the row has the name
pub named-here : (word : List ℕ) (t : Table) (i : ℕ) (row : TypeRow) (b : Bool) (whole : Option ℕ) → slice_get t i ≡ Some row → b ≡ (is_container row && same row.name word) → b ≡ true → named_from word (drop i t) i ≡ whole → Some i ≡ whole
named-here word t i row b whole is test holds so_far = sym (step word t i row b is test ∙ ap (λ (b : Bool). if b then Some i else named_from word (drop (i + 1) t) (i + 1)) holds) ∙ so_far

-- it hasn't
pub named-past : (word : List ℕ) (t : Table) (i : ℕ) (row : TypeRow) (b : Bool) (whole : Option ℕ) → slice_get t i ≡ Some row → b ≡ (is_container row && same row.name word) → b ≡ false → named_from word (drop i t) i ≡ whole → named_from word (drop (i + 1) t) (i + 1) ≡ whole
named-past word t i row b whole is test fails so_far = sym (step word t i row b is test ∙ ap (λ (b : Bool). if b then Some i else named_from word (drop (i + 1) t) (i + 1)) fails) ∙ so_far
