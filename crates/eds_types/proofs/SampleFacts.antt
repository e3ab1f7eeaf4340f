-- That a table of known rows keeps the rules, row by row.
use Rattle.std.proofs.Common.{◌≡◌, ℕ, ◌≤◌, Bool, true, false, cond, List, ◌++◌, map, length, filter, Option, Some, None, refl, subst, arith, lit≤}
use Rattle.std.specs.List.{filter_map}
use Rattle.std.specs.Cmp.Lexicographic.{bytes_decides}
use Rattle.eds_base.specs.Reading.{same as same_text}
use Rattle.eds_types.specs.declared.row.TypeRow.{TypeRow}
use Rattle.eds_types.specs.Rows.{Table, container_in, entries_in, trailers_in, Placed, placed_from, sequence, derived}
use Rattle.eds_types.specs.Rules.{IsContainer, AreDistinct, name_of, is_length, SequenceKeeps}
use Rattle.eds_types.proofs.ByRows.{distinct, distinct_is, derived-le}

infixr 20 ◌⊗◌
pub ◌⊗◌ : {A B : Type 0} → A → B → A × B
a ⊗ b = (a, b)

pub text_same : (xs : List ℕ) → same_text xs xs ≡ true
text_same xs = (bytes_decides xs xs).1 refl

abbrev pub own_in : ℕ → Option TypeRow → List Placed
own_in y row = placed_from y 0 (entries_in (container_in row)) ++ placed_from y (length (entries_in (container_in row))) (trailers_in (container_in row))

pub at_some : (P : ℕ → Type 0) (x : ℕ) → P x → (y : ℕ) → Some x ≡ Some y → P y
at_some P x h y e = let q : x ≡ y = cc in subst P q h

pub no_base : (P : ℕ → Type 0) (y : ℕ) → None ≡ Some y → P y
no_base P y e = absurd cc

pub one_or_none : (b : Bool) → cond b 1 0 ≤ 1
one_or_none true = lit≤ tt
one_or_none false = lit≤ tt

-- rows whose names are told apart
pub names_keep : (t : Table) → distinct same_text (map (λ (row : TypeRow). row.name) t) ≡ true → AreDistinct (map (λ (row : TypeRow). row.name) t)
names_keep t e = distinct_is same_text text_same (map (λ (row : TypeRow). row.name) t) e

-- few rows have small families
pub family_keeps : (t : Table) → length t ≤ 512 → (id : ℕ) → IsContainer t id → length (derived t id) ≤ 512
family_keeps t n id c = let h = derived-le t id in omega arith

pub sequence_keeps : (t : Table) (k : ℕ) → distinct same_text (filter_map (λ (p : Placed). name_of p.part) (sequence t k)) ≡ true → length (filter (λ (p : Placed). is_length p.part) (sequence t k)) ≤ 1 → SequenceKeeps (sequence t k)
sequence_keeps t k e h = record { names = distinct_is same_text text_same (filter_map (λ (p : Placed). name_of p.part) (sequence t k)) e; one_length = h }
