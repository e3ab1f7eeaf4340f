-- The rows of types, each with the constraints that are given for it.
use Rattle.std.proofs.Common.{◌≡◌, ℕ, ◌+◌, List, [], ◌∷◌, ◌++◌, map, length, refl, sym, ap, ◌∙◌, arith, append_assoc, append-nil}
use Rattle.std.specs.List.{range_with_len}
use Rattle.eds_types.specs.declared.row.Constraint.{Constraint}
use Rattle.eds_types.specs.declared.row.TypeRow.{TypeRow}
use Rattle.eds_types.specs.Rows.{Table, numbers}
use Rattle.eds_constraints.specs.Breaks.{Lists}
use Rattle.eds_constraints.specs.ConstrainedRows.{constraints_for, row_with, rows_each, rows_with, constrained}

each_are : (t : Table) (lists : Lists) (n : ℕ) (rows : List TypeRow) → rows_each (map (constraints_for t lists) (range_with_len n (length rows))) rows ≡ rows_with t lists n rows
each_are t lists n [] = refl
each_are t lists n (row ∷ rows) = ap (λ xs. row_with (constraints_for t lists n) row ∷ xs) (each_are t lists (n + 1) rows)

pub all-are : (t : Table) (whole : List TypeRow) (constraints : List (List Constraint)) → whole ≡ rows_each constraints t → (lists : Lists) → constraints ≡ map (constraints_for t lists) (numbers t) → whole ≡ constrained t lists
all-are t whole constraints e lists is = e ∙ ap (λ cs. rows_each cs t) is ∙ each_are t lists 0 t

pub next-row : (whole new : List TypeRow) (own : List Constraint) (row : TypeRow) (each : List (List Constraint)) (rows all : List TypeRow) → new ≡ whole ++ row_with own row ∷ [] → whole ++ rows_each (own ∷ each) (row ∷ rows) ≡ all → new ++ rows_each each rows ≡ all
next-row whole new own row each rows all e is = ap (λ xs. xs ++ rows_each each rows) e ∙ append_assoc whole (row_with own row ∷ []) (rows_each each rows) ∙ is

no_items : (rows : List TypeRow) → length rows ≡ 0 → rows ≡ []
no_items [] e = refl
no_items (row ∷ rows) e = absurd (omega arith)

pub no-row : (whole : List TypeRow) (each : List (List Constraint)) (rows all : List TypeRow) (n : ℕ) → n ≡ length rows → n ≡ 0 → whole ++ rows_each each rows ≡ all → whole ≡ all
no-row whole each rows all n is none e = sym (append-nil whole) ∙ ap (λ xs. whole ++ rows_each each xs) (sym (no_items rows (sym is ∙ none))) ∙ e

no_each : (each : List (List Constraint)) (rows : List TypeRow) → length each ≡ 0 → rows_each each rows ≡ []
no_each [] [] e = refl
no_each [] (row ∷ rows) e = refl
no_each (own ∷ each) rows e = absurd (omega arith)

pub no-own : (whole : List TypeRow) (each : List (List Constraint)) (rows all : List TypeRow) (n : ℕ) → n ≡ length each → n ≡ 0 → whole ++ rows_each each rows ≡ all → whole ≡ all
no-own whole each rows all n is none e = sym (append-nil whole) ∙ ap (λ xs. whole ++ xs) (sym (no_each each rows (sym is ∙ none))) ∙ e
