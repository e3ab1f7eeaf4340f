-- The rows of types, one after another.
use Rattle.std.proofs.Common.{◌≡◌, ℕ, ◌+◌, ◌<◌, Bool, true, false, List, [], ◌∷◌, ◌++◌, length, filter, drop, get_or, refl, sym, ap, ap₂, ◌∙◌, add-one, drop-cons}
use Rattle.std.proofs.lemmas.List.{append_assoc, append-nil, length-append}
use Rattle.eds_tree.specs.declared.tree.Node.{Node}
use Rattle.eds_names.specs.declared.declared.Declared.{Declared}
use Rattle.eds_names.specs.LookUp.{Names}
use Rattle.eds_types.specs.declared.row.TypeRow.{TypeRow}
use Rattle.eds_type_rows.specs.Places.{is_type}
use Rattle.eds_type_rows.specs.TableRows.{table_row, rows_from}

kept : (d : Declared) (ds : List Declared) → is_type d ≡ true → filter is_type (d ∷ ds) ≡ d ∷ filter is_type ds
kept d ds e = rw e refl

passed : (d : Declared) (ds : List Declared) → is_type d ≡ false → filter is_type (d ∷ ds) ≡ filter is_type ds
passed d ds e = rw e refl

-- `rows` stands for what came before, `new` for that and what d gives
pub rows-next : (trees : List (List Node)) (names : Names) (ds : List Declared) (i : ℕ) (d : Declared) (rows new whole : List TypeRow)
    → i < length ds → d ≡ get_or ds i d → new ≡ rows ++ rows_from trees names (length rows) (filter is_type (d ∷ []))
    → rows ++ rows_from trees names (length rows) (filter is_type (drop i ds)) ≡ whole
    → new ++ rows_from trees names (length new) (filter is_type (drop (i + 1) ds)) ≡ whole
rows-next trees names ds i d rows new whole lt at k e = go (is_type d) refl
  where
    rest : List Declared
    rest = filter is_type (drop (i + 1) ds)

    opened : drop i ds ≡ d ∷ drop (i + 1) ds
    opened = drop-cons ds i d lt ∙ rw (add-one, ← at) refl

    row : TypeRow
    row = table_row trees names (length rows) d

    go : (b : Bool) → is_type d ≡ b → new ++ rows_from trees names (length new) (filter is_type (drop (i + 1) ds)) ≡ whole
    go true t =
        let new_is : new ≡ rows ++ row ∷ [] = k ∙ ap (λ xs. rows ++ rows_from trees names (length rows) xs) (kept d [] t) in
        let counted : length new ≡ length rows + 1 = ap length new_is ∙ length-append rows (row ∷ []) in
        let here : filter is_type (drop i ds) ≡ d ∷ rest = ap (filter is_type) opened ∙ kept d (drop (i + 1) ds) t in
        ap₂ (λ xs n. xs ++ rows_from trees names n rest) new_is counted
        ∙ append_assoc rows (row ∷ []) (rows_from trees names (length rows + 1) rest)
        ∙ ap (λ xs. rows ++ rows_from trees names (length rows) xs) (sym here)
        ∙ e
    go false t =
        let new_is : new ≡ rows = k ∙ ap (λ xs. rows ++ rows_from trees names (length rows) xs) (passed d [] t) ∙ append-nil rows in
        let here : filter is_type (drop i ds) ≡ rest = ap (filter is_type) opened ∙ passed d (drop (i + 1) ds) t in
        ap (λ xs. xs ++ rows_from trees names (length xs) rest) new_is ∙ ap (λ xs. rows ++ rows_from trees names (length rows) xs) (sym here) ∙ e
