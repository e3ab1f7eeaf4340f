-- The types that references find are there.
use Rattle.std.proofs.Common.{◌≡◌, ℕ, ◌<◌, List, [], ◌∷◌, length, slice_get, Option, Some, None, Ok, refl, subst, ◌∙◌, arith}
use Rattle.std.specs.Prelude.{IsSomeAnd}
use Rattle.std.proofs.lemmas.Option.{slice_get_within}
use Rattle.eds_base.specs.Reading.{◌>>=◌}
use Rattle.eds_base.specs.declared.ids.Place.{Place}
use Rattle.eds_base.specs.declared.ids.TypeId.{TypeId}
use Rattle.eds_tree.specs.declared.tree.Node.{Node}
use Rattle.eds_names.specs.declared.declared.Declared.{Declared}
use Rattle.eds_names.specs.declared.declared.Item.{Item}
use Rattle.eds_names.specs.declared.declared.Item.TheVariants as item
use Rattle.eds_names.specs.Declarations.{types_in}
use Rattle.eds_names.specs.LookUp.{Names, names_in, item_named, or_else, first_found, candidates, around_at, look_up}
use Rattle.eds_names.proofs.Numbering.{type-rows}
use Rattle.eds_type_rows.specs.Places.{types}
use Rattle.eds_type_rows.specs.ReadTypes.{id_of, id_found}
use Rattle.eds_type_rows.specs.Entries.{type_named}
use Rattle.eds_type_rows.specs.PartRows.{entry_id, id_or_first}

module _ (trees : List (List Node)) (names : Names) (named : names_in trees ≡ Ok names) where
  row_there : (name : List ℕ) (id : TypeId) → item_named names.declared name ≡ Some (item.Sort id) → id.0 < length (types names)
  row_there name id e = there (slice_get (types_in names.declared) id.0) refl (type-rows trees names named name id.0 e)
    where
      there : (o : Option Declared) → slice_get (types_in names.declared) id.0 ≡ o → IsSomeAnd o (λ d. d.name ≡ name) → id.0 < length (types names)
      there None q h = absurd h
      there (Some d) q h = slice_get_within (types_in names.declared) id.0 d q

  first_there : (texts : List (List ℕ)) (id : TypeId) → first_found names.declared texts ≡ Some (item.Sort id) → id.0 < length (types names)
  first_there [] id e = absurd cc
  first_there (text ∷ texts) id e = go (first_there texts id) (item_named names.declared text) refl e
    where
      go : (first_found names.declared texts ≡ Some (item.Sort id) → id.0 < length (types names)) → (o : Option Item) → item_named names.declared text ≡ o → or_else o (first_found names.declared texts) ≡ Some (item.Sort id) → id.0 < length (types names)
      go later None q h = later h
      go later (Some i) q h = row_there text id (q ∙ h)

  item_there : (at : Place) (text : List ℕ) (id : TypeId) → look_up names at text ≡ Some (item.Sort id) → id.0 < length (types names)
  unfolding look_up
  item_there at text id e = first_there (candidates (around_at names at) text) id e

  pub number_there : (at : Place) (reference : Option (List ℕ)) (id : TypeId) → id_found names at reference ≡ Some id → id.0 < length (types names)
  number_there at None id e = absurd cc
  number_there at (Some text) id e = go (look_up names at text) refl e
    where
      go : (o : Option Item) → look_up names at text ≡ o → (o >>= id_of) ≡ Some id → id.0 < length (types names)
      go None q h = absurd cc
      go (Some (item.Sort i)) q h = let is : i ≡ id = cc in subst (λ (j : TypeId). j.0 < length (types names)) is (item_there at text i q)
      go (Some (item.Face i)) q h = absurd cc
      go (Some (item.Comp i)) q h = absurd cc

-- the type that a reference finds in the table is there, where there is any
pub found_there : (trees : List (List Node)) (names : Names) (at : Place) (reference : Option (List ℕ)) {n : ℕ} → n < length (types names) → names_in trees ≡ Ok names → (id_or_first (id_found names at reference)).0 < length (types names)
found_there trees names at reference {n} some named = go (id_found names at reference) refl
  where
    go : (o : Option TypeId) → id_found names at reference ≡ o → (id_or_first o).0 < length (types names)
    go None e = omega (arith, some)
    go (Some id) e = number_there trees names named at reference id e

-- the same of an entry's type
pub id_there : (trees : List (List Node)) (names : Names) (at : Place) {n : ℕ} → n < length (types names) → names_in trees ≡ Ok names → (entry_id trees names at).0 < length (types names)
id_there trees names at some named = found_there trees names at (type_named trees at) some named
