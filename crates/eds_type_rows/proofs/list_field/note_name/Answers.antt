use Rattle.std.proofs.Common.{ap, ◌∙◌, sym, Some, string_bytes}
use Rattle.std.specs.HashMap.{get_by_text}
use Rattle.std.specs.Map.{update}
use Rattle.std.specs.Str.{bytes_eq}
use Rattle.std.proofs.lemmas.Map.Text.{hash_map_updates_text}
use Rattle.eds_type_rows.proofs.ListPlaces.{noted, kept}
use Rattle.eds_type_rows.proofs.list_field.note_name.Goals as goal

pub returns-then-contains_key : goal.returns-then-contains_key
returns-then-contains_key c q = kept (get_by_text c.args.places.now) c.args.name.now c.args.place q (sym c.contains_key.ensures ∙ c.if-contains_key.true)

pub returns : goal.returns
returns c q =
    let updated = hash_map_updates_text (string_bytes c.in_ok-name.name) c.args.places.now c.insert.new.self (Some c.args.place) c.in_ok-_none.ensures.updates q in
    noted (get_by_text c.args.places.now) (get_by_text c.insert.new.self) c.args.name.now c.args.place q (updated ∙ ap (λ name. update bytes_eq (get_by_text c.args.places.now) name (Some c.args.place) q) c.in_ok-name.ensures.ok) (sym c.contains_key.ensures ∙ c.if-contains_key.false)
