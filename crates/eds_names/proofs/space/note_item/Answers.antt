use Rattle.std.proofs.Common.{ap, ◌∙◌, sym, Some, is_some, string_bytes}
use Rattle.std.specs.HashMap.{get_by_text}
use Rattle.std.specs.Map.{update}
use Rattle.std.specs.Str.{bytes_eq}
use Rattle.std.proofs.lemmas.Map.Text.{hash_map_updates_text}
use Rattle.eds_names.proofs.LookUpLemmas.{noted}
use Rattle.eds_names.proofs.space.note_item.Goals as goal

pub returns : goal.returns
returns c q =
    let updated = hash_map_updates_text (string_bytes c.in_ok-name.name) c.args.index.now c.insert.new.self (Some c.args.one.now.item) c.in_ok-_none.ensures.updates q in
    noted (get_by_text c.args.index.now) (get_by_text c.insert.new.self) c.args.one.now q (updated ∙ ap (λ name. update bytes_eq (get_by_text c.args.index.now) name (Some c.args.one.now.item) q) (c.in_ok-name.ensures.ok ∙ c.as_str-2.ensures)) (ap (λ name. is_some (get_by_text c.args.index.now name)) (sym c.as_str.ensures) ∙ sym c.contains_key.ensures ∙ c.if-contains_key.false)
