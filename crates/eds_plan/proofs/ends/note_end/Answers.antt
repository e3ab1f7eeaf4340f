use Rattle.std.proofs.Common.{ap, ◌∙◌, sym, Some, is_some, true, string_bytes}
use Rattle.std.specs.HashMap.{get_by_text}
use Rattle.std.proofs.lemmas.Map.Text.{hash_map_updates_text}
use Rattle.eds_plan.proofs.Called.{noted, kept}
use Rattle.eds_plan.proofs.ends.note_end.Goals as goal

pub returns-then-contains_key : goal.returns-then-contains_key
returns-then-contains_key c q =
    kept (get_by_text c.args.index.now) (string_bytes c.args.text, c.args.end) q (ap (λ name. is_some (get_by_text c.args.index.now name)) (sym c.as_str.ensures.value) ∙ sym c.contains_key.ensures ∙ c.if-contains_key.true)

pub returns : goal.returns
returns c q =
    let updated = hash_map_updates_text (string_bytes c.args.text) c.args.index.now c.insert.new.self (Some c.args.end) c.in_ok-_none.ensures.updates q in
    noted (get_by_text c.args.index.now) (get_by_text c.insert.new.self) (string_bytes c.args.text, c.args.end) q updated (ap (λ name. is_some (get_by_text c.args.index.now name)) (sym c.as_str.ensures.value) ∙ sym c.contains_key.ensures ∙ c.if-contains_key.false)
