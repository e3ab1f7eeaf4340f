use Rattle.std.proofs.Common.{◌≡◌, map, true, false, sym, ◌∙◌, string_bytes}
use Rattle.eds_names.specs.Repeats.{is_among}
use Rattle.eds_names.proofs.RepeatsLemmas.{among-map, names-present, inserted}
use Rattle.eds_type_rows.proofs.name_set.note_name.Goals as goal

pub returns-then-contains : goal.returns-then-contains
returns-then-contains c =
    let among : is_among (map string_bytes c.args.names.now.keys) c.args.name.now ≡ true = among-map string_bytes c.args.names.now.keys c.args.name.now ∙ sym c.contains.ensures ∙ c.if-contains.true in
    names-present _ _ among

-- the name is not among those before it
absent : (c : goal.In_ok-_added) → is_among (map string_bytes c.args.names.now.keys) c.args.name.now ≡ false
absent c = among-map string_bytes c.args.names.now.keys c.args.name.now ∙ sym c.contains.ensures ∙ c.if-contains.false

pub returns : goal.returns
returns c = inserted string_bytes c.args.names.now.keys c.insert.new.self.keys c.in_ok-name.name c.args.name.now c.in_ok-name.ensures.ok (absent c) c.in_ok-_added.ensures.keys
