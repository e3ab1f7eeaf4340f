use Rattle.std.proofs.Common.{◌≡◌, map, true, sym, ◌∙◌, string_bytes}
use Rattle.eds_names.specs.Repeats.{is_among}
use Rattle.eds_names.proofs.RepeatsLemmas.{names-present}
use Rattle.eds_read_types.proofs.NameSets.{among_ordered, name_put}
use Rattle.eds_read_types.proofs.part_names.note_name.Goals as goal

pub returns-then-contains : goal.returns-then-contains
returns-then-contains c =
    let among : is_among (map string_bytes c.args.names.now.keys) c.args.name.now ≡ true = among_ordered c.args.names.now.keys c.args.name.now ∙ sym c.contains.ensures ∙ c.if-contains.true in
    names-present _ _ among

pub returns : goal.returns
returns c = name_put c.args.names.now c.insert.new.self c.in_ok-name.name c.args.name.now c.in_ok-name.ensures.ok c.in_ok-_added.ensures.updates
