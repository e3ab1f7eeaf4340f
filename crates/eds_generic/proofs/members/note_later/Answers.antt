use Rattle.std.proofs.Common.{◌≡◌, map, true, false, sym, ◌∙◌, string_bytes}
use Rattle.eds_names.specs.Repeats.{is_among}
use Rattle.eds_names.proofs.RepeatsLemmas.{among-map, names-present, inserted}
use Rattle.eds_generic.proofs.members.note_later.Goals as goal

pub returns-then-contains-clause-found : goal.returns-then-contains-clause-found
returns-then-contains-clause-found c = sym (among-map string_bytes c.args.later.now.keys c.args.name.now ∙ sym c.contains.ensures ∙ c.if-contains.true)

pub returns-then-contains-clause-later : goal.returns-then-contains-clause-later
returns-then-contains-clause-later c =
    let among : is_among (map string_bytes c.args.later.now.keys) c.args.name.now ≡ true = among-map string_bytes c.args.later.now.keys c.args.name.now ∙ sym c.contains.ensures ∙ c.if-contains.true in
    names-present _ _ among

-- the name is not among those before it
absent : (c : goal.In_ok-_added) → is_among (map string_bytes c.args.later.now.keys) c.args.name.now ≡ false
absent c = among-map string_bytes c.args.later.now.keys c.args.name.now ∙ sym c.contains.ensures ∙ c.if-contains.false

pub returns-clause-found : goal.returns-clause-found
returns-clause-found c = sym (absent c)

pub returns-clause-later : goal.returns-clause-later
returns-clause-later c = inserted string_bytes c.args.later.now.keys c.insert.new.self.keys c.in_ok-name.name c.args.name.now c.in_ok-name.ensures.ok (absent c) c.in_ok-_added.ensures.keys
