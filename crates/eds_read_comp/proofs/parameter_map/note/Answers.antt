use Rattle.std.proofs.Common.{◌≡◌, map, false, sym, ◌∙◌, string_bytes}
use Rattle.eds_names.specs.Repeats.{is_among}
use Rattle.eds_names.proofs.RepeatsLemmas.{among-map, names-present, inserted}
use Rattle.eds_read_comp.proofs.parameter_map.note.Goals as goal

pub returns-then-contains-clause-second : goal.returns-then-contains-clause-second
returns-then-contains-clause-second c = sym (among-map string_bytes c.args.before.now.keys c.args.name.now ∙ sym c.contains.ensures ∙ c.if-contains.true)

pub returns-then-contains-clause-before : goal.returns-then-contains-clause-before
returns-then-contains-clause-before c = names-present _ _ (among-map string_bytes c.args.before.now.keys c.args.name.now ∙ sym c.contains.ensures ∙ c.if-contains.true)

-- the name is not among those before it
absent : (c : goal.In_ok-_added) → is_among (map string_bytes c.args.before.now.keys) c.args.name.now ≡ false
absent c = among-map string_bytes c.args.before.now.keys c.args.name.now ∙ sym c.contains.ensures ∙ c.if-contains.false

pub returns-clause-second : goal.returns-clause-second
returns-clause-second c = sym (absent c)

pub returns-clause-before : goal.returns-clause-before
returns-clause-before c = inserted string_bytes c.args.before.now.keys c.insert.new.self.keys c.in_ok-name.name c.args.name.now c.in_ok-name.ensures.ok (absent c) c.in_ok-_added.ensures.keys
