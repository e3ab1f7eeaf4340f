use Rattle.std.proofs.Common.{map, true, false, sym, ◌∙◌, string_bytes}
use Rattle.eds_names.proofs.RepeatsLemmas.{among-map}
use Rattle.eds_read_act.proofs.Transacting.{kept, put}
use Rattle.eds_read_act.proofs.transaction.note.Goals as goal

pub returns-then-contains : goal.returns-then-contains
returns-then-contains c = kept (map string_bytes c.args.names.now.keys) c.args.name.now (among-map string_bytes c.args.names.now.keys c.args.name.now ∙ sym c.contains.ensures ∙ c.if-contains.true)

pub returns : goal.returns
returns c =
    put string_bytes c.args.names.now.keys c.insert.new.self.keys c.in_ok-name.name c.args.name.now c.in_ok-name.ensures.ok
    (among-map string_bytes c.args.names.now.keys c.args.name.now ∙ sym c.contains.ensures ∙ c.if-contains.false) c.in_ok-_added.ensures.keys
