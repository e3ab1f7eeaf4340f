use Rattle.std.proofs.Common.{None, Some, ap, ◌∙◌}
use Rattle.eds_read_act.specs.EntryNames.{index_of_all}
use Rattle.eds_read_act.proofs.EntryNames.{no-entry, entry-by}
use Rattle.eds_read_act.proofs.entry_names.NamedTable.own_entry.Goals as goal

pub returns-in_err-own : goal.returns-in_err-own
returns-in_err-own c = c.from_residual.ensures ∙ no-entry c.args.self.now c.self.inside.own (c.self.invariant ∙ ap index_of_all c.self.view_is) c.args.name.now c.args.id c.in_err-own.ensures

pub returns-in_err-place : goal.returns-in_err-place
returns-in_err-place c = c.from_residual-in_err-place.ensures ∙ entry-by c.args.self.now c.self.inside.own (c.self.invariant ∙ ap index_of_all c.self.view_is) c.args.name.now c.args.id c.in_ok-own.own.now None c.in_ok-own.ensures c.in_err-place.ensures

pub returns : goal.returns
returns c = entry-by c.args.self.now c.self.inside.own (c.self.invariant ∙ ap index_of_all c.self.view_is) c.args.name.now c.args.id c.in_ok-own.own.now (Some c.in_ok-place.place) c.in_ok-own.ensures c.in_ok-place.ensures
