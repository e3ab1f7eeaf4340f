use Rattle.eds_types.specs.Rows.{entry_places}
use Rattle.eds_read_act.proofs.EntryNames.{at-first, behind-first}
use Rattle.eds_read_act.proofs.entry_names.first_entry.Goals as goal

pub loop-rest-preserved : goal.loop-rest-preserved
loop-rest-preserved c = behind-first c.args.table.now c.args.name.now (entry_places c.args.table.now) c.loop-rest.rest.now _ _ c.in-len1-up.len_at_least c.loop-rest.invariant c.in-None.ensures

pub returns-in-Some : goal.returns-in-Some
returns-in-Some c = at-first c.args.table.now c.args.name.now (entry_places c.args.table.now) c.loop-rest.rest.now _ _ _ c.in-len1-up.len_at_least c.loop-rest.invariant c.in-Some.ensures
