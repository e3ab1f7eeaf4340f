use Rattle.eds_types.specs.Rows.{trailer_places}
use Rattle.eds_read_act.proofs.EntryNames.{at-last, before-last, one-fewer}
use Rattle.eds_read_act.proofs.entry_names.first_trailer.Goals as goal

pub loop-rest-preserved : goal.loop-rest-preserved
loop-rest-preserved c = (
  one-fewer c.loop-rest.rest.now c.loop-rest.invariant.0,
  before-last c.args.table.now c.args.name.now (trailer_places c.args.table.now) c.loop-rest.rest.now _ _ c.in-len1-up.len_at_least c.loop-rest.invariant.1 c.in-None.ensures,
)

pub returns-in-Some : goal.returns-in-Some
returns-in-Some c = at-last c.args.table.now c.args.name.now (trailer_places c.args.table.now) c.loop-rest.rest.now _ _ _ c.in-len1-up.len_at_least c.loop-rest.invariant.1 c.in-Some.ensures
