use Rattle.std.proofs.Common.{arith, ap, sym}
use Rattle.eds_types.specs.Rows.{number_of_id}
use Rattle.eds_constraints.proofs.NamedFacts.{entry_zero, entry_root, entry_above, entry_own}
use Rattle.eds_constraints.proofs.rows.+entry_within.Goals as goal

pub returns-then-most-eq0 : goal.returns-then-most-eq0
returns-then-most-eq0 t c = entry_zero c.args.names.now.rows.now c.args.name.now c.args.most c.args.id.0 (omega arith)

pub returns-in-None : goal.returns-in-None
returns-in-None t c = entry_root c.args.names.now.rows.now c.args.name.now c.args.most c.args.id.0 (omega arith) (sym (ap number_of_id c.in-None.ensures)) _ c.own_entry.ensures

pub returns-in-Some-entry_within : goal.returns-in-Some-entry_within
returns-in-Some-entry_within t c = entry_above c.args.names.now.rows.now c.args.name.now c.args.most c.args.id.0 c.in-Some.base.0 (omega arith) (sym (ap number_of_id c.in-Some.ensures)) _ c.in-Some-entry_within.ensures

pub returns-in-None-entry_within : goal.returns-in-None-entry_within
returns-in-None-entry_within t c =
    entry_own c.args.names.now.rows.now c.args.name.now c.args.most c.args.id.0 c.in-Some.base.0 (omega arith) (sym (ap number_of_id c.in-Some.ensures)) c.in-None-entry_within.ensures _ c.own_entry-in-None-entry_within.ensures
