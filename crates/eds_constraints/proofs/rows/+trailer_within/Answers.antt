use Rattle.std.proofs.Common.{arith, ap, sym}
use Rattle.eds_types.specs.Rows.{number_of_id}
use Rattle.eds_constraints.proofs.NamedFacts.{trailer_zero, trailer_own, trailer_root, trailer_above}
use Rattle.eds_constraints.proofs.rows.+trailer_within.Goals as goal

pub returns-then-most-eq0 : goal.returns-then-most-eq0
returns-then-most-eq0 t c = trailer_zero c.args.names.now.rows.now c.args.name.now c.args.most c.args.id.0 (omega arith)

pub returns-in-Some : goal.returns-in-Some
returns-in-Some t c = trailer_own c.args.names.now.rows.now c.args.name.now c.args.most c.args.id.0 (omega arith) _ c.in-Some.ensures

pub returns-in-None-base_of : goal.returns-in-None-base_of
returns-in-None-base_of t c = trailer_root c.args.names.now.rows.now c.args.name.now c.args.most c.args.id.0 (omega arith) (sym (ap number_of_id c.in-None-base_of.ensures)) c.in-None.ensures

pub returns-in-Some-base_of : goal.returns-in-Some-base_of
returns-in-Some-base_of t c =
    trailer_above c.args.names.now.rows.now c.args.name.now c.args.most c.args.id.0 c.in-Some-base_of.base.0 (omega arith) (sym (ap number_of_id c.in-Some-base_of.ensures)) c.in-None.ensures _ c.trailer_within.ensures
