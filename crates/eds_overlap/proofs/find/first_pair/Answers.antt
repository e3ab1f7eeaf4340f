use Rattle.std.proofs.Common.{sym, ◌∙◌, arith}
use Rattle.eds_overlap.specs.Pairs.{Named}
use Rattle.eds_overlap.proofs.Listing.{first_of_pair, where_none}
use Rattle.eds_overlap.proofs.Meeting.{none_more, none_at_all}
use Rattle.eds_overlap.proofs.find.first_pair.Goals as goal

pub returns-then-is_some-clause-some : goal.returns-then-is_some-clause-some
returns-then-is_some-clause-some c = first_of_pair c.args.table.now (Named c.args.used.now) c.loop-second.second c.in_ok-found.found c.loop-second.invariant c.in_ok-found.ensures.some

pub loop-second-preserved : goal.loop-second-preserved
loop-second-preserved c =
    none_more c.args.table.now (Named c.args.used.now) c.loop-second.second c.loop-second.invariant
    (where_none _ c.in_ok-found.found (sym c.is_some.ensures ∙ c.if-is_some.false) c.in_ok-found.ensures.none)

pub returns-clause-none : goal.returns-clause-none
returns-clause-none c = none_at_all c.args.table.now (Named c.args.used.now) (λ x i l order less o. c.loop-second.invariant x i l order (omega (arith, c.loop-second-test.false, c.len-second-end.ensures)) o)
