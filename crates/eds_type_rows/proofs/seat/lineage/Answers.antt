use Rattle.std.proofs.Common.{sym, ◌∙◌, arith}
use Rattle.eds_type_rows.proofs.SeatFacts.{line_end, line_zero, line_next}
use Rattle.eds_type_rows.proofs.seat.lineage.Goals as goal

pub returns-in-None : goal.returns-in-None
returns-in-None c = line_end c.args.bases.now c.loop-left.left c.loop-left.at c.loop-left.line.items _ (sym c.base_at.ensures ∙ c.in-None.is) c.loop-left.invariant

pub loop-left-preserved : goal.loop-left-preserved
loop-left-preserved c =
    line_next c.args.bases.now c.loop-left.left c.loop-left.at c.in-Some.base c.loop-left.line.items c.push-in-Some.new.self.items _ (omega arith) (sym c.base_at.ensures ∙ c.in-Some.is) c.in_ok-push-in-Some.ensures.items c.loop-left.invariant

pub returns : goal.returns
returns c = line_zero c.args.bases.now c.loop-left.left c.loop-left.at c.loop-left.line.items _ (omega arith) c.loop-left.invariant
