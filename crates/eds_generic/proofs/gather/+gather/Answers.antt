use Rattle.std.proofs.Common.{sym, arith, rules}
use Rattle.eds_generic.proofs.Gathering.{closed-there, ends-next, put-gathered, put-closed, gather-step, ends-after}
use Rattle.eds_generic.proofs.Counting.{handed}
use Rattle.eds_generic.proofs.Gathering.{gathered-many, put-many, bases-many}
use Rattle.eds_generic.proofs.gather.+gather.Goals as goal

pub gather-returns-then-has-clause-found : goal.gather-returns-then-has-clause-found
gather-returns-then-has-clause-found t c =
    sym (closed-there c.args.faces.now c.args.gathered.now.found c.args.depth c.args.pair c.requires.closed c.requires.ends c.requires.short (search rules))

pub gather-returns-then-depth-eq0-clause-found : goal.gather-returns-then-depth-eq0-clause-found
gather-returns-then-depth-eq0-clause-found t c =
    let some = (ends-next c.args.depth c.args.faces.now c.args.pair.face.0 c.requires.ends).0 in
    absurd (omega arith)

pub gather-returns-clause-found : goal.gather-returns-clause-found
gather-returns-clause-found t c =
    put-gathered c.args.faces.now c.args.gathered.now.found c.gather_bases.new.gathered.found c.put.new.gathered.found c.args.depth c.args.pair c.requires.ends c.in_ok-gather_bases.ensures.found c.in_ok-put.ensures.found

pub gather-returns-clause-closed : goal.gather-returns-clause-closed
gather-returns-clause-closed t c =
    put-closed c.args.faces.now c.args.gathered.now.found c.gather_bases.new.gathered.found c.put.new.gathered.found c.args.depth c.args.pair c.requires.ends c.requires.short c.in_ok-gather_bases.ensures.found c.in_ok-put.ensures.found c.in_ok-gather_bases.ensures.closed

pub gather_bases-loop-base-preserved : goal.gather_bases-loop-base-preserved
gather_bases-loop-base-preserved t c = record {
  found = gather-step c.loop-base.gathered.found c.gather.new.gathered.found _ c.args.depth c.args.faces.now c.args.pair.now c.in_ok-under.under c.bases-base-items.result.now c.loop-base.base-index c.base-item.result (omega arith) c.base-item.is (search rules) (search rules) c.loop-base.invariant.found;
  ends = ends-after c.args.depth c.args.faces.now c.bases-base-items.result.now c.loop-base.base-index c.base-item.result (omega arith) c.base-item.is c.loop-base.invariant.ends;
  closed = c.in_ok-gather.ensures.closed;
  counted = c.in_ok-gather.ensures.counted;
  few = c.in_ok-gather.ensures.few;
}

pub gather-gather_bases-requires : goal.gather-gather_bases-requires
gather-gather_bases-requires t c =
    let next = ends-next c.args.depth c.args.faces.now c.args.pair.face.0 c.requires.ends in
    (omega arith, (next.1, (omega arith, (c.requires.closed, (c.requires.counted, c.requires.few)))))

pub gather-returns-in_err-gather_bases-clause-many : goal.gather-returns-in_err-gather_bases-clause-many
gather-returns-in_err-gather_bases-clause-many t c =
    handed c.from_residual.result c.in_err-gather_bases.field-0.0 _ _ c.from_residual.ensures.1 (gathered-many c.args.faces.now c.args.gathered.now.found c.args.depth c.args.pair c.requires.ends) c.in_err-gather_bases.ensures.many

pub gather-returns-in_err-put-clause-many : goal.gather-returns-in_err-put-clause-many
gather-returns-in_err-put-clause-many t c =
    handed c.from_residual-in_err-put.result c.in_err-put.field-0.0 _ _ c.from_residual-in_err-put.ensures.1
    (put-many c.args.faces.now c.args.gathered.now.found c.gather_bases.new.gathered.found c.args.depth c.args.pair c.requires.ends c.in_ok-gather_bases.ensures.found) c.in_err-put.ensures.many

pub gather_bases-returns-in_err-gather-clause-many : goal.gather_bases-returns-in_err-gather-clause-many
gather_bases-returns-in_err-gather-clause-many t c =
    handed c.from_residual-in_err-gather.result c.in_err-gather.field-0.0 _ _ c.from_residual-in_err-gather.ensures.1
    (bases-many c.args.faces.now c.args.gathered.now.found c.loop-base.gathered.found c.args.depth c.args.pair.now c.in_ok-under.under c.bases-base-items.result.now c.loop-base.base-index c.base-item.result (omega arith) c.base-item.is (search rules) (search rules) c.loop-base.invariant.found)
    c.in_err-gather.ensures.many
