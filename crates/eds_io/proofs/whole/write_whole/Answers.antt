use Rattle.std.proofs.Common.{arith, refl, ap, ◌∙◌, ◌++◌, ◌+◌, Some, take, length-drop}
use Rattle.eds_io.proofs.Pieces.{take-rest, written-more}
use Rattle.eds_io.proofs.whole.write_whole.Goals as goal

pub loop-done-preserved : goal.loop-done-preserved
loop-done-preserved g c =
    let done = c.loop-done.done in
    let octets = c.args.octets.now in
    let bound = c.in-Took.ensures.bound c.in-Took.n refl in
    record {
      so_far = λ before told. c.in-Took.ensures.took (before ++ take done octets) c.in-Took.n (c.loop-done.invariant.so_far before told) refl ∙ ap Some (written-more before octets done c.in-Took.n);
      within = omega (arith, rw (take-rest octets done, length-drop done octets) at bound);
      calm = omega (arith, c.in-Took.ensures.calm);
    }

pub returns-then-n-eq0-clause-prefix : goal.returns-then-n-eq0-clause-prefix
returns-then-n-eq0-clause-prefix g c = λ before told.
    let done = c.loop-done.done in
    let octets = c.args.octets.now in
    let took = c.in-Took.ensures.took (before ++ take done octets) c.in-Took.n (c.loop-done.invariant.so_far before told) refl in
    (done + c.in-Took.n, omega (arith, c.if-n-eq0.true), took ∙ ap Some (written-more before octets done c.in-Took.n))
