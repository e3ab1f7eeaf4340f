use Rattle.std.proofs.Common.{refl, sym, ◌∙◌, arith}
use Rattle.eds_names.specs.Standings.{joined}
use Rattle.eds_names.proofs.LookUpLemmas.{longest-shorter, found-next}
use Rattle.eds_names.proofs.DepthsLemmas.{slashes-shorter}
use Rattle.eds_names.proofs.space.Space.look_up_below.Goals as goal

pub fronts-smaller : goal.fronts-smaller
fronts-smaller c = longest-shorter c.fronts.front.now c.in-Some.next.now (sym c.in-Some.ensures.longest)

pub overflow_sub-depth : goal.overflow_sub-depth
overflow_sub-depth c = omega (arith, c.fronts.invariant.depth)

pub fronts-preserved : goal.fronts-preserved
fronts-preserved c = record {
  text = c.in-Some.ensures.text;
  depth = omega (arith, c.fronts.invariant.depth, slashes-shorter c.fronts.front.now c.in-Some.next.now (sym c.in-Some.ensures.longest));
  found = found-next c.args.self.now.declared c.fronts.front.now c.in-Some.next.now (joined c.fronts.front.now c.args.text.now) c.args.text.now c.in_ok-found.found _ (sym c.in-Some.ensures.longest) refl c.in_ok-found.ensures (sym c.is_some.ensures ∙ c.if-is_some.false) c.fronts.invariant.found;
}
