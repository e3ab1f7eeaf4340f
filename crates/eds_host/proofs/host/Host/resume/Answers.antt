use Rattle.std.proofs.Common.{sym, subst}
use Rattle.std.specs.Prelude.{map}
use Rattle.std.specs.List.{AllByRecursion}
use Rattle.eds_act.specs.Does.{Conforms}
use Rattle.eds_plan.specs.Fitting.{PlanFits}
use Rattle.eds_host.specs.Hosts.{ArgumentsAreClear, asked_by}
use Rattle.eds_host.specs.Plans.{AreStates, Arrives}
use Rattle.eds_host.proofs.WiresFitted.{wires_fit}
use Rattle.eds_host.proofs.host.Host.resume.Goals as goal

pub dues_by-requires-clause-wires : goal.dues_by-requires-clause-wires
dues_by-requires-clause-wires c = wires_fit c.args.plan.now (map (asked_by c.args.plan.now) c.args.wires.now) c.in_ok-links.links c.requires.plan.same c.in_ok-links.ensures.links

pub invariant_of-result : goal.invariant_of-result
invariant_of-result c =
    let plan = c.args.plan.now in
    record {
      plan_fits = subst (λ t. PlanFits t (Conforms t) plan) (sym c.in_ok-segments.ensures) c.requires.plan;
      clear = subst (λ t. ArgumentsAreClear t plan) (sym c.in_ok-segments.ensures) c.requires.clear;
      wires = wires_fit plan (map (asked_by plan) c.args.wires.now) c.in_ok-links.links c.requires.plan.same c.in_ok-links.ensures.links;
      all = c.requires.from.fit.all;
      calm = (
        c.requires.from.early,
        subst (λ t. AreStates t plan c.args.now c.args.states) (sym c.in_ok-segments.ensures) c.requires.from.fit,
        c.requires.from.later,
        c.in_ok-dues.ensures,
        subst (AllByRecursion (Arrives c.in_ok-segments.segments plan)) (sym c.new.ensures) tt,
      );
    }
