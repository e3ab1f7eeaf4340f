use Rattle.std.proofs.Common.{refl, sym, ap, subst, ◌∙◌, length}
use Rattle.std.specs.Prelude.{map}
use Rattle.eds_act.specs.Does.{Conforms}
use Rattle.eds_plan.specs.Fitting.{PlanFits}
use Rattle.eds_host.specs.Hosts.{ArgumentsAreClear, asked_by}
use Rattle.eds_host.specs.Machines.{unstarted}
use Rattle.eds_host.proofs.Beginnings.{fresh_length}
use Rattle.eds_host.proofs.WiresFitted.{wires_fit}
use Rattle.eds_host.proofs.host.Host.new.Goals as goal

pub invariant_of-result : goal.invariant_of-result
invariant_of-result c =
    record {
      plan_fits = subst (λ t. PlanFits t (Conforms t) c.args.plan.now) (sym c.in_ok-segments.ensures) c.requires.plan;
      clear = subst (λ t. ArgumentsAreClear t c.args.plan.now) (sym c.in_ok-segments.ensures) c.requires.clear;
      wires = wires_fit c.args.plan.now (map (asked_by c.args.plan.now) c.args.wires.now) c.in_ok-links.links c.requires.plan.same c.in_ok-links.ensures.links;
      all = ap length c.in_ok-states.ensures ∙ fresh_length (unstarted c.args.plan.now) 0 (length c.args.plan.now);
      calm = (refl, c.new.ensures);
    }
