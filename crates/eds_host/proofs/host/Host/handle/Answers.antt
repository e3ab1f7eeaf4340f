use Rattle.std.proofs.Common.{sym, subst}
use Rattle.eds_act.specs.Does.{Conforms}
use Rattle.eds_plan.specs.Fitting.{PlanFits}
use Rattle.eds_host.proofs.host.Host.handle.Goals as goal

-- the setting that `any_line` is handed
pub any_line-requires-clause-setting : goal.any_line-requires-clause-setting
any_line-requires-clause-setting c =
    let own = c.self.invariant in
    record { few = own.plan_fits.few; plan = subst (λ t. PlanFits t (Conforms t) c.self.inside.plan.now) (sym c.table.ensures) own.plan_fits; wires = own.wires }
