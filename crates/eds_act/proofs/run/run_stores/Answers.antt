use Rattle.std.proofs.Common.{◌∙◌, [], map, refl, sym, subst, arith}
use Rattle.eds_types.specs.Plain.{plain}
use Rattle.eds_plan.specs.Statements.{stmt, stmts}
use Rattle.eds_act.specs.declared.ending.ActEnd.TheVariants.{Done, Halted}
use Rattle.eds_act.specs.Does.{statement, items_of}
use Rattle.eds_act.specs.Running.{Leads, world}
use Rattle.eds_act.proofs.Leading.{leads_same, first_goes, first_halts}
use Rattle.eds_act.proofs.run.run_stores.Goals as goal

pub stores-init : goal.stores-init
stores-init c = record {
  conform = c.requires.conform;
  comp = refl;
  left = omega arith;
  runs = leads_same c.args.table.now c.args.comp.now (items_of (map plain c.args.arguments.now) (stmts c.args.body.now)) c.args.event.now.left (world c.args.event.now);
}

pub stores-preserved : goal.stores-preserved
stores-preserved c =
    let args = map plain c.args.arguments.now in
    let all = items_of args (stmts c.args.body.now) in
    record {
      conform = c.run_store.ensures.conform;
      comp = c.run_store.ensures.comp ∙ c.stores.invariant.comp;
      left = omega (arith, c.run_store.ensures.left, c.stores.invariant.left);
      runs = first_goes c.args.table.now c.args.comp.now all (statement args (stmt c.in-Some.this.now)) (items_of args (stmts c.in-Some.after.now)) c.args.event.now.left c.stores.event.left c.run_store.new.event.left (world c.args.event.now) (world c.stores.event) (world c.run_store.new.event)
          (subst (λ ss. Leads c.args.table.now c.args.comp.now Done all (items_of args (stmts ss)) c.args.event.now.left (world c.args.event.now) c.stores.event.left (world c.stores.event)) c.in-Some.ensures.cases.0 c.stores.invariant.runs)
          (rw (c.in-Some-Done.is, c.in-Some-Done.field-0-is) at c.in_ok-run_store.ensures.runs);
    }

pub returns-in-Some-Halted-clause-runs : goal.returns-in-Some-Halted-clause-runs
returns-in-Some-Halted-clause-runs c =
    let args = map plain c.args.arguments.now in
    let all = items_of args (stmts c.args.body.now) in
    subst (λ h. Leads c.args.table.now c.args.comp.now (Halted h) all [] c.args.event.now.left (world c.args.event.now) c.run_store.new.event.left (world c.run_store.new.event)) (sym c.in-Some-Halted.halt-is)
    (first_halts c.args.table.now c.args.comp.now c.in-Some-Halted.halt all (statement args (stmt c.in-Some.this.now)) (items_of args (stmts c.in-Some.after.now)) c.args.event.now.left c.stores.event.left c.run_store.new.event.left (world c.args.event.now) (world c.stores.event) (world c.run_store.new.event)
    (subst (λ ss. Leads c.args.table.now c.args.comp.now Done all (items_of args (stmts ss)) c.args.event.now.left (world c.args.event.now) c.stores.event.left (world c.stores.event)) c.in-Some.ensures.cases.0 c.stores.invariant.runs)
    (rw (c.in-Some-Halted.is, c.in-Some-Halted.field-0-is) at c.in_ok-run_store.ensures.runs))
