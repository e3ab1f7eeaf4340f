use Rattle.std.proofs.Common.{◌≡◌, ◌≤◌, length, map}
use Rattle.eds_types.specs.Plain.{plain}
use Rattle.eds_plan.specs.Statements.{stmts}
use Rattle.eds_act.specs.declared.ending.ActEnd.TheVariants.{Done}
use Rattle.eds_act.specs.Does.{items_of}
use Rattle.eds_act.specs.Running.{LeadsTo, HasConforming}
use Rattle.eds_act.proofs.run.run_stores.Given as goal

abbrev pub invariant-stores : goal.invariant-stores
invariant-stores l = record {
  conform : HasConforming l.table l.comp l.event;
  comp : l.event.comp ≡ l.initial.event.comp;
  left : l.event.left ≤ l.initial.event.left;
  runs : LeadsTo l.table l.comp Done (items_of (map plain l.arguments) (stmts l.body)) (items_of (map plain l.arguments) (stmts l.rest)) l.initial.event l.event;
}

abbrev pub decreases-stores : goal.decreases-stores
decreases-stores l = length l.rest
