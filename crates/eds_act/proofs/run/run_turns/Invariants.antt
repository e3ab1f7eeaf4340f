use Rattle.std.proofs.Common.{◌≡◌, ◌≤◌, [], ◌∷◌, map}
use Rattle.eds_types.specs.Plain.{plain}
use Rattle.eds_plan.specs.Statements.{stmts}
use Rattle.eds_act.specs.declared.ending.ActEnd.TheVariants.{Done}
use Rattle.eds_act.specs.Running.{LeadsTo, HasConforming, turn_item}
use Rattle.eds_act.proofs.run.run_turns.Given as goal

abbrev pub invariant-turns : goal.invariant-turns
invariant-turns l = record {
  conform : HasConforming l.table l.comp l.event;
  comp : l.event.comp ≡ l.initial.event.comp;
  left : l.event.left ≤ l.initial.event.left;
  tasks : l.tasks.items ≡ l.initial.tasks.items;
  runs : LeadsTo l.table l.comp Done (turn_item l.fn.first (map plain l.arguments) (stmts l.body) ∷ []) (turn_item l.turn (map plain l.arguments) (stmts l.body) ∷ []) l.initial.event l.event;
}

abbrev pub decreases-turns : goal.decreases-turns
decreases-turns l = l.event.left
