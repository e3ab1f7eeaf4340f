use Rattle.std.proofs.Common.{◌∙◌, ◌++◌, [], ◌∷◌, map, refl, sym, ap, subst, arith}
use Rattle.std.proofs.lemmas.Bool.{eqb-true}
use Rattle.eds_types.specs.Plain.{plain}
use Rattle.eds_plan.specs.Statements.{stmts}
use Rattle.eds_act.specs.declared.ending.ActEnd.TheVariants.{Done, Halted}
use Rattle.eds_act.specs.Does.{items_of}
use Rattle.eds_act.specs.Running.{Leads, world, turn_item, next_turns}
use Rattle.eds_act.specs.Work.{tasks_items}
use Rattle.eds_act.proofs.Leading.{leads_same, leads_on, leads_before, leads_nowhere}
use Rattle.eds_act.proofs.Working.{no_items, comes_to_end, comes_behind}
use Rattle.eds_act.proofs.run.run_turns.Goals as goal

pub turns-init : goal.turns-init
turns-init c = record {
  conform = c.requires.conform;
  comp = refl;
  left = omega arith;
  tasks = refl;
  runs = leads_same c.args.table.now c.args.comp.now (turn_item c.args.first (map plain c.args.arguments.now) (stmts c.args.body.now) ∷ []) c.args.event.now.left (world c.args.event.now);
}

pub turns-preserved : goal.turns-preserved
turns-preserved c =
    let args = map plain c.args.arguments.now in
    let body = stmts c.args.body.now in
    let nexts = next_turns c.turns.turn args body in
    let whole = turn_item c.args.first args body ∷ [] in
    let this = turn_item c.turns.turn args body ∷ [] in
    let rest = items_of args (stmts c.in-Until.rest.now) in
    let next = turn_item c.in-Some.next args body ∷ [] in
    record {
      conform = c.run_turn.ensures.conform;
      comp = c.run_turn.ensures.comp ∙ c.turns.invariant.comp;
      left = omega (arith, c.run_turn.ensures.left, c.turns.invariant.left);
      tasks = c.turns.invariant.tasks;
      runs = subst (λ is. Leads c.args.table.now c.args.comp.now Done whole is c.args.event.now.left (world c.args.event.now) c.run_turn.new.event.left (world c.run_turn.new.event))
          (ap (λ is. is ++ nexts) (no_items args c.in-Until.rest.now (eqb-true _ _ (sym c.is_empty.ensures ∙ c.if-is_empty.true))) ∙ sym (c.in-Some.ensures args body))
          (leads_on c.args.table.now c.args.comp.now Done whole this (rest ++ nexts) c.args.event.now.left c.turns.event.left c.run_turn.new.event.left (world c.args.event.now) (world c.turns.event) (world c.run_turn.new.event) c.turns.invariant.runs (rw c.in-Until.is at c.in_ok-halt.ensures.runs));
    }

pub returns-in-None-clause-runs : goal.returns-in-None-clause-runs
returns-in-None-clause-runs c =
    let args = map plain c.args.arguments.now in
    let body = stmts c.args.body.now in
    let nexts = next_turns c.turns.turn args body in
    let whole = turn_item c.args.first args body ∷ [] in
    let this = turn_item c.turns.turn args body ∷ [] in
    let rest = items_of args (stmts c.in-Until.rest.now) in
    comes_to_end c.args.table.now c.args.comp.now args whole (rest ++ nexts) c.args.tasks.now.items c.turns.tasks.items c.args.event.now c.run_turn.new.event
    (leads_on c.args.table.now c.args.comp.now Done whole this (rest ++ nexts) c.args.event.now.left c.turns.event.left c.run_turn.new.event.left (world c.args.event.now) (world c.turns.event) (world c.run_turn.new.event) c.turns.invariant.runs (rw c.in-Until.is at c.in_ok-halt.ensures.runs))
    (ap (λ is. is ++ nexts) (no_items args c.in-Until.rest.now (eqb-true _ _ (sym c.is_empty.ensures ∙ c.if-is_empty.true))) ∙ sym (c.in-None.ensures args body))
    c.turns.invariant.tasks

pub returns-in-Halted-clause-runs : goal.returns-in-Halted-clause-runs
returns-in-Halted-clause-runs c =
    let args = map plain c.args.arguments.now in
    let body = stmts c.args.body.now in
    let nexts = next_turns c.turns.turn args body in
    let whole = turn_item c.args.first args body ∷ [] in
    let this = turn_item c.turns.turn args body ∷ [] in
    let tasks = tasks_items args c.args.tasks.now.items in
    leads_nowhere c.args.table.now c.args.comp.now c.in-Halted.halt (whole ++ tasks) (nexts ++ tasks) (tasks_items args c.turns.tasks.items) c.args.event.now.left c.run_turn.new.event.left (world c.args.event.now) (world c.run_turn.new.event)
    (leads_before c.args.table.now c.args.comp.now (Halted c.in-Halted.halt) whole nexts tasks c.args.event.now.left c.run_turn.new.event.left (world c.args.event.now) (world c.run_turn.new.event)
    (leads_on c.args.table.now c.args.comp.now (Halted c.in-Halted.halt) whole this nexts c.args.event.now.left c.turns.event.left c.run_turn.new.event.left (world c.args.event.now) (world c.turns.event) (world c.run_turn.new.event) c.turns.invariant.runs (rw c.in-Halted.is at c.in_ok-halt.ensures.runs)))

pub returns-else-is_empty-clause-runs : goal.returns-else-is_empty-clause-runs
returns-else-is_empty-clause-runs c =
    let args = map plain c.args.arguments.now in
    let body = stmts c.args.body.now in
    let nexts = next_turns c.turns.turn args body in
    let whole = turn_item c.args.first args body ∷ [] in
    let this = turn_item c.turns.turn args body ∷ [] in
    let rest = items_of args (stmts c.in-Until.rest.now) in
    comes_behind c.args.table.now c.args.comp.now c.start_first.result args whole rest nexts c.args.tasks.now.items c.push_turn.new.tasks.items c.start_first.new.tasks.items c.args.event.now c.run_turn.new.event c.start_first.new.event
    (leads_on c.args.table.now c.args.comp.now Done whole this (rest ++ nexts) c.args.event.now.left c.turns.event.left c.run_turn.new.event.left (world c.args.event.now) (world c.turns.event) (world c.run_turn.new.event) c.turns.invariant.runs (rw c.in-Until.is at c.in_ok-halt.ensures.runs))
    (c.in_ok-push_turn-in-Until.ensures.runs args ∙ ap (λ is. is ++ tasks_items args c.turns.tasks.items) (c.next_turn-else-is_empty.ensures args body) ∙ ap (λ ts. nexts ++ tasks_items args ts) c.turns.invariant.tasks)
    c.start_first.ensures.runs
