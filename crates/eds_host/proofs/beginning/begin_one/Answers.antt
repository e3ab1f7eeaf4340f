use Rattle.std.proofs.Common.{◌∷◌, [], None, arith, ap, sym, subst, length, length-append, List}
use Rattle.eds_host.specs.Plans.{AreBegun}
use Rattle.eds_host.specs.Settings.{running}
use Rattle.eds_plan.specs.States.{StateNow, state_now}
use Rattle.eds_host.proofs.Tied.{dues_length}
use Rattle.eds_host.proofs.Beginnings.{begun_more, tied_more}
use Rattle.eds_host.proofs.beginning.begin_one.Goals as goal

pub set-requires : goal.set-requires
set-requires c = omega (arith, c.requires.so_far, ap length c.requires.tied, dues_length (running c.args.setting.now) 0 c.args.states.now, ap length c.in_ok-push.ensures, length-append c.args.dues.now (None ∷ []))

pub returns-clause-so_far : goal.returns-clause-so_far
returns-clause-so_far c = omega (arith, c.requires.so_far, ap length c.in_ok-push-2.ensures.ok, length-append c.args.states.now (state_now c.in_ok-state.state ∷ []))

pub returns-clause-states : goal.returns-clause-states
returns-clause-states c = subst (λ (ys : List StateNow). AreBegun c.args.setting.now.table.now c.args.setting.now.plan.now ys) (sym c.in_ok-push-2.ensures.ok)
    (begun_more c.args.setting.now.table.now c.args.setting.now.plan.now c.args.states.now (state_now c.in_ok-state.state) c.args.comp.0 c.requires.so_far c.requires.states c.in_ok-state.ensures.keeps c.in_ok-state.ensures.later)

pub returns-clause-tied : goal.returns-clause-tied
returns-clause-tied c = tied_more (running c.args.setting.now) c.args.dues.now c.push.new.self c.set.new.self c.args.states.now c.push-2.new.self (state_now c.in_ok-state.state) c.args.comp.0 c.next_due-due.result c.requires.so_far c.requires.tied c.in_ok-push.ensures c.in_ok-set.ensures c.next_due-due.ensures c.in_ok-push-2.ensures.ok
