use Rattle.std.proofs.Common.{◌≡◌, ◌<◌, ◌+◌, ◌∷◌, [], None, arith, ap, take, length, length-append}
use Rattle.eds_host.specs.Settings.{running}
use Rattle.eds_plan.specs.States.{state_now}
use Rattle.eds_host.proofs.Beginnings.{take_length, take_more, tied_more}
use Rattle.eds_host.proofs.Tied.{dues_length}
use Rattle.eds_host.proofs.beginning.all_due.Goals as goal

pub set-requires : goal.set-requires
set-requires c =
    let i = c.loop-i.i in let xs = c.args.states.now in
    let lt : i < length xs = omega (arith, c.loop-i-test.true, c.len-i-end.ensures, c.requires.states.all) in
    omega (arith, ap length c.in_ok-push.ensures, length-append c.loop-i.dues (None ∷ []), ap length c.loop-i.invariant, dues_length (running c.args.setting.now) 0 (take i xs), take_length xs i lt)

pub loop-i-preserved : goal.loop-i-preserved
loop-i-preserved c =
    let i = c.loop-i.i in let xs = c.args.states.now in
    let lt : i < length xs = omega (arith, c.loop-i-test.true, c.len-i-end.ensures, c.requires.states.all) in
    tied_more (running c.args.setting.now) c.loop-i.dues c.push.new.self c.set.new.self (take i xs) (take (i + 1) xs) (state_now c.at.result.now) i c.next_due-due.result (take_length xs i lt) c.loop-i.invariant c.in_ok-push.ensures c.in_ok-set.ensures c.next_due-due.ensures (take_more xs i (state_now c.at.result.now) c.at.ensures)
