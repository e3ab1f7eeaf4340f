use Rattle.std.proofs.Common.{rules, ◌+◌, length, refl, sym, ap, ◌∙◌, append-nil, arith}
use Rattle.eds_snap.specs.Texts.{machine_line}
use Rattle.eds_plan.proofs.Called.{opened}
use Rattle.eds_script.proofs.PairLaws.{texts-end, texts-step}
use Rattle.eds_snap.proofs.print.add_machines.Goals as goal

pub returns-in_default-get : goal.returns-in_default-get
returns-in_default-get c =
    let split = opened c.loop-rest.rest.now c.machine-item.result _ c.in-len1-up.len_at_least c.machine-item.is in
    sym (append-nil c.loop-rest.text.items) ∙ texts-end (machine_line c.args.component.now.name) c.loop-rest.rest.now _ c.machine-item.result c.loop-rest.place c.args.states.now c.loop-rest.text.items _ split (sym c.in_default-get.ensures) c.loop-rest.invariant.told

pub loop-rest-preserved : goal.loop-rest-preserved
loop-rest-preserved c =
    let split = opened c.loop-rest.rest.now c.machine-item.result _ c.in-len1-up.len_at_least c.machine-item.is in
    let long = ap length split in
    record {
      told = texts-step (machine_line c.args.component.now.name) c.loop-rest.rest.now _ c.machine-item.result c.loop-rest.place (c.loop-rest.place + 1) c.args.states.now c.in-Some.state.now c.loop-rest.text.items c.add_machine.new.text.items _ _ split (sym c.in-Some.ensures) (search rules) refl c.in_ok-add_machine.ensures c.loop-rest.invariant.told;
      within = omega (arith, long, c.loop-rest.invariant.within);
    }
