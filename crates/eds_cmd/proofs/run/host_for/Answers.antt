use Rattle.eds_script.specs.Seen.{plot_seen}
use Rattle.eds_cmd.proofs.Running.{host_ready}
use Rattle.eds_cmd.proofs.run.host_for.Goals as goal

pub returns-in-Ok-clause-ready : goal.returns-in-Ok-clause-ready
returns-in-Ok-clause-ready c =
    let e = c.in-Ok.ensures in
    host_ready c.scripts_may_run.ensures c.scripts_may_be_handled.ensures c.args.of.now.table.now c.args.of.now.plan.now c.requires.script.0 (plot_seen c.args.script.now) c.in-Ok.host
    c.keeps_rules.ensures c.requires.runnable c.requires.script.1 e.table e.plan e.wires e.world e.phase
