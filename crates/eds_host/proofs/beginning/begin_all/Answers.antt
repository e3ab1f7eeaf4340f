use Rattle.std.proofs.Common.{length, map}
use Rattle.eds_plan.specs.Outs.{report}
use Rattle.eds_host.specs.Settings.{running, world}
use Rattle.eds_host.proofs.Beginnings.{begun_world, begun_outs, begun_states, begun_before}
use Rattle.eds_host.proofs.beginning.begin_all.Goals as goal

pub returns-clause-ok : goal.returns-clause-ok
returns-clause-ok c = let n = c.each_begins.new in begun_world (running c.args.setting.now) (length c.args.setting.now.plan.now) c.args.queue.now (world 0 n.states n.queue) (map report c.args.out.now) (map report n.out) c.requires.queue c.in_ok-each_begins.ensures.ok

pub returns-clause-outs : goal.returns-clause-outs
returns-clause-outs c = let n = c.each_begins.new in begun_outs (running c.args.setting.now) (length c.args.setting.now.plan.now) c.args.queue.now (world 0 n.states n.queue) (map report c.args.out.now) (map report n.out) c.requires.queue c.in_ok-each_begins.ensures.ok

pub returns-clause-states : goal.returns-clause-states
returns-clause-states c = begun_states c.args.setting.now.table.now c.args.setting.now.plan.now c.each_begins.new.states c.in_ok-each_begins.ensures.count c.in_ok-each_begins.ensures.states

pub returns-clause-before : goal.returns-clause-before
returns-clause-before c = begun_before c.args.setting.now.table.now c.args.setting.now.plan.now c.each_begins.new.states c.in_ok-each_begins.ensures.states
