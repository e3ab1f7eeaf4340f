use Rattle.std.proofs.Common.{get_or, refl, rules}
use Rattle.eds_plan.proofs.Called.{opened}
use Rattle.eds_cmd.proofs.Running.{IsBetween, between_first, between_last, between_next, between_storm}
use Rattle.eds_cmd.proofs.run.run_lines.Goals as goal

pub loop-rest-init : goal.loop-rest-init
loop-rest-init c =
    let k = between_first c.args.of.now.table.now c.args.of.now.plan.now c.args.script.now.lines c.as_slice-rest.result.now c.args.host.now c.new-report.result.items c.new-tally.result c.as_slice-rest.ensures c.new-report.ensures.items c.new-tally.ensures c.requires in
    record { over = k.over; stands = k.stands; may = k.may; run = k.run }

pub loop-rest-preserved : goal.loop-rest-preserved
loop-rest-preserved c =
    let i = c.loop-rest.invariant in
    let between : IsBetween c.args.of.now.table.now c.args.of.now.plan.now c.args.host.now.wires c.args.script.now.lines c.loop-rest.rest.now c.loop-rest.host c.loop-rest.report.items c.loop-rest.tally =
    record { over = i.over; stands = i.stands; may = i.may; run = i.run } in
    let first = get_or c.loop-rest.rest.now 0 c.index-rest-0-in-loop-rest.result in
    let split = opened c.loop-rest.rest.now first c.index-rest-0-in-loop-rest.result c.in-len1-up.len_at_least refl in
    let e = c.tell_line.ensures in
    let k = between_next c.args.of.now.table.now c.args.of.now.plan.now c.args.host.now.wires c.args.script.now.lines c.loop-rest.rest.now _ first c.loop-rest.host c.tell_line.new.host c.in_ok-handled.handled
    c.loop-rest.report.items c.tell_line.new.report.items c.loop-rest.tally c.tell_line.new.tally split between e.table e.plan e.wires c.in_ok-handled.ensures.phase e.more c.in_ok-handled.ensures.tells (search rules) in
    record { over = k.over; stands = k.stands; may = k.may; run = k.run }

pub returns-then-eq-clause-storm : goal.returns-then-eq-clause-storm
returns-then-eq-clause-storm c =
    let i = c.loop-rest.invariant in
    let between : IsBetween c.args.of.now.table.now c.args.of.now.plan.now c.args.host.now.wires c.args.script.now.lines c.loop-rest.rest.now c.loop-rest.host c.loop-rest.report.items c.loop-rest.tally =
    record { over = i.over; stands = i.stands; may = i.may; run = i.run } in
    let first = get_or c.loop-rest.rest.now 0 c.index-rest-0-in-loop-rest.result in
    let split = opened c.loop-rest.rest.now first c.index-rest-0-in-loop-rest.result c.in-len1-up.len_at_least refl in
    between_storm c.args.of.now.table.now c.args.of.now.plan.now c.args.host.now.wires c.args.script.now.lines c.loop-rest.rest.now _ first c.loop-rest.host c.tell_line.new.host c.in_ok-handled.handled
    c.loop-rest.report.items c.tell_line.new.report.items c.loop-rest.tally c.tell_line.new.tally c.in_ok-storm.field-0 split between c.in_ok-handled.ensures.tells (search rules) (search rules)

pub returns-clause-run : goal.returns-clause-run
returns-clause-run c =
    let i = c.loop-rest.invariant in
    let between : IsBetween c.args.of.now.table.now c.args.of.now.plan.now c.args.host.now.wires c.args.script.now.lines c.loop-rest.rest.now c.loop-rest.host c.loop-rest.report.items c.loop-rest.tally =
    record { over = i.over; stands = i.stands; may = i.may; run = i.run } in
    between_last c.args.of.now.table.now c.args.of.now.plan.now c.args.host.now.wires c.args.script.now.lines c.loop-rest.rest.now c.loop-rest.host c.loop-rest.report.items c.loop-rest.tally c.in_default.len_below between
