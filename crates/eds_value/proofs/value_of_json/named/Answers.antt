use Rattle.eds_value.proofs.Named.{named-here, named-past}
use Rattle.eds_value.proofs.value_of_json.named.Goals as goal

pub returns-then-is_named : goal.returns-then-is_named
returns-then-is_named c =
    named-here c.args.word.now c.args.table.now c.loop-i.i c.row.result.now c.is_named.result _ c.row.ensures c.is_named.ensures c.if-is_named.true c.loop-i.invariant

pub loop-i-preserved : goal.loop-i-preserved
loop-i-preserved c =
    named-past c.args.word.now c.args.table.now c.loop-i.i c.row.result.now c.is_named.result _ c.row.ensures c.is_named.ensures c.if-is_named.false c.loop-i.invariant
