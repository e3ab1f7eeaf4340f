use Rattle.std.proofs.Common.{map, get_or, refl, string_bytes, arith}
use Rattle.eds_names.specs.Repeats.{named_at}
use Rattle.eds_names.proofs.RepeatsLemmas.{least-next}
use Rattle.eds_names.proofs.owned.least_repeat.Goals as goal

pub loop-node-preserved : goal.loop-node-preserved
loop-node-preserved c =
    least-next (named_at c.args.tree.now c.args.file) c.args.held.now c.loop-node.node-index (get_or c.args.held.now c.loop-node.node-index 0) 0 c.own_name-name.result.now c.own_name-name.result.now (map string_bytes c.loop-node.before.keys) (map string_bytes c.note_name.new.before.keys) c.loop-node.found c.in_ok-found.found _
    (omega arith) refl c.own_name-name.ensures c.own_name-name.ensures c.in_ok-found.ensures.before c.in_ok-found.ensures.found c.loop-node.invariant
