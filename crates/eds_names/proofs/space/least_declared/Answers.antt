use Rattle.std.proofs.Common.{map, string_bytes, arith}
use Rattle.eds_names.specs.Declarations.{named_of}
use Rattle.eds_names.proofs.RepeatsLemmas.{least-next}
use Rattle.eds_names.proofs.space.least_declared.Goals as goal

pub loop-one-preserved : goal.loop-one-preserved
loop-one-preserved c =
    least-next named_of c.args.declared.now c.loop-one.one-index c.one-item.result c.one-item.result c.as_str.result.now c.as_str-in-loop-one.result.now (map string_bytes c.loop-one.before.keys) (map string_bytes c.note_name.new.before.keys) c.loop-one.found c.in_ok-found.found _
    (omega arith) c.one-item.is c.as_str.ensures c.as_str-in-loop-one.ensures c.in_ok-found.ensures.before c.in_ok-found.ensures.found c.loop-one.invariant
