use Rattle.std.proofs.Common.{rules}
use Rattle.std.specs.Int.{w128}
use mir.Val.{SFits}
use Rattle.eds_unpack.proofs.Hulls.{greater_reached, lesser_reached}
use Rattle.eds_unpack.proofs.selector.common.Goals as goal

pub returns : goal.returns
returns c = λ n h k.
    (let one_low : SFits w128 c.args.one.low = search rules in
    let one_high : SFits w128 c.args.one.high = search rules in
    let other_low : SFits w128 c.args.other.low = search rules in
    let other_high : SFits w128 c.args.other.high = search rules in
    (greater_reached c.args.one.low c.args.other.low c.max.result n one_low other_low c.max.ensures.value h.0 k.0, lesser_reached c.args.one.high c.args.other.high c.min.result n one_high other_high c.min.ensures.value h.1 k.1))
