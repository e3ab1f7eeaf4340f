use Rattle.std.proofs.Common.{◌∙◌, sym, ap, arith}
use Rattle.eds_unpack.specs.Segments.{in_order}
use Rattle.eds_unpack.proofs.Meanings.{swapped_is}
use Rattle.eds_unpack.proofs.meaning.in_order.Goals as goal

pub returns-then-little-clause-value : goal.returns-then-little-clause-value
returns-then-little-clause-value c =
    (swapped_is c.args.bits c.args.number (c.requires.whole c.if-little.true) (omega arith) c.swap_bytes.result c.swap_bytes.ensures (omega arith)).0
    ∙ sym (ap (λ b. in_order b c.args.bits c.args.number) c.if-little.true)

pub returns-then-little-clause-bound : goal.returns-then-little-clause-bound
returns-then-little-clause-bound c = (swapped_is c.args.bits c.args.number (c.requires.whole c.if-little.true) (omega arith) c.swap_bytes.result c.swap_bytes.ensures (omega arith)).1

pub returns-else-little-clause-value : goal.returns-else-little-clause-value
returns-else-little-clause-value c = sym (ap (λ b. in_order b c.args.bits c.args.number) c.if-little.false)
