use Rattle.std.proofs.Common.{ℕ, ◌+◌, List, ap, subst, ◌∙◌}
use Rattle.std.specs.Bool.{OnTrue}
use Rattle.eds_bits.specs.Texts.{IsBinary}
use Rattle.eds_codec.specs.Writing.{Written}
use Rattle.eds_types.specs.Plain.{plain}
use Rattle.eds_pack.proofs.Plains.{plain_bits}
use Rattle.eds_pack.proofs.Putting.{binary_put}
use Rattle.eds_pack.proofs.leaf.write_bits.Goals as goal

pub returns : goal.returns
returns c =
    binary_put c.in-Bits.bits c.in-Bits.octets (plain c.args.value.now) c.args.at _ c.args.room.now c.write_binary.new.room c.write_binary.result (ap plain c.in-Bits.is ∙ plain_bits c.in-Bits.bits c.in-Bits.octets) c.write_binary.ensures.enough
    (subst (λ (os : List ℕ). OnTrue c.write_binary.result (Written (IsBinary c.in-Bits.bits os) c.args.at c.args.room.now c.write_binary.new.room)) c.as_slice.ensures c.write_binary.ensures.written)
    (ap (λ n. c.args.at + n) c.from.ensures)
