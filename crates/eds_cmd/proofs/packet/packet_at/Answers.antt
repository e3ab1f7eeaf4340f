use Rattle.std.proofs.Common.{◌≤◌, length, sym, ap, subst, take, arith}
use Rattle.std.proofs.lemmas.List.{length-take}
use Rattle.eds_bits.specs.Bits.{Bits, bits_of}
use Rattle.eds_bits.proofs.OctetLaws.{length-bits_of}
use Rattle.eds_types.specs.Failing.{FailsAt}
use Rattle.eds_types.specs.Plain.{plain}
use Rattle.eds_types.specs.Spelling.{Spells}
use Rattle.eds_unpack.specs.Pieces.{IsLastFault}
use Rattle.eds_cmd.specs.Split.{framing_of}
use Rattle.eds_cmd.specs.Target.{type_in}
use Rattle.eds_cmd.proofs.Splitting.{failure_is, framing_for, packet_is}
use Rattle.eds_cmd.proofs.packet.packet_at.Goals as goal

pub new-view-requires : goal.new-view-requires
new-view-requires c = let few = ap length c.window.ensures in omega (arith, few, length-take 65536 c.args.octets.now)

pub unpack_in-requires-clause-most : goal.unpack_in-requires-clause-most
unpack_in-requires-clause-most c =
    let few = ap length c.window.ensures in
    let bits = ap length c.new-view.ensures in
    omega (arith, few, bits, length-take 65536 c.args.octets.now, length-bits_of c.window.result.now)

pub returns-in-Ok-clause-packet : goal.returns-in-Ok-clause-packet
returns-in-Ok-clause-packet c =
    let type = type_in c.args.packet_type.now.target in
    let judged = c.window.result.now in
    let few : c.in-Ok.size ≤ length (bits_of judged) = omega (arith, c.in-Ok.ensures.size, ap length c.new-view.ensures) in
    let spelled = subst (λ (b : Bits). Spells type.table type.id (plain c.in-Ok.value) (take c.in-Ok.size b)) c.new-view.ensures c.in-Ok.ensures.value in
    packet_is type (framing_for c.empty_types.ensures type c.keeps_rules.ensures c.args.packet_type.now.known) (plain c.in-Ok.value) c.args.octets.now judged c.in-Ok.size c.octets_for.result c.window.ensures c.octets_for.ensures few spelled

pub returns-in-Err-Named-clause-fault : goal.returns-in-Err-Named-clause-fault
returns-in-Err-Named-clause-fault c =
    let type = type_in c.args.packet_type.now.target in
    let read = subst (λ (b : Bits). FailsAt type.table type.id b c.in-Err-Named.fault) c.new-view.ensures (rw c.in-Err-Named.field-0-is at c.in-Err-Named.ensures.fault) in
    let fails = subst (λ octets. FailsAt type.table type.id (bits_of octets) c.in-Err-Named.fault) c.window.ensures read in
    subst (λ g. IsLastFault (framing_of type) c.args.octets.now g) (sym c.packet_fails.ensures) (failure_is type c.args.octets.now c.in-Err-Named.fault fails)
