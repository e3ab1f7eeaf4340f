use Rattle.std.proofs.Common.{◌≤◌, length, ap, subst, take, arith}
use Rattle.std.specs.Prelude.{IfSome}
use Rattle.std.proofs.lemmas.List.{length-take}
use Rattle.eds_bits.specs.Bits.{Bits, bits_of}
use Rattle.eds_bits.specs.Reader.{view_bits}
use Rattle.eds_bits.proofs.OctetLaws.{length-bits_of}
use Rattle.eds_types.specs.Plain.{plain}
use Rattle.eds_types.specs.Spelling.{Spells}
use Rattle.eds_cmd.specs.Target.{type_in}
use Rattle.eds_cmd.proofs.Splitting.{framing_for, packet_is}
use Rattle.eds_cmd.proofs.packet.value_at.Goals as goal

pub new-view-requires : goal.new-view-requires
new-view-requires c = let few = ap length c.window.ensures in omega (arith, few, length-take 65536 c.args.octets.now)

pub value_by-requires-clause-most : goal.value_by-requires-clause-most
value_by-requires-clause-most c =
    let few = ap length c.window.ensures in
    let bits = ap length c.new-view.ensures in
    omega (arith, few, bits, length-take 65536 c.args.octets.now, length-bits_of c.window.result.now)

pub returns-in-Some : goal.returns-in-Some
returns-in-Some c =
    let type = type_in c.args.packet_type.now.target in
    let judged = c.window.result.now in
    let n = c.in-Some.size in
    let v = plain c.in-Some.value in
    let fits = subst (λ o. IfSome o (λ x. x.1 ≤ length (view_bits c.new-view.result))) c.in-Some.is c.in_ok-value.ensures.size in
    let few : n ≤ length (bits_of judged) = omega (arith, fits, ap length c.new-view.ensures) in
    let told = subst (λ o. IfSome o (λ x. Spells type.table type.id (plain x.0) (take x.1 (view_bits c.new-view.result)))) c.in-Some.is c.in_ok-value.ensures.value in
    let spelled = subst (λ (b : Bits). Spells type.table type.id v (take n b)) c.new-view.ensures told in
    packet_is type (framing_for c.empty_types.ensures type c.keeps_rules.ensures c.args.packet_type.now.known) v c.args.octets.now judged n c.octets_for.result c.window.ensures c.octets_for.ensures few spelled
