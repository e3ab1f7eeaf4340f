use Rattle.std.proofs.Common.{◌≡◌, ◌≤◌, length, take, sym, ap, subst, ◌∙◌, arith}
use Rattle.std.proofs.lemmas.List.{length-take}
use Rattle.eds_bits.specs.Bits.{Bits, bits_of, octets_for}
use Rattle.eds_bits.proofs.OctetLaws.{length-bits_of}
use Rattle.eds_types.specs.Plain.{plain}
use Rattle.eds_types.specs.Spelling.{Spells}
use Rattle.eds_unpack.specs.Holding.{Holding}
use Rattle.eds_unpack.specs.Packets.{Framing}
use Rattle.eds_unpack.specs.Splitting.{Splitting, BeginsWith}
use Rattle.eds_unpack.proofs.Cutting.{packet_of}
use Rattle.eds_unpack.proofs.Taking.{packet_read, octets_there}
use Rattle.eds_unpack.proofs.splitter.Splitter.take_next.Goals as goal

pub value_of-requires-clause-most : goal.value_of-requires-clause-most
value_of-requires-clause-most c =
    let bits = ap length c.new.ensures in
    let octets = length-bits_of c.judged-octets.result.now in
    let judged = ap length c.judged-octets.ensures in
    let few = length-take c.self.inside.most c.as_slice.result.now in
    omega (arith, bits, octets, judged, few, c.self.invariant.most)

pub pass-requires : goal.pass-requires
pass-requires c =
    let judged = c.judged-octets.ensures ∙ ap (take c.self.inside.most) c.as_slice.ensures.value in
    let size : c.div_ceil.result ≡ octets_for c.in-Ok.bits = omega arith in
    let few : c.in-Ok.bits ≤ length (bits_of c.judged-octets.result.now) = omega (arith, c.in-Ok.ensures.size, ap length c.new.ensures) in
    octets_there c.self.inside.most c.self.inside.held.octets c.judged-octets.result.now c.in-Ok.bits c.div_ceil.result judged size few

pub returns-in-Ok-clause-takes : goal.returns-in-Ok-clause-takes
returns-in-Ok-clause-takes c =
    let framing : Framing = record { table = c.self.inside.program.now.table; id = c.self.inside.program.now.id; most = c.self.inside.most } in
    let held = c.self.inside.held.octets in
    let octets = c.judged-octets.result.now in
    let judged = c.judged-octets.ensures ∙ ap (take c.self.inside.most) c.as_slice.ensures.value in
    let size : c.div_ceil.result ≡ octets_for c.in-Ok.bits = omega arith in
    let few : c.in-Ok.bits ≤ length (bits_of octets) = omega (arith, c.in-Ok.ensures.size, ap length c.new.ensures) in
    let spelled : Spells framing.table framing.id (plain c.in-Ok.value) (take c.in-Ok.bits (bits_of octets)) = subst (λ (b : Bits). Spells framing.table framing.id (plain c.in-Ok.value) (take c.in-Ok.bits b)) c.new.ensures c.in-Ok.ensures.value in
    let begins = packet_read framing held octets (plain c.in-Ok.value) c.in-Ok.bits c.div_ceil.result judged size few spelled in
    let left = ap (λ (h : Holding). h.octets) (sym c.pass.ensures) in
    let packet = packet_of (plain c.in-Ok.value) c.in-Ok.bits in
    (subst (λ (s : Splitting). BeginsWith s.framing packet s.held c.pass.new.self.octets) c.self.view_is (subst (BeginsWith framing packet held) left begins), ap (λ (s : Splitting). s.framing) c.self.view_is)
