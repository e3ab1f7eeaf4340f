use Rattle.std.proofs.Common.{◌≤◌, ◌<◌, length, sym, ap, subst, take, map, arith}
use Rattle.std.specs.Prelude.{IfSome}
use Rattle.std.proofs.lemmas.List.{length-take}
use Rattle.eds_bits.specs.Bits.{Bits, bits_of}
use Rattle.eds_bits.specs.Reader.{view_bits}
use Rattle.eds_types.specs.Overlap.{IsClear}
use Rattle.eds_types.specs.Plain.{fields, plains_of}
use Rattle.eds_types.specs.Rows.{Table}
use Rattle.eds_types.specs.Spelling.{Spells}
use Rattle.eds_unpack.specs.Scalars.{plain_of}
use Rattle.eds_cmd.specs.Target.{type_in}
use Rattle.eds_cmd.proofs.Splitting.{framing_for, packet_is}
use Rattle.eds_cmd.proofs.packet.scalars_at.Goals as goal

pub new-view-requires : goal.new-view-requires
new-view-requires c = let few = ap length c.window.ensures in omega (arith, few, length-take 65536 c.args.octets.now)

pub scalars_by-requires-clause-known : goal.scalars_by-requires-clause-known
scalars_by-requires-clause-known c = subst (λ (t : Table). c.args.packet_type.now.target.id.0 < length t) (sym c.args.packet_type.now.read_by) c.args.packet_type.now.known.there

pub scalars_by-requires-clause-clear : goal.scalars_by-requires-clause-clear
scalars_by-requires-clause-clear c = subst (λ (t : Table). IsClear t c.args.packet_type.now.target.id.0) (sym c.args.packet_type.now.read_by) c.args.packet_type.now.known.clear

pub returns-in-Some : goal.returns-in-Some
returns-in-Some c =
    let type = type_in c.args.packet_type.now.target in
    let judged = c.window.result.now in
    let n = c.in-Some.size in
    let vs = map plain_of c.scalars_by.new.room.items in
    let v = fields c.in-Some.found.0 (plains_of vs) in
    let fits = subst (λ o. IfSome o (λ x. x.1 ≤ length (view_bits c.new-view.result))) c.in-Some.is c.in_ok-found.ensures.size in
    let few : n ≤ length (bits_of judged) = omega (arith, fits, ap length c.new-view.ensures) in
    let told = subst (λ o. IfSome o (λ x. Spells c.args.packet_type.now.segments.now type.id (fields (x.0).0 (plains_of vs)) (take x.1 (view_bits c.new-view.result)))) c.in-Some.is c.in_ok-found.ensures.value in
    let spelled = subst (λ (t : Table). Spells t type.id v (take n (bits_of judged))) c.args.packet_type.now.read_by (subst (λ (b : Bits). Spells c.args.packet_type.now.segments.now type.id v (take n b)) c.new-view.ensures told) in
    packet_is type (framing_for c.empty_types.ensures type c.keeps_rules.ensures c.args.packet_type.now.known) v c.args.octets.now judged n c.octets_for.result c.window.ensures c.octets_for.ensures few spelled
