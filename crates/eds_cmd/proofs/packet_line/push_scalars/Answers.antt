use Rattle.std.proofs.Common.{◌≡◌, ◌++◌, List, [], codes, length, map, rules, string_bytes, subst, arith}
use Rattle.std.specs.Prelude.{IfSome}
use Rattle.std.proofs.lemmas.List.{length-map}
use Rattle.eds_types.specs.Plain.{fields, plains_of}
use Rattle.eds_types.specs.Rows.{Table}
use Rattle.eds_unpack.specs.declared.scalar.Scalar.{Scalar}
use Rattle.eds_unpack.specs.Scalars.{plain_of}
use Rattle.eds_value.specs.JsonOfValue.{json_of_value}
use Rattle.eds_value.specs.Layouts.{IsLayoutOf, laid_text}
use Rattle.eds_cmd.specs.Split.{HoldsPacket}
use Rattle.eds_cmd.specs.Target.{type_in}
use Rattle.eds_cmd.proofs.PacketLines.{straight_put}
use Rattle.eds_cmd.proofs.packet_line.push_scalars.Goals as goal

pub returns-clause-line : goal.returns-clause-line
returns-clause-line c =
    let type = type_in c.args.packet_type.now.target in
    let ss = c.scalars_at.new.room.items in
    let k = c.in-Some.found.0 in
    let l = c.in-Some-find.layout.now in
    let holds = subst (λ o. IfSome o (λ x. HoldsPacket type (fields (x.0).0 (plains_of (map plain_of ss))) c.args.octets.now x.1)) c.in-Some.is c.in_ok-found.ensures in
    let is = subst (λ (t : Table). IsLayoutOf t k l) c.args.packet_type.now.put_by c.in-Some-find.ensures.layout in
    let long : length (map plain_of ss) ≡ l.count = omega (arith, length-map ss plain_of, c.in-Some-find.ensures.count, c.len.ensures) in
    let newline : c.put_text.new.self ≡ codes "\n" ++ [] = search rules in
    let laid = subst (λ (xs : List Scalar). c.put_object.new.line ≡ laid_text (map (json_of_value type.table) (map plain_of xs)) l ++ c.put_text.new.self) c.as_slice.ensures.value (c.in_ok-put_object.ensures type.table) in
    let pushed : string_bytes c.push_str.new.self ≡ string_bytes c.args.report.now ++ c.put_object.new.line = search rules in
    straight_put type k l (map plain_of ss) c.args.octets.now c.in-Some.size (string_bytes c.args.report.now) c.put_text.new.self c.put_object.new.line (string_bytes c.push_str.new.self) is long holds newline laid pushed
