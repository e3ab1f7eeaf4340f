use Rattle.std.proofs.Common.{◌≡◌, ◌++◌, [], Some, codes, ap, length, map, rules, string_bytes, subst, arith}
use Rattle.std.specs.Prelude.{IfSome}
use Rattle.std.proofs.lemmas.List.{length-map}
use Rattle.eds_types.specs.Plain.{fields, plains_of}
use Rattle.eds_types.specs.Rows.{Table}
use Rattle.eds_unpack.proofs.Meanings.{on_true}
use Rattle.eds_value.specs.Layouts.{IsLayoutOf}
use Rattle.eds_cmd.specs.Split.{HoldsPacket}
use Rattle.eds_cmd.specs.Target.{type_in}
use Rattle.eds_cmd.proofs.PacketLines.{straight_put}
use Rattle.eds_cmd.proofs.packet_line.push_entries.Goals as goal

pub put_entries-requires : goal.put_entries-requires
put_entries-requires c =
    let type = type_in c.args.packet_type.now.target in
    let l = c.in-Some-find.layout.now in
    let is = subst (λ (t : Table). IsLayoutOf t type.id l) c.args.packet_type.now.put_by c.in-Some-find.ensures.layout in
    λ i lt. is.each i (omega (arith, lt, c.in-Some-find.ensures.count, c.len.ensures))

pub returns-clause-line : goal.returns-clause-line
returns-clause-line c =
    let type = type_in c.args.packet_type.now.target in
    let l = c.in-Some-find.layout.now in
    let is = subst (λ (t : Table). IsLayoutOf t type.id l) c.args.packet_type.now.put_by c.in-Some-find.ensures.layout in
    let put = on_true c.in_ok-put_entries.field-0 c.in_ok-put_entries.ensures c.if-not-branch.false in
    let vs = put.0 in
    let long : length vs ≡ l.count = omega (arith, ap length put.1, length-map vs Some, c.in-Some-find.ensures.count, c.len.ensures) in
    let holds = subst (λ o. IfSome o (λ x. x.0 ≡ map Some vs → HoldsPacket type (fields type.id (plains_of vs)) c.args.octets.now x.1)) c.in-Some.is (c.entries_at.ensures vs) put.1 in
    let newline : c.put_text.new.self ≡ codes "\n" ++ [] = search rules in
    let pushed : string_bytes c.push_str.new.self ≡ string_bytes c.args.report.now ++ c.put_entries.new.line = search rules in
    straight_put type type.id l vs c.args.octets.now c.in-Some.size (string_bytes c.args.report.now) c.put_text.new.self c.put_entries.new.line (string_bytes c.push_str.new.self) is long holds newline (put.2 type.table) pushed
