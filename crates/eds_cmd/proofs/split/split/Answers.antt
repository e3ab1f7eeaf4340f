use Rattle.std.proofs.Common.{◌≡◌, ◌++◌, drop, length, rules, string_bytes, subst, arith}
use Rattle.eds_io.proofs.Pieces.{take-rest}
use Rattle.eds_unpack.specs.Pieces.{IsLastFault}
use Rattle.eds_cmd.specs.Split.{TakesPacket, framing_of, packets_line}
use Rattle.eds_cmd.specs.Target.{type_in}
use Rattle.eds_cmd.proofs.Splitting.{cut_off_by, cut_to_more, split_by}
use Rattle.eds_cmd.proofs.split.split.Goals.{in-Some, in-None+in-Ok}
use Rattle.eds_cmd.proofs.split.split.Goals as goal

pub loop-at-preserved : goal.loop-at-preserved
loop-at-preserved c =
    let type = type_in c.args.target.now in
    let octets = c.args.octets.now in
    let at = c.loop-at.at in
    let old = string_bytes c.loop-at.report in
    let got : TakesPacket type (drop at octets) c.match-taken.size old (string_bytes c.match-taken.report) = elim c.match-taken.branch [
      | in-Some w ↦ rw (w.size-is, w.report-is) (subst (λ x. TakesPacket type x w.in-Some.size old (string_bytes c.take_value.new.report)) (take-rest octets at) (rw w.in-Some.is at c.in_ok-taken.ensures.line))
      | in-None+in-Ok w ↦
          let same : string_bytes c.take_value.new.report ≡ old = rw w.in-None.is at c.in_ok-taken.ensures.none in
          rw (w.size-is, w.report-is) (subst (λ o. TakesPacket type (drop at octets) w.in-Ok.size o (string_bytes w.take_packet.new.report)) same
          (subst (λ x. TakesPacket type x w.in-Ok.size (string_bytes c.take_value.new.report) (string_bytes w.take_packet.new.report)) (take-rest octets at) w.in-Ok.ensures.line))
    ] in
    cut_to_more type octets at c.loop-at.packets c.match-taken.size old (string_bytes c.match-taken.report) c.loop-at.invariant got

pub returns-in-Err-Named : goal.returns-in-Err-Named
returns-in-Err-Named c =
    let type = type_in c.args.target.now in
    let fails = subst (λ x. IsLastFault (framing_of type) x c.in-Err-Named.fault) (take-rest c.args.octets.now c.loop-at.at) (rw c.in-Err-Named.field-0-is at c.in-Err-Named.ensures.fault) in
    cut_off_by type c.args.octets.now c.loop-at.at c.loop-at.packets (string_bytes c.loop-at.report) c.in-Err-Named.fault c.in_ok-packet_fault-in-Err-Named.field-0 c.loop-at.invariant c.loop-at-test.true fails (rw c.in-Err-Named.fault-is at c.in_ok-packet_fault-in-Err-Named.ensures)

pub returns : goal.returns
returns c =
    let type = type_in c.args.target.now in
    let is : string_bytes c.push_str.new.self ≡ string_bytes c.loop-at.report ++ packets_line c.loop-at.packets (length c.args.octets.now) = search rules in
    split_by type c.args.octets.now c.loop-at.at c.loop-at.packets (string_bytes c.loop-at.report) (string_bytes c.push_str.new.self) c.loop-at.invariant (omega (arith, c.loop-at-test.false)) is
