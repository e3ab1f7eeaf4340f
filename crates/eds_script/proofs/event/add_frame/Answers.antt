use Rattle.std.proofs.Common.{◌≡◌, ◌++◌, take, length, ap, ◌∙◌, arith}
use Rattle.std.proofs.lemmas.List.{take_at}
use Rattle.hex.specs.Hex.{encode_lower}
use Rattle.eds_bits.specs.Bits.{octets_of}
use Rattle.eds_bits.proofs.OctetLaws.{length-octets_of}
use Rattle.eds_script.proofs.Printing.{when-done}
use Rattle.eds_script.proofs.event.add_frame.Goals as goal

pub returns-in-Ok : goal.returns-in-Ok
returns-in-Ok c =
    let spelled = c.in-Ok.ensures.size in
    let count : length (octets_of spelled.0) ≡ c.div_ceil.result = omega (arith, c.div_ceil.ensures, length-octets_of spelled.0, spelled.2) in
    let octets = ap (take c.div_ceil.result) (c.in-Ok.ensures.written spelled.0 spelled.1) ∙ take_at (octets_of spelled.0) _ c.div_ceil.result count in
    when-done c.add_hex.result (λ put. (spelled.0, spelled.1, put ∙ ap (λ o. c.args.text.now.items ++ encode_lower o) octets)) c.add_hex.ensures

pub returns-in_ok-hex-in-Err : goal.returns-in_ok-hex-in-Err
returns-in_ok-hex-in-Err c =
    let hex = c.in_ok-hex-in-Err.ensures in
    when-done c.push_octets.result (λ put. (hex.0, hex.1, put ∙ ap (λ o. c.args.text.now.items ++ o) (c.as_bytes.ensures.value ∙ hex.2))) c.push_octets.ensures
