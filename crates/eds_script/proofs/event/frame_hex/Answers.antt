use Rattle.std.proofs.Common.{ap, ◌∙◌}
use Rattle.hex.specs.Hex.{encode_lower}
use Rattle.eds_script.proofs.event.frame_hex.Goals as goal

pub returns : goal.returns
returns c =
    let packed = c.in_ok-octets.ensures in
    (packed.0, packed.1, c.in_ok-encode.ensures ∙ ap encode_lower (c.as_slice.ensures ∙ packed.2))
