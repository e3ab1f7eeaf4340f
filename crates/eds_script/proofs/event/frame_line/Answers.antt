use Rattle.std.proofs.Common.{ℕ, Vec, Global, ◌++◌, ◌∷◌, [], ap, ◌∙◌}
use Rattle.std.proofs.lemmas.Str.{IsUtf8-string_bytes}
use Rattle.std.specs.Prelude.{string_bytes}
use Rattle.hex.specs.Hex.{encode_lower}
use Rattle.eds_bits.specs.Bits.{octets_of}
use Rattle.eds_script.proofs.TextLines.{given-line, hex-utf8}
use Rattle.eds_script.proofs.event.frame_line.Goals as goal

pub returns-clause-text : goal.returns-clause-text
returns-clause-text c =
    let packed = c.in_ok-add_frame.ensures in
    let hex = encode_lower (octets_of packed.0) in
    given-line (string_bytes c.in_ok-head.field-0) c.push.new.self.items hex c.add_frame.new.text.items c.from_vec.result (IsUtf8-string_bytes c.in_ok-head.field-0) (hex-utf8 (octets_of packed.0))
    (c.in_ok-push.ensures.items ∙ ap (λ (v : Vec ℕ Global). v.items ++ 32 ∷ []) c.into_bytes-line.ensures.value) packed.2 (c.from_vec.ensures ∙ c.in_ok-push-2.ensures.items)
