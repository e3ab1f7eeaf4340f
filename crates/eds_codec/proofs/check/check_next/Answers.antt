use Rattle.std.proofs.Common.{◌≡◌, ℕ, ◌++◌, ◌-◌, ◌*◌, ◌/◌, ◌%◌, take, drop, false, replicate, ap, ◌∙◌, arith}
use Rattle.eds_bits.specs.Bits.{Bits, low_bits}
use Rattle.eds_bits.specs.Reader.{bits_left}
use Rattle.eds_bits.specs.Scalars.{check_of_octets}
use Rattle.eds_bits.specs.Texts.{front_octets}
use Rattle.eds_codec.proofs.Binaries.{octets_last}
use Rattle.eds_codec.proofs.Checks.{checked_below}
use Rattle.eds_codec.proofs.check.check_next.Goals as goal

pub check_more-requires : goal.check_more-requires
check_more-requires c = checked_below c.args.kind c.check_ahead-check.result (bits_left c.args.reader) (c.args.bits / 8) c.check_ahead-check.ensures

pub returns : goal.returns
returns c =
    let bs : Bits = bits_left c.args.reader in
    let whole : ℕ = c.args.bits / 8 in
    let piece : low_bits 8 c.last_octet-octet.result ≡ take (c.args.bits % 8) (drop (8 * whole) bs) ++ replicate (8 - c.args.bits % 8) false =
    c.last_octet-octet.ensures.value ∙ ap (λ r. take (c.args.bits % 8) r ++ replicate (8 - c.args.bits % 8) false) (c.skip.ensures ∙ ap (λ k. drop (8 * k) (bits_left c.args.reader)) c.from.ensures) in
    c.from-2.ensures ∙ c.check_more.ensures (front_octets whole bs) c.check_ahead-check.ensures
    ∙ ap (check_of_octets c.args.kind) (octets_last bs c.args.bits whole (c.args.bits % 8) c.last_octet-octet.result (omega arith) (omega arith) (omega arith) c.requires c.last_octet-octet.type_inv piece)
