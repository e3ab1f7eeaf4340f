use Rattle.std.proofs.Common.{◌∙◌, ap, drop, length, nat_eq, min, arith}
use Rattle.std.proofs.lemmas.List.{get_or_default}
use Rattle.eds_bits.proofs.OctetLaws.{length-bits_of}
use Rattle.eds_bits.specs.Bits.{Bits}
use Rattle.eds_types.proofs.Binaries.{filled_if, filler_is}
use Rattle.eds_types.proofs.binary.has_filler.Goals as goal

pub after-requires : goal.after-requires
after-requires c =
    let e = ap length c.new.ensures in
    let l = length-bits_of c.args.octets.now in
    let r = c.requires in
    let f = c.from.ensures in
    omega arith

pub returns-in-Some : goal.returns-in-Some
returns-in-Some c =
    filled_if c.args.bits c.args.octets.now (λ k d h. rw (get_or_default c.args.octets.now k d 0 h) (omega (arith, c.type_inv.octets k))) c.requires (nat_eq c.in-Some.number 0)
    (ap (λ n. nat_eq n 0) (filler_is c.args.bits c.from.result _ c.in-Some.number c.args.octets.now _ (c.new-reader.ensures ∙ c.after.ensures ∙ ap (λ (z : Bits). drop c.from.result z) c.new.ensures) c.from.ensures c.requires (c.min-filler.ensures ∙ ap (λ n. min n 7) c.left.ensures) c.in-Some.ensures.value))
