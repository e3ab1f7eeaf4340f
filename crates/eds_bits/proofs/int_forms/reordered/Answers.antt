use Rattle.std.proofs.Common.{◌≡◌, ◌+◌, ◌-◌, ◌%◌, sym, ◌∙◌, ap, arith}
use Rattle.std.proofs.lemmas.Nat.{shr_below}
use Rattle.eds_bits.specs.Bits.{low_bits}
use Rattle.eds_bits.specs.Encodings.{order_bits, ordered}
use Rattle.eds_bits.proofs.Groups.{little-swapped}
use Rattle.eds_bits.proofs.int_forms.reordered.Goals as goal

pub returns-in-Little-clause-small : goal.returns-in-Little-clause-small
returns-in-Little-clause-small c =
    let all : c.args.form.bits + (64 - c.args.form.bits) ≡ 64 = omega arith in
    shr_below c.swap_bytes.result c.args.form.bits (64 - c.args.form.bits) (rw all (omega arith))

pub returns-in-Little-clause-bits : goal.returns-in-Little-clause-bits
returns-in-Little-clause-bits c =
    let octets : c.args.form.bits % 8 ≡ 0 = ap (λ order. c.args.form.bits % order_bits order) (sym c.in-Little.is) ∙ c.args.form.valid.whole_octets in
    rw (c.swap_bytes.ensures) (little-swapped c.args.form.bits c.args.raw octets c.args.form.valid.few ∙ ap (λ order. ordered order (low_bits c.args.form.bits c.args.raw)) (sym c.in-Little.is))
