use Rattle.std.proofs.Common.{◌≡◌, refl, arith, to_z, of_z}
use Rattle.std.proofs.lemmas.Int.{ints, to_z-of_z}
use mir.Syntax.{w128}
use Rattle.eds_bits.specs.Bits.{low_bits}
use Rattle.eds_bits.specs.Style.{canonical}
use Rattle.eds_bits.specs.IntForms.{HasNumber, IsNumber}
use Rattle.eds_bits.specs.declared.forms.Encoding.TheVariants.{Unsigned, TwosComplement, SignMagnitude, OnesComplement, PackedBcd, Bcd}
use Rattle.eds_bits.proofs.PatternLaws.{IsWritten}
use Rattle.eds_bits.proofs.FormLaws.{only_numbers, canonical_pattern, written_by, digits_written_by, whole_packed, whole_bcd}
use Rattle.eds_bits.proofs.int_forms.encode_int.Goals as goal
use Rattle.eds_bits.proofs.int_forms.encode_int.Goals.{then-n-bounds-via-then-n-bounds, then-n-bounds-via-else-n-bounds+then-bounds-n, in-Unsigned, in-TwosComplement, in-SignMagnitude, in-OnesComplement, in-PackedBcd, in-Bcd}

pub returns-then-n-bounds-clause-none : goal.returns-then-n-bounds-clause-none
returns-then-n-bounds-clause-none c =
    let outside : HasNumber c.args.form c.args.n → ⊥ = λ h. elim c.then-n-bounds.branch [
      | then-n-bounds-via-then-n-bounds w ↦ omega (arith, ints, h.from_least, w.if-n-bounds.true, c.bounds_of-bounds.ensures.least)
      | then-n-bounds-via-else-n-bounds+then-bounds-n w ↦ omega (arith, ints, h.to_greatest, w.if-bounds-n.true, c.bounds_of-bounds.ensures.greatest)
    ] in
    (λ e bits i. outside (only_numbers c.args.form c.args.n bits i), λ none. refl)

-- the number that an encoding is given
passed : (c : goal.After-reordered) → to_z w128 (of_z w128 c.args.n) ≡ c.args.n
passed c = to_z-of_z w128 c.args.n c.ranges.n

is_written : (c : goal.After-reordered) → IsWritten c.args.form.encoding c.args.form.bits c.args.n c.match-form.raw
is_written c = elim c.match-form.branch [
  | in-Unsigned w ↦ written_by c.args.form c.args.n _ Unsigned c.match-form.raw w.encode-raw.result w.in-Unsigned.is w.raw-is (passed c) w.encode-raw.ensures.small w.encode-raw.ensures.number w.encode-raw.ensures.zero
  | in-TwosComplement w ↦ written_by c.args.form c.args.n _ TwosComplement c.match-form.raw w.encode-raw-in-TwosComplement.result w.in-TwosComplement.is w.raw-is (passed c) w.encode-raw-in-TwosComplement.ensures.small w.encode-raw-in-TwosComplement.ensures.number w.encode-raw-in-TwosComplement.ensures.zero
  | in-SignMagnitude w ↦ written_by c.args.form c.args.n _ SignMagnitude c.match-form.raw w.encode-raw-in-SignMagnitude.result w.in-SignMagnitude.is w.raw-is (passed c) w.encode-raw-in-SignMagnitude.ensures.small w.encode-raw-in-SignMagnitude.ensures.number w.encode-raw-in-SignMagnitude.ensures.zero
  | in-OnesComplement w ↦ written_by c.args.form c.args.n _ OnesComplement c.match-form.raw w.encode-raw-in-OnesComplement.result w.in-OnesComplement.is w.raw-is (passed c) w.encode-raw-in-OnesComplement.ensures.small w.encode-raw-in-OnesComplement.ensures.number w.encode-raw-in-OnesComplement.ensures.zero
  | in-PackedBcd w ↦ digits_written_by c.args.form c.args.n _ PackedBcd 4 c.match-form.raw w.encode-raw-in-PackedBcd.result w.in-PackedBcd.is (whole_packed c.args.form w.in-PackedBcd.is) w.raw-is (passed c) w.encode-raw-in-PackedBcd.ensures.small w.encode-raw-in-PackedBcd.ensures.number w.encode-raw-in-PackedBcd.ensures.zero
  | in-Bcd w ↦ digits_written_by c.args.form c.args.n _ Bcd 8 c.match-form.raw w.encode-raw-in-Bcd.result w.in-Bcd.is (whole_bcd c.args.form w.in-Bcd.is) w.raw-is (passed c) w.encode-raw-in-Bcd.ensures.small w.encode-raw-in-Bcd.ensures.number w.encode-raw-in-Bcd.ensures.zero
]

pattern : (c : goal.After-reordered) → IsNumber canonical c.args.form c.args.n (low_bits c.args.form.bits c.reordered.result)
pattern c = canonical_pattern c.args.form c.args.n (low_bits c.args.form.bits c.reordered.result) c.match-form.raw (is_written c) c.reordered.ensures.bits

pub returns-clause-none : goal.returns-clause-none
returns-clause-none c = (λ e. absurd cc, λ none. absurd (none (low_bits c.args.form.bits c.reordered.result) (pattern c).is))

pub returns-clause-pattern : goal.returns-clause-pattern
returns-clause-pattern c = pattern c
