-- The domains of integer types and sub-ranges: the numbers that their forms and their ranges have in common.
use Rattle.std.specs.Prelude.{ℤ, pos, ◌+ℤ◌, ◌-ℤ◌, int_le, List, [], ◌∷◌, Bool, true, false, if◌then◌else◌}
use Rattle.std.specs.Int.{int_max, int_min}
use Rattle.std.specs.List.{flat_map}
use Rattle.eds_base.specs.declared.spans.Span.{Span}
use Rattle.eds_bits.specs.declared.forms.IntForm.{IntForm}
use Rattle.eds_bits.specs.IntForms.{least, greatest}
use Rattle.eds_domains.specs.declared.range.End.{End}
use Rattle.eds_domains.specs.declared.range.End.TheVariants.{Open, Inclusive, Exclusive}
use Rattle.eds_domains.specs.declared.range.Range.{Range}

-- the numbers from low to high, none where low is above high
abbrev pub interval : (low high : ℤ) → List Span
interval low high = if int_le low high then record { low = low; high = high } ∷ [] else []

-- the least number from low on that a lower end admits
abbrev pub raised : End → (low : ℤ) → ℤ
raised Open low = low
raised (Inclusive n) low = int_max low n
raised (Exclusive n) low = int_max low (n +ℤ pos 1)

-- the greatest number up to high that an upper end admits
abbrev pub lowered : End → (high : ℤ) → ℤ
lowered Open high = high
lowered (Inclusive n) high = int_min high n
lowered (Exclusive n) high = int_min high (n -ℤ pos 1)

-- the numbers of an interval that a range admits
abbrev pub narrowed_span : Range → Span → List Span
narrowed_span range s = interval (raised range.low s.low) (lowered range.high s.high)

-- the numbers of a set that a range admits: the domain of a sub-range, from that of its base
abbrev pub narrowed : Range → List Span → List Span
narrowed range spans = flat_map (narrowed_span range) spans

-- the numbers of a form that a range admits: the domain of an integer type
abbrev pub domain_of : IntForm → Range → List Span
domain_of form range = narrowed_span range (record { low = least form; high = greatest form })

-- there are none
abbrev pub has_none : List Span → Bool
has_none [] = true
has_none (s ∷ spans) = false
