-- The scale of a length entry: a container has c0 + c1 * r octets where its length entry has the raw number r
-- (CCSDS 876.0-B, length entries and polynomial calibrators).
use Rattle.std.specs.Prelude.{ℕ, ℤ, pos, negsuc, int_le, List, [], ◌∷◌, codes, Bool, false, not, ◌&&◌, ◌||◌, if◌then◌else◌, Option, unwrap_or}
use Rattle.std.specs.List.{flat_map, list_any}
use Rattle.std.specs.Ordering.{int_eq}
use Rattle.eds_base.specs.Reading.{◌>>=◌}
use Rattle.eds_base.specs.Numbers.{whole_number}
use Rattle.eds_base.specs.declared.ids.Place.{Place}
use Rattle.eds_tree.specs.declared.tree.Node.{Node}
use Rattle.eds_type_rows.specs.Places.{attribute, held}

-- ---- terms

-- a number, 0 where the text is none; each term has both its numbers
abbrev pub whole_or_zero : Option (List ℕ) → ℤ
whole_or_zero text = unwrap_or (text >>= whole_number) (pos 0)

-- the exponent of a term, 0 where it gives no whole number
abbrev pub exponent_at : List (List Node) → Place → ℤ
exponent_at trees at = whole_or_zero (attribute trees (codes "exponent") at)

-- the coefficient of a term, 0 where it gives no whole number
abbrev pub coefficient_at : List (List Node) → Place → ℤ
coefficient_at trees at = whole_or_zero (attribute trees (codes "coefficient") at)

-- the calibrators of a length entry, which has one at most
abbrev pub calibrators_at : List (List Node) → Place → List Place
calibrators_at trees at = held trees (codes "PolynomialCalibrator") at

-- the terms of a length entry's calibrator, in document order
abbrev pub terms_at : List (List Node) → Place → List Place
terms_at trees at = flat_map (held trees (codes "Term")) (calibrators_at trees at)

-- the coefficient of an exponent among some terms, 0 where no term has it
abbrev pub coefficient_of : List (List Node) → ℤ → List Place → ℤ
coefficient_of trees n [] = pos 0
coefficient_of trees n (at ∷ ats) = if int_eq (exponent_at trees at) n then coefficient_at trees at else coefficient_of trees n ats

-- an exponent is that of some term
abbrev pub has_exponent : List (List Node) → ℤ → List Place → Bool
has_exponent trees n terms = list_any (λ at. int_eq (exponent_at trees at) n) terms

-- an exponent stands twice
abbrev pub repeats_exponent : List (List Node) → List Place → Bool
repeats_exponent trees [] = false
repeats_exponent trees (at ∷ ats) = has_exponent trees (exponent_at trees at) ats || repeats_exponent trees ats

-- ---- the scale

-- the calibrated number, or the plain one where there is no calibrator
abbrev pub or_plain : ℤ → ℤ → List Place → ℤ
or_plain plain calibrated [] = plain
or_plain plain calibrated (at ∷ ats) = calibrated

-- c0 is the coefficient of exponent 0, or 0 without a calibrator
abbrev pub c0_at : List (List Node) → Place → ℤ
c0_at trees at = or_plain (pos 0) (coefficient_of trees (pos 0) (terms_at trees at)) (calibrators_at trees at)

-- c1 is the coefficient of exponent 1, or 1 without a calibrator
abbrev pub c1_at : List (List Node) → Place → ℤ
c1_at trees at = or_plain (pos 1) (coefficient_of trees (pos 1) (terms_at trees at)) (calibrators_at trees at)

-- c1 is at least 1, and neither is past 2^32 in size
abbrev pub is_scale : (c0 c1 : ℤ) → Bool
is_scale c0 c1 = int_le (pos 1) c1 && int_le c1 (pos 4294967296) && int_le (negsuc 4294967295) c0 && int_le c0 (pos 4294967296)

-- the length entry at a place has a scale, and no exponent stands twice
abbrev pub has_scale : List (List Node) → Place → Bool
has_scale trees at = is_scale (c0_at trees at) (c1_at trees at) && not (repeats_exponent trees (terms_at trees at))

-- c0 of a length entry, or 0 where it has no scale
abbrev pub c0_or_plain : List (List Node) → Place → ℤ
c0_or_plain trees at = if is_scale (c0_at trees at) (c1_at trees at) then c0_at trees at else pos 0

-- c1 of a length entry, or 1 where it has no scale
abbrev pub c1_or_plain : List (List Node) → Place → ℤ
c1_or_plain trees at = if is_scale (c0_at trees at) (c1_at trees at) then c1_at trees at else pos 1
