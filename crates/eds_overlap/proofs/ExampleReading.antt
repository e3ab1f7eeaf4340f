-- What is read by the table of the examples.
use Rattle.std.proofs.Common.{◌≡◌, ℕ, pos, false, List, [], ◌∷◌, ◌++◌, length, Some, Ok, Err, refl, ap, ◌∙◌}
use Rattle.std.specs.Prelude.{codes}
use Rattle.eds_base.specs.declared.fault.Step.TheVariants as step
use Rattle.eds_base.specs.declared.fault.Reason.TheVariants.{Short, BadText, Unterminated, FixedDiffers, NoDerived, LengthDiffers, CheckDiffers, Constraint as ConstraintFails}
use Rattle.eds_bits.specs.Bits.{Bits, bits_of, low_bits, first_pieces}
use Rattle.eds_bits.specs.Scalars.{remainder}
use Rattle.eds_types.specs.declared.row.Part.TheVariants as part
use Rattle.eds_types.specs.declared.value.Value.{Num}
use Rattle.eds_types.specs.Failing.{part_step, fault_at}
use Rattle.eds_types.specs.Plain.{Plain, num, text, items, fields, plain, plains_of}
use Rattle.eds_types.specs.Reading.{Read, ◌>>=◌, inside, judge, advance, expected, ended, read_entry, read_within, read_under, read_chain, read_parts, read_items, check_all, first_from, same}
use Rattle.eds_types.specs.Rows.{id_of, chain_within, Placed}
use Rattle.eds_types.specs.Spelling.{Progress, started, with_bits}
use Rattle.eds_overlap.specs.Laws.{read_type}
use Rattle.eds_overlap.specs.Example.{example, housekeeping, busy, idle}
use Rattle.eds_overlap.proofs.ExampleRules.{mark}

pub packet : read_type example 6 (bits_of (0x01 ∷ 0x23 ∷ 0xC0 ∷ 0x05 ∷ 0x00 ∷ 0x01 ∷ 0xBE ∷ 0xEF ∷ [])) ≡ Ok (housekeeping, [])
unfolding read_within read_under read_chain read_parts read_items check_all first_from chain_within low_bits first_pieces same
packet = refl

pub longer : read_type example 6 (bits_of (0x01 ∷ 0x23 ∷ 0xC0 ∷ 0x05 ∷ 0x00 ∷ 0x02 ∷ 0xBE ∷ 0xEF ∷ [])) ≡ Err (fault_at LengthDiffers (step.Part (id_of 6) 6 ∷ []))
unfolding read_within read_under read_chain read_parts read_items check_all first_from chain_within low_bits first_pieces same
longer = refl

pub other : read_type example 6 (bits_of (0x01 ∷ 0x24 ∷ 0xC0 ∷ 0x05 ∷ 0x00 ∷ 0x01 ∷ 0xBE ∷ 0xEF ∷ [])) ≡ Err (fault_at NoDerived (step.Choice (id_of 6) ∷ []))
unfolding read_within read_under read_chain read_parts read_items check_all first_from chain_within low_bits first_pieces same
other = refl

pub empty : read_type example 6 [] ≡ Err (fault_at Short (step.Part (id_of 6) 0 ∷ []))
unfolding read_within read_under read_chain read_parts read_items check_all first_from chain_within low_bits first_pieces same
empty = refl

pub trailers : read_type example 11 (bits_of (1 ∷ 2 ∷ 3 ∷ 4 ∷ [])) ≡ Ok (fields 12 (plains_of (num (pos 1) ∷ num (pos 2) ∷ num (pos 3) ∷ num (pos 4) ∷ [])), [])
unfolding read_within read_under read_chain read_parts read_items check_all first_from chain_within low_bits first_pieces same
trailers = refl

pub checked : read_type example 10 (bits_of (codes "123456789" ++ 0x29 ∷ 0xB1 ∷ [])) ≡ Ok (fields 10 (plains_of (text (codes "123456789") ∷ [])), [])
unfolding read_within read_under read_chain read_parts read_items check_all first_from chain_within low_bits first_pieces same remainder
checked = refl

pub unchecked : read_type example 10 (bits_of (codes "123456789" ++ 0x29 ∷ 0xB2 ∷ [])) ≡ Err (fault_at CheckDiffers (step.Part (id_of 10) 1 ∷ []))
unfolding read_within read_under read_chain read_parts read_items check_all first_from chain_within low_bits first_pieces same remainder
unchecked = refl

pub list : read_type example 14 (bits_of (3 ∷ 0xAB ∷ 0xC0 ∷ [])) ≡ Ok (fields 14 (plains_of (num (pos 3) ∷ items (plains_of (num (pos 10) ∷ num (pos 11) ∷ num (pos 12) ∷ [])) ∷ [])), false ∷ false ∷ false ∷ false ∷ [])
unfolding read_within read_under read_chain read_parts read_items check_all first_from chain_within low_bits first_pieces same
list = refl

pub short_list : read_type example 14 (bits_of (0xFF ∷ 0x12 ∷ 0x34 ∷ [])) ≡ Err (fault_at Short (step.Part (id_of 14) 1 ∷ step.Item 4 ∷ []))
unfolding read_within read_under read_chain read_parts read_items check_all first_from chain_within low_bits first_pieces same
short_list = refl

pub asked : read_type example 7 (bits_of (0x01 ∷ 0x24 ∷ 0xC0 ∷ 0x05 ∷ 0x00 ∷ 0x01 ∷ 0xBE ∷ 0xEF ∷ [])) ≡ Err (fault_at ConstraintFails (step.Part (id_of 6) 3 ∷ []))
unfolding read_within read_under read_chain read_parts read_items check_all first_from chain_within low_bits first_pieces same
asked = refl

pub list_size : length (bits_of (3 ∷ 0xAB ∷ 0xC0 ∷ [])) ≡ 24
unfolding low_bits
list_size = refl

pub line : read_type example 21 (bits_of (codes "ab" ++ 10 ∷ [])) ≡ Ok (text (codes "ab"), [])
unfolding read_within read_under read_chain read_parts read_items check_all first_from chain_within low_bits first_pieces same
line = refl

pub short_line : read_type example 21 (bits_of (codes "abc")) ≡ Err (fault_at Short [])
unfolding read_within read_under read_chain read_parts read_items check_all first_from chain_within low_bits first_pieces same
short_line = refl

pub unterminated : read_type example 21 (bits_of (codes "abcde")) ≡ Err (fault_at Unterminated [])
unfolding read_within read_under read_chain read_parts read_items check_all first_from chain_within low_bits first_pieces same
unterminated = refl

pub bad_line : read_type example 21 (bits_of (128 ∷ 10 ∷ [])) ≡ Err (fault_at BadText [])
unfolding read_within read_under read_chain read_parts read_items check_all first_from chain_within low_bits first_pieces same
bad_line = refl

pub no_nested : read_type example 27 (bits_of (0x35 ∷ 0xA0 ∷ [])) ≡ Err (fault_at NoDerived (step.Part (id_of 27) 0 ∷ step.Choice (id_of 24) ∷ []))
unfolding read_within read_under read_chain read_parts read_items check_all first_from chain_within low_bits first_pieces same
no_nested = refl

-- ---- frames with a fixed value, whose plain value isn't computed

abbrev R : ℕ → Bits → Read Plain
R = read_within 31 example

abbrev mode : Placed
mode = record { container = 27; place = 0; part = part.Plain (codes "Mode") (id_of 24) }

abbrev marked : Placed
marked = record { container = 27; place = 1; part = part.Fixed (Some (codes "Mark")) (id_of 8) (Num (pos 90)) }

abbrev others : List Placed
others = record { container = 27; place = 2; part = part.Pad 8 } ∷ record { container = 27; place = 3; part = part.Plain (codes "Text") (id_of 21) } ∷ record { container = 27; place = 4; part = part.Plain (codes "Bits") (id_of 22) } ∷ []

-- how the fixed value q is read after the nested container
abbrev mark_is : Plain → Progress → Bits → Read Progress
mark_is q s b = inside (part_step marked) (advance (λ u c. with_bits s c) b (judge (expected q FixedDiffers) (R 8 b)))

abbrev read_frame : Plain → Bits → Read Plain
read_frame q b = ended example R (((read_entry example R started mode b >>= λ v. mark_is q v.0 v.1 >>= λ w. read_parts example R others w.0 w.1) >>= λ v. read_chain example R [] v.0 v.1) >>= λ v. read_under example R 16 27 v.0 v.1)

frame_is : (b : Bits) → read_type example 27 b ≡ read_frame (plain (Num (pos 90))) b
unfolding read_within read_chain read_parts check_all chain_within
frame_is b = refl

with_mark : (b : Bits) (r : Read Plain) → read_frame (num (pos 90)) b ≡ r → read_type example 27 b ≡ r
with_mark b r e = frame_is b ∙ ap (λ q. read_frame q b) mark ∙ e

busy_frame : read_frame (num (pos 90)) (bits_of (0x23 ∷ 0x45 ∷ 0xA0 ∷ 0x06 ∷ 0x86 ∷ 0x90 ∷ 0xAA ∷ 0xBC ∷ 0xEE ∷ [])) ≡ Ok (busy, [])
unfolding read_within read_under read_chain read_parts read_items check_all first_from chain_within low_bits first_pieces same
busy_frame = refl

pub nested : read_type example 27 (bits_of (0x23 ∷ 0x45 ∷ 0xA0 ∷ 0x06 ∷ 0x86 ∷ 0x90 ∷ 0xAA ∷ 0xBC ∷ 0xEE ∷ [])) ≡ Ok (busy, [])
nested = with_mark _ _ busy_frame

idle_frame : read_frame (num (pos 90)) (bits_of (0x17 ∷ 0x5A ∷ 0x00 ∷ 0x68 ∷ 0x69 ∷ 0x0A ∷ 0xAB ∷ 0xCE ∷ 0xE0 ∷ [])) ≡ Ok (idle, false ∷ false ∷ false ∷ false ∷ [])
unfolding read_within read_under read_chain read_parts read_items check_all first_from chain_within low_bits first_pieces same
idle_frame = refl

pub nested_short : read_type example 27 (bits_of (0x17 ∷ 0x5A ∷ 0x00 ∷ 0x68 ∷ 0x69 ∷ 0x0A ∷ 0xAB ∷ 0xCE ∷ 0xE0 ∷ [])) ≡ Ok (idle, false ∷ false ∷ false ∷ false ∷ [])
nested_short = with_mark _ _ idle_frame

unmarked : read_frame (num (pos 90)) (bits_of (0x17 ∷ 0x5B ∷ [])) ≡ Err (fault_at FixedDiffers (step.Part (id_of 27) 1 ∷ []))
unfolding read_within read_under read_chain read_parts read_items check_all first_from chain_within low_bits first_pieces same
unmarked = refl

pub no_mark : read_type example 27 (bits_of (0x17 ∷ 0x5B ∷ [])) ≡ Err (fault_at FixedDiffers (step.Part (id_of 27) 1 ∷ []))
no_mark = with_mark _ _ unmarked

pub nested_size : length (bits_of (0x17 ∷ 0x5A ∷ 0x00 ∷ 0x68 ∷ 0x69 ∷ 0x0A ∷ 0xAB ∷ 0xCE ∷ 0xE0 ∷ [])) ≡ 72
unfolding low_bits
nested_size = refl
