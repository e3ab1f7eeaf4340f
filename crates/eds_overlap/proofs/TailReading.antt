-- What is read of some frames with a tail.
use Rattle.eds_types.specs.Failing.{fault_at}
use Rattle.std.proofs.Common.{◌≡◌, [], ◌∷◌, length, Ok, Err, refl}
use Rattle.eds_base.specs.declared.fault.Step.TheVariants as step
use Rattle.eds_base.specs.declared.fault.Reason.TheVariants.{Short, LengthDiffers, CheckDiffers}
use Rattle.eds_bits.specs.Bits.{bits_of, low_bits, first_pieces}
use Rattle.eds_types.specs.Reading.{read_within, read_under, read_chain, read_parts, read_items, check_all, first_from, same}
use Rattle.eds_types.specs.Rows.{id_of, chain_within}
use Rattle.eds_types.specs.Sizes.{size_within}
use Rattle.eds_overlap.specs.Laws.{read_type}
use Rattle.eds_overlap.specs.Example.{example, tail_packet}

pub two : read_type example 19 (bits_of (0x01 ∷ 0x05 ∷ 0xAA ∷ 0xBB ∷ 0x6B ∷ [])) ≡ Ok (tail_packet 19 (0xAA ∷ 0xBB ∷ []), [])
unfolding read_within read_under read_chain read_parts read_items check_all first_from chain_within low_bits first_pieces same size_within
two = refl

pub none : read_type example 19 (bits_of (0x01 ∷ 0x03 ∷ 0x04 ∷ [])) ≡ Ok (tail_packet 19 [], [])
unfolding read_within read_under read_chain read_parts read_items check_all first_from chain_within low_bits first_pieces same size_within
none = refl

pub followed : read_type example 19 (bits_of (0x01 ∷ 0x04 ∷ 0xAA ∷ 0xAF ∷ 0xBB ∷ [])) ≡ Ok (tail_packet 19 (0xAA ∷ []), bits_of (0xBB ∷ []))
unfolding read_within read_under read_chain read_parts read_items check_all first_from chain_within low_bits first_pieces same size_within
followed = refl

pub below_zero : read_type example 19 (bits_of (0x01 ∷ 0x02 ∷ 0x04 ∷ [])) ≡ Err (fault_at LengthDiffers (step.Part (id_of 19) 1 ∷ []))
unfolding read_within read_under read_chain read_parts read_items check_all first_from chain_within low_bits first_pieces same size_within
below_zero = refl

pub above_most : read_type example 19 (bits_of (0x01 ∷ 0x0C ∷ 0x04 ∷ [])) ≡ Err (fault_at LengthDiffers (step.Part (id_of 19) 1 ∷ []))
unfolding read_within read_under read_chain read_parts read_items check_all first_from chain_within low_bits first_pieces same size_within
above_most = refl

pub unchecked : read_type example 19 (bits_of (0x01 ∷ 0x04 ∷ 0xAA ∷ 0xBB ∷ 0x6A ∷ [])) ≡ Err (fault_at CheckDiffers (step.Part (id_of 19) 3 ∷ []))
unfolding read_within read_under read_chain read_parts read_items check_all first_from chain_within low_bits first_pieces same size_within
unchecked = refl

pub short : read_type example 19 (bits_of (0x01 ∷ 0x05 ∷ 0xAA ∷ [])) ≡ Err (fault_at Short (step.Part (id_of 19) 2 ∷ []))
unfolding read_within read_under read_chain read_parts read_items check_all first_from chain_within low_bits first_pieces same size_within
short = refl

pub even : read_type example 20 (bits_of (0x01 ∷ 0x02 ∷ 0xAA ∷ 0xAD ∷ [])) ≡ Ok (tail_packet 20 (0xAA ∷ []), [])
unfolding read_within read_under read_chain read_parts read_items check_all first_from chain_within low_bits first_pieces same size_within
even = refl

pub followed_size : length (bits_of (0x01 ∷ 0x04 ∷ 0xAA ∷ 0xAF ∷ 0xBB ∷ [])) ≡ 40
unfolding low_bits
followed_size = refl

pub left_size : length (bits_of (0xBB ∷ [])) ≡ 8
unfolding low_bits
left_size = refl
