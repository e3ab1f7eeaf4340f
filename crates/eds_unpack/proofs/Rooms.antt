-- Octets that are moved and put in a room.
use Rattle.std.proofs.Common.{◌≡◌, ℕ, ◌+◌, ◌-◌, ◌≤◌, List, ◌++◌, length, take, drop, sym, ap, ◌∙◌, arith, length-drop}
use Rattle.std.specs.List.{copy_within}
use Rattle.std.proofs.lemmas.List.{length-take-le, drop-append-le}
use Rattle.std.proofs.lemmas.List.Edits.{take-paste}
use Rattle.std.proofs.lemmas.Slice.{between_is}
use Rattle.eds_unpack.specs.Holding.{from_to}

-- what stands from one place on, up to another, stands at the front
pub moved : (room : List ℕ) (first last n : ℕ) → first ≤ last → last ≤ length room → n ≡ last - first → take n (copy_within room first last 0) ≡ from_to first last room
moved room first last n order within e =
    let l : length (drop first room) ≡ length room - first = length-drop first room in
    let size : last - first ≤ length (drop first room) = omega arith in
    let front : take (0 + (last - first)) (copy_within room first last 0) ≡ take 0 room ++ take (last - first) (drop first room) = take-paste room 0 (drop first room) (last - first) (omega arith) size in
    let z : 0 + (last - first) ≡ last - first = omega arith in
    ap (λ k. take k (copy_within room first last 0)) (e ∙ sym z) ∙ front ∙ between_is room first last

-- the number of octets from one place on, up to another
pub length-from_to : (first last : ℕ) (room : List ℕ) → last ≤ length room → length (from_to first last room) ≡ last - first
length-from_to first last room within = length-drop first (take last room) ∙ ap (λ k. k - first) (length-take-le last room within)

-- a piece behind the others
pub put_behind : (first last n : ℕ) (room new piece : List ℕ) → first ≤ last → last ≤ length room → n ≡ last + length piece → take (last + length piece) new ≡ take last room ++ piece → from_to first n new ≡ from_to first last room ++ piece
put_behind first last n room new piece order within e h =
    let l : first ≤ length (take last room) = (let k = length-take-le last room within in omega arith) in
    ap (λ k. drop first (take k new)) e ∙ ap (drop first) h ∙ drop-append-le first (take last room) piece l

-- and where the others were moved to the front before
pub put_moved : (first last n : ℕ) (room middle new piece : List ℕ) → first ≤ last → last ≤ length room → length middle ≡ length room → take (last - first) middle ≡ from_to first last room → n ≡ (last - first) + length piece → take ((last - first) + length piece) new ≡ take (last - first) middle ++ piece → from_to 0 n new ≡ from_to first last room ++ piece
put_moved first last n room middle new piece order within size m e h = put_behind 0 (last - first) n middle new piece (omega arith) (omega arith) e h ∙ ap (λ z. z ++ piece) m
