-- The octets read so far.
use Rattle.std.proofs.Common.{◌≡◌, ◌≤◌, ◌<◌, ◌+◌, ◌++◌, ℕ, List, [], length, take, drop, Option, Some, None, IsSomeAnd, arith, sym, ◌∙◌, ap, take-add, length-append, length-drop, length-take}
use Rattle.eds_io.specs.Files.{IsPiece}

-- they are the file's first
abbrev pub Begins : Option (List ℕ) → List ℕ → Type 0
Begins None octets = octets ≡ []
Begins (Some file) octets = (octets ≡ take (length octets) file) × (length octets ≤ length file)

-- a piece of the file that follows them
pub Begins-file : (file octets : List ℕ) (n : ℕ) → octets ≡ take (length octets) file → n ≤ length (drop (length octets) file) → octets ++ take n (drop (length octets) file) ≡ take (length octets + n) file
Begins-file file octets n begins within = ap (λ front. front ++ take n (drop (length octets) file)) begins ∙ sym (take-add (length octets) n file)

-- a further piece of the file follows them
pub Begins-more : (file : Option (List ℕ)) (octets room : List ℕ) (n : ℕ) → Begins file octets → IsSomeAnd file (λ f. IsPiece f (length octets) n room) → Begins file (octets ++ take n room)
Begins-more None octets room n begins piece = absurd piece
Begins-more (Some file) octets room n begins piece =
    let size : length (octets ++ take n room) ≡ length octets + n = rw (piece.same, length-append octets (take n (drop (length octets) file)), length-take n (drop (length octets) file)) (omega (arith, piece.within))
    in rw size (rw piece.same (Begins-file file octets n begins.0 piece.within), omega (arith, piece.within, length-drop (length octets) file, begins.1))

-- where a piece ends past so many octets the file has more
pub piece-past : (file : Option (List ℕ)) (room : List ℕ) (from n most : ℕ) → IsSomeAnd file (λ f. IsPiece f from n room) → from ≤ most → most < from + n → IsSomeAnd file (λ f. most < length f)
piece-past None room from n most piece start past = absurd piece
piece-past (Some file) room from n most piece start past = omega (arith, piece.within, length-drop from file)

-- no piece came of a file that is not there
pub no-piece : (file : Option (List ℕ)) (from n : ℕ) (room : List ℕ) → file ≡ None → IsSomeAnd file (λ octets. IsPiece octets from n room) → ⊥
no-piece None from n room lacks came = came
no-piece (Some octets) from n room lacks came = cc
