-- Pieces of a list, one after another.
use Rattle.std.proofs.Common.{◌≡◌, ◌+◌, ◌-◌, ◌++◌, ℕ, List, length, take, drop, arith, append_assoc, take-add, length-drop}
use Rattle.std.proofs.lemmas.List.{take_all}

-- what a list has from a place on, all of it
pub take-rest : (xs : List ℕ) (d : ℕ) → take (length xs - d) (drop d xs) ≡ drop d xs
take-rest xs d = take_all (length xs - d) (drop d xs) (omega (arith, length-drop d xs))

-- what was written before, then the first d octets, then n of the others
pub written-more : (before xs : List ℕ) (d n : ℕ) → (before ++ take d xs) ++ take n (take (length xs - d) (drop d xs)) ≡ before ++ take (d + n) xs
written-more before xs d n = rw (take-rest xs d, take-add d n xs) (append_assoc before (take d xs) (take n (drop d xs)))
