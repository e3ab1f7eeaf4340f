-- The least break among numbered ones.
use Rattle.std.proofs.Common.{◌≡◌, ℕ, ◌+◌, ◌<◌, Bool, true, false, nat_lt, List, [], ◌∷◌, ◌++◌, length, map, get_or, drop, drop-cons, add-one, Option, Some, None, refl, sym, ap, ◌∙◌, arith}
use Rattle.std.specs.Prelude.{option_map}
use Rattle.std.specs.List.{flat_map}
use Rattle.std.proofs.lemmas.Bool.Decides.{nat_tests}
use Rattle.eds_base.specs.Refusals.{phase_by, lexicographic, comes_before, first_of, least}
use Rattle.eds_base.proofs.LeastLaws.{first_assoc}
use Rattle.eds_tree.specs.declared.tree.Node.{Node}
use Rattle.eds_tree.specs.Unknown.{unknown_at, lower, lowest_from}

pub lowest_from-append : (found : Option ℕ) (xs ys : List ℕ) → lowest_from found (xs ++ ys) ≡ lowest_from (lowest_from found xs) ys
lowest_from-append found [] ys = refl
lowest_from-append found (x ∷ xs) ys = lowest_from-append (lower found x) xs ys

-- the same over a list, one element at a time
pub lowest-next : {X Y : Type 0} (g : X → Y) (f : Y → List ℕ) (xs : List X) (i : ℕ) (x : X) (found next whole : Option ℕ)
    → i < length xs → next ≡ lowest_from found (f (g (get_or xs i x))) → lowest_from found (flat_map f (map g (drop i xs))) ≡ whole
    → lowest_from next (flat_map f (map g (drop (i + 1) xs))) ≡ whole
lowest-next g f xs i x found next whole lt n e =
    let opened : drop i xs ≡ get_or xs i x ∷ drop (i + 1) xs = drop-cons xs i x lt ∙ rw add-one refl in
    let rest = flat_map f (map g (drop (i + 1) xs)) in
    ap (λ m. lowest_from m rest) n ∙ (sym (lowest_from-append found (f (g (get_or xs i x))) rest) ∙ (ap (λ ys. lowest_from found (flat_map f (map g ys))) (sym opened) ∙ e))

pub drop_two : (xs : List ℕ) → drop 1 (drop 1 xs) ≡ drop 2 xs
drop_two [] = refl
drop_two (x ∷ xs) = refl

same_number : (n : ℕ) (b : Bool) → lexicographic n n b ≡ b
same_number n b = grind (arith, nat_tests)

by_number : (m n : ℕ) → lexicographic m n (nat_lt 3 3) ≡ nat_lt m n
by_number m n = grind (arith, nat_tests)

-- of two in one file the one with the lower number comes first
unknown-order : (file : ℕ) (t : List Node) (m n : ℕ) → comes_before (unknown_at file t m) (unknown_at file t n) ≡ nat_lt m n
unfolding comes_before phase_by
unknown-order file t m n = same_number file (lexicographic m n (nat_lt 3 3)) ∙ by_number m n

unknown-lower : (file : ℕ) (t : List Node) (found : Option ℕ) (n : ℕ) → first_of (option_map (unknown_at file t) found) (Some (unknown_at file t n)) ≡ option_map (unknown_at file t) (lower found n)
unknown-lower file t None n = refl
unknown-lower file t (Some m) n = go (nat_lt n m) refl
  where
    go : (b : Bool) → nat_lt n m ≡ b → first_of (Some (unknown_at file t m)) (Some (unknown_at file t n)) ≡ option_map (unknown_at file t) (lower (Some m) n)
    go true e = rw (unknown-order file t n m, e) refl
    go false e = rw (unknown-order file t n m, e) refl

unknown-from : (file : ℕ) (t : List Node) (found : Option ℕ) (ns : List ℕ) → first_of (option_map (unknown_at file t) found) (least (map (unknown_at file t) ns)) ≡ option_map (unknown_at file t) (lowest_from found ns)
unknown-from file t None [] = refl
unknown-from file t (Some m) [] = refl
unknown-from file t found (n ∷ ns) =
    sym (first_assoc (option_map (unknown_at file t) found) (Some (unknown_at file t n)) (least (map (unknown_at file t) ns)))
    ∙ (ap (λ r. first_of r (least (map (unknown_at file t) ns))) (unknown-lower file t found n) ∙ unknown-from file t (lower found n) ns)

-- the least of some breaks of one file is that with the lowest number
pub least-unknown : (file : ℕ) (t : List Node) (ns : List ℕ) → least (map (unknown_at file t) ns) ≡ option_map (unknown_at file t) (lowest_from None ns)
least-unknown file t ns = unknown-from file t None ns
