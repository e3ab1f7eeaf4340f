-- In a file that was read the name around an element is that of its own standing.
use Rattle.std.proofs.Common.{◌≡◌, ◌≢◌, ℕ, zero, suc, ◌+◌, ◌<◌, List, [], ◌∷◌, ◌++◌, length, map, set, replicate, Option, Some, None, Ok, refl, sym, ap, ◌∙◌, subst, slice_get, length-set, arith}
use Rattle.std.specs.List.{AllByRecursion, flat_map}
use Rattle.std.proofs.lemmas.List.{map-append}
use Rattle.eds_tree.specs.declared.tree.Node.{Node}
use Rattle.eds_tree.specs.declared.link.Link.{Link}
use Rattle.eds_tree.specs.Reading.{tree_in}
use Rattle.eds_tree.specs.Trees.{children_of, links_from, links_of}
use Rattle.eds_tree.specs.Walks.{RiseFrom}
use Rattle.eds_tree.proofs.Once.{once, within}
use Rattle.eds_names.specs.declared.standing.Standing.{Standing}
use Rattle.eds_names.specs.Around.{name_at, name_held}
use Rattle.eds_names.specs.Standings.{below, standings_from, standings_of, written, around, around_entry, arounds_of}

abbrev numbers : List Standing → List ℕ
numbers ss = map (λ s. s.node) ss

-- ---- the elements are those of the links

abbrev numbers_linked : List Link → List ℕ
numbers_linked ls = map (λ l. l.node) ls

numbers-from : (t : List Node) (depth : ℕ) (s : Standing) → numbers (standings_from t depth s) ≡ numbers_linked (links_from t depth (record { parent = s.parent; node = s.node }))
numbers-from t zero s = refl
numbers-from t (suc depth) s = ap (λ ns. s.node ∷ ns) (go (children_of t s.node) (λ child. numbers-from t depth (below t s child)))
  where
    F : ℕ → List Standing
    F child = standings_from t depth (below t s child)

    G : ℕ → List Link
    G child = links_from t depth (record { parent = s.node; node = child })

    go : (xs : List ℕ) → ((child : ℕ) → numbers (F child) ≡ numbers_linked (G child)) → numbers (flat_map F xs) ≡ numbers_linked (flat_map G xs)
    go [] down = refl
    go (x ∷ xs) down =
        map-append (λ (s : Standing). s.node) (F x) (flat_map F xs)
        ∙ ap (λ ns. ns ++ numbers (flat_map F xs)) (down x) ∙ ap (λ ns. numbers_linked (G x) ++ ns) (go xs down)
        ∙ sym (map-append (λ (l : Link). l.node) (G x) (flat_map G xs))

pub numbers-are : (t : List Node) → map (λ s. s.node) (standings_of t) ≡ map (λ l. l.node) (links_of t)
unfolding standings_of links_of
numbers-are t = numbers-from t (length t) (record { parent = 0; node = 0; in_package = 0; in_component = 0 })

-- ---- the table of the names around elements

get-set : {A : Type 0} (xs : List A) (n : ℕ) (x : A) → n < length xs → slice_get (set xs n x) n ≡ Some x
get-set [] n x h = absurd (omega (arith, h))
get-set (y ∷ ys) zero x h = refl
get-set (y ∷ ys) (suc n) x h = get-set ys n x (omega (arith, h))

get-set_other : {A : Type 0} (xs : List A) (n m : ℕ) (x : A) → n ≢ m → slice_get (set xs n x) m ≡ slice_get xs m
get-set_other [] n m x h = refl
get-set_other (y ∷ ys) zero zero x h = absurd (h refl)
get-set_other (y ∷ ys) zero (suc m) x h = refl
get-set_other (y ∷ ys) (suc n) zero x h = refl
get-set_other (y ∷ ys) (suc n) (suc m) x h = get-set_other ys n m x (λ e. h (ap suc e))

abbrev entries : List Node → List Standing → List (ℕ × Option (List ℕ))
entries t ss = map (around_entry t) ss

written-other : (t : List Node) (ss : List Standing) (table : List (Option (List ℕ))) (n : ℕ) → AllByRecursion (λ s. s.node ≢ n) ss → slice_get (written table (entries t ss)) n ≡ slice_get table n
written-other t [] table n h = refl
written-other t (s ∷ ss) table n h = written-other t ss (set table s.node (around t s)) n h.1 ∙ get-set_other table s.node n (around t s) h.0

-- numbers that rise from past a number are others
rise-others : (ss : List Standing) (low n : ℕ) → n < low → RiseFrom low (numbers ss) → AllByRecursion (λ s. s.node ≢ n) ss
rise-others [] low n lt h = tt
rise-others (s ∷ ss) low n lt h = ((λ e. absurd (omega (arith, e, lt, h.0))), rise-others ss (s.node + 1) n (omega (arith, lt, h.0)) h.1)

below-all : (high : ℕ) (ss : List Standing) → AllByRecursion (λ n. n < high) (numbers ss) → AllByRecursion (λ s. s.node < high) ss
below-all high [] h = tt
below-all high (s ∷ ss) h = (h.0, below-all high ss h.1)

same-length : (xs : List (Option (List ℕ))) (n : ℕ) (x : Option (List ℕ)) (ss : List Standing) → AllByRecursion (λ s. s.node < length xs) ss → AllByRecursion (λ s. s.node < length (set xs n x)) ss
same-length xs n x ss h = subst (λ k. AllByRecursion (λ s. s.node < k) ss) (sym (length-set xs n x)) h

own-from : (t : List Node) (ss : List Standing) (low : ℕ) (table : List (Option (List ℕ))) → RiseFrom low (numbers ss) → AllByRecursion (λ s. s.node < length table) ss
    → AllByRecursion (λ s. name_at (written table (entries t ss)) s.node ≡ around t s) ss
own-from t [] low table h k = tt
own-from t (s ∷ ss) low table h k =
    let next : List (Option (List ℕ)) = set table s.node (around t s) in (
      ap name_held (written-other t ss next s.node (rise-others ss (s.node + 1) s.node (omega arith) h.1) ∙ get-set table s.node (around t s) k.0),
      own-from t ss (s.node + 1) next h.1 (same-length table s.node (around t s) ss k.1),
    )

length-none : (n : ℕ) → length (replicate {A = Option (List ℕ)} n None) ≡ n
length-none zero = refl
length-none (suc n) = ap suc (length-none n)

pub own : (file : ℕ) (octets : List ℕ) (t : List Node) → tree_in file octets ≡ Ok t → AllByRecursion (λ s. name_at (arounds_of t) s.node ≡ around t s) (standings_of t)
own file octets t h =
    own-from t (standings_of t) 0 (replicate (length t) None) (subst (RiseFrom 0) (sym (numbers-are t)) (once file octets t h))
    (subst (λ k. AllByRecursion (λ s. s.node < k) (standings_of t)) (sym (length-none (length t)))
    (below-all (length t) (standings_of t) (subst (AllByRecursion (λ n. n < length t)) (sym (numbers-are t)) (within file octets t h))))

none-held : (k n : ℕ) → name_held (slice_get (replicate k None) n) ≡ None
none-held zero n = refl
none-held (suc k) zero = refl
none-held (suc k) (suc n) = none-held k n

pub others : (t : List Node) (n : ℕ) → AllByRecursion (λ s. s.node ≢ n) (standings_of t) → name_at (arounds_of t) n ≡ None
others t n h = ap name_held (written-other t (standings_of t) (replicate (length t) None) n h) ∙ none-held (length t) n
