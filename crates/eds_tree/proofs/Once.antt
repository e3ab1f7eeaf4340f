-- In a file that was read the numbers of the elements rise, so that each stands once.
use Rattle.std.proofs.Common.{◌≡◌, ℕ, zero, suc, ◌+◌, ◌<◌, ◌≤◌, Bool, true, false, not, List, [], ◌∷◌, ◌++◌, length, map, Option, Some, None, Ok, refl, sym, ap, ◌∙◌, subst, slice_get, append_assoc, append-nil, length-append, arith}
use Rattle.std.specs.List.{AllByRecursion, flat_map}
use Rattle.std.proofs.lemmas.Grind.{flat_map-append}
use Rattle.std.proofs.lemmas.List.{map-append, length-map}
use Rattle.std.proofs.lemmas.List.Elements.{filter-append}
use Rattle.serde_json.specs.Data.{Data, null, boolean, number, string, array, object, Items, no_items, item}
use Rattle.eds_tree.specs.declared.tree.Node.{Node}
use Rattle.eds_tree.specs.declared.link.Link.{Link}
use Rattle.eds_tree.specs.Elements.{size, items_size, openings, openings_in, child_number, child_numbers, node_of, name_in, tree_of, not_elements}
use Rattle.eds_tree.specs.Reading.{tree_in, tree_of_data, tree_from, tree_unless, data_in}
use Rattle.eds_tree.specs.Trees.{name_at, node_children, children_of, counted, is_passed_over, links_from, links_of}
use Rattle.eds_tree.specs.Walks.{RiseFrom}
use Rattle.eds_tree.proofs.Growing.{length-openings}

-- ---- what was read is the tree of an array

pub record IsTreeOf (t : List Node) : Type 0 where
  pub items : Items
  pub is : t ≡ tree_of (array items)

pub tree-read : (file : ℕ) (octets : List ℕ) (t : List Node) → tree_in file octets ≡ Ok t → IsTreeOf t
unfolding tree_in
tree-read file octets t h = go (data_in octets) h
  where
    unless : (ps : List ℕ) (ds : Items) → tree_unless file ps (array ds) ≡ Ok t → IsTreeOf t
    unless [] ds k = record { items = ds; is = cc }
    unless (p ∷ ps) ds k = cc

    from : (d : Data) → tree_from file d ≡ Ok t → IsTreeOf t
    from null k = cc
    from (boolean b) k = cc
    from (number n) k = cc
    from (string s) k = cc
    from (array ds) k = unless (not_elements 0 (array ds)) ds k
    from (object ms) k = cc

    go : (o : Option Data) → tree_of_data file o ≡ Ok t → IsTreeOf t
    go None k = cc
    go (Some d) k = from d k

-- ---- rising numbers

-- they rise from a number on, below another
abbrev Within : ℕ → ℕ → List ℕ → Type 0
Within low high [] = low ≤ high
Within low high (n ∷ ns) = (low ≤ n) × (n < high) × Within (n + 1) high ns

within-le : (low high : ℕ) (ns : List ℕ) → Within low high ns → low ≤ high
within-le low high [] h = h
within-le low high (n ∷ ns) h = omega (arith, h.0, h.1)

within-lower : (low lower high : ℕ) (ns : List ℕ) → lower ≤ low → Within low high ns → Within lower high ns
within-lower low lower high [] le h = omega (arith, le, h)
within-lower low lower high (n ∷ ns) le h = (omega (arith, le, h.0), h.1, h.2)

same-ends : (low high first last : ℕ) (ns : List ℕ) → low ≡ first → high ≡ last → Within low high ns → Within first last ns
same-ends low high first last ns e f h = subst (λ k. Within k last ns) e (subst (λ k. Within low k ns) f h)

within-append : (low middle high : ℕ) (xs ys : List ℕ) → Within low middle xs → Within middle high ys → Within low high (xs ++ ys)
within-append low middle high [] ys h k = within-lower middle low high ys h k
within-append low middle high (x ∷ xs) ys h k = (h.0, omega (arith, h.1, within-le middle high ys k), within-append (x + 1) middle high xs ys h.2 k)

rise : (low high : ℕ) (ns : List ℕ) → Within low high ns → RiseFrom low ns
rise low high [] h = tt
rise low high (n ∷ ns) h = (h.0, rise (n + 1) high ns h.2)

-- ---- the numbers of the elements of some data

abbrev numbers : List Link → List ℕ
numbers ls = map (λ l. l.node) ls

node-behind : (front : List Node) (n : Node) (back : List Node) (at : ℕ) → at ≡ length front → slice_get (front ++ n ∷ back) at ≡ Some n
node-behind front n back at e = ap (slice_get (front ++ n ∷ back)) e ∙ go front
  where
    go : (front : List Node) → slice_get (front ++ n ∷ back) (length front) ≡ Some n
    go [] = refl
    go (f ∷ fs) = go fs

numbers-append : (t : List Node) (F : ℕ → List Link) (xs ys : List ℕ) → numbers (flat_map F (counted t (xs ++ ys))) ≡ numbers (flat_map F (counted t xs)) ++ numbers (flat_map F (counted t ys))
numbers-append t F xs ys =
    ap (λ zs. numbers (flat_map F zs)) (filter-append (λ child. not (is_passed_over (name_at t child))) xs ys)
    ∙ ap numbers (flat_map-append F (counted t xs) (counted t ys))
    ∙ map-append (λ (s : Link). s.node) (flat_map F (counted t xs)) (flat_map F (counted t ys))

mutual
  rise-data : (t : List Node) (depth holder : ℕ) (parent : List ℕ) (front back : List Node) (at : ℕ) (d : Data)
      → at ≡ length front → t ≡ front ++ (map node_of (openings parent at d) ++ back)
      → Within at (at + size d) (numbers (flat_map (λ n. links_from t depth (record { parent = holder; node = n })) (counted t (child_number at d))))
  rise-data t depth holder parent front back at null e is = omega arith
  rise-data t depth holder parent front back at (boolean b) e is = omega arith
  rise-data t depth holder parent front back at (number n) e is = omega arith
  rise-data t depth holder parent front back at (string s) e is = omega arith
  rise-data t depth holder parent front back at (object ms) e is = omega arith
  rise-data t depth holder parent front back at (array ds) e is =
      go (λ deep. rise-items t deep at (name_in ds) (front ++ this ∷ []) back (at + 1) ds long opened) (not (is_passed_over (name_at t at))) refl
    where
      this : Node
      this = node_of (record { parent = parent; number = at; items = ds })

      long : at + 1 ≡ length (front ++ this ∷ [])
      long = omega (arith, e, length-append front (this ∷ []))

      opened : t ≡ (front ++ this ∷ []) ++ (map node_of (openings_in (name_in ds) (at + 1) ds) ++ back)
      opened = is ∙ sym (append_assoc front (this ∷ []) (map node_of (openings_in (name_in ds) (at + 1) ds) ++ back))

      there : slice_get t at ≡ Some this
      there = ap (λ ns. slice_get ns at) is ∙ node-behind front this (map node_of (openings_in (name_in ds) (at + 1) ds) ++ back) at e

      children : children_of t at ≡ counted t (child_numbers (at + 1) ds)
      children = ap (λ o. counted t (node_children o)) there

      -- what stands below the element, where these are its children
      Below : ℕ → List ℕ → ℕ → Type 0
      Below deep cs high = Within (at + 1) high (numbers (flat_map (λ child. links_from t deep (record { parent = at; node = child })) cs))

      Rest : Type 0
      Rest = (deep : ℕ) → Below deep (counted t (child_numbers (at + 1) ds)) (at + 1 + items_size ds)

      stand : Rest → (depth : ℕ) → Within at (at + suc (items_size ds)) (numbers (links_from t depth (record { parent = holder; node = at })))
      stand rest zero = omega arith
      stand rest (suc depth) =
          let high : at + 1 + items_size ds ≡ at + suc (items_size ds) = omega arith in
          (omega arith, omega arith, subst (λ cs. Below depth cs (at + suc (items_size ds))) (sym children) (subst (Below depth (counted t (child_numbers (at + 1) ds))) high (rest depth)))

      go : Rest → (b : Bool) → not (is_passed_over (name_at t at)) ≡ b → Within at (at + suc (items_size ds)) (numbers (flat_map (λ n. links_from t depth (record { parent = holder; node = n })) (counted t (at ∷ []))))
      go rest false q = rw q (omega arith)
      go rest true q = rw (q, append-nil (links_from t depth (record { parent = holder; node = at }))) (stand rest depth)

  rise-items : (t : List Node) (depth holder : ℕ) (parent : List ℕ) (front back : List Node) (at : ℕ) (ds : Items)
      → at ≡ length front → t ≡ front ++ (map node_of (openings_in parent at ds) ++ back)
      → Within at (at + items_size ds) (numbers (flat_map (λ n. links_from t depth (record { parent = holder; node = n })) (counted t (child_numbers at ds))))
  rise-items t depth holder parent front back at no_items e is = omega arith
  rise-items t depth holder parent front back at (item d ds) e is =
      let F : ℕ → List Link = λ n. links_from t depth (record { parent = holder; node = n }) in
      let here : List Node = map node_of (openings parent at d) in
      let later : List Node = map node_of (openings_in parent (at + size d) ds) in
      let parted : t ≡ front ++ (here ++ (later ++ back)) =
      is ∙ ap (λ ns. front ++ (ns ++ back)) (map-append node_of (openings parent at d) (openings_in parent (at + size d) ds)) ∙ ap (λ ns. front ++ ns) (append_assoc here later back) in
      let long : at + size d ≡ length (front ++ here) = omega (arith, e, length-append front here, length-map (openings parent at d) node_of, length-openings parent at d) in
      let one = rise-data t depth holder parent front (later ++ back) at d e parted in
      let rest = rise-items t depth holder parent (front ++ here) back (at + size d) ds long (parted ∙ sym (append_assoc front here (later ++ back))) in
      let high : at + size d + items_size ds ≡ at + (size d + items_size ds) = omega arith in
      subst (λ ns. Within at (at + (size d + items_size ds)) ns) (sym (numbers-append t F (child_number at d) (child_numbers (at + size d) ds)))
      (within-append at (at + size d) (at + (size d + items_size ds)) _ _ one (subst (λ h. Within (at + size d) h (numbers (flat_map F (counted t (child_numbers (at + size d) ds))))) high rest))

-- all numbers of the elements of a tree rise, below their count
within-tree : (t : List Node) → IsTreeOf t → Within 0 (length t) (numbers (links_of t))
unfolding links_of
within-tree t h = subst (λ n. Within 0 n (numbers (links_from t (length t) (record { parent = 0; node = 0 })))) (sym long) (stand (length t))
  where
    long : length t ≡ size (array h.items)
    long = ap length h.is ∙ length-map (openings [] 0 (array h.items)) node_of ∙ length-openings [] 0 (array h.items)

    later : List Node
    later = map node_of (openings_in (name_in h.items) 1 h.items)

    first : Node
    first = node_of (record { parent = []; number = 0; items = h.items })

    children : children_of t 0 ≡ counted t (child_numbers 1 h.items)
    children = ap (λ o. counted t (node_children o)) (ap (λ ns. slice_get ns 0) h.is)

    stand : (depth : ℕ) → Within 0 (size (array h.items)) (numbers (links_from t depth (record { parent = 0; node = 0 })))
    stand zero = omega arith
    stand (suc depth) =
        let rest = rise-items t depth 0 (name_in h.items) (first ∷ []) [] 1 h.items refl (h.is ∙ ap (λ ns. first ∷ ns) (sym (append-nil later))) in
        let low : 1 ≡ 0 + 1 = omega arith in
        let high : 1 + items_size h.items ≡ size (array h.items) = omega arith in (
          omega arith,
          omega arith,
          same-ends 1 (1 + items_size h.items) (0 + 1) (size (array h.items)) _ low high
              (subst (λ cs. Within 1 (1 + items_size h.items) (numbers (flat_map (λ child. links_from t depth (record { parent = 0; node = child })) cs))) (sym children) rest),
        )

pub once : (file : ℕ) (octets : List ℕ) (t : List Node) → tree_in file octets ≡ Ok t → RiseFrom 0 (map (λ l. l.node) (links_of t))
once file octets t h = rise 0 (length t) (numbers (links_of t)) (within-tree t (tree-read file octets t h))

below-end : (low high : ℕ) (ns : List ℕ) → Within low high ns → AllByRecursion (λ n. n < high) ns
below-end low high [] h = tt
below-end low high (n ∷ ns) h = (h.1, below-end (n + 1) high ns h.2)

pub within : (file : ℕ) (octets : List ℕ) (t : List Node) → tree_in file octets ≡ Ok t → AllByRecursion (λ n. n < length t) (map (λ l. l.node) (links_of t))
within file octets t h = below-end 0 (length t) (numbers (links_of t)) (within-tree t (tree-read file octets t h))
