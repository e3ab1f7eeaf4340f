-- In a file that was read no element that is not passed over is left out: none stands deeper than there are elements.
use Rattle.std.proofs.Common.{◌≡◌, ℕ, zero, suc, ◌+◌, ◌-◌, ◌<◌, ◌≤◌, Bool, true, false, not, List, [], ◌∷◌, ◌++◌, length, map, Option, Some, None, option_map, Ok, refl, sym, ap, ◌∙◌, subst, slice_get, append_assoc, arith}
use Rattle.std.specs.Prelude.{filter}
use Rattle.std.specs.List.{AllByRecursion, IsAmong, flat_map}
use Rattle.std.proofs.lemmas.List.{map-append, length-map}
use Rattle.std.proofs.lemmas.Option.{slice_get-map}
use Rattle.serde_json.specs.Data.{Data, null, boolean, number, string, array, object, Items, no_items, item}
use Rattle.eds_tree.specs.declared.tree.Node.{Node}
use Rattle.eds_tree.specs.declared.link.Link.{Link}
use Rattle.eds_tree.specs.Elements.{Opening, size, items_size, openings, openings_in, child_number, child_numbers, node_of, name_in}
use Rattle.eds_tree.specs.Reading.{tree_in}
use Rattle.eds_tree.specs.Trees.{name_at, node_children, children_at, children_of, is_passed_over, links_from, links_of}
use Rattle.eds_tree.proofs.Growing.{length-openings}
use Rattle.eds_tree.specs.Walks.{Descends}
use Rattle.eds_tree.proofs.Once.{IsTreeOf, tree-read}

all-append : {A : Type 0} (P : A → Type 0) (xs ys : List A) → AllByRecursion P xs → AllByRecursion P ys → AllByRecursion P (xs ++ ys)
all-append P [] ys h k = k
all-append P (x ∷ xs) ys h k = (h.0, all-append P xs ys h.1 k)

among-more : {A : Type 0} (x : A) (xs : List A) (v : A) → IsAmong xs v → IsAmong (x ∷ xs) v
among-more x xs v h = (suc h.0, (omega (arith, h.1.0), h.1.1))

-- ---- a child has a greater number than its parent

abbrev IsBetween : ℕ → ℕ → ℕ → Type 0
IsBetween low high n = (low ≤ n) × (n < high)

wider : (low high less more : ℕ) (ns : List ℕ) → less ≤ low → high ≤ more → AllByRecursion (IsBetween low high) ns → AllByRecursion (IsBetween less more) ns
wider low high less more [] a b h = tt
wider low high less more (n ∷ ns) a b h = ((omega (arith, a, h.0.0), omega (arith, b, h.0.1)), wider low high less more ns a b h.1)

number-between : (at : ℕ) (d : Data) → AllByRecursion (IsBetween at (at + size d)) (child_number at d)
number-between at null = tt
number-between at (boolean b) = tt
number-between at (number n) = tt
number-between at (string s) = tt
number-between at (array ds) = ((omega arith, omega arith), tt)
number-between at (object ms) = tt

numbers-between : (at : ℕ) (ds : Items) → AllByRecursion (IsBetween at (at + items_size ds)) (child_numbers at ds)
numbers-between at no_items = tt
numbers-between at (item d ds) =
    all-append _ (child_number at d) (child_numbers (at + size d) ds)
    (wider at (at + size d) at (at + (size d + items_size ds)) (child_number at d) (omega arith) (omega arith) (number-between at d))
    (wider (at + size d) (at + size d + items_size ds) at (at + (size d + items_size ds)) (child_numbers (at + size d) ds) (omega arith) (omega arith) (numbers-between (at + size d) ds))

-- an opening has the number of its place, and all that it holds opens behind it
record IsPlaced (high at : ℕ) (o : Opening) : Type 0 where
  numbered : o.number ≡ at
  holds : o.number + 1 + items_size o.items ≤ high

abbrev ArePlaced : ℕ → ℕ → List Opening → Type 0
ArePlaced high at [] = Unit {0}
ArePlaced high at (o ∷ os) = IsPlaced high at o × ArePlaced high (at + 1) os

placed-append : (high at next : ℕ) (os ps : List Opening) → at + length os ≡ next → ArePlaced high at os → ArePlaced high next ps → ArePlaced high at (os ++ ps)
placed-append high at next [] ps e h k = let z : next ≡ at = omega (arith, e) in subst (λ n. ArePlaced high n ps) z k
placed-append high at next (o ∷ os) ps e h k = (h.0, placed-append high (at + 1) next os ps (omega (arith, e)) h.1 k)

mutual
  placed : (high at : ℕ) (parent : List ℕ) (d : Data) → at + size d ≤ high → ArePlaced high at (openings parent at d)
  placed high at parent null h = tt
  placed high at parent (boolean b) h = tt
  placed high at parent (number n) h = tt
  placed high at parent (string s) h = tt
  placed high at parent (array ds) h = (record { numbered = refl; holds = omega (arith, h) }, placed_in high (at + 1) (name_in ds) ds (omega (arith, h)))
  placed high at parent (object ms) h = tt

  placed_in : (high at : ℕ) (parent : List ℕ) (ds : Items) → at + items_size ds ≤ high → ArePlaced high at (openings_in parent at ds)
  placed_in high at parent no_items h = tt
  placed_in high at parent (item d ds) h =
      placed-append high at (at + size d) (openings parent at d) (openings_in parent (at + size d) ds) (omega (arith, length-openings parent at d))
      (placed high at parent d (omega (arith, h))) (placed_in high (at + size d) parent ds (omega (arith, h)))

placed-get : (high at k : ℕ) (os : List Opening) (o : Opening) → ArePlaced high at os → slice_get os k ≡ Some o → IsPlaced high (at + k) o
placed-get high at k [] o h e = absurd (cc)
placed-get high at zero (p ∷ os) o h e =
    let same : p ≡ o = cc in
    let z : at + 0 ≡ at = omega arith in
    subst (λ n. IsPlaced high n o) (sym z) (subst (IsPlaced high at) same h.0)
placed-get high at (suc k) (p ∷ os) o h e =
    let z : at + 1 + k ≡ at + suc k = omega arith in
    subst (λ n. IsPlaced high n o) z (placed-get high (at + 1) k os o h.1 e)

-- the children of an element open behind it
children-behind : (t : List Node) → IsTreeOf t → (p : ℕ) → AllByRecursion (IsBetween (p + 1) (length t)) (children_at t p)
children-behind t h p = go (slice_get os p) refl
  where
    os : List Opening
    os = openings [] 0 (array h.items)

    long : length t ≡ size (array h.items)
    long = ap length h.is ∙ length-map os node_of ∙ length-openings [] 0 (array h.items)

    there : slice_get t p ≡ option_map node_of (slice_get os p)
    there = ap (λ ns. slice_get ns p) h.is ∙ slice_get-map node_of os p

    go : (o : Option Opening) → slice_get os p ≡ o → AllByRecursion (IsBetween (p + 1) (length t)) (children_at t p)
    go None e = subst (λ n. AllByRecursion (IsBetween (p + 1) (length t)) (node_children n)) (sym (there ∙ ap (option_map node_of) e)) tt
    go (Some o) e =
        let here = placed-get (length t) 0 p os o (placed (length t) 0 [] (array h.items) (omega (arith, long))) e in
        subst (λ n. AllByRecursion (IsBetween (p + 1) (length t)) (node_children n)) (sym (there ∙ ap (option_map node_of) e))
        (wider (o.number + 1) (o.number + 1 + items_size o.items) (p + 1) (length t) (child_numbers (o.number + 1) o.items) (omega (arith, here.numbered)) here.holds (numbers-between (o.number + 1) o.items))

among-all : (P : ℕ → Type 0) (xs : List ℕ) (n : ℕ) → AllByRecursion P xs → IsAmong xs n → P n
among-all P [] n h k = absurd (omega (arith, k.1.0))
among-all P (x ∷ xs) n h (zero, k) = subst P (sym k.1) h.0
among-all P (x ∷ xs) n h (suc i, k) = among-all P xs n h.1 (i, (omega (arith, k.0), k.1))

kept : (P : ℕ → Type 0) (p : ℕ → Bool) (xs : List ℕ) → AllByRecursion P xs → AllByRecursion P (filter p xs)
kept P p [] h = tt
kept P p (x ∷ xs) h = go (p x) refl (kept P p xs h.1)
  where
    go : (b : Bool) → p x ≡ b → AllByRecursion P (filter p xs) → AllByRecursion P (filter p (x ∷ xs))
    go true e rest = rw e (h.0, rest)
    go false e rest = rw e rest

-- so an element has at most as many ancestors as its number
few-ancestors : (t : List Node) → IsTreeOf t → (n : ℕ) (ancestors : List ℕ) → Descends t n ancestors → (length ancestors ≤ n) × (n < length t)
few-ancestors t h n [] d =
    let long : length t ≡ size (array h.items) = ap length h.is ∙ length-map (openings [] 0 (array h.items)) node_of ∙ length-openings [] 0 (array h.items) in
    (omega arith, omega (arith, d, long))
few-ancestors t h n (parent ∷ above) d =
    let up = few-ancestors t h parent above d.1 in
    let behind = among-all (IsBetween (parent + 1) (length t)) (children_of t parent) n (kept _ (λ child. not (is_passed_over (name_at t child))) (children_at t parent) (children-behind t h parent)) d.0 in
    (omega (arith, up.0, behind.0), behind.1)

-- ---- all that descends is reached

-- an element stands in the list, with all below it down to a depth
record IsReached (t : List Node) (whole : List Link) (depth n : ℕ) : Type 0 where
  link : Link
  is : link.node ≡ n
  before : List Link
  after : List Link
  there : whole ≡ before ++ (links_from t depth link ++ after)

-- one of the lists that are joined
record IsPart (F : ℕ → List Link) (xs : List ℕ) (n : ℕ) : Type 0 where
  before : List Link
  after : List Link
  there : flat_map F xs ≡ before ++ (F n ++ after)

part : (F : ℕ → List Link) (xs : List ℕ) (n : ℕ) → IsAmong xs n → IsPart F xs n
part F [] n h = absurd (omega (arith, h.1.0))
part F (x ∷ xs) n (zero, k) = record { before = []; after = flat_map F xs; there = ap (λ y. F y ++ flat_map F xs) (sym k.1) }
part F (x ∷ xs) n (suc i, k) =
    let p = part F xs n (i, (omega (arith, k.0), k.1)) in
    record { before = F x ++ p.before; after = p.after; there = ap (λ ys. F x ++ ys) p.there ∙ sym (append_assoc (F x) p.before (F n ++ p.after)) }

reach : (t : List Node) (deep : ℕ) (n : ℕ) (ancestors : List ℕ) (depth : ℕ) → Descends t n ancestors → depth + length ancestors ≡ deep → 0 < depth
    → IsReached t (links_from t deep (record { parent = 0; node = 0 })) depth n
reach t deep n [] depth d e some =
    let z : deep ≡ depth = omega (arith, e) in
    record {
      link = record { parent = 0; node = 0 };
      is = sym d;
      before = [];
      after = [];
      there = ap (λ k. links_from t k (record { parent = 0; node = 0 })) z ∙ sym (nothing _);
    }
  where
    nothing : (ss : List Link) → ss ++ [] ≡ ss
    nothing [] = refl
    nothing (s ∷ ss) = ap (λ xs. s ∷ xs) (nothing ss)
reach t deep n (parent ∷ above) depth d e some =
    let up = reach t deep parent above (suc depth) d.1 (omega (arith, e)) (omega arith) in
    let F : ℕ → List Link = λ child. links_from t depth (record { parent = up.link.node; node = child }) in
    let among : IsAmong (children_of t up.link.node) n = subst (λ k. IsAmong (children_of t k) n) (sym up.is) d.0 in
    let p = part F (children_of t up.link.node) n among in
    record {
      link = record { parent = up.link.node; node = n };
      is = refl;
      before = up.before ++ up.link ∷ p.before;
      after = p.after ++ up.after;
      there = up.there
          ∙ ap (λ ys. up.before ++ (up.link ∷ ys ++ up.after)) p.there
          ∙ ap (λ ys. up.before ++ up.link ∷ ys) (append_assoc p.before (F n ++ p.after) up.after ∙ ap (λ ys. p.before ++ ys) (append_assoc (F n) p.after up.after))
          ∙ sym (append_assoc up.before (up.link ∷ p.before) (F n ++ (p.after ++ up.after)));
    }

among-behind : (xs ys : List ℕ) (n : ℕ) → IsAmong (xs ++ n ∷ ys) n
among-behind [] ys n = (0, (omega arith, refl))
among-behind (x ∷ xs) ys n = among-more x (xs ++ n ∷ ys) n (among-behind xs ys n)

pub all_reached : (file : ℕ) (octets : List ℕ) (t : List Node) (n : ℕ) (ancestors : List ℕ) → tree_in file octets ≡ Ok t → Descends t n ancestors → IsAmong (map (λ s. s.node) (links_of t)) n
unfolding links_of
all_reached file octets t n ancestors h d =
    let few = few-ancestors t (tree-read file octets t h) n ancestors d in
    go (length t - length ancestors) (omega (arith, few.0, few.1))
  where
    go : (depth : ℕ) → (depth + length ancestors ≡ length t) × (0 < depth) → IsAmong (map (λ s. s.node) (links_from t (length t) (record { parent = 0; node = 0 }))) n
    go zero k = absurd (omega (arith, k.1))
    go (suc depth) k =
        let r = reach t (length t) n ancestors (suc depth) d k.0 k.1 in
        let numbers : List Link → List ℕ = map (λ s. s.node) in
        let there = ap numbers r.there ∙ map-append (λ (s : Link). s.node) r.before _ in
        let below : List Link = flat_map (λ child. links_from t depth (record { parent = r.link.node; node = child })) (children_of t r.link.node) ++ r.after in
        subst (λ ns. IsAmong ns n) (sym there) (subst (λ k. IsAmong (numbers r.before ++ k ∷ numbers below) n) (sym r.is) (among-behind (numbers r.before) (numbers below) n))
