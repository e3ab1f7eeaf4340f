-- The package and the component around an element are the nearest of its ancestors.
use Rattle.std.proofs.Common.{ℕ, zero, suc, List, [], ◌∷◌, ◌++◌, length, refl, ap, codes, arith}
use Rattle.std.specs.Prelude.{if◌then◌else◌}
use Rattle.std.specs.List.{AllByRecursion, IsAmong, flat_map}
use Rattle.eds_base.specs.Reading.{same}
use Rattle.eds_tree.specs.declared.tree.Node.{Node}
use Rattle.eds_tree.specs.Trees.{name_at, children_of}
use Rattle.eds_names.specs.declared.standing.Standing.{Standing}
use Rattle.eds_names.specs.Standings.{below, standings_from, standings_of}
use Rattle.eds_names.specs.Surroundings.{IsSurrounded}

pub all-append : {A : Type 0} (P : A → Type 0) (xs ys : List A) → AllByRecursion P xs → AllByRecursion P ys → AllByRecursion P (xs ++ ys)
all-append P [] ys h k = k
all-append P (x ∷ xs) ys h k = (h.0, all-append P xs ys h.1 k)

pub among-more : {A : Type 0} (x : A) (xs : List A) (v : A) → IsAmong xs v → IsAmong (x ∷ xs) v
among-more x xs v h = (suc h.0, (omega (arith, h.1.0), h.1.1))

all-within : {A : Type 0} (xs whole : List A) → ((v : A) → IsAmong xs v → IsAmong whole v) → AllByRecursion (IsAmong whole) xs
all-within [] whole f = tt
all-within (x ∷ xs) whole f = (f x (0, (omega arith, refl)), all-within xs whole (λ v h. f v (among-more x xs v h)))

-- each of some items is among them
all-among : {A : Type 0} (xs : List A) → AllByRecursion (IsAmong xs) xs
all-among xs = all-within xs xs (λ v h. h)

-- what stands around a child, whose ancestors are its parent and then those of its parent
surrounded-child : (t : List Node) (s : Standing) (child : ℕ) → IsSurrounded t s → IsAmong (children_of t s.node) child → IsSurrounded t (below t s child)
surrounded-child t s child h among = record {
  ancestors = s.node ∷ h.ancestors;
  descends = (among, h.descends);
  in_package = ap (λ n. if same (name_at t s.node) (codes "Package") then s.node else n) h.in_package;
  in_component = ap (λ n. if same (name_at t s.node) (codes "Component") then s.node else n) h.in_component;
}

surrounded-from : (t : List Node) (depth : ℕ) (s : Standing) → IsSurrounded t s → AllByRecursion (IsSurrounded t) (standings_from t depth s)
surrounded-from t zero s h = tt
surrounded-from t (suc depth) s h = (h, go (children_of t s.node) (all-among (children_of t s.node)) (λ child k. surrounded-from t depth (below t s child) k))
  where
    go : (xs : List ℕ) → AllByRecursion (IsAmong (children_of t s.node)) xs → ((child : ℕ) → IsSurrounded t (below t s child) → AllByRecursion (IsSurrounded t) (standings_from t depth (below t s child)))
        → AllByRecursion (IsSurrounded t) (flat_map (λ child. standings_from t depth (below t s child)) xs)
    go [] k down = tt
    go (x ∷ xs) k down = all-append (IsSurrounded t) (standings_from t depth (below t s x)) _ (down x (surrounded-child t s x h k.0)) (go xs k.1 down)

pub surrounded : (t : List Node) → AllByRecursion (IsSurrounded t) (standings_of t)
unfolding standings_of
surrounded t = surrounded-from t (length t) (record { parent = 0; node = 0; in_package = 0; in_component = 0 }) (record { ancestors = []; descends = refl; in_package = refl; in_component = refl })
