-- The elements that count, one level after another.
use Rattle.std.proofs.Common.{◌≡◌, ◌≢◌, ℕ, zero, suc, ◌-◌, List, [], ◌∷◌, ◌++◌, refl, sym, ap, ◌∙◌, append_assoc, arith}
use Rattle.std.specs.List.{flat_map}
use Rattle.eds_tree.specs.declared.tree.Node.{Node}
use Rattle.eds_tree.specs.declared.link.Link.{Link}
use Rattle.eds_tree.specs.Trees.{links_from, children_of}

-- all that stands below an element
abbrev pub links_below : List Node → ℕ → ℕ → List Link
links_below t depth parent = flat_map (λ child. links_from t depth (record { parent = parent; node = child })) (children_of t parent)

pub links_from-below : (t : List Node) (depth : ℕ) (link : Link) → depth ≢ 0 → links_from t depth link ≡ link ∷ links_below t (depth - 1) link.node
links_from-below t zero link h = absurd (h refl)
links_from-below t (suc depth) link h = let e : suc depth - 1 ≡ depth = omega arith in rw e refl

-- an element was put last, and then all below it
pub pushed_below : (t : List Node) (depth : ℕ) (link : Link) (old pushed new : List Link) → depth ≢ 0 → pushed ≡ old ++ link ∷ []
    → new ≡ pushed ++ links_below t (depth - 1) link.node → new ≡ old ++ links_from t depth link
pushed_below t depth link old pushed new h p e =
    e ∙ ap (λ xs. xs ++ links_below t (depth - 1) link.node) p ∙ append_assoc old (link ∷ []) (links_below t (depth - 1) link.node)
    ∙ ap (λ xs. old ++ xs) (sym (links_from-below t depth link h))
