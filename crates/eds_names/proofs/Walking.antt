-- Elements with what stands around them, one level after another.
use Rattle.std.proofs.Common.{◌≡◌, ◌≢◌, ℕ, zero, suc, ◌-◌, List, [], ◌∷◌, ◌++◌, refl, sym, ap, ◌∙◌, append_assoc, arith}
use Rattle.std.specs.List.{flat_map}
use Rattle.eds_tree.specs.declared.tree.Node.{Node}
use Rattle.eds_tree.specs.Trees.{children_of}
use Rattle.eds_names.specs.declared.standing.Standing.{Standing}
use Rattle.eds_names.specs.Standings.{below, standings_from}

-- all that stands below an element
abbrev pub standings_below : List Node → ℕ → Standing → List Standing
standings_below t depth s = flat_map (λ child. standings_from t depth (below t s child)) (children_of t s.node)

standings_from-below : (t : List Node) (depth : ℕ) (s : Standing) → depth ≢ 0 → standings_from t depth s ≡ s ∷ standings_below t (depth - 1) s
standings_from-below t zero s h = absurd (h refl)
standings_from-below t (suc depth) s h = let e : suc depth - 1 ≡ depth = omega arith in rw e refl

-- an element was put last, and then all below it
pub pushed_below : (t : List Node) (depth : ℕ) (s : Standing) (old pushed new : List Standing) → depth ≢ 0 → pushed ≡ old ++ s ∷ []
    → new ≡ pushed ++ standings_below t (depth - 1) s → new ≡ old ++ standings_from t depth s
pushed_below t depth s old pushed new h p e =
    e ∙ ap (λ xs. xs ++ standings_below t (depth - 1) s) p ∙ append_assoc old (s ∷ []) (standings_below t (depth - 1) s)
    ∙ ap (λ xs. old ++ xs) (sym (standings_from-below t depth s h))
