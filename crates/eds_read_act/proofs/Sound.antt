-- The elements that break nothing, one level after another.
use Rattle.std.proofs.Common.{◌≡◌, ◌≢◌, ℕ, zero, suc, ◌-◌, true, false, List, [], ◌∷◌, ◌++◌, refl, sym, ap, ◌∙◌, append_assoc, append-nil, arith}
use Rattle.std.specs.List.{flat_map}
use Rattle.eds_tree.specs.declared.link.Link.{Link}
use Rattle.eds_tree.specs.Trees.{children_of}
use Rattle.eds_read_act.specs.BadReference.{is_bad}
use Rattle.eds_read_act.specs.Scopes.{Scope}
use Rattle.eds_read_act.specs.TypeMismatch.{sound_from}

-- all that stands below an element
abbrev pub sound_below : Scope → ℕ → ℕ → List Link
sound_below s depth parent = flat_map (λ child. sound_from s depth (record { parent = parent; node = child })) (children_of s.tree parent)

module _ (s : Scope) where
  pub sound_from-below : (depth : ℕ) (link : Link) → depth ≢ 0 → false ≡ is_bad s link → sound_from s depth link ≡ link ∷ sound_below s (depth - 1) link.node
  sound_from-below zero link h b = absurd (h refl)
  sound_from-below (suc depth) link h b = let e : suc depth - 1 ≡ depth = omega arith in rw (e, ← b) refl

  pub sound_from-bad : (depth : ℕ) (link : Link) → true ≡ is_bad s link → sound_from s depth link ≡ []
  sound_from-bad zero link b = refl
  sound_from-bad (suc depth) link b = rw (← b) refl

  -- an element was put last, and then all below it
  pub pushed_sound : (depth : ℕ) (link : Link) (old pushed new : List Link) → depth ≢ 0 → false ≡ is_bad s link → pushed ≡ old ++ link ∷ []
      → new ≡ pushed ++ sound_below s (depth - 1) link.node → new ≡ old ++ sound_from s depth link
  pushed_sound depth link old pushed new h b p e =
      e ∙ ap (λ xs. xs ++ sound_below s (depth - 1) link.node) p ∙ append_assoc old (link ∷ []) (sound_below s (depth - 1) link.node)
      ∙ ap (λ xs. old ++ xs) (sym (sound_from-below depth link h b))

  -- an element that breaks BadReference is left out
  pub pushed_none : (depth : ℕ) (link : Link) (old : List Link) → true ≡ is_bad s link → old ≡ old ++ sound_from s depth link
  pushed_none depth link old b = sym (ap (λ xs. old ++ xs) (sound_from-bad depth link b) ∙ append-nil old)
