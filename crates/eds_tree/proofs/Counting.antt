-- Counting the elements that stand under a parent.
use Rattle.std.proofs.Common.{◌≡◌, ℕ, zero, suc, ◌+◌, ◌-◌, ◌<◌, List, [], ◌∷◌, ◌++◌, length, map, filter, get_or, drop, drop-cons, add-one, Option, Some, Ok, Err, refl, sym, ap, ◌∙◌, arith}
use Rattle.std.specs.Prelude.{slice_get}
use Rattle.eds_base.specs.declared.ids.Place.{Place}
use Rattle.eds_tree.specs.declared.tree.Node.{Node}
use Rattle.eds_tree.specs.declared.link.Link.{Link}
use Rattle.eds_tree.specs.Trees.{links_of}
use Rattle.eds_tree.specs.Limits.{place_at, count_links, stands_under, places_in, places_from}

pub count_more : (link : Link) (links : List Link) (left : ℕ) → (left ≡ 0 → ⊥) → count_links (link ∷ links) left ≡ count_links links (left - 1)
count_more link links zero h = absurd (h refl)
count_more link links (suc left) h = let e : suc left - 1 ≡ left = omega arith in rw e refl

past-file : (file : ℕ) (links : List Link) (left rest : ℕ) (more : List Place) → count_links links left ≡ Ok rest → slice_get (map (place_at file) links ++ more) left ≡ slice_get more rest
past-file file [] left rest more e = let same : left ≡ rest = cc in ap (slice_get more) same
past-file file (link ∷ links) zero rest more e = absurd (cc)
past-file file (link ∷ links) (suc left) rest more e = past-file file links left rest more e

in-file : (file : ℕ) (links : List Link) (left node : ℕ) (more : List Place) → count_links links left ≡ Err node → slice_get (map (place_at file) links ++ more) left ≡ Some (record { file = file; node = node })
in-file file [] left node more e = absurd (cc)
in-file file (link ∷ links) zero node more e = let same : link.node ≡ node = cc in rw same refl
in-file file (link ∷ links) (suc left) node more e = in-file file links left node more e

module _ (parent row : List ℕ) (ts : List (List Node)) (i : ℕ) (t : List Node) (lt : i < length ts) (at : t ≡ get_or ts i t) where
  opened : places_from parent row i (drop i ts) ≡ places_in parent row i t ++ places_from parent row (i + 1) (drop (i + 1) ts)
  opened = let first : drop i ts ≡ t ∷ drop (i + 1) ts = drop-cons ts i t lt ∙ rw (add-one, ← at) refl in ap (places_from parent row i) first

  -- none of the file is one too many
  pub place-next : (left rest : ℕ) (whole : Option Place) → count_links (filter (stands_under t parent row) (links_of t)) left ≡ Ok rest → slice_get (places_from parent row i (drop i ts)) left ≡ whole
      → slice_get (places_from parent row (i + 1) (drop (i + 1) ts)) rest ≡ whole
  place-next left rest whole e h =
      sym (past-file i (filter (stands_under t parent row) (links_of t)) left rest (places_from parent row (i + 1) (drop (i + 1) ts)) e) ∙ (ap (λ ps. slice_get ps left) (sym opened) ∙ h)

  -- one is
  pub place-here : (left node : ℕ) (whole : Option Place) → count_links (filter (stands_under t parent row) (links_of t)) left ≡ Err node → slice_get (places_from parent row i (drop i ts)) left ≡ whole
      → Some (record { file = i; node = node }) ≡ whole
  place-here left node whole e h =
      sym (in-file i (filter (stands_under t parent row) (links_of t)) left node (places_from parent row (i + 1) (drop (i + 1) ts)) e) ∙ (ap (λ ps. slice_get ps left) (sym opened) ∙ h)
