-- The first name by which a rule is broken at or under a pair.
use Rattle.std.proofs.Common.{◌≡◌, ℕ, zero, suc, ◌+◌, ◌-◌, ◌<◌, ◌≤◌, Bool, true, false, List, [], ◌∷◌, ◌++◌, length, map, drop, get_or, Option, Some, None, is_some, refl, sym, ap, ◌∙◌, arith}
use Rattle.std.specs.List.{flat_map}
use Rattle.std.proofs.lemmas.Grind.{flat_map-append}
use Rattle.eds_base.specs.declared.ids.TypeId.{TypeId}
use Rattle.eds_generic.specs.declared.face.Face.{Face}
use Rattle.eds_generic.specs.declared.face.Base.{Base}
use Rattle.eds_generic.specs.declared.pair.Pair.{Pair}
use Rattle.eds_generic.specs.Faces.{bases}
use Rattle.eds_generic.specs.Pairs.{below, below_by, reached, ends_within, most, same_pair, is_among, put}
use Rattle.eds_generic.specs.NameRules.{first, Names, names_under, AreClean, IsAlike}
use Rattle.eds_generic.proofs.Once.{put-either}
use Rattle.eds_generic.proofs.Same.{pair-face, below-same}
use Rattle.eds_generic.proofs.Gathering.{ends-next, flat_map-alike, opened-at}

-- ---- the first of a list

pub first-none : {A : Type 0} (xs : List A) → first xs ≡ None → xs ≡ []
first-none [] e = refl
first-none (x ∷ xs) e = cc

pub first-some : {A : Type 0} (xs ys : List A) (x : A) → first xs ≡ Some x → first (xs ++ ys) ≡ Some x
first-some [] ys x e = cc
first-some (y ∷ xs) ys x e = e

-- ---- what is reached

pub reached-next : (n : ℕ) (faces : List Face) (p : Pair) → 0 < n → reached n faces p ≡ p ∷ flat_map (reached (n - 1) faces) (below faces p)
unfolding reached
reached-next zero faces p h = absurd (omega arith)
reached-next (suc n) faces p h = let back : suc n - 1 ≡ n = omega arith in rw back refl

pub reached-more : (n m : ℕ) (faces : List Face) (p : Pair) → ends_within n faces p.face.0 ≡ true → n ≤ m → reached m faces p ≡ reached n faces p
unfolding reached ends_within
reached-more zero m faces p e h = cc
reached-more (suc n) zero faces p e h = absurd (omega arith)
reached-more (suc n) (suc m) faces p e h =
    ap (λ ps. p ∷ ps) (flat_map-alike (λ (b : Base). ends_within n faces b.face.0) (reached m faces) (reached n faces) (below_by faces p.face p.types) (λ b k. reached-more n m faces (below_by faces p.face p.types b) k (omega arith)) (bases faces p.face.0) e)

module _ (names : Names) (faces : List Face) (types : List (Option TypeId)) where
  abbrev of_pairs : List Pair → List (List ℕ)
  of_pairs ps = flat_map (names faces types) ps

  -- what is judged already is not broken
  pub clean-there : (clean : List Pair) (n : ℕ) (p : Pair) → AreClean names faces types clean → ends_within n faces p.face.0 ≡ true → n ≤ most faces
      → is_among clean p ≡ true → None ≡ first (of_pairs (reached n faces p))
  clean-there clean n p h e l k = sym (ap first (sym (ap of_pairs (reached-more n (most faces) faces p e l)) ∙ h p k))

  -- it is broken by the pair itself
  pub first-here : (n : ℕ) (p : Pair) (w : Option (List ℕ)) (x : List ℕ) → ends_within n faces p.face.0 ≡ true → w ≡ first (names faces types p) → w ≡ Some x → w ≡ first (of_pairs (reached n faces p))
  first-here n p w x e h s =
      let lt : 0 < n = (ends-next n faces p.face.0 e).0 in
      s ∙ sym (ap (λ ps. first (of_pairs ps)) (reached-next n faces p lt) ∙ first-some (names faces types p) (of_pairs (flat_map (reached (n - 1) faces) (below faces p))) x (sym h ∙ s))

  -- it is broken under the pair alone
  pub first-under : (n : ℕ) (p : Pair) (w u : Option (List ℕ)) → ends_within n faces p.face.0 ≡ true → w ≡ first (names faces types p) → w ≡ None → u ≡ first (of_pairs (flat_map (reached (n - 1) faces) (below faces p))) → u ≡ first (of_pairs (reached n faces p))
  first-under n p w u e h s g =
      let lt : 0 < n = (ends-next n faces p.face.0 e).0 in
      let none : names faces types p ≡ [] = first-none (names faces types p) (sym h ∙ s) in
      g ∙ sym (ap (λ ps. first (of_pairs ps)) (reached-next n faces p lt) ∙ ap (λ ns. first (ns ++ of_pairs (flat_map (reached (n - 1) faces) (below faces p)))) none)

  -- it is not broken at all
  pub put-clean : (clean new : List Pair) (n : ℕ) (p : Pair) (w u : Option (List ℕ)) → IsAlike names → ends_within n faces p.face.0 ≡ true → n ≤ most faces
      → w ≡ first (names faces types p) → w ≡ None → u ≡ first (of_pairs (flat_map (reached (n - 1) faces) (below faces p))) → u ≡ None
      → new ≡ put clean p → AreClean names faces types clean → AreClean names faces types new
  put-clean clean new n p w u alike e l h s g z m was q k = go (is_among clean q) refl
    where
      go : (b : Bool) → is_among clean q ≡ b → names_under names faces types q ≡ []
      go true a = was q a
      go false a =
          let as_one : same_pair q p ≡ true = put-either clean p q (sym (ap (λ fs. is_among fs q) m) ∙ k) a in
          let ends : ends_within n faces q.face.0 ≡ true = ap (ends_within n faces) (pair-face q p as_one) ∙ e in
          let lt : 0 < n = (ends-next n faces q.face.0 ends).0 in
          let here : names faces types q ≡ [] = alike faces types q p as_one (first-none (names faces types p) (sym h ∙ s)) in
          let under : of_pairs (flat_map (reached (n - 1) faces) (below faces p)) ≡ [] = first-none (of_pairs (flat_map (reached (n - 1) faces) (below faces p))) (sym g ∙ z) in
          ap of_pairs (reached-more n (most faces) faces q ends l ∙ reached-next n faces q lt) ∙ ap (λ qs. names faces types q ++ of_pairs (flat_map (reached (n - 1) faces) qs)) (below-same faces q p as_one) ∙ rw (here, under) refl

  -- ---- one base after another

  abbrev of_bases : ℕ → Pair → List Base → List (List ℕ)
  of_bases n p bs = of_pairs (flat_map (reached n faces) (map (below_by faces p.face p.types) bs))

  open-base : (n : ℕ) (p : Pair) (bs : List Base) (i : ℕ) (b : Base) → i < length bs → b ≡ get_or bs i b → of_bases n p (drop i bs) ≡ of_pairs (reached n faces (below_by faces p.face p.types b)) ++ of_bases n p (drop (i + 1) bs)
  open-base n p bs i b h e = ap (of_bases n p) (opened-at bs i b h e) ∙ flat_map-append (names faces types) (reached n faces (below_by faces p.face p.types b)) (flat_map (reached n faces) (map (below_by faces p.face p.types) (drop (i + 1) bs)))

  pub base-some : (n : ℕ) (p q : Pair) (bs : List Base) (i : ℕ) (b : Base) (w : Option (List ℕ)) (x : List ℕ) (whole : Option (List ℕ)) → i < length bs → b ≡ get_or bs i b → q ≡ below_by faces p.face p.types b
      → w ≡ first (of_pairs (reached n faces q)) → w ≡ Some x → first (of_bases n p (drop i bs)) ≡ whole → w ≡ whole
  base-some n p q bs i b w x whole h e u f s inv =
      s ∙ sym (ap first (open-base n p bs i b h e) ∙ first-some (of_pairs (reached n faces (below_by faces p.face p.types b))) _ x (ap (λ r. first (of_pairs (reached n faces r))) (sym u) ∙ sym f ∙ s)) ∙ inv

  pub base-none : (n : ℕ) (p q : Pair) (bs : List Base) (i : ℕ) (b : Base) (w whole : Option (List ℕ)) → i < length bs → b ≡ get_or bs i b → q ≡ below_by faces p.face p.types b
      → w ≡ first (of_pairs (reached n faces q)) → w ≡ None → first (of_bases n p (drop i bs)) ≡ whole → first (of_bases n p (drop (i + 1) bs)) ≡ whole
  base-none n p q bs i b w whole h e u f s inv =
      let none : of_pairs (reached n faces (below_by faces p.face p.types b)) ≡ [] = first-none _ (ap (λ r. first (of_pairs (reached n faces r))) (sym u) ∙ sym f ∙ s) in
      sym (ap first (open-base n p bs i b h e) ∙ ap (λ ns. first (ns ++ of_bases n p (drop (i + 1) bs))) none) ∙ inv

-- ---- there is one, or none

pub some-of : {A : Type 0} (w : Option A) → is_some w ≡ true → (x : A) × (w ≡ Some x)
some-of (Some x) e = (x, refl)
some-of None e = cc

pub none-of : {A : Type 0} (w : Option A) → is_some w ≡ false → w ≡ None
none-of (Some x) e = cc
none-of None e = refl

-- nothing is clean yet
pub none-clean : (names : Names) (faces : List Face) (types : List (Option TypeId)) (clean : List Pair) → clean ≡ [] → AreClean names faces types clean
none-clean names faces types clean e p h = absurd (let f = rw e at h in cc)
