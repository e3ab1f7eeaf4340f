-- What is gathered of an interface under a map.
use Rattle.std.proofs.Common.{◌≡◌, ℕ, zero, suc, ◌+◌, ◌-◌, ◌<◌, ◌≤◌, Bool, true, false, ◌&&◌, List, Some, [], ◌∷◌, ◌++◌, length, map, drop, get_or, drop-cons, add-one, append_assoc, refl, sym, ap, ◌∙◌, arith, slice_get}
use Rattle.std.specs.List.{list_all, flat_map}
use Rattle.std.proofs.lemmas.List.Folds.{list_all-append}
use Rattle.std.proofs.lemmas.Option.{slice_get_within, slice_get-get_or}
use Rattle.eds_generic.specs.declared.face.Face.{Face}
use Rattle.eds_generic.specs.declared.face.Base.{Base}
use Rattle.eds_generic.specs.declared.pair.Pair.{Pair}
use Rattle.eds_generic.specs.Faces.{bases}
use Rattle.eds_generic.specs.Pairs.{below, below_by, gathered, ends_within, most, same_pair, is_among, put, put_all, IsClosed}
use Rattle.eds_generic.proofs.Once.{all-implied, and-both, and-left, and-right, put-keeps, put-either, put_all-append, put_all-there, put_all-has}
use Rattle.eds_generic.specs.Members.{declared_count}
use Rattle.eds_generic.proofs.Counting.{many-grow}
use Rattle.eds_generic.proofs.Same.{pair-itself, pair-face, below-same}

pub gathered-next : (n : ℕ) (faces : List Face) (p : Pair) → 0 < n → gathered n faces p ≡ flat_map (gathered (n - 1) faces) (below faces p) ++ p ∷ []
unfolding gathered
gathered-next zero faces p h = absurd (omega arith)
gathered-next (suc n) faces p h = let back : suc n - 1 ≡ n = omega arith in rw back refl

pub ends-next : (n : ℕ) (faces : List Face) (f : ℕ) → ends_within n faces f ≡ true → (0 < n) × (list_all (λ (b : Base). ends_within (n - 1) faces b.face.0) (bases faces f) ≡ true)
unfolding ends_within
ends-next zero faces f e = cc
ends-next (suc n) faces f e = let back : suc n - 1 ≡ n = omega arith in (omega arith, rw back e)

-- the same of each base that passes a test
pub flat_map-alike : {A C : Type 0} (test : Base → Bool) (f g : A → List C) (h : Base → A) → ((b : Base) → test b ≡ true → f (h b) ≡ g (h b)) → (bs : List Base) → list_all test bs ≡ true → flat_map f (map h bs) ≡ flat_map g (map h bs)
flat_map-alike test f g h each [] e = refl
flat_map-alike test f g h each (b ∷ bs) e =
    let here = each b (and-left (test b) (list_all test bs) e) in
    let rest = flat_map-alike test f g h each bs (and-right (test b) (list_all test bs) e) in
    rw (here, rest) refl

-- what is gathered is the same over more steps than there are
pub gathered-more : (n m : ℕ) (faces : List Face) (p : Pair) → ends_within n faces p.face.0 ≡ true → n ≤ m → gathered m faces p ≡ gathered n faces p
unfolding gathered ends_within
gathered-more zero m faces p e h = cc
gathered-more (suc n) zero faces p e h = absurd (omega arith)
gathered-more (suc n) (suc m) faces p e h =
    ap (λ ps. ps ++ p ∷ []) (flat_map-alike (λ (b : Base). ends_within n faces b.face.0) (gathered m faces) (gathered n faces) (below_by faces p.face p.types) (λ b k. gathered-more n m faces (below_by faces p.face p.types b) k (omega arith)) (bases faces p.face.0) e)

-- ---- what is closed

module _ (faces : List Face) where
  -- all that is gathered of a pair that is there is there
  pub closed-there : (found : List Pair) (n : ℕ) (p : Pair) → IsClosed faces found → ends_within n faces p.face.0 ≡ true → n ≤ most faces
      → is_among found p ≡ true → put_all found (gathered n faces p) ≡ found
  closed-there found n p closed e h k =
      let all = closed p k in
      let few : gathered (most faces) faces p ≡ gathered n faces p = gathered-more n (most faces) faces p e h in
      put_all-there found (gathered n faces p) (ap (list_all (is_among found)) (sym few) ∙ all)

  -- putting a pair last after all its bases
  pub put-gathered : (found mid new : List Pair) (n : ℕ) (p : Pair) → ends_within n faces p.face.0 ≡ true
      → mid ≡ put_all found (flat_map (gathered (n - 1) faces) (below faces p)) → new ≡ put mid p → new ≡ put_all found (gathered n faces p)
  put-gathered found mid new n p e m w =
      let lt : 0 < n = (ends-next n faces p.face.0 e).0 in
      w ∙ ap (λ fs. put fs p) m ∙ sym (put_all-append found (flat_map (gathered (n - 1) faces) (below faces p)) (p ∷ [])) ∙ ap (put_all found) (sym (gathered-next n faces p lt))

  -- some with all that is gathered of their bases among them
  above-in : (mid new : List Pair) → ((q : Pair) → is_among mid q ≡ true → is_among new q ≡ true) → IsClosed faces mid → (q : Pair) → is_among mid q ≡ true → list_all (is_among new) (gathered (most faces) faces q) ≡ true
  above-in mid new more closed q k = all-implied (is_among mid) (is_among new) more (gathered (most faces) faces q) (closed q k)

  pub put-closed : (found mid new : List Pair) (n : ℕ) (p : Pair) → ends_within n faces p.face.0 ≡ true → n ≤ most faces
      → mid ≡ put_all found (flat_map (gathered (n - 1) faces) (below faces p)) → new ≡ put mid p → IsClosed faces mid → IsClosed faces new
  put-closed found mid new n p e h m w closed q k = go (is_among mid q) refl
    where
      more : (r : Pair) → is_among mid r ≡ true → is_among new r ≡ true
      more r a = ap (λ fs. is_among fs r) w ∙ put-keeps mid p r a

      go : (b : Bool) → is_among mid q ≡ b → list_all (is_among new) (gathered (most faces) faces q) ≡ true
      go true a = above-in mid new more closed q a
      go false a =
          let alike : same_pair q p ≡ true = put-either mid p q (sym (ap (λ fs. is_among fs q) w) ∙ k) a in
          let ends : ends_within n faces q.face.0 ≡ true = ap (ends_within n faces) (pair-face q p alike) ∙ e in
          let lt : 0 < n = (ends-next n faces q.face.0 ends).0 in
          let few : gathered (most faces) faces q ≡ flat_map (gathered (n - 1) faces) (below faces p) ++ q ∷ [] = gathered-more n (most faces) faces q ends h ∙ gathered-next n faces q lt ∙ ap (λ qs. flat_map (gathered (n - 1) faces) qs ++ q ∷ []) (below-same faces q p alike) in
          let bases_in : list_all (is_among mid) (flat_map (gathered (n - 1) faces) (below faces p)) ≡ true = ap (λ fs. list_all (is_among fs) (flat_map (gathered (n - 1) faces) (below faces p))) m ∙ put_all-has pair-itself found (flat_map (gathered (n - 1) faces) (below faces p)) in
          let bases_new = all-implied (is_among mid) (is_among new) more (flat_map (gathered (n - 1) faces) (below faces p)) bases_in in
          ap (list_all (is_among new)) few ∙ list_all-append (is_among new) (flat_map (gathered (n - 1) faces) (below faces p)) (q ∷ []) ∙ and-both _ (is_among new q && true) bases_new (and-both (is_among new q) true k refl)

-- ---- one base after another

pub opened-at : {A : Type 0} (xs : List A) (i : ℕ) (x : A) → i < length xs → x ≡ get_or xs i x → drop i xs ≡ x ∷ drop (i + 1) xs
opened-at xs i x h e = drop-cons xs i x h ∙ rw add-one (rw (← e) refl)

pub gather-step : (found new whole : List Pair) (n : ℕ) (faces : List Face) (p q : Pair) (bs : List Base) (i : ℕ) (b : Base) → i < length bs → b ≡ get_or bs i b
    → q ≡ below_by faces p.face p.types b → new ≡ put_all found (gathered n faces q)
    → put_all found (flat_map (gathered n faces) (map (below_by faces p.face p.types) (drop i bs))) ≡ whole
    → put_all new (flat_map (gathered n faces) (map (below_by faces p.face p.types) (drop (i + 1) bs))) ≡ whole
gather-step found new whole n faces p q bs i b h e u w inv =
    let opened = opened-at bs i b h e in
    let rest : List Pair = flat_map (gathered n faces) (map (below_by faces p.face p.types) (drop (i + 1) bs)) in
    ap (λ fs. put_all fs rest) w ∙ ap (λ r. put_all (put_all found (gathered n faces r)) rest) u ∙ sym (put_all-append found (gathered n faces (below_by faces p.face p.types b)) rest)
    ∙ ap (λ cs. put_all found (flat_map (gathered n faces) (map (below_by faces p.face p.types) cs))) (sym opened) ∙ inv

-- ---- too many members

module _ (faces : List Face) where
  pub put-many : (found mid : List Pair) (n : ℕ) (p : Pair) → ends_within n faces p.face.0 ≡ true → mid ≡ put_all found (flat_map (gathered (n - 1) faces) (below faces p))
      → 1024 < declared_count faces (put mid p) → 1024 < declared_count faces (put_all found (gathered n faces p))
  put-many found mid n p e m h = let whole = put-gathered faces found mid (put mid p) n p e m refl in rw (← whole) h

  pub gathered-many : (found : List Pair) (n : ℕ) (p : Pair) → ends_within n faces p.face.0 ≡ true
      → 1024 < declared_count faces (put_all found (flat_map (gathered (n - 1) faces) (below faces p))) → 1024 < declared_count faces (put_all found (gathered n faces p))
  gathered-many found n p e h =
      let mid : List Pair = put_all found (flat_map (gathered (n - 1) faces) (below faces p)) in
      put-many found mid n p e refl (many-grow faces 1024 mid (p ∷ []) (put mid p) refl h)

  pub bases-many : (first found : List Pair) (n : ℕ) (p q : Pair) (bs : List Base) (i : ℕ) (b : Base) → i < length bs → b ≡ get_or bs i b
      → q ≡ below_by faces p.face p.types b → bs ≡ bases faces p.face.0
      → put_all found (flat_map (gathered n faces) (map (below_by faces p.face p.types) (drop i bs))) ≡ put_all first (flat_map (gathered n faces) (map (below_by faces p.face p.types) bs))
      → 1024 < declared_count faces (put_all found (gathered n faces q)) → 1024 < declared_count faces (put_all first (flat_map (gathered n faces) (below faces p)))
  bases-many first found n p q bs i b lt e u same inv h =
      let rest : List Pair = flat_map (gathered n faces) (map (below_by faces p.face p.types) (drop (i + 1) bs)) in
      let whole : List Pair = put_all first (flat_map (gathered n faces) (map (below_by faces p.face p.types) bs)) in
      let next = gather-step found (put_all found (gathered n faces q)) whole n faces p q bs i b lt e u refl inv in
      let many = many-grow faces 1024 (put_all found (gathered n faces q)) rest whole (sym next) h in
      rw same at many

pub ends-here : (n : ℕ) (faces : List Face) (bs : List Base) (i : ℕ) (b : Base) → i < length bs → b ≡ get_or bs i b
    → list_all (λ (b : Base). ends_within n faces b.face.0) (drop i bs) ≡ true → ends_within n faces b.face.0 ≡ true
ends-here n faces bs i b h e k = and-left (ends_within n faces b.face.0) _ (ap (list_all (λ (b : Base). ends_within n faces b.face.0)) (sym (opened-at bs i b h e)) ∙ k)

pub ends-after : (n : ℕ) (faces : List Face) (bs : List Base) (i : ℕ) (b : Base) → i < length bs → b ≡ get_or bs i b
    → list_all (λ (b : Base). ends_within n faces b.face.0) (drop i bs) ≡ true → list_all (λ (b : Base). ends_within n faces b.face.0) (drop (i + 1) bs) ≡ true
ends-after n faces bs i b h e k = and-right (ends_within n faces b.face.0) _ (ap (list_all (λ (b : Base). ends_within n faces b.face.0)) (sym (opened-at bs i b h e)) ∙ k)

pub pushed-next : {A B : Type 0} (f : A → List B) (xs : List A) (i : ℕ) (x : A) (old new whole : List B) → i < length xs → x ≡ get_or xs i x → new ≡ old ++ f x
    → old ++ flat_map f (drop i xs) ≡ whole → new ++ flat_map f (drop (i + 1) xs) ≡ whole
pushed-next f xs i x old new whole h e n inv =
    ap (λ ys. ys ++ flat_map f (drop (i + 1) xs)) n ∙ append_assoc old (f x) (flat_map f (drop (i + 1) xs)) ∙ ap (λ ys. old ++ flat_map f ys) (sym (opened-at xs i x h e)) ∙ inv

opened-some : {A : Type 0} (xs : List A) (i : ℕ) (x : A) → slice_get xs i ≡ Some x → drop i xs ≡ x ∷ drop (i + 1) xs
opened-some xs i x e =
    let lt : i < length xs = slice_get_within xs i x e in
    let there : Some x ≡ Some (get_or xs i x) = sym e ∙ slice_get-get_or xs i x lt in
    let this : x ≡ get_or xs i x = cc in
    opened-at xs i x lt this

pub mapped-next : {A B : Type 0} (f : A → B) (xs : List A) (i : ℕ) (x : A) (y : B) (old new whole : List B) → slice_get xs i ≡ Some x → y ≡ f x → new ≡ old ++ y ∷ []
    → old ++ map f (drop i xs) ≡ whole → new ++ map f (drop (i + 1) xs) ≡ whole
mapped-next f xs i x y old new whole h e n inv =
    ap (λ ys. ys ++ map f (drop (i + 1) xs)) (n ∙ ap (λ z. old ++ z ∷ []) e) ∙ append_assoc old (f x ∷ []) (map f (drop (i + 1) xs)) ∙ ap (λ ys. old ++ map f ys) (sym (opened-some xs i x h)) ∙ inv
