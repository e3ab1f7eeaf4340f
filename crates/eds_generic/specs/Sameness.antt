-- Being one interface under one map is an equivalence, and equal pairs are hashed alike.
use Rattle.std.specs.Prelude.{◌≡◌, ℕ, Bool, true, false, ◌&&◌, ◌||◌, ◌==◌, List, [], ◌∷◌, ◌++◌}
use Rattle.std.proofs.Common.{refl, sym, ap, ◌∙◌, subst}
use Rattle.std.specs.Cmp.{IsEquivalence, IsPartialEquivalence, both_ways, partial_equiv_from_equiv}
use Rattle.std.specs.List.{list_any}
use Rattle.std.specs.Hash as fed
use Rattle.std.specs.Hash.{HashWrites}
use Rattle.std.proofs.lemmas.Bool.{eq-eqb, eqb-true}
use Rattle.std.proofs.lemmas.Slice.Eq.{bytes_eq-Decides}
use Rattle.eds_base.specs.declared.ids.FaceId.{FaceId}
use Rattle.eds_base.specs.Reading.{same}
use Rattle.eds_generic.specs.declared.pair.Bound.{Bound}
use Rattle.eds_generic.specs.declared.pair.Bound.TheVariants as bound
use Rattle.eds_generic.specs.declared.pair.Further.{Further}
use Rattle.eds_generic.specs.declared.pair.Pair.{Pair}
use Rattle.eds_generic.specs.Pairs.{same_bound, same_types, same_further, all_within, same_pair}

-- ---- tests that are joined

-- of two tests one holds where the first does
pub or-left : (a b : Bool) → a ≡ true → (a || b) ≡ true
or-left a b e = rw e refl

-- of two tests one holds where the second does
pub or-right : (a b : Bool) → b ≡ true → (a || b) ≡ true
or-right true b e = refl
or-right false b e = e

-- two tests that hold, hold together
pub and-both : (a b : Bool) → a ≡ true → b ≡ true → (a && b) ≡ true
and-both a b e f = rw e f

-- where two tests hold together, the first holds
pub and-left : (a b : Bool) → (a && b) ≡ true → a ≡ true
and-left true b e = refl
and-left false b e = e

-- where two tests hold together, the second holds
pub and-right : (a b : Bool) → (a && b) ≡ true → b ≡ true
and-right true b e = e
and-right false b e = cc

-- ---- each is the same as itself

text-itself : (t : List ℕ) → same t t ≡ true
text-itself [] = refl
text-itself (c ∷ cs) = and-both (c == c) (same cs cs) (eq-eqb c c refl) (text-itself cs)

bound-itself : (b : Bound) → same_bound b b ≡ true
bound-itself bound.Unmapped = refl
bound-itself (bound.Unknown f k) = and-both (f.0 == f.0) (k == k) (eq-eqb f.0 f.0 refl) (eq-eqb k k refl)
bound-itself (bound.Sort id) = eq-eqb id.0 id.0 refl

types-itself : (ts : List Bound) → same_types ts ts ≡ true
types-itself [] = refl
types-itself (t ∷ ts) = and-both (same_bound t t) (same_types ts ts) (bound-itself t) (types-itself ts)

further-itself : (f : Further) → same_further f f ≡ true
further-itself f = and-both (same f.name f.name) (same_bound f.bound f.bound) (text-itself f.name) (bound-itself f.bound)

-- each of some lies within these and more
within-more : (fs more : List Further) → ((f : Further) → list_any (same_further f) fs ≡ true → list_any (same_further f) more ≡ true) → all_within more fs ≡ true
within-more [] more h = refl
within-more (f ∷ fs) more h =
    and-both (list_any (same_further f) more) (all_within more fs) (h f (or-left (same_further f f) (list_any (same_further f) fs) (further-itself f)))
    (within-more fs more (λ g k. h g (or-right (same_further g f) (list_any (same_further g) fs) k)))

-- a pair is the same as itself
pub pair-itself : (p : Pair) → same_pair p p ≡ true
pair-itself p =
    let within : all_within p.further p.further ≡ true = within-more p.further p.further (λ f k. k) in
    and-both (p.face.0 == p.face.0) _ (eq-eqb p.face.0 p.face.0 refl) (and-both (same_types p.types p.types) _ (types-itself p.types) (and-both (all_within p.further p.further) _ within within))

-- ---- the same have one interface and one map

-- what two names stand for is equal, where it is found the same
pub bound-equal : (a b : Bound) → same_bound a b ≡ true → a ≡ b
bound-equal bound.Unmapped bound.Unmapped e = refl
bound-equal bound.Unmapped (bound.Unknown g j) e = cc
bound-equal bound.Unmapped (bound.Sort b) e = cc
bound-equal (bound.Unknown f k) bound.Unmapped e = cc
bound-equal (bound.Unknown f k) (bound.Unknown g j) e =
    let ids : f.0 ≡ g.0 = eqb-true f.0 g.0 (and-left (f.0 == g.0) (k == j) e) in
    let same_face : f ≡ g = ap (λ (n : ℕ). record { 0 = n }) ids in
    let same_place : k ≡ j = eqb-true k j (and-right (f.0 == g.0) (k == j) e) in
    ap (λ (i : FaceId). bound.Unknown i k) same_face ∙ ap (λ (n : ℕ). bound.Unknown g n) same_place
bound-equal (bound.Unknown f k) (bound.Sort b) e = cc
bound-equal (bound.Sort a) bound.Unmapped e = cc
bound-equal (bound.Sort a) (bound.Unknown g j) e = cc
bound-equal (bound.Sort a) (bound.Sort b) e = let ids : a.0 ≡ b.0 = eqb-true a.0 b.0 e in let same_id : a ≡ b = ap (λ (n : ℕ). record { 0 = n }) ids in ap bound.Sort same_id

-- what is found the same is equal
pub types-equal : (xs ys : List Bound) → same_types xs ys ≡ true → xs ≡ ys
types-equal [] [] e = refl
types-equal [] (y ∷ ys) e = cc
types-equal (x ∷ xs) [] e = cc
types-equal (x ∷ xs) (y ∷ ys) e =
    let head : x ≡ y = bound-equal x y (and-left (same_bound x y) (same_types xs ys) e) in
    let tail : xs ≡ ys = types-equal xs ys (and-right (same_bound x y) (same_types xs ys) e) in
    cc

-- pairs that are the same have one interface
pub pair-face : (p q : Pair) → same_pair p q ≡ true → p.face.0 ≡ q.face.0
pair-face p q e = eqb-true p.face.0 q.face.0 (and-left (p.face.0 == q.face.0) _ e)

-- and give its generic names the same types
pub pair-types : (p q : Pair) → same_pair p q ≡ true → p.types ≡ q.types
pair-types p q e = types-equal p.types q.types (and-left (same_types p.types q.types) _ (and-right (p.face.0 == q.face.0) _ e))

-- ---- an equivalence

abbrev further : List ℕ → Bound → Further
further n b = record { name = n; bound = b }

further-equal : (f g : Further) → same_further f g ≡ true → f ≡ g
further-equal f g e =
    let names : f.name ≡ g.name = (bytes_eq-Decides f.name g.name).0 (and-left (same f.name g.name) _ e) in
    let bounds : f.bound ≡ g.bound = bound-equal f.bound g.bound (and-right (same f.name g.name) _ e) in
    made f.name g.name f.bound g.bound names bounds
  where
    made : (m n : List ℕ) (b c : Bound) → m ≡ n → b ≡ c → further m b ≡ further n c
    made m n b c h k = ap (λ l. further l b) h ∙ ap (further n) k

-- what is among some is among more of them
among-within : (more less : List Further) (f : Further) → all_within more less ≡ true → list_any (same_further f) less ≡ true → list_any (same_further f) more ≡ true
among-within more [] f w e = cc
among-within more (g ∷ gs) f w e = go (same_further f g) refl (λ k. among-within more gs f (and-right (list_any (same_further g) more) (all_within more gs) w) k) e
  where
    go : (b : Bool) → same_further f g ≡ b → (list_any (same_further f) gs ≡ true → list_any (same_further f) more ≡ true) → list_any (same_further f) (g ∷ gs) ≡ true → list_any (same_further f) more ≡ true
    go true k rest n = subst (λ h. list_any (same_further h) more ≡ true) (sym (further-equal f g k)) (and-left (list_any (same_further g) more) (all_within more gs) w)
    go false k rest n = let n = rw k at n in rest n

within-on : (a b c : List Further) → all_within a b ≡ true → all_within b c ≡ true → all_within a c ≡ true
within-on a b [] p q = refl
within-on a b (f ∷ fs) p q =
    and-both (list_any (same_further f) a) (all_within a fs) (among-within a b f p (and-left (list_any (same_further f) b) (all_within b fs) q))
    (within-on a b fs p (and-right (list_any (same_further f) b) (all_within b fs) q))

within-parts : (p q : Pair) → same_pair p q ≡ true → (all_within p.further q.further ≡ true) × (all_within q.further p.further ≡ true)
within-parts p q e =
    let both = and-right (same_types p.types q.types) _ (and-right (p.face.0 == q.face.0) _ e) in
    (and-left (all_within p.further q.further) _ both, and-right (all_within p.further q.further) _ both)

of-parts : (p q : Pair) → p.face.0 ≡ q.face.0 → p.types ≡ q.types → all_within p.further q.further ≡ true → all_within q.further p.further ≡ true → same_pair p q ≡ true
of-parts p q f t a b =
    and-both (p.face.0 == q.face.0) _ (eq-eqb p.face.0 q.face.0 f)
    (and-both (same_types p.types q.types) _ (subst (λ ts. same_types p.types ts ≡ true) t (types-itself p.types)) (and-both (all_within p.further q.further) _ a b))

flip : (p q : Pair) → same_pair p q ≡ true → same_pair q p ≡ true
flip p q e = let w = within-parts p q e in of-parts q p (sym (pair-face p q e)) (sym (pair-types p q e)) w.1 w.0

on : (p q r : Pair) → same_pair p q ≡ true → same_pair q r ≡ true → same_pair p r ≡ true
on p q r d e =
    let v = within-parts p q d in
    let w = within-parts q r e in
    of-parts p r (pair-face p q d ∙ pair-face q r e) (pair-types p q d ∙ pair-types q r e) (within-on p.further q.further r.further v.0 w.0) (within-on r.further q.further p.further w.1 v.1)

-- to be the same pair is an equivalence
pub same_pair-is : IsEquivalence same_pair
same_pair-is = record {
  refl = pair-itself;
  symm = λ p q. both_ways (same_pair p q) (same_pair q p) (flip p q) (flip q p);
  congr = λ p q r e. both_ways (same_pair p r) (same_pair q r) (λ h. on q p r (flip p q e) h) (λ h. on p q r e h);
}

-- the same, as the library asks for it
pub same_pair-partial : IsPartialEquivalence same_pair
same_pair-partial = partial_equiv_from_equiv same_pair-is

-- ---- hashing

-- what a name stands for: one octet that tells nothing, a name and a type apart, and then the name's interface and position, or
-- the type's number
abbrev pub bound_input : Bound → HashWrites
bound_input bound.Unmapped = fed.u8 0
bound_input (bound.Unknown f k) = fed.u8 1 ++ fed.u32 f.0 ++ fed.usize k
bound_input (bound.Sort id) = fed.u8 2 ++ fed.u32 id.0

-- the interface and what its generic names stand for
abbrev pub pair_input : Pair → HashWrites
pair_input p = fed.u32 p.face.0 ++ fed.slice bound_input p.types

-- pairs that are the same have one hash
pub pairs_alike : (p q : Pair) → same_pair p q ≡ true → pair_input p ≡ pair_input q
pairs_alike p q e = rw (pair-face p q e, pair-types p q e) refl
