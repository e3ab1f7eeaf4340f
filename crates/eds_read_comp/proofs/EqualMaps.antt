-- Two maps that are one as finite maps give an interface the same members.
use Rattle.std.proofs.Common.{◌≡◌, ◌≤◌, ℕ, ◌+◌, Bool, true, false, ◌&&◌, List, [], ◌∷◌, map, Option, Some, None, inl, inr, refl, sym, ap, subst, ◌∙◌, arith}
use Rattle.std.specs.Prelude.{◌⊎◌, option_map}
use Rattle.std.proofs.lemmas.Bool.{eqb-true}
use Rattle.std.proofs.lemmas.Slice.Eq.{bytes_eq-Decides}
use Rattle.eds_base.specs.Reading.{same}
use Rattle.eds_base.specs.declared.ids.TypeId.{TypeId}
use Rattle.eds_names.specs.Positions.{place_from, place_among}
use Rattle.eds_plan.specs.Interfaces.{type_named, same_type, agrees, same_map}
use Rattle.eds_generic.specs.declared.face.Source.{Source}
use Rattle.eds_generic.specs.declared.face.Source.TheVariants as source
use Rattle.eds_generic.specs.Faces.{is_at, mapped}
use Rattle.eds_generic.specs.Members.{mapped_given}

-- ---- texts

equal : (p q : List ℕ) → same p q ≡ true → p ≡ q
equal p q e = (bytes_eq-Decides p q).0 e

alike : (p q : List ℕ) → p ≡ q → same p q ≡ true
alike p q e = (bytes_eq-Decides p q).1 e

-- ---- positions

place-low : (j : ℕ) (names : List (List ℕ)) (q : List ℕ) (k : ℕ) → place_from j names q ≡ Some k → j ≤ k
place-low j [] q k e = cc
place-low j (n ∷ ns) q k e = go (same n q) refl (place-low (j + 1) ns q k) e
  where
    go : (b : Bool) → same n q ≡ b → (place_from (j + 1) ns q ≡ Some k → j + 1 ≤ k) → place_from j (n ∷ ns) q ≡ Some k → j ≤ k
    go true h next e = let e = rw h at e in let is : j ≡ k = cc in omega arith
    go false h next e = let e = rw h at e in let low : j + 1 ≤ k = next e in omega arith

-- two names that have one position are one
one-place : (j : ℕ) (names : List (List ℕ)) (p q : List ℕ) (k : ℕ) → place_from j names p ≡ Some k → place_from j names q ≡ Some k → p ≡ q
one-place j [] p q k e f = cc
one-place j (n ∷ ns) p q k e f = go (same n p) (same n q) refl refl (one-place (j + 1) ns p q k) e f
  where
    apart : (r : List ℕ) → j ≡ k → place_from (j + 1) ns r ≡ Some k → ⊥
    apart r is g = let low : j + 1 ≤ k = place-low (j + 1) ns r k g in omega arith

    go : (b c : Bool) → same n p ≡ b → same n q ≡ c → (place_from (j + 1) ns p ≡ Some k → place_from (j + 1) ns q ≡ Some k → p ≡ q)
        → place_from j (n ∷ ns) p ≡ Some k → place_from j (n ∷ ns) q ≡ Some k → p ≡ q
    go true true h i next e f = sym (equal n p h) ∙ equal n q i
    go true false h i next e f = let e = rw h at e in let f = rw i at f in let is : j ≡ k = cc in absurd (apart q is f)
    go false true h i next e f = let e = rw h at e in let f = rw i at f in let is : j ≡ k = cc in absurd (apart p is e)
    go false false h i next e f = let e = rw h at e in let f = rw i at f in next e f

at-some : (o : Option ℕ) (k : ℕ) → is_at o k ≡ true → o ≡ Some k
at-some None k e = cc
at-some (Some g) k e = ap Some (eqb-true g k e)

-- ---- finite maps

type-equal : (a b : Option ℕ) → same_type a b ≡ true → a ≡ b
type-equal None None e = refl
type-equal None (Some b) e = cc
type-equal (Some a) None e = cc
type-equal (Some a) (Some b) e = ap Some (eqb-true a b e)

and-left : (a b : Bool) → (a && b) ≡ true → a ≡ true
and-left true b e = refl
and-left false b e = cc

and-right : (a b : Bool) → (a && b) ≡ true → b ≡ true
and-right true b e = e
and-right false b e = cc

-- a name that some entries have, both maps give the same type
agreed : (m n ps : List (List ℕ × TypeId)) (q : List ℕ) (t : ℕ) → agrees m n ps ≡ true → type_named ps q ≡ Some t → type_named m q ≡ type_named n q
agreed m n [] q t a e = cc
agreed m n (p ∷ ps) q t a e = go (same p.0 q) (same_type (type_named m p.0) (type_named n p.0)) refl refl (agreed m n ps q t) a e
  where
    go : (b c : Bool) → same p.0 q ≡ b → same_type (type_named m p.0) (type_named n p.0) ≡ c → (agrees m n ps ≡ true → type_named ps q ≡ Some t → type_named m q ≡ type_named n q)
        → agrees m n (p ∷ ps) ≡ true → type_named (p ∷ ps) q ≡ Some t → type_named m q ≡ type_named n q
    go b false h i next a e = let a = rw i at a in cc
    go true true h i next a e = subst (λ x. type_named m x ≡ type_named n x) (equal p.0 q h) (type-equal (type_named m p.0) (type_named n p.0) i)
    go false true h i next a e = let a = rw i at a in let e = rw h at e in next a e

-- ---- what a map says of the generic name at a position

module _ (own : List (List ℕ)) (k : ℕ) where
  -- a name has the position
  abbrev pub has : List ℕ → Bool
  has q = is_at (place_among own q) k

  has-one : (p q : List ℕ) → has p ≡ true → has q ≡ true → p ≡ q
  has-one p q e f = one-place 0 own p q k (at-some (place_among own p) k e) (at-some (place_among own q) k f)

  -- what is said of it
  abbrev pub told : List (List ℕ × TypeId) → Option Source
  told ms = mapped (map (mapped_given own) ms) k

  abbrev pub sort_of : ℕ → Source
  sort_of t = source.Sort (record { 0 = t })

  -- it is the type of the name that has the position
  told-type : (ms : List (List ℕ × TypeId)) (q : List ℕ) → has q ≡ true → told ms ≡ option_map sort_of (type_named ms q)
  told-type [] q h = refl
  told-type (m ∷ ms) q h = go (has m.0) (same m.0 q) refl refl (told-type ms q h)
    where
      go : (b c : Bool) → has m.0 ≡ b → same m.0 q ≡ c → told ms ≡ option_map sort_of (type_named ms q) → told (m ∷ ms) ≡ option_map sort_of (type_named (m ∷ ms) q)
      go true true e i next = rw (e, i) refl
      go true false e i next = let there : same m.0 q ≡ true = alike m.0 q (has-one m.0 q e h) in cc
      go false true e i next = let there : has m.0 ≡ true = ap has (equal m.0 q i) ∙ h in cc
      go false false e i next = rw (e, i) next

  -- a name of a map that has the position and a type, or nothing is said of it
  record Found (ms : List (List ℕ × TypeId)) : Type 0 where
    name : List ℕ
    has_it : has name ≡ true
    type_id : ℕ
    typed : type_named ms name ≡ Some type_id

  itself : (m : List ℕ × TypeId) (ms : List (List ℕ × TypeId)) → type_named (m ∷ ms) m.0 ≡ Some (m.1).0
  itself m ms = let one : same m.0 m.0 ≡ true = alike m.0 m.0 refl in rw one refl

  seek : (ms : List (List ℕ × TypeId)) → Found ms ⊎ (told ms ≡ None)
  seek [] = inr refl
  seek (m ∷ ms) = go (has m.0) refl (seek ms)
    where
      behind : Found ms → has m.0 ≡ false → Found (m ∷ ms)
      behind f e = record { name = f.name; has_it = f.has_it; type_id = f.type_id; typed = rw differs f.typed }
        where
          differs : same m.0 f.name ≡ false
          differs = other (same m.0 f.name) refl
            where
              other : (b : Bool) → same m.0 f.name ≡ b → b ≡ false
              other true i = let there : has m.0 ≡ true = ap has (equal m.0 f.name i) ∙ f.has_it in cc
              other false i = refl

      go : (b : Bool) → has m.0 ≡ b → Found ms ⊎ (told ms ≡ None) → Found (m ∷ ms) ⊎ (told (m ∷ ms) ≡ None)
      go true e s = inl (record { name = m.0; has_it = e; type_id = (m.1).0; typed = itself m ms })
      go false e (inl f) = inl (behind f e)
      go false e (inr n) = inr (rw e n)

  pub told-same : (m n : List (List ℕ × TypeId)) → same_map m n ≡ true → told m ≡ told n
  told-same m n s = go (seek m) (seek n)
    where
      go : Found m ⊎ (told m ≡ None) → Found n ⊎ (told n ≡ None) → told m ≡ told n
      go (inl f) g =
          told-type m f.name f.has_it ∙ ap (option_map sort_of) (agreed m n m f.name f.type_id (and-left (agrees m n m) (agrees m n n) s) f.typed) ∙ sym (told-type n f.name f.has_it)
      go (inr e) (inl f) =
          told-type m f.name f.has_it ∙ ap (option_map sort_of) (agreed m n n f.name f.type_id (and-right (agrees m n m) (agrees m n n) s) f.typed) ∙ sym (told-type n f.name f.has_it)
      go (inr e) (inr h) = e ∙ sym h
