-- How many members are declared by what is gathered.
use Rattle.std.proofs.Common.{◌≡◌, ℕ, ◌+◌, ◌<◌, ◌≤◌, Bool, true, false, List, [], ◌∷◌, ◌++◌, length, Result, Ok, Err, refl, ap, ◌∙◌, arith}
use Rattle.std.specs.Prelude.{IsErrAnd}
use Rattle.std.specs.List.{flat_map}
use Rattle.eds_base.specs.declared.fail.Fail.{Fail}
use Rattle.eds_base.specs.declared.fail.Fail.TheVariants.{Named, Memory}
use Rattle.eds_generic.specs.Stops.{IsWhereNamed, OnNamed}
use Rattle.std.proofs.lemmas.List.{length-append, length-map}
use Rattle.std.proofs.lemmas.Grind.{flat_map-append}
use Rattle.eds_generic.specs.declared.face.Face.{Face}
use Rattle.eds_generic.specs.declared.pair.Pair.{Pair}
use Rattle.eds_generic.specs.Faces.{own}
use Rattle.eds_generic.specs.Pairs.{is_among, put, put_all}
use Rattle.eds_generic.specs.Members.{member_of, members_of, declared_count}
use Rattle.eds_generic.proofs.Once.{put-there, put-new}

append-none : {A : Type 0} (xs : List A) → xs ++ [] ≡ xs
append-none [] = refl
append-none (x ∷ xs) = ap (λ ys. x ∷ ys) (append-none xs)

module _ (faces : List Face) where
  count-last : (found : List Pair) (p : Pair) → declared_count faces (found ++ p ∷ []) ≡ declared_count faces found + length (own faces p.face.0)
  count-last found p =
      ap length (flat_map-append (members_of faces) found (p ∷ []) ∙ ap (λ ms. flat_map (members_of faces) found ++ ms) (append-none (members_of faces p)))
      ∙ length-append (flat_map (members_of faces) found) (members_of faces p)
      ∙ ap (λ n. declared_count faces found + n) (length-map (own faces p.face.0) (member_of p.types))

  pub count-new : (found : List Pair) (p : Pair) → is_among found p ≡ false → declared_count faces (put found p) ≡ declared_count faces found + length (own faces p.face.0)
  count-new found p e = ap (declared_count faces) (put-new found p e) ∙ count-last found p

  pub count-there : (found : List Pair) (p : Pair) → is_among found p ≡ true → declared_count faces (put found p) ≡ declared_count faces found
  count-there found p e = ap (declared_count faces) (put-there found p e)

  put-grows : (found : List Pair) (p : Pair) → declared_count faces found ≤ declared_count faces (put found p)
  put-grows found p = go (is_among found p) refl
    where
      go : (b : Bool) → is_among found p ≡ b → declared_count faces found ≤ declared_count faces (put found p)
      go true e = let same = count-there found p e in omega arith
      go false e = let more = count-new found p e in omega arith

  -- what is put makes no fewer
  pub count-grows : (found ps : List Pair) → declared_count faces found ≤ declared_count faces (put_all found ps)
  count-grows found [] = omega arith
  count-grows found (p ∷ ps) = let one = put-grows found p in let rest = count-grows (put found p) ps in omega arith

  pub many-grow : (n : ℕ) (found ps new : List Pair) → new ≡ put_all found ps → n < declared_count faces found → n < declared_count faces new
  many-grow n found ps new e h = let more = count-grows found ps in let same = ap (declared_count faces) e in omega arith

-- ---- a stop that is handed on

where-named : {E : Type 0} (stop : Fail E) (P Q : Type 0) → (P → Q) → IsWhereNamed P stop → IsWhereNamed Q stop
where-named (Named e) P Q f w = f w
where-named Memory P Q f w = tt

pub handed : {X E : Type 0} (r : Result X (Fail E)) (stop : Fail E) (P Q : Type 0) → IsErrAnd r (λ e. e ≡ stop) → (P → Q) → IsWhereNamed P stop → OnNamed r Q
handed (Ok x) stop P Q h f w = absurd h
handed (Err e) stop P Q h f w = rw h (where-named stop P Q f w)
