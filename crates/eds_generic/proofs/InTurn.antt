-- Gathering interfaces under maps, each once, gathers members, each once.
use Rattle.std.proofs.Common.{◌≡◌, ℕ, zero, suc, ◌+◌, ◌<◌, ◌≤◌, Bool, true, false, ◌&&◌, ◌||◌, ◌==◌, List, [], ◌∷◌, ◌++◌, length, map, refl, sym, ap, ◌∙◌, ◌≢◌, ◌⊎◌, inl, inr, append_assoc, arith}
use Rattle.std.specs.List.{flat_map}
use Rattle.std.proofs.lemmas.Bool.{eq-eqb, eqb-true}
use Rattle.std.proofs.lemmas.List.Folds.{list_any-append}
use Rattle.std.proofs.lemmas.Grind.{flat_map-append}
use Rattle.eds_plan.specs.declared.instance.Member.{Member}
use Rattle.eds_generic.specs.declared.face.Face.{Face}
use Rattle.eds_generic.specs.declared.pair.Pair.{Pair}
use Rattle.eds_generic.specs.Faces.{own}
use Rattle.eds_generic.specs.Pairs.{below, most, gathered, same_pair, is_among, put, put_all}
use Rattle.eds_generic.specs.Members.{members, members_of, member_of, each_once}
use Rattle.eds_generic.specs.EachOnce.{Entry, entries_from, own_entries, entries, same_entry, is_there, put_entry, put_entries, AreMembersInTurn}
use Rattle.eds_generic.proofs.Once.{or-left, or-right, and-both, put-there, put-new}
use Rattle.eds_generic.proofs.Same.{pair-face}

abbrev entry : Pair → ℕ → Member → Entry
entry p i m = record { pair = p; index = i; member = m }

-- ---- entries, put one after another

there-same : (es : List Entry) (e : Entry) → is_there es e ≡ true → put_entry es e ≡ es
there-same es e h = rw h refl

there-new : (es : List Entry) (e : Entry) → is_there es e ≡ false → put_entry es e ≡ es ++ e ∷ []
there-new es e h = rw h refl

put_entries-append : (es xs ys : List Entry) → put_entries es (xs ++ ys) ≡ put_entries (put_entries es xs) ys
put_entries-append es [] ys = refl
put_entries-append es (x ∷ xs) ys = put_entries-append (put_entry es x) xs ys

-- ---- all are there

put-all-there : (es : List Entry) (p : Pair) (i : ℕ) (ms : List Member) → ((k : ℕ) (m : Member) → i ≤ k → k < i + length ms → is_there es (entry p k m) ≡ true) → put_entries es (entries_from p i ms) ≡ es
put-all-there es p i [] h = refl
put-all-there es p i (m ∷ ms) h =
    ap (λ fs. put_entries fs (entries_from p (i + 1) ms)) (there-same es (entry p i m) (h i m (omega arith) (omega arith))) ∙ put-all-there es p (i + 1) ms (λ k n a b. h k n (omega arith) (omega arith))

differ : (a b : ℕ) → (a ≡ b → ⊥) → (a == b) ≡ false
differ a b h = go (a == b) refl
  where
    go : (t : Bool) → (a == b) ≡ t → t ≡ false
    go true e = absurd (h (eqb-true a b e))
    go false e = refl

index-there : (p r : Pair) (k : ℕ) (m : Member) (j : ℕ) (ms : List Member) → same_pair p r ≡ true → j ≤ k → k < j + length ms → is_there (entries_from r j ms) (entry p k m) ≡ true
index-there p r k m j [] s a b = absurd (omega arith)
index-there p r k m j (x ∷ ms) s a b = elim (order j k a) [ inl e ↦ or-left (same_entry (entry p k m) (entry r j x)) _ (and-both (k == j) (same_pair p r) (eq-eqb k j (sym e)) s) | inr lt ↦ or-right (same_entry (entry p k m) (entry r j x)) _ (index-there p r k m (j + 1) ms s (omega arith) (omega arith)) ]
  where
    order : (a b : ℕ) → a ≤ b → (a ≡ b) ⊎ (a < b)
    order a b h = go (a == b) refl
      where
        go : (t : Bool) → (a == b) ≡ t → (a ≡ b) ⊎ (a < b)
        go true e = inl (eqb-true a b e)
        go false e = inr (let ne : a ≢ b = λ q. let wrong : true ≡ false = sym (eq-eqb a b q) ∙ e in cc in omega arith)

-- ---- none is there

other-pair : (p r : Pair) (k : ℕ) (m : Member) (j : ℕ) (ms : List Member) → same_pair p r ≡ false → is_there (entries_from r j ms) (entry p k m) ≡ false
other-pair p r k m j [] s = refl
other-pair p r k m j (x ∷ ms) s = neither (same_entry (entry p k m) (entry r j x)) _ (second (k == j) (same_pair p r) s) (other-pair p r k m (j + 1) ms s)
  where
    neither : (a b : Bool) → a ≡ false → b ≡ false → (a || b) ≡ false
    neither a b e f = rw e f

    second : (a b : Bool) → b ≡ false → (a && b) ≡ false
    second true b e = e
    second false b e = refl

or-neither : (a b : Bool) → a ≡ false → b ≡ false → (a || b) ≡ false
or-neither a b e f = rw e f

or-none-left : (a b : Bool) → (a || b) ≡ false → a ≡ false
or-none-left true b e = cc
or-none-left false b e = refl

or-none-right : (a b : Bool) → (a || b) ≡ false → b ≡ false
or-none-right true b e = cc
or-none-right false b e = e

put-fresh : (es : List Entry) (p : Pair) (i : ℕ) (ms : List Member) → ((k : ℕ) (m : Member) → i ≤ k → is_there es (entry p k m) ≡ false) → put_entries es (entries_from p i ms) ≡ es ++ entries_from p i ms
put-fresh es p i [] h = sym (append-nothing es)
  where
    append-nothing : (xs : List Entry) → xs ++ [] ≡ xs
    append-nothing [] = refl
    append-nothing (x ∷ xs) = ap (λ ys. x ∷ ys) (append-nothing xs)
put-fresh es p i (m ∷ ms) h =
    let first : put_entry es (entry p i m) ≡ es ++ entry p i m ∷ [] = there-new es (entry p i m) (h i m (omega arith)) in
    ap (λ fs. put_entries fs (entries_from p (i + 1) ms)) first
    ∙ put-fresh (es ++ entry p i m ∷ []) p (i + 1) ms (λ k n a. list_any-append (same_entry (entry p k n)) es (entry p i m ∷ []) ∙ or-neither (is_there es (entry p k n)) _ (h k n (omega arith)) (or-neither (same_entry (entry p k n) (entry p i m)) false (first-false (k == i) (same_pair p p) (differ k i (λ q. omega arith))) refl))
    ∙ append_assoc es (entry p i m ∷ []) (entries_from p (i + 1) ms)
  where
    first-false : (a b : Bool) → a ≡ false → (a && b) ≡ false
    first-false true b e = cc
    first-false false b e = refl

-- ---- pairs and entries

length-mapped : {A B : Type 0} (f : A → B) (xs : List A) → length (map f xs) ≡ length xs
length-mapped f [] = refl
length-mapped f (x ∷ xs) = ap suc (length-mapped f xs)

module _ (faces : List Face) where
  abbrev all_entries : List Pair → List Entry
  all_entries ps = flat_map (own_entries faces) ps

  as-many : (p r : Pair) → same_pair p r ≡ true → length (members_of faces p) ≡ length (members_of faces r)
  as-many p r s = length-mapped (member_of p.types) (own faces p.face.0) ∙ ap (λ f. length (own faces f)) (pair-face p r s) ∙ sym (length-mapped (member_of r.types) (own faces r.face.0))

  among-there : (found : List Pair) (p : Pair) (k : ℕ) (m : Member) → is_among found p ≡ true → k < length (members_of faces p) → is_there (all_entries found) (entry p k m) ≡ true
  among-there [] p k m h lt = cc
  among-there (r ∷ found) p k m h lt = list_any-append (same_entry (entry p k m)) (own_entries faces r) (all_entries found) ∙ cases (same_pair p r) refl (λ g. among-there found p k m g lt)
    where
      right : (a b : Bool) → a ≡ false → (a || b) ≡ true → b ≡ true
      right true b e f = cc
      right false b e f = f

      cases : (t : Bool) → same_pair p r ≡ t → (is_among found p ≡ true → is_there (all_entries found) (entry p k m) ≡ true) → (is_there (own_entries faces r) (entry p k m) || is_there (all_entries found) (entry p k m)) ≡ true
      cases true s later = let many = as-many p r s in or-left (is_there (own_entries faces r) (entry p k m)) _ (index-there p r k m 0 (members_of faces r) s (omega arith) (omega arith))
      cases false s later = or-right (is_there (own_entries faces r) (entry p k m)) _ (later (right (same_pair p r) (is_among found p) s h))

  none-there : (found : List Pair) (p : Pair) (k : ℕ) (m : Member) → is_among found p ≡ false → is_there (all_entries found) (entry p k m) ≡ false
  none-there [] p k m h = refl
  none-there (r ∷ found) p k m h =
      list_any-append (same_entry (entry p k m)) (own_entries faces r) (all_entries found)
      ∙ or-neither (is_there (own_entries faces r) (entry p k m)) _ (other-pair p r k m 0 (members_of faces r) (or-none-left (same_pair p r) (is_among found p) h)) (none-there found p k m (or-none-right (same_pair p r) (is_among found p) h))

  all_entries-append : (xs ys : List Pair) → all_entries (xs ++ ys) ≡ all_entries xs ++ all_entries ys
  all_entries-append xs ys = flat_map-append (own_entries faces) xs ys

  append-nil : (xs : List Entry) → xs ++ [] ≡ xs
  append-nil [] = refl
  append-nil (x ∷ xs) = ap (λ ys. x ∷ ys) (append-nil xs)

  put-own : (found : List Pair) (p : Pair) → put_entries (all_entries found) (own_entries faces p) ≡ all_entries (put found p)
  put-own found p = go (is_among found p) refl
    where
      go : (t : Bool) → is_among found p ≡ t → put_entries (all_entries found) (own_entries faces p) ≡ all_entries (put found p)
      go true s = put-all-there (all_entries found) p 0 (members_of faces p) (λ k m a b. among-there found p k m s (omega arith)) ∙ ap all_entries (sym (put-there found p s))
      go false s = put-fresh (all_entries found) p 0 (members_of faces p) (λ k m a. none-there found p k m s) ∙ ap (λ es. all_entries found ++ es) (sym (append-nil (own_entries faces p))) ∙ sym (all_entries-append found (p ∷ [])) ∙ ap all_entries (sym (put-new found p s))

  put-owns : (found ps : List Pair) → put_entries (all_entries found) (all_entries ps) ≡ all_entries (put_all found ps)
  put-owns found [] = refl
  put-owns found (p ∷ ps) = put_entries-append (all_entries found) (own_entries faces p) (all_entries ps) ∙ ap (λ es. put_entries es (all_entries ps)) (put-own found p) ∙ put-owns (put found p) ps

  over-pairs : (f : Pair → List Entry) (g : Pair → List Pair) → ((q : Pair) → f q ≡ all_entries (g q)) → (qs : List Pair) → flat_map f qs ≡ all_entries (flat_map g qs)
  over-pairs f g h [] = refl
  over-pairs f g h (q ∷ qs) = ap (λ es. es ++ flat_map f qs) (h q) ∙ ap (λ es. all_entries (g q) ++ es) (over-pairs f g h qs) ∙ sym (all_entries-append (g q) (flat_map g qs))

  entries-are : (n : ℕ) (p : Pair) → entries n faces p ≡ all_entries (gathered n faces p)
  unfolding entries gathered
  entries-are zero p = refl
  entries-are (suc n) p = ap (λ es. es ++ own_entries faces p) (over-pairs (entries n faces) (gathered n faces) (entries-are n) (below faces p)) ∙ ap (λ es. all_entries (flat_map (gathered n faces) (below faces p)) ++ es) (sym (append-nil (own_entries faces p))) ∙ sym (all_entries-append (flat_map (gathered n faces) (below faces p)) (p ∷ []))

  members-from : (p : Pair) (i : ℕ) (ms : List Member) (rest : List Entry) → map (λ (e : Entry). e.member) (entries_from p i ms ++ rest) ≡ ms ++ map (λ (e : Entry). e.member) rest
  members-from p i [] rest = refl
  members-from p i (m ∷ ms) rest = ap (λ ns. m ∷ ns) (members-from p (i + 1) ms rest)

  members-all : (ps : List Pair) → map (λ (e : Entry). e.member) (all_entries ps) ≡ flat_map (members_of faces) ps
  members-all [] = refl
  members-all (p ∷ ps) = members-from p 0 (members_of faces p) (all_entries ps) ∙ ap (λ ms. members_of faces p ++ ms) (members-all ps)

pub in-turn : AreMembersInTurn
unfolding members
in-turn faces p =
    ap (λ es. map (λ (e : Entry). e.member) (put_entries [] es)) (entries-are faces (most faces) p) ∙ ap (map (λ (e : Entry). e.member)) (put-owns faces [] (gathered (most faces) faces p)) ∙ members-all faces (each_once faces p)
