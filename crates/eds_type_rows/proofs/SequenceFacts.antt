-- What the parts of each container keep beside those of its bases, the parts of a whole sequence keep.
use Rattle.std.proofs.Common.{◌≡◌, ℕ, zero, suc, ◌<◌, ◌≤◌, List, [], ◌∷◌, ◌++◌, length, filter, reverse, Bool, true, false, Option, Some, None, refl, sym, ap, subst, ◌∙◌, append_assoc, ◌⊎◌, inl, inr, arith, lit≤}
use Rattle.std.specs.Prelude.{if◌then◌else◌}
use Rattle.std.specs.List.{AllByRecursion, filter_map, flat_map}
use Rattle.std.proofs.lemmas.Grind.{flat_map-append}
use Rattle.std.proofs.lemmas.List.{append-nil, reverse-append}
use Rattle.eds_bits.specs.Lists.{Has}
use Rattle.eds_types.specs.Rows.{Table, base_of, chain, chain_before, chain_within, Placed, placed_entries, placed_trailers, own_parts, sequence}
use Rattle.eds_types.specs.Rules.{AreDistinct, name_of, is_length, SequenceKeeps}

-- ---- lists without repetition

-- the item stands nowhere in the list
abbrev pub IsNotIn : {A : Type 0} → List A → A → Type 0
IsNotIn xs x = Has xs x → ⊥

-- the lists have no item in common
abbrev pub AreDisjoint : {A : Type 0} → List A → List A → Type 0
AreDisjoint xs ys = AllByRecursion (IsNotIn ys) xs

module _ {A : Type 0} where
  pub has-first : (x : A) (xs : List A) → Has (x ∷ xs) x
  has-first x xs = record { before = []; after = xs; is = refl }

  pub has-later : (y x : A) (xs : List A) → Has xs x → Has (y ∷ xs) x
  has-later y x xs h = record { before = y ∷ h.before; after = h.after; is = ap (λ zs. y ∷ zs) h.is }

  pub has-front : (xs ys : List A) (x : A) → Has xs x → Has (xs ++ ys) x
  has-front xs ys x h = record { before = h.before; after = h.after ++ ys; is = ap (λ zs. zs ++ ys) h.is ∙ append_assoc h.before (x ∷ h.after) ys }

  pub has-back : (xs ys : List A) (x : A) → Has ys x → Has (xs ++ ys) x
  has-back xs ys x h = record { before = xs ++ h.before; after = h.after; is = ap (λ zs. xs ++ zs) h.is ∙ sym (append_assoc xs h.before (x ∷ h.after)) }

  pub has-cases : (y x : A) (xs : List A) → Has (y ∷ xs) x → (y ≡ x) ⊎ Has xs x
  has-cases y x xs h = go h.before h.is
    where
      go : (before : List A) → y ∷ xs ≡ before ++ x ∷ h.after → (y ≡ x) ⊎ Has xs x
      go [] e = inl cc
      go (z ∷ before) e = let q : xs ≡ before ++ x ∷ h.after = cc in inr (record { before = before; after = h.after; is = q })

  pub has-parts : (xs ys : List A) (x : A) → Has (xs ++ ys) x → Has xs x ⊎ Has ys x
  has-parts [] ys x h = inr h
  has-parts (y ∷ xs) ys x h = elim (has-cases y x (xs ++ ys) h) [
    | inl e ↦ inl (subst (λ z. Has (y ∷ xs) z) e (has-first y xs))
    | inr k ↦ elim (has-parts xs ys x k) [ inl l ↦ inl (has-later y x xs l) | inr r ↦ inr r ]
  ]

  pub not-in-both : (xs ys : List A) (x : A) → IsNotIn xs x → IsNotIn ys x → IsNotIn (xs ++ ys) x
  not-in-both xs ys x p q h = elim (has-parts xs ys x h) [ inl l ↦ p l | inr r ↦ q r ]

  pub distinct-both : (xs ys : List A) → AreDistinct xs → AreDistinct ys → AreDisjoint xs ys → AreDistinct (xs ++ ys)
  distinct-both [] ys p q d = q
  distinct-both (x ∷ xs) ys p q d = (not-in-both xs ys x p.0 d.0, distinct-both xs ys p.1 q d.1)

  pub distinct-front : (xs ys : List A) → AreDistinct (xs ++ ys) → AreDistinct xs
  distinct-front [] ys p = tt
  distinct-front (x ∷ xs) ys p = ((λ h. p.0 (has-front xs ys x h)), distinct-front xs ys p.1)

  pub distinct-back : (xs ys : List A) → AreDistinct (xs ++ ys) → AreDistinct ys
  distinct-back [] ys p = p
  distinct-back (x ∷ xs) ys p = distinct-back xs ys p.1

  pub distinct-disjoint : (xs ys : List A) → AreDistinct (xs ++ ys) → AreDisjoint xs ys
  distinct-disjoint [] ys p = tt
  distinct-disjoint (x ∷ xs) ys p = ((λ h. p.0 (has-back xs ys x h)), distinct-disjoint xs ys p.1)

  pub disjoint-at : (xs ys : List A) (x : A) → AreDisjoint xs ys → Has xs x → Has ys x → ⊥
  disjoint-at [] ys x d h k = go h.before h.is
    where
      go : (before : List A) → [] ≡ before ++ x ∷ h.after → ⊥
      go [] e = cc
      go (b ∷ before) e = cc
  disjoint-at (y ∷ xs) ys x d h k = elim (has-cases y x xs h) [
    | inl e ↦ d.0 (subst (Has ys) (sym e) k)
    | inr l ↦ disjoint-at xs ys x d.1 l k
  ]

  -- what is known of all that is in a list
  pub disjoint-by : (xs ys : List A) → ((x : A) → Has xs x → Has ys x → ⊥) → AreDisjoint xs ys
  disjoint-by [] ys g = tt
  disjoint-by (x ∷ xs) ys g = (g x (has-first x xs), disjoint-by xs ys (λ z h. g z (has-later x z xs h)))

  -- two halves, and others between them
  pub distinct-between : (front back ms : List A) → AreDistinct (front ++ back) → AreDistinct ms → AreDisjoint ms (front ++ back) → AreDistinct (front ++ (ms ++ back))
  distinct-between front back ms p q d =
      distinct-both front (ms ++ back) (distinct-front front back p)
      (distinct-both ms back q (distinct-back front back p) (disjoint-by ms back (λ x h k. disjoint-at ms (front ++ back) x d h (has-back front back x k))))
      (disjoint-by front (ms ++ back) (λ x h k. elim (has-parts ms back x k) [
        | inl l ↦ disjoint-at ms (front ++ back) x d l (has-front front back x h)
        | inr r ↦ disjoint-at front back x (distinct-disjoint front back p) h r
      ]))

  pub has-between : (front back ms : List A) (x : A) → Has (front ++ (ms ++ back)) x → Has (front ++ back) x ⊎ Has ms x
  has-between front back ms x h = elim (has-parts front (ms ++ back) x h) [
    | inl l ↦ inl (has-front front back x l)
    | inr r ↦ elim (has-parts ms back x r) [ inl m ↦ inr m | inr b ↦ inl (has-back front back x b) ]
  ]

-- ---- sequences

module _ (t : Table) where
  -- the entries of some containers, and then their trailers from the last up
  abbrev pub sequence_over : List ℕ → List Placed
  sequence_over ks = flat_map (placed_entries t) ks ++ flat_map (placed_trailers t) (reverse ks)

  -- of one container more: its own parts stand between the entries and the trailers of the others
  pub sequence_step : (ks : List ℕ) (k : ℕ) → sequence_over (ks ++ k ∷ []) ≡ flat_map (placed_entries t) ks ++ (own_parts t k ++ flat_map (placed_trailers t) (reverse ks))
  sequence_step ks k = rw (flat_map-append (placed_entries t) ks (k ∷ []), reverse-append ks (k ∷ []), append-nil (placed_entries t k)) (append_assoc (flat_map (placed_entries t) ks) (placed_entries t k) (placed_trailers t k ++ flat_map (placed_trailers t) (reverse ks)) ∙ ap (λ ps. flat_map (placed_entries t) ks ++ ps) (sym (append_assoc (placed_entries t k) (placed_trailers t k) (flat_map (placed_trailers t) (reverse ks)))))

-- ---- chains

-- a level for each type, which counts its bases
module _ (t : Table) (level : ℕ → ℕ) (low : (id : ℕ) → level id < 16) (base_level : (id base : ℕ) → base_of t id ≡ Some base → level id ≡ suc (level base)) where
  same_before : (n m : ℕ) (id : ℕ) (o : Option ℕ) → base_of t id ≡ o → ((base : ℕ) → level base < n → level base < m → chain_within n t base ≡ chain_within m t base) → level id < suc n → level id < suc m → chain_before (chain_within n t) o ≡ chain_before (chain_within m t) o
  same_before n m id None e ih h k = refl
  same_before n m id (Some base) e ih h k = let l = base_level id base e in ih base (omega arith) (omega arith)

  chain_same : (n m id : ℕ) → level id < n → level id < m → chain_within n t id ≡ chain_within m t id
  unfolding chain_within
  chain_same zero m id h k = absurd (omega arith)
  chain_same (suc n) zero id h k = absurd (omega arith)
  chain_same (suc n) (suc m) id h k = ap (λ c. c ++ id ∷ []) (same_before n m id (base_of t id) refl (chain_same n m) h k)

  -- a chain is that of the base, and the type itself
  pub chain_step : (id : ℕ) (o : Option ℕ) → base_of t id ≡ o → chain t id ≡ chain_before (chain t) o ++ id ∷ []
  unfolding chain_within
  chain_step id None e = ap (λ p. chain_before (chain_within 15 t) p ++ id ∷ []) e
  chain_step id (Some base) e =
      let l = base_level id base e in let h = low id in
      ap (λ p. chain_before (chain_within 15 t) p ++ id ∷ []) e ∙ ap (λ c. c ++ id ∷ []) (chain_same 15 16 base (omega arith) (omega arith))

  -- ---- sequences by what marks a part

  -- the parts of all bases of a type
  abbrev pub parts_above : ℕ → List Placed
  parts_above k = flat_map (own_parts t) (chain_before (chain t) (base_of t k))

  module _ {A : Type 0} (mark : Placed → Option A) where
    abbrev marks : List Placed → List A
    marks ps = filter_map mark ps

    marks-append : (xs ys : List Placed) → marks (xs ++ ys) ≡ marks xs ++ marks ys
    marks-append [] ys = refl
    marks-append (x ∷ xs) ys = go (marks-append xs ys) (mark x) refl
      where
        go : marks (xs ++ ys) ≡ marks xs ++ marks ys → (o : Option A) → mark x ≡ o → marks ((x ∷ xs) ++ ys) ≡ marks (x ∷ xs) ++ marks ys
        go later None e = rw e later
        go later (Some a) e = rw e (ap (λ zs. a ∷ zs) later)

    -- the marks of a container's own parts differ, and are those of no part of its bases
    pub record OwnDiffer (k : ℕ) : Type 0 where
      pub own : AreDistinct (marks (own_parts t k))
      pub apart : AreDisjoint (marks (own_parts t k)) (marks (parts_above k))

    record SoFar (ks : List ℕ) : Type 0 where
      differ : AreDistinct (marks (sequence_over t ks))
      among : (x : A) → Has (marks (sequence_over t ks)) x → Has (marks (flat_map (own_parts t) ks)) x

    no_so_far : SoFar []
    no_so_far = record { differ = tt; among = λ x h. h }

    next_so_far : (k : ℕ) → OwnDiffer k → SoFar (chain_before (chain t) (base_of t k)) → SoFar (chain_before (chain t) (base_of t k) ++ k ∷ [])
    next_so_far k own above = record {
      differ = subst AreDistinct (sym split) (distinct-between front back (marks (own_parts t k)) whole own.own (disjoint-by (marks (own_parts t k)) (front ++ back) (λ x h g. disjoint-at (marks (own_parts t k)) (marks (parts_above k)) x own.apart h (above.among x (subst (λ zs. Has zs x) (sym ends) g)))));
      among = λ x h. subst (λ zs. Has zs x) (sym all) (elim (has-between front back (marks (own_parts t k)) x (subst (λ zs. Has zs x) split h)) [
        | inl l ↦ has-front (marks (parts_above k)) (marks (own_parts t k)) x (above.among x (subst (λ zs. Has zs x) (sym ends) l))
        | inr r ↦ has-back (marks (parts_above k)) (marks (own_parts t k)) x r
      ]);
    }
      where
        ks : List ℕ
        ks = chain_before (chain t) (base_of t k)

        front : List A
        front = marks (flat_map (placed_entries t) ks)

        back : List A
        back = marks (flat_map (placed_trailers t) (reverse ks))

        ends : marks (sequence_over t ks) ≡ front ++ back
        ends = marks-append (flat_map (placed_entries t) ks) (flat_map (placed_trailers t) (reverse ks))

        whole : AreDistinct (front ++ back)
        whole = subst AreDistinct ends above.differ

        split : marks (sequence_over t (ks ++ k ∷ [])) ≡ front ++ (marks (own_parts t k) ++ back)
        split = ap marks (sequence_step t ks k) ∙ marks-append (flat_map (placed_entries t) ks) (own_parts t k ++ flat_map (placed_trailers t) (reverse ks)) ∙ ap (λ zs. front ++ zs) (marks-append (own_parts t k) (flat_map (placed_trailers t) (reverse ks)))

        all : marks (flat_map (own_parts t) (ks ++ k ∷ [])) ≡ marks (parts_above k) ++ marks (own_parts t k)
        all = ap marks (flat_map-append (own_parts t) ks (k ∷ []) ∙ ap (λ ps. parts_above k ++ ps) (append-nil (own_parts t k))) ∙ marks-append (parts_above k) (own_parts t k)

    so_far : ((k : ℕ) → OwnDiffer k) → (n k : ℕ) → level k < n → SoFar (chain t k)
    so_far own zero k h = absurd (omega arith)
    so_far own (suc n) k h = subst SoFar (sym (chain_step k (base_of t k) refl)) (next_so_far k (own k) (go (so_far own n) (base_of t k) refl))
      where
        go : ((k : ℕ) → level k < n → SoFar (chain t k)) → (o : Option ℕ) → base_of t k ≡ o → SoFar (chain_before (chain t) o)
        go up None e = no_so_far
        go up (Some base) e = let l = base_level k base e in up base (omega arith)

    -- the marks of a whole sequence differ
    pub sequence_differs : ((k : ℕ) → OwnDiffer k) → (k : ℕ) → AreDistinct (marks (sequence t k))
    sequence_differs own k = (so_far own 16 k (low k)).differ

-- ---- names and length entries

-- a length entry is marked, and no other part
abbrev pub length_mark : Placed → Option (Unit {0})
length_mark p = if is_length p.part then Some tt else None

abbrev pub name_mark : Placed → Option (List ℕ)
name_mark p = name_of p.part

one_mark : (xs : List (Unit {0})) → AreDistinct xs → length xs ≤ 1
one_mark [] h = lit≤ tt
one_mark (x ∷ []) h = lit≤ tt
one_mark (x ∷ y ∷ xs) h = absurd (h.0 (has-first tt xs))

pub marked : (ps : List Placed) → length (filter_map length_mark ps) ≡ length (filter (λ (p : Placed). is_length p.part) ps)
marked [] = refl
marked (p ∷ ps) = go (marked ps) (is_length p.part) refl
  where
    go : length (filter_map length_mark ps) ≡ length (filter (λ (q : Placed). is_length q.part) ps) → (b : Bool) → is_length p.part ≡ b → length (filter_map length_mark (p ∷ ps)) ≡ length (filter (λ (q : Placed). is_length q.part) (p ∷ ps))
    go later true e = rw e (ap suc later)
    go later false e = rw e later

pub sequence_keeps : (ps : List Placed) → AreDistinct (filter_map name_mark ps) → AreDistinct (filter_map length_mark ps) → SequenceKeeps ps
sequence_keeps ps names lengths = record { names = names; one_length = subst (λ n. n ≤ 1) (marked ps) (one_mark (filter_map length_mark ps) lengths) }
