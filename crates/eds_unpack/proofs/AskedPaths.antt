-- What stands among the paths that a table's constraints and lists ask for, and where the parts of its containers stand.
use Rattle.std.proofs.Common.{◌≡◌, ℕ, zero, suc, ◌+◌, ◌-◌, ◌<◌, ◌≤◌, List, [], ◌∷◌, ◌++◌, length, reverse, Option, Some, None, refl, sym, ap, subst, ◌∙◌, append_assoc, append-nil, arith, ◌⊎◌, inl, inr}
use mathlib.Core.List.{reverse_aux}
use Rattle.std.specs.Prelude.{slice_get}
use Rattle.std.specs.List.{AllByRecursion, flat_map, range_with_len}
use Rattle.std.proofs.lemmas.Bool.{cases_lt}
use Rattle.std.proofs.lemmas.List.{length-append}
use Rattle.std.proofs.lemmas.Option.{slice_get_past}
use Rattle.eds_base.specs.declared.ids.TypeId.{TypeId}
use Rattle.eds_bits.specs.Lists.{Has}
use Rattle.eds_types.specs.declared.row.Part.{Part}
use Rattle.eds_types.specs.declared.row.Part.TheVariants as part
use Rattle.eds_types.specs.declared.row.Constraint.{Constraint}
use Rattle.eds_types.specs.Fields.{type_by}
use Rattle.eds_types.specs.Rows.{Table, base_of, chain, chain_within, chain_before, container_in, constraints_in, entries_in, trailers_in, constraints_of, entries_of, trailers_of, numbers, Placed, placed_from, placed_entries, placed_trailers, own_parts, sequence}
use Rattle.eds_types.specs.Rules.{KeepsRules, IsNested, PartKeeps, ConstraintKeeps, Follows}
use Rattle.eds_types.proofs.AllOf.{All-weaker, All-both, All-front, All-back, All-each, All-has, All-at}
use Rattle.eds_types.proofs.DistinctParts.{Apart, Pairwise, sequence_apart}
use Rattle.eds_types.proofs.FieldTypes.{sequence_placed}
use Rattle.eds_types.proofs.RuleFacts.{table_of}
use Rattle.eds_overlap.specs.Common.{each_once}
use Rattle.eds_overlap.specs.Pairs.{Steps}
use Rattle.eds_overlap.proofs.CommonFound.{once_in, once_from}
use Rattle.eds_overlap.proofs.Meeting.{one_either, one_before}
use Rattle.eds_unpack.specs.Asked.{tails, tellers_of, asked_by, asked_in, asked}
use Rattle.eds_unpack.specs.Index.{Among}
use Rattle.eds_unpack.specs.Walks.{Stands}

-- ---- what stands in lists

in_front : {A : Type 0} (xs ys : List A) (x : A) → Has xs x → Has (xs ++ ys) x
in_front xs ys x h = record { before = h.before; after = h.after ++ ys; is = ap (λ l. l ++ ys) h.is ∙ append_assoc h.before (x ∷ h.after) ys }

in_back : {A : Type 0} (xs ys : List A) (x : A) → Has ys x → Has (xs ++ ys) x
in_back xs ys x h = record { before = xs ++ h.before; after = h.after; is = ap (λ l. xs ++ l) h.is ∙ sym (append_assoc xs h.before (x ∷ h.after)) }

in_flat : {A : Type 0} (f : ℕ → List A) (before : List ℕ) (y : ℕ) (after : List ℕ) (x : A) → Has (f y) x → Has (flat_map f (before ++ y ∷ after)) x
in_flat f [] y after x h = in_front (f y) (flat_map f after) x h
in_flat f (z ∷ before) y after x h = in_back (f z) (flat_map f (before ++ y ∷ after)) x (in_flat f before y after x h)

in_flat_of : {A : Type 0} (f : ℕ → List A) (ys : List ℕ) (y : ℕ) (x : A) → Has ys y → Has (f y) x → Has (flat_map f ys) x
in_flat_of f ys y x h k = subst (λ l. Has (flat_map f l) x) (sym h.is) (in_flat f h.before y h.after x k)

onto : {A : Type 0} (xs ys : List A) (x : A) → Has ys x → Has (reverse_aux xs ys) x
onto [] ys x h = h
onto (z ∷ xs) ys x h = onto xs (z ∷ ys) x (record { before = z ∷ h.before; after = h.after; is = ap (λ l. z ∷ l) h.is })

turned : {A : Type 0} (before : List A) (x : A) (after ys : List A) → Has (reverse_aux (before ++ x ∷ after) ys) x
turned [] x after ys = onto after (x ∷ ys) x (record { before = []; after = ys; is = refl })
turned (z ∷ before) x after ys = turned before x after (z ∷ ys)

in_reverse : {A : Type 0} (xs : List A) (x : A) → Has xs x → Has (reverse xs) x
in_reverse xs x h = subst (λ l. Has (reverse l) x) (sym h.is) (turned h.before x h.after [])

at_place : {A : Type 0} (P : A → Type 0) (xs : List A) (i : ℕ) (x : A) → AllByRecursion P xs → slice_get xs i ≡ Some x → P x
at_place P [] i x h e = absurd cc
at_place P (y ∷ ys) zero x h e = let q : y ≡ x = cc in subst P q h.0
at_place P (y ∷ ys) (suc i) x h e = at_place P ys i x h.1 e

in_place : {A : Type 0} (xs : List A) (i : ℕ) (x : A) → slice_get xs i ≡ Some x → Has xs x
in_place xs i x e = at_place (Has xs) xs i x (All-has [] xs) e

in_range : (a n y : ℕ) → a ≤ y → y < a + n → Has (range_with_len a n) y
in_range a zero y low lt = absurd (omega arith)
in_range a (suc n) y low lt = elim (cases_lt a y) [
  | inl less ↦ (let h = in_range (a + 1) n y (omega arith) (omega arith) in record { before = a ∷ h.before; after = h.after; is = ap (λ l. a ∷ l) h.is })
  | inr ge ↦ (let same : a ≡ y = omega arith in record { before = []; after = range_with_len (a + 1) n; is = ap (λ x. x ∷ range_with_len (a + 1) n) same })
]

get_front : {A : Type 0} (xs ys : List A) (i : ℕ) → i < length xs → slice_get (xs ++ ys) i ≡ slice_get xs i
get_front [] ys i lt = absurd (omega arith)
get_front (x ∷ xs) ys zero lt = refl
get_front (x ∷ xs) ys (suc i) lt = get_front xs ys i (omega arith)

get_back : {A : Type 0} (xs ys : List A) (i j : ℕ) → i ≡ length xs + j → slice_get (xs ++ ys) i ≡ slice_get ys j
get_back [] ys i j e = ap (slice_get ys) (e ∙ omega arith)
get_back (x ∷ xs) ys zero j e = absurd (omega arith)
get_back (x ∷ xs) ys (suc i) j e = get_back xs ys i j (omega arith)

-- ---- paths among others

-- a path at a position of a list is among its paths
pub slot_is_among : (paths : List Steps) (g : ℕ) (path : Steps) → slice_get paths g ≡ Some path → Among paths path
slot_is_among [] g path e = absurd cc
slot_is_among (p ∷ paths) zero path e = let q : p ≡ path = cc in inl q
slot_is_among (p ∷ paths) (suc g) path e = inr (slot_is_among paths g path e)

-- a path that is among some stands at a position of their list
pub slot_of_among : (paths : List Steps) (path : Steps) → Among paths path → (g : ℕ) × (slice_get paths g ≡ Some path)
slot_of_among [] path h = absurd h
slot_of_among (p ∷ paths) path (inl e) = (0, ap Some e)
slot_of_among (p ∷ paths) path (inr h) = let k = slot_of_among paths path h in (suc k.0, k.1)

-- what holds of all paths of a list, holds of each that is among them
pub of_among : (P : Steps → Type 0) (paths : List Steps) (path : Steps) → AllByRecursion P paths → Among paths path → P path
of_among P [] path a h = absurd h
of_among P (p ∷ paths) path a (inl e) = subst P e a.0
of_among P (p ∷ paths) path a (inr h) = of_among P paths path a.1 h

among_front : (xs ys : List Steps) (path : Steps) → Among xs path → Among (xs ++ ys) path
among_front [] ys path h = absurd h
among_front (x ∷ xs) ys path (inl e) = inl e
among_front (x ∷ xs) ys path (inr h) = inr (among_front xs ys path h)

among_back : (xs ys : List Steps) (path : Steps) → Among ys path → Among (xs ++ ys) path
among_back xs ys path h = one_before (λ p. p ≡ path) xs ys h

among_flat : {A : Type 0} (f : A → List Steps) (before : List A) (x : A) (after : List A) (path : Steps) → Among (f x) path → Among (flat_map f (before ++ x ∷ after)) path
among_flat f [] x after path h = among_front (f x) (flat_map f after) path h
among_flat f (z ∷ before) x after path h = among_back (f z) (flat_map f (before ++ x ∷ after)) path (among_flat f before x after path h)

among_flat_of : {A : Type 0} (f : A → List Steps) (xs : List A) (x : A) (path : Steps) → Has xs x → Among (f x) path → Among (flat_map f xs) path
among_flat_of f xs x path h k = subst (λ l. Among (flat_map f l) path) (sym h.is) (among_flat f h.before x h.after path k)

-- where one path is among those of each item only with another one, it is so among those of all items
along_flat : {A : Type 0} (f : A → List Steps) (one other : Steps) → ((x : A) → Among (f x) one → Among (f x) other) → (xs : List A) → Among (flat_map f xs) one → Among (flat_map f xs) other
along_flat f one other g [] h = absurd h
along_flat f one other g (x ∷ xs) h = elim (one_either (λ p. p ≡ one) (f x) (flat_map f xs) h) [
  | inl k ↦ among_front (f x) (flat_map f xs) other (g x k)
  | inr k ↦ among_back (f x) (flat_map f xs) other (along_flat f one other g xs k)
]

-- what holds of the paths of each item, holds of all
all_flat : {A : Type 0} (P : Steps → Type 0) (Q : A → Type 0) (f : A → List Steps) → ((x : A) → Q x → AllByRecursion P (f x)) → (xs : List A) → AllByRecursion Q xs → AllByRecursion P (flat_map f xs)
all_flat P Q f g [] h = tt
all_flat P Q f g (x ∷ xs) h = All-both P (f x) (flat_map f xs) (g x h.0) (all_flat P Q f g xs h.1)

-- ---- what is asked for

-- a type is there, or its row isn't
there_or_not : (t : Table) (y : ℕ) → Has (numbers t) y ⊎ (slice_get t y ≡ None)
there_or_not t y = elim (cases_lt y (length t)) [ inl lt ↦ inl (in_range 0 (length t) y (omega arith) (omega arith)) | inr ge ↦ inr (slice_get_past t y ge) ]

no_constraints : (t : Table) (y : ℕ) → slice_get t y ≡ None → constraints_of t y ≡ []
no_constraints t y e = ap (λ o. constraints_in (container_in o)) e

no_parts : (t : Table) (y : ℕ) → slice_get t y ≡ None → entries_of t y ++ trailers_of t y ≡ []
no_parts t y e = ap (λ o. entries_in (container_in o) ++ trailers_in (container_in o)) e

-- what a container that is there asks for, is asked for
of_own : (t : Table) (y : ℕ) (path : Steps) → Has (numbers t) y → Among (asked_in t y) path → Among (each_once (asked t)) path
of_own t y path there h = once_in (asked t) path (among_flat_of (asked_in t) (numbers t) y path there h)

whole_in_tails : (path : Steps) → (path ≡ [] → ⊥) → Among (tails path) path
whole_in_tails [] some = absurd (some refl)
whole_in_tails (p ∷ path) some = inl refl

not_empty : (t : Table) (path : Steps) → Follows t path → path ≡ [] → ⊥
not_empty t path h e = subst (Follows t) e h

-- the path of each constraint is asked for
pub asked_constraint : (t : Table) → KeepsRules t → (y : ℕ) → AllByRecursion (λ (c : Constraint). Among (each_once (asked t)) c.path) (constraints_of t y)
asked_constraint t rules y = elim (there_or_not t y) [
  | inl there ↦ by_base there (base_of t y) refl
  | inr e ↦ subst (AllByRecursion (λ (c : Constraint). Among (each_once (asked t)) c.path)) (sym (no_constraints t y e)) tt
]
  where
    one : Has (numbers t) y → (c : Constraint) → Has (constraints_of t y) c → Follows t c.path → Among (each_once (asked t)) c.path
    one there c h f = of_own t y c.path there
        (among_front (flat_map asked_by (constraints_of t y)) (flat_map tellers_of (entries_of t y ++ trailers_of t y)) c.path
        (among_flat_of asked_by (constraints_of t y) c c.path h (whole_in_tails c.path (not_empty t c.path f))))

    each : Has (numbers t) y → (base : ℕ) (cs : List Constraint) → AllByRecursion (Has (constraints_of t y)) cs → AllByRecursion (ConstraintKeeps t base y) cs → AllByRecursion (λ (c : Constraint). Among (each_once (asked t)) c.path) cs
    each there base [] h k = tt
    each there base (c ∷ cs) h k = (one there c h.0 (k.0).follows, each there base cs h.1 k.1)

    by_base : Has (numbers t) y → (o : Option ℕ) → base_of t y ≡ o → AllByRecursion (λ (c : Constraint). Among (each_once (asked t)) c.path) (constraints_of t y)
    by_base there None e = subst (AllByRecursion (λ (c : Constraint). Among (each_once (asked t)) c.path)) (sym (rules.root_constraints y e)) tt
    by_base there (Some base) e = each there base (constraints_of t y) (All-has [] (constraints_of t y)) (rules.constraints y base e)

-- the path to the entry that tells how many items a list has is asked for
pub asked_teller : (t : Table) (y : ℕ) (name : List ℕ) (id z : TypeId) (i place : ℕ) → slice_get (entries_of t y ++ trailers_of t y) place ≡ Some (part.List name id z i) → Among (each_once (asked t)) ((z, i) ∷ [])
asked_teller t y name id z i place e = elim (there_or_not t y) [
  | inl there ↦ of_own t y ((z, i) ∷ []) there
      (among_back (flat_map asked_by (constraints_of t y)) (flat_map tellers_of (entries_of t y ++ trailers_of t y)) ((z, i) ∷ [])
      (among_flat_of tellers_of (entries_of t y ++ trailers_of t y) (part.List name id z i) ((z, i) ∷ []) (in_place (entries_of t y ++ trailers_of t y) place (part.List name id z i) e) (inl refl)))
  | inr none ↦ absurd (in_nothing (sym e ∙ ap (λ ps. slice_get ps place) (no_parts t y none)))
]
  where
    in_nothing : {A : Type 0} {x : A} → Some x ≡ None → ⊥
    in_nothing f = cc

-- what is left of a path that is asked for, from each further container on the way, is asked for
pub asked_tail : (t : Table) (p q : TypeId × ℕ) (path : Steps) → Among (each_once (asked t)) (p ∷ q ∷ path) → Among (each_once (asked t)) (q ∷ path)
asked_tail t p q path h = once_in (asked t) (q ∷ path) (along_flat (asked_in t) (p ∷ q ∷ path) (q ∷ path) own (numbers t) (once_from (asked t) (p ∷ q ∷ path) h))
  where
    begins : (all : Steps) → all ≡ q ∷ path → Among (tails all) (q ∷ path)
    begins [] e = absurd cc
    begins (r ∷ all) e = inl e

    in_tails : (all : Steps) → Among (tails all) (p ∷ q ∷ path) → Among (tails all) (q ∷ path)
    in_tails [] h = absurd h
    in_tails (r ∷ all) (inl e) = let k : all ≡ q ∷ path = cc in inr (begins all k)
    in_tails (r ∷ all) (inr h) = inr (in_tails all h)

    longer : (r : TypeId × ℕ) → r ∷ [] ≡ p ∷ q ∷ path → ⊥
    longer r e = let k : [] ≡ q ∷ path = cc in absurd cc

    no_teller : (a : Part) → Among (tellers_of a) (p ∷ q ∷ path) → Among (tellers_of a) (q ∷ path)
    no_teller (part.Plain name id) h = absurd h
    no_teller (part.Fixed name id v) h = absurd h
    no_teller (part.Pad n) h = absurd h
    no_teller (part.List name id y i) (inl e) = absurd (longer (y, i) e)
    no_teller (part.List name id y i) (inr h) = absurd h
    no_teller (part.Length name id c0 c1) h = absurd h
    no_teller (part.Check name id kind) h = absurd h

    own : (y : ℕ) → Among (asked_in t y) (p ∷ q ∷ path) → Among (asked_in t y) (q ∷ path)
    own y h = elim (one_either (λ r. r ≡ p ∷ q ∷ path) (flat_map asked_by (constraints_of t y)) (flat_map tellers_of (entries_of t y ++ trailers_of t y)) h) [
      | inl k ↦ among_front (flat_map asked_by (constraints_of t y)) (flat_map tellers_of (entries_of t y ++ trailers_of t y)) (q ∷ path) (along_flat asked_by (p ∷ q ∷ path) (q ∷ path) (λ (c : Constraint) k. in_tails c.path k) (constraints_of t y) k)
      | inr k ↦ among_back (flat_map asked_by (constraints_of t y)) (flat_map tellers_of (entries_of t y ++ trailers_of t y)) (q ∷ path) (along_flat tellers_of (p ∷ q ∷ path) (q ∷ path) no_teller (entries_of t y ++ trailers_of t y) k)
    ]

unplaced : (P : Part → Type 0) (y i : ℕ) (ps : List Part) → AllByRecursion (λ (p : Placed). P p.part) (placed_from y i ps) → AllByRecursion P ps
unplaced P y i [] h = tt
unplaced P y i (p ∷ ps) h = (h.0, unplaced P y (i + 1) ps h.1)

-- what holds of a container's own parts where they stand, holds of them
of_parts : (t : Table) (P : Part → Type 0) (y : ℕ) → AllByRecursion (λ (p : Placed). P p.part) (own_parts t y) → AllByRecursion P (entries_of t y ++ trailers_of t y)
of_parts t P y h =
    All-both P (entries_of t y) (trailers_of t y)
    (unplaced P y 0 (entries_of t y) (All-front (λ (p : Placed). P p.part) (placed_entries t y) (placed_trailers t y) h))
    (unplaced P y (length (entries_of t y)) (trailers_of t y) (All-back (λ (p : Placed). P p.part) (placed_entries t y) (placed_trailers t y) h))

-- each path that is asked for leads to an entry, from one container to the next
pub asked_follows : (t : Table) → KeepsRules t → (path : Steps) → Among (each_once (asked t)) path → Follows t path
asked_follows t rules path h = of_among (Follows t) (asked t) path (all_flat (Follows t) (λ y. Unit {0}) (asked_in t) (λ y _. own y) (numbers t) (All-each (λ y. Unit {0}) (λ y. tt) (numbers t))) (once_from (asked t) path h)
  where
    in_tails : (all : Steps) → Follows t all → AllByRecursion (Follows t) (tails all)
    in_tails [] h = absurd h
    in_tails (p ∷ []) h = (h, tt)
    in_tails (p ∷ q ∷ all) h = (h, in_tails (q ∷ all) h.5)

    of_constraints : (y : ℕ) (o : Option ℕ) → base_of t y ≡ o → AllByRecursion (Follows t) (flat_map asked_by (constraints_of t y))
    of_constraints y None e = subst (λ cs. AllByRecursion (Follows t) (flat_map asked_by cs)) (sym (rules.root_constraints y e)) tt
    of_constraints y (Some base) e = all_flat (Follows t) (ConstraintKeeps t base y) asked_by (λ c k. in_tails c.path k.follows) (constraints_of t y) (rules.constraints y base e)

    of_teller : (p : Placed) (a : Part) → PartKeeps t p a → AllByRecursion (Follows t) (tellers_of a)
    of_teller p (part.Plain name id) k = tt
    of_teller p (part.Fixed name id v) k = tt
    of_teller p (part.Pad n) k = tt
    of_teller p (part.List name id y i) k =
        let told = k.2 in
        let first : Placed = record { container = y.0; place = i; part = part.Plain told.name told.id } in
        let stands = All-at (λ (q : Placed). slice_get (entries_of t q.container ++ trailers_of t q.container) q.place ≡ Some q.part) (sequence t p.container) first (record { before = (told.before).before; after = (told.before).between ++ record { container = p.container; place = p.place; part = p.part } ∷ (told.before).after; is = (told.before).is }) (sequence_placed t p.container) in
        ((told.name, told.id, stands), tt)
    of_teller p (part.Length name id c0 c1) k = tt
    of_teller p (part.Check name id kind) k = tt

    own : (y : ℕ) → AllByRecursion (Follows t) (asked_in t y)
    own y = All-both (Follows t) (flat_map asked_by (constraints_of t y)) (flat_map tellers_of (entries_of t y ++ trailers_of t y))
        (of_constraints y (base_of t y) refl)
        (all_flat (Follows t) (λ a. AllByRecursion (Follows t) (tellers_of a)) tellers_of (λ a k. k) (entries_of t y ++ trailers_of t y)
        (of_parts t (λ a. AllByRecursion (Follows t) (tellers_of a)) y (All-weaker (λ (p : Placed). PartKeeps t p p.part) (λ (p : Placed). AllByRecursion (Follows t) (tellers_of p.part)) (λ p k. of_teller p p.part k) (own_parts t y) (rules.parts y))))

-- ---- ranks

module _ (t : Table) (rules : KeepsRules t) where
  ranks_before : (n k : ℕ) (o : Option ℕ) → base_of t k ≡ o → ((base : ℕ) → AllByRecursion (λ y. rules.rank y ≡ rules.rank base) (chain_within n t base)) → AllByRecursion (λ y. rules.rank y ≡ rules.rank k) (chain_before (chain_within n t) o)
  ranks_before n k None e ih = tt
  ranks_before n k (Some base) e ih = let r = rules.base_rank k base e in All-weaker (λ y. rules.rank y ≡ rules.rank base) (λ y. rules.rank y ≡ rules.rank k) (λ y q. q ∙ sym r) (chain_within n t base) (ih base)

  ranks : (n k : ℕ) → AllByRecursion (λ y. rules.rank y ≡ rules.rank k) (chain_within n t k)
  unfolding chain_within
  ranks zero k = tt
  ranks (suc n) k = All-both (λ y. rules.rank y ≡ rules.rank k) (chain_before (chain_within n t) (base_of t k)) (k ∷ []) (ranks_before n k (base_of t k) refl (ranks n)) (refl, tt)

  -- the types of a chain have one rank
  pub rank_of_chain : (x y : ℕ) → Has (chain t x) y → rules.rank y ≡ rules.rank x
  rank_of_chain x y h = All-at (λ z. rules.rank z ≡ rules.rank x) (chain t x) y h (ranks 16 x)

  -- a path goes from each container to one of a lower rank
  pub lower_next : (p q : TypeId × ℕ) (path : Steps) → Follows t (p ∷ q ∷ path) → rules.rank (q.0).0 < rules.rank (p.0).0
  lower_next p q path h =
      let lower = of_parts t (λ (a : Part). (id : ℕ) → type_by (Some a) ≡ Some id → IsNested t rules.rank (p.0).0 id) (p.0).0 (rules.parts_nest (p.0).0) in
      let less = (at_place (λ (a : Part). (id : ℕ) → type_by (Some a) ≡ Some id → IsNested t rules.rank (p.0).0 id) (entries_of t (p.0).0 ++ trailers_of t (p.0).0) p.1 (part.Plain h.0 h.1) lower h.2 (h.1).0 refl).1 in
      let same = rank_of_chain (h.1).0 (q.0).0 h.4 in
      omega arith

  -- and so not back to the same
  pub other_next : (p q : TypeId × ℕ) (path : Steps) → Follows t (p ∷ q ∷ path) → (q.0).0 ≡ (p.0).0 → ⊥
  other_next p q path h e = let less = lower_next p q path h in let same = ap rules.rank e in omega arith

-- ---- where parts stand

module _ (t : Table) where
  placed_by : (y n : ℕ) (before ps after : List Part) → n ≡ length before → entries_of t y ++ trailers_of t y ≡ before ++ (ps ++ after) → AllByRecursion (Stands t) (placed_from y n ps)
  placed_by y n before [] after l e = tt
  placed_by y n before (p ∷ ps) after l e = (
    ap (λ l. slice_get l n) e ∙ get_back before (p ∷ (ps ++ after)) n 0 (omega arith),
    placed_by y (n + 1) (before ++ p ∷ []) ps after (omega (arith, length-append before (p ∷ []))) (e ∙ sym (append_assoc before (p ∷ []) (ps ++ after))),
  )

  -- the entries of a container stand where they are placed
  pub entries_placed : (y : ℕ) → AllByRecursion (Stands t) (placed_entries t y)
  entries_placed y = placed_by y 0 [] (entries_of t y) (trailers_of t y) refl refl

  -- its trailers too
  pub trailers_placed : (y : ℕ) → AllByRecursion (Stands t) (placed_trailers t y)
  trailers_placed y = placed_by y (length (entries_of t y)) (entries_of t y) (trailers_of t y) [] refl (ap (λ l. entries_of t y ++ l) (sym (append-nil (trailers_of t y))))

  -- and all its own parts
  pub own_placed : (y : ℕ) → AllByRecursion (Stands t) (own_parts t y)
  own_placed y = All-both (Stands t) (placed_entries t y) (placed_trailers t y) (entries_placed y) (trailers_placed y)

  -- and the parts of a whole chain
  pub sequence_stands : (k : ℕ) → AllByRecursion (Stands t) (sequence t k)
  sequence_stands k = sequence_placed t k

in_placed : (y n m i : ℕ) (ps : List Part) (q : Part) → m ≡ n + i → slice_get ps i ≡ Some q → Has (placed_from y n ps) (record { container = y; place = m; part = q })
in_placed y n m i [] q l e = absurd cc
in_placed y n m zero (p ∷ ps) q l e =
    let same : p ≡ q = cc in
    let place : n ≡ m = omega arith in
    record { before = []; after = placed_from y (n + 1) ps; is = ap (λ (r : Placed). r ∷ placed_from y (n + 1) ps) (ap (λ (a : Part). record { container = y; place = n; part = a }) same ∙ ap (λ j. record { container = y; place = j; part = q }) place) }
in_placed y n m (suc i) (p ∷ ps) q l e = let h = in_placed y (n + 1) m i ps q (omega arith) e in in_back (record { container = y; place = n; part = p } ∷ []) (placed_from y (n + 1) ps) (record { container = y; place = m; part = q }) h

module _ (t : Table) (y i : ℕ) (q : Part) (is : slice_get (entries_of t y ++ trailers_of t y) i ≡ Some q) where
  abbrev here : Placed
  here = record { container = y; place = i; part = q }

  -- the part at a place of a container is one of its entries, where the place is among theirs
  pub entry_in : i < length (entries_of t y) → Has (placed_entries t y) (record { container = y; place = i; part = q })
  entry_in lt = in_placed y 0 i i (entries_of t y) q (omega arith) (sym (get_front (entries_of t y) (trailers_of t y) i lt) ∙ is)

  -- and else one of its trailers
  pub trailer_in : length (entries_of t y) ≤ i → Has (placed_trailers t y) (record { container = y; place = i; part = q })
  trailer_in ge =
      let n : i ≡ length (entries_of t y) + (i - length (entries_of t y)) = omega arith in
      in_placed y (length (entries_of t y)) i (i - length (entries_of t y)) (trailers_of t y) q n (sym (get_back (entries_of t y) (trailers_of t y) i (i - length (entries_of t y)) n) ∙ is)

  -- it is one of the container's own parts
  pub own_in : Has (own_parts t y) (record { container = y; place = i; part = q })
  own_in = elim (cases_lt i (length (entries_of t y))) [
    | inl lt ↦ in_front (placed_entries t y) (placed_trailers t y) here (entry_in lt)
    | inr ge ↦ in_back (placed_entries t y) (placed_trailers t y) here (trailer_in ge)
  ]

  -- an entry is among the entries of each chain that has the container
  pub entry_along : (k : ℕ) → Has (chain t k) y → i < length (entries_of t y) → Has (flat_map (placed_entries t) (chain t k)) (record { container = y; place = i; part = q })
  entry_along k h lt = in_flat_of (placed_entries t) (chain t k) y here h (entry_in lt)

  -- each part is in the sequence of each chain that has the container
  pub part_along : (k : ℕ) → Has (chain t k) y → Has (sequence t k) (record { container = y; place = i; part = q })
  part_along k h = elim (cases_lt i (length (entries_of t y))) [
    | inl lt ↦ in_front (flat_map (placed_entries t) (chain t k)) (flat_map (placed_trailers t) (reverse (chain t k))) here (entry_along k h lt)
    | inr ge ↦ in_back (flat_map (placed_entries t) (chain t k)) (flat_map (placed_trailers t) (reverse (chain t k))) here (in_flat_of (placed_trailers t) (reverse (chain t k)) y here (in_reverse (chain t k) y h) (trailer_in ge))
  ]

-- ---- parts that differ

are_apart : (ps : List Placed) → Pairwise Apart ps → Pairwise Apart ps
are_apart [] h = tt
are_apart (p ∷ ps) h = (h.0, are_apart ps h.1)

-- no part stands twice in a sequence
pub apart_is : (t : Table) → KeepsRules t → (k : ℕ) → Pairwise Apart (sequence t k)
apart_is t rules k = are_apart (sequence t k) (sequence_apart t (table_of t rules) k)

-- nor in the front of parts of which none does
pub apart_front : (ps qs : List Placed) → Pairwise Apart (ps ++ qs) → Pairwise Apart ps
apart_front [] qs h = tt
apart_front (p ∷ ps) qs h = (All-front (Apart p) ps qs h.0, apart_front ps qs h.1)

-- what stands before a part is apart from it
pub apart_split : (done : List Placed) (p : Placed) (rest : List Placed) → Pairwise Apart (done ++ p ∷ rest) → AllByRecursion (λ (q : Placed). Apart q p) done
apart_split [] p rest h = tt
apart_split (d ∷ done) p rest h = ((All-back (Apart d) done (p ∷ rest) h.0).0, apart_split done p rest h.1)
