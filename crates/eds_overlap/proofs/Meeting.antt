-- Which pairs of containers overlap, by their sets.
use Rattle.std.proofs.Common.{◌≡◌, ℕ, zero, suc, ◌+◌, ◌<◌, ◌≤◌, ℤ, Bool, true, false, cond, List, [], ◌∷◌, ◌++◌, length, map, get_or, take, Option, Some, None, refl, sym, ap, subst, ◌∙◌, arith, inl, inr}
use Rattle.std.specs.Prelude.{slice_get, ◌⊎◌, IfSome, IfNone}
use Rattle.std.proofs.lemmas.Bool.{cases_lt, both_ways}
use Rattle.std.proofs.lemmas.Option.{slice_get_past}
use Rattle.std.specs.List.{AllByRecursion}
use Rattle.std.proofs.lemmas.List.{take_at, length-map, length-append, map-append}
use Rattle.eds_base.specs.declared.ids.TypeId.{TypeId}
use Rattle.eds_base.specs.declared.spans.Span.{Span}
use Rattle.eds_base.specs.Spans.{IsWithin}
use Rattle.eds_bits.specs.Lists.{Has, HasOne}
use Rattle.eds_types.specs.declared.row.Constraint.{Constraint}
use Rattle.eds_types.specs.declared.sets.PathSet.{PathSet}
use Rattle.eds_types.specs.Rows.{Table, id_of, chain, is_concrete, concrete_in, container_in}
use Rattle.eds_types.specs.Fields.{StartsInEntries, constraints_along}
use Rattle.eds_types.specs.Domains.{InDomain}
use Rattle.eds_types.specs.Rules.{KeepsRules}
use Rattle.eds_types.specs.Overlap.{IsSolution, IsConstrained, Overlapping}
use Rattle.eds_types.proofs.AllOf.{All-weaker, All-both, All-front, All-back, All-at}
use Rattle.eds_types.proofs.ChainLaws.{same_chain}
use Rattle.eds_types.proofs.RuleFacts.{table_of}
use Rattle.eds_overlap.specs.Pairs.{Steps, IsSolved, AreSets, AllSets, Agrees, ArePartedAt, IsFirstWith, IsFirstPair, IsWithinOn, Meets, same_path, set_on, shared}
use Rattle.eds_overlap.proofs.Solutions.{same_is, on_none, one_later}
use Rattle.eds_overlap.proofs.Parting.{shared_is}

pub has_of_one : {A : Type 0} (P : A → Type 0) (xs : List A) → HasOne P xs → (x : A) × Has xs x × P x
has_of_one P [] h = absurd h
has_of_one P (x ∷ xs) (inl h) = (x, record { before = []; after = xs; is = refl }, h)
has_of_one P (x ∷ xs) (inr h) = let k = has_of_one P xs h in (k.0, record { before = x ∷ (k.1).before; after = (k.1).after; is = ap (λ r. x ∷ r) (k.1).is }, k.2)

pub one_either : {A : Type 0} (P : A → Type 0) (xs ys : List A) → HasOne P (xs ++ ys) → HasOne P xs ⊎ HasOne P ys
one_either P [] ys h = inr h
one_either P (x ∷ xs) ys (inl h) = inl (inl h)
one_either P (x ∷ xs) ys (inr h) = elim (one_either P xs ys h) [ inl k ↦ inl (inr k) | inr k ↦ inr k ]

pub one_before : {A : Type 0} (P : A → Type 0) (xs ys : List A) → HasOne P ys → HasOne P (xs ++ ys)
one_before P [] ys h = h
one_before P (x ∷ xs) ys h = inr (one_before P xs ys h)

pub on_found : (sets : List PathSet) (path : Steps) (set : List Span) → set_on sets path ≡ Some set → (s : PathSet) × Has sets s × (s.path ≡ path) × (s.set ≡ set)
on_found [] path set e = absurd cc
on_found (x ∷ sets) path set e = go (same_path x.path path) refl e (on_found sets path set)
  where
    go : (b : Bool) → same_path x.path path ≡ b → cond b (Some x.set) (set_on sets path) ≡ Some set → (set_on sets path ≡ Some set → (s : PathSet) × Has sets s × (s.path ≡ path) × (s.set ≡ set))
        → (s : PathSet) × Has (x ∷ sets) s × (s.path ≡ path) × (s.set ≡ set)
    go true h e ih = let q : x.set ≡ set = cc in (x, record { before = []; after = sets; is = refl }, same_is x.path path h, q)
    go false h e ih = let k = ih e in (k.0, record { before = x ∷ (k.1).before; after = (k.1).after; is = ap (λ r. x ∷ r) (k.1).is }, k.2, k.3)

abbrev Admit : Steps → ℤ → Constraint → Type 0
Admit path n c = c.path ≡ path → IsWithin c.set n

all_free : (cs : List Constraint) (path : Steps) (n : ℤ) → (IsConstrained cs path → ⊥) → AllByRecursion (λ c. c.path ≡ path → IsWithin c.set n) cs
all_free [] path n f = tt
all_free (c ∷ cs) path n f = (λ e. absurd (f (inl e)), all_free cs path n (λ h. f (inr h)))

module _ (t : Table) where
  pub within_other : (cs : List Constraint) (theirs : List PathSet) (path : Steps) (n : ℤ) → AreSets t cs theirs → (o : Option (List Span)) → set_on theirs path ≡ o → IsWithinOn o n → AllByRecursion (λ c. c.path ≡ path → IsWithin c.set n) cs
  within_other cs theirs path n are None e w = all_free cs path n (λ h. on_none theirs path e (are.all path h))
  within_other cs theirs path n are (Some set) e w =
      let k = on_found theirs path set e in
      let solved = All-at (IsSolved t cs) theirs k.0 k.1 are.each in
      subst (λ p. AllByRecursion (λ c. c.path ≡ p → IsWithin c.set n) cs) k.2 (solved.solves n (subst (λ s. IsWithin s n) (sym k.3) w)).constraints

  pub other_within : (cs : List Constraint) (theirs : List PathSet) (path : Steps) (n : ℤ) → AreSets t cs theirs → InDomain t path n → AllByRecursion (λ c. c.path ≡ path → IsWithin c.set n) cs → (o : Option (List Span)) → set_on theirs path ≡ o → IsWithinOn o n
  other_within cs theirs path n are d a None e = tt
  other_within cs theirs path n are d a (Some set) e =
      let k = on_found theirs path set e in
      let solved = All-at (IsSolved t cs) theirs k.0 k.1 are.each in
      subst (λ s. IsWithin s n) k.3 (solved.all n (subst (λ p. IsSolution t cs p n) (sym k.2) (record { domain = d; constraints = a })))

  pub swap : (cs ds : List Constraint) (path : Steps) (n : ℤ) → IsSolution t (cs ++ ds) path n → IsSolution t (ds ++ cs) path n
  swap cs ds path n s = record {
    domain = s.domain;
    constraints = All-both (λ c. c.path ≡ path → IsWithin c.set n) ds cs (All-back (λ c. c.path ≡ path → IsWithin c.set n) cs ds s.constraints) (All-front (λ c. c.path ≡ path → IsWithin c.set n) cs ds s.constraints);
  }

  common_from : (x : ℕ) (cs ds : List Constraint) (ours theirs : List PathSet) → AreSets t cs ours → AreSets t ds theirs → AllByRecursion (Agrees t x theirs) ours
      → (path : Steps) → StartsInEntries t x path → IsConstrained cs path → (n : ℤ) × IsSolution t (cs ++ ds) path n
  common_from x cs ds ours theirs are others a path st h =
      let k = has_of_one (λ (s : PathSet). s.path ≡ path) ours (are.all path h) in
      let s : PathSet = k.0 in
      let solved = All-at (IsSolved t cs) ours s k.1 are.each in
      let agreed = All-at (Agrees t x theirs) ours s k.1 a (subst (StartsInEntries t x) (sym k.2) st) in
      let sol = solved.solves agreed.0 agreed.1 in
      let rest = within_other ds theirs s.path agreed.0 others (set_on theirs s.path) refl agreed.2 in
      (agreed.0, subst (λ p. IsSolution t (cs ++ ds) p agreed.0) k.2 (record { domain = sol.domain; constraints = All-both (λ c. c.path ≡ s.path → IsWithin c.set agreed.0) cs ds sol.constraints rest }))

  agrees_to : (x : ℕ) (cs ds : List Constraint) (ours theirs : List PathSet) → AreSets t cs ours → AreSets t ds theirs
      → ((path : Steps) → StartsInEntries t x path → IsConstrained (cs ++ ds) path → (n : ℤ) × IsSolution t (cs ++ ds) path n) → AllByRecursion (Agrees t x theirs) ours
  agrees_to x cs ds ours theirs are others common =
      All-weaker (IsSolved t cs) (Agrees t x theirs) (λ s h st.
      let c = common s.path st (one_later (λ (d : Constraint). d.path ≡ s.path) cs ds h.constrained) in
      let one = All-front (λ d. d.path ≡ s.path → IsWithin d.set c.0) cs ds (c.1).constraints in
      let other = All-back (λ d. d.path ≡ s.path → IsWithin d.set c.0) cs ds (c.1).constraints in
      (c.0, h.all c.0 (record { domain = (c.1).domain; constraints = one }), other_within ds theirs s.path c.0 others (c.1).domain other (set_on theirs s.path) refl)) ours are.each

  common_of : (x : ℕ) (cs ds : List Constraint) (ours theirs : List PathSet) → AreSets t cs ours → AreSets t ds theirs → AllByRecursion (Agrees t x theirs) ours → AllByRecursion (Agrees t x ours) theirs
      → (path : Steps) → StartsInEntries t x path → IsConstrained (cs ++ ds) path → (n : ℤ) × IsSolution t (cs ++ ds) path n
  common_of x cs ds ours theirs are others a b path st h =
      elim (one_either (λ (c : Constraint). c.path ≡ path) cs ds h) [
        | inl k ↦ common_from x cs ds ours theirs are others a path st k
        | inr k ↦ let c = common_from x ds cs theirs ours others are b path st k in (c.0, swap ds cs path c.0 c.1)
      ]

  swapped : (x : ℕ) (cs ds : List Constraint) → ((path : Steps) → StartsInEntries t x path → IsConstrained (cs ++ ds) path → (n : ℤ) × IsSolution t (cs ++ ds) path n)
      → (path : Steps) → StartsInEntries t x path → IsConstrained (ds ++ cs) path → (n : ℤ) × IsSolution t (ds ++ cs) path n
  swapped x cs ds common path st h =
      let c = common path st (elim (one_either (λ (c : Constraint). c.path ≡ path) ds cs h) [ inl k ↦ one_before (λ (c : Constraint). c.path ≡ path) cs ds k | inr k ↦ one_later (λ (c : Constraint). c.path ≡ path) cs ds k ]) in
      (c.0, swap cs ds path c.0 c.1)

  pub overlapping_from : (Used : ℕ → Type 0) (x k l : ℕ) (ours theirs : List PathSet) → is_concrete t k ≡ true → is_concrete t l ≡ true → ArePartedAt t x k l → AreSets t (constraints_along t k) ours → AreSets t (constraints_along t l) theirs
      → Meets t Used x ours theirs → Overlapping t Used x k l
  overlapping_from Used x k l ours theirs c d p are others m = record {
    first = c;
    second = d;
    one = p.one;
    other = p.other;
    differ = p.differ;
    to_first = p.to_first;
    to_second = p.to_second;
    used = m.read;
    common = common_of x (constraints_along t k) (constraints_along t l) ours theirs are others m.ours_agree m.theirs_agree;
  }

  pub parted_of : (Used : ℕ → Type 0) (x k l : ℕ) → Overlapping t Used x k l → ArePartedAt t x k l
  parted_of Used x k l o = record { one = o.one; other = o.other; differ = o.differ; to_first = o.to_first; to_second = o.to_second }

  pub meets_of : (Used : ℕ → Type 0) (x k l : ℕ) (ours theirs : List PathSet) → AreSets t (constraints_along t k) ours → AreSets t (constraints_along t l) theirs → Overlapping t Used x k l → Meets t Used x ours theirs
  meets_of Used x k l ours theirs are others o = record {
    ours_agree = agrees_to x (constraints_along t k) (constraints_along t l) ours theirs are others o.common;
    theirs_agree = agrees_to x (constraints_along t l) (constraints_along t k) theirs ours others are (swapped x (constraints_along t k) (constraints_along t l) o.common);
    read = o.used;
  }

  -- two types part at one place
  shared_of : (x k l : ℕ) → ArePartedAt t x k l → shared (map id_of (chain t k)) (map id_of (chain t l)) ≡ length (chain t x)
  shared_of x k l p =
      let front : List TypeId = map id_of (chain t x) in
      let to_k : map id_of (chain t k) ≡ front ++ id_of p.one ∷ map id_of (p.to_first).0 = ap (map id_of) (p.to_first).1 ∙ map-append id_of (chain t x) (p.one ∷ (p.to_first).0) in
      let to_l : map id_of (chain t l) ≡ front ++ id_of p.other ∷ map id_of (p.to_second).0 = ap (map id_of) (p.to_second).1 ∙ map-append id_of (chain t x) (p.other ∷ (p.to_second).0) in
      ap (λ r. shared r (map id_of (chain t l))) to_k ∙ ap (shared (front ++ id_of p.one ∷ map id_of (p.to_first).0)) to_l
      ∙ shared_is front (id_of p.one) (id_of p.other) (map id_of (p.to_first).0) (map id_of (p.to_second).0) p.differ ∙ length-map (chain t x) id_of

  pub one_place : KeepsRules t → (x y k l : ℕ) → ArePartedAt t x k l → ArePartedAt t y k l → x ≡ y
  one_place keeps x y k l p q =
      let same : length (chain t x) ≡ length (chain t y) = sym (shared_of x k l p) ∙ shared_of y k l q in
      same_chain t (table_of t keeps) x y
      (sym (take_at (chain t x) (p.one ∷ (p.to_first).0) (length (chain t x)) refl) ∙ ap (take (length (chain t x))) (sym (p.to_first).1 ∙ (q.to_first).1) ∙ take_at (chain t y) (q.one ∷ (q.to_first).0) (length (chain t x)) (sym same))

  pub no_overlap : (Used : ℕ → Type 0) (id k l : ℕ) (ours theirs : List PathSet) → KeepsRules t → ArePartedAt t id k l → AreSets t (constraints_along t k) ours → AreSets t (constraints_along t l) theirs → (Meets t Used id ours theirs → ⊥)
      → (x : ℕ) → Overlapping t Used x k l → ⊥
  no_overlap Used id k l ours theirs keeps p are others f x o = f (subst (λ y. Meets t Used y ours theirs) (one_place keeps x id k l (parted_of Used x k l o) p) (meets_of Used x k l ours theirs are others o))

pub get_slice : {A : Type 0} (xs : List A) (i : ℕ) (x : A) → x ≡ get_or xs i x → i < length xs → slice_get xs i ≡ Some x
get_slice [] i x e l = absurd (omega arith)
get_slice (y ∷ xs) zero x e l = ap Some (sym e)
get_slice (y ∷ xs) (suc i) x e l = get_slice xs i x e (omega arith)

-- ---- options

pub if_some : {A : Type 0} (P Q : A → Type 0) (o : Option A) → ((x : A) → P x → Q x) → IfSome o P → IfSome o Q
if_some P Q None f h = tt
if_some P Q (Some x) f h = f x h

pub if_none : {A : Type 0} (P Q : Type 0) (o : Option A) → (P → Q) → IfNone o P → IfNone o Q
if_none P Q None f h = f h
if_none P Q (Some x) f h = tt

pub sets_at : (t : Table) (sets : List (List PathSet)) (k : ℕ) (some own : List PathSet) → AllSets t sets → own ≡ get_or sets k own → k < length t → some ≡ own → AreSets t (constraints_along t k) some
sets_at t sets k some own all at l e = subst (AreSets t (constraints_along t k)) (sym e) (all.each k own (get_slice sets k own at (omega (arith, all.size))))

-- ---- the first pair

module _ (t : Table) (Used : ℕ → Type 0) where
  turned : (x k l : ℕ) → Overlapping t Used x k l → Overlapping t Used x l k
  turned x k l o = record {
    first = o.second;
    second = o.first;
    one = o.other;
    other = o.one;
    differ = λ e. o.differ (sym e);
    to_first = o.to_second;
    to_second = o.to_first;
    used = o.used;
    common = swapped t x (constraints_along t k) (constraints_along t l) o.common;
  }

  cancel : (xs : List ℕ) (a b : ℕ) (ys zs : List ℕ) → xs ++ a ∷ ys ≡ xs ++ b ∷ zs → a ≡ b
  cancel [] a b ys zs e = cc
  cancel (x ∷ xs) a b ys zs e = let q : xs ++ a ∷ ys ≡ xs ++ b ∷ zs = cc in cancel xs a b ys zs q

  not_itself : (x k : ℕ) → Overlapping t Used x k k → ⊥
  not_itself x k o = o.differ (cancel (chain t x) o.one o.other (o.to_first).0 (o.to_second).0 (sym (o.to_first).1 ∙ (o.to_second).1))

  pub there : (k : ℕ) → is_concrete t k ≡ true → k < length t
  there k c = elim (cases_lt k (length t)) [ inl l ↦ l | inr past ↦ absurd (no_row (ap (λ o. concrete_in (container_in o)) (slice_get_past t k past))) ]
    where
      no_row : concrete_in (container_in (slice_get t k)) ≡ false → ⊥
      no_row e = both_ways (is_concrete t k) e c

  pub none_more : (j : ℕ) → ((x i l : ℕ) → i < l → l < j → Overlapping t Used x i l → ⊥) → ((x i : ℕ) → i < j → Overlapping t Used x i j → ⊥) → (x i l : ℕ) → i < l → l < j + 1 → Overlapping t Used x i l → ⊥
  none_more j before now x i l order less o = elim (cases_lt l j) [ inl h ↦ before x i l order h o | inr h ↦ let e : l ≡ j = omega arith in now x i (omega arith) (subst (λ m. Overlapping t Used x i m) e o) ]

  pub none_further : (j k : ℕ) → ((x i : ℕ) → i < k → Overlapping t Used x i j → ⊥) → ((x : ℕ) → Overlapping t Used x k j → ⊥) → (x i : ℕ) → i < k + 1 → Overlapping t Used x i j → ⊥
  none_further j k before now x i less o = elim (cases_lt i k) [ inl h ↦ before x i h o | inr h ↦ let e : i ≡ k = omega arith in now x (subst (λ m. Overlapping t Used x m j) e o) ]

  pub none_at_all : ((x i l : ℕ) → i < l → l < length t → Overlapping t Used x i l → ⊥) → (x k l : ℕ) → Overlapping t Used x k l → ⊥
  none_at_all before x k l o = elim (cases_lt k l) [
    | inl h ↦ before x k l h (there l o.second) o
    | inr h ↦ elim (cases_lt l k) [ inl g ↦ before x l k g (there k o.first) (turned x k l o) | inr g ↦ let e : l ≡ k = omega arith in not_itself x k (subst (λ m. Overlapping t Used x k m) e o) ]
  ]

  pub first_is_first : (x k l : ℕ) → IsFirstWith t Used x k l → ((y i j : ℕ) → i < j → j < l → Overlapping t Used y i j → ⊥) → IsFirstPair t Used x k l
  first_is_first x k l w before = record { overlapping = w.overlapping; in_order = w.in_order; least = least }
    where
      least : (y i j : ℕ) → i < j → Overlapping t Used y i j → (l < j) ⊎ ((l ≡ j) × (k ≤ i))
      least y i j order o = elim (cases_lt l j) [
        | inl h ↦ inl h
        | inr h ↦ elim (cases_lt j l) [
          | inl g ↦ absurd (before y i j order g o)
          | inr g ↦ let e : j ≡ l = omega arith in
              elim (cases_lt i k) [ inl f ↦ absurd (w.least y i f (subst (λ m. Overlapping t Used y i m) e o)) | inr f ↦ inr (sym e, omega arith) ]
        ]
      ]

-- ---- the sets of all types

pub sets_more : (t : Table) (n : ℕ) (sets new : List (List PathSet)) (next : List PathSet) → length sets ≡ n → ((k : ℕ) (some : List PathSet) → slice_get sets k ≡ Some some → AreSets t (constraints_along t k) some)
    → AreSets t (constraints_along t n) next → new ≡ sets ++ next ∷ [] → (length new ≡ n + 1) × ((k : ℕ) (some : List PathSet) → slice_get new k ≡ Some some → AreSets t (constraints_along t k) some)
sets_more t n sets new next l each are e = (
  omega (arith, ap length e, length-append sets (next ∷ [])),
  λ k some h. elim (either sets k (ap (λ r. slice_get r k) (sym e) ∙ h)) [ inl g ↦ each k some g | inr g ↦ let q : k ≡ n = g.0 ∙ l in subst (λ m. AreSets t (constraints_along t m) some) (sym q) (subst (AreSets t (constraints_along t n)) g.1 are) ],
)
  where
    either : {some : List PathSet} (xs : List (List PathSet)) (k : ℕ) → slice_get (xs ++ next ∷ []) k ≡ Some some → (slice_get xs k ≡ Some some) ⊎ ((k ≡ length xs) × (next ≡ some))
    either [] zero h = inr (refl, cc)
    either [] (suc k) h = absurd cc
    either (x ∷ xs) zero h = inl h
    either (x ∷ xs) (suc k) h = elim (either xs k h) [ inl g ↦ inl g | inr g ↦ inr (ap suc g.0, g.1) ]
