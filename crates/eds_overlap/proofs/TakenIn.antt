-- Sets that take in one constraint after another, in the order of their paths.
use Rattle.std.proofs.Common.{◌≡◌, ℕ, ◌+◌, suc, zero, ◌<◌, ℤ, List, [], ◌∷◌, ◌++◌, length, map, get_or, take, refl, sym, ap, subst, ◌∙◌, arith, inl, inr, false, Bor}
use Rattle.std.specs.Prelude.{◌⊎◌}
use Rattle.std.specs.declared.cmp.Ordering.TheVariants.{Less}
use Rattle.std.specs.List.{AllByRecursion, All, Contains}
use Rattle.std.specs.List.Sorted.{IsPermutation}
use Rattle.std.specs.Ordering.{is_lt}
use Rattle.std.proofs.lemmas.List.{map-append, take_more}
use Rattle.std.proofs.lemmas.List.Sorted.{All-permutation, Contains-permutation, IsPermutation-sym}
use Rattle.eds_base.specs.declared.spans.Span.{Span}
use Rattle.eds_base.specs.Spans.{IsWithin}
use Rattle.eds_bits.specs.Lists.{HasOne}
use Rattle.eds_types.specs.declared.row.Constraint.{Constraint}
use Rattle.eds_types.specs.declared.sets.PathSet.{PathSet}
use Rattle.eds_types.specs.Fields.{constraints_along}
use Rattle.eds_types.specs.Overlap.{IsConstrained}
use Rattle.eds_types.specs.Rows.{Table, id_of, chain}
use Rattle.eds_types.specs.Rules.{AreDistinct}
use Rattle.eds_types.proofs.AllOf.{All-weaker, All-both, All-front, All-back, All-at, All-pair, one_of}
use Rattle.eds_overlap.proofs.PathOrder.{path_total, not_less_itself, before, rising_more, behind_at}
use Rattle.eds_overlap.proofs.Solutions.{IsFirstSet, one_later, among_chain}
use Rattle.eds_overlap.specs.Pairs.{Steps, IsSolved, AreSets, AreSetsInOrder, AreRising, AreByPath, IsBehind, TakesIn, constraints_among, path_cmp}

-- ---- a set, and one more constraint

none_admits : (path : Steps) (n : ℤ) (cs : List Constraint) → (IsConstrained cs path → ⊥) → AllByRecursion (λ (c : Constraint). c.path ≡ path → IsWithin c.set n) cs
none_admits path n [] none = tt
none_admits path n (c ∷ cs) none = (λ e. absurd (none (inl e)), none_admits path n cs (λ h. none (inr h)))

module _ (t : Table) (cs : List Constraint) (c : Constraint) where
  -- a set on another path stays solved
  solved_other : (s : PathSet) → (c.path ≡ s.path → ⊥) → IsSolved t cs s → IsSolved t (cs ++ c ∷ []) s
  solved_other s ne h = record {
    constrained = one_later (λ (d : Constraint). d.path ≡ s.path) cs (c ∷ []) h.constrained;
    solves = λ n w. let sol = h.solves n w in record { domain = sol.domain; constraints = All-both (λ (d : Constraint). d.path ≡ s.path → IsWithin d.set n) cs (c ∷ []) sol.constraints (λ e. absurd (ne e), tt) };
    all = λ n sol. h.all n (record { domain = sol.domain; constraints = All-front (λ (d : Constraint). d.path ≡ s.path → IsWithin d.set n) cs (c ∷ []) sol.constraints });
  }

  -- the one on its path is narrowed
  solved_own : (s : PathSet) (set : List Span) → s.path ≡ c.path → IsSolved t cs s → ((n : ℤ) → IsWithin set n → IsWithin s.set n × IsWithin c.set n) → ((n : ℤ) → IsWithin s.set n → IsWithin c.set n → IsWithin set n)
      → IsSolved t (cs ++ c ∷ []) (record { path = s.path; set = set })
  solved_own s set e h common all = record {
    constrained = one_later (λ (d : Constraint). d.path ≡ s.path) cs (c ∷ []) h.constrained;
    solves = λ n w. let sol = h.solves n (common n w).0 in record { domain = sol.domain; constraints = All-both (λ (d : Constraint). d.path ≡ s.path → IsWithin d.set n) cs (c ∷ []) sol.constraints (λ _. (common n w).1, tt) };
    all = λ n sol. all n (h.all n (record { domain = sol.domain; constraints = All-front (λ (d : Constraint). d.path ≡ s.path → IsWithin d.set n) cs (c ∷ []) sol.constraints })) ((All-back (λ (d : Constraint). d.path ≡ s.path → IsWithin d.set n) cs (c ∷ []) sol.constraints).0 (sym e));
  }

  -- the first one on its path
  solved_first : (set : List Span) → IsFirstSet t c set → (IsConstrained cs c.path → ⊥) → IsSolved t (cs ++ c ∷ []) (record { path = c.path; set = set })
  solved_first set f none = record {
    constrained = one_of (λ (d : Constraint). d.path ≡ c.path) cs c [] refl;
    solves = λ n w. record { domain = (f.0 n w).0; constraints = All-both (λ (d : Constraint). d.path ≡ c.path → IsWithin d.set n) cs (c ∷ []) (none_admits c.path n cs none) (λ _. (f.0 n w).1, tt) };
    all = λ n sol. f.1 n sol.domain ((All-back (λ (d : Constraint). d.path ≡ c.path → IsWithin d.set n) cs (c ∷ []) sol.constraints).0 refl);
  }

constrained_more : (cs : List Constraint) (c : Constraint) (path : Steps) → IsConstrained (cs ++ c ∷ []) path → IsConstrained cs path ⊎ (c.path ≡ path)
constrained_more [] c path (inl h) = inr h
constrained_more [] c path (inr h) = absurd h
constrained_more (d ∷ cs) c path (inl h) = inl (inl h)
constrained_more (d ∷ cs) c path (inr h) = elim (constrained_more cs c path h) [ inl k ↦ inl (inr k) | inr k ↦ inr k ]

-- ---- sets in order

distinct : (ps : List Steps) → AreRising ps → AreDistinct ps
distinct [] up = tt
distinct (p ∷ ps) up = (λ h. not_less_itself p (All-at (λ q. path_cmp p q ≡ Less) ps p h up.0), distinct ps up.1)

-- those ahead of a set come before it
ahead : (front : List PathSet) (s : PathSet) → AreRising (map (λ (r : PathSet). r.path) (front ++ s ∷ [])) → AllByRecursion (λ (r : PathSet). path_cmp r.path s.path ≡ Less) front
ahead [] s up = tt
ahead (r ∷ front) s up = (at front up.0, ahead front s up.1)
  where
    at : (some : List PathSet) → AllByRecursion (λ q. path_cmp r.path q ≡ Less) (map (λ (x : PathSet). x.path) (some ++ s ∷ [])) → path_cmp r.path s.path ≡ Less
    at [] a = a.0
    at (x ∷ some) a = at some a.1

module _ (last new : PathSet) (e : new.path ≡ last.path) where
  paths_replaced : (front : List PathSet) → map (λ (s : PathSet). s.path) (front ++ new ∷ []) ≡ map (λ (s : PathSet). s.path) (front ++ last ∷ [])
  paths_replaced [] = ap (λ p. p ∷ []) e
  paths_replaced (s ∷ front) = ap (λ ps. s.path ∷ ps) (paths_replaced front)

  one_replaced : (path : Steps) (front : List PathSet) → HasOne (λ (s : PathSet). s.path ≡ path) (front ++ last ∷ []) → HasOne (λ (s : PathSet). s.path ≡ path) (front ++ new ∷ [])
  one_replaced path [] (inl h) = inl (e ∙ h)
  one_replaced path [] (inr h) = absurd h
  one_replaced path (s ∷ front) (inl h) = inl h
  one_replaced path (s ∷ front) (inr h) = inr (one_replaced path front h)

-- ---- a constraint on the last path

pub narrowed : (t : Table) (c : Constraint) (front old new : List PathSet) (last : PathSet) (set : List Span) → old ≡ front ++ last ∷ [] → new ≡ front ++ record { path = last.path; set = set } ∷ [] → last.path ≡ c.path
    → ((n : ℤ) → IsWithin set n → IsWithin last.set n × IsWithin c.set n) → ((n : ℤ) → IsWithin last.set n → IsWithin c.set n → IsWithin set n) → TakesIn t c old new
narrowed t c front old new last set old_is new_is e common all cs behind before =
    let then = subst (AreSetsInOrder t cs) old_is before in
    let are = then.0 in
    let up = subst AreRising (sym (paths_replaced last (record { path = last.path; set = set }) refl front)) then.1 in
    let others =
    All-weaker (λ (s : PathSet). IsSolved t cs s × (path_cmp s.path last.path ≡ Less)) (IsSolved t (cs ++ c ∷ []))
    (λ s h. solved_other t cs c s (λ k. not_less_itself s.path (subst (λ p. path_cmp s.path p ≡ Less) (e ∙ k) h.1)) h.0) front
    (All-pair (IsSolved t cs) (λ (s : PathSet). path_cmp s.path last.path ≡ Less) front (All-front (IsSolved t cs) front (last ∷ []) are.each) (ahead front last then.1)) in
    subst (AreSetsInOrder t (cs ++ c ∷ [])) (sym new_is) (
      record {
        each = All-both (IsSolved t (cs ++ c ∷ [])) front (record { path = last.path; set = set } ∷ []) others (solved_own t cs c last set e (All-back (IsSolved t cs) front (last ∷ []) are.each).0 common all, tt);
        all = λ path h.
            elim (constrained_more cs c path h) [
              | inl k ↦ one_replaced last (record { path = last.path; set = set }) refl path front (are.all path k)
              | inr k ↦ one_of (λ (s : PathSet). s.path ≡ path) front (record { path = last.path; set = set }) [] (e ∙ k)
            ];
        once = distinct (map (λ (s : PathSet). s.path) (front ++ record { path = last.path; set = set } ∷ [])) up;
      },
      up,
    )

-- ---- a constraint on a further path

-- sets whose last one isn't on the path, and of which none is behind it, come before it
all_before : (c : Constraint) (sets : List PathSet) → AreRising (map (λ (s : PathSet). s.path) sets) → AllByRecursion (λ (s : PathSet). is_lt (path_cmp c.path s.path) ≡ false) sets
    → ((front : List PathSet) (last : PathSet) → sets ≡ front ++ last ∷ [] → last.path ≡ c.path → ⊥) → AllByRecursion (λ (s : PathSet). path_cmp s.path c.path ≡ Less) sets
all_before c [] up h other = tt
all_before c (s ∷ []) up h other = (before s.path c.path h.0 (other [] s refl), tt)
all_before c (s ∷ r ∷ sets) up h other =
    let rest = all_before c (r ∷ sets) up.1 h.1 (λ front last e. other (s ∷ front) last (ap (λ xs. s ∷ xs) e)) in
    (path_total.trans s.path r.path c.path (up.0).0 rest.0, rest)

behind_path : (cs : List Constraint) (c : Constraint) (path : Steps) → IsBehind cs c → IsConstrained cs path → is_lt (path_cmp c.path path) ≡ false
behind_path [] c path b h = absurd h
behind_path (d ∷ cs) c path b (inl h) = subst (λ p. is_lt (path_cmp c.path p) ≡ false) h b.0
behind_path (d ∷ cs) c path b (inr h) = behind_path cs c path b.1 h

none_before : (c : Constraint) (sets : List PathSet) → AllByRecursion (λ (s : PathSet). path_cmp s.path c.path ≡ Less) sets → HasOne (λ (s : PathSet). s.path ≡ c.path) sets → ⊥
none_before c [] a h = h
none_before c (s ∷ sets) a (inl h) = not_less_itself c.path (subst (λ p. path_cmp p c.path ≡ Less) h a.0)
none_before c (s ∷ sets) a (inr h) = none_before c sets a.1 h

all_paths : (P : Steps → Type 0) (sets : List PathSet) → AllByRecursion (λ (s : PathSet). P s.path) sets → AllByRecursion P (map (λ (s : PathSet). s.path) sets)
all_paths P [] h = tt
all_paths P (s ∷ sets) h = (h.0, all_paths P sets h.1)

pub added : (t : Table) (c : Constraint) (old new : List PathSet) (x : PathSet) → new ≡ old ++ x ∷ [] → x.path ≡ c.path → IsFirstSet t c x.set
    → ((front : List PathSet) (last : PathSet) → old ≡ front ++ last ∷ [] → last.path ≡ c.path → ⊥) → TakesIn t c old new
added t c old new x new_is e first other cs behind then =
    let are = then.0 in
    let less = all_before c old then.1 (All-weaker (IsSolved t cs) (λ (s : PathSet). is_lt (path_cmp c.path s.path) ≡ false) (λ s h. behind_path cs c s.path behind h.constrained) old are.each) other in
    let up : AreRising (map (λ (s : PathSet). s.path) (old ++ x ∷ [])) =
    subst AreRising (sym (map-append (λ (s : PathSet). s.path) old (x ∷ [])))
    (rising_more (map (λ (s : PathSet). s.path) old) x.path then.1 (subst (λ p. AllByRecursion (λ q. path_cmp q p ≡ Less) (map (λ (s : PathSet). s.path) old)) (sym e) (all_paths (λ q. path_cmp q c.path ≡ Less) old less))) in
    let others =
    All-weaker (λ (s : PathSet). IsSolved t cs s × (path_cmp s.path c.path ≡ Less)) (IsSolved t (cs ++ c ∷ []))
    (λ s h. solved_other t cs c s (λ k. not_less_itself s.path (subst (λ p. path_cmp s.path p ≡ Less) k h.1)) h.0) old
    (All-pair (IsSolved t cs) (λ (s : PathSet). path_cmp s.path c.path ≡ Less) old are.each less) in
    let own : IsSolved t (cs ++ c ∷ []) x = subst (λ p. IsSolved t (cs ++ c ∷ []) (record { path = p; set = x.set })) (sym e) (solved_first t cs c x.set first (λ h. none_before c old less (are.all c.path h))) in
    subst (AreSetsInOrder t (cs ++ c ∷ [])) (sym new_is) (
      record {
        each = All-both (IsSolved t (cs ++ c ∷ [])) old (x ∷ []) others (own, tt);
        all = λ path h.
            elim (constrained_more cs c path h) [
              | inl k ↦ one_later (λ (s : PathSet). s.path ≡ path) old (x ∷ []) (are.all path k)
              | inr k ↦ one_of (λ (s : PathSet). s.path ≡ path) old x [] (e ∙ k)
            ];
        once = distinct (map (λ (s : PathSet). s.path) (old ++ x ∷ [])) up;
      },
      up,
    )

-- ---- one after another

pub no_sets : (t : Table) → AreSetsInOrder t [] []
no_sets t = (record { each = tt; all = λ path h. h; once = tt }, tt)

pub next : (t : Table) (cs : List Constraint) (i : ℕ) (c : Constraint) (old new : List PathSet) → AreByPath cs → i < length cs → c ≡ get_or cs i c → TakesIn t c old new → AreSetsInOrder t (take i cs) old
    → AreSetsInOrder t (take (i + 1) cs) new
next t cs i c old new order l e takes are =
    subst (λ some. AreSetsInOrder t some new) (ap (λ d. take i cs ++ d ∷ []) e ∙ sym (take_more cs i c l)) (takes (take i cs) (behind_at cs i c order l e) are)

-- ---- constraints in another order

all_of : {A : Type 0} (P : A → Type 0) (xs : List A) → AllByRecursion P xs → All P xs
all_of P [] h k d l = absurd (omega arith)
all_of P (x ∷ xs) h zero d l = h.0
all_of P (x ∷ xs) h (suc k) d l = all_of P xs h.1 k d (omega arith)

of_all : {A : Type 0} (P : A → Type 0) (xs : List A) → All P xs → AllByRecursion P xs
of_all P [] h = tt
of_all P (x ∷ xs) h = (h 0 x (omega arith), of_all P xs (λ k d l. h (suc k) d (omega arith)))

pub all_permuted : {A : Type 0} (P : A → Type 0) (xs ys : List A) → IsPermutation xs ys → AllByRecursion P xs → AllByRecursion P ys
all_permuted P xs ys p h = of_all P ys (All-permutation P xs ys p (all_of P xs h))

one_in : {A : Type 0} (P : A → Type 0) (xs : List A) → HasOne P xs → (x : A) × Contains xs x × P x
one_in P [] h = absurd h
one_in P (x ∷ xs) (inl h) = (x, (0, omega arith, refl), h)
one_in P (x ∷ xs) (inr h) = let r = one_in P xs h in (r.0, (suc r.1.0, omega (arith, r.1.1), r.1.2), r.2)

in_one : {A : Type 0} (P : A → Type 0) (xs : List A) (x : A) → Contains xs x → P x → HasOne P xs
in_one {A = A} P xs x h p = at xs h.0 x h.1 (subst P (sym h.2) p)
  where
    at : (some : List A) (k : ℕ) (d : A) → k < length some → P (get_or some k d) → HasOne P some
    at [] k d l q = absurd (omega arith)
    at (y ∷ some) zero d l q = inl q
    at (y ∷ some) (suc k) d l q = inr (at some k d (omega arith) q)

one_permuted : {A : Type 0} (P : A → Type 0) (xs ys : List A) → IsPermutation xs ys → HasOne P xs → HasOne P ys
one_permuted P xs ys p h = let r = one_in P xs h in in_one P ys r.0 (Contains-permutation xs ys r.0 p r.1) r.2

-- sets of constraints are those of the same constraints in another order
pub sets_permuted : (t : Table) (xs ys : List Constraint) (sets : List PathSet) → IsPermutation xs ys → AreSets t ys sets → AreSets t xs sets
sets_permuted t xs ys sets p are = record {
  each =
      All-weaker (IsSolved t ys) (IsSolved t xs)
      (λ s h. record {
        constrained = one_permuted (λ (c : Constraint). c.path ≡ s.path) ys xs (IsPermutation-sym xs ys p) h.constrained;
        solves = λ n w. let sol = h.solves n w in record { domain = sol.domain; constraints = all_permuted (λ (c : Constraint). c.path ≡ s.path → IsWithin c.set n) ys xs (IsPermutation-sym xs ys p) sol.constraints };
        all = λ n sol. h.all n (record { domain = sol.domain; constraints = all_permuted (λ (c : Constraint). c.path ≡ s.path → IsWithin c.set n) xs ys p sol.constraints });
      }) sets are.each;
  all = λ path h. are.all path (one_permuted (λ (c : Constraint). c.path ≡ path) xs ys p h);
  once = are.once;
}

-- those of all constraints along a chain
pub sets_along : (t : Table) (id : ℕ) (ids : List _) (cs : List Constraint) (sets : List PathSet) → ids ≡ map id_of (chain t id) → IsPermutation (constraints_among t ids) cs → AreSets t cs sets → AreSets t (constraints_along t id) sets
sets_along t id ids cs sets is p are =
    subst (λ some. AreSets t some sets) (ap (constraints_among t) is ∙ among_chain t (chain t id)) (sets_permuted t (constraints_among t ids) cs sets p are)

-- ---- lists of references

pub each_behind : (P : Constraint → Type 0) (xs : List (Bor Constraint)) (i : ℕ) (x : Bor Constraint) → x ≡ get_or xs i x → i < length xs → AllByRecursion P (map (λ (c : Bor Constraint). c.now) xs) → P x.now
each_behind P [] i x e l h = absurd (omega arith)
each_behind P (y ∷ xs) zero x e l h = subst (λ (c : Bor Constraint). P c.now) (sym e) h.0
each_behind P (y ∷ xs) (suc i) x e l h = each_behind P xs i x e (omega arith) h.1

pub length_behind : (xs : List (Bor Constraint)) → length (map (λ (c : Bor Constraint). c.now) xs) ≡ length xs
length_behind [] = refl
length_behind (x ∷ xs) = ap suc (length_behind xs)

pub at_behind : (xs : List (Bor Constraint)) (i : ℕ) (x : Bor Constraint) → x ≡ get_or xs i x → i < length xs → x.now ≡ get_or (map (λ (c : Bor Constraint). c.now) xs) i x.now
at_behind [] i x e l = absurd (omega arith)
at_behind (y ∷ xs) zero x e l = ap (λ (c : Bor Constraint). c.now) e
at_behind (y ∷ xs) (suc i) x e l = at_behind xs i x e (omega arith)

-- lists with one end have one last item
pub one_end : {A : Type 0} (xs ys : List A) (x y : A) → xs ++ x ∷ [] ≡ ys ++ y ∷ [] → x ≡ y
one_end [] [] x y e = cc
one_end [] (b ∷ []) x y e = absurd cc
one_end [] (b ∷ c ∷ ys) x y e = absurd cc
one_end (a ∷ []) [] x y e = absurd cc
one_end (a ∷ c ∷ xs) [] x y e = absurd cc
one_end (a ∷ xs) (b ∷ ys) x y e = let rest : xs ++ x ∷ [] ≡ ys ++ y ∷ [] = cc in one_end xs ys x y rest
