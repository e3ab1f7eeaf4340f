-- A map that mirrors a list.
use Rattle.std.proofs.Common.{◌≡◌, ◌<◌, ◌≤◌, ◌+◌, ℕ, zero, suc, List, [], ◌∷◌, ◌++◌, Bool, true, false, cond, Option, Some, None, refl, sym, ap, subst, ◌∙◌, arith, length}
use Rattle.std.specs.Prelude.{slice_set, slice_get, unwrap_or, nat_eq, nat_lt, IsSome}
use Rattle.std.specs.Ordering.{nat_cmp, ordering_then, is_gt, is_eq}
use Rattle.std.specs.declared.cmp.Ordering.TheVariants.{Less, Equal, Greater}
use Rattle.std.specs.Map.{lookup}
use Rattle.std.specs.BTreeMap.{BTreeMap, get, is_at, UpdatesBy, IsLowerBound}
use Rattle.std.proofs.lemmas.Bool.Decides.{nat_tests}
use Rattle.eds_host.specs.declared.due.Due.{Due}
use Rattle.eds_host.specs.declared.due.When.{When}
use Rattle.eds_host.specs.Systems.{due_at, first_of}
use Rattle.eds_host.specs.Mirrors.{when_cmp, machine_at, machine_of, Mirrors, first_in}

same_key : (k q : When) → is_at (when_cmp k) q ≡ true → (k.moment ≡ q.moment)
same_key k q e = go (nat_lt k.moment q.moment) (nat_eq k.moment q.moment) refl refl e
  where
    go : (a b : Bool) → nat_lt k.moment q.moment ≡ a → nat_eq k.moment q.moment ≡ b → is_eq (ordering_then (cond a Less (cond b Equal Greater)) (nat_cmp k.comp q.comp)) ≡ true → k.moment ≡ q.moment
    go true b p r e = absurd cc
    go false true p r e = grind (arith, nat_tests)
    go false false p r e = absurd cc

same_comp : (k q : When) → is_at (when_cmp k) q ≡ true → k.comp ≡ q.comp
same_comp k q e = go (nat_lt k.moment q.moment) (nat_eq k.moment q.moment) (nat_lt k.comp q.comp) (nat_eq k.comp q.comp) refl refl e
  where
    go : (a b c d : Bool) → nat_lt k.comp q.comp ≡ c → nat_eq k.comp q.comp ≡ d → is_eq (ordering_then (cond a Less (cond b Equal Greater)) (cond c Less (cond d Equal Greater))) ≡ true → k.comp ≡ q.comp
    go true b c d p r e = absurd cc
    go false false c d p r e = absurd cc
    go false true true d p r e = absurd cc
    go false true false true p r e = grind (arith, nat_tests)
    go false true false false p r e = absurd cc

-- at its own place the list has what was set, and elsewhere what it had
at_same : (ds : List (Option (ℕ × ℕ))) (c : ℕ) (d : Option (ℕ × ℕ)) → c < length ds → unwrap_or (slice_get (slice_set ds c d) c) None ≡ d
at_same [] c d lt = absurd (omega arith)
at_same (x ∷ xs) zero d lt = refl
at_same (x ∷ xs) (suc c) d lt = at_same xs c d (omega arith)

at_other : (ds : List (Option (ℕ × ℕ))) (c j : ℕ) (d : Option (ℕ × ℕ)) → (j ≡ c → ⊥) → slice_get (slice_set ds c d) j ≡ slice_get ds j
at_other [] c j d ne = refl
at_other (x ∷ xs) zero zero d ne = absurd (ne refl)
at_other (x ∷ xs) zero (suc j) d ne = refl
at_other (x ∷ xs) (suc c) zero d ne = refl
at_other (x ∷ xs) (suc c) (suc j) d ne = at_other xs c j d (λ e. ne (ap suc e))

pub mirrors_set : (m n : BTreeMap When ℕ) (ds : List (Option (ℕ × ℕ))) (c : ℕ) (d : Option (ℕ × ℕ)) → c < length ds → ((q : When) → (q.comp ≡ c → ⊥) → get when_cmp n q ≡ get when_cmp m q) → ((q : When) → q.comp ≡ c → get when_cmp n q ≡ machine_at q.moment d) → Mirrors m ds → Mirrors n (slice_set ds c d)
mirrors_set m n ds c d lt others own h q = go (nat_eq q.comp c) refl
  where
    go : (b : Bool) → nat_eq q.comp c ≡ b → get when_cmp n q ≡ machine_of (slice_set ds c d) q
    go true e = let same : q.comp ≡ c = grind (arith, nat_tests) in own q same ∙ ap (machine_at q.moment) (sym (ap (λ j. unwrap_or (slice_get (slice_set ds c d) j) None) same ∙ at_same ds c d lt))
    go false e = let ne : q.comp ≡ c → ⊥ = λ p. grind (arith, nat_tests) in others q ne ∙ h q ∙ ap (λ o. machine_at q.moment (unwrap_or o None)) (sym (at_other ds c q.comp d ne))

hit : (k q : When) → k.moment ≡ q.moment → k.comp ≡ q.comp → is_at (when_cmp k) q ≡ true
hit k q e f = go (nat_lt k.moment q.moment) (nat_eq k.moment q.moment) (nat_lt k.comp q.comp) (nat_eq k.comp q.comp) refl refl refl refl
  where
    go : (a b c d : Bool) → nat_lt k.moment q.moment ≡ a → nat_eq k.moment q.moment ≡ b → nat_lt k.comp q.comp ≡ c → nat_eq k.comp q.comp ≡ d → is_eq (ordering_then (cond a Less (cond b Equal Greater)) (cond c Less (cond d Equal Greater))) ≡ true
    go true b c d p r s u = absurd (grind (arith, nat_tests))
    go false false c d p r s u = absurd (grind (arith, nat_tests))
    go false true true d p r s u = absurd (grind (arith, nat_tests))
    go false true false false p r s u = absurd (grind (arith, nat_tests))
    go false true false true p r s u = refl

apart : (k q : When) → (q.comp ≡ k.comp → ⊥) → is_at (when_cmp k) q ≡ false
apart k q ne = go (is_at (when_cmp k) q) refl
  where
    go : (b : Bool) → is_at (when_cmp k) q ≡ b → b ≡ false
    go true e = absurd (ne (sym (same_comp k q e)))
    go false e = refl

module _ (m n : BTreeMap When ℕ) (ds : List (Option (ℕ × ℕ))) (t c : ℕ) where
  abbrev k : When
  k = record { moment = t; comp = c }

  there : (o : Option (ℕ × ℕ)) → slice_get ds c ≡ Some o → (q : When) → q.comp ≡ c → machine_of ds q ≡ machine_at q.moment o
  there o e q f = ap (λ j. machine_at q.moment (unwrap_or (slice_get ds j) None)) f ∙ ap (λ x. machine_at q.moment (unwrap_or x None)) e

  pub taken : (x : ℕ) → c < length ds → slice_get ds c ≡ Some (Some (t, x)) → UpdatesBy when_cmp (when_cmp k) m n None → Mirrors m ds → Mirrors n (slice_set ds c None)
  taken x lt e u h = mirrors_set m n ds c None lt (λ q ne. u.2 q (apart k q ne)) own h
    where
      own : (q : When) → q.comp ≡ c → get when_cmp n q ≡ None
      own q f = u.0 q ∙ go (is_at (when_cmp k) q) (nat_eq t q.moment) refl refl (h q ∙ there (Some (t, x)) e q f)
        where
          go : (b d : Bool) → is_at (when_cmp k) q ≡ b → nat_eq t q.moment ≡ d → get when_cmp m q ≡ cond d (Some x) None → cond b None (get when_cmp m q) ≡ None
          go true d p r s = refl
          go false false p r s = s
          go false true p r s = let moments : t ≡ q.moment = grind (arith, nat_tests) in absurd (let z = hit k q moments (sym f) in cc)

  pub put : (x : ℕ) → c < length ds → slice_get ds c ≡ Some None → UpdatesBy when_cmp (when_cmp k) m n (Some x) → Mirrors m ds → Mirrors n (slice_set ds c (Some (t, x)))
  put x lt e u h = mirrors_set m n ds c (Some (t, x)) lt (λ q ne. u.2 q (apart k q ne)) own h
    where
      own : (q : When) → q.comp ≡ c → get when_cmp n q ≡ machine_at q.moment (Some (t, x))
      own q f = u.0 q ∙ go (is_at (when_cmp k) q) (nat_eq t q.moment) refl refl (h q ∙ there None e q f)
        where
          go : (b d : Bool) → is_at (when_cmp k) q ≡ b → nat_eq t q.moment ≡ d → get when_cmp m q ≡ None → cond b (Some x) (get when_cmp m q) ≡ cond d (Some x) None
          go true true p r s = refl
          go true false p r s = let moments : t ≡ q.moment = same_key k q p in absurd (grind (arith, nat_tests))
          go false false p r s = s
          go false true p r s = let moments : t ≡ q.moment = grind (arith, nat_tests) in absurd (let z = hit k q moments (sym f) in cc)

pub get_length : (ds : List (Option (ℕ × ℕ))) (c : ℕ) (o : Option (ℕ × ℕ)) → slice_get ds c ≡ Some o → c < length ds
get_length [] c o e = absurd cc
get_length (x ∷ xs) zero o e = omega arith
get_length (x ∷ xs) (suc c) o e = let h = get_length xs c o e in omega arith

pub set_twice : (ds : List (Option (ℕ × ℕ))) (c : ℕ) (o p : Option (ℕ × ℕ)) → slice_set (slice_set ds c o) c p ≡ slice_set ds c p
set_twice [] c o p = refl
set_twice (x ∷ xs) zero o p = refl
set_twice (x ∷ xs) (suc c) o p = ap (λ ys. x ∷ ys) (set_twice xs c o p)

pub set_same : (ds : List (Option (ℕ × ℕ))) (c : ℕ) (o : Option (ℕ × ℕ)) → slice_get ds c ≡ Some o → slice_set ds c o ≡ ds
set_same [] c o e = refl
set_same (x ∷ xs) zero o e = let same : x ≡ o = cc in ap (λ y. y ∷ xs) (sym same)
set_same (x ∷ xs) (suc c) o e = ap (λ ys. x ∷ ys) (set_same xs c o e)

abbrev due : ℕ → ℕ → ℕ → Due
due t c m = record { moment = t; comp = c; machine = m }

-- the least of all is the first
late : (t c : ℕ) (ds : List (Option (ℕ × ℕ))) → ((j s x : ℕ) → slice_get ds j ≡ Some (Some (s, x)) → t ≤ s) → (b : Due) → first_in c ds ≡ Some b → t ≤ b.moment
late t c [] h b e = absurd cc
late t c (None ∷ ds) h b e = late t (c + 1) ds (λ j s x. h (suc j) s x) b e
late t c (Some d ∷ ds) h b e = go (first_in (c + 1) ds) e (late t (c + 1) ds (λ j s x. h (suc j) s x))
  where
    here : Some (due d.0 c d.1) ≡ Some b → t ≤ b.moment
    here e = let q : d.0 ≡ b.moment = cc in subst (λ s. t ≤ s) q (h 0 d.0 d.1 refl)

    pick : (z : Bool) (a : Due) → cond z (Some a) (Some (due d.0 c d.1)) ≡ Some b → (Some a ≡ Some b → t ≤ b.moment) → t ≤ b.moment
    pick true a e ih = ih e
    pick false a e ih = here e

    go : (r : Option Due) → first_of (Some (due d.0 c d.1)) r ≡ Some b → ((b : Due) → r ≡ Some b → t ≤ b.moment) → t ≤ b.moment
    go None e ih = here e
    go (Some a) e ih = pick (nat_lt a.moment d.0) a e (ih b)

first_here : (t c m : ℕ) (r : Option Due) → ((b : Due) → r ≡ Some b → t ≤ b.moment) → Some (due t c m) ≡ first_of (Some (due t c m)) r
first_here t c m None h = refl
first_here t c m (Some b) h = pick (nat_lt b.moment t) refl
  where
    pick : (z : Bool) → nat_lt b.moment t ≡ z → Some (due t c m) ≡ cond z (Some b) (Some (due t c m))
    pick false p = refl
    pick true p = absurd (let le = h b refl in grind (arith, nat_tests))

first_later : (a b : Due) → b.moment < a.moment → Some b ≡ first_of (Some a) (Some b)
first_later a b lt = pick (nat_lt b.moment a.moment) refl
  where
    pick : (z : Bool) → nat_lt b.moment a.moment ≡ z → Some b ≡ cond z (Some b) (Some a)
    pick true p = refl
    pick false p = absurd (grind (arith, nat_tests))

least_first : (c i t m : ℕ) (ds : List (Option (ℕ × ℕ))) → slice_get ds i ≡ Some (Some (t, m)) → ((j s x : ℕ) → slice_get ds j ≡ Some (Some (s, x)) → (t ≤ s) × (j < i → t < s)) → Some (due t (c + i) m) ≡ first_in c ds
least_first c i t m [] e h = absurd cc
least_first c zero t m (x ∷ ds) e h =
    let is : x ≡ Some (t, m) = cc in
    let same : c + 0 ≡ c = omega arith in
    ap (λ k. Some (due t k m)) same ∙ first_here t c m (first_in (c + 1) ds) (late t (c + 1) ds (λ j s y p. (h (suc j) s y p).0)) ∙ ap (λ o. first_of (due_at c o) (first_in (c + 1) ds)) (sym is)
least_first c (suc i) t m (None ∷ ds) e h =
    let same : c + suc i ≡ (c + 1) + i = omega arith in
    ap (λ k. Some (due t k m)) same ∙ least_first (c + 1) i t m ds e (λ j s y p. let r = h (suc j) s y p in (r.0, λ lt. r.1 (omega arith)))
least_first c (suc i) t m (Some d ∷ ds) e h =
    let same : c + suc i ≡ (c + 1) + i = omega arith in
    let rest = least_first (c + 1) i t m ds e (λ j s y p. let r = h (suc j) s y p in (r.0, λ lt. r.1 (omega arith))) in
    let less : t < d.0 = (h 0 d.0 d.1 refl).1 (omega arith) in
    ap (λ k. Some (due t k m)) same ∙ first_later (due d.0 c d.1) (due t ((c + 1) + i) m) less ∙ ap (λ r. first_of (Some (due d.0 c d.1)) r) rest

none_first : (c : ℕ) (ds : List (Option (ℕ × ℕ))) → ((j s x : ℕ) → slice_get ds j ≡ Some (Some (s, x)) → ⊥) → None ≡ first_in c ds
none_first c [] h = refl
none_first c (None ∷ ds) h = none_first (c + 1) ds (λ j s x. h (suc j) s x)
none_first c (Some d ∷ ds) h = absurd (h 0 d.0 d.1 refl)

entry_from : (ds : List (Option (ℕ × ℕ))) (q : When) (v : ℕ) → machine_of ds q ≡ Some v → slice_get ds q.comp ≡ Some (Some (q.moment, v))
entry_from ds q v e = go (slice_get ds q.comp) e
  where
    timed : (d : ℕ × ℕ) (b : Bool) → nat_eq d.0 q.moment ≡ b → cond b (Some d.1) None ≡ Some v → Some (Some d) ≡ Some (Some (q.moment, v))
    timed d true p e = let same : d.0 ≡ q.moment = grind (arith, nat_tests) in let is : d.1 ≡ v = cc in ap (λ a. Some (Some (a, d.1))) same ∙ ap (λ a. Some (Some (q.moment, a))) is
    timed d false p e = absurd cc

    go : (o : Option (Option (ℕ × ℕ))) → machine_at q.moment (unwrap_or o None) ≡ Some v → o ≡ Some (Some (q.moment, v))
    go None e = absurd cc
    go (Some None) e = absurd cc
    go (Some (Some d)) e = timed d (nat_eq d.0 q.moment) refl e

entry_has : (m : BTreeMap When ℕ) (ds : List (Option (ℕ × ℕ))) (j s x : ℕ) → Mirrors m ds → slice_get ds j ≡ Some (Some (s, x)) → get when_cmp m (record { moment = s; comp = j }) ≡ Some x
entry_has m ds j s x h e = h (record { moment = s; comp = j }) ∙ ap (λ o. machine_at s (unwrap_or o None)) e ∙ go (nat_eq s s) refl
  where
    go : (b : Bool) → nat_eq s s ≡ b → cond b (Some x) None ≡ Some x
    go true p = refl
    go false p = absurd (grind (arith, nat_tests))

not_after : (k q : When) → is_gt (when_cmp k q) ≡ false → (k.moment ≤ q.moment) × (q.comp < k.comp → k.moment < q.moment)
not_after k q e = go (nat_lt k.moment q.moment) (nat_eq k.moment q.moment) (nat_lt k.comp q.comp) (nat_eq k.comp q.comp) refl refl refl refl e
  where
    go : (a b c d : Bool) → nat_lt k.moment q.moment ≡ a → nat_eq k.moment q.moment ≡ b → nat_lt k.comp q.comp ≡ c → nat_eq k.comp q.comp ≡ d → is_gt (ordering_then (cond a Less (cond b Equal Greater)) (cond c Less (cond d Equal Greater))) ≡ false → (k.moment ≤ q.moment) × (q.comp < k.comp → k.moment < q.moment)
    go true b c d p r s u e = (grind (arith, nat_tests), λ lt. grind (arith, nat_tests))
    go false false c d p r s u e = absurd cc
    go false true true d p r s u e = (grind (arith, nat_tests), λ lt. absurd (grind (arith, nat_tests)))
    go false true false true p r s u e = (grind (arith, nat_tests), λ lt. absurd (grind (arith, nat_tests)))
    go false true false false p r s u e = absurd cc

some_of : {A : Type 0} (o : Option A) (x : A) → o ≡ Some x → IsSome o
some_of {A} o x e = subst (λ (p : Option A). IsSome p) (sym e) refl

pub first_is : (m : BTreeMap When ℕ) (ds : List (Option (ℕ × ℕ))) (k : When) (v : ℕ) → Mirrors m ds → get when_cmp m k ≡ Some v → IsLowerBound when_cmp m k → Some (due k.moment k.comp v) ≡ first_in 0 ds
first_is m ds k v h e low =
    let same : k.comp ≡ 0 + k.comp = omega arith in
    ap (λ c. Some (due k.moment c v)) same
    ∙ least_first 0 k.comp k.moment v ds (entry_from ds k v (sym (h k) ∙ e)) (λ j s x p. not_after k (record { moment = s; comp = j }) (low (record { moment = s; comp = j }) (some_of _ x (entry_has m ds j s x h p))))

pub none_is : (m : BTreeMap When ℕ) (ds : List (Option (ℕ × ℕ))) → Mirrors m ds → ((q : When) → get when_cmp m q ≡ None) → None ≡ first_in 0 ds
none_is m ds h e = none_first 0 ds (λ j s x p. let z = entry_has m ds j s x h p in let y = e (record { moment = s; comp = j }) in cc)

pub empty : (m : BTreeMap When ℕ) → (0 < length m.entries → ⊥) → (q : When) → get when_cmp m q ≡ None
empty m h q = go m.entries h
  where
    go : (es : List (When × ℕ)) → (0 < length es → ⊥) → lookup (is_at (when_cmp q)) es ≡ None
    go [] h = refl
    go (e ∷ es) h = absurd (h (omega arith))

same_at : (ds : List (Option (ℕ × ℕ))) (j : ℕ) → unwrap_or (slice_get (ds ++ None ∷ []) j) None ≡ unwrap_or (slice_get ds j) None
same_at [] zero = refl
same_at [] (suc j) = refl
same_at (d ∷ ds) zero = refl
same_at (d ∷ ds) (suc j) = same_at ds j

pub mirrors_none : (m : BTreeMap When ℕ) (ds : List (Option (ℕ × ℕ))) → Mirrors m ds → Mirrors m (ds ++ None ∷ [])
mirrors_none m ds h q = h q ∙ ap (machine_at q.moment) (sym (same_at ds q.comp))
