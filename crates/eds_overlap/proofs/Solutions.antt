-- The numbers that the constraints of a chain leave on their paths.
use Rattle.std.proofs.Common.{◌≡◌, ℕ, suc, ◌≤◌, ℤ, pos, Bool, true, false, cond, List, [], ◌∷◌, ◌++◌, length, map, get_or, ◌-◌, Option, Some, None, refl, sym, ap, subst, ◌∙◌, append_assoc, arith, inl, inr}
use Rattle.std.specs.Prelude.{slice_get, IfSome, IsSome, ◌⊎◌, ◌==◌, ◌&&◌, IsTrue}
use Rattle.std.specs.List.{AllByRecursion, flat_map}
use Rattle.std.proofs.lemmas.Grind.{flat_map-append}
use Rattle.std.proofs.lemmas.Bool.{and_parts, eqb-true, eq-eqb, both_ways}
use Rattle.eds_base.specs.declared.ids.TypeId.{TypeId}
use Rattle.eds_base.specs.declared.spans.Span.{Span}
use Rattle.eds_base.specs.Spans.{IsWithin}
use Rattle.eds_bits.specs.Lists.{Has, HasOne}
use Rattle.eds_types.specs.declared.row.TypeRow.{TypeRow}
use Rattle.eds_types.specs.declared.row.Kind.{Kind}
use Rattle.eds_types.specs.declared.row.Kind.TheVariants as kind
use Rattle.eds_types.specs.declared.row.Constraint.{Constraint}
use Rattle.eds_types.specs.declared.sets.PathSet.{PathSet}
use Rattle.eds_types.specs.Rows.{Table, id_of, container_by, container_in, base_of, constraints_of, chain, is_concrete}
use Rattle.eds_types.specs.Fields.{type_by, type_on, part_at, IsAtOrUnder, constraints_along}
use Rattle.eds_types.specs.Domains.{int_domain, int_domain_in, int_domain_by as int_domain_of, InDomain, InDomainOf, InDomainOfRow, InDomainOfType}
use Rattle.eds_types.specs.Rules.{KeepsRules, ConstraintKeeps, TargetKeeps, ComparesWith, IsOneNumber}
use Rattle.eds_types.specs.Overlap.{IsSolution}
use Rattle.eds_types.proofs.AllOf.{All-weaker, All-both, All-at, All-has}
use Rattle.eds_types.proofs.ChainLaws.{itself_in, under_is}
use Rattle.eds_types.proofs.RuleFacts.{table_of}
use Rattle.eds_overlap.specs.Pairs.{Steps, IsDeclared, constraints_among, int_domain_by, int_domain_on, same_path, set_on}

-- ---- paths

same_step : (p q : TypeId × ℕ) → (p.0).0 ≡ (q.0).0 → p.1 ≡ q.1 → p ≡ q
same_step p q a b = rw (a, b) refl

pub same_is : (p q : Steps) → same_path p q ≡ true → p ≡ q
same_is [] [] e = refl
same_is [] (q ∷ qs) e = absurd cc
same_is (p ∷ ps) [] e = absurd cc
same_is (p ∷ ps) (q ∷ qs) e = go ((p.0).0 == (q.0).0 && p.1 == q.1) refl e (same_is ps qs)
  where
    go : (b : Bool) → ((p.0).0 == (q.0).0 && p.1 == q.1) ≡ b → cond b (same_path ps qs) false ≡ true → (same_path ps qs ≡ true → ps ≡ qs) → (p ∷ ps) ≡ (q ∷ qs)
    go true h e ih =
        let parts = and_parts ((p.0).0 == (q.0).0) (p.1 == q.1) h in
        let a : (p.0).0 ≡ (q.0).0 = eqb-true (p.0).0 (q.0).0 parts.0 in
        let b : p.1 ≡ q.1 = eqb-true p.1 q.1 parts.1 in
        let rest : ps ≡ qs = ih e in
        let first : p ≡ q = same_step p q a b in
        cc
    go false h e ih = absurd cc

pub same_self : (p : Steps) → same_path p p ≡ true
same_self [] = refl
same_self (p ∷ ps) = rw (eq-eqb (p.0).0 (p.0).0 refl, eq-eqb p.1 p.1 refl) (same_self ps)

pub same_not : (p q : Steps) → same_path p q ≡ false → p ≡ q → ⊥
same_not p q e h = both_ways (same_path p q) e (ap (λ r. same_path p r) (sym h) ∙ same_self p)

-- where none is found there is none
pub on_none : (sets : List PathSet) (path : Steps) → set_on sets path ≡ None → HasOne (λ (x : PathSet). x.path ≡ path) sets → ⊥
on_none [] path e h = h
on_none (x ∷ sets) path e h = go (same_path x.path path) refl e h (on_none sets path)
  where
    go : (b : Bool) → same_path x.path path ≡ b → cond b (Some x.set) (set_on sets path) ≡ None → (x.path ≡ path) ⊎ HasOne (λ (y : PathSet). y.path ≡ path) sets → (set_on sets path ≡ None → HasOne (λ (y : PathSet). y.path ≡ path) sets → ⊥) → ⊥
    go true h e k ih = cc
    go false h e (inl k) ih = same_not x.path path h k
    go false h e (inr k) ih = ih e k

-- ---- the type on a path

pub type_on_end : (t : Table) (path : Steps) (d : TypeId × ℕ) → 1 ≤ length path → type_on t path ≡ type_by (part_at t (get_or path (length path - 1) d))
type_on_end t [] d l = absurd (omega arith)
type_on_end t (q ∷ []) d l = refl
type_on_end t (q ∷ r ∷ path) d l =
    let n : length (q ∷ r ∷ path) - 1 ≡ suc (length (r ∷ path) - 1) = omega arith in
    rw n (type_on_end t (r ∷ path) d (omega arith))

-- ---- a set more

pub one_later : {A : Type 0} (P : A → Type 0) (xs ys : List A) → HasOne P xs → HasOne P (xs ++ ys)
one_later P (x ∷ xs) ys (inl h) = inl h
one_later P (x ∷ xs) ys (inr h) = inr (one_later P xs ys h)
one_later P [] ys h = absurd h

-- ---- all sets of a chain

pub among_chain : (t : Table) (ids : List ℕ) → constraints_among t (map id_of ids) ≡ flat_map (constraints_of t) ids
among_chain t [] = refl
among_chain t (x ∷ ids) = ap (λ r. constraints_of t x ++ r) (among_chain t ids)

-- all constraints of some types are the table's
pub all_declared : (t : Table) (ids : List TypeId) → AllByRecursion (IsDeclared t) (constraints_among t ids)
all_declared t [] = tt
all_declared t (id ∷ ids) =
    All-both (IsDeclared t) (constraints_of t id.0) (constraints_among t ids)
    (All-weaker (Has (constraints_of t id.0)) (IsDeclared t) (λ c h. (id.0, h)) (constraints_of t id.0) (All-has [] (constraints_of t id.0))) (all_declared t ids)

-- ---- what a constraint leaves

has_flat_in : (f : ℕ → List Constraint) (ys : List ℕ) (y : ℕ) (c : Constraint) → Has ys y → Has (f y) c → Has (flat_map f ys) c
has_flat_in f ys y c h k = record {
  before = flat_map f h.before ++ k.before;
  after = k.after ++ flat_map f h.after;
  is =
      ap (flat_map f) h.is ∙ flat_map-append f h.before (y ∷ h.after) ∙ ap (λ r. flat_map f h.before ++ (r ++ flat_map f h.after)) k.is
      ∙ ap (λ r. flat_map f h.before ++ r) (append_assoc k.before (c ∷ k.after) (flat_map f h.after)) ∙ sym (append_assoc (flat_map f h.before) k.before (c ∷ (k.after ++ flat_map f h.after)));
}

module _ (t : Table) (keeps : KeepsRules t) where
  under_trans : (x y k : ℕ) → IsAtOrUnder t x y → IsAtOrUnder t y k → IsAtOrUnder t x k
  under_trans x y k h g =
      let p = under_is t (table_of t keeps) y k g.before g.after g.is in
      record { before = h.before; after = h.after ++ g.after; is = p.1 ∙ ap (λ r. r ++ g.after) h.is ∙ append_assoc h.before (x ∷ h.after) g.after }

  -- the target of a constraint that is no integer has all numbers of its set
  of_target : (target : ℕ) (row : TypeRow) (on_kind : Bool) (set : List Span) (cs : List Constraint) (path : Steps) (c : Constraint) → slice_get t target ≡ Some row → type_on t path ≡ Some target
      → TargetKeeps t target on_kind set → int_domain t target ≡ None → set ≡ c.set → c.path ≡ path → Has cs c → (m : ℤ) → IsSolution t cs path m → (n : ℤ) → IsWithin set n → InDomainOf t target row.kind n
  of_target target row true set cs path c e on h none same here has m sol n w =
      let ids = (h.1).ids n w in
      by_kind row.kind (subst (λ o. IsSome (container_in o)) e h.0) (ids.0, ids.1, ids.2, under_trans target (h.1).kept ids.0 (h.1).under ids.3)
    where
      by_kind : (k : Kind) → IsSome (container_by k) → (j : ℕ) × (n ≡ pos j) × IsTrue (is_concrete t j) × IsAtOrUnder t target j → InDomainOf t target k n
      by_kind (kind.Int form spans) s d = absurd cc
      by_kind (kind.Enum form listing) s d = absurd cc
      by_kind (kind.Bool form) s d = absurd cc
      by_kind (kind.Str form) s d = absurd cc
      by_kind (kind.Bin size free) s d = absurd cc
      by_kind (kind.Arr item size) s d = absurd cc
      by_kind (kind.Con con) s d = d
  of_target target row false set cs path c e on h none same here has m sol n w =
      let in_set : IsWithin set m = subst (λ s. IsWithin s m) (sym same) (All-at (λ (d : Constraint). d.path ≡ path → IsWithin d.set m) cs c has sol.constraints here) in
      let row_is : h.0 ≡ row = some_same (h.0) row (sym h.1 ∙ e) in
      by_kind row.kind (ap (λ o. int_domain_in o) (sym e) ∙ none) (subst (λ r. ComparesWith r.kind set) row_is h.2) (subst (λ o. InDomainOfRow t target o m) e (subst (λ o. InDomainOfType t o m) on sol.domain)) in_set
    where
      some_same : (a b : TypeRow) → Some a ≡ Some b → a ≡ b
      some_same a b q = cc

      one : IsOneNumber set → IsWithin set m → m ≡ n
      one o i = o.only m i ∙ sym (o.only n w)

      by_kind : (k : Kind) → int_domain_of k ≡ None → ComparesWith k set → InDomainOf t target k m → IsWithin set m → InDomainOf t target k n
      by_kind (kind.Int form spans) d cw im i = absurd cc
      by_kind (kind.Enum form listing) d cw im i = subst (InDomainOf t target (kind.Enum form listing)) (one cw i) im
      by_kind (kind.Bool form) d cw im i = subst (InDomainOf t target (kind.Bool form)) (one cw i) im
      by_kind (kind.Str form) d cw im i = absurd cw
      by_kind (kind.Bin size free) d cw im i = absurd cw
      by_kind (kind.Arr item size) d cw im i = absurd cw
      by_kind (kind.Con con) d cw im i = absurd cw

-- ---- the first set

-- the set has what the path's domain and the constraint's set have in common
abbrev pub IsFirstSet : Table → Constraint → List Span → Type 0
IsFirstSet t c set = ((n : ℤ) → IsWithin set n → InDomain t c.path n × IsWithin c.set n) × ((n : ℤ) → InDomain t c.path n → IsWithin c.set n → IsWithin set n)

-- what the code says of it
pub record IsCut (t : Table) (c : Constraint) (set : List Span) : Type 0 where
  pub from : (n : ℤ) → IsWithin set n → IsWithin c.set n
  pub within : (n : ℤ) → IsWithin set n → IfSome (int_domain_on t c.path) (λ domain. IsWithin domain n)
  pub all : (n : ℤ) → IsWithin c.set n → IfSome (int_domain_on t c.path) (λ domain. IsWithin domain n) → IsWithin set n

of_int : (t : Table) (target : ℕ) (spans : List Span) (n : ℤ) (k : Kind) → int_domain_of k ≡ Some spans → (InDomainOf t target k n → IsWithin spans n) × (IsWithin spans n → InDomainOf t target k n)
of_int t target spans n (kind.Int form own) d = let q : own ≡ spans = cc in (λ w. subst (λ s. IsWithin s n) q w, λ w. subst (λ s. IsWithin s n) (sym q) w)
of_int t target spans n (kind.Enum form listing) d = absurd cc
of_int t target spans n (kind.Bool form) d = absurd cc
of_int t target spans n (kind.Str form) d = absurd cc
of_int t target spans n (kind.Bin size free) d = absurd cc
of_int t target spans n (kind.Arr item size) d = absurd cc
of_int t target spans n (kind.Con con) d = absurd cc

in_row : (t : Table) (target : ℕ) (row : TypeRow) (path : Steps) → slice_get t target ≡ Some row → type_on t path ≡ Some target → (n : ℤ) → InDomainOf t target row.kind n → InDomain t path n
in_row t target row path e on n d = subst (λ o. InDomainOfType t o n) (sym on) (subst (λ o. InDomainOfRow t target o n) (sym e) d)

row_in : (t : Table) (target : ℕ) (row : TypeRow) (path : Steps) → slice_get t target ≡ Some row → type_on t path ≡ Some target → (n : ℤ) → InDomain t path n → InDomainOf t target row.kind n
row_in t target row path e on n d = subst (λ o. InDomainOfRow t target o n) e (subst (λ o. InDomainOfType t o n) on d)

no_item : (c : Constraint) (b a : List Constraint) → [] ≡ b ++ c ∷ a → ⊥
no_item c [] a q = cc
no_item c (x ∷ b) a q = cc

by_domain : (t : Table) (keeps : KeepsRules t) (k target : ℕ) (row : TypeRow) (c : Constraint) (set : List Span) → Has (constraints_of t k) c → slice_get t target ≡ Some row → type_on t c.path ≡ Some target
    → TargetKeeps t target c.on_kind c.set → (m : ℤ) → IsSolution t (constraints_along t k) c.path m → IsCut t c set → (o : Option (List Span)) → int_domain t target ≡ o → IsFirstSet t c set
by_domain t keeps k target row c set has e on speaks m sol cut None d =
    let domain_is : int_domain_on t c.path ≡ None = ap (int_domain_by t) on ∙ d in
    let among = has_flat_in (constraints_of t) (chain t k) k c (itself_in t (table_of t keeps) k) has in (
      λ n w. (in_row t target row c.path e on n (of_target t keeps target row c.on_kind c.set (constraints_along t k) c.path c e on speaks d refl refl among m sol n (cut.from n w)), cut.from n w),
      λ n i w. cut.all n w (subst (λ o. IfSome o (λ domain. IsWithin domain n)) (sym domain_is) tt),
    )
by_domain t keeps k target row c set has e on speaks m sol cut (Some spans) d =
    let domain_is : int_domain_on t c.path ≡ Some spans = ap (int_domain_by t) on ∙ d in
    let of_kind : int_domain_of row.kind ≡ Some spans = ap int_domain_in (sym e) ∙ d in (
      λ n w. (in_row t target row c.path e on n ((of_int t target spans n row.kind of_kind).1 (subst (λ o. IfSome o (λ domain. IsWithin domain n)) domain_is (cut.within n w))), cut.from n w),
      λ n i w. cut.all n w (subst (λ o. IfSome o (λ domain. IsWithin domain n)) (sym domain_is) ((of_int t target spans n row.kind of_kind).0 (row_in t target row c.path e on n i))),
    )

no_row : (t : Table) (target : ℕ) (on_kind : Bool) (set : List Span) → slice_get t target ≡ None → TargetKeeps t target on_kind set → ⊥
no_row t target true set e h = let s = subst (λ o. IsSome (container_in o)) e h.0 in absurd cc
no_row t target false set e h = let q = sym e ∙ h.1 in absurd cc

by_row : (t : Table) (keeps : KeepsRules t) (k base target : ℕ) (c : Constraint) (set : List Span) → Has (constraints_of t k) c → type_on t c.path ≡ Some target → TargetKeeps t target c.on_kind c.set
    → (m : ℤ) → IsSolution t (constraints_along t k) c.path m → IsCut t c set → (o : Option TypeRow) → slice_get t target ≡ o → IsFirstSet t c set
by_row t keeps k base target c set has on speaks m sol cut None e = absurd (no_row t target c.on_kind c.set e speaks)
by_row t keeps k base target c set has on speaks m sol cut (Some row) e = by_domain t keeps k target row c set has e on speaks m sol cut (int_domain t target) refl

by_base : (t : Table) (keeps : KeepsRules t) (k : ℕ) (c : Constraint) (set : List Span) → Has (constraints_of t k) c → IsCut t c set → (o : Option ℕ) → base_of t k ≡ o → IsFirstSet t c set
by_base t keeps k c set has cut None e = absurd (no_item c has.before has.after (sym (keeps.root_constraints k e) ∙ has.is))
by_base t keeps k c set has cut (Some base) e =
    let rule = All-at (ConstraintKeeps t base k) (constraints_of t k) c has (keeps.constraints k base e) in
    by_row t keeps k base rule.target c set has rule.leads rule.speaks (rule.can_hold).0 (rule.can_hold).1 cut (slice_get t rule.target) refl

pub first_is : (t : Table) (c : Constraint) (set : List Span) → KeepsRules t → IsDeclared t c → IsCut t c set → IsFirstSet t c set
first_is t c set keeps h cut = by_base t keeps h.0 c set h.1 cut (base_of t h.0) refl
