-- What is read later changes nothing at earlier places.
use Rattle.std.proofs.Common.{◌≡◌, ℕ, ◌+◌, ◌<◌, ◌≤◌, ℤ, Bool, true, false, cond, List, [], ◌∷◌, ◌++◌, length, Option, Some, None, refl, sym, ap, subst, ◌∙◌, arith, append_assoc}
use Rattle.std.specs.Prelude.{◌&&◌, ◌==◌}
use Rattle.std.specs.List.{AllByRecursion, flat_map}
use Rattle.std.proofs.lemmas.Bool.{and_parts, eqb-true, false_from_ne_true}
use Rattle.std.proofs.lemmas.List.{length-append}
use Rattle.eds_base.specs.declared.ids.TypeId.{TypeId}
use Rattle.eds_types.specs.declared.row.Part.{Part}
use Rattle.eds_types.specs.declared.row.Constraint.{Constraint as Condition}
use Rattle.eds_bits.specs.Lists.{Has}
use Rattle.eds_types.proofs.ChainLaws.{under_is}
use Rattle.eds_types.specs.Fields.{Field, value_at, fields_in, value_on, number_by, row_at, type_on, number_on, Holds, StartsInEntries}
use Rattle.eds_types.specs.Plain.{Plain}
use Rattle.eds_types.specs.Rows.{Table, chain, entries_of, trailers_of, Placed, placed_from, placed_entries, placed_trailers}
use Rattle.eds_types.proofs.Tables.{IsTable}
use Rattle.eds_types.proofs.AllOf.{All-weaker, All-both}

-- the field is of another part
unfoldable pub IsOther : ℕ → ℕ → Field → Type 0
IsOther y i f = (f.container ≡ y) × (f.place ≡ i) → ⊥

at_by : Field → List Field → ℕ → ℕ → Bool → Option Plain
at_by f fs y i b = cond b (Some f.value) (value_at fs y i)

pub value_past : (fs : List Field) (y i : ℕ) → AllByRecursion (IsOther y i) fs → value_at fs y i ≡ None
unfolding IsOther at_by
value_past [] y i h = refl
value_past (f ∷ fs) y i h =
    let off : (f.container == y && f.place == i) ≡ false = false_from_ne_true (f.container == y && f.place == i) (λ e. let p = and_parts (f.container == y) (f.place == i) e in h.0 (eqb-true f.container y p.0, eqb-true f.place i p.1)) in
    ap (at_by f fs y i) off ∙ value_past fs y i h.1

pub value_before : (fs gs : List Field) (y i : ℕ) → AllByRecursion (IsOther y i) gs → value_at (fs ++ gs) y i ≡ value_at fs y i
unfolding at_by
value_before [] gs y i h = value_past gs y i h
value_before (f ∷ fs) gs y i h = go (f.container == y && f.place == i) (value_before fs gs y i h)
  where
    go : (b : Bool) → value_at (fs ++ gs) y i ≡ value_at fs y i → at_by f (fs ++ gs) y i b ≡ at_by f fs y i b
    go true e = refl
    go false e = e

pub value_stays : (fs gs : List Field) (y i : ℕ) (v : Plain) → value_at fs y i ≡ Some v → value_at (fs ++ gs) y i ≡ Some v
unfolding at_by
value_stays [] gs y i v e = absurd cc
value_stays (f ∷ fs) gs y i v e = go (f.container == y && f.place == i) e (value_stays fs gs y i v)
  where
    go : (b : Bool) → at_by f fs y i b ≡ Some v → (value_at fs y i ≡ Some v → value_at (fs ++ gs) y i ≡ Some v) → at_by f (fs ++ gs) y i b ≡ Some v
    go true e ih = e
    go false e ih = ih e

module _ (t : Table) where
  pub on_nothing : (path : List (TypeId × ℕ)) → value_on t [] path ≡ None
  on_nothing [] = refl
  on_nothing (p ∷ []) = refl
  on_nothing (p ∷ q ∷ path) = on_nothing (q ∷ path)

  -- the same value at the first place gives the same number
  pub same_number : (fs gs : List Field) (p : TypeId × ℕ) (path : List (TypeId × ℕ)) → value_at fs (p.0).0 p.1 ≡ value_at gs (p.0).0 p.1 → number_on t fs (p ∷ path) ≡ number_on t gs (p ∷ path)
  same_number fs gs p [] e = ap (number_by (row_at t (type_on t (p ∷ [])))) e
  same_number fs gs p (q ∷ path) e = ap (λ o. number_by (row_at t (type_on t (p ∷ q ∷ path))) (value_on t (fields_in t o) (q ∷ path))) e

  pub no_value : (fs : List Field) (p : TypeId × ℕ) (path : List (TypeId × ℕ)) → value_at fs (p.0).0 p.1 ≡ None → number_on t fs (p ∷ path) ≡ None
  no_value fs p [] e = ap (number_by (row_at t (type_on t (p ∷ [])))) e
  no_value fs p (q ∷ path) e = ap (λ o. number_by (row_at t (type_on t (p ∷ q ∷ path))) (value_on t (fields_in t o) (q ∷ path))) e ∙ ap (number_by (row_at t (type_on t (q ∷ path)))) (on_nothing (q ∷ path))

  pub number_stays : (fs gs : List Field) (path : List (TypeId × ℕ)) (n : ℤ) → number_on t fs path ≡ Some n → number_on t (fs ++ gs) path ≡ Some n
  number_stays fs gs [] n e = absurd cc
  number_stays fs gs (p ∷ path) n e = go (value_at fs (p.0).0 p.1) refl
    where
      go : (o : Option Plain) → value_at fs (p.0).0 p.1 ≡ o → number_on t (fs ++ gs) (p ∷ path) ≡ Some n
      go None h = let q : None ≡ Some n = sym (no_value fs p path h) ∙ e in absurd cc
      go (Some v) h = same_number (fs ++ gs) fs p path (value_stays fs gs (p.0).0 p.1 v h ∙ sym h) ∙ e

  -- a constraint that holds goes on to hold
  pub Holds-more : (fs gs : List Field) (c : Condition) → Holds t fs c → Holds t (fs ++ gs) c
  Holds-more fs gs c h = record { number = h.number; is = number_stays fs gs c.path h.number h.is; within = h.within }

  -- not in an entry of x or of one of its bases
  abbrev pub NotAbove : ℕ → ℕ → ℕ → Type 0
  NotAbove x y i = Has (chain t x) y → i < length (entries_of t y) → ⊥

  abbrev pub FieldNotAbove : ℕ → Field → Type 0
  FieldNotAbove x f = NotAbove x f.container f.place

  abbrev pub PartNotAbove : ℕ → Placed → Type 0
  PartNotAbove x p = NotAbove x p.container p.place

  others : (x y i : ℕ) → Has (chain t x) y → i < length (entries_of t y) → (gs : List Field) → AllByRecursion (FieldNotAbove x) gs → AllByRecursion (IsOther y i) gs
  unfolding IsOther
  others x y i h k gs a = All-weaker (FieldNotAbove x) (IsOther y i) (λ f n e. n (subst (Has (chain t x)) (sym e.0) h) (rw (e.0, e.1) k)) gs a

  -- a constraint on an entry above held before
  pub Holds-before : (x : ℕ) (fs gs : List Field) (c : Condition) → AllByRecursion (FieldNotAbove x) gs → StartsInEntries t x c.path → Holds t (fs ++ gs) c → Holds t fs c
  Holds-before x fs gs c a s h = record { number = h.number; is = go c.path s ∙ h.is; within = h.within }
    where
      go : (path : List (TypeId × ℕ)) → StartsInEntries t x path → number_on t fs path ≡ number_on t (fs ++ gs) path
      go [] s = absurd s
      go (p ∷ path) s = same_number fs (fs ++ gs) p path (sym (value_before fs gs (p.0).0 p.1 (others x (p.0).0 p.1 s.0 s.1 gs a)))

  module _ (is : IsTable t) where
    -- a container further down a chain isn't in the chain above
    not_in_chain : (k x : ℕ) (before : List ℕ) (w : ℕ) (after : List ℕ) → chain t k ≡ chain t x ++ (before ++ w ∷ after) → Has (chain t x) w → ⊥
    not_in_chain k x before w after e h =
        let up = under_is t is w x h.before h.after h.is in
        let here = under_is t is w k (chain t x ++ before) after (e ∙ sym (append_assoc (chain t x) before (w ∷ after))) in
        let a = ap length up.1 ∙ length-append (chain t w) h.after in
        let b = ap length here.0 ∙ length-append (chain t x ++ before) (w ∷ []) in
        let c = length-append (chain t x) before in
        omega arith

    entries_not_above : (x w : ℕ) → (Has (chain t x) w → ⊥) → (i : ℕ) (ps : List Part) → AllByRecursion (PartNotAbove x) (placed_from w i ps)
    entries_not_above x w h i [] = tt
    entries_not_above x w h i (p ∷ ps) = ((λ k l. h k), entries_not_above x w h (i + 1) ps)

    trailers_not_above : (x w i : ℕ) → length (entries_of t w) ≤ i → (ps : List Part) → AllByRecursion (PartNotAbove x) (placed_from w i ps)
    trailers_not_above x w i h [] = tt
    trailers_not_above x w i h (p ∷ ps) = ((λ k l. omega arith), trailers_not_above x w (i + 1) (omega arith) ps)

    pub later_entries : (k x : ℕ) (before ws : List ℕ) → chain t k ≡ chain t x ++ (before ++ ws) → AllByRecursion (PartNotAbove x) (flat_map (placed_entries t) ws)
    later_entries k x before [] e = tt
    later_entries k x before (w ∷ ws) e =
        All-both (PartNotAbove x) (placed_entries t w) (flat_map (placed_entries t) ws)
        (entries_not_above x w (not_in_chain k x before w ws e) 0 (entries_of t w))
        (later_entries k x (before ++ w ∷ []) ws (e ∙ ap (λ z. chain t x ++ z) (sym (append_assoc before (w ∷ []) ws))))

    pub later_trailers : (x : ℕ) (ws : List ℕ) → AllByRecursion (PartNotAbove x) (flat_map (placed_trailers t) ws)
    later_trailers x [] = tt
    later_trailers x (w ∷ ws) = All-both (PartNotAbove x) (placed_trailers t w) (flat_map (placed_trailers t) ws) (trailers_not_above x w (length (entries_of t w)) (omega arith) (trailers_of t w)) (later_trailers x ws)
