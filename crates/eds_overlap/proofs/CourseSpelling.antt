-- A run to the end of a course is a spelling, and a run to a fault is a fault.
use Rattle.eds_base.specs.declared.fault.Fault.{Fault}
use Rattle.std.proofs.Common.{◌≡◌, ℕ, List, [], ◌∷◌, ◌++◌, length, map, drop, reverse, refl, sym, ap, subst, ◌∙◌, append_assoc, append-nil, ◌⊎◌, inl, inr}
use Rattle.std.specs.Prelude.{IsTrue, ◌≢◌}
use Rattle.std.specs.List.{AllByRecursion, flat_map}
use Rattle.std.proofs.lemmas.Grind.{flat_map-append}
use Rattle.std.proofs.Math.Seq.{drop-append_seam}
use Rattle.eds_types.specs.declared.row.Constraint.{Constraint as Condition}
use Rattle.eds_bits.specs.Bits.{Bits}
use Rattle.eds_bits.specs.Style.{any}
use Rattle.eds_overlap.proofs.Course.{tail, same_tail}
use Rattle.eds_types.proofs.ChainLaws.{same_chain, under_is, child_is, longer}
use Rattle.eds_types.proofs.FieldKeys.{Holds-more, Holds-before, NotAbove, FieldNotAbove, PartNotAbove, later_trailers}
use Rattle.eds_types.proofs.Grown.{grown}
use Rattle.eds_types.specs.Failing.{Station, condition, entry, choice, end, chosen_stations, own_stations, course, GoesOn, NoneUnder, Passes}
use Rattle.eds_types.specs.Fields.{Field, values_of, Holds, IsAtOrUnder, IsCandidate, StartsInEntries, constraints_along}
use Rattle.eds_types.specs.Plain.{Plain}
use Rattle.eds_types.specs.Rows.{Table, chain, is_concrete, constraints_of, Placed, placed_entries, placed_trailers, sequence}
use Rattle.eds_types.specs.Spelling.{Progress, started, PartsPass, SizeFits, ContainerSpells}
use Rattle.eds_types.proofs.Tables.{IsTable}
use Rattle.eds_types.proofs.AllOf.{All-weaker, All-both, All-front, All-back, All-apply}

module _ (t : Table) (SpellsInner : ℕ → Plain → Bits → Type 0) where
  anywhere : (ps : List Placed) → AllByRecursion (λ (p : Placed). Unit {0}) ps
  anywhere [] = tt
  anywhere (p ∷ ps) = (tt, anywhere ps)

  parts : List Station → List Placed
  parts [] = []
  parts (condition y c ∷ ss) = parts ss
  parts (entry p ∷ ss) = p ∷ parts ss
  parts (choice y ∷ ss) = parts ss
  parts (end ∷ ss) = parts ss

  parts-append : (xs ys : List Station) → parts (xs ++ ys) ≡ parts xs ++ parts ys
  unfolding parts
  parts-append [] ys = refl
  parts-append (condition y c ∷ ss) ys = parts-append ss ys
  parts-append (entry p ∷ ss) ys = ap (λ z. p ∷ z) (parts-append ss ys)
  parts-append (choice y ∷ ss) ys = parts-append ss ys
  parts-append (end ∷ ss) ys = parts-append ss ys

  parts-entries : (ps : List Placed) → parts (map entry ps) ≡ ps
  unfolding parts
  parts-entries [] = refl
  parts-entries (p ∷ ps) = ap (λ z. p ∷ z) (parts-entries ps)

  parts-conditions : (y : ℕ) (cs : List Condition) → parts (map (condition y) cs) ≡ []
  unfolding parts
  parts-conditions y [] = refl
  parts-conditions y (c ∷ cs) = parts-conditions y cs

  parts-own : (ys : List ℕ) → parts (flat_map (own_stations t) ys) ≡ flat_map (placed_entries t) ys
  unfolding parts
  parts-own [] = refl
  parts-own (y ∷ ys) =
      parts-append (own_stations t y) (flat_map (own_stations t) ys) ∙ ap (λ z. z ++ parts (flat_map (own_stations t) ys)) (parts-append (map (condition y) (constraints_of t y)) (map entry (placed_entries t y)) ∙ ap (λ z. z ++ parts (map entry (placed_entries t y))) (parts-conditions y (constraints_of t y)) ∙ parts-entries (placed_entries t y))
      ∙ ap (λ z. placed_entries t y ++ z) (parts-own ys)

  parts-later : (zs : List ℕ) → parts (chosen_stations t zs) ≡ flat_map (placed_entries t) zs
  unfolding parts
  parts-later [] = refl
  parts-later (z ∷ zs) =
      parts-append (map entry (placed_entries t z) ++ choice z ∷ []) (chosen_stations t zs)
      ∙ ap (λ w. w ++ parts (chosen_stations t zs)) (parts-append (map entry (placed_entries t z)) (choice z ∷ []) ∙ ap (λ w. w ++ []) (parts-entries (placed_entries t z)) ∙ append-nil (placed_entries t z))
      ∙ ap (λ w. placed_entries t z ++ w) (parts-later zs)

  parts-rest : (FailsInner : ℕ → Bits → Fault → Type 0) (x y : ℕ) (zs : List ℕ) → parts (choice y ∷ (chosen_stations t zs ++ tail t SpellsInner FailsInner x)) ≡ flat_map (placed_entries t) zs ++ flat_map (placed_trailers t) (reverse (chain t x))
  unfolding parts
  parts-rest FailsInner x y zs =
      parts-append (chosen_stations t zs) (tail t SpellsInner FailsInner x) ∙ ap (λ w. w ++ parts (tail t SpellsInner FailsInner x)) (parts-later zs)
      ∙ ap (λ w. flat_map (placed_entries t) zs ++ w) (parts-append (map entry (flat_map (placed_trailers t) (reverse (chain t x)))) (end ∷ []) ∙ append-nil (parts (map entry (flat_map (placed_trailers t) (reverse (chain t x))))) ∙ parts-entries (flat_map (placed_trailers t) (reverse (chain t x))))

  -- what is passed holds the parts
  gather : (x : ℕ) (ss : List Station) (s u : Progress) (b : Bits) → Passes t SpellsInner x s ss u b → PartsPass any t SpellsInner s (parts ss) u b
  unfolding parts
  gather x [] s u b h = h
  gather x (condition y c ∷ ss) s u b h = skip h.3 (h.4).0 (h.4).1 (gather x ss h.0 u h.2 h.5)
    where
      skip : b ≡ h.1 ++ h.2 → h.0 ≡ s → h.1 ≡ [] → PartsPass any t SpellsInner h.0 (parts ss) u h.2 → PartsPass any t SpellsInner s (parts ss) u b
      skip e es ec k = subst (λ z. PartsPass any t SpellsInner s (parts ss) u z) (sym (e ∙ ap (λ z. z ++ h.2) ec)) (subst (λ z. PartsPass any t SpellsInner z (parts ss) u h.2) es k)
  gather x (entry p ∷ ss) s u b h = (h.0, h.1, h.2, h.3, (h.4).0, gather x ss h.0 u h.2 h.5)
  gather x (choice y ∷ ss) s u b h = skip h.3 (h.4).0 (h.4).1 (gather x ss h.0 u h.2 h.5)
    where
      skip : b ≡ h.1 ++ h.2 → h.0 ≡ s → h.1 ≡ [] → PartsPass any t SpellsInner h.0 (parts ss) u h.2 → PartsPass any t SpellsInner s (parts ss) u b
      skip e es ec k = subst (λ z. PartsPass any t SpellsInner s (parts ss) u z) (sym (e ∙ ap (λ z. z ++ h.2) ec)) (subst (λ z. PartsPass any t SpellsInner z (parts ss) u h.2) es k)
  gather x (end ∷ ss) s u b h = skip h.3 (h.4).0 (h.4).1 (gather x ss h.0 u h.2 h.5)
    where
      skip : b ≡ h.1 ++ h.2 → h.0 ≡ s → h.1 ≡ [] → PartsPass any t SpellsInner h.0 (parts ss) u h.2 → PartsPass any t SpellsInner s (parts ss) u b
      skip e es ec k = subst (λ z. PartsPass any t SpellsInner s (parts ss) u z) (sym (e ∙ ap (λ z. z ++ h.2) ec)) (subst (λ z. PartsPass any t SpellsInner z (parts ss) u h.2) es k)

  -- ---- from what is passed to the spelling

  holds_on : (x : ℕ) (ss : List Station) (s u : Progress) (b : Bits) (c : Condition) → Passes t SpellsInner x s ss u b → Holds t s.fields c → Holds t u.fields c
  holds_on x ss s u b c h k =
      let g = grown any t SpellsInner (λ y i. Unit {0}) (parts ss) s u b (anywhere (parts ss)) (gather x ss s u b h) in
      subst (λ fs. Holds t fs c) (sym g.1) (Holds-more t s.fields g.0 c k)

  conditions_hold : (x y : ℕ) (more : List Station) (cs : List Condition) (s u : Progress) (b : Bits) → Passes t SpellsInner x s (map (condition y) cs ++ more) u b → AllByRecursion (Holds t u.fields) cs × Passes t SpellsInner x s more u b
  conditions_hold x y more [] s u b h = (tt, h)
  conditions_hold x y more (c ∷ cs) s u b h =
      let rest = conditions_hold x y more cs h.0 u h.2 h.5 in
      let now = holds_on x (map (condition y) cs ++ more) h.0 u h.2 c h.5 (subst (λ (z : Progress). Holds t z.fields c) (sym (h.4).0) (h.4).2) in
      ((now, rest.0), subst (λ z. Passes t SpellsInner x s more u z) (sym (h.3 ∙ ap (λ z. z ++ h.2) (h.4).1)) (subst (λ z. Passes t SpellsInner x z more u h.2) (h.4).0 rest.1))

  past_entries : (x : ℕ) (more : List Station) (ps : List Placed) (s u : Progress) (b : Bits) → Passes t SpellsInner x s (map entry ps ++ more) u b → (m : Progress) × (d : Bits) × Passes t SpellsInner x m more u d
  past_entries x more [] s u b h = (s, b, h)
  past_entries x more (p ∷ ps) s u b h = past_entries x more ps h.0 u h.2 h.5

  chain_holds : (x : ℕ) (more : List Station) (ys : List ℕ) (s u : Progress) (b : Bits) → Passes t SpellsInner x s (flat_map (own_stations t) ys ++ more) u b → AllByRecursion (Holds t u.fields) (flat_map (constraints_of t) ys) × ((m : Progress) × (d : Bits) × Passes t SpellsInner x m more u d)
  chain_holds x more [] s u b h = (tt, (s, b, h))
  chain_holds x more (y ∷ ys) s u b h =
      let rest = flat_map (own_stations t) ys ++ more in
      let h' = subst (λ l. Passes t SpellsInner x s l u b) (append_assoc (own_stations t y) (flat_map (own_stations t) ys) more ∙ append_assoc (map (condition y) (constraints_of t y)) (map entry (placed_entries t y)) rest) h in
      let one = conditions_hold x y (map entry (placed_entries t y) ++ rest) (constraints_of t y) s u b h' in
      let two = past_entries x rest (placed_entries t y) s u b one.1 in
      let three = chain_holds x more ys two.0 u two.1 two.2 in
      (All-both (Holds t u.fields) (constraints_of t y) (flat_map (constraints_of t) ys) one.0 three.0, three.1)

  module _ (is : IsTable t) (FailsInner : ℕ → Bits → Fault → Type 0) where
    -- the constraints of a type hold where it has a candidate below
    child_holds : (x z l : ℕ) (more : List ℕ) (fs : List Field) → chain t l ≡ chain t x ++ z ∷ more → IsCandidate t x l fs → AllByRecursion (Holds t fs) (constraints_of t z)
    child_holds x z l more fs e h =
        let base = (child_is t is x z l more e).1 in
        let P : Condition → Type 0 = λ c. StartsInEntries t x c.path → Holds t fs c in
        let all : AllByRecursion P (flat_map (constraints_of t) (chain t x) ++ (constraints_of t z ++ flat_map (constraints_of t) more)) = subst (AllByRecursion P) (ap (flat_map (constraints_of t)) e ∙ flat_map-append (constraints_of t) (chain t x) (z ∷ more)) h.holds in
        let back = All-back P (flat_map (constraints_of t) (chain t x)) (constraints_of t z ++ flat_map (constraints_of t) more) all in
        All-apply (λ (c : Condition). StartsInEntries t x c.path) (Holds t fs) (constraints_of t z) (All-front P (constraints_of t z) (flat_map (constraints_of t) more) back) (is.conditions z x base)

    -- a candidate in the end was one at the choice
    candidate_before : (x l : ℕ) (fs gs : List Field) → AllByRecursion (FieldNotAbove t x) gs → IsCandidate t x l (fs ++ gs) → IsCandidate t x l fs
    candidate_before x l fs gs a h = record { concrete = h.concrete; under = h.under; holds = All-weaker (λ (c : Condition). StartsInEntries t x c.path → Holds t (fs ++ gs) c) (λ (c : Condition). StartsInEntries t x c.path → Holds t fs c) (λ c k s. Holds-before t x fs gs c a s (k s)) (constraints_along t l) h.holds }

    pub record Rest (x : ℕ) (zs : List ℕ) (u : Progress) : Type 0 where
      pub constraints : AllByRecursion (Holds t u.fields) (flat_map (constraints_of t) zs)
      pub concrete : IsTrue (is_concrete t x)
      pub none : (l : ℕ) → l ≢ x → IsAtOrUnder t x l → IsCandidate t x l u.fields → ⊥
      pub fits : SizeFits u

    end_fits : (x : ℕ) (ps : List Placed) (s u : Progress) (b : Bits) → Passes t SpellsInner x s (map entry ps ++ end ∷ []) u b → SizeFits u
    end_fits x [] s u b h = subst (SizeFits) (sym ((h.5).0 ∙ (h.4).0)) (h.4).2
    end_fits x (p ∷ ps) s u b h = end_fits x ps h.0 u h.2 h.5

    rest_is : (x y : ℕ) (zs : List ℕ) (s u : Progress) (b : Bits) → chain t x ≡ chain t y ++ zs → Passes t SpellsInner x s (choice y ∷ (chosen_stations t zs ++ tail t SpellsInner FailsInner x)) u b → Rest x zs u
    unfolding parts
    rest_is x y [] s u b e h = go ((h.4).2)
      where
        fields_end : (gs : List Field) × (u.fields ≡ (h.0).fields ++ gs) × AllByRecursion (FieldNotAbove t x) gs
        fields_end = grown any t SpellsInner (NotAbove t x) (parts (tail t SpellsInner FailsInner x)) h.0 u h.2 (subst (AllByRecursion (PartNotAbove t x)) (sym (parts-rest FailsInner x x [])) (later_trailers t is x (reverse (chain t x)))) (gather x (tail t SpellsInner FailsInner x) h.0 u h.2 h.5)

        go : (GoesOn t y x s ⊎ ((y ≡ x) × IsTrue (is_concrete t x) × NoneUnder t x s)) → Rest x [] u
        go (inl g) = absurd (longer t is y x g.child g.towards.0 g.towards.1 (same_chain t is x y (e ∙ append-nil (chain t y))))
        go (inr g) = record {
          constraints = tt;
          concrete = g.1;
          none = λ l ne un k. g.2 l ne un (subst (λ (z : Progress). IsCandidate t x l z.fields) (h.4).0 (candidate_before x l (h.0).fields fields_end.0 fields_end.2 (subst (IsCandidate t x l) fields_end.1 k)));
          fits = end_fits x (flat_map (placed_trailers t) (reverse (chain t x))) h.0 u h.2 h.5;
        }
    rest_is x y (z ∷ zs) s u b e h = go ((h.4).2) (λ m d p. rest_is x z zs m u d chain_x p)
      where
        chain_z : chain t z ≡ chain t y ++ z ∷ []
        chain_z = (child_is t is y z x zs e).0

        chain_x : chain t x ≡ chain t z ++ zs
        chain_x = e ∙ sym (append_assoc (chain t y) (z ∷ []) zs) ∙ ap (λ c. c ++ zs) (sym chain_z)

        go : (GoesOn t y x s ⊎ ((y ≡ x) × IsTrue (is_concrete t x) × NoneUnder t x s)) → ((m : Progress) (d : Bits) → Passes t SpellsInner x m (choice z ∷ (chosen_stations t zs ++ tail t SpellsInner FailsInner x)) u d → Rest x zs u) → Rest x (z ∷ zs) u
        go (inr g) ih = absurd (longer t is y x z zs e (sym g.0))
        go (inl g) ih =
            let tails : g.child ∷ g.towards.0 ≡ z ∷ zs = same_tail (chain t y) (g.child ∷ g.towards.0) (z ∷ zs) (sym g.towards.1 ∙ e) in
            let z_is : g.child ≡ z = cc in
            let w = subst (λ w. IsAtOrUnder t w g.candidate) z_is g.under in
            let el : chain t g.candidate ≡ chain t y ++ z ∷ w.after = (under_is t is z g.candidate w.before w.after w.is).1 ∙ ap (λ c. c ++ w.after) chain_z ∙ append_assoc (chain t y) (z ∷ []) w.after in
            let now = child_holds y z g.candidate w.after s.fields el g.is in
            let now' : AllByRecursion (Holds t (h.0).fields) (constraints_of t z) = subst (λ (q : Progress). AllByRecursion (Holds t q.fields) (constraints_of t z)) (sym (h.4).0) now in
            let at_end = All-weaker (Holds t (h.0).fields) (Holds t u.fields) (λ c k. holds_on x (chosen_stations t (z ∷ zs) ++ tail t SpellsInner FailsInner x) h.0 u h.2 c h.5 k) (constraints_of t z) now' in
            let p = subst (λ l. Passes t SpellsInner x h.0 l u h.2) (append_assoc (map entry (placed_entries t z) ++ choice z ∷ []) (chosen_stations t zs) (tail t SpellsInner FailsInner x) ∙ append_assoc (map entry (placed_entries t z)) (choice z ∷ []) (chosen_stations t zs ++ tail t SpellsInner FailsInner x)) h.5 in
            let q = past_entries x (choice z ∷ (chosen_stations t zs ++ tail t SpellsInner FailsInner x)) (placed_entries t z) h.0 u h.2 p in
            let r = ih q.0 q.1 q.2 in
            record { constraints = All-both (Holds t u.fields) (constraints_of t z) (flat_map (constraints_of t) zs) at_end r.constraints; concrete = r.concrete; none = r.none; fits = r.fits }

    pub spelling_of : (top x : ℕ) (u : Progress) (b : Bits) → IsAtOrUnder t top x → Passes t SpellsInner x started (course t top x) u b → ContainerSpells any t SpellsInner top x (values_of u.fields) b
    spelling_of top x u b un h =
        let up = (under_is t is top x un.before un.after un.is).1 in
        let zs = un.after in
        let c_is : course t top x ≡ flat_map (own_stations t) (chain t top) ++ (choice top ∷ (chosen_stations t zs ++ tail t SpellsInner FailsInner x)) = ap (λ q. flat_map (own_stations t) (chain t top) ++ (choice top ∷ (chosen_stations t q ++ tail t SpellsInner FailsInner x))) (ap (drop (length (chain t top))) up ∙ drop-append_seam (chain t top) zs) in
        let h' = subst (λ l. Passes t SpellsInner x started l u b) c_is h in
        let ups = chain_holds x (choice top ∷ (chosen_stations t zs ++ tail t SpellsInner FailsInner x)) (chain t top) started u b h' in
        let rest = rest_is x top zs (ups.1).0 u (ups.1).1 up (ups.1).2 in
        let seq : parts (flat_map (own_stations t) (chain t top) ++ (choice top ∷ (chosen_stations t zs ++ tail t SpellsInner FailsInner x))) ≡ sequence t x =
        parts-append (flat_map (own_stations t) (chain t top)) (choice top ∷ (chosen_stations t zs ++ tail t SpellsInner FailsInner x))
        ∙ ap (λ z. z ++ parts (choice top ∷ (chosen_stations t zs ++ tail t SpellsInner FailsInner x))) (parts-own (chain t top))
        ∙ ap (λ z. flat_map (placed_entries t) (chain t top) ++ z) (parts-rest FailsInner x top zs)
        ∙ sym (append_assoc (flat_map (placed_entries t) (chain t top)) (flat_map (placed_entries t) zs) (flat_map (placed_trailers t) (reverse (chain t x))))
        ∙ ap (λ z. z ++ flat_map (placed_trailers t) (reverse (chain t x))) (sym (flat_map-append (placed_entries t) (chain t top) zs) ∙ ap (flat_map (placed_entries t)) (sym up)) in
        record {
          concrete = rest.concrete;
          under = un;
          end = u;
          parts = subst (λ ps. PartsPass any t SpellsInner started ps u b) seq (gather x (flat_map (own_stations t) (chain t top) ++ (choice top ∷ (chosen_stations t zs ++ tail t SpellsInner FailsInner x))) started u b h');
          values = refl;
          size = rest.fits;
          constraints = subst (AllByRecursion (Holds t u.fields)) (sym (ap (flat_map (constraints_of t)) up ∙ flat_map-append (constraints_of t) (chain t top) zs)) (All-both (Holds t u.fields) (flat_map (constraints_of t) (chain t top)) (flat_map (constraints_of t) zs) ups.0 rest.constraints);
          most_derived = rest.none;
        }
