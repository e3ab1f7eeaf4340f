-- The values of a container pack, or fail at the first station that they don't pass.
use Rattle.std.proofs.Common.{◌≡◌, ℕ, ◌+◌, ℤ, pos, Bool, true, false, cond, List, [], ◌∷◌, ◌++◌, length, map, drop, reverse, Option, Some, None, refl, sym, ap, subst, ◌∙◌, append_assoc, arith, ◌⊎◌, inl, inr}
use Rattle.std.specs.Prelude.{IfSome, IsSome, is_some, IsTrue}
use Rattle.std.specs.List.{AllByRecursion, flat_map}
use Rattle.std.proofs.lemmas.Bool.{cases_Bool, cases_eq, both_ways}
use Rattle.eds_base.specs.declared.fault.Step.TheVariants as step
use Rattle.eds_types.specs.declared.reason.PackReason.TheVariants as reason
use Rattle.eds_types.specs.declared.row.Container.{Container}
use Rattle.eds_types.specs.declared.row.Part.{Part}
use Rattle.eds_types.specs.declared.row.Part.TheVariants as part
use Rattle.eds_types.specs.declared.row.Constraint.{Constraint as Condition}
use Rattle.eds_bits.specs.Bits.{Bits, octets_for}
use Rattle.eds_bits.specs.Style.{any, canonical}
use Rattle.eds_types.proofs.CanonicalSpelling.{parts_before}
use Rattle.eds_types.proofs.DecidedPacking.{Decided, decided_as, refused}
use Rattle.eds_types.proofs.DistinctParts.{sequence_apart}
use Rattle.eds_types.proofs.FieldKeys.{IsOther}
use Rattle.eds_types.proofs.FieldTypes.{sequence_placed}
use Rattle.eds_types.proofs.LengthChoices.{Choices, tell_all, NumbersDecided, Told, choices_decide, run_chosen}
use Rattle.eds_types.proofs.TableFacts.{Facts, ListsFit}
use Rattle.eds_types.proofs.PackingRuns.{count_by, paired_on, paired_past, At, TypesDecided, Supplies, IsFine, part_decides, part_one, Built, build, run_fine}
use Rattle.eds_types.proofs.SpellingSizes.{canon_spells, same_size, parts_any, parts_size, all_sized, fields_by}
use Rattle.eds_types.proofs.ReadingTests.{cases_has, holds_from, holds_in, found_is, none_is}
use Rattle.eds_types.specs.Failing.{Station, condition, entry, choice, end, chosen_stations, own_stations, course, length_path, path_steps}
use Rattle.eds_types.specs.Fields.{Field, values_of, has_value, paired, type_by, Holds, IsAtOrUnder, constraints_along, IsCandidate, field_of}
use Rattle.eds_types.specs.Packing.{PackFault, pack_fault_behind, pack_fault_here, valued, StationPackFails, FirstPackFails, HasFields, NoSizeFits, ContainerPackFails, PackFailsWithin, pack_fault_at}
use Rattle.eds_types.specs.Plain.{Plain, items}
use Rattle.eds_types.specs.Reading.{holds, candidate_under}
use Rattle.eds_types.specs.Rows.{Table, chain, container_of, concrete_in, is_concrete, constraints_of, Placed, placed_entries, placed_trailers, sequence, id_of}
use Rattle.eds_types.specs.Spelling.{Progress, started, PartPasses, PartsPass, SizeFits, ContainerSpells, SpellsWithin}
use Rattle.eds_types.proofs.Tables.{IsTable}
use Rattle.eds_types.proofs.AllOf.{All-weaker, All-both, All-front, All-back, All-each}

-- ---- what is there

is_there : {A : Type 0} (o : Option A) (x : A) → o ≡ Some x → IsSome o
is_there {A} o x e = ap (λ (z : Option A). is_some z) e

is_none : {A : Type 0} (o : Option A) → o ≡ None → IsSome o → ⊥
is_none {A} o e h = let q : true ≡ false = sym h ∙ ap (λ (z : Option A). is_some z) e in cc

-- ---- the first station that fails

module _ (t : Table) (FailsInner : ℕ → Plain → PackFault → Type 0) (fs : List Field) (NoSize : Type 0) (x : ℕ) where
  abbrev Faulty : Station → PackFault → Type 0
  Faulty s g = StationPackFails t FailsInner fs NoSize x s g

  abbrev IsSound : Station → Type 0
  IsSound s = (g : PackFault) → Faulty s g → ⊥

  abbrev Judged : Station → Type 0
  Judged s = ((g : PackFault) × Faulty s g) ⊎ IsSound s

  abbrev OneFault : Station → Type 0
  OneFault s = (g k : PackFault) → Faulty s g → Faulty s k → g ≡ k

  abbrev First : List Station → PackFault → Type 0
  First ss g = FirstPackFails t FailsInner fs NoSize x ss g

  first_judged : (ss : List Station) → AllByRecursion Judged ss → ((g : PackFault) × First ss g) ⊎ AllByRecursion IsSound ss
  first_judged [] h = inr tt
  first_judged (s ∷ ss) h = go h.0 (first_judged ss h.1)
    where
      go : Judged s → (((g : PackFault) × First ss g) ⊎ AllByRecursion IsSound ss) → ((g : PackFault) × First (s ∷ ss) g) ⊎ AllByRecursion IsSound (s ∷ ss)
      go (inl f) r = inl (f.0, inl f.1)
      go (inr n) (inl f) = inl (f.0, inr (n, f.1))
      go (inr n) (inr r) = inr (n, r)

  first_on : (ss rest : List Station) (g : PackFault) → First ss g → First (ss ++ rest) g
  first_on [] rest g h = absurd h
  first_on (s ∷ ss) rest g (inl h) = inl h
  first_on (s ∷ ss) rest g (inr h) = inr (h.0, first_on ss rest g h.1)

  first_past : (ss rest : List Station) (g : PackFault) → AllByRecursion IsSound ss → First rest g → First (ss ++ rest) g
  first_past [] rest g h f = f
  first_past (s ∷ ss) rest g h f = inr (h.0, first_past ss rest g h.1 f)

  first_none : (ss : List Station) (g : PackFault) → AllByRecursion IsSound ss → First ss g → ⊥
  first_none [] g h f = f
  first_none (s ∷ ss) g h (inl f) = h.0 g f
  first_none (s ∷ ss) g h (inr f) = first_none ss g h.1 f.1

  first_one : (ss : List Station) (g k : PackFault) → AllByRecursion OneFault ss → First ss g → First ss k → g ≡ k
  first_one [] g k h f e = absurd f
  first_one (s ∷ ss) g k h (inl f) (inl e) = h.0 g k f e
  first_one (s ∷ ss) g k h (inl f) (inr e) = absurd (e.0 g f)
  first_one (s ∷ ss) g k h (inr f) (inl e) = absurd (f.0 k e)
  first_one (s ∷ ss) g k h (inr f) (inr e) = first_one ss g k h.1 f.1 e.1

-- ---- the stations of a container's own course

drop_all : {A : Type 0} (xs : List A) → drop (length xs) xs ≡ []
drop_all [] = refl
drop_all (x ∷ xs) = drop_all xs

all_mapped : {A B : Type 0} (P : B → Type 0) (f : A → B) (xs : List A) → AllByRecursion (λ x. P (f x)) xs → AllByRecursion P (map f xs)
all_mapped P f [] h = tt
all_mapped P f (x ∷ xs) h = (h.0, all_mapped P f xs h.1)

all_unmapped : {A B : Type 0} (P : B → Type 0) (f : A → B) (xs : List A) → AllByRecursion P (map f xs) → AllByRecursion (λ x. P (f x)) xs
all_unmapped P f [] h = tt
all_unmapped P f (x ∷ xs) h = (h.0, all_unmapped P f xs h.1)

module _ (t : Table) where
  abbrev pub front : ℕ → List Station
  front k = flat_map (own_stations t) (chain t k) ++ (choice k ∷ map entry (flat_map (placed_trailers t) (reverse (chain t k))))

  pub course_is : (k : ℕ) → course t k k ≡ front k ++ end ∷ []
  course_is k =
      let trailers = map entry (flat_map (placed_trailers t) (reverse (chain t k))) in
      ap (λ c. flat_map (own_stations t) (chain t k) ++ (choice k ∷ (chosen_stations t c ++ (trailers ++ end ∷ [])))) (drop_all (chain t k))
      ∙ sym (append_assoc (flat_map (own_stations t) (chain t k)) (choice k ∷ trailers) (end ∷ []))

  own_all : (P : Station → Type 0) (ys : List ℕ) → AllByRecursion (λ (c : Condition). (y : ℕ) → P (condition y c)) (flat_map (constraints_of t) ys) → AllByRecursion (λ (p : Placed). P (entry p)) (flat_map (placed_entries t) ys) → AllByRecursion P (flat_map (own_stations t) ys)
  own_all P [] h k = tt
  own_all P (y ∷ ys) h k =
      All-both P (own_stations t y) (flat_map (own_stations t) ys)
      (All-both P (map (condition y) (constraints_of t y)) (map entry (placed_entries t y))
      (all_mapped P (condition y) (constraints_of t y) (All-weaker (λ (c : Condition). (y : ℕ) → P (condition y c)) (λ (c : Condition). P (condition y c)) (λ c g. g y) (constraints_of t y) (All-front (λ (c : Condition). (y : ℕ) → P (condition y c)) (constraints_of t y) (flat_map (constraints_of t) ys) h)))
      (all_mapped P entry (placed_entries t y) (All-front (λ (p : Placed). P (entry p)) (placed_entries t y) (flat_map (placed_entries t) ys) k)))
      (own_all P ys (All-back (λ (c : Condition). (y : ℕ) → P (condition y c)) (constraints_of t y) (flat_map (constraints_of t) ys) h) (All-back (λ (p : Placed). P (entry p)) (placed_entries t y) (flat_map (placed_entries t) ys) k))

  pub front_all : (P : Station → Type 0) (k : ℕ) → AllByRecursion (λ (c : Condition). (y : ℕ) → P (condition y c)) (constraints_along t k) → AllByRecursion (λ (p : Placed). P (entry p)) (sequence t k) → P (choice k) → AllByRecursion P (front k)
  front_all P k h e c =
      let es = flat_map (placed_entries t) (chain t k) in
      let ts = flat_map (placed_trailers t) (reverse (chain t k)) in
      All-both P (flat_map (own_stations t) (chain t k)) (choice k ∷ map entry ts)
      (own_all P (chain t k) h (All-front (λ (p : Placed). P (entry p)) es ts e))
      (c, all_mapped P entry ts (All-back (λ (p : Placed). P (entry p)) es ts e))

  own_conditions : (P : Station → Type 0) (Q : Condition → Type 0) → ((y : ℕ) (c : Condition) → P (condition y c) → Q c) → (ys : List ℕ) → AllByRecursion P (flat_map (own_stations t) ys) → AllByRecursion Q (flat_map (constraints_of t) ys)
  own_conditions P Q g [] h = tt
  own_conditions P Q g (y ∷ ys) h =
      All-both Q (constraints_of t y) (flat_map (constraints_of t) ys)
      (All-weaker (λ (c : Condition). P (condition y c)) Q (λ c x. g y c x) (constraints_of t y) (all_unmapped P (condition y) (constraints_of t y) (All-front P (map (condition y) (constraints_of t y)) (map entry (placed_entries t y)) (All-front P (own_stations t y) (flat_map (own_stations t) ys) h))))
      (own_conditions P Q g ys (All-back P (own_stations t y) (flat_map (own_stations t) ys) h))

  own_entries : (P : Station → Type 0) (ys : List ℕ) → AllByRecursion P (flat_map (own_stations t) ys) → AllByRecursion (λ (p : Placed). P (entry p)) (flat_map (placed_entries t) ys)
  own_entries P [] h = tt
  own_entries P (y ∷ ys) h =
      All-both (λ (p : Placed). P (entry p)) (placed_entries t y) (flat_map (placed_entries t) ys)
      (all_unmapped P entry (placed_entries t y) (All-back P (map (condition y) (constraints_of t y)) (map entry (placed_entries t y)) (All-front P (own_stations t y) (flat_map (own_stations t) ys) h)))
      (own_entries P ys (All-back P (own_stations t y) (flat_map (own_stations t) ys) h))

  front_entries : (P : Station → Type 0) (k : ℕ) → AllByRecursion P (front k) → AllByRecursion (λ (p : Placed). P (entry p)) (sequence t k)
  front_entries P k h =
      let es = flat_map (placed_entries t) (chain t k) in
      let ts = flat_map (placed_trailers t) (reverse (chain t k)) in
      All-both (λ (p : Placed). P (entry p)) es ts (own_entries P (chain t k) (All-front P (flat_map (own_stations t) (chain t k)) (choice k ∷ map entry ts) h)) (all_unmapped P entry ts (All-back P (flat_map (own_stations t) (chain t k)) (choice k ∷ map entry ts) h).1)

  front_choice : (P : Station → Type 0) (k : ℕ) → AllByRecursion P (front k) → P (choice k)
  front_choice P k h = (All-back P (flat_map (own_stations t) (chain t k)) (choice k ∷ map entry (flat_map (placed_trailers t) (reverse (chain t k)))) h).0

-- ---- the values of fields

values_paired : (ps : List Placed) (f : List Plain) → length f ≡ valued ps → values_of (paired ps f) ≡ f
values_paired [] [] h = refl
values_paired [] (v ∷ f) h = absurd (omega arith)
values_paired (p ∷ ps) [] h = refl
values_paired (p ∷ ps) (v ∷ f) h = go (has_value p.part) refl (values_paired ps)
  where
    go : (b : Bool) → has_value p.part ≡ b → ((f : List Plain) → length f ≡ valued ps → values_of (paired ps f) ≡ f) → values_of (paired (p ∷ ps) (v ∷ f)) ≡ v ∷ f
    go true e ih = ap values_of (paired_on p ps v f e) ∙ ap (λ x. v ∷ x) (ih f (let c = count_by p ps true e in omega arith))
    go false e ih = ap values_of (paired_past p ps (v ∷ f) e) ∙ ih (v ∷ f) (let c = count_by p ps false e in omega arith)

added : (l : List Field) (x : Field) → length (values_of (l ++ x ∷ [])) ≡ length (values_of l) + 1
added [] x = refl
added (y ∷ l) x = let h = added l x in omega arith

module _ (t : Table) (E : ℕ → Plain → Bits → Type 0) where
  -- a run gives a value to each part that has one
  part_adds : (s : Progress) (p : Placed) (q : Part) (u : Progress) (b : Bits) → PartPasses canonical t E s p q u b → length (values_of u.fields) ≡ length (values_of s.fields) + cond (has_value q) 1 0
  part_adds s p (part.Plain name id) u b h = ap (λ (x : Progress). length (values_of x.fields)) h.2 ∙ added s.fields (field_of p h.0)
  part_adds s p (part.Fixed name id v) u b h = ap (λ (x : Progress). length (values_of x.fields)) h.1 ∙ omega arith
  part_adds s p (part.Pad m) u b h = ap (λ (x : Progress). length (values_of x.fields)) h.2 ∙ omega arith
  part_adds s p (part.List name id y i) u b h = ap (λ (x : Progress). length (values_of x.fields)) h.3 ∙ added s.fields (field_of p (items h.0))
  part_adds s p (part.Length name id c0 c1) u b h = ap (λ (x : Progress). length (values_of x.fields)) h.2 ∙ omega arith
  part_adds s p (part.Check name id k) u b h = ap (λ (x : Progress). length (values_of x.fields)) h.1 ∙ omega arith

  run_count : (ps : List Placed) (s u : Progress) (b : Bits) → PartsPass canonical t E s ps u b → length (values_of u.fields) ≡ length (values_of s.fields) + valued ps
  run_count [] s u b h = ap (λ (x : Progress). length (values_of x.fields)) h.0 ∙ omega arith
  run_count (p ∷ ps) s u b h = let one = part_adds s p p.part h.0 h.1 h.4 in let rest = run_count ps h.0 u h.2 h.5 in let c = count_by p ps (has_value p.part) refl in omega arith

-- ---- containers

module _ (t : Table) (is : IsTable t) (can : Facts t) (n : ℕ) where
  abbrev C : ℕ → Plain → Bits → Type 0
  C = SpellsWithin n canonical t

  abbrev F : ℕ → Plain → PackFault → Type 0
  F = PackFailsWithin n t

  -- two canonical runs that end with the same fields have one size
  runs_size : (k : ℕ) (u w : Progress) (b c : Bits) → u.fields ≡ w.fields → PartsPass canonical t C started (sequence t k) u b → PartsPass canonical t C started (sequence t k) w c → length u.before ≡ length w.before
  runs_size k u w b c e h g =
      let Any = SpellsWithin n any t in
      let h' = parts_any t C Any (canon_spells t n) (sequence t k) started u b h in
      let g' = parts_any t C Any (canon_spells t n) (sequence t k) started w c g in
      ap length (parts_before t Any (sequence t k) started u b h')
      ∙ parts_size t Any (same_size t can.numbered n) (sequence t k) started started u w b c (all_sized t n (sequence t k) (can.numbered k)) refl e h' g'
      ∙ ap length (sym (parts_before t Any (sequence t k) started w c g'))

  pub fits_told : (o q : Option ℤ) (x y : ℕ) → o ≡ q → x ≡ y → IfSome o (λ m. m ≡ pos (octets_for x)) → Told C q (octets_for y)
  fits_told o q x y e l h = subst (λ z. IfSome q (λ m. m ≡ pos (octets_for z))) l (subst (λ z. IfSome z (λ m. m ≡ pos (octets_for x))) e h)

  pub told_fits : (o q : Option ℤ) (x y : ℕ) → o ≡ q → x ≡ y → Told C q (octets_for y) → IfSome o (λ m. m ≡ pos (octets_for x))
  told_fits o q x y e l h = subst (λ z. IfSome o (λ m. m ≡ pos (octets_for z))) (sym l) (subst (λ z. IfSome z (λ m. m ≡ pos (octets_for y))) (sym e) h)

  -- what is known of the parts of a container
  pub record Known (k : ℕ) : Type 0 where
    pub types : AllByRecursion (λ (p : Placed). (x : ℕ) → type_by (Some p.part) ≡ Some x → (v : Plain) → Decided (C x v) (F x v)) (sequence t k)
    pub supplies : (fs : List Field) → AllByRecursion (λ (p : Placed). Supplies t n fs p.part) (sequence t k)
    pub lists : ListsFit t [] (sequence t k)
    pub choices : Choices C (sequence t k)
    pub numbers : AllByRecursion (λ (p : Placed). NumbersDecided C p.part) (sequence t k)

  module _ (id k : ℕ) (f : List Plain) (known : Known k) where
    abbrev fs : List Field
    fs = paired (sequence t k) f

    abbrev NoSize : Type 0
    NoSize = NoSizeFits t C F k fs

    abbrev Spells : Bits → Type 0
    Spells b = ContainerSpells canonical t C id k f b

    abbrev Stops : Station → PackFault → Type 0
    Stops s g = StationPackFails t F fs NoSize k s g

    abbrev Sound : Station → Type 0
    Sound s = (g : PackFault) → Stops s g → ⊥

    abbrev FirstStop : List Station → PackFault → Type 0
    FirstStop ss g = FirstPackFails t F fs NoSize k ss g

    -- ---- stations are decided

    condition_judged : (y : ℕ) (c : Condition) → ((g : PackFault) × Stops (condition y c) g) ⊎ Sound (condition y c)
    condition_judged y c = elim (cases_Bool (holds t fs c)) [
      | inl h ↦ inr (λ g f. f.0 (holds_from t fs c h))
      | inr h ↦ inl ((pack_fault_at reason.Constraint (path_steps c.path)), ((λ q. both_ways (holds t fs c) h (holds_in t fs c q)), refl))
    ]

    entry_judged : (p : Placed) → TypesDecided t n fs p.part → ((g : PackFault) × Stops (entry p) g) ⊎ Sound (entry p)
    entry_judged p d = elim (part_decides t n fs p p.part d) [
      | inl h ↦ inl (pack_fault_behind (step.Part (id_of p.container) p.place) h.0, (h.0, h.1, refl))
      | inr h ↦ inr (λ g f. h f.0 f.1)
    ]

    choice_judged : ((g : PackFault) × Stops (choice k) g) ⊎ Sound (choice k)
    choice_judged = go (candidate_under t k fs) refl
      where
        go : (o : Option ℕ) → candidate_under t k fs ≡ o → ((g : PackFault) × Stops (choice k) g) ⊎ Sound (choice k)
        go (Some l) e = let h = found_is t k fs l e in inl ((pack_fault_at reason.NotMostDerived (step.Choice (id_of k) ∷ [])), (l, h.0, (h.1).under, h.1, refl))
        go None e = inr (λ g f. none_is t k fs e f.0 f.1 f.3)

    front_judged : AllByRecursion (λ s. ((g : PackFault) × Stops s g) ⊎ Sound s) (front t k)
    front_judged = front_all t (λ s. ((g : PackFault) × Stops s g) ⊎ Sound s) k
        (All-each (λ (c : Condition). (y : ℕ) → ((g : PackFault) × Stops (condition y c) g) ⊎ Sound (condition y c)) (λ c y. condition_judged y c) (constraints_along t k))
        (All-weaker (λ (p : Placed). TypesDecided t n fs p.part) (λ (p : Placed). ((g : PackFault) × Stops (entry p) g) ⊎ Sound (entry p)) entry_judged (sequence t k) known.types)
        choice_judged

    pub at_start : HasFields t k f → At fs [] (sequence t k) [] f
    at_start h = record { whole = refl; count = h.count; fresh = All-each (λ (p : Placed). AllByRecursion (IsOther p.container p.place) []) (λ p. tt) (sequence t k); once = sequence_apart t is k; known = tt }

    fine_parts : AllByRecursion Sound (front t k) → AllByRecursion (λ (p : Placed). IsFine t n fs p p.part) (sequence t k)
    fine_parts h = All-weaker (λ (p : Placed). Sound (entry p)) (λ (p : Placed). IsFine t n fs p p.part) (λ p g w f. g (pack_fault_behind (step.Part (id_of p.container) p.place) w) (w, f, refl)) (sequence t k) (front_entries t Sound k h)

    pub built : HasFields t k f → AllByRecursion Sound (front t k) → (c : Choices C (sequence t k)) → Built t n fs started (sequence t k) (tell_all C (sequence t k) c None)
    built h s c = build t n fs (sequence t k) [] started f (at_start h) known.types (known.supplies fs) known.lists c (fine_parts s)

    spells_from : HasFields t k f → IsAtOrUnder t id k → IsTrue (is_concrete t k) → AllByRecursion Sound (front t k) → (o : Option ℤ) (r : Built t n fs started (sequence t k) o) → SizeFits r.u → Spells r.b
    spells_from h un con s o r size = record {
      concrete = con;
      under = un;
      end = r.u;
      parts = r.passes;
      values = sym (values_paired (sequence t k) f h.count) ∙ ap values_of (sym r.fields);
      size = size;
      constraints = subst (λ l. AllByRecursion (Holds t l) (constraints_along t k)) (sym r.fields)
          (own_conditions t Sound (Holds t fs) holds_there (chain t k) (All-front Sound (flat_map (own_stations t) (chain t k)) (choice k ∷ map entry (flat_map (placed_trailers t) (reverse (chain t k)))) s));
      most_derived = λ l ne u c. front_choice t Sound k s (pack_fault_at reason.NotMostDerived (step.Choice (id_of k) ∷ [])) (l, ne, u, subst (λ x. IsCandidate t k l x) r.fields c, refl);
    }
      where
        holds_there : (y : ℕ) (c : Condition) → Sound (condition y c) → Holds t fs c
        holds_there y c g = elim (condition_judged y c) [ inl q ↦ absurd (g q.0 q.1) | inr q ↦ go (cases_Bool (holds t fs c)) ]
          where
            go : ((holds t fs c ≡ true) ⊎ (holds t fs c ≡ false)) → Holds t fs c
            go (inl e) = holds_from t fs c e
            go (inr e) = absurd (g (pack_fault_at reason.Constraint (path_steps c.path)) ((λ q. both_ways (holds t fs c) e (holds_in t fs c q)), refl))

    -- where all before the end is sound
    at_end : HasFields t k f → IsAtOrUnder t id k → IsTrue (is_concrete t k) → AllByRecursion Sound (front t k) → ((b : Bits) × Spells b) ⊎ ((g : PackFault) × FirstStop (course t k k) g)
    at_end h un con s = go (choices_decide C (octets_for (length (r.u).before)) (sequence t k) None known.choices (can.scaled k) (can.once k) known.numbers)
      where
        r : Built t n fs started (sequence t k) (tell_all C (sequence t k) known.choices None)
        r = built h s known.choices

        go : ((c : Choices C (sequence t k)) × Told C (tell_all C (sequence t k) c None) (octets_for (length (r.u).before))) ⊎ ((c : Choices C (sequence t k)) → Told C (tell_all C (sequence t k) c None) (octets_for (length (r.u).before)) → ⊥) → ((b : Bits) × Spells b) ⊎ ((g : PackFault) × FirstStop (course t k k) g)
        go (inl q) =
            let w = built h s q.0 in
            let size = told_fits (w.u).octets (tell_all C (sequence t k) q.0 None) (length (w.u).before) (length (r.u).before) w.octets (runs_size k w.u r.u w.b r.b (w.fields ∙ sym r.fields) w.passes r.passes) q.1 in
            inl (w.b, spells_from h un con s (tell_all C (sequence t k) q.0 None) w size)
        go (inr q) = inr ((pack_fault_at reason.LengthField (length_path t k)), subst (λ ss. FirstStop ss (pack_fault_at reason.LengthField (length_path t k))) (sym (course_is t k)) (first_past t F fs NoSize k (front t k) (end ∷ []) (pack_fault_at reason.LengthField (length_path t k)) s (inl (no_size, refl))))
          where
            no_size : NoSize
            no_size u b p e sz = let c = run_chosen C t (sequence t k) started u b p in q c.0 (fits_told u.octets (tell_all C (sequence t k) c.0 None) (length u.before) (length (r.u).before) c.1 (runs_size k u r.u b r.b (e ∙ sym r.fields) p r.passes) sz)

    -- a canonical spelling is sound everywhere
    pub sound_of : HasFields t k f → (b : Bits) → Spells b → AllByRecursion Sound (front t k ++ end ∷ [])
    sound_of h b sp =
        All-both Sound (front t k) (end ∷ [])
        (front_all t Sound k
        (All-weaker (Holds t (sp.end).fields) (λ (c : Condition). (y : ℕ) → Sound (condition y c)) (λ c q y g x. x.0 (subst (λ l. Holds t l c) same q)) (constraints_along t k) sp.constraints)
        (All-weaker (λ (p : Placed). IsFine t n fs p p.part) (λ (p : Placed). Sound (entry p)) (λ p q g x. q x.0 x.1) (sequence t k) (run_fine t n fs (sequence t k) [] started sp.end f b (at_start h) known.types known.lists tt (sequence_placed t k) tt same sp.parts))
        (λ g x. sp.most_derived x.0 x.1 x.2 (subst (λ l. IsCandidate t k x.0 l) (sym same) x.3)))
        ((λ g x. x.0 sp.end b sp.parts same sp.size), tt)
      where
        same : (sp.end).fields ≡ fs
        same = fields_by t n k sp.end b f (parts_any t C (SpellsWithin n any t) (canon_spells t n) (sequence t k) started sp.end b sp.parts) sp.values

    one_fault : AllByRecursion (λ s. (g w : PackFault) → Stops s g → Stops s w → g ≡ w) (front t k ++ end ∷ [])
    one_fault = All-both (λ s. (g w : PackFault) → Stops s g → Stops s w → g ≡ w) (front t k) (end ∷ [])
        (front_all t (λ s. (g w : PackFault) → Stops s g → Stops s w → g ≡ w) k
        (All-each (λ (c : Condition). (y : ℕ) (g w : PackFault) → Stops (condition y c) g → Stops (condition y c) w → g ≡ w) (λ c y g w a b. a.1 ∙ sym b.1) (constraints_along t k))
        (All-weaker (λ (p : Placed). TypesDecided t n fs p.part) (λ (p : Placed). (g w : PackFault) → Stops (entry p) g → Stops (entry p) w → g ≡ w) (λ p d g w a b. a.2 ∙ ap (pack_fault_behind (step.Part (id_of p.container) p.place)) (part_one t n fs p p.part d a.0 b.0 a.1 b.1) ∙ sym b.2) (sequence t k) known.types)
        (λ g w a b. a.4 ∙ sym b.4))
        ((λ g w a b. a.1 ∙ sym b.1), tt)

    -- a concrete container under the type, with as many fields
    right_decided : HasFields t k f → IsAtOrUnder t id k → IsTrue (is_concrete t k) → Decided Spells (FirstStop (course t k k))
    right_decided h un con = record {
      either = go (first_judged t F fs NoSize k (front t k) front_judged);
      apart = λ b g sp x. first_none t F fs NoSize k (front t k ++ end ∷ []) g (sound_of h b sp) (subst (λ ss. FirstStop ss g) (course_is t k) x);
      one = λ g w x y. first_one t F fs NoSize k (front t k ++ end ∷ []) g w one_fault (subst (λ ss. FirstStop ss g) (course_is t k) x) (subst (λ ss. FirstStop ss w) (course_is t k) y);
    }
      where
        go : (((g : PackFault) × FirstStop (front t k) g) ⊎ AllByRecursion Sound (front t k)) → ((b : Bits) × Spells b) ⊎ ((g : PackFault) × FirstStop (course t k k) g)
        go (inl q) = inr (q.0, subst (λ ss. FirstStop ss q.0) (sym (course_is t k)) (first_on t F fs NoSize k (front t k) (end ∷ []) q.0 q.1))
        go (inr q) = at_end h un con q

  -- ---- any container

  module _ (id k : ℕ) (f : List Plain) (known_of : IsAtOrUnder t id k → Known k) where
    abbrev Spelt : Bits → Type 0
    Spelt b = ContainerSpells canonical t C id k f b

    abbrev Faults : PackFault → Type 0
    Faults g = ContainerPackFails t C F id k f g

    fields_decide : HasFields t k f ⊎ (HasFields t k f → ⊥)
    fields_decide = go (container_of t k) refl (cases_eq (length f) (valued (sequence t k)))
      where
        no_container : container_of t k ≡ None → HasFields t k f → ⊥
        no_container e h = is_none (container_of t k) e h.container

        go : (o : Option Container) → container_of t k ≡ o → ((length f ≡ valued (sequence t k)) ⊎ (length f ≡ valued (sequence t k) → ⊥)) → HasFields t k f ⊎ (HasFields t k f → ⊥)
        go None e l = inr (no_container e)
        go (Some c) e (inl l) = inl (record { container = is_there (container_of t k) c e; count = l })
        go (Some c) e (inr ne) = inr (λ h. ne h.count)

    pub fields_of : (b : Bits) → Spelt b → HasFields t k f
    fields_of b sp = go (container_of t k) refl
      where
        go : (o : Option Container) → container_of t k ≡ o → HasFields t k f
        go None e = absurd (both_ways (is_concrete t k) (ap concrete_in e) sp.concrete)
        go (Some c) e = record { container = is_there (container_of t k) c e; count = ap length sp.values ∙ run_count t C (sequence t k) started sp.end b sp.parts ∙ omega arith }

    pub container_decided : Decided Spelt Faults
    container_decided = go fields_decide (cases_has (chain t k) id) (cases_Bool (is_concrete t k))
      where
        go : (HasFields t k f ⊎ (HasFields t k f → ⊥)) → (IsAtOrUnder t id k ⊎ (IsAtOrUnder t id k → ⊥)) → ((is_concrete t k ≡ true) ⊎ (is_concrete t k ≡ false)) → Decided Spelt Faults
        go (inr off) u c = refused Spelt Faults (pack_fault_here reason.WrongKind) (inl (off, refl)) (λ b sp. off (fields_of b sp)) is_wrong
          where
            is_wrong : (g : PackFault) → Faults g → g ≡ pack_fault_here reason.WrongKind
            is_wrong g (inl h) = h.1
            is_wrong g (inr (inl h)) = absurd (off h.0)
            is_wrong g (inr (inr (inl h))) = absurd (off h.0)
            is_wrong g (inr (inr (inr h))) = absurd (off h.0)
        go (inl h) (inr off) c = refused Spelt Faults (pack_fault_at reason.NotDerived (step.Choice (id_of k) ∷ [])) (inr (inl (h, off, refl))) (λ b sp. off sp.under) is_not_under
          where
            is_not_under : (g : PackFault) → Faults g → g ≡ (pack_fault_at reason.NotDerived (step.Choice (id_of k) ∷ []))
            is_not_under g (inl q) = absurd (q.0 h)
            is_not_under g (inr (inl q)) = q.2
            is_not_under g (inr (inr (inl q))) = absurd (off q.1)
            is_not_under g (inr (inr (inr q))) = absurd (off q.1)
        go (inl h) (inl u) (inr a) = refused Spelt Faults (pack_fault_at reason.Abstract (step.Choice (id_of k) ∷ [])) (inr (inr (inl (h, u, a, refl)))) (λ b sp. both_ways (is_concrete t k) a sp.concrete) is_abstract
          where
            is_abstract : (g : PackFault) → Faults g → g ≡ (pack_fault_at reason.Abstract (step.Choice (id_of k) ∷ []))
            is_abstract g (inl q) = absurd (q.0 h)
            is_abstract g (inr (inl q)) = absurd (q.1 u)
            is_abstract g (inr (inr (inl q))) = q.3
            is_abstract g (inr (inr (inr q))) = absurd (both_ways (is_concrete t k) a q.2)
        go (inl h) (inl u) (inl c) = decided_as Spelt Spelt (FirstStop id k f (known_of u) (course t k k)) Faults (right_decided id k f (known_of u) h u c) (λ b sp. sp) (λ b sp. sp) (λ g x. inr (inr (inr (h, u, c, x)))) only_last
          where
            only_last : (g : PackFault) → Faults g → FirstStop id k f (known_of u) (course t k k) g
            only_last g (inl q) = absurd (q.0 h)
            only_last g (inr (inl q)) = absurd (q.1 u)
            only_last g (inr (inr (inl q))) = absurd (both_ways (is_concrete t k) q.2 c)
            only_last g (inr (inr (inr q))) = q.3
