-- How a walk over a container goes on, part by part.
use Rattle.std.proofs.Common.{◌≡◌, ℕ, ◌<◌, ℤ, Bool, true, false, cond, List, [], ◌∷◌, ◌++◌, map, Option, Some, None, refl, sym, ap, subst, ◌∙◌, arith, IsSome, append-nil, append_assoc, rules, inl, inr}
use Rattle.std.specs.Prelude.{slice_get, ◌&&◌, ◌==◌, if◌then◌else◌}
use Rattle.std.specs.List.{AllByRecursion, filter}
use Rattle.std.proofs.lemmas.Bool.{eqb-true, eq-eqb, and_parts}
use Rattle.std.proofs.lemmas.List.{map-append}
use Rattle.std.proofs.lemmas.List.Elements.{filter-append}
use Rattle.eds_base.specs.declared.ids.TypeId.{TypeId}
use Rattle.eds_bits.specs.Bits.{Bits}
use Rattle.eds_bits.specs.Lists.{HasOne}
use Rattle.eds_bits.specs.Reader.{bits_left}
use Rattle.eds_types.specs.declared.row.Part.{Part}
use Rattle.eds_types.specs.declared.row.Part.TheVariants as part
use Rattle.eds_types.specs.Fields.{Field, field_at, field_of, fields_in, has_value, number_by, number_on, paired, part_at, row_at, type_by, type_on, value_at, value_on, values_of}
use Rattle.eds_types.specs.Plain.{Plain}
use Rattle.eds_types.specs.Reading.{front}
use Rattle.eds_types.specs.Rows.{Table, Placed, id_of}
use Rattle.eds_types.specs.Rules.{KeepsRules, Follows}
use Rattle.eds_types.specs.Spelling.{Progress}
use Rattle.eds_types.proofs.AllOf.{All-weaker, All-both}
use Rattle.eds_types.proofs.DistinctParts.{Apart, Pairwise}
use Rattle.eds_types.proofs.RuleFacts.{facts_of}
use Rattle.eds_types.proofs.TableFacts.{IsCount, ListFits, ListsFit}
use Rattle.eds_types.proofs.FieldKeys.{IsOther, value_past, value_before, same_number}
use Rattle.eds_unpack.specs.Index.{Among}
use Rattle.eds_overlap.specs.Pairs.{Steps}
use Rattle.eds_unpack.specs.Noted.{Shows, KeepsOuter}
use Rattle.eds_unpack.specs.Walks.{IsAt, IsFront, IsNumberIfInt, IsTold, key_of, valued_places}
use Rattle.eds_unpack.specs.declared.walk.Walked.{Walked}
use Rattle.eds_unpack.proofs.AskedPaths.{apart_front, apart_is, apart_split}

-- ---- fields and the places of their parts

-- what all parts have, their fields have
pub keys_all : (P : ℕ → ℕ → Type 0) (ps : List Placed) (fs : List Field) → AllByRecursion (λ (p : Placed). P p.container p.place) ps → map key_of fs ≡ valued_places ps → AllByRecursion (λ (f : Field). P f.container f.place) fs
keys_all P [] [] h e = tt
keys_all P [] (f ∷ fs) h e = absurd cc
keys_all P (p ∷ ps) fs h e = go (λ gs k. keys_all P ps gs h.1 k) (has_value p.part) fs e
  where
    go : ((gs : List Field) → map key_of gs ≡ valued_places ps → AllByRecursion (λ (f : Field). P f.container f.place) gs) → (b : Bool) (gs : List Field) → map key_of gs ≡ map (λ (q : Placed). (q.container, q.place)) (cond b (p ∷ filter (λ (q : Placed). has_value q.part) ps) (filter (λ (q : Placed). has_value q.part) ps)) → AllByRecursion (λ (f : Field). P f.container f.place) gs
    go ih false gs k = ih gs k
    go ih true [] k = absurd cc
    go ih true (g ∷ gs) k =
        let here : key_of g ≡ (p.container, p.place) = cc in
        let later : map key_of gs ≡ valued_places ps = cc in
        (subst (λ (z : ℕ × ℕ). P z.0 z.1) (sym here) h.0, ih gs later)

-- the values of the fields, with the parts, are the fields
pub keys_pair : (ps : List Placed) (fs : List Field) → map key_of fs ≡ valued_places ps → paired ps (values_of fs) ≡ fs
keys_pair [] [] e = refl
keys_pair [] (f ∷ fs) e = absurd cc
keys_pair (p ∷ ps) fs e = go (keys_pair ps) (has_value p.part) refl fs e
  where
    go : ((gs : List Field) → map key_of gs ≡ valued_places ps → paired ps (values_of gs) ≡ gs) → (b : Bool) → has_value p.part ≡ b → (gs : List Field) → map key_of gs ≡ map (λ (q : Placed). (q.container, q.place)) (cond b (p ∷ filter (λ (q : Placed). has_value q.part) ps) (filter (λ (q : Placed). has_value q.part) ps)) → paired (p ∷ ps) (values_of gs) ≡ gs
    go ih false h [] k = refl
    go ih false h (g ∷ gs) k = ap (λ z. if z then field_of p g.value ∷ paired ps (values_of gs) else paired ps (g.value ∷ values_of gs)) h ∙ ih (g ∷ gs) k
    go ih true h [] k = absurd cc
    go ih true h (g ∷ gs) k =
        let here : key_of g ≡ (p.container, p.place) = cc in
        let later : map key_of gs ≡ valued_places ps = cc in
        ap (λ z. if z then field_of p g.value ∷ paired ps (values_of gs) else paired ps (g.value ∷ values_of gs)) h
        ∙ ap (λ fs. field_of p g.value ∷ fs) (ih gs later)
        ∙ ap (λ (z : ℕ × ℕ). field_at z.0 z.1 g.value ∷ gs) (sym here)

-- a part with a value has a field
pub keys_kept : (ps : List Placed) (fs : List Field) → map key_of fs ≡ valued_places ps → AllByRecursion (λ (p : Placed). has_value p.part ≡ true → IsSome (value_at fs p.container p.place)) ps
keys_kept [] fs e = tt
keys_kept (p ∷ ps) fs e = go (keys_kept ps) (has_value p.part) refl fs e
  where
    later_by : (g : Field) (gs : List Field) (y i : ℕ) → IsSome (value_at gs y i) → IsSome (value_at (g ∷ gs) y i)
    later_by g gs y i h = by (g.container == y && g.place == i)
      where
        by : (b : Bool) → IsSome (if b then Some g.value else value_at gs y i)
        by true = refl
        by false = h

    here_by : (g : Field) (gs : List Field) → key_of g ≡ (p.container, p.place) → IsSome (value_at (g ∷ gs) p.container p.place)
    here_by g gs e = subst (λ (z : ℕ × ℕ). IsSome (value_at (g ∷ gs) z.0 z.1)) e (by (g.container == g.container && g.place == g.place) refl)
      where
        by : (b : Bool) → (g.container == g.container && g.place == g.place) ≡ b → IsSome (if b then Some g.value else value_at gs g.container g.place)
        by true k = refl
        by false k =
            let c : (g.container == g.container) ≡ true = eq-eqb g.container g.container refl in
            let i : (g.place == g.place) ≡ true = eq-eqb g.place g.place refl in
            let both : (g.container == g.container && g.place == g.place) ≡ true = ap (λ b. b && g.place == g.place) c ∙ ap (λ b. true && b) i in
            let z : true ≡ false = sym both ∙ k in
            absurd cc

    go : ((gs : List Field) → map key_of gs ≡ valued_places ps → AllByRecursion (λ (q : Placed). has_value q.part ≡ true → IsSome (value_at gs q.container q.place)) ps) → (b : Bool) → has_value p.part ≡ b → (gs : List Field) → map key_of gs ≡ map (λ (q : Placed). (q.container, q.place)) (cond b (p ∷ filter (λ (q : Placed). has_value q.part) ps) (filter (λ (q : Placed). has_value q.part) ps)) → AllByRecursion (λ (q : Placed). has_value q.part ≡ true → IsSome (value_at gs q.container q.place)) (p ∷ ps)
    go ih false h gs k = ((λ t. let z : true ≡ false = sym t ∙ h in absurd cc), ih gs k)
    go ih true h [] k = absurd cc
    go ih true h (g ∷ gs) k =
        let here : key_of g ≡ (p.container, p.place) = cc in
        let later : map key_of gs ≡ valued_places ps = cc in
        ((λ t. here_by g gs here), All-weaker (λ (q : Placed). has_value q.part ≡ true → IsSome (value_at gs q.container q.place)) (λ (q : Placed). has_value q.part ≡ true → IsSome (value_at (g ∷ gs) q.container q.place)) (λ q m t. later_by g gs q.container q.place (m t)) ps (ih gs later))

-- one more part with a value, or without one
pub keys_more : (ps : List Placed) (fs : List Field) (p : Placed) (v : Plain) → has_value p.part ≡ true → map key_of fs ≡ valued_places ps → map key_of (fs ++ field_of p v ∷ []) ≡ valued_places (ps ++ p ∷ [])
keys_more ps fs p v h e =
    map-append key_of fs (field_of p v ∷ [])
    ∙ ap (λ ks. ks ++ (p.container, p.place) ∷ []) e
    ∙ sym (map-append (λ (q : Placed). (q.container, q.place)) (filter (λ (q : Placed). has_value q.part) ps) (p ∷ []))
    ∙ ap (λ qs. map (λ (q : Placed). (q.container, q.place)) (filter (λ (q : Placed). has_value q.part) ps ++ qs)) (sym (ap (λ b. cond b (p ∷ []) []) h))
    ∙ ap (map (λ (q : Placed). (q.container, q.place))) (sym (filter-append (λ (q : Placed). has_value q.part) ps (p ∷ [])))

pub keys_same : (ps : List Placed) (fs : List Field) (p : Placed) → has_value p.part ≡ false → map key_of fs ≡ valued_places ps → map key_of fs ≡ valued_places (ps ++ p ∷ [])
keys_same ps fs p h e =
    e
    ∙ ap (map (λ (q : Placed). (q.container, q.place))) (sym (append-nil (filter (λ (q : Placed). has_value q.part) ps)))
    ∙ ap (λ qs. map (λ (q : Placed). (q.container, q.place)) (filter (λ (q : Placed). has_value q.part) ps ++ qs)) (sym (ap (λ b. cond b (p ∷ []) []) h))
    ∙ ap (map (λ (q : Placed). (q.container, q.place))) (sym (filter-append (λ (q : Placed). has_value q.part) ps (p ∷ [])))

-- the part of a field that is there
pub at_all : (P : ℕ → ℕ → Type 0) (fs : List Field) (y i : ℕ) (v : Plain) → AllByRecursion (λ (f : Field). P f.container f.place) fs → value_at fs y i ≡ Some v → P y i
at_all P [] y i v h e = absurd cc
at_all P (f ∷ fs) y i v h e = go (at_all P fs y i v h.1) (f.container == y && f.place == i) refl e
  where
    go : (value_at fs y i ≡ Some v → P y i) → (b : Bool) → (f.container == y && f.place == i) ≡ b → (if b then Some f.value else value_at fs y i) ≡ Some v → P y i
    go ih true k m = let both = and_parts (f.container == y) (f.place == i) k in subst (λ z. P z i) (eqb-true f.container y both.0) (subst (λ z. P f.container z) (eqb-true f.place i both.1) h.0)
    go ih false k m = ih m

-- the value that was put last, where none was there
pub value_new : (fs : List Field) (y i : ℕ) (v : Plain) → value_at fs y i ≡ None → value_at (fs ++ field_at y i v ∷ []) y i ≡ Some v
value_new [] y i v e = let c : (y == y) ≡ true = eq-eqb y y refl in let k : (i == i) ≡ true = eq-eqb i i refl in ap (λ b. if b && i == i then Some v else None) c ∙ ap (λ b. if true && b then Some v else None) k
value_new (f ∷ fs) y i v e = go (value_new fs y i v) (f.container == y && f.place == i) e
  where
    go : (value_at fs y i ≡ None → value_at (fs ++ field_at y i v ∷ []) y i ≡ Some v) → (b : Bool) → (if b then Some f.value else value_at fs y i) ≡ None → (if b then Some f.value else value_at (fs ++ field_at y i v ∷ []) y i) ≡ Some v
    go ih true k = absurd cc
    go ih false k = ih k

-- no field stands where the next part does
pub is_new : (done : List Placed) (p : Placed) (rest : List Placed) (fs : List Field) → map key_of fs ≡ valued_places done → Pairwise Apart (done ++ p ∷ rest) → value_at fs p.container p.place ≡ None
unfolding IsOther
is_new done p rest fs e apart = value_past fs p.container p.place (keys_all (λ y i. (y ≡ p.container) × (i ≡ p.place) → ⊥) done fs (apart_split done p rest apart) e)

-- what is there
pub some_is : {A : Type 0} (o : Option A) → IsSome o → (x : A) × (o ≡ Some x)
some_is None h = absurd cc
some_is (Some x) h = (x, refl)

-- ---- lists

-- a list among some parts has its teller before it
lists_at : (t : Table) (before done : List Placed) (p : Placed) (rest : List Placed) → ListsFit t before (done ++ p ∷ rest) → ListFits t (before ++ done) p.part
lists_at t before [] p rest h = subst (λ ps. ListFits t ps p.part) (sym (append-nil before)) h.0
lists_at t before (q ∷ done) p rest h = subst (λ ps. ListFits t ps p.part) (append_assoc before (q ∷ []) done) (lists_at t (before ++ q ∷ []) done p rest h.1)

teller_there : (t : Table) (fs : List Field) (y i : ℕ) (ps : List Placed) → HasOne (λ (q : Placed). (q.container ≡ y) × (q.place ≡ i) × IsCount t q.part) ps → AllByRecursion (λ (q : Placed). has_value q.part ≡ true → IsSome (value_at fs q.container q.place)) ps → IsSome (value_at fs y i)
teller_there t fs y i [] h k = absurd h
teller_there t fs y i (q ∷ ps) (inl h) k = subst (λ z. IsSome (value_at fs z i)) h.0 (subst (λ z. IsSome (value_at fs q.container z)) h.1 (k.0 (valued q.part h.2)))
  where
    valued : (q : Part) → IsCount t q → has_value q ≡ true
    valued (part.Plain name id) c = refl
    valued (part.Fixed name id v) c = absurd c
    valued (part.Pad n) c = absurd c
    valued (part.List name id z j) c = absurd c
    valued (part.Length name id c0 c1) c = absurd c
    valued (part.Check name id n) c = absurd c
teller_there t fs y i (q ∷ ps) (inr h) k = teller_there t fs y i ps h k.1

-- the next of some first parts has its teller in the fields, and no field yet
pub is_told : (t : Table) → KeepsRules t → (done : List Placed) (p : Placed) (rest : List Placed) (fs : List Field) → map key_of fs ≡ valued_places done → IsFront t (done ++ p ∷ rest) → IsTold fs p.part
is_told t rules done p rest fs e front = by p.part (lists_at t [] done p (rest ++ front.1) (subst (ListsFit t []) (front.2 ∙ append_assoc done (p ∷ rest) front.1) ((facts_of t rules).lists front.0)))
  where
    by : (q : Part) → ListFits t done q → IsTold fs q
    by (part.Plain name id) h = tt
    by (part.Fixed name id v) h = tt
    by (part.Pad n) h = tt
    by (part.List name id z j) h = teller_there t fs z.0 j done h (keys_kept done fs e)
    by (part.Length name id c0 c1) h = tt
    by (part.Check name id n) h = tt

pub front_new : (t : Table) → KeepsRules t → (done : List Placed) (p : Placed) (rest : List Placed) (fs : List Field) → map key_of fs ≡ valued_places done → IsFront t (done ++ p ∷ rest) → value_at fs p.container p.place ≡ None
front_new t rules done p rest fs e front = is_new done p rest fs e (apart_front (done ++ p ∷ rest) front.1 (subst (Pairwise Apart) front.2 (apart_is t rules front.0)))

-- ---- what is noted

module _ (t : Table) (rules : KeepsRules t) (paths : List Steps) (follows : (path : Steps) → Among paths path → Follows t path) (next : (p q : TypeId × ℕ) (path : Steps) → Among paths (p ∷ q ∷ path) → Among paths (q ∷ path)) where
  -- the fields stand in containers of a rank
  abbrev pub AreOf : ℕ → List Field → Type 0
  AreOf n fs = AllByRecursion (λ (f : Field). rules.rank f.container ≡ n) fs

  -- what a nested value changes is not what the fields show
  pub shows_outside : (id : ℕ) (ns ms : List (Option ℤ)) (fs : List Field) (n : ℕ) → AreOf n fs → rules.rank id < n → KeepsOuter t paths id ns ms → Shows t paths ns fs → Shows t paths ms fs
  shows_outside id ns ms fs n of lt keep shows p path v e g h =
      let level : rules.rank (p.0).0 ≡ n = at_all (λ y i. rules.rank y ≡ n) fs (p.0).0 p.1 v of e in
      keep.same rules g p path h (omega (arith, level, lt)) ∙ shows p path v e g h

  -- the number at the first step, where the first step is a part of this type
  pub first_number : (fs : List Field) (y i : ℕ) (name : List ℕ) (own : TypeId) (v : Plain) → part_at t (id_of y, i) ≡ Some (part.Plain name own) → value_at fs y i ≡ Some v → number_on t fs ((id_of y, i) ∷ []) ≡ number_by (slice_get t own.0) (Some v)
  first_number fs y i name own v at e = ap (λ o. number_by (row_at t (type_by o)) (value_at fs y i)) at ∙ ap (number_by (slice_get t own.0)) e

  -- the number behind the first step
  pub later_number : (fs : List Field) (y i : ℕ) (v : Plain) (q : TypeId × ℕ) (path : Steps) → value_at fs y i ≡ Some v → number_on t fs ((id_of y, i) ∷ q ∷ path) ≡ number_on t (fields_in t (Some v)) (q ∷ path)
  later_number fs y i v q path e = ap (λ o. number_by (row_at t (type_on t (q ∷ path))) (value_on t (fields_in t o) (q ∷ path))) e

  module _ (x : ℕ) (w : Walked) (ns : List (Option ℤ)) (b : Bits) (done : List Placed) (s : Progress) (at : IsAt t paths x w ns b done s) where
    -- the fields are of containers of one rank
    pub fields_of_rank : AreOf (rules.rank x) s.fields
    fields_of_rank = keys_all (λ y i. rules.rank y ≡ rules.rank x) done s.fields (at.ranks rules) at.keys

    -- a part without a value was passed
    pub at_passed : (u : Walked) (ms : List (Option ℤ)) (d : Bits) (r : Progress) (p : Placed) (id : ℕ) → has_value p.part ≡ false → ((rs : KeepsRules t) → rs.rank p.container ≡ rs.rank x) → rules.rank id < rules.rank x → KeepsOuter t paths id ns ms
        → r.before ≡ front (bits_left u.start) d → r.octets ≡ u.octets → r.fields ≡ s.fields → IsAt t paths x u ms d (done ++ p ∷ []) r
    at_passed u ms d r p id none rank lt keep before octets same = record {
      before = before;
      octets = octets;
      shows = subst (λ fs. Shows t paths ms fs) (sym same) (shows_outside id ns ms s.fields (rules.rank x) fields_of_rank lt keep at.shows);
      keys = ap (map key_of) same ∙ keys_same done s.fields p none at.keys;
      ints = subst (λ fs. AllByRecursion (IsNumberIfInt t) fs) (sym same) at.ints;
      ranks = λ rs. All-both (λ (q : Placed). rs.rank q.container ≡ rs.rank x) done (p ∷ []) (at.ranks rs) (rank rs, tt);
    }

    -- a part without a value was passed, and nothing noted
    pub at_same : (u : Walked) (d : Bits) (r : Progress) (p : Placed) → has_value p.part ≡ false → ((rs : KeepsRules t) → rs.rank p.container ≡ rs.rank x) → r.before ≡ front (bits_left u.start) d → r.octets ≡ u.octets → r.fields ≡ s.fields → IsAt t paths x u ns d (done ++ p ∷ []) r
    at_same u d r p none rank before octets same = record {
      before = before;
      octets = octets;
      shows = subst (λ fs. Shows t paths ns fs) (sym same) at.shows;
      keys = ap (map key_of) same ∙ keys_same done s.fields p none at.keys;
      ints = subst (λ fs. AllByRecursion (IsNumberIfInt t) fs) (sym same) at.ints;
      ranks = λ rs. All-both (λ (q : Placed). rs.rank q.container ≡ rs.rank x) done (p ∷ []) (at.ranks rs) (rank rs, tt);
    }

    module _ (ms ks : List (Option ℤ)) (d : Bits) (y i : ℕ) (q : Part) (id : ℕ) (v : Plain) (new : value_at s.fields y i ≡ None) (valued : has_value q ≡ true) (rank : (rs : KeepsRules t) → rs.rank y ≡ rs.rank x) (lt : rules.rank id < rules.rank x) (keep : KeepsOuter t paths id ns ms) where
      fs : List Field
      fs = s.fields ++ field_at y i v ∷ []

      -- what the fields before show is shown behind one more field
      shows_before : ((g : ℕ) (p : TypeId × ℕ) (path : Steps) → slice_get paths g ≡ Some (p ∷ path) → ((p.0).0 ≡ y → p.1 ≡ i → ⊥) → slice_get ks g ≡ slice_get ms g)
          → (p : TypeId × ℕ) (path : Steps) (u : Plain) → ((p.0).0 ≡ y → p.1 ≡ i → ⊥) → value_at (s.fields ++ field_at y i v ∷ []) (p.0).0 p.1 ≡ Some u → (g : ℕ) → slice_get paths g ≡ Some (p ∷ path) → slice_get ks g ≡ Some (number_on t (s.fields ++ field_at y i v ∷ []) (p ∷ path))
      unfolding IsOther
      shows_before others p path u off e g h =
          let back : value_at (s.fields ++ field_at y i v ∷ []) (p.0).0 p.1 ≡ value_at s.fields (p.0).0 p.1 = value_before s.fields (field_at y i v ∷ []) (p.0).0 p.1 ((λ k. off (sym k.0) (sym k.1)), tt) in
          others g p path h off ∙ shows_outside id ns ms s.fields (rules.rank x) fields_of_rank lt keep at.shows p path u (sym back ∙ e) g h ∙ ap Some (sym (same_number t (s.fields ++ field_at y i v ∷ []) s.fields p path back))

      -- a part with a value was passed, whose numbers are shown
      pub at_kept : (w : Walked) (r : Progress) → ((path : Steps) (g : ℕ) → slice_get paths g ≡ Some ((id_of y, i) ∷ path) → slice_get ks g ≡ Some (number_on t (s.fields ++ field_at y i v ∷ []) ((id_of y, i) ∷ path)))
          → ((g : ℕ) (p : TypeId × ℕ) (path : Steps) → slice_get paths g ≡ Some (p ∷ path) → ((p.0).0 ≡ y → p.1 ≡ i → ⊥) → slice_get ks g ≡ slice_get ms g)
          → IsNumberIfInt t (field_at y i v) → r.before ≡ front (bits_left w.start) d → r.octets ≡ w.octets → r.fields ≡ s.fields ++ field_at y i v ∷ []
          → IsAt t paths x w ks d (done ++ record { container = y; place = i; part = q } ∷ []) r
      at_kept u r here others int before octets same = record {
        before = before;
        octets = octets;
        shows = subst (λ fs. Shows t paths ks fs) (sym same) shown;
        keys = ap (map key_of) same ∙ keys_more done s.fields (record { container = y; place = i; part = q }) v valued at.keys;
        ints = subst (λ fs. AllByRecursion (IsNumberIfInt t) fs) (sym same) (All-both (IsNumberIfInt t) s.fields (field_at y i v ∷ []) at.ints (int, tt));
        ranks = λ rs. All-both (λ (q : Placed). rs.rank q.container ≡ rs.rank x) done (record { container = y; place = i; part = q } ∷ []) (at.ranks rs) (rank rs, tt);
      }
        where
          shown : Shows t paths ks (s.fields ++ field_at y i v ∷ [])
          shown p path z e g h = go ((p.0).0 == y) refl (p.1 == i) refl
            where
              go : (c : Bool) → ((p.0).0 == y) ≡ c → (k : Bool) → (p.1 == i) ≡ k → slice_get ks g ≡ Some (number_on t (s.fields ++ field_at y i v ∷ []) (p ∷ path))
              go false e1 k e2 = shows_before others p path z (λ a c. let q : true ≡ false = sym (eq-eqb (p.0).0 y a) ∙ e1 in absurd cc) e g h
              go true e1 false e2 = shows_before others p path z (λ a c. let q : true ≡ false = sym (eq-eqb p.1 i c) ∙ e2 in absurd cc) e g h
              go true e1 true e2 =
                  let is : p ≡ (id_of y, i) = ap (λ n. (id_of n, p.1)) (eqb-true (p.0).0 y e1) ∙ ap (λ n. (id_of y, n)) (eqb-true p.1 i e2) in
                  here path g (h ∙ ap (λ (a : TypeId × ℕ). Some (a ∷ path)) is) ∙ ap (λ (a : TypeId × ℕ). Some (number_on t (s.fields ++ field_at y i v ∷ []) (a ∷ path))) (sym is)
