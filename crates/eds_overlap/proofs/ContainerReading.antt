-- Containers are read exactly.
use Rattle.eds_base.specs.declared.fault.Fault.{Fault}
use Rattle.std.proofs.Common.{◌≡◌, ℕ, List, [], ◌∷◌, ◌++◌, length, map, drop, reverse, Option, Some, None, Ok, Err, refl, sym, ap, subst, ◌∙◌, append_assoc, append-nil, inl, inr}
use Rattle.std.specs.List.{AllByRecursion, flat_map}
use Rattle.std.proofs.lemmas.Grind.{flat_map-append}
use Rattle.std.proofs.Math.Seq.{drop-append_seam}
use Rattle.eds_types.specs.declared.row.Constraint.{Constraint as Condition}
use Rattle.eds_types.specs.declared.row.Container.{Container}
use Rattle.eds_types.specs.declared.row.Kind.TheVariants as kind
use Rattle.eds_bits.specs.Bits.{Bits}
use Rattle.eds_bits.specs.Style.{any}
use Rattle.eds_overlap.proofs.Course.{Runs, tail, Family, Run, container_from}
use Rattle.eds_overlap.proofs.CourseSpelling.{spelling_of}
use Rattle.eds_overlap.proofs.Taken.{Kept, Agreeing, container_to}
use Rattle.eds_types.proofs.ChainLaws.{chain_step, same_chain, under_is, child_is, under_in, front_same, chain_front}
use Rattle.eds_types.proofs.ExactReading.{ok_err, Front, Is, Exact, done, ok_is, err_is, regroup}
use Rattle.eds_types.proofs.FieldKeys.{Holds-more, Holds-before, NotAbove, PartNotAbove, later_entries, later_trailers}
use Rattle.eds_types.proofs.Grown.{grown}
use Rattle.eds_types.proofs.SameValues.{list_of-plains_of, plains_of-list_of}
use Rattle.eds_types.specs.Failing.{Station, condition, entry, choice, end, chosen_stations, own_stations, course, StationFails, Passes, KindFails}
use Rattle.eds_types.specs.Fields.{Field, values_of, Holds, IsCandidate, StartsInEntries, constraints_along}
use Rattle.eds_types.specs.Plain.{Plain, fields, list_of, plains_of}
use Rattle.eds_types.specs.Reading.{Read, Ends, ended, read_to_end}
use Rattle.eds_types.specs.Rows.{Table, chain, base_of, constraints_of, Placed, placed_entries, placed_trailers, sequence}
use Rattle.eds_types.proofs.TailSizes.{EntriesPass, only_parts}
use Rattle.eds_types.specs.Spelling.{Progress, started, SizeFits, ContainerSpells, KindSpells}
use Rattle.eds_types.proofs.Tables.{IsTable}
use Rattle.eds_types.proofs.AllOf.{All-weaker, All-both, All-front, All-back, All-apply}

module _ (t : Table) (SpellsInner : ℕ → Plain → Bits → Type 0) where
  grown_in : (Q : ℕ → ℕ → Type 0) (ps : List Placed) (s u : Progress) (b : Bits) → AllByRecursion (λ (p : Placed). Q p.container p.place) ps → EntriesPass t SpellsInner s ps u b → (gs : List Field) × (u.fields ≡ s.fields ++ gs) × AllByRecursion (λ (f : Field). Q f.container f.place) gs
  grown_in Q ps s u b a h = grown any t SpellsInner Q ps s u b a (only_parts t SpellsInner ps s u b h)

  -- ---- from the spelling to what is passed

  entries_then : (x : ℕ) (more : List Station) (qs ps : List Placed) (s u : Progress) (b : Bits) → EntriesPass t SpellsInner s (ps ++ qs) u b → ((m : Progress) (d : Bits) → EntriesPass t SpellsInner m qs u d → Passes t SpellsInner x m more u d) → Passes t SpellsInner x s (map entry ps ++ more) u b
  entries_then x more qs [] s u b h k = k s b h
  entries_then x more qs (p ∷ ps) s u b h k = (h.0, h.1, h.2, h.3, h.4, entries_then x more qs ps h.0 u h.2 h.5 k)

  conditions_then : (x y : ℕ) (more : List Station) (cs : List Condition) (s u : Progress) (b : Bits) → AllByRecursion (Holds t s.fields) cs → Passes t SpellsInner x s more u b → Passes t SpellsInner x s (map (condition y) cs ++ more) u b
  conditions_then x y more [] s u b h k = k
  conditions_then x y more (c ∷ cs) s u b h k = (s, [], b, refl, (refl, refl, h.0), conditions_then x y more cs s u b h.1 k)

  module _ (is : IsTable t) (FailsInner : ℕ → Bits → Fault → Type 0) where
    E : List ℕ → List Placed
    E ys = flat_map (placed_entries t) ys

    -- constraints of y hold where y begins
    hold_before : (k y : ℕ) (zs ws vs : List ℕ) (s u : Progress) (b : Bits) → chain t k ≡ zs ++ y ∷ ws → EntriesPass t SpellsInner s (flat_map (placed_entries t) (y ∷ ws) ++ flat_map (placed_trailers t) vs) u b → AllByRecursion (Holds t u.fields) (constraints_of t y) → AllByRecursion (Holds t s.fields) (constraints_of t y)
    hold_before k y zs ws vs s u b e h a = go (base_of t y) refl
      where
        own_chain : chain t y ≡ zs ++ y ∷ []
        own_chain = chain_front t is 16 k (is.low k) (base_of t k) refl zs y ws e

        go : (o : Option ℕ) → base_of t y ≡ o → AllByRecursion (Holds t s.fields) (constraints_of t y)
        go None n = rw (is.root_conditions y n) tt
        go (Some x) n =
            let zs_is : zs ≡ chain t x = front_same zs (chain t x) y y (sym own_chain ∙ chain_step t is y (Some x) n) in
            let e' : chain t k ≡ chain t x ++ ([] ++ y ∷ ws) = e ∙ ap (λ z. z ++ y ∷ ws) zs_is in
            let g = grown_in (NotAbove t x) (flat_map (placed_entries t) (y ∷ ws) ++ flat_map (placed_trailers t) vs) s u b (All-both (PartNotAbove t x) (flat_map (placed_entries t) (y ∷ ws)) (flat_map (placed_trailers t) vs) (later_entries t is k x [] (y ∷ ws) e') (later_trailers t is x vs)) h in
            All-apply (λ (c : Condition). StartsInEntries t x c.path) (Holds t s.fields) (constraints_of t y)
            (All-weaker (Holds t u.fields) (λ (c : Condition). StartsInEntries t x c.path → Holds t s.fields c) (λ c q st. Holds-before t x s.fields g.0 c g.2 st (subst (λ fs. Holds t fs c) g.1 q)) (constraints_of t y) a)
            (is.conditions y x n)

    chain_then : (x : ℕ) (more : List Station) (after vs ys zs : List ℕ) (s u : Progress) (b : Bits) → chain t x ≡ zs ++ (ys ++ after)
        → EntriesPass t SpellsInner s (flat_map (placed_entries t) (ys ++ after) ++ flat_map (placed_trailers t) vs) u b → AllByRecursion (Holds t u.fields) (flat_map (constraints_of t) ys)
        → ((m : Progress) (d : Bits) → EntriesPass t SpellsInner m (flat_map (placed_entries t) after ++ flat_map (placed_trailers t) vs) u d → Passes t SpellsInner x m more u d) → Passes t SpellsInner x s (flat_map (own_stations t) ys ++ more) u b
    chain_then x more after vs [] zs s u b e h a k = k s b h
    chain_then x more after vs (y ∷ ys) zs s u b e h a k =
        let rest = flat_map (own_stations t) ys ++ more in
        let qs = flat_map (placed_entries t) (ys ++ after) ++ flat_map (placed_trailers t) vs in
        let now = hold_before x y zs (ys ++ after) vs s u b e h (All-front (Holds t u.fields) (constraints_of t y) (flat_map (constraints_of t) ys) a) in
        let later_ones = All-back (Holds t u.fields) (constraints_of t y) (flat_map (constraints_of t) ys) a in
        let h' = subst (λ ps. EntriesPass t SpellsInner s ps u b) (append_assoc (placed_entries t y) (flat_map (placed_entries t) (ys ++ after)) (flat_map (placed_trailers t) vs)) h in
        subst (λ l. Passes t SpellsInner x s l u b) (sym (append_assoc (own_stations t y) (flat_map (own_stations t) ys) more ∙ append_assoc (map (condition y) (constraints_of t y)) (map entry (placed_entries t y)) rest))
        (conditions_then x y (map entry (placed_entries t y) ++ rest) (constraints_of t y) s u b now
        (entries_then x rest qs (placed_entries t y) s u b h' (λ m d q. chain_then x more after vs ys (zs ++ y ∷ []) m u d (e ∙ sym (append_assoc zs (y ∷ []) (ys ++ after))) q later_ones k)))

    abbrev vs_of : ℕ → List ℕ
    vs_of x = reverse (chain t x)

    module _ (top x : ℕ) (fs : List Plain) (all : Bits) (sp : ContainerSpells any t SpellsInner top x fs all) (parts_in : EntriesPass t SpellsInner started (sequence t x) (sp.end) all) where
      -- the container itself is a candidate at each choice above it
      candidate_at : (y : ℕ) (zs : List ℕ) (s : Progress) (b : Bits) → chain t x ≡ chain t y ++ zs → EntriesPass t SpellsInner s (flat_map (placed_entries t) zs ++ flat_map (placed_trailers t) (vs_of x)) (sp.end) b → IsCandidate t y x s.fields
      candidate_at y zs s b e h =
          let g = grown_in (NotAbove t y) (flat_map (placed_entries t) zs ++ flat_map (placed_trailers t) (vs_of x)) s (sp.end) b (All-both (PartNotAbove t y) (flat_map (placed_entries t) zs) (flat_map (placed_trailers t) (vs_of x)) (later_entries t is x y [] zs e) (later_trailers t is y (vs_of x))) h in
          record {
            concrete = sp.concrete;
            under = under_in t is y x zs e;
            holds = All-weaker (Holds t (sp.end).fields) (λ (c : Condition). StartsInEntries t y c.path → Holds t s.fields c) (λ c q st. Holds-before t y s.fields g.0 c g.2 st (subst (λ fs. Holds t fs c) g.1 q)) (constraints_along t x) sp.constraints;
          }

      finish_then : (s u : Progress) (b : Bits) → u ≡ sp.end → EntriesPass t SpellsInner s (flat_map (placed_trailers t) (vs_of x)) u b → Passes t SpellsInner x s (tail t SpellsInner FailsInner x) u b
      finish_then s u b e h = entries_then x (end ∷ []) [] (flat_map (placed_trailers t) (vs_of x)) s u b (subst (λ ps. EntriesPass t SpellsInner s ps u b) (sym (append-nil (flat_map (placed_trailers t) (vs_of x)))) h)
          (λ m d q. (m, [], d, refl, (refl, refl, subst (SizeFits) (sym e ∙ q.0) sp.size), (q.0, q.1)))

      under_then : (y : ℕ) (zs : List ℕ) (s : Progress) (b : Bits) → chain t x ≡ chain t y ++ zs → EntriesPass t SpellsInner s (flat_map (placed_entries t) zs ++ flat_map (placed_trailers t) (vs_of x)) (sp.end) b → Passes t SpellsInner x s (choice y ∷ (chosen_stations t zs ++ tail t SpellsInner FailsInner x)) (sp.end) b
      under_then y [] s b e h =
          let same : y ≡ x = sym (same_chain t is x y (e ∙ append-nil (chain t y))) in
          let g = grown_in (λ z i. Unit {0}) (flat_map (placed_trailers t) (vs_of x)) s (sp.end) b (anywhere (flat_map (placed_trailers t) (vs_of x))) h in
          (s, [], b, refl, (refl, refl, inr (same, sp.concrete, λ l ne un c. sp.most_derived l ne un (subst (IsCandidate t x l) (sym g.1) (more_candidate x l s.fields g.0 c)))), finish_then s (sp.end) b refl h)
        where
          anywhere : (ps : List Placed) → AllByRecursion (λ (p : Placed). Unit {0}) ps
          anywhere [] = tt
          anywhere (p ∷ ps) = (tt, anywhere ps)

          more_candidate : (x l : ℕ) (fs gs : List Field) → IsCandidate t x l fs → IsCandidate t x l (fs ++ gs)
          more_candidate x l fs gs h = record { concrete = h.concrete; under = h.under; holds = All-weaker (λ (c : Condition). StartsInEntries t x c.path → Holds t fs c) (λ (c : Condition). StartsInEntries t x c.path → Holds t (fs ++ gs) c) (λ c k st. Holds-more t fs gs c (k st)) (constraints_along t l) h.holds }
      under_then y (z ∷ zs) s b e h =
          let chain_z = (child_is t is y z x zs e).0 in
          let ex : chain t x ≡ chain t z ++ zs = e ∙ sym (append_assoc (chain t y) (z ∷ []) zs) ∙ ap (λ c. c ++ zs) (sym chain_z) in
          let qs = flat_map (placed_entries t) zs ++ flat_map (placed_trailers t) (vs_of x) in
          let h' = subst (λ ps. EntriesPass t SpellsInner s ps (sp.end) b) (append_assoc (placed_entries t z) (flat_map (placed_entries t) zs) (flat_map (placed_trailers t) (vs_of x))) h in (
            s,
            [],
            b,
            refl,
            (refl, refl, inl (record { candidate = x; is = candidate_at y (z ∷ zs) s b e h; child = z; towards = (zs, e); under = under_in t is z x zs ex })),
            subst (λ l. Passes t SpellsInner x s l (sp.end) b) (sym (append_assoc (map entry (placed_entries t z) ++ choice z ∷ []) (chosen_stations t zs) (tail t SpellsInner FailsInner x) ∙ append_assoc (map entry (placed_entries t z)) (choice z ∷ []) (chosen_stations t zs ++ tail t SpellsInner FailsInner x)))
                (entries_then x (choice z ∷ (chosen_stations t zs ++ tail t SpellsInner FailsInner x)) qs (placed_entries t z) s (sp.end) b h' (λ m d q. under_then z zs m d ex q)),
          )

      pub passes_of : Passes t SpellsInner x started (course t top x) (sp.end) all
      passes_of =
          let un = sp.under in
          let up = (under_is t is top x un.before un.after un.is).1 in
          let zs = un.after in
          let c_is : course t top x ≡ flat_map (own_stations t) (chain t top) ++ (choice top ∷ (chosen_stations t zs ++ tail t SpellsInner FailsInner x)) = ap (λ q. flat_map (own_stations t) (chain t top) ++ (choice top ∷ (chosen_stations t q ++ tail t SpellsInner FailsInner x))) (ap (drop (length (chain t top))) up ∙ drop-append_seam (chain t top) zs) in
          let h = subst (λ c. EntriesPass t SpellsInner started (flat_map (placed_entries t) c ++ flat_map (placed_trailers t) (vs_of x)) (sp.end) all) up parts_in in
          let a = All-front (Holds t (sp.end).fields) (flat_map (constraints_of t) (chain t top)) (flat_map (constraints_of t) zs) (subst (AllByRecursion (Holds t (sp.end).fields)) (ap (flat_map (constraints_of t)) up ∙ flat_map-append (constraints_of t) (chain t top) zs) sp.constraints) in
          subst (λ l. Passes t SpellsInner x started l (sp.end) all) (sym c_is) (chain_then x (choice top ∷ (chosen_stations t zs ++ tail t SpellsInner FailsInner x)) zs (vs_of x) (chain t top) [] started (sp.end) all up h a (λ m d q. under_then top zs m d up q))

  -- ---- runs and what is passed

  module _ (FailsInner : ℕ → Bits → Fault → Type 0) (x : ℕ) where
    pub to_run : (ss : List Station) (s u : Progress) (c b rest : Bits) → Passes t SpellsInner x s ss u c → b ≡ c ++ rest → Runs t SpellsInner FailsInner x ss s b (Ok (x, u, rest))
    to_run [] s u c b rest h e = ap (λ z. done (x, z, rest)) h.0 ∙ ap (λ z. done (x, s, z)) (sym (e ∙ ap (λ z. z ++ rest) h.1))
    to_run (p ∷ ss) s u c b rest h e = inr (h.0, h.1, h.2 ++ rest, e ∙ ap (λ z. z ++ rest) h.3 ∙ append_assoc h.1 h.2 rest, h.4, to_run ss h.0 u h.2 (h.2 ++ rest) rest h.5 refl)

    pub from_run : (ss : List Station) (s : Progress) (b : Bits) (w : ℕ × Progress × Bits) → Runs t SpellsInner FailsInner x ss s b (Ok w) → (w.0 ≡ x) × Front (Passes t SpellsInner x s ss w.1) b w.2
    from_run [] s b w h =
        let e : w ≡ (x, s, b) = ok_is w (x, s, b) h in
        (ap (λ z. z.0) e, record { front = []; is = sym (ap (λ z. z.2) e); has = (ap (λ z. z.1) e, refl) })
    from_run (p ∷ ss) s b w (inl f) = absurd (ok_err (done w) w f.0 refl f.2)
    from_run (p ∷ ss) s b w (inr q) =
        let r = from_run ss q.0 q.2 w q.5 in
        (r.0, record { front = q.1 ++ r.1.front; is = regroup b q.1 q.2 r.1.front w.2 q.3 r.1.is; has = (q.0, q.1, r.1.front, refl, q.4, r.1.has) })

    pub to_fault : (done' : List Station) (station : Station) (rest : List Station) (s m : Progress) (b c d : Bits) (g : Fault) → Passes t SpellsInner x s done' m c → b ≡ c ++ d → StationFails t SpellsInner FailsInner x m station d g → Runs t SpellsInner FailsInner x (done' ++ station ∷ rest) s b (Err g)
    to_fault [] station rest s m b c d g h e f =
        let same : b ≡ d = e ∙ ap (λ z. z ++ d) h.1 in
        inl (g, subst (λ z. StationFails t SpellsInner FailsInner x s station z g) (sym same) (subst (λ z. StationFails t SpellsInner FailsInner x z station d g) h.0 f), refl)
    to_fault (p ∷ ps) station rest s m b c d g h e f = inr (h.0, h.1, h.2 ++ d, e ∙ ap (λ z. z ++ d) h.3 ∙ append_assoc h.1 h.2 d, h.4, to_fault ps station rest h.0 m (h.2 ++ d) h.2 d g h.5 refl f)

    pub record Stop (ss : List Station) (s : Progress) (b : Bits) (g : Fault) : Type 0 where
      pub before : List Station
      pub station : Station
      pub rest : List Station
      pub is : ss ≡ before ++ station ∷ rest
      pub state : Progress
      pub c : Bits
      pub d : Bits
      pub bits : b ≡ c ++ d
      pub passes : Passes t SpellsInner x s before state c
      pub fails : StationFails t SpellsInner FailsInner x state station d g

    pub from_fault : (ss : List Station) (s : Progress) (b : Bits) (g : Fault) → Runs t SpellsInner FailsInner x ss s b (Err g) → Stop ss s b g
    from_fault [] s b g h = absurd (ok_err (done (x, s, b)) (x, s, b) g refl (sym h))
    from_fault (p ∷ ss) s b g (inl f) = record { before = []; station = p; rest = ss; is = refl; state = s; c = []; d = b; bits = refl; passes = (refl, refl); fails = subst (StationFails t SpellsInner FailsInner x s p b) (sym (err_is (ℕ × Progress × Bits) g f.0 f.2)) f.1 }
    from_fault (p ∷ ss) s b g (inr q) =
        let r = from_fault ss q.0 q.2 g q.5 in
        record { before = p ∷ r.before; station = r.station; rest = r.rest; is = ap (λ z. p ∷ z) r.is; state = r.state; c = q.1 ++ r.c; d = r.d; bits = regroup b q.1 q.2 r.c r.d q.3 r.bits; passes = (q.0, q.1, r.c, refl, q.4, r.passes); fails = r.fails }

module _ (t : Table) (is : IsTable t) (read : ℕ → Bits → Read Plain) (SpellsInner : ℕ → Plain → Bits → Type 0) (FailsInner : ℕ → Bits → Fault → Type 0) (top : ℕ) (family : Family t SpellsInner FailsInner read top) (Inv : Progress → Type 0) (kept : Kept t read SpellsInner FailsInner top Inv) (agrees : Agreeing t read SpellsInner FailsInner top Inv) (fit : (k : ℕ) (fs : List Plain) (b : Bits) (sp : ContainerSpells any t SpellsInner top k fs b) → EntriesPass t SpellsInner started (sequence t k) (sp.end) b) where
  pub container_exact : (c : Container) → Exact (λ b. ended t read (read_to_end t read top b)) (KindSpells any t SpellsInner top (kind.Con c)) (KindFails t SpellsInner FailsInner top (kind.Con c))
  container_exact c = record { from = λ b. there b (read_to_end t read top b) (container_from t SpellsInner FailsInner read is top family b); to = back }
    where
      there : (b : Bits) (r : Ends) → Run t SpellsInner FailsInner read is top family b r → Is (KindSpells any t SpellsInner top (kind.Con c)) (KindFails t SpellsInner FailsInner top (kind.Con c)) b (ended t read r)
      there b (Ok w) h =
          let p = from_run t SpellsInner FailsInner h.x (course t top h.x) started b w h.runs in
          let sp = spelling_of t SpellsInner is FailsInner top h.x w.1 p.1.front h.under p.1.has in
          let vs = values_of (w.1).fields in
          record { front = p.1.front; is = p.1.is; has = (w.0, plains_of vs, refl, subst (λ k. ContainerSpells any t SpellsInner top k (list_of (plains_of vs)) p.1.front) (sym p.0) (subst (λ f. ContainerSpells any t SpellsInner top h.x f p.1.front) (sym (list_of-plains_of vs)) sp)) }
      there b (Err g) h =
          let p = from_fault t SpellsInner FailsInner h.x (course t top h.x) started b g h.runs in
          record { x = h.x; under = h.under; done = p.before; station = p.station; rest = p.rest; is_course = p.is; state = p.state; c = p.c; d = p.d; bits = p.bits; passes = p.passes; fails = p.fails }

      back : (b : Bits) (r : Read Plain) → Is (KindSpells any t SpellsInner top (kind.Con c)) (KindFails t SpellsInner FailsInner top (kind.Con c)) b r → ended t read (read_to_end t read top b) ≡ r
      back b (Ok v) h =
          let sp = (h.has).3 in
          let k = (h.has).0 in
          let run = to_run t SpellsInner FailsInner k (course t top k) started (sp.end) h.front b v.1 (passes_of t SpellsInner is FailsInner top k (list_of (h.has).1) h.front sp (fit k (list_of (h.has).1) h.front sp)) h.is in
          let e = container_to t read SpellsInner FailsInner top Inv is kept agrees b (Ok (k, sp.end, v.1)) k sp.under run in
          ap (ended t read) e ∙ ap (λ vs. done (fields k (plains_of vs), v.1)) (sym sp.values) ∙ ap (λ f. done (fields k f, v.1)) (plains_of-list_of (h.has).1) ∙ ap (λ w. done (w, v.1)) (sym (h.has).2)
      back b (Err g) h =
          let run = to_fault t SpellsInner FailsInner h.x h.done h.station h.rest started h.state b h.c h.d g h.passes h.bits h.fails in
          let run' = subst (λ l. Runs t SpellsInner FailsInner h.x l started b (Err g)) (sym h.is_course) run in
          ap (ended t read) (container_to t read SpellsInner FailsInner top Inv is kept agrees b (Err g) h.x h.under run')
