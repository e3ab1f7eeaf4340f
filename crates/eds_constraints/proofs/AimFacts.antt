-- Where the paths of constraints lead: each step is at an entry that has the name.
use Rattle.std.proofs.Common.{◌≡◌, ℕ, ◌+◌, ◌<◌, Bool, true, false, List, [], ◌∷◌, ◌++◌, map, length, reverse, Option, Some, None, refl, sym, ap, subst, ◌∙◌, append_assoc, append-nil, arith}
use Rattle.std.specs.Prelude.{if◌then◌else◌, nat_lt, option_map, is_some, slice_get}
use Rattle.std.specs.List.{AllByRecursion, flat_map}
use Rattle.std.proofs.lemmas.List.{map-append}
use Rattle.std.proofs.lemmas.Slice.Eq.{bytes_eq-Decides}
use Rattle.eds_base.specs.Reading.{◌>>=◌, same, only}
use Rattle.eds_base.specs.declared.ids.TypeId.{TypeId}
use Rattle.eds_bits.specs.Lists.{Has}
use Rattle.eds_types.specs.declared.row.Part.{Part}
use Rattle.eds_types.specs.declared.row.Part.TheVariants as part
use Rattle.eds_types.specs.Fields.{part_at, type_by, type_on, StartsInEntries}
use Rattle.eds_types.specs.Rows.{Table, Placed, address, entries_of, trailers_of, container_of, placed_from, placed_entries, placed_trailers, chain, sequence}
use Rattle.eds_types.specs.Rules.{IsContainer, Follows}
use Rattle.eds_types.proofs.AllOf.{All-both, All-flat, All-has, All-reverse}
use Rattle.eds_constraints.specs.declared.asked.Aim.{Aim}
use Rattle.eds_constraints.specs.declared.asked.Asked.{Asked}
use Rattle.eds_constraints.specs.Paths.{is_point, before_names, names_in, called, is_called, place_called, first_called, entry_type, entry_at, is_listed, first_step, further_step, follow, aim_from, suits_row, suited, aim_of}

-- ---- names in a text

-- names, each behind a point
abbrev pointed : List (List ℕ) → List ℕ
pointed [] = []
pointed (name ∷ names) = 46 ∷ (name ++ pointed names)

point_is : (c : ℕ) → is_point c ≡ true → c ≡ 46
point_is c e = grind arith

before_first : (c : ℕ) (names : List (List ℕ)) (text : List ℕ) → pointed names ≡ 46 ∷ text → pointed (before_names c names) ≡ 46 ∷ c ∷ text
before_first c [] text e = absurd cc
before_first c (name ∷ names) text e = let f : name ++ pointed names ≡ text = cc in ap (λ xs. 46 ∷ c ∷ xs) f

behind_point : (text : List ℕ) → pointed (names_in text) ≡ 46 ∷ text
behind_point [] = refl
behind_point (c ∷ text) = go (is_point c) refl (behind_point text)
  where
    go : (b : Bool) → is_point c ≡ b → pointed (names_in text) ≡ 46 ∷ text → pointed (names_in (c ∷ text)) ≡ 46 ∷ c ∷ text
    go true e more = let f : c ≡ 46 = point_is c e in rw e (ap (λ xs. 46 ∷ xs) more ∙ ap (λ x. 46 ∷ x ∷ text) (sym f))
    go false e more = rw e (before_first c (names_in text) text more)

-- texts with the same names are one
pub one_text : (a b : List ℕ) → names_in a ≡ names_in b → a ≡ b
one_text a b e = let f : 46 ∷ a ≡ 46 ∷ b = sym (behind_point a) ∙ ap pointed e ∙ behind_point b in cc

-- ---- places

All-map : {A B : Type 0} (P : B → Type 0) (f : A → B) (xs : List A) → AllByRecursion (λ x. P (f x)) xs → AllByRecursion P (map f xs)
All-map P f [] h = tt
All-map P f (x ∷ xs) h = (h.0, All-map P f xs h.1)

-- the name of a part, the empty text where there is none
abbrev pub name_in : Option Part → List ℕ
name_in None = []
name_in (Some p) = called p

module _ (t : Table) where
  placed_on : (P : ℕ → Type 0) (y i : ℕ) (ps : List Part) → P y → AllByRecursion (λ (p : Placed). P p.container) (placed_from y i ps)
  placed_on P y i [] h = tt
  placed_on P y i (p ∷ ps) h = (h, placed_on P y (i + 1) ps h)

  on_chain : (k : ℕ) → AllByRecursion (λ (p : Placed). Has (chain t k) p.container) (sequence t k)
  on_chain k =
      All-both (λ (p : Placed). Has (chain t k) p.container) (flat_map (placed_entries t) (chain t k)) (flat_map (placed_trailers t) (reverse (chain t k)))
      (All-flat (λ (p : Placed). Has (chain t k) p.container) (Has (chain t k)) (placed_entries t) (λ y h. placed_on (Has (chain t k)) y 0 (entries_of t y) h) (chain t k) (All-has [] (chain t k)))
      (All-flat (λ (p : Placed). Has (chain t k) p.container) (Has (chain t k)) (placed_trailers t) (λ y h. placed_on (Has (chain t k)) y (length (entries_of t y)) (trailers_of t y) h) (reverse (chain t k)) (All-reverse (Has (chain t k)) (chain t k) (All-has [] (chain t k))))

  found : (name : List ℕ) (Q : TypeId × ℕ → Type 0) (ps : List (TypeId × ℕ)) (p : TypeId × ℕ) → AllByRecursion Q ps → place_called t name ps ≡ Some p → Q p × (is_called name (part_at t p) ≡ true)
  found name Q [] p h e = absurd cc
  found name Q (x ∷ ps) p h e = go (is_called name (part_at t x)) refl (found name Q ps p h.1)
    where
      go : (b : Bool) → is_called name (part_at t x) ≡ b → (place_called t name ps ≡ Some p → Q p × (is_called name (part_at t p) ≡ true)) → Q p × (is_called name (part_at t p) ≡ true)
      go true f more = let g : Some x ≡ Some p = rw f at e in let q : x ≡ p = cc in subst (λ y. Q y × (is_called name (part_at t y) ≡ true)) q (h.0, f)
      go false f more = more (rw f at e)

  -- ---- steps

  -- a step from a type, by a name, to the entry of a container of its chain that has this name
  pub record IsStep (k : ℕ) (name : List ℕ) (e : (TypeId × ℕ) × TypeId) : Type 0 where
    pub on : Has (chain t k) ((e.0).0).0
    pub entry : part_at t e.0 ≡ Some (part.Plain name e.1)

  entry_is : (o : Option Part) (p : TypeId × ℕ) (e : (TypeId × ℕ) × TypeId) → option_map {U = (TypeId × ℕ) × TypeId} (λ id. (p, id)) (entry_type o) ≡ Some e → (p ≡ e.0) × (name : List ℕ) × (o ≡ Some (part.Plain name e.1))
  entry_is None p e is = absurd cc
  entry_is (Some (part.Plain name id)) p e is = let q : (p, id) ≡ e = cc in (ap (λ (x : (TypeId × ℕ) × TypeId). x.0) q, name, ap (λ (x : (TypeId × ℕ) × TypeId). Some (part.Plain name x.1)) q)
  entry_is (Some (part.Fixed name id v)) p e is = absurd cc
  entry_is (Some (part.Pad n)) p e is = absurd cc
  entry_is (Some (part.List name id y i)) p e is = absurd cc
  entry_is (Some (part.Length name id c0 c1)) p e is = absurd cc
  entry_is (Some (part.Check name id k)) p e is = absurd cc

  step_is : (k : ℕ) (name : List ℕ) (p : TypeId × ℕ) (e : (TypeId × ℕ) × TypeId) → first_called t k name ≡ Some p → entry_at t p ≡ Some e → (p ≡ e.0) × IsStep k name e
  step_is k name p e f is =
      let at = found name (λ (q : TypeId × ℕ). Has (chain t k) (q.0).0) (map address (sequence t k)) p (All-map (λ (q : TypeId × ℕ). Has (chain t k) (q.0).0) address (sequence t k) (on_chain k)) f in
      let entry = entry_is (part_at t p) p e is in
      let named : same entry.1 name ≡ true = sym (ap (is_called name) entry.2) ∙ at.1 in (
        entry.0,
        record {
          on = subst (λ (q : TypeId × ℕ). Has (chain t k) (q.0).0) entry.0 at.0;
          entry = ap (part_at t) (sym entry.0) ∙ entry.2 ∙ ap (λ n. Some (part.Plain n e.1)) ((bytes_eq-Decides entry.1 name).0 named);
        },
      )

  first_is : (base : ℕ) (name : List ℕ) (e : (TypeId × ℕ) × TypeId) → first_step t base name ≡ Some e → IsStep base name e × ((e.0).1 < length (entries_of t ((e.0).0).0))
  first_is base name e is = go (first_called t base name) refl is
    where
      go : (o : Option (TypeId × ℕ)) → first_called t base name ≡ o → (o >>= λ p. if is_listed t p then entry_at t p else None) ≡ Some e → IsStep base name e × ((e.0).1 < length (entries_of t ((e.0).0).0))
      go None f h = absurd cc
      go (Some p) f h = by (is_listed t p) refl h
        where
          below : (i n : ℕ) → nat_lt i n ≡ true → i < n
          below i n h = grind arith

          by : (b : Bool) → is_listed t p ≡ b → (if b then entry_at t p else None) ≡ Some e → IsStep base name e × ((e.0).1 < length (entries_of t ((e.0).0).0))
          by true g h = let s = step_is base name p e f h in (s.1, subst (λ (q : TypeId × ℕ). q.1 < length (entries_of t (q.0).0)) s.0 (below p.1 (length (entries_of t (p.0).0)) g))
          by false g h = absurd cc

  further_is : (id : ℕ) (name : List ℕ) (e : (TypeId × ℕ) × TypeId) → further_step t id name ≡ Some e → IsContainer t id × IsStep id name e
  further_is id name e is = go (is_some (container_of t id)) refl is
    where
      go : (b : Bool) → is_some (container_of t id) ≡ b → (if b then first_called t id name >>= entry_at t else None) ≡ Some e → IsContainer t id × IsStep id name e
      go true f h = (f, by (first_called t id name) refl h)
        where
          by : (o : Option (TypeId × ℕ)) → first_called t id name ≡ o → (o >>= entry_at t) ≡ Some e → IsStep id name e
          by None g h = absurd cc
          by (Some p) g h = (step_is id name p e g h).1
      go false f h = absurd cc

  -- ---- paths

  -- the last step of a path is at an entry of this type
  abbrev pub EndsAt : List (TypeId × ℕ) → TypeId → Type 0
  EndsAt [] id = ⊥
  EndsAt (p ∷ []) id = (name : List ℕ) × (part_at t p ≡ Some (part.Plain name id))
  EndsAt (p ∷ q ∷ path) id = EndsAt (q ∷ path) id

  -- the name of the part at a place
  abbrev pub name_at : TypeId × ℕ → List ℕ
  name_at p = name_in (part_at t p)

  pub record IsPath (base : ℕ) (names : List (List ℕ)) (aim : Aim) : Type 0 where
    pub starts : StartsInEntries t base aim.path
    pub follows : Follows t aim.path
    pub ends : EndsAt aim.path aim.target
    pub named : names ≡ map name_at aim.path

  one_further : (path : List (TypeId × ℕ)) (id : TypeId) (e : (TypeId × ℕ) × TypeId) (name : List ℕ) → Follows t path → EndsAt path id → IsContainer t id.0 → IsStep id.0 name e → Follows t (path ++ e.0 ∷ []) × EndsAt (path ++ e.0 ∷ []) e.1
  one_further [] id e name f l c s = absurd f
  one_further (p ∷ []) id e name f l c s = ((l.0, id, l.1, c, s.on, (name, e.1, s.entry)), (name, s.entry))
  one_further (p ∷ q ∷ path) id e name f l c s = let g = one_further (q ∷ path) id e name f.5 l c s in ((f.0, f.1, f.2, f.3, f.4, g.0), g.1)

  still_starts : (base : ℕ) (path more : List (TypeId × ℕ)) → StartsInEntries t base path → StartsInEntries t base (path ++ more)
  still_starts base [] more h = absurd h
  still_starts base (p ∷ path) more h = h

  followed : (base : ℕ) (names done : List (List ℕ)) (aim end : Aim) → IsPath base done aim → follow t aim names ≡ Some end → IsPath base (done ++ names) end
  followed base [] done aim end is e = let q : aim ≡ end = cc in subst (IsPath base (done ++ [])) q (subst (λ ns. IsPath base ns aim) (sym (append-nil done)) is)
  followed base (name ∷ names) done aim end is e = go (further_step t aim.target.0 name) refl e (λ more a. followed base names more a end)
    where
      go : (o : Option ((TypeId × ℕ) × TypeId)) → further_step t aim.target.0 name ≡ o → (o >>= λ e. follow t (record { path = aim.path ++ e.0 ∷ []; target = e.1 }) names) ≡ Some end → ((more : List (List ℕ)) (a : Aim) → IsPath base more a → follow t a names ≡ Some end → IsPath base (more ++ names) end) → IsPath base (done ++ name ∷ names) end
      go None f h again = absurd cc
      go (Some s) f h again =
          let step = further_is aim.target.0 name s f in
          let both = one_further aim.path aim.target s name is.follows is.ends step.0 step.1 in
          subst (λ ns. IsPath base ns end) (append_assoc done (name ∷ []) names) (again (done ++ name ∷ []) (record { path = aim.path ++ s.0 ∷ []; target = s.1 }) (record {
            starts = still_starts base aim.path (s.0 ∷ []) is.starts;
            follows = both.0;
            ends = both.1;
            named = ap (λ ns. ns ++ name ∷ []) is.named ∙ ap (λ n. map name_at aim.path ++ n ∷ []) (sym (ap name_in step.1.entry)) ∙ sym (map-append name_at aim.path (s.0 ∷ []));
          }) h)

  path_from : (base : ℕ) (names : List (List ℕ)) (aim : Aim) → aim_from t base names ≡ Some aim → IsPath base names aim
  path_from base [] aim e = absurd cc
  path_from base (name ∷ names) aim e = go (first_step t base name) refl e
    where
      go : (o : Option ((TypeId × ℕ) × TypeId)) → first_step t base name ≡ o → (o >>= λ e. follow t (record { path = e.0 ∷ []; target = e.1 }) names) ≡ Some aim → IsPath base (name ∷ names) aim
      go None f h = absurd cc
      go (Some s) f h =
          let step = first_is base name s f in
          followed base names (name ∷ []) (record { path = s.0 ∷ []; target = s.1 }) aim (record {
            starts = (step.0.on, step.1);
            follows = (name, s.1, step.0.entry);
            ends = (name, step.0.entry);
            named = ap (λ n. n ∷ []) (sym (ap name_in step.0.entry));
          }) h

  ends_on : (path : List (TypeId × ℕ)) (id : TypeId) → EndsAt path id → type_on t path ≡ Some id.0
  ends_on [] id h = absurd h
  ends_on (p ∷ []) id h = ap type_by h.1
  ends_on (p ∷ q ∷ path) id h = ends_on (q ∷ path) id h

  -- where a constraint leads
  pub record Leads (base : Option ℕ) (asked : Asked) (aim : Aim) : Type 0 where
    pub above : ℕ
    pub base_is : base ≡ Some above
    pub path : IsPath above (names_in asked.path) aim
    pub on : type_on t aim.path ≡ Some aim.target.0
    pub suits : suits_row asked.test (slice_get t aim.target.0) ≡ true

  pub aim_leads : (base : Option ℕ) (asked : Asked) (aim : Aim) → aim_of t base asked ≡ Some aim → Leads base asked aim
  aim_leads None asked aim e = absurd cc
  aim_leads (Some above) asked aim e = go (aim_from t above (names_in asked.path)) refl e
    where
      go : (o : Option Aim) → aim_from t above (names_in asked.path) ≡ o → suited t asked.test o ≡ Some aim → Leads (Some above) asked aim
      go None f h = absurd cc
      go (Some a) f h = by (suits_row asked.test (slice_get t a.target.0)) refl h
        where
          by : (b : Bool) → suits_row asked.test (slice_get t a.target.0) ≡ b → only b a ≡ Some aim → Leads (Some above) asked aim
          by true g h =
              let q : a ≡ aim = cc in
              let path = path_from above (names_in asked.path) a f in
              subst (Leads (Some above) asked) q (record { above = above; base_is = refl; path = path; on = ends_on a.path a.target path.ends; suits = g })
          by false g h = absurd cc
