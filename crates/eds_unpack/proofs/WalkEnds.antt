-- How a walk over a container ends, and items that take no bits.
use Rattle.std.proofs.Common.{◌≡◌, ℕ, zero, suc, ◌+◌, ◌-◌, ◌<◌, ◌≤◌, ℤ, pos, Bool, true, false, cond, List, [], ◌∷◌, ◌++◌, length, reverse, Option, Some, None, Ok, Err, refl, sym, ap, subst, ◌∙◌, append_assoc, append-nil, arith, inl, inr}
use Rattle.std.specs.Prelude.{slice_get, unwrap_or, IsSome}
use Rattle.std.specs.List.{AllByRecursion, flat_map}
use Rattle.std.proofs.lemmas.Bool.{cases_lt}
use Rattle.std.proofs.lemmas.List.{length-append}
use Rattle.std.proofs.lemmas.List.Concat.{flat_map-append}
use Rattle.eds_base.specs.declared.fault.Fault.{Fault}
use Rattle.eds_base.specs.declared.fault.Reason.TheVariants.{LengthDiffers, NoDerived}
use Rattle.eds_base.specs.declared.fault.Step.TheVariants as step
use Rattle.eds_base.specs.declared.ids.TypeId.{TypeId}
use Rattle.eds_bits.specs.Bits.{Bits}
use Rattle.eds_bits.specs.Lists.{Has}
use Rattle.eds_bits.specs.Reader.{bits_left}
use Rattle.eds_types.specs.declared.row.Constraint.{Constraint}
use Rattle.eds_types.specs.declared.row.Part.{Part}
use Rattle.eds_types.specs.declared.row.Part.TheVariants as part
use Rattle.eds_types.specs.Failing.{fault_at, length_path}
use Rattle.eds_types.specs.Fields.{Field, has_value, paired, value_at, values_of}
use Rattle.eds_types.specs.Plain.{Plain, fields, plains_of, list_of}
use Rattle.eds_types.specs.Reading.{Read, Ends, Next, stay, nowhere, under, ◌>>=◌, inside, ended, finish, front, next, next_of, candidate_under, starts_above, read_items, read_parts, read_chain, read_under, read_to_end, size_fits}
use Rattle.eds_types.specs.Rows.{Table, Placed, id_of, chain, is_concrete, constraints_of, entries_of, placed_entries, placed_from, placed_trailers, sequence}
use Rattle.eds_types.specs.Rules.{KeepsRules}
use Rattle.eds_types.specs.Spelling.{Progress, started}
use Rattle.eds_types.proofs.AllOf.{All-at}
use Rattle.eds_types.proofs.ChainLaws.{child_is, child_of, under_in, under_is as chain_goes}
use Rattle.eds_types.proofs.ReadingTests.{found_is, starts_from}
use Rattle.eds_types.proofs.RuleFacts.{table_of}
use Rattle.eds_types.proofs.SameValues.{list_of-plains_of}
use Rattle.eds_overlap.specs.Common.{each_once}
use Rattle.eds_unpack.specs.Asked.{asked}
use Rattle.eds_unpack.specs.Courses.{MovesOn}
use Rattle.eds_unpack.specs.Index.{Among}
use Rattle.eds_overlap.specs.Pairs.{Steps}
use Rattle.eds_unpack.specs.Noted.{Shows, IsNoted, KeepsOuter}
use Rattle.eds_unpack.specs.Walks.{IsFront, Ended, Goes, IsAt, IsPassed, IsWhole}
use Rattle.eds_unpack.specs.declared.walk.Seen.{Seen}
use Rattle.eds_unpack.specs.declared.walk.Walked.{Walked}
use Rattle.eds_unpack.proofs.AskedPaths.{asked_constraint, asked_follows, part_along, rank_of_chain, slot_is_among}
use Rattle.eds_unpack.proofs.Reaches.{behind_items}
use Rattle.eds_unpack.proofs.Steps.{container_reads, nowhere_is, under_goes, under_is}
use Rattle.eds_unpack.proofs.WalkLists.{at_other, head_shown, keeps_other, keeps_then}
use Rattle.eds_unpack.proofs.Walking.{keys_kept, keys_pair}

-- ---- items of no bits

-- so many times one value
repeated : ℕ → Plain → List Plain
repeated zero v = []
repeated (suc n) v = v ∷ repeated n v

-- where no bits were passed, all are left
still : (b d : Bits) → MovesOn b d → length d ≡ length b → b ≡ d
still b d m e = go m.0 m.1
  where
    go : (c : Bits) → b ≡ c ++ d → b ≡ d
    go [] h = h
    go (x ∷ c) h = absurd (omega (arith, ap length h, length-append (x ∷ c) d))

module _ (read : Bits → Read Plain) where
  -- behind an item of no bits, all further ones are the same
  items_same : (n j : ℕ) (v : Plain) (b : Bits) → read b ≡ Ok (v, b) → read_items read n j b ≡ Ok (repeated n v, b)
  unfolding read_items repeated
  items_same zero j v b e = refl
  items_same (suc n) j v b e =
      ap (λ r. inside (step.Item j) r >>= λ x. (read_items read n (j + 1) x.1 >>= λ vs. Ok (x.0 ∷ vs.0, vs.1))) e
      ∙ ap (λ r. r >>= λ vs. Ok (v ∷ vs.0, vs.1)) (items_same n (j + 1) v b e)

  pub items_still : (n j : ℕ) (vs : List Plain) (b d : Bits) (v : Plain) (total : Read (List Plain)) → read b ≡ Ok (v, d) → MovesOn b d → length d ≡ length b → behind_items vs (read_items read (n - j) j b) ≡ total → (ws : List Plain) × (total ≡ Ok (ws, d))
  items_still n j vs b d v total e on same inv =
      let k : b ≡ d = still b d on same in
      (vs ++ repeated (n - j) v, sym inv ∙ ap (behind_items vs) (items_same (n - j) j v b (e ∙ ap (λ x. Ok (v, x)) (sym k))) ∙ ap (λ x. Ok (vs ++ repeated (n - j) v, x)) k)

-- what is kept for a container, and then for another one of its rank
pub keeps_both : (t : Table) (paths : List Steps) (x y : ℕ) (old mid new : List (Option ℤ)) → ((rs : KeepsRules t) → rs.rank x ≡ rs.rank y) → KeepsOuter t paths y old mid → KeepsOuter t paths x mid new → KeepsOuter t paths y old new
keeps_both t paths x y old mid new same one two = keeps_then t paths y old mid new one (keeps_other t paths x y mid new same two)

-- ---- chains

get_past : {A : Type 0} (xs : List A) (y : A) (ys : List A) → slice_get (xs ++ y ∷ ys) (length xs) ≡ Some y
get_past [] y ys = refl
get_past (x ∷ xs) y ys = get_past xs y ys

in_front : {A : Type 0} (xs ys : List A) (x : A) → Has xs x → Has (xs ++ ys) x
in_front xs ys x h = record { before = h.before; after = h.after ++ ys; is = ap (λ l. l ++ ys) h.is ∙ append_assoc h.before (x ∷ h.after) ys }

module _ (t : Table) (rules : KeepsRules t) where
  -- the chain of a container that is chosen under another one
  pub child_chain : (x z : ℕ) (fs : List Field) → under z ≡ next t x fs → chain t z ≡ chain t x ++ z ∷ []
  child_chain x z fs e = go (candidate_under t x fs) refl e
    where
      here : (b : Bool) → under z ≡ cond b stay nowhere → ⊥
      here true e = cc
      here false e = cc

      go : (o : Option ℕ) → candidate_under t x fs ≡ o → under z ≡ next_of t x o → chain t z ≡ chain t x ++ z ∷ []
      go None f e = absurd (here (is_concrete t x) e)
      go (Some l) f e =
          let found = found_is t x fs l f in
          let has = (found.1).under in
          let child = child_of t (table_of t rules) x l has.before has.after has.is found.0 in
          let gets : slice_get (chain t l) (length (chain t x)) ≡ Some child.0 = ap (λ ys. slice_get ys (length (chain t x))) child.2 ∙ get_past (chain t x) child.0 child.1 in
          let is : under z ≡ under child.0 = e ∙ ap (λ o. under (unwrap_or o 0)) gets in
          let same : z ≡ child.0 = cc in
          subst (λ y. chain t y ≡ chain t x ++ y ∷ []) (sym same) (child_is t (table_of t rules) x child.0 l child.1 child.2).0

  -- what stands in the chain of a container, stands in that of one under it
  pub chain_along : (x k y : ℕ) → Has (chain t k) x → Has (chain t x) y → Has (chain t k) y
  chain_along x k y h g = subst (λ l. Has l y) (sym (chain_goes t (table_of t rules) x k h.before h.after h.is).1) (in_front (chain t x) h.after y g)

  module _ (x z : ℕ) (goes : chain t z ≡ chain t x ++ z ∷ []) where
    pub child_above : Has (chain t z) x
    child_above = under_in t (table_of t rules) x z (z ∷ []) goes

    pub child_entries : flat_map (placed_entries t) (chain t z) ≡ flat_map (placed_entries t) (chain t x) ++ placed_entries t z
    child_entries =
        ap (flat_map (placed_entries t)) goes
        ∙ flat_map-append (placed_entries t) (chain t x) (z ∷ [])
        ∙ ap (λ l. flat_map (placed_entries t) (chain t x) ++ l) (append-nil (placed_entries t z))

    -- they are the first parts of the child
    pub child_front : IsFront t (flat_map (placed_entries t) (chain t x) ++ placed_entries t z)
    child_front = (z, flat_map (placed_trailers t) (reverse (chain t z)), ap (λ l. l ++ flat_map (placed_trailers t) (reverse (chain t z))) child_entries)

  -- the entries of a chain and its trailers are all parts of a container
  pub whole_front : (k : ℕ) → IsFront t (flat_map (placed_entries t) (chain t k) ++ flat_map (placed_trailers t) (reverse (chain t k)))
  whole_front k = (k, [], sym (append-nil (sequence t k)))

  -- ---- what is noted before a choice

  module _ (paths : List Steps) (x k : ℕ) (w : Walked) (ns : List (Option ℤ)) (b : Bits) (s : Progress) (at : IsAt t paths x w ns b (flat_map (placed_entries t) (chain t k)) s) where
    -- the number of each path that is read before the choice is noted
    pub above_noted : paths ≡ each_once (asked t) → (path : Steps) → starts_above t k path ≡ true → IsNoted t paths ns s.fields path
    above_noted is path e g h = head_shown t paths x k w ns b s at path (starts_from t k path e) (asked_follows t rules path (subst (λ ps. Among ps path) is (slot_is_among paths g path h))) g h

-- ---- the choice

module _ (t : Table) (read : ℕ → Bits → Read Plain) (c x : ℕ) (lt : c < 16) (s : Progress) (b : Bits) (total : Ends) (inv : read_under t read (16 - c) x s b ≡ total) where
  -- the trailers fail
  pub stay_fails : (g : Fault) → stay ≡ next t x s.fields → read_parts t read (flat_map (placed_trailers t) (reverse (chain t x))) s b ≡ Err g → total ≡ Err g
  stay_fails g h e = sym inv ∙ under_is t read c x lt s b stay h ∙ ap (λ r. r >>= finish x (length_path t x)) e

  -- they are read, and the size is compared
  pub stay_compares : (w : Walked) (u : Progress) (d : Bits) (fits : Bool) → stay ≡ next t x s.fields → read_parts t read (flat_map (placed_trailers t) (reverse (chain t x))) s b ≡ Ok (u, d) → u.before ≡ front (bits_left w.start) d → u.octets ≡ w.octets → fits ≡ size_fits w.octets (front (bits_left w.start) d)
      → total ≡ cond fits (Ok (x, u, d)) (Err (fault_at LengthDiffers (length_path t x)))
  stay_compares w u d fits h e before octets is =
      sym inv
      ∙ under_is t read c x lt s b stay h
      ∙ ap (λ r. r >>= finish x (length_path t x)) e
      ∙ ap (λ g. cond g (Ok (x, u, d)) (Err (fault_at LengthDiffers (length_path t x)))) (ap (λ o. size_fits o u.before) octets ∙ ap (λ f. size_fits w.octets f) before ∙ sym is)

  -- the entries of the child fail
  pub under_fails : (z : ℕ) (g : Fault) → under z ≡ next t x s.fields → read_parts t read (placed_entries t z) s b ≡ Err g → total ≡ Err g
  under_fails z g h e = sym inv ∙ under_is t read c x lt s b (under z) h ∙ ap (λ r. r >>= λ v. read_under t read (15 - c) z v.0 v.1) e

-- ---- the value of a container

module _ (t : Table) (rules : KeepsRules t) (paths : List Steps) (read : ℕ → Bits → Read Plain) (id : ℕ) (b : Bits) (w : Walked) (ns : List (Option ℤ)) (d : Bits) where
  whole_is : (k : ℕ) (fs : List Field) → Has (chain t k) id → AllByRecursion (λ (p : Placed). has_value p.part ≡ true → IsSome (value_at fs p.container p.place)) (sequence t k) → IsWhole t id fs
  whole_is k fs h kept q name own con has is =
      All-at (λ (p : Placed). has_value p.part ≡ true → IsSome (value_at fs p.container p.place)) (sequence t k) (record { container = (q.0).0; place = q.1; part = part.Plain name own })
      (part_along t (q.0).0 q.1 (part.Plain name own) is k (chain_along t rules id k (q.0).0 h has)) kept refl

  pub container_passed : (u : Progress) (e : Bits) (seen : Seen) → read_chain t read (chain t id) started b ≡ Ok (u, e) → Ended t paths id w ns d (read_under t read 16 id u e) seen.found → seen.number ≡ Some (pos seen.found.0)
      → IsPassed t paths id ns (ended t read (read_to_end t read id b)) d seen
  container_passed u e seen goes end number = record {
    value = fields seen.found.0 (plains_of (values_of (end.state).fields));
    is = container_reads t read id b (chain t id) started refl refl u end.state e d seen.found.0 goes end.is;
    number = number;
    found = refl;
    shows = subst (Shows t paths ns) (sym same) (end.at).shows;
    whole = subst (IsWhole t id) (sym same) (whole_is seen.found.0 (end.state).fields end.under (keys_kept (sequence t seen.found.0) (end.state).fields (end.at).keys));
  }
    where
      same : paired (sequence t seen.found.0) (list_of (plains_of (values_of (end.state).fields))) ≡ (end.state).fields
      same = ap (paired (sequence t seen.found.0)) (list_of-plains_of (values_of (end.state).fields)) ∙ keys_pair (sequence t seen.found.0) (end.state).fields (end.at).keys

-- ---- what a walk over what follows a container's entries comes to

-- the bits that are left are no more
no_more : (b d : Bits) → MovesOn b d → length d ≤ length b
no_more b d m = let k = ap length m.1 in let e = length-append m.0 d in omega arith

-- where they are not as many, they are fewer
pub fewer : (b d : Bits) → MovesOn b d → (length d ≡ length b → ⊥) → length d + 1 ≤ length b
fewer b d m other = let most = no_more b d m in elim (cases_lt (length d) (length b)) [ inl lt ↦ omega arith | inr ge ↦ absurd (other (omega arith)) ]

-- the path of each constraint is asked for
pub all_asked : (t : Table) → KeepsRules t → (paths : List Steps) → paths ≡ each_once (asked t) → (y : ℕ) → AllByRecursion (λ (c : Constraint). Among paths c.path) (constraints_of t y)
all_asked t rules paths notes y = subst (λ ps. AllByRecursion (λ (c : Constraint). Among ps c.path) (constraints_of t y)) (sym notes) (asked_constraint t rules y)

module _ (t : Table) (rules : KeepsRules t) (paths : List Steps) (notes : paths ≡ each_once (asked t)) (read : ℕ → Bits → Read Plain) (c x k : ℕ) (w : Walked) (ns : List (Option ℤ)) (b : Bits) where
  -- the choice at a container, by the numbers that are noted
  abbrev pub Chooses : Next → Type 0
  Chooses o = (fs : List Field) → ((path : Steps) → starts_above t k path ≡ true → IsNoted t paths ns fs path) → o ≡ next t k fs

  -- the entries down to the container were passed
  abbrev pub IsBefore : Progress → Type 0
  IsBefore s = IsAt t paths x w ns b (flat_map (placed_entries t) (chain t k)) s

  -- and so the choice is that of the definition
  pub chosen : (o : Next) (s : Progress) → IsBefore s → Chooses o → o ≡ next t k s.fields
  chosen o s at h = h s.fields (above_noted t rules paths x k w ns b s at notes)

  -- what the walk over some parts gives
  abbrev pub WalksOver : ℕ → Walked → List (Option ℤ) → Bits → List Placed → Type 0
  WalksOver y v ms d ps = (done : List Placed) (s : Progress) → IsAt t paths y w ns b done s → IsFront t (done ++ ps) → Goes t paths y v ms d (done ++ ps) (read_parts t read ps s b)

  -- or why it fails
  abbrev pub FailsOver : ℕ → Fault → List Placed → Type 0
  FailsOver y g ps = (done : List Placed) (s : Progress) → IsAt t paths y w ns b done s → IsFront t (done ++ ps) → read_parts t read ps s b ≡ Err g

  module _ (has : Has (chain t k) x) where
    -- all have one rank
    pub own_rank : (rs : KeepsRules t) → rs.rank x ≡ rs.rank k
    own_rank rs = rank_of_chain t rs k x has

    pub own_rank_back : (rs : KeepsRules t) → rs.rank k ≡ rs.rank x
    own_rank_back rs = sym (own_rank rs)

    module _ (s : Progress) (before : IsBefore s) (z : ℕ) (goes : Chooses (under z)) where
      pub child_goes : chain t z ≡ chain t k ++ z ∷ []
      child_goes = child_chain t rules k z s.fields (chosen (under z) s before goes)

      pub child_has : Has (chain t z) x
      child_has = chain_along t rules k z x (child_above t rules k z child_goes) has

      pub child_rank : (rs : KeepsRules t) → rs.rank x ≡ rs.rank z
      child_rank rs = rank_of_chain t rs z x child_has

      pub child_rank_back : (rs : KeepsRules t) → rs.rank z ≡ rs.rank x
      child_rank_back rs = sym (child_rank rs)

    module _ (lt : c < 16) (s : Progress) (before : IsBefore s) (total : Ends) (inv : read_under t read (16 - c) k s b ≡ total) where
      -- no container is there to go on with
      pub walk_nowhere : Chooses nowhere → total ≡ Err (fault_at NoDerived (step.Choice (id_of k) ∷ []))
      walk_nowhere h = nowhere_is t read c k lt s b total (chosen nowhere s before h) inv

      module _ (h : Chooses stay) where
        pub walk_stay_fails : (g : Fault) → FailsOver k g (flat_map (placed_trailers t) (reverse (chain t k))) → total ≡ Err g
        walk_stay_fails g fails =
            stay_fails t read c k lt s b total inv g (chosen stay s before h)
            (fails (flat_map (placed_entries t) (chain t k)) s (at_other t paths x k w ns b (flat_map (placed_entries t) (chain t k)) s own_rank before) (whole_front t rules k))

        module _ (v : Walked) (ms : List (Option ℤ)) (d : Bits) (passed : WalksOver k v ms d (flat_map (placed_trailers t) (reverse (chain t k)))) where
          pub stayed_goes : Goes t paths k v ms d (sequence t k) (read_parts t read (flat_map (placed_trailers t) (reverse (chain t k))) s b)
          stayed_goes = passed (flat_map (placed_entries t) (chain t k)) s (at_other t paths x k w ns b (flat_map (placed_entries t) (chain t k)) s own_rank before) (whole_front t rules k)

          pub walk_stay_compares : (fits : Bool) → fits ≡ size_fits v.octets (front (bits_left v.start) d) → total ≡ cond fits (Ok (k, stayed_goes.state, d)) (Err (fault_at LengthDiffers (length_path t k)))
          walk_stay_compares fits e = stay_compares t read c k lt s b total inv v stayed_goes.state d fits (chosen stay s before h) stayed_goes.is (stayed_goes.at).before (stayed_goes.at).octets e

          pub walk_stay_ends : (found : TypeId) → found.0 ≡ k → true ≡ size_fits v.octets (front (bits_left v.start) d) → Ended t paths x v ms d total found
          walk_stay_ends found same e = record {
            state = stayed_goes.state;
            is = walk_stay_compares true e ∙ ap (λ y. Ok (y, stayed_goes.state, d)) (sym same);
            under = subst (λ y. Has (chain t y) x) (sym same) has;
            at = subst (λ y. IsAt t paths x v ms d (sequence t y) stayed_goes.state) (sym same) (at_other t paths k x v ms d (sequence t k) stayed_goes.state own_rank_back stayed_goes.at);
          }

      module _ (z : ℕ) (goes : Chooses (under z)) (es : List Part) (entries : es ≡ entries_of t z) where
        at_child : IsAt t paths z w ns b (flat_map (placed_entries t) (chain t k)) s
        at_child = at_other t paths x z w ns b (flat_map (placed_entries t) (chain t k)) s (child_rank s before z goes) before

        front_there : IsFront t (flat_map (placed_entries t) (chain t k) ++ placed_entries t z)
        front_there = child_front t rules k z (child_goes s before z goes)

        pub walk_under_fails : (g : Fault) → FailsOver z g (placed_from z 0 es) → total ≡ Err g
        walk_under_fails g fails =
            under_fails t read c k lt s b total inv z g (chosen (under z) s before goes)
            (subst (λ l. FailsOver z g (placed_from z 0 l)) entries fails (flat_map (placed_entries t) (chain t k)) s at_child front_there)

        pub walk_under_goes : (v : Walked) (ms : List (Option ℤ)) (d : Bits) → WalksOver z v ms d (placed_from z 0 es)
            → (u : Progress) × IsAt t paths x v ms d (flat_map (placed_entries t) (chain t z)) u × (read_under t read (16 - (c + 1)) z u d ≡ total)
        walk_under_goes v ms d passed =
            let g = subst (λ l. WalksOver z v ms d (placed_from z 0 l)) entries passed (flat_map (placed_entries t) (chain t k)) s at_child front_there in (
              g.state,
              subst (λ l. IsAt t paths x v ms d l g.state) (sym (child_entries t rules k z (child_goes s before z goes)))
                  (at_other t paths z x v ms d (flat_map (placed_entries t) (chain t k) ++ placed_entries t z) g.state (child_rank_back s before z goes) g.at),
              under_goes t read c k lt s b z g.state d total (chosen (under z) s before goes) inv g.is,
            )
