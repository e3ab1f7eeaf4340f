-- The parts of a chain of containers, one container after the other.
use Rattle.std.proofs.Common.{◌≡◌, ℕ, suc, ◌+◌, ◌-◌, ◌<◌, List, ◌∷◌, ◌++◌, length, map, drop, take, get_or, reverse, Ok, Err, sym, ap, subst, ◌∙◌, arith}
use Rattle.std.specs.List.{flat_map}
use Rattle.std.proofs.Math.Seq.{drop-cons}
use Rattle.std.proofs.lemmas.List.{map-append}
use Rattle.eds_base.specs.declared.ids.TypeId.{TypeId}
use Rattle.eds_types.specs.declared.row.Constraint.{Constraint}
use Rattle.eds_types.specs.declared.row.Part.{Part}
use Rattle.eds_types.specs.Failing.{Station, condition, entry, own_stations}
use Rattle.eds_types.specs.Fields.{Field, paired}
use Rattle.eds_types.specs.Packing.{PackFault, valued}
use Rattle.eds_types.specs.PackedSizes.{Size, stations_size}
use Rattle.eds_types.specs.Plain.{Plain}
use Rattle.eds_types.specs.Rows.{Table, chain, id_of, sequence, constraints_of, entries_of, trailers_of, Placed, placed_from, placed_entries, placed_trailers, numbers_of}
use Rattle.eds_pack.specs.Counting.{added}
use Rattle.eds_types.specs.Seeking.{entries_in_turn, trailers_in_turn}
use Rattle.eds_types.proofs.Seeking.{entries_are, last_of, trailers_are}
use Rattle.eds_pack.specs.Seeking.{AreNext, values_in}
use Rattle.eds_pack.proofs.Counts.{Counted, conditions_next, conditions_stop, entries_front, own_front, stations_next, stations_stop}
use Rattle.eds_types.specs.Rules.{KeepsRules}
use Rattle.eds_pack.proofs.Looking.{all_next, next_front, next_back, valued_is, valued_both}

-- ---- entries, from the root down

module _ (t : Table) (size : ℕ → Plain → Size) (fs : List Field) (k : ℕ) (ids : List TypeId) (i : ℕ) (d : TypeId) (within : i < length ids) where
  abbrev here : ℕ
  here = (get_or ids i d).0

  abbrev later : List TypeId
  later = drop (i + 1) ids

  left : drop i ids ≡ get_or ids i d ∷ later
  left = let n : suc i ≡ i + 1 = omega arith in drop-cons ids i d within ∙ ap (λ m. get_or ids i d ∷ drop m ids) n

  abbrev Goes : List Station → Size
  Goes ss = stations_size t size fs k 0 ss

  abbrev After : List Station
  After = flat_map (own_stations t) (numbers_of later)

  whole_is : (total : ℕ) (whole : Size) → added total (Goes (flat_map (own_stations t) (numbers_of (drop i ids)))) ≡ whole → added total (Goes ((map (condition here) (constraints_of t here) ++ map entry (placed_entries t here)) ++ After)) ≡ whole
  whole_is total whole inv = sym (ap (λ xs. added total (Goes (flat_map (own_stations t) (numbers_of xs)))) left) ∙ inv

  pub chain_next : (cs : List Constraint) (es : List Part) (total new : ℕ) (whole : Size) → cs ≡ constraints_of t here → es ≡ entries_of t here → ◌≡◌ {A = Counted} (Ok 0) (Goes (map (condition here) cs)) → ◌≡◌ {A = Counted} (Ok new) (added total (Goes (map entry (placed_from here 0 es))))
      → added total (Goes (flat_map (own_stations t) (numbers_of (drop i ids)))) ≡ whole → added new (Goes After) ≡ whole
  chain_next cs es total new whole c e h g inv =
      stations_next t size fs k (map entry (placed_entries t here)) After (own_front t (numbers_of later)) total new whole (g ∙ ap (λ ps. added total (Goes (map entry (placed_from here 0 ps)))) e)
      (conditions_next t size fs k (map (condition here) (constraints_of t here)) (map entry (placed_entries t here)) After total whole (h ∙ ap (λ xs. Goes (map (condition here) xs)) c) (whole_is total whole inv))

  pub chain_stops : (cs : List Constraint) (total : ℕ) (g : PackFault) (whole : Size) → cs ≡ constraints_of t here → ◌≡◌ {A = Counted} (Err g) (Goes (map (condition here) cs)) → added total (Goes (flat_map (own_stations t) (numbers_of (drop i ids)))) ≡ whole → ◌≡◌ {A = Counted} (Err g) whole
  chain_stops cs total g whole c h inv = conditions_stop t size fs k (map (condition here) (constraints_of t here)) (map entry (placed_entries t here)) After total g whole (h ∙ ap (λ xs. Goes (map (condition here) xs)) c) (whole_is total whole inv)

  pub entries_stop : (cs : List Constraint) (es : List Part) (total : ℕ) (g : PackFault) (whole : Size) → cs ≡ constraints_of t here → es ≡ entries_of t here → ◌≡◌ {A = Counted} (Ok 0) (Goes (map (condition here) cs)) → ◌≡◌ {A = Counted} (Err g) (added total (Goes (map entry (placed_from here 0 es))))
      → added total (Goes (flat_map (own_stations t) (numbers_of (drop i ids)))) ≡ whole → ◌≡◌ {A = Counted} (Err g) whole
  entries_stop cs es total g whole c e h f inv =
      stations_stop t size fs k (map entry (placed_entries t here)) After total g whole (f ∙ ap (λ ps. added total (Goes (map entry (placed_from here 0 ps)))) e)
      (conditions_next t size fs k (map (condition here) (constraints_of t here)) (map entry (placed_entries t here)) After total whole (h ∙ ap (λ xs. Goes (map (condition here) xs)) c) (whole_is total whole inv))

  pub entries_next : (f : List Plain) (used : ℕ) (es : List Part) → es ≡ entries_of t here → AreNext fs f used (entries_in_turn t (drop i ids)) → AreNext fs f used (placed_from here 0 es)
  entries_next f used es e h = subst (λ ps. AreNext fs f used (placed_from here 0 ps)) (sym e) (next_front fs f (placed_entries t here) (entries_in_turn t later) used (subst (λ xs. AreNext fs f used (entries_in_turn t xs)) left h))

  pub entries_used : (f : List Plain) (used more : ℕ) (es : List Part) → es ≡ entries_of t here → more ≡ used + values_in es → AreNext fs f used (entries_in_turn t (drop i ids)) → AreNext fs f more (entries_in_turn t later)
  entries_used f used more es e m h =
      let n : used + valued (placed_entries t here) ≡ more = omega (arith, m, valued_is here 0 (entries_of t here), ap values_in e) in
      subst (λ u. AreNext fs f u (entries_in_turn t later)) n (next_back fs f (placed_entries t here) (entries_in_turn t later) used (subst (λ xs. AreNext fs f used (entries_in_turn t xs)) left h))

  pub entries_count : (used more : ℕ) (es : List Part) → es ≡ entries_of t here → more ≡ used + values_in es → used + valued (entries_in_turn t (drop i ids)) ≡ more + valued (entries_in_turn t later)
  entries_count used more es e m = omega (arith, m, valued_is here 0 (entries_of t here), ap values_in e, ap (λ xs. valued (entries_in_turn t xs)) left, valued_both (placed_entries t here) (entries_in_turn t later))

-- ---- trailers, from the last container up

module _ (t : Table) (size : ℕ → Plain → Size) (fs : List Field) (k : ℕ) (ids : List TypeId) (d : TypeId) (some : 0 < length ids) where
  abbrev last : ℕ
  last = (get_or ids (length ids - 1) d).0

  abbrev above : List TypeId
  above = take (length ids - 1) ids

  trailers_left : trailers_in_turn t (reverse ids) ≡ placed_trailers t last ++ trailers_in_turn t (reverse above)
  trailers_left = last_of (λ (id : TypeId). placed_trailers t id.0) ids d some

  abbrev Sums : List Placed → Size
  Sums ps = stations_size t size fs k 0 (map entry ps)

  these : (es ts : List Part) → es ≡ entries_of t last → ts ≡ trailers_of t last → placed_from last (length es) ts ≡ placed_trailers t last
  these es ts e f = ap (λ xs. placed_from last (length xs) ts) e ∙ ap (placed_from last (length (entries_of t last))) f

  split : (total : ℕ) (whole : Size) → added total (Sums (trailers_in_turn t (reverse ids))) ≡ whole → added total (stations_size t size fs k 0 (map entry (placed_trailers t last) ++ map entry (trailers_in_turn t (reverse above)))) ≡ whole
  split total whole inv = sym (ap (λ ps. added total (Sums ps)) trailers_left ∙ ap (λ ss. added total (stations_size t size fs k 0 ss)) (map-append entry (placed_trailers t last) (trailers_in_turn t (reverse above)))) ∙ inv

  pub trailers_next : (es ts : List Part) (total new : ℕ) (whole : Size) → es ≡ entries_of t last → ts ≡ trailers_of t last → ◌≡◌ {A = Counted} (Ok new) (added total (Sums (placed_from last (length es) ts)))
      → added total (Sums (trailers_in_turn t (reverse ids))) ≡ whole → added new (Sums (trailers_in_turn t (reverse above))) ≡ whole
  trailers_next es ts total new whole e f g inv =
      stations_next t size fs k (map entry (placed_trailers t last)) (map entry (trailers_in_turn t (reverse above))) (entries_front (trailers_in_turn t (reverse above))) total new whole (g ∙ ap (λ ps. added total (Sums ps)) (these es ts e f)) (split total whole inv)

  pub trailers_stop : (es ts : List Part) (total : ℕ) (g : PackFault) (whole : Size) → es ≡ entries_of t last → ts ≡ trailers_of t last → ◌≡◌ {A = Counted} (Err g) (added total (Sums (placed_from last (length es) ts)))
      → added total (Sums (trailers_in_turn t (reverse ids))) ≡ whole → ◌≡◌ {A = Counted} (Err g) whole
  trailers_stop es ts total g whole e f h inv =
      stations_stop t size fs k (map entry (placed_trailers t last)) (map entry (trailers_in_turn t (reverse above))) total g whole (h ∙ ap (λ ps. added total (Sums ps)) (these es ts e f)) (split total whole inv)

  pub these_next : (f : List Plain) (used : ℕ) (es ts : List Part) → es ≡ entries_of t last → ts ≡ trailers_of t last → AreNext fs f used (trailers_in_turn t (reverse ids)) → AreNext fs f used (placed_from last (length es) ts)
  these_next f used es ts e g h = subst (AreNext fs f used) (sym (these es ts e g)) (next_front fs f (placed_trailers t last) (trailers_in_turn t (reverse above)) used (subst (AreNext fs f used) trailers_left h))

  pub above_next : (f : List Plain) (used more : ℕ) (ts : List Part) → ts ≡ trailers_of t last → more ≡ used + values_in ts → AreNext fs f used (trailers_in_turn t (reverse ids)) → AreNext fs f more (trailers_in_turn t (reverse above))
  above_next f used more ts e m h =
      let n : used + valued (placed_trailers t last) ≡ more = omega (arith, m, valued_is last (length (entries_of t last)) (trailers_of t last), ap values_in e) in
      subst (λ u. AreNext fs f u (trailers_in_turn t (reverse above))) n (next_back fs f (placed_trailers t last) (trailers_in_turn t (reverse above)) used (subst (AreNext fs f used) trailers_left h))

-- ---- all of them

module _ (t : Table) (rules : KeepsRules t) (k : ℕ) (f : List Plain) (ids : List TypeId) (is : ids ≡ map id_of (chain t k)) where
  abbrev all : List Field
  all = paired (sequence t k) f

  pub first_next : AreNext all f 0 (entries_in_turn t ids)
  first_next = subst (AreNext all f 0) (sym (entries_are t k ids is)) (next_front all f (flat_map (placed_entries t) (chain t k)) (flat_map (placed_trailers t) (reverse (chain t k))) 0 (all_next t rules k f))

  pub last_next : (used : ℕ) (again : List TypeId) → used ≡ valued (entries_in_turn t ids) → again ≡ map id_of (chain t k) → AreNext all f used (trailers_in_turn t (reverse again))
  last_next used again count e =
      let n : 0 + valued (flat_map (placed_entries t) (chain t k)) ≡ used = omega (arith, count, ap valued (entries_are t k ids is)) in
      subst (AreNext all f used) (sym (trailers_are t k again e)) (subst (λ u. AreNext all f u (flat_map (placed_trailers t) (reverse (chain t k)))) n (next_back all f (flat_map (placed_entries t) (chain t k)) (flat_map (placed_trailers t) (reverse (chain t k))) 0 (all_next t rules k f)))
