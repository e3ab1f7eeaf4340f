-- Sizes that are counted, one after the other.
use Rattle.std.proofs.Common.{◌≡◌, ℕ, zero, suc, ◌+◌, ◌-◌, ◌≤◌, ◌<◌, ◌^◌, min, true, false, cond, List, [], ◌∷◌, ◌++◌, length, get_or, drop, map, Result, Ok, Err, Some, refl, sym, ap, ◌∙◌, append_assoc, arith}
use Rattle.std.specs.Prelude.{slice_get}
use Rattle.std.specs.List.{AllByRecursion, flat_map}
use Rattle.std.proofs.lemmas.List.{drop_more}
use Rattle.eds_base.specs.declared.fault.Step.{Step}
use Rattle.eds_types.specs.declared.reason.PackReason.{PackReason}
use Rattle.eds_types.specs.declared.reason.PackReason.TheVariants as reason
use Rattle.eds_types.specs.declared.row.Constraint.{Constraint}
use Rattle.eds_types.specs.declared.row.TypeRow.{TypeRow}
use Rattle.eds_types.specs.Failing.{Station, condition, entry, choice, end, own_stations, part_step, path_steps}
use Rattle.eds_types.specs.Fields.{Field}
use Rattle.eds_types.specs.Packing.{PackFault, pack_fault_at, item_step}
use Rattle.eds_types.specs.PackedSizes.{Size, size_inside, after, items_size, packed_part_size, station_size, stations_size, packed_kind_size, packed_row_size, packed_size_within}
use Rattle.eds_types.specs.Plain.{Plain}
use Rattle.eds_types.specs.Reading.{holds}
use Rattle.eds_types.specs.Rows.{Table, Placed, constraints_of, placed_entries}
use Rattle.eds_types.proofs.AllOf.{All-both}
use Rattle.eds_pack.specs.Counting.{capped, added}

-- ---- numbers

min_more : (m b n top : ℕ) → min (m + (b + n)) top ≡ min (min (m + b) top + n) top
min_more m b n top = omega arith

cap_more : (m b n : ℕ) → capped (m + (b + n)) ≡ capped (capped (m + b) + n)
cap_more m b n = min_more m b n (2 ^ 100)

cap_end : (m b : ℕ) → capped (m + b) ≡ capped (capped (m + b) + 0)
cap_end m b = ap (λ k. capped (m + k)) (omega arith) ∙ cap_more m b 0

-- ---- what was found

abbrev pub Counted : Type 0
Counted = Result ℕ PackFault

ok_err : {P : Type 0} (n : ℕ) (g : PackFault) → ◌≡◌ {A = Counted} (Ok n) (Err g) → P
ok_err n g e = absurd cc

ok_is : (m n : ℕ) → ◌≡◌ {A = Counted} (Ok m) (Ok n) → m ≡ n
ok_is m n e = cc

err_is : (g h : PackFault) → ◌≡◌ {A = Counted} (Err g) (Err h) → g ≡ h
err_is g h e = cc

-- a size that was added
pub added_ok : (total new : ℕ) (r : Size) → ◌≡◌ {A = Counted} (Ok new) (added total r) → (n : ℕ) × (r ≡ Ok n) × (new ≡ capped (total + n))
added_ok total new (Ok n) e = (n, refl, ok_is new (capped (total + n)) e)
added_ok total new (Err g) e = ok_err new g e

pub added_err : (total : ℕ) (g : PackFault) (r : Size) → ◌≡◌ {A = Counted} (Err g) (added total r) → r ≡ Err g
added_err total g (Ok n) e = ok_err (capped (total + n)) g (sym e)
added_err total g (Err h) e = ap Err (err_is h g (sym e))

-- ---- items

items_more : (size : Plain → Size) (vs : List Plain) (m j b : ℕ) → added m (items_size size j b vs) ≡ added (capped (m + b)) (items_size size j 0 vs)
items_more size [] m j b = ap Ok (cap_end m b)
items_more size (v ∷ vs) m j b = go (λ k c. items_more size vs k (j + 1) c) (size v)
  where
    go : ((k c : ℕ) → added k (items_size size (j + 1) c vs) ≡ added (capped (k + c)) (items_size size (j + 1) 0 vs)) → (r : Size) → added m (after (size_inside (item_step j) r) (λ n. items_size size (j + 1) (b + n) vs)) ≡ added (capped (m + b)) (after (size_inside (item_step j) r) (λ n. items_size size (j + 1) (0 + n) vs))
    go more (Ok n) =
        more m (b + n) ∙ ap (λ k. added k (items_size size (j + 1) 0 vs)) (cap_more m b n ∙ ap (λ k. capped (capped (m + b) + k)) (omega arith))
        ∙ sym (more (capped (m + b)) (0 + n))
    go more (Err g) = refl

-- the first item has a size
pub item_next : (size : Plain → Size) (v : Plain) (vs : List Plain) (total new j : ℕ) (whole : Size) → ◌≡◌ {A = Counted} (Ok new) (added total (size v)) → added total (items_size size j 0 (v ∷ vs)) ≡ whole → added new (items_size size (j + 1) 0 vs) ≡ whole
item_next size v vs total new j whole e inv =
    let h = added_ok total new (size v) e in
    ap (λ k. added k (items_size size (j + 1) 0 vs)) (h.2 ∙ ap (λ k. capped (total + k)) (omega arith)) ∙ sym (items_more size vs total (j + 1) (0 + h.0))
    ∙ sym (ap (λ r. added total (after (size_inside (item_step j) r) (λ n. items_size size (j + 1) (0 + n) vs))) h.1) ∙ inv

-- it has a fault
pub item_stops : (size : Plain → Size) (v : Plain) (vs : List Plain) (total j : ℕ) (r : PackReason) (path : List Step) (whole : Size) → ◌≡◌ {A = Counted} (Err (pack_fault_at r path)) (added total (size v)) → added total (items_size size j 0 (v ∷ vs)) ≡ whole → ◌≡◌ {A = Counted} (Err (pack_fault_at r (item_step j ∷ path))) whole
item_stops size v vs total j r path whole e inv =
    sym (ap (λ z. added total (after (size_inside (item_step j) z) (λ n. items_size size (j + 1) (0 + n) vs))) (added_err total (pack_fault_at r path) (size v) e)) ∙ inv

-- ---- entries

module _ (t : Table) (size : ℕ → Plain → Size) (fs : List Field) (k : ℕ) where
  abbrev Entries : ℕ → List Placed → Size
  Entries b ps = stations_size t size fs k b (map entry ps)

  entries_more : (ps : List Placed) (m b : ℕ) → added m (Entries b ps) ≡ added (capped (m + b)) (Entries 0 ps)
  entries_more [] m b = ap Ok (cap_end m b)
  entries_more (p ∷ ps) m b = go (λ k c. entries_more ps k c) (packed_part_size t size fs p p.part)
    where
      go : ((k c : ℕ) → added k (Entries c ps) ≡ added (capped (k + c)) (Entries 0 ps)) → (r : Size) → added m (after (size_inside (part_step p) r) (λ n. Entries (b + n) ps)) ≡ added (capped (m + b)) (after (size_inside (part_step p) r) (λ n. Entries (0 + n) ps))
      go more (Ok n) =
          more m (b + n) ∙ ap (λ k. added k (Entries 0 ps)) (cap_more m b n ∙ ap (λ k. capped (capped (m + b) + k)) (omega arith))
          ∙ sym (more (capped (m + b)) (0 + n))
      go more (Err g) = refl

  -- the first part has a size
  pub entry_next : (p : Placed) (ps : List Placed) (total new : ℕ) (whole : Size) → ◌≡◌ {A = Counted} (Ok new) (added total (packed_part_size t size fs p p.part)) → added total (Entries 0 (p ∷ ps)) ≡ whole → added new (Entries 0 ps) ≡ whole
  entry_next p ps total new whole e inv =
      let h = added_ok total new (packed_part_size t size fs p p.part) e in
      ap (λ k. added k (Entries 0 ps)) (h.2 ∙ ap (λ k. capped (total + k)) (omega arith)) ∙ sym (entries_more ps total (0 + h.0))
      ∙ sym (ap (λ r. added total (after (size_inside (part_step p) r) (λ n. Entries (0 + n) ps))) h.1) ∙ inv

  -- it has a fault
  pub entry_stops : (p : Placed) (ps : List Placed) (total : ℕ) (r : PackReason) (path : List Step) (whole : Size) → ◌≡◌ {A = Counted} (Err (pack_fault_at r path)) (added total (packed_part_size t size fs p p.part)) → added total (Entries 0 (p ∷ ps)) ≡ whole → ◌≡◌ {A = Counted} (Err (pack_fault_at r (part_step p ∷ path))) whole
  entry_stops p ps total r path whole e inv =
      sym (ap (λ z. added total (after (size_inside (part_step p) z) (λ n. Entries (0 + n) ps))) (added_err total (pack_fault_at r path) (packed_part_size t size fs p p.part) e)) ∙ inv

-- ---- stations

-- the same size behind so many bits
abbrev pub moved : ℕ → Size → Size
moved b (Ok n) = Ok (b + n)
moved b (Err g) = Err g

-- a station before the end: it adds the same bits wherever it stands
abbrev pub IsFront : Station → Type 0
IsFront (condition y c) = Unit {0}
IsFront (entry p) = Unit {0}
IsFront (choice y) = Unit {0}
IsFront end = ⊥

pub entries_front : (ps : List Placed) → AllByRecursion IsFront (map entry ps)
entries_front [] = tt
entries_front (p ∷ ps) = (tt, entries_front ps)

conditions_front : (y : ℕ) (cs : List Constraint) → AllByRecursion IsFront (map (condition y) cs)
conditions_front y [] = tt
conditions_front y (c ∷ cs) = (tt, conditions_front y cs)

pub own_front : (t : Table) (ys : List ℕ) → AllByRecursion IsFront (flat_map (own_stations t) ys)
own_front t [] = tt
own_front t (y ∷ ys) = All-both IsFront (own_stations t y) (flat_map (own_stations t) ys) (All-both IsFront (map (condition y) (constraints_of t y)) (map entry (placed_entries t y)) (conditions_front y (constraints_of t y)) (entries_front (placed_entries t y))) (own_front t ys)

module _ (t : Table) (size : ℕ → Plain → Size) (fs : List Field) (k : ℕ) where
  abbrev Goes : ℕ → List Station → Size
  Goes b ss = stations_size t size fs k b ss

  pub goes_both : (ss rs : List Station) (b : ℕ) → Goes b (ss ++ rs) ≡ after (Goes b ss) (λ m. Goes m rs)
  goes_both [] rs b = refl
  goes_both (s ∷ ss) rs b = go (station_size t size fs k b s) (λ n. goes_both ss rs (b + n))
    where
      go : (r : Size) → ((n : ℕ) → Goes (b + n) (ss ++ rs) ≡ after (Goes (b + n) ss) (λ m. Goes m rs)) → after r (λ n. Goes (b + n) (ss ++ rs)) ≡ after (after r (λ n. Goes (b + n) ss)) (λ m. Goes m rs)
      go (Ok n) h = h n
      go (Err g) h = refl

  same_station : (s : Station) → IsFront s → (b : ℕ) → station_size t size fs k b s ≡ station_size t size fs k 0 s
  same_station (condition y c) h b = refl
  same_station (entry p) h b = refl
  same_station (choice y) h b = refl
  same_station end h b = absurd h

  moved_twice : (b n : ℕ) (r : Size) → moved (b + n) r ≡ moved b (moved n r)
  moved_twice b n (Ok m) = ap Ok (omega arith)
  moved_twice b n (Err g) = refl

  pub goes_moved : (ss : List Station) → AllByRecursion IsFront ss → (b : ℕ) → Goes b ss ≡ moved b (Goes 0 ss)
  goes_moved [] h b = ap Ok (omega arith)
  goes_moved (s ∷ ss) h b = ap (λ r. after r (λ n. Goes (b + n) ss)) (same_station s h.0 b) ∙ go (station_size t size fs k 0 s) (goes_moved ss h.1)
    where
      go : (r : Size) → ((c : ℕ) → Goes c ss ≡ moved c (Goes 0 ss)) → after r (λ n. Goes (b + n) ss) ≡ moved b (after r (λ n. Goes (0 + n) ss))
      go (Ok n) g = g (b + n) ∙ moved_twice b n (Goes 0 ss) ∙ ap (moved b) (sym (g (0 + n) ∙ ap (λ c. moved c (Goes 0 ss)) (omega arith)))
      go (Err e) g = refl

  added_moved : (m b : ℕ) (r : Size) → added m (moved b r) ≡ added (capped (m + b)) r
  added_moved m b (Ok n) = ap Ok (cap_more m b n)
  added_moved m b (Err g) = refl

  -- the first stations add bits, and others follow
  pub stations_next : (ss rs : List Station) → AllByRecursion IsFront rs → (total new : ℕ) (whole : Size) → ◌≡◌ {A = Counted} (Ok new) (added total (Goes 0 ss)) → added total (Goes 0 (ss ++ rs)) ≡ whole → added new (Goes 0 rs) ≡ whole
  stations_next ss rs front total new whole e inv =
      let h = added_ok total new (Goes 0 ss) e in
      ap (λ m. added m (Goes 0 rs)) h.2 ∙ sym (added_moved total h.0 (Goes 0 rs)) ∙ sym (ap (added total) (goes_both ss rs 0 ∙ ap (λ r. after r (λ m. Goes m rs)) h.1 ∙ goes_moved rs front h.0)) ∙ inv

  -- they have a fault
  pub stations_stop : (ss rs : List Station) (total : ℕ) (g : PackFault) (whole : Size) → ◌≡◌ {A = Counted} (Err g) (added total (Goes 0 ss)) → added total (Goes 0 (ss ++ rs)) ≡ whole → ◌≡◌ {A = Counted} (Err g) whole
  stations_stop ss rs total g whole e inv = sym (ap (added total) (goes_both ss rs 0 ∙ ap (λ r. after r (λ m. Goes m rs)) (added_err total g (Goes 0 ss) e))) ∙ inv

  -- the constraint at a place holds, or it doesn't
  pub condition_holds : (y : ℕ) (cs : List Constraint) (i : ℕ) (d : Constraint) → i < length cs → d ≡ get_or cs i d → true ≡ holds t fs d → Goes 0 (map (condition y) (drop (i + 1) cs)) ≡ Goes 0 (map (condition y) (drop i cs))
  condition_holds y cs i d lt is h =
      sym (ap (λ b. after (cond b (Ok 0) (Err (pack_fault_at reason.Constraint (path_steps (get_or cs i d).path)))) (λ n. Goes (0 + n) (map (condition y) (drop (i + 1) cs)))) (ap (holds t fs) (sym is) ∙ sym h))
      ∙ ap (λ xs. Goes 0 (map (condition y) xs)) (sym (drop_more cs i d lt))

  pub condition_fails : (y : ℕ) (cs : List Constraint) (i : ℕ) (d : Constraint) (path : List Step) → i < length cs → d ≡ get_or cs i d → false ≡ holds t fs d → path ≡ path_steps d.path → ◌≡◌ {A = Counted} (Err (pack_fault_at reason.Constraint path)) (Goes 0 (map (condition y) (drop i cs)))
  condition_fails y cs i d path lt is h e =
      ap (λ (p : List Step). Err (pack_fault_at reason.Constraint p)) (e ∙ ap (λ (x : Constraint). path_steps x.path) is)
      ∙ sym (ap (λ b. after (cond b (Ok 0) (Err (pack_fault_at reason.Constraint (path_steps (get_or cs i d).path)))) (λ n. Goes (0 + n) (map (condition y) (drop (i + 1) cs)))) (ap (holds t fs) (sym is) ∙ sym h))
      ∙ ap (λ xs. Goes 0 (map (condition y) xs)) (sym (drop_more cs i d lt))

  -- constraints add none
  pub conditions_next : (cs es rs : List Station) (total : ℕ) (whole : Size) → ◌≡◌ {A = Counted} (Ok 0) (Goes 0 cs) → added total (Goes 0 ((cs ++ es) ++ rs)) ≡ whole → added total (Goes 0 (es ++ rs)) ≡ whole
  conditions_next cs es rs total whole e inv = sym (ap (added total) (ap (Goes 0) (append_assoc cs es rs) ∙ goes_both cs (es ++ rs) 0 ∙ ap (λ r. after r (λ m. Goes m (es ++ rs))) (sym e))) ∙ inv

  pub conditions_stop : (cs es rs : List Station) (total : ℕ) (g : PackFault) (whole : Size) → ◌≡◌ {A = Counted} (Err g) (Goes 0 cs) → added total (Goes 0 ((cs ++ es) ++ rs)) ≡ whole → ◌≡◌ {A = Counted} (Err g) whole
  conditions_stop cs es rs total g whole e inv = sym (ap (added total) (ap (Goes 0) (append_assoc cs es rs) ∙ goes_both cs (es ++ rs) 0 ∙ ap (λ r. after r (λ m. Goes m (es ++ rs))) (sym e))) ∙ inv

-- ---- any type

pub size_next : (n m : ℕ) (t : Table) (id : ℕ) (row : TypeRow) (v : Plain) → 1 ≤ n → m ≡ n - 1 → slice_get t id ≡ Some row → packed_size_within n t id v ≡ packed_kind_size t (packed_size_within m t) id row.kind v
unfolding packed_size_within
size_next zero m t id row v some e there = absurd (omega arith)
size_next (suc n) m t id row v some e there = let same : m ≡ n = omega (arith, e) in rw same (ap (λ o. packed_row_size t (packed_size_within n t) id o v) there)
