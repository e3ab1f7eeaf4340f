-- With room for 16 types in a chain and for 32 nested types, more room changes nothing.
use Rattle.eds_base.specs.declared.fault.Fault.{Fault}
use Rattle.std.proofs.Common.{◌≡◌, ℕ, zero, suc, ◌<◌, List, [], ◌∷◌, ◌++◌, Option, Some, None, refl, ap, subst, arith, inl, inr}
use Rattle.std.specs.List.{AllByRecursion}
use Rattle.eds_bits.specs.Bits.{Bits}
use Rattle.eds_bits.specs.Style.{Style, any}
use Rattle.eds_types.specs.declared.row.Kind.{Kind}
use Rattle.eds_types.specs.declared.row.Kind.TheVariants as kind
use Rattle.eds_types.specs.declared.row.Part.{Part}
use Rattle.eds_types.specs.declared.row.Part.TheVariants as part
use Rattle.eds_types.specs.Failing.{Station, condition, entry, choice, end, course, Differs, ItemFails, PartFails, EntryFailsBy, StationPasses, Passes, StationFails, KindFails, FailsWithin}
use Rattle.eds_types.specs.Fields.{IsAtOrUnder}
use Rattle.eds_types.specs.Plain.{Plain, list_of}
use Rattle.eds_types.specs.Rows.{Table, base_of, chain_before, chain_within, Placed, sequence}
use Rattle.eds_types.specs.Sizes.{tail_of}
use Rattle.eds_types.specs.Spelling.{Progress, started, PartPasses, PartsPass, KindSpells, SpellsWithin}
use Rattle.eds_types.proofs.Tables.{IsTable, IsItemType}
use Rattle.eds_types.proofs.AllOf.{All-weaker, All-front, All-back}
use Rattle.eds_types.proofs.Ranks.{Lower, sequence_lower}
use Rattle.eds_types.proofs.SpellingSizes.{items_any}
use Rattle.eds_overlap.proofs.CourseParts.{OfPart, AtStation, course_at}

-- ---- chains

module _ (t : Table) (is : IsTable t) where
  same_before : (n m id : ℕ) (o : Option ℕ) → base_of t id ≡ o → ((base : ℕ) → is.level base < n → is.level base < m → chain_within n t base ≡ chain_within m t base) → is.level id < suc n → is.level id < suc m → chain_before (chain_within n t) o ≡ chain_before (chain_within m t) o
  same_before n m id None e ih h k = refl
  same_before n m id (Some base) e ih h k = let l = is.base id base e in ih base (omega arith) (omega arith)

  pub chain_same : (n m id : ℕ) → is.level id < n → is.level id < m → chain_within n t id ≡ chain_within m t id
  unfolding chain_within
  chain_same zero m id h k = absurd (omega arith)
  chain_same (suc n) zero id h k = absurd (omega arith)
  chain_same (suc n) (suc m) id h k = ap (λ c. c ++ id ∷ []) (same_before n m id (base_of t id) refl (chain_same n m) h k)

-- ---- what is carried from one depth to another

abbrev pub OfItem : (ℕ → Type 0) → Kind → Type 0
OfItem P (kind.Int form spans) = Unit {0}
OfItem P (kind.Enum form listing) = Unit {0}
OfItem P (kind.Bool form) = Unit {0}
OfItem P (kind.Str form) = Unit {0}
OfItem P (kind.Bin n free) = Unit {0}
OfItem P (kind.Arr item n) = P item.0
OfItem P (kind.Con c) = Unit {0}

module _ (t : Table) (E F : ℕ → Plain → Bits → Type 0) where
  abbrev pub Carried : ℕ → Type 0
  Carried x = (v : Plain) (b : Bits) → E x v b → F x v b

  part_to : (style : Style) (s : Progress) (p : Placed) (q : Part) (u : Progress) (b : Bits) → OfPart Carried q → PartPasses style t E s p q u b → PartPasses style t F s p q u b
  part_to style s p (part.Plain name id) u b g h = (h.0, g id.0 refl h.0 b h.1, h.2)
  part_to style s p (part.Fixed name id v) u b g h = (g id.0 refl _ b h.0, h.1)
  part_to style s p (part.Pad n) u b g h = h
  part_to style s p (part.List name id y i) u b g h = (h.0, h.1, items_any (E id.0) (F id.0) (g id.0 refl) (list_of h.0) b h.2, h.3)
  part_to style s p (part.Length name id c0 c1) u b g h = (h.0, g id.0 refl _ b h.1, h.2)
  part_to style s p (part.Check name id k) u b g h = (g id.0 refl _ b h.0, h.1)

  pub parts_to : (style : Style) (ps : List Placed) (s u : Progress) (b : Bits) → AllByRecursion (λ (p : Placed). OfPart Carried p.part) ps → PartsPass style t E s ps u b → PartsPass style t F s ps u b
  parts_to style [] s u b g h = h
  parts_to style (p ∷ ps) s u b g h = (h.0, h.1, h.2, h.3, part_to style s p p.part h.0 h.1 g.0 h.4, parts_to style ps h.0 u h.2 g.1 h.5)

  spelling_to : (style : Style) (id : ℕ) (k : Kind) (v : Plain) (b : Bits) → OfItem Carried k → ((c : ℕ) → IsAtOrUnder t id c → AllByRecursion (λ (p : Placed). OfPart Carried p.part) (sequence t c)) → KindSpells style t E id k v b → KindSpells style t F id k v b
  spelling_to style id (kind.Int form spans) v b i g h = h
  spelling_to style id (kind.Enum form listing) v b i g h = h
  spelling_to style id (kind.Bool form) v b i g h = h
  spelling_to style id (kind.Str form) v b i g h = h
  spelling_to style id (kind.Bin n free) v b i g h = h
  spelling_to style id (kind.Arr item n) v b i g h = (h.0, h.1, h.2, items_any (E item.0) (F item.0) i (list_of h.0) b h.3)
  spelling_to style id (kind.Con c) v b i g h =
      let sp = h.3 in
      (h.0, h.1, h.2, record { concrete = sp.concrete; under = sp.under; end = sp.end; parts = parts_to style (sequence t h.0) started (sp.end) b (g h.0 sp.under) sp.parts; values = sp.values; size = sp.size; constraints = sp.constraints; most_derived = sp.most_derived })

  -- ---- faults

  module _ (G H : ℕ → Bits → Fault → Type 0) where
    abbrev Both : ℕ → Type 0
    Both x = Carried x × ((b : Bits) (w : Fault) → G x b w → H x b w)

    spells_of : (q : Part) → OfPart Both q → OfPart Carried q
    spells_of q g x e = (g x e).0

    items_fail : (x count : ℕ) (b : Bits) (w : Fault) → Both x → ItemFails (E x) (G x) count b w → ItemFails (F x) (H x) count b w
    items_fail x count b w g h = record { before = h.before; few = h.few; c = h.c; d = h.d; bits = h.bits; spelled = items_any (E x) (F x) g.0 h.before h.c h.spelled; why = h.why; fails = g.1 h.d h.why h.fails; is = h.is }

    differs_to : (x : ℕ) (v : Plain) (b : Bits) → Both x → Differs t E G x v b → Differs t F H x v b
    differs_to x v b g h = record { other = h.other; c = h.c; rest = h.rest; bits = h.bits; spelled = g.0 h.other h.c h.spelled; differs = h.differs }

    part_fails : (s : Progress) (q : Part) (b : Bits) (w : Fault) → OfPart Both q → PartFails t E G s q b w → PartFails t F H s q b w
    part_fails s (part.Plain name id) b w g h = (g id.0 refl).1 b w h
    part_fails s (part.Fixed name id v) b w g (inl h) = inl ((g id.0 refl).1 b w h)
    part_fails s (part.Fixed name id v) b w g (inr h) = inr (differs_to id.0 _ b (g id.0 refl) h.0, h.1)
    part_fails s (part.Pad n) b w g h = h
    part_fails s (part.List name id y i) b w g h = items_fail id.0 _ b w (g id.0 refl) h
    part_fails s (part.Length name id c0 c1) b w g h = (g id.0 refl).1 b w h
    part_fails s (part.Check name id k) b w g (inl h) = inl ((g id.0 refl).1 b w h)
    part_fails s (part.Check name id k) b w g (inr h) = inr (differs_to id.0 _ b (g id.0 refl) h.0, h.1)

    entry_fails_by : (o : Option ℕ) (s : Progress) (p : Placed) (b : Bits) (w : Fault) → OfPart Both p.part → EntryFailsBy t E G o s p b w → EntryFailsBy t F H o s p b w
    entry_fails_by None s p b w g h = (h.0, part_fails s p.part b h.0 g h.1, h.2)
    entry_fails_by (Some n) s p b w g h = h

    station_passes : (x : ℕ) (s : Progress) (st : Station) (u : Progress) (b : Bits) → AtStation t Both st → StationPasses t E x s st u b → StationPasses t F x s st u b
    station_passes x s (condition y c) u b g h = h
    station_passes x s (entry p) u b g h = (part_to any s p p.part u b (spells_of p.part g) h.0, h.1)
    station_passes x s (choice y) u b g h = h
    station_passes x s end u b g h = h

    passes_to : (x : ℕ) (ss : List Station) (s u : Progress) (b : Bits) → AllByRecursion (AtStation t Both) ss → Passes t E x s ss u b → Passes t F x s ss u b
    passes_to x [] s u b g h = h
    passes_to x (st ∷ ss) s u b g h = (h.0, h.1, h.2, h.3, station_passes x s st h.0 h.1 g.0 h.4, passes_to x ss h.0 u h.2 g.1 h.5)

    station_fails : (x : ℕ) (s : Progress) (st : Station) (b : Bits) (w : Fault) → AtStation t Both st → StationFails t E G x s st b w → StationFails t F H x s st b w
    station_fails x s (condition y c) b w g h = h
    station_fails x s (entry p) b w g h = entry_fails_by (tail_of t p.part) s p b w g h
    station_fails x s (choice y) b w g h = h
    station_fails x s end b w g h = h

    fault_to : (id : ℕ) (k : Kind) (b : Bits) (w : Fault) → OfItem Both k → ((c : ℕ) → IsAtOrUnder t id c → AllByRecursion (AtStation t Both) (course t id c)) → KindFails t E G id k b w → KindFails t F H id k b w
    fault_to id (kind.Int form spans) b w i g h = h
    fault_to id (kind.Enum form listing) b w i g h = h
    fault_to id (kind.Bool form) b w i g h = h
    fault_to id (kind.Str form) b w i g h = h
    fault_to id (kind.Bin n free) b w i g h = h
    fault_to id (kind.Arr item n) b w i g h = items_fail item.0 n b w i h
    fault_to id (kind.Con c) b w i g h =
        let all = subst (AllByRecursion (AtStation t Both)) h.is_course (g h.x h.under) in
        record { x = h.x; under = h.under; done = h.done; station = h.station; rest = h.rest; is_course = h.is_course; state = h.state; c = h.c; d = h.d; bits = h.bits; passes = passes_to h.x h.done started h.state h.c (All-front (AtStation t Both) h.done (h.station ∷ h.rest) all) h.passes; fails = station_fails h.x h.state h.station h.d w (All-back (AtStation t Both) h.done (h.station ∷ h.rest) all).0 h.fails }

-- ---- all depths that are enough

module _ (t : Table) (is : IsTable t) where
  pub item_of : (P : ℕ → Type 0) (id : ℕ) (k : Kind) → IsItemType t is.rank id k → ((x : ℕ) → is.rank x < is.rank id → P x) → OfItem P k
  item_of P id (kind.Int form spans) h g = tt
  item_of P id (kind.Enum form listing) h g = tt
  item_of P id (kind.Bool form) h g = tt
  item_of P id (kind.Str form) h g = tt
  item_of P id (kind.Bin n free) h g = tt
  item_of P id (kind.Arr item n) h g = g item.0 h.0
  item_of P id (kind.Con c) h g = tt

  pub parts_of : (P : ℕ → Type 0) (id c : ℕ) → IsAtOrUnder t id c → ((x : ℕ) → is.rank x < is.rank id → P x) → AllByRecursion (λ (p : Placed). OfPart P p.part) (sequence t c)
  parts_of P id c u g = All-weaker (Lower t is id) (λ (p : Placed). OfPart P p.part) (λ p l x e. g x (l.lower x e).0) (sequence t c) (sequence_lower t is id c u)

  pub spells_to : (style : Style) (n m id : ℕ) → is.rank id < m → (v : Plain) (b : Bits) → SpellsWithin n style t id v b → SpellsWithin m style t id v b
  unfolding SpellsWithin
  spells_to style zero m id r v b h = absurd h
  spells_to style (suc n) zero id r v b h = absurd (omega arith)
  spells_to style (suc n) (suc m) id r v b h =
      let E = λ (x : ℕ) (w : Plain) (c : Bits). SpellsWithin n style t x w c in
      let F = λ (x : ℕ) (w : Plain) (c : Bits). SpellsWithin m style t x w c in
      let low = λ (x : ℕ) (l : is.rank x < is.rank id) (w : Plain) (c : Bits). spells_to style n m x (omega arith) w c in
      (h.0, h.1, spelling_to t E F style id (h.0).kind v b (item_of (Carried t E F) id (h.0).kind (is.items id h.0 h.1) low) (λ c u. parts_of (Carried t E F) id c u low) h.2)

  pub fails_to : (n m id : ℕ) → is.rank id < m → (b : Bits) (w : Fault) → FailsWithin n t id b w → FailsWithin m t id b w
  unfolding FailsWithin
  fails_to zero m id r b w h = absurd h
  fails_to (suc n) zero id r b w h = absurd (omega arith)
  fails_to (suc n) (suc m) id r b w h =
      let E = λ (x : ℕ) (v : Plain) (c : Bits). SpellsWithin n any t x v c in
      let F = λ (x : ℕ) (v : Plain) (c : Bits). SpellsWithin m any t x v c in
      let G = λ (x : ℕ) (c : Bits) (g : Fault). FailsWithin n t x c g in
      let H = λ (x : ℕ) (c : Bits) (g : Fault). FailsWithin m t x c g in
      let low : (x : ℕ) → is.rank x < is.rank id → Both t E F G H x = λ x l. ((λ v c. spells_to any n m x (omega arith) v c), (λ c g. fails_to n m x (omega arith) c g)) in
      (h.0, h.1, fault_to t E F G H id (h.0).kind b w (item_of (Both t E F G H) id (h.0).kind (is.items id h.0 h.1) low) (λ c u. course_at t (Both t E F G H) is id c u (parts_of (Both t E F G H) id c u low)) h.2)
