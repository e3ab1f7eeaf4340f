-- The entries and lists of a container and their values.
use Rattle.std.proofs.Common.{◌≡◌, ℕ, suc, ◌*◌, ◌≤◌, List, [], ◌∷◌, ◌++◌, length, map, Bool, true, false, Option, Some, None, Ok, refl, sym, ap, ◌∙◌, append-nil}
use Rattle.std.specs.List.{AllByRecursion, cons_option, filter_map}
use Rattle.serde_json.specs.Data.{depth}
use Rattle.eds_bits.specs.Bits.{Bits}
use Rattle.eds_bits.specs.Lists.{Has}
use Rattle.eds_bits.specs.Style.{canonical}
use Rattle.eds_types.specs.declared.row.Part.{Part}
use Rattle.eds_types.specs.declared.row.Part.TheVariants as part
use Rattle.eds_types.specs.Fields.{Field, values_of, field_at}
use Rattle.eds_types.specs.Plain.{Plain, items, Plains, list_of}
use Rattle.eds_types.specs.Rows.{Table, address, Placed}
use Rattle.eds_types.specs.Rules.{AreDistinct, name_of}
use Rattle.eds_types.specs.Spelling.{Progress, ItemsSpell, PartPasses, PartsPass, SpellsWithin}
use Rattle.eds_types.proofs.FieldTypes.{IsPlaced}
use Rattle.eds_value.specs.Entries.{Entry, entry_by, entry_at}
use Rattle.eds_value.specs.Held.{AreHeld}
use Rattle.eds_value.specs.JsonOfValue.{json_of_value}
use Rattle.eds_value.specs.Laws.{HasNoTypeEntry}
use Rattle.eds_value.specs.ValueOfJson.{value_within}
use Rattle.eds_value.proofs.MembersOfValues.{Differ, Lacks}

-- the entries among parts, by the places of these
abbrev pub entries_among : Table → List Placed → List Entry
entries_among t ps = filter_map (entry_at t) (map address ps)

-- ---- names

pub cons_other : {A : Type 0} (o : Option A) (x : A) (xs : List A) → (Has (cons_option o xs) x → ⊥) → Has xs x → ⊥
cons_other None x xs h has = h has
cons_other (Some y) x xs h has = h (record { before = y ∷ has.before; after = has.after; is = ap (λ l. y ∷ l) has.is })

cons_first : {A : Type 0} (y x : A) (xs : List A) → (Has (y ∷ xs) x → ⊥) → y ≡ x → ⊥
cons_first y x xs h e = h (record { before = []; after = xs; is = ap (λ z. z ∷ xs) e })

distinct_rest : {A : Type 0} (o : Option A) (xs : List A) → AreDistinct (cons_option o xs) → AreDistinct xs
distinct_rest None xs h = h
distinct_rest (Some x) xs h = h.1

module _ (t : Table) where
  abbrev Names : List Placed → List (List ℕ)
  Names ps = filter_map (λ (p : Placed). name_of p.part) ps

  -- the entry of a part that stands in its place
  pub stands_as : (p : Placed) → IsPlaced t p → entry_at t (address p) ≡ entry_by (address p) (Some p.part)
  stands_as p h = ap (entry_by (address p)) h

  lacks_one : (name : List ℕ) (p : Placed) (q : Part) (es : List Entry) (names : List (List ℕ)) → (Has (cons_option (name_of q) names) name → ⊥) → Lacks name es → Lacks name (cons_option (entry_by (address p) (Some q)) es)
  lacks_one name p (part.Plain own id) es names h l = (cons_first own name names h, l)
  lacks_one name p (part.Fixed own id v) es names h l = l
  lacks_one name p (part.Pad n) es names h l = l
  lacks_one name p (part.List own id y i) es names h l = (cons_first own name names h, l)
  lacks_one name p (part.Length own id c0 c1) es names h l = l
  lacks_one name p (part.Check own id k) es names h l = l

  lacks_from : (name : List ℕ) (ps : List Placed) → AllByRecursion (IsPlaced t) ps → (Has (Names ps) name → ⊥) → Lacks name (entries_among t ps)
  lacks_from name [] pl h = tt
  lacks_from name (p ∷ ps) pl h = rw (stands_as p pl.0) (lacks_one name p p.part (entries_among t ps) (Names ps) h (lacks_from name ps pl.1 (cons_other (name_of p.part) name (Names ps) h)))

  differ_one : (p : Placed) (q : Part) (ps : List Placed) → AllByRecursion (IsPlaced t) ps → AreDistinct (cons_option (name_of q) (Names ps)) → Differ (entries_among t ps) → Differ (cons_option (entry_by (address p) (Some q)) (entries_among t ps))
  differ_one p (part.Plain own id) ps pl h d = (lacks_from own ps pl h.0, d)
  differ_one p (part.Fixed own id v) ps pl h d = d
  differ_one p (part.Pad n) ps pl h d = d
  differ_one p (part.List own id y i) ps pl h d = (lacks_from own ps pl h.0, d)
  differ_one p (part.Length own id c0 c1) ps pl h d = d
  differ_one p (part.Check own id k) ps pl h d = d

  -- entries have different names where the parts have
  pub differ_from : (ps : List Placed) → AllByRecursion (IsPlaced t) ps → AreDistinct (Names ps) → Differ (entries_among t ps)
  differ_from [] pl h = tt
  differ_from (p ∷ ps) pl h = rw (stands_as p pl.0) (differ_one p p.part ps pl.1 h (differ_from ps pl.1 (distinct_rest (name_of p.part) (Names ps) h)))

-- ---- values

-- what is known of a value of a type in which at most n types are nested, with it: it is read where JSON is nested so deep
-- or deeper
pub record IsFine (t : Table) (n id : ℕ) (v : Plain) : Type 0 where
  pub reads : HasNoTypeEntry t → (m : ℕ) → n ≤ m → value_within m t id (json_of_value t v) ≡ Ok v
  pub held : AreHeld v
  pub deep : depth (json_of_value t v) ≤ 2 * n

module _ (t : Table) (n : ℕ) where
  -- of a value of an entry of that type, or of a list of such items
  abbrev pub IsFineAs : Bool → ℕ → Plain → Type 0
  IsFineAs false id v = IsFine t n id v
  IsFineAs true id v = (ws : Plains) × (v ≡ items ws) × AllByRecursion (IsFine t n id) (list_of ws)

  -- the values are those of the entries, in turn
  abbrev pub AreValues : List Entry → List Plain → Type 0
  AreValues [] [] = Unit {0}
  AreValues [] (v ∷ vs) = ⊥
  AreValues (e ∷ es) [] = ⊥
  AreValues (e ∷ es) (v ∷ vs) = IsFineAs e.is_list e.id v × AreValues es vs

  pub length-values : (es : List Entry) (vs : List Plain) → AreValues es vs → length vs ≡ length es
  length-values [] [] h = refl
  length-values [] (v ∷ vs) h = absurd h
  length-values (e ∷ es) [] h = absurd h
  length-values (e ∷ es) (v ∷ vs) h = ap suc (length-values es vs h.1)

  module _ (fine : (id : ℕ) (v : Plain) (b : Bits) → SpellsWithin n canonical t id v b → IsFine t n id v) where
    abbrev C : ℕ → Plain → Bits → Type 0
    C = SpellsWithin n canonical t

    pub items_fine : (id : ℕ) (vs : List Plain) (b : Bits) → ItemsSpell (C id) vs b → AllByRecursion (IsFine t n id) vs
    items_fine id [] b h = tt
    items_fine id (v ∷ vs) b h = (fine id v h.0 h.3, items_fine id vs h.1 h.4)

    abbrev Adds : Progress → Progress → List Entry → Type 0
    Adds s u es = (vs : List Plain) × (values_of u.fields ≡ values_of s.fields ++ vs) × AreValues es vs

    values_more : (fs : List Field) (y i : ℕ) (v : Plain) (vs : List Plain) → values_of (fs ++ (field_at y i v) ∷ []) ++ vs ≡ values_of fs ++ v ∷ vs
    values_more [] y i v vs = refl
    values_more (f ∷ fs) y i v vs = ap (λ l. f.value ∷ l) (values_more fs y i v vs)

    part_adds : (p : Placed) (q : Part) (s m u : Progress) (b : Bits) (es : List Entry) → PartPasses canonical t C s p q m b → Adds m u es → Adds s u (cons_option (entry_by (address p) (Some q)) es)
    part_adds p (part.Plain name id) s m u b es h r =
        (h.0 ∷ r.0, r.1 ∙ ap (λ (x : Progress). values_of x.fields ++ r.0) h.2 ∙ values_more s.fields p.container p.place h.0 r.0, (fine id.0 h.0 b h.1, r.2))
    part_adds p (part.Fixed name id v) s m u b es h r = (r.0, r.1 ∙ ap (λ (x : Progress). values_of x.fields ++ r.0) h.1, r.2)
    part_adds p (part.Pad k) s m u b es h r = (r.0, r.1 ∙ ap (λ (x : Progress). values_of x.fields ++ r.0) h.2, r.2)
    part_adds p (part.List name id y i) s m u b es h r =
        (items h.0 ∷ r.0, r.1 ∙ ap (λ (x : Progress). values_of x.fields ++ r.0) h.3 ∙ values_more s.fields p.container p.place (items h.0) r.0, ((h.0, refl, items_fine id.0 (list_of h.0) b h.2), r.2))
    part_adds p (part.Length name id c0 c1) s m u b es h r = (r.0, r.1 ∙ ap (λ (x : Progress). values_of x.fields ++ r.0) h.2, r.2)
    part_adds p (part.Check name id k) s m u b es h r = (r.0, r.1 ∙ ap (λ (x : Progress). values_of x.fields ++ r.0) h.1, r.2)

    -- what the parts add to the values
    pub parts_add : (ps : List Placed) (s u : Progress) (b : Bits) → AllByRecursion (IsPlaced t) ps → PartsPass canonical t C s ps u b → Adds s u (entries_among t ps)
    parts_add [] s u b pl h = ([], ap (λ (x : Progress). values_of x.fields) h.0 ∙ sym (append-nil (values_of s.fields)), tt)
    parts_add (p ∷ ps) s u b pl h = rw (stands_as t p pl.0) (part_adds p p.part s h.0 u h.1 (entries_among t ps) h.4 (parts_add ps h.0 u h.2 pl.1 h.5))
