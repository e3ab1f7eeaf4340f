-- Building defaults: how what is built of parts makes up what is built of the whole.
use Rattle.std.proofs.Common.{◌≡◌, ℕ, zero, suc, ◌-◌, ◌*◌, ◌<◌, ◌≤◌, min, List, [], ◌∷◌, ◌++◌, length, replicate, Option, Some, None, refl, sym, ap, subst, ◌∙◌, arith, append-nil, append_assoc}
use Rattle.std.specs.Prelude.{slice_get, IsTrue}
use Rattle.std.proofs.lemmas.List.{length-append}
use Rattle.eds_base.specs.declared.ids.TypeId.{TypeId}
use Rattle.eds_bits.specs.Bits.{Bits}
use Rattle.eds_bits.specs.Style.{canonical}
use Rattle.eds_types.specs.declared.row.Constraint.{Constraint}
use Rattle.eds_types.specs.declared.row.Part.{Part}
use Rattle.eds_types.specs.declared.row.Part.TheVariants as part
use Rattle.eds_types.specs.declared.row.TypeRow.{TypeRow}
use Rattle.eds_types.specs.Fields.{Field, values_of, constraints_along, field_of}
use Rattle.eds_types.specs.Plain.{Plain, items, fields, list_of, plains_of}
use Rattle.eds_types.specs.Rows.{Table, Placed, is_concrete, sequence}
use Rattle.eds_types.specs.Spelling.{ItemsSpell, Progress, started, PartPasses, PartsPass, KindSpells, SpellsWithin}
use Rattle.eds_pack.specs.Building.{Built, Chosen, ItemsHold, PartHolds, PartsHold}
use Rattle.eds_pack.specs.Defaults.{DefaultsWithin, EntryDefaults, FieldsDefault, KindDefaults, PartDefaults, PartsDefault}
use Rattle.eds_pack.specs.Putting.{FieldsSpell}
use Rattle.eds_types.proofs.SameValues.{list_of-plains_of}
use Rattle.eds_pack.proofs.Spelt.{spells_next}
use Rattle.eds_types.proofs.SpellingSizes.{tail_same}

-- ---- in general

-- what was chosen takes no bits for itself
pub built_whole : {A : Type 0} (P : A → Type 0) (S : A → Bits → Type 0) (n : ℕ) (o : Option A) → Chosen P o → Built P S n n o
built_whole P S n None h = λ v b p s. absurd (h v p)
built_whole P S n (Some v) h = (h, omega arith, λ w b p s. omega arith)

-- the same things, by other words
pub built_as : {A : Type 0} (P Q : A → Type 0) (S R : A → Bits → Type 0) (old new : ℕ) → ((v : A) → P v → Q v) → ((v : A) → Q v → P v) → ((v : A) (b : Bits) → Q v → R v b → S v b) → (o : Option A) → Built P S old new o → Built Q R old new o
built_as P Q S R old new to from by None h = λ v b q r. h v b (from v q) (by v b q r)
built_as P Q S R old new to from by (Some v) h = (to v h.0, h.1, λ w b q r. h.2 w b (from w q) (by w b q r))

-- no bits are left for what takes more
pub built_none : {A : Type 0} (P : A → Type 0) (S : A → Bits → Type 0) (old new least : ℕ) → old < least → ((v : A) (b : Bits) → S v b → least ≤ length b) → Built P S old new None
built_none P S old new least few g = λ v b p s. let l = g v b s in omega arith

-- what is built takes at least so many bits
pub built_least : {A : Type 0} (P : A → Type 0) (S : A → Bits → Type 0) (old mid new least : ℕ) (o : Option A) → least ≤ old → new ≡ min mid (old - least) → ((v : A) (b : Bits) → S v b → least ≤ length b) → Built P S old mid o → Built P S old new o
built_least P S old mid new least None le e g h = h
built_least P S old mid new least (Some v) le e g h = (h.0, omega (arith, h.1, e), λ w b p s. (let l = g w b s in let m = h.2 w b p s in omega (arith, e)))

-- ---- types

next_default : (t : Table) (n m id : ℕ) (row : TypeRow) → 1 ≤ n → m ≡ n - 1 → slice_get t id ≡ Some row → (v : Plain) → DefaultsWithin n t id v → KindDefaults t (DefaultsWithin m t) id row.kind v
unfolding DefaultsWithin
next_default t zero m id row some e there v h = absurd (omega arith)
next_default t (suc n) m id row some e there v h =
    let same : m ≡ n = omega (arith, e) in
    let o : ◌≡◌ {A = Option TypeRow} (Some h.0) (Some row) = sym h.1 ∙ there in
    let r : h.0 ≡ row = cc in
    rw same (subst (λ (x : TypeRow). KindDefaults t (DefaultsWithin n t) id x.kind v) r h.2)

default_next : (t : Table) (n m id : ℕ) (row : TypeRow) → 1 ≤ n → m ≡ n - 1 → slice_get t id ≡ Some row → (v : Plain) → KindDefaults t (DefaultsWithin m t) id row.kind v → DefaultsWithin n t id v
unfolding DefaultsWithin
default_next t zero m id row some e there v h = absurd (omega arith)
default_next t (suc n) m id row some e there v h = (row, there, subst (λ k. KindDefaults t (DefaultsWithin k t) id row.kind v) (omega (arith, e)) h)

pub built_within : (t : Table) (n m id : ℕ) (row : TypeRow) → 1 ≤ n → m ≡ n - 1 → slice_get t id ≡ Some row → (old new : ℕ) (o : Option Plain) → Built (KindDefaults t (DefaultsWithin m t) id row.kind) (KindSpells canonical t (SpellsWithin m canonical t) id row.kind) old new o → Built (DefaultsWithin n t id) (SpellsWithin n canonical t id) old new o
built_within t n m id row some e there old new o h =
    built_as (KindDefaults t (DefaultsWithin m t) id row.kind) (DefaultsWithin n t id) (KindSpells canonical t (SpellsWithin m canonical t) id row.kind) (SpellsWithin n canonical t id) old new
    (default_next t n m id row some e there) (next_default t n m id row some e there) (λ v b q r. spells_next n m t id row v some e there b r) o h

-- ---- items

copies_spelled : (S : Plain → Bits → Type 0) (w : Plain) (used : ℕ) → ((b : Bits) → S w b → used ≤ length b) → (n : ℕ) (b : Bits) → ItemsSpell S (replicate n w) b → used * n ≤ length b
copies_spelled S w used g zero b h = omega arith
copies_spelled S w used g (suc n) b h = omega (arith, ap length h.2, length-append h.0 h.1, g h.0 h.3, copies_spelled S w used g n h.1 h.4)

module _ (P : Plain → Type 0) (S : Plain → Bits → Type 0) (n : ℕ) where
  abbrev pub Copied : Plain → Type 0
  Copied v = (w : Plain) × P w × (v ≡ items (plains_of (replicate n w)))

  -- the spelling of the items of a default
  inside : (v : Plain) (b : Bits) → (c : Copied v) → ItemsHold S n v b → ItemsSpell S (replicate n c.0) b
  inside v b c h =
      let same : items (plains_of (replicate n c.0)) ≡ items h.0 = sym c.2 ∙ h.1 in
      let vs : plains_of (replicate n c.0) ≡ h.0 = cc in
      subst (λ xs. ItemsSpell S xs b) (sym (ap list_of vs) ∙ list_of-plains_of (replicate n c.0)) h.3

  pub items_none : (old new : ℕ) → 1 ≤ n → Built P S old new None → Built Copied (ItemsHold S n) old new None
  items_none old new some h = λ v b c s. first v b c (inside v b c s)
    where
      go : (m : ℕ) → 1 ≤ m → (w : Plain) (b : Bits) → P w → ItemsSpell S (replicate m w) b → old < length b
      go zero lt w b p s = absurd (omega arith)
      go (suc m) lt w b p s = let l = h w s.0 p s.3 in omega (arith, ap length s.2, length-append s.0 s.1)

      first : (v : Plain) (b : Bits) → (c : Copied v) → ItemsSpell S (replicate n c.0) b → old < length b
      first v b c s = go n some c.0 b c.1 s

  pub items_past : (old mid new used : ℕ) (v : Plain) → Built P S old mid (Some v) → used ≡ (old - mid) * n → old < used → Built Copied (ItemsHold S n) old new None
  items_past old mid new used v h e lt = λ w b c s. (let l = copies_spelled S c.0 (old - mid) (λ d r. (let k = h.2 c.0 d c.1 r in omega (arith, h.1))) n b (inside w b c s) in omega (arith, e))

  pub items_built : (old mid new used : ℕ) (v : Plain) → Built P S old mid (Some v) → used ≡ (old - mid) * n → used ≤ old → new ≡ old - used → Built Copied (ItemsHold S n) old new (Some (items (plains_of (replicate n v))))
  items_built old mid new used v h e le is = ((v, h.0, refl), omega (arith, is), λ w b c s. (let l = copies_spelled S c.0 (old - mid) (λ d r. (let k = h.2 c.0 d c.1 r in omega (arith, h.1))) n b (inside w b c s) in omega (arith, e, is)))

-- ---- parts

module _ (t : Table) (D : ℕ → Plain → Type 0) (C : ℕ → Plain → Bits → Type 0) (cs : List Constraint) where
  abbrev Defaults : List Placed → List Plain → Type 0
  Defaults ps f = PartsDefault t D cs ps f

  -- values of parts, taken apart
  record Apart (ps qs : List Placed) (f : List Plain) (b : Bits) : Type 0 where
    g : List Plain
    h : List Plain
    c : Bits
    d : Bits
    values : f ≡ g ++ h
    bits : b ≡ c ++ d
    first : Defaults ps g
    rest : Defaults qs h
    first_holds : PartsHold C ps g c
    rest_holds : PartsHold C qs h d

  one_value : (u v : Plain) (h k : List Plain) → (u ∷ []) ++ h ≡ (v ∷ []) ++ k → u ≡ v
  one_value u v h k e = cc

  -- the values of a part are the same ones by its default and by its bits
  same_first : (p : Placed) (q : Part) (f g h g' h' : List Plain) (b : Bits) → PartDefaults t D cs p q g → PartHolds C q g' b → f ≡ g ++ h → f ≡ g' ++ h' → g' ≡ g
  same_first p (part.Plain name id) f g h g' h' b x y e e' = y.1 ∙ ap (λ z. z ∷ []) (one_value y.0 x.0 h' h (ap (λ z. z ++ h') (sym y.1) ∙ sym e' ∙ e ∙ ap (λ z. z ++ h) x.1)) ∙ sym x.1
  same_first p (part.Fixed name id v) f g h g' h' b x y e e' = y ∙ sym x
  same_first p (part.Pad n) f g h g' h' b x y e e' = y ∙ sym x
  same_first p (part.List name id z i) f g h g' h' b x y e e' = y.1 ∙ ap (λ z. z ∷ []) (one_value y.0 (items (plains_of [])) h' h (ap (λ z. z ++ h') (sym y.1) ∙ sym e' ∙ e ∙ ap (λ z. z ++ h) x)) ∙ sym x
  same_first p (part.Length name id c0 c1) f g h g' h' b x y e e' = y ∙ sym x
  same_first p (part.Check name id check) f g h g' h' b x y e e' = y ∙ sym x

  same_rest : (f g h g' h' : List Plain) → g' ≡ g → f ≡ g ++ h → f ≡ g' ++ h' → h' ≡ h
  same_rest f g h g' h' s e e' = tail_same g h' h (ap (λ z. z ++ h') (sym s) ∙ sym e' ∙ e)

  apart : (ps qs : List Placed) (f : List Plain) (b : Bits) → Defaults (ps ++ qs) f → PartsHold C (ps ++ qs) f b → Apart ps qs f b
  apart [] qs f b x y = record { g = []; h = f; c = []; d = b; values = refl; bits = refl; first = refl; rest = x; first_holds = (refl, refl); rest_holds = y }
  apart (p ∷ ps) qs f b x y =
      let s : y.0 ≡ x.0 = same_first p p.part f x.0 x.1 y.0 y.1 y.2 x.3 y.6 x.2 y.4 in
      let e : y.1 ≡ x.1 = same_rest f x.0 x.1 y.0 y.1 s x.2 y.4 in
      let r = apart ps qs x.1 y.3 x.4 (subst (λ z. PartsHold C (ps ++ qs) z y.3) e y.7) in
      record {
        g = x.0 ++ r.g;
        h = r.h;
        c = y.2 ++ r.c;
        d = r.d;
        values = x.2 ∙ ap (λ z. x.0 ++ z) r.values ∙ sym (append_assoc x.0 r.g r.h);
        bits = y.5 ∙ ap (λ z. y.2 ++ z) r.bits ∙ sym (append_assoc y.2 r.c r.d);
        first = (x.0, r.g, refl, x.3, r.first);
        rest = r.rest;
        first_holds = (y.0, r.g, y.2, r.c, ap (λ z. z ++ r.g) (sym s), refl, y.6, r.first_holds);
        rest_holds = r.rest_holds;
      }

  together : (ps : List Placed) (p : Placed) (f g : List Plain) → Defaults ps f → PartDefaults t D cs p p.part g → Defaults (ps ++ p ∷ []) (f ++ g)
  together [] p f g x y = (g, [], ap (λ z. z ++ g) x ∙ sym (append-nil g), y, refl)
  together (q ∷ ps) p f g x y = (x.0, x.1 ++ g, ap (λ z. z ++ g) x.2 ∙ append_assoc x.0 x.1 g, x.3, together ps p x.1 g x.4 y)

  -- the part that comes next: its default's values, and the bits that hold them
  first_of : (p : Placed) (qs : List Placed) (f : List Plain) (d : Bits) → Defaults (p ∷ qs) f → PartsHold C (p ∷ qs) f d → (g : List Plain) × (c : Bits) × (length c ≤ length d) × PartDefaults t D cs p p.part g × PartHolds C p.part g c
  first_of p qs f d x y =
      let s : y.0 ≡ x.0 = same_first p p.part f x.0 x.1 y.0 y.1 y.2 x.3 y.6 x.2 y.4 in
      (x.0, y.2, omega (arith, ap length y.5, length-append y.2 y.3), x.3, subst (λ z. PartHolds C p.part z y.2) s y.6)

  -- one part more
  pub parts_next : (ps : List Placed) (p : Placed) (old mid new : ℕ) (f g : List Plain) → Built (Defaults ps) (PartsHold C ps) old mid (Some f) → Built (PartDefaults t D cs p p.part) (PartHolds C p.part) mid new (Some g) → Built (Defaults (ps ++ p ∷ [])) (PartsHold C (ps ++ p ∷ [])) old new (Some (f ++ g))
  parts_next ps p old mid new f g h k = (together ps p f g h.0 k.0, omega (arith, h.1, k.1), λ w b x y. (let a = apart ps (p ∷ []) w b x y in let o = first_of p [] a.h a.d a.rest a.rest_holds in let u = h.2 a.g a.c a.first a.first_holds in let v = k.2 o.0 o.1 o.3 o.4 in omega (arith, ap length a.bits, length-append a.c a.d, o.2)))

  -- a part that has none
  pub parts_stop : (ps qs all : List Placed) (p : Placed) (old mid new last : ℕ) (f : List Plain) → all ≡ ps ++ p ∷ qs → Built (Defaults ps) (PartsHold C ps) old mid (Some f) → Built (PartDefaults t D cs p p.part) (PartHolds C p.part) mid new None → Built (Defaults all) (PartsHold C all) old last None
  parts_stop ps qs all p old mid new last f e h k = λ w b x y. (let a = apart ps (p ∷ qs) w b (subst (λ z. Defaults z w) e x) (subst (λ z. PartsHold C z w b) e y) in let o = first_of p qs a.h a.d a.rest a.rest_holds in let u = h.2 a.g a.c a.first a.first_holds in let v = k o.0 o.1 o.3 o.4 in omega (arith, ap length a.bits, length-append a.c a.d, o.2))

  -- no parts yet
  pub parts_begin : (n : ℕ) → Built (Defaults []) (PartsHold C []) n n (Some [])
  parts_begin n = (refl, omega arith, λ w b x y. omega arith)

  -- a part by its kind
  pub plain_built : (p : Placed) (name : List ℕ) (id : TypeId) (old new : ℕ) (v : Plain) → Built (EntryDefaults t D cs p id.0) (C id.0) old new (Some v) → Built (PartDefaults t D cs p (part.Plain name id)) (PartHolds C (part.Plain name id)) old new (Some (v ∷ []))
  plain_built p name id old new v h = ((v, refl, h.0), h.1, λ w b x y. (let e : x.0 ≡ y.0 = one_value x.0 y.0 [] [] (sym x.1 ∙ y.1) in h.2 x.0 b x.2 (subst (λ z. C id.0 z b) (sym e) y.2)))

  pub plain_none : (p : Placed) (name : List ℕ) (id : TypeId) (old new : ℕ) → Built (EntryDefaults t D cs p id.0) (C id.0) old new None → Built (PartDefaults t D cs p (part.Plain name id)) (PartHolds C (part.Plain name id)) old new None
  plain_none p name id old new h = λ w b x y. (let e : x.0 ≡ y.0 = one_value x.0 y.0 [] [] (sym x.1 ∙ y.1) in h x.0 b x.2 (subst (λ z. C id.0 z b) (sym e) y.2))

-- ---- the fields of a container

module _ (t : Table) (C : ℕ → Plain → Bits → Type 0) where
  values_more : (fs : List Field) (p : Placed) (v : Plain) → values_of (fs ++ field_of p v ∷ []) ≡ values_of fs ++ v ∷ []
  values_more [] p v = refl
  values_more (f ∷ fs) p v = ap (λ z. f.value ∷ z) (values_more fs p v)

  part_held : (s : Progress) (p : Placed) (q : Part) (u : Progress) (b : Bits) → PartPasses canonical t C s p q u b → (g : List Plain) × (values_of u.fields ≡ values_of s.fields ++ g) × PartHolds C q g b
  part_held s p (part.Plain name id) u b h = (h.0 ∷ [], ap (λ (z : Progress). values_of z.fields) h.2 ∙ values_more s.fields p h.0, (h.0, refl, h.1))
  part_held s p (part.Fixed name id v) u b h = ([], ap (λ (z : Progress). values_of z.fields) h.1 ∙ sym (append-nil (values_of s.fields)), refl)
  part_held s p (part.Pad n) u b h = ([], ap (λ (z : Progress). values_of z.fields) h.2 ∙ sym (append-nil (values_of s.fields)), refl)
  part_held s p (part.List name id y i) u b h = (items h.0 ∷ [], ap (λ (z : Progress). values_of z.fields) h.3 ∙ values_more s.fields p (items h.0), (items h.0, refl))
  part_held s p (part.Length name id c0 c1) u b h = ([], ap (λ (z : Progress). values_of z.fields) h.2 ∙ sym (append-nil (values_of s.fields)), refl)
  part_held s p (part.Check name id k) u b h = ([], ap (λ (z : Progress). values_of z.fields) h.1 ∙ sym (append-nil (values_of s.fields)), refl)

  parts_held : (ps : List Placed) (s u : Progress) (b : Bits) → PartsPass canonical t C s ps u b → (g : List Plain) × (values_of u.fields ≡ values_of s.fields ++ g) × PartsHold C ps g b
  parts_held [] s u b h = ([], ap (λ (z : Progress). values_of z.fields) h.0 ∙ sym (append-nil (values_of s.fields)), (refl, h.1))
  parts_held (p ∷ ps) s u b h =
      let x = part_held s p p.part h.0 h.1 h.4 in
      let y = parts_held ps h.0 u h.2 h.5 in
      (x.0 ++ y.0, y.1 ∙ ap (λ z. z ++ y.0) x.1 ∙ append_assoc (values_of s.fields) x.0 y.0, (x.0, y.0, h.1, h.2, refl, h.3, x.2, y.2))

  module _ (D : ℕ → Plain → Type 0) (id : ℕ) where
    abbrev Parts : List Plain → Type 0
    Parts f = PartsDefault t D (constraints_along t id) (sequence t id) f

    held : (v : Plain) (b : Bits) → (x : FieldsDefault t D id v) → FieldsSpell t C id v b → PartsHold C (sequence t id) x.1.0 b
    held v b x y =
        let same : fields id (plains_of x.1.0) ≡ fields y.0 y.1 = sym x.1.2 ∙ y.2 in
        let k : y.0 ≡ id = cc in
        let vs : y.1 ≡ plains_of x.1.0 = cc in
        let sp = y.3 in
        let r = parts_held (sequence t y.0) started sp.end b sp.parts in
        let e : r.0 ≡ x.1.0 = sym r.1 ∙ sym sp.values ∙ ap list_of vs ∙ list_of-plains_of x.1.0 in
        subst (λ z. PartsHold C (sequence t z) x.1.0 b) k (subst (λ z. PartsHold C (sequence t y.0) z b) e r.2)

    pub fields_built : IsTrue (is_concrete t id) → (old new : ℕ) (f : List Plain) → Built Parts (PartsHold C (sequence t id)) old new (Some f) → Built (FieldsDefault t D id) (FieldsSpell t C id) old new (Some (fields id (plains_of f)))
    fields_built concrete old new f h = ((concrete, (f, h.0, refl)), h.1, λ w b x y. h.2 x.1.0 b x.1.1 (held w b x y))

    pub fields_none : (old new : ℕ) → Built Parts (PartsHold C (sequence t id)) old new None → Built (FieldsDefault t D id) (FieldsSpell t C id) old new None
    fields_none old new h = λ w b x y. h x.1.0 b x.1.1 (held w b x y)
