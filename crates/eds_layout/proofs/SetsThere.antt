-- Each type of a table has a layout: for each path that a container's chain constrains there is a set of the numbers that are left.
use Rattle.std.proofs.Common.{◌≡◌, ℕ, ◌-◌, ◌/◌, ◌^◌, ◌≤◌, ℤ, pos, negsuc, Bool, true, false, List, [], ◌∷◌, ◌++◌, map, Option, Some, None, refl, sym, ap, subst, arith, ◌⊎◌, inl, inr}
use Rattle.std.specs.Prelude.{◌≤ℤ◌, ◌==◌, IsTrue, is_some, slice_get}
use Rattle.std.specs.List.{AllByRecursion}
use Rattle.std.proofs.lemmas.Bool.{eqb-true, eq-eqb, both_ways}
use Rattle.std.proofs.Math.Nat.{pow-le-pow_right}
use Rattle.std.proofs.lemmas.Int.{ints, by_lt_z}
use Rattle.eds_base.specs.declared.spans.Span.{Span}
use Rattle.eds_base.specs.Spans.{Lies, IsWithin, Rises, bottom, top}
use Rattle.eds_bits.specs.declared.forms.Encoding.{Encoding}
use Rattle.eds_bits.specs.declared.forms.Encoding.TheVariants.{Unsigned, TwosComplement, SignMagnitude, OnesComplement, PackedBcd, Bcd}
use Rattle.eds_bits.specs.declared.forms.IntForm.{IntForm}
use Rattle.eds_bits.specs.Encodings.{least_by, greatest_by}
use Rattle.eds_bits.specs.IntForms.{HasNumber}
use Rattle.eds_bits.specs.Lists.{Has, HasOne}
use Rattle.eds_types.specs.declared.row.Kind.{Kind}
use Rattle.eds_types.specs.declared.row.Kind.TheVariants as kind
use Rattle.eds_types.specs.declared.row.TypeRow.{TypeRow}
use Rattle.eds_types.specs.declared.row.Constraint.{Constraint}
use Rattle.eds_types.specs.declared.sets.PathSet.{PathSet}
use Rattle.eds_types.specs.Domains.{InDomainOf, InDomainOfRow, InDomainOfType}
use Rattle.eds_types.specs.Fields.{constraints_along, type_on, IsAtOrUnder}
use Rattle.eds_types.specs.Overlap.{IsSolution, IsConstrained}
use Rattle.eds_types.specs.Rows.{Table, chain, container_of, family, is_concrete}
use Rattle.eds_types.specs.Rules.{KeepsRules, KindKeeps, AreDistinct}
use Rattle.eds_types.proofs.LeastBound.{there}
use Rattle.eds_overlap.specs.Pairs.{Steps, IsSolved, same_path}
use Rattle.eds_overlap.proofs.Solutions.{same_is, same_not}
use Rattle.eds_overlap.proofs.CommonFound.{Among, either_way}
use Rattle.eds_layout.specs.declared.layout.TypeLayout.{TypeLayout}
use Rattle.eds_layout.specs.Laws.{HasLayouts}
use Rattle.eds_layout.specs.Layouts.{IsContainerLayout, AreContainerLayouts, IsLayoutBy, plain_layout}
use Rattle.eds_layout.specs.Reports.{layout_with}
use Rattle.eds_layout.proofs.AllNumbers.{Decided, SetOf, set_of}

-- ---- numbers of sets and domains

lies : (s : Span) (n : ℤ) → Decided (Lies s n)
lies s n = by_lt_z n s.low (λ lt. inr (λ w. let a = w.0 in omega (arith, ints))) (λ le. by_lt_z s.high n (λ lt. inr (λ w. let a = w.1 in omega (arith, ints))) (λ few. inl (le, few)))

within : (spans : List Span) (n : ℤ) → Decided (IsWithin spans n)
within [] n = inr (λ w. w)
within (s ∷ spans) n = elim (lies s n) [
  | inl l ↦ inl (inl l)
  | inr never ↦ elim (within spans n) [ inl w ↦ inl (inr w) | inr none ↦ inr (λ w. elim w [ inl l ↦ never l | inr v ↦ none v ]) ]
]

same_number : (a b : ℤ) → Decided (a ≡ b)
same_number a b = by_lt_z a b (λ lt. inr (λ e. omega (arith, ints))) (λ le. by_lt_z b a (λ lt. inr (λ e. omega (arith, ints))) (λ few. inl (omega (arith, ints))))

listed_number : (listing : List (List ℕ × ℤ)) (n : ℤ) → Decided (HasOne (λ e. e.1 ≡ n) listing)
listed_number [] n = inr (λ h. h)
listed_number (x ∷ xs) n = elim (same_number x.1 n) [
  | inl e ↦ inl (inl e)
  | inr never ↦ elim (listed_number xs n) [ inl h ↦ inl (inr h) | inr none ↦ inr (λ h. elim h [ inl e ↦ never e | inr k ↦ none k ]) ]
]

stands : (xs : List ℕ) (x : ℕ) → Decided (Has xs x)
stands [] x = inr (λ h. none h.before h.after h.is)
  where
    none : (before after : List ℕ) → [] ≡ before ++ x ∷ after → ⊥
    none [] after e = cc
    none (z ∷ before) after e = cc
stands (y ∷ ys) x = go (y == x) refl (stands ys x)
  where
    go : (b : Bool) → (y == x) ≡ b → Decided (Has ys x) → Decided (Has (y ∷ ys) x)
    go true e ih = inl (record { before = []; after = ys; is = ap (λ z. z ∷ ys) (eqb-true y x e) })
    go false e (inl h) = inl (record { before = y ∷ h.before; after = h.after; is = ap (λ zs. y ∷ zs) h.is })
    go false e (inr never) = inr (λ h. first h.before h.after h.is)
      where
        first : (before after : List ℕ) → y ∷ ys ≡ before ++ x ∷ after → ⊥
        first [] after p = let q : y ≡ x = cc in both_ways (y == x) e (eq-eqb y x q)
        first (z ∷ before) after p = let q : ys ≡ before ++ x ∷ after = cc in never (record { before = before; after = after; is = q })

module _ (t : Table) where
  concrete_under : (id k : ℕ) (b : Bool) → is_concrete t k ≡ b → Decided (IsTrue (is_concrete t k) × IsAtOrUnder t id k)
  concrete_under id k true e = elim (stands (chain t k) id) [ inl h ↦ inl (e, h) | inr never ↦ inr (λ g. never g.1) ]
  concrete_under id k false e = inr (λ g. both_ways (is_concrete t k) e g.0)

  container_number : (id : ℕ) (n : ℤ) → Decided ((k : ℕ) × (n ≡ pos k) × IsTrue (is_concrete t k) × IsAtOrUnder t id k)
  container_number id (pos m) = elim (concrete_under id m (is_concrete t m) refl) [
    | inl h ↦ inl (m, refl, h.0, h.1)
    | inr never ↦ inr (λ g. let e : m ≡ g.0 = cc (g.1) in never (subst (λ k. IsTrue (is_concrete t k) × IsAtOrUnder t id k) (sym e) (g.2, g.3)))
  ]
  container_number id (negsuc u) = inr (λ g. cc (g.1))

  in_kind : (id : ℕ) (q : Kind) (n : ℤ) → Decided (InDomainOf t id q n)
  in_kind id (kind.Int form spans) n = within spans n
  in_kind id (kind.Enum form listing) n = listed_number listing n
  in_kind id (kind.Bool form) n = elim (same_number n (pos 0)) [
    | inl e ↦ inl (inl e)
    | inr never ↦ elim (same_number n (pos 1)) [ inl e ↦ inl (inr e) | inr none ↦ inr (λ h. elim h [ inl e ↦ never e | inr f ↦ none f ]) ]
  ]
  in_kind id (kind.Str form) n = inr (λ h. h)
  in_kind id (kind.Bin size free) n = inr (λ h. h)
  in_kind id (kind.Arr item size) n = inr (λ h. h)
  in_kind id (kind.Con c) n = container_number id n

  in_row : (id : ℕ) (o : Option TypeRow) (n : ℤ) → Decided (InDomainOfRow t id o n)
  in_row id None n = inr (λ h. h)
  in_row id (Some row) n = in_kind id row.kind n

  in_type : (o : Option ℕ) (n : ℤ) → Decided (InDomainOfType t o n)
  in_type None n = inr (λ h. h)
  in_type (Some id) n = in_row id (slice_get t id) n

  meets : (cs : List Constraint) (path : Steps) (n : ℤ) → Decided (AllByRecursion (λ c. c.path ≡ path → IsWithin c.set n) cs)
  meets [] path n = inl tt
  meets (c ∷ cs) path n = go (same_path c.path path) refl (within c.set n) (meets cs path n)
    where
      go : (b : Bool) → same_path c.path path ≡ b → Decided (IsWithin c.set n) → Decided (AllByRecursion (λ d. d.path ≡ path → IsWithin d.set n) cs) → Decided (AllByRecursion (λ d. d.path ≡ path → IsWithin d.set n) (c ∷ cs))
      go b e w (inr never) = inr (λ h. never h.1)
      go true e (inl w) (inl all) = inl (λ p. w, all)
      go true e (inr never) (inl all) = inr (λ h. never (h.0 (same_is c.path path e)))
      go false e w (inl all) = inl (λ p. absurd (same_not c.path path e p), all)

  solves : (cs : List Constraint) (path : Steps) (n : ℤ) → Decided (IsSolution t cs path n)
  solves cs path n = elim (in_type (type_on t path) n) [
    | inl d ↦ elim (meets cs path n) [ inl c ↦ inl (record { domain = d; constraints = c }) | inr never ↦ inr (λ s. never s.constraints) ]
    | inr never ↦ inr (λ s. never s.domain)
  ]

-- ---- how large they are

abbrev IsHeld : ℤ → Type 0
IsHeld n = (bottom ≤ℤ n) × (n ≤ℤ top)

two : (i : ℕ) → i ≤ 64 → 2 ^ i ≤ 2 ^ 64
two i h = pow-le-pow_right (omega arith) h

half : (i : ℕ) → i ≤ 63 → 2 ^ i ≤ 2 ^ 63
half i h = pow-le-pow_right (omega arith) h

ten : (i : ℕ) → i ≤ 16 → 10 ^ i ≤ 10 ^ 16
ten i h = pow-le-pow_right (omega arith) h

encoding_held : (e : Encoding) (k : ℕ) (n : ℤ) → 1 ≤ k → k ≤ 64 → least_by e k ≤ℤ n → n ≤ℤ greatest_by e k → IsHeld n
encoding_held Unsigned k n s l a b = let h = two k l in (omega (arith, ints), omega (arith, ints))
encoding_held TwosComplement k n s l a b = let h = half (k - 1) (omega arith) in (omega (arith, ints), omega (arith, ints))
encoding_held SignMagnitude k n s l a b = let h = two (k - 1) (omega arith) in (omega (arith, ints), omega (arith, ints))
encoding_held OnesComplement k n s l a b = let h = two (k - 1) (omega arith) in (omega (arith, ints), omega (arith, ints))
encoding_held PackedBcd k n s l a b = let h = ten (k / 4) (omega arith) in (omega (arith, ints), omega (arith, ints))
encoding_held Bcd k n s l a b = let h = ten (k / 8) (omega arith) in (omega (arith, ints), omega (arith, ints))

form_held : (form : IntForm) (n : ℤ) → HasNumber form n → IsHeld n
form_held form n h = encoding_held form.encoding form.bits n (form.valid).some (form.valid).few h.from_least h.to_greatest

module _ (t : Table) (keeps : KeepsRules t) where
  listing_held : (form : IntForm) (listing : List (List ℕ × ℤ)) (n : ℤ) → AllByRecursion (λ e. HasNumber form e.1) listing → HasOne (λ e. e.1 ≡ n) listing → IsHeld n
  listing_held form [] n a h = absurd h
  listing_held form (x ∷ xs) n a (inl e) = subst IsHeld e (form_held form x.1 a.0)
  listing_held form (x ∷ xs) n a (inr h) = listing_held form xs n a.1 h

  row_held : (id : ℕ) (o : Option TypeRow) (n : ℤ) → slice_get t id ≡ o → InDomainOfRow t id o n → IsHeld n
  row_held id None n e h = absurd h
  row_held id (Some row) n e h = go row.kind (keeps.kinds id row e) h
    where
      go : (q : Kind) → KindKeeps q → InDomainOf t id q n → IsHeld n
      go (kind.Int form spans) k w = form_held form n (k.of_form n w)
      go (kind.Enum form listing) k w = listing_held form listing n k.of_form w
      go (kind.Bool form) k (inl z) = (omega (arith, ints), omega (arith, ints))
      go (kind.Bool form) k (inr z) = (omega (arith, ints), omega (arith, ints))
      go (kind.Str form) k w = absurd w
      go (kind.Bin size free) k w = absurd w
      go (kind.Arr item size) k w = absurd w
      go (kind.Con c) k w = let i = there t w.0 w.2 in let f = keeps.few in let z = w.1 in (omega (arith, ints), omega (arith, ints))

  type_held : (o : Option ℕ) (n : ℤ) → InDomainOfType t o n → IsHeld n
  type_held None n h = absurd h
  type_held (Some id) n h = row_held id (slice_get t id) n refl h

  -- ---- a set for each path

  set_on : (cs : List Constraint) (path : Steps) → SetOf (IsSolution t cs path)
  set_on cs path = set_of (IsSolution t cs path) (solves t cs path) (λ n s. type_held (type_on t path) n s.domain)

  -- a set for each path that some of the constraints are on
  record Sets (cs ds : List Constraint) : Type 0 where
    pub sets : List PathSet
    pub each : AllByRecursion (IsSolved t cs) sets
    pub rise : AllByRecursion (λ (s : PathSet). Rises s.set) sets
    pub all : (path : Steps) → IsConstrained ds path → HasOne (λ (s : PathSet). s.path ≡ path) sets
    pub once : AreDistinct (map (λ (s : PathSet). s.path) sets)

  has_path : (sets : List PathSet) (path : Steps) → Among (map (λ (s : PathSet). s.path) sets) path → HasOne (λ (s : PathSet). s.path ≡ path) sets
  has_path [] path h = h
  has_path (s ∷ sets) path (inl e) = inl e
  has_path (s ∷ sets) path (inr h) = inr (has_path sets path h)

  among : (paths : List Steps) (path : Steps) (before after : List Steps) → paths ≡ before ++ path ∷ after → Among paths path
  among [] path [] after e = absurd cc
  among [] path (p ∷ before) after e = absurd cc
  among (q ∷ paths) path [] after e = inl cc
  among (q ∷ paths) path (p ∷ before) after e = let f : paths ≡ before ++ path ∷ after = cc in inr (among paths path before after f)

  one_set : (cs : List Constraint) (d : Constraint) (ds : List Constraint) → IsConstrained cs d.path → Sets cs ds → Sets cs (d ∷ ds)
  one_set cs d ds constrained s = go (either_way (map (λ (x : PathSet). x.path) s.sets) d.path)
    where
      new : SetOf (IsSolution t cs d.path)
      new = set_on cs d.path

      one : PathSet
      one = record { path = d.path; set = new.set }

      go : Among (map (λ (x : PathSet). x.path) s.sets) d.path ⊎ (Among (map (λ (x : PathSet). x.path) s.sets) d.path → ⊥) → Sets cs (d ∷ ds)
      go (inl h) = record {
        sets = s.sets;
        each = s.each;
        rise = s.rise;
        all = λ path c. elim c [ inl e ↦ subst (λ p. HasOne (λ (x : PathSet). x.path ≡ p) s.sets) e (has_path s.sets d.path h) | inr k ↦ s.all path k ];
        once = s.once;
      }
      go (inr never) = record {
        sets = record { path = d.path; set = new.set } ∷ s.sets;
        each = (record { constrained = constrained; solves = new.sound; all = new.all }, s.each);
        rise = (new.rises, s.rise);
        all = λ path c. elim c [ inl e ↦ inl e | inr k ↦ inr (s.all path k) ];
        once = (λ h. never (among (map (λ (x : PathSet). x.path) s.sets) d.path h.before h.after h.is), s.once);
      }

  sets_for : (cs ds : List Constraint) → ((path : Steps) → IsConstrained ds path → IsConstrained cs path) → Sets cs ds
  sets_for cs [] within_all = record { sets = []; each = tt; rise = tt; all = λ path c. c; once = tt }
  sets_for cs (d ∷ ds) within_all = one_set cs d ds (within_all d.path (inl refl)) (sets_for cs ds (λ path c. within_all path (inr c)))

  -- ---- layouts

  container_layout : (k : ℕ) → (l : TypeLayout) × IsContainerLayout t k l
  container_layout k = let s = sets_for (constraints_along t k) (constraints_along t k) (λ path c. c) in
      (layout_with t k s.sets, record { id = refl; bits = refl; rows = refl; sets = record { each = s.each; all = s.all; once = s.once }; rise = s.rise })

  container_layouts : (ks : List ℕ) → (layout : List TypeLayout) × AreContainerLayouts t ks layout
  container_layouts [] = ([], tt)
  container_layouts (k ∷ ks) = let l = container_layout k in let ls = container_layouts ks in (l.0 ∷ ls.0, (l.1, ls.1))

  layout_by : (b : Bool) (id : ℕ) → (layout : List TypeLayout) × IsLayoutBy t b id layout
  layout_by true id = container_layouts (family t id)
  layout_by false id = (plain_layout t id ∷ [], refl)

pub layouts_are_there : HasLayouts
layouts_are_there t id keeps = layout_by t keeps (is_some (container_of t id)) id
