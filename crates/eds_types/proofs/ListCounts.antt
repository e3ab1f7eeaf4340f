-- The number of a list's items: the entry that tells it stands before the list, and tells a number that isn't negative.
use Rattle.std.proofs.Common.{◌≡◌, ℕ, zero, suc, ℤ, pos, Bool, true, false, cond, List, [], ◌∷◌, ◌++◌, Option, Some, refl, sym, ap, subst, ◌∙◌, inl, inr}
use Rattle.std.specs.Prelude.{◌&&◌, ◌==◌, slice_get}
use Rattle.std.specs.List.{AllByRecursion}
use Rattle.std.proofs.lemmas.Bool.{and_parts, and_from, eqb-true, eq-eqb, false_from_ne_true}
use Rattle.eds_base.specs.declared.spans.Span.{Span}
use Rattle.eds_base.specs.Spans.{IsWithin}
use Rattle.eds_bits.specs.declared.forms.IntForm.{IntForm}
use Rattle.eds_bits.specs.Bits.{Bits}
use Rattle.eds_bits.specs.Lists.{HasOne}
use Rattle.eds_bits.specs.Style.{any}
use Rattle.eds_types.specs.declared.row.TypeRow.{TypeRow}
use Rattle.eds_types.specs.declared.row.Kind.{Kind}
use Rattle.eds_types.specs.declared.row.Kind.TheVariants as kind
use Rattle.eds_types.specs.declared.row.Part.{Part}
use Rattle.eds_types.specs.declared.row.Part.TheVariants as part
use Rattle.eds_types.specs.Domains.{int_domain_in, int_domain_by}
use Rattle.eds_types.specs.Fields.{Field, value_at, has_value, row_at, type_by, field_at}
use Rattle.eds_types.specs.Plain.{Plain, num}
use Rattle.eds_types.specs.Rows.{Table, Placed}
use Rattle.eds_types.specs.Rules.{IsIntBy, IsInt}
use Rattle.eds_types.specs.Spelling.{KindSpells, SpellsWithin}
use Rattle.eds_types.proofs.AllOf.{All-weaker}
use Rattle.eds_types.proofs.FieldKeys.{IsOther, value_stays}
use Rattle.eds_types.proofs.FieldTypes.{Stands, IsPlaced, ValueFits}
use Rattle.eds_types.proofs.SpellingSizes.{same_row}
use Rattle.eds_types.proofs.TableFacts.{IsCount}

-- ---- the field of a part

at_by : Field → List Field → ℕ → ℕ → Bool → Option Plain
at_by f fs y i b = cond b (Some f.value) (value_at fs y i)

pub found_there : (l : List Field) (y i : ℕ) (v : Plain) (more : List Field) → AllByRecursion (IsOther y i) l → value_at (l ++ (field_at y i v) ∷ more) y i ≡ Some v
unfolding IsOther at_by
found_there [] y i v more h = ap (at_by (field_at y i v) more y i) (and_from (y == y) (i == i) (eq-eqb y y refl) (eq-eqb i i refl))
found_there (f ∷ l) y i v more h =
    let off : (f.container == y && f.place == i) ≡ false = false_from_ne_true (f.container == y && f.place == i) (λ e. let p = and_parts (f.container == y) (f.place == i) e in h.0 (eqb-true f.container y p.0, eqb-true f.place i p.1)) in
    ap (at_by f (l ++ (field_at y i v) ∷ more) y i) off ∙ found_there l y i v more h.1

-- the part's value is among the fields
abbrev pub IsKnown : List Field → Placed → Type 0
IsKnown l q = has_value q.part ≡ true → (v : Plain) × (value_at l q.container q.place ≡ Some v)

pub known_more : (done : List Placed) (l more : List Field) → AllByRecursion (IsKnown l) done → AllByRecursion (IsKnown (l ++ more)) done
known_more done l more h = All-weaker (IsKnown l) (IsKnown (l ++ more)) (λ q g e. let k = g e in (k.0, value_stays l more q.container q.place k.0 k.1)) done h

-- ---- the entry that counts

pub known_count : (t : Table) (y i : ℕ) (l : List Field) (done : List Placed) → HasOne (λ (q : Placed). (q.container ≡ y) × (q.place ≡ i) × IsCount t q.part) done → AllByRecursion (IsKnown l) done → (w : Plain) × (value_at l y i ≡ Some w)
known_count t y i l [] h k = absurd h
known_count t y i l (q ∷ done) (inl h) k = let w = k.0 (valued_count q.part h.2) in (w.0, ap (λ z. value_at l z i) (sym h.0) ∙ ap (λ z. value_at l q.container z) (sym h.1) ∙ w.1)
  where
    valued_count : (q : Part) → IsCount t q → has_value q ≡ true
    valued_count (part.Plain name id) c = refl
    valued_count (part.Fixed name id v) c = absurd c
    valued_count (part.Pad m) c = absurd c
    valued_count (part.List name id y i) c = absurd c
    valued_count (part.Length name id c0 c1) c = absurd c
    valued_count (part.Check name id kd) c = absurd c
known_count t y i l (q ∷ done) (inr h) k = known_count t y i l done h k.1

pub count_stands : (t : Table) (y i : ℕ) (done : List Placed) → HasOne (λ (q : Placed). (q.container ≡ y) × (q.place ≡ i) × IsCount t q.part) done → AllByRecursion (IsPlaced t) done → (q : Part) × Stands t y i q × IsCount t q
count_stands t y i [] h k = absurd h
count_stands t y i (q ∷ done) (inl h) k = (q.part, subst (λ z. Stands t y z q.part) h.1 (subst (λ z. Stands t z q.place q.part) h.0 k.0), h.2)
count_stands t y i (q ∷ done) (inr h) k = count_stands t y i done h k.1

-- what an entry that counts tells: a number of its domain
pub record Told (t : Table) (q : Part) (w : Plain) : Type 0 where
  pub m : ℕ
  pub is : w ≡ num (pos m)
  pub spans : List Span
  pub domain : int_domain_in (row_at t (type_by (Some q))) ≡ Some spans
  pub within : IsWithin spans (pos m)
  pub natural : (n : ℤ) → IsWithin spans n → (i : ℕ) × (n ≡ pos i)

abbrev Counts : IntForm → List Span → Type 0
Counts form spans = (n : ℤ) → IsWithin spans n → (i : ℕ) × (n ≡ pos i)

record ToldBy (k : Kind) (w : Plain) : Type 0 where
  m : ℕ
  is : w ≡ num (pos m)
  spans : List Span
  domain : int_domain_by k ≡ Some spans
  within : IsWithin spans (pos m)
  natural : (n : ℤ) → IsWithin spans n → (i : ℕ) × (n ≡ pos i)

spelt_counts : (t : Table) (m x : ℕ) (w : Plain) (b : Bits) → IsInt t x Counts → SpellsWithin m any t x w b → (row : TypeRow) × (slice_get t x ≡ Some row) × ToldBy row.kind w
unfolding SpellsWithin
spelt_counts t zero x w b c s = absurd s
spelt_counts t (suc m) x w b c s = (s.0, s.1, by_kind (s.0).kind (subst (λ (r : TypeRow). IsIntBy Counts r.kind) (same_row t x c.0 s.0 c.1 s.1) c.2) s.2)
  where
    by_kind : (k : Kind) → IsIntBy Counts k → KindSpells any t (SpellsWithin m any t) x k w b → ToldBy k w
    by_kind (kind.Int form spans) c s = let r = c s.0 s.2 in record { m = r.0; is = s.1 ∙ ap num r.1; spans = spans; domain = refl; within = subst (IsWithin spans) r.1 s.2; natural = c }
    by_kind (kind.Enum form listing) c s = absurd c
    by_kind (kind.Bool form) c s = absurd c
    by_kind (kind.Str form) c s = absurd c
    by_kind (kind.Bin size free) c s = absurd c
    by_kind (kind.Arr item size) c s = absurd c
    by_kind (kind.Con con) c s = absurd c

pub told_by : (t : Table) (n : ℕ) (q : Part) (w : Plain) → IsCount t q → ValueFits t n q w → Told t q w
told_by t n (part.Plain name id) w c h = let r = spelt_counts t n id.0 w h.0 c h.1 in let k = r.2 in record { m = k.m; is = k.is; spans = k.spans; domain = ap int_domain_in r.1 ∙ k.domain; within = k.within; natural = k.natural }
told_by t n (part.Fixed name id v) w c h = absurd c
told_by t n (part.Pad m) w c h = absurd c
told_by t n (part.List name id y i) w c h = absurd c
told_by t n (part.Length name id c0 c1) w c h = absurd c
told_by t n (part.Check name id kd) w c h = absurd c

-- it is a number from 0 on
pub value_counts : (t : Table) (n : ℕ) (q : Part) (w : Plain) → IsCount t q → ValueFits t n q w → (m : ℕ) × (w ≡ num (pos m))
value_counts t n q w c h = let r = told_by t n q w c h in (r.m, r.is)
