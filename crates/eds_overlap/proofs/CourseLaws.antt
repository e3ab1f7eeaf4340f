-- What spells the fields of a container is what its course lets pass.
use Rattle.std.proofs.Common.{◌≡◌, ℕ, suc, [], Option, Some, None, true, false, refl, sym, subst}
use Rattle.std.specs.Prelude.{slice_get, IsSome}
use Rattle.eds_bits.specs.Bits.{Bits}
use Rattle.eds_bits.specs.Style.{any}
use Rattle.eds_types.specs.declared.row.Container.{Container}
use Rattle.eds_types.specs.declared.row.Kind.{Kind}
use Rattle.eds_types.specs.declared.row.Kind.TheVariants as kind
use Rattle.eds_types.specs.declared.row.TypeRow.{TypeRow}
use Rattle.eds_types.specs.Failing.{FailsWithin}
use Rattle.eds_types.specs.Plain.{Plain, Plains, fields, list_of}
use Rattle.eds_types.specs.Rows.{Table, container_by, container_in, sequence}
use Rattle.eds_types.specs.Rules.{IsContainer}
use Rattle.eds_types.specs.Spelling.{started, ContainerSpells, KindSpells, SpellsWithin}
use Rattle.eds_types.proofs.Tables.{IsTable}
use Rattle.eds_types.proofs.RuleFacts.{table_of, facts_of}
use Rattle.eds_types.proofs.TableFacts.{Facts}
use Rattle.eds_types.proofs.TailSizes.{all_entries}
use Rattle.eds_overlap.specs.Laws.{PassesCourse, SpellingIsCourse}
use Rattle.eds_overlap.proofs.ContainerReading.{passes_of}
use Rattle.eds_overlap.proofs.CourseSpelling.{spelling_of}

container_kind : (k : Kind) → IsSome (container_by k) → (c : Container) × (k ≡ kind.Con c)
container_kind (kind.Int form spans) i = absurd (let z : true ≡ false = sym i in cc)
container_kind (kind.Enum form listing) i = absurd (let z : true ≡ false = sym i in cc)
container_kind (kind.Bool form) i = absurd (let z : true ≡ false = sym i in cc)
container_kind (kind.Str form) i = absurd (let z : true ≡ false = sym i in cc)
container_kind (kind.Bin n free) i = absurd (let z : true ≡ false = sym i in cc)
container_kind (kind.Arr item n) i = absurd (let z : true ≡ false = sym i in cc)
container_kind (kind.Con c) i = (c, refl)

module _ (t : Table) (is : IsTable t) (can : Facts t) (n : ℕ) (id k : ℕ) (f : Plains) (b : Bits) where
  abbrev Inner : ℕ → Plain → Bits → Type 0
  Inner x v c = SpellsWithin n any t x v c

  course_of : ContainerSpells any t Inner id k (list_of f) b → PassesCourse t Inner id k (list_of f) b
  course_of sp =
      let entries = all_entries t n [] (sequence t k) started (sp.end) b (can.tails k) (can.once k) (λ x. absurd x) sp.size sp.parts in
      record { under = sp.under; end = sp.end; passes = passes_of t Inner is (FailsWithin n t) id k (list_of f) b sp entries; values = sp.values }

  pub to_course : SpellsWithin (suc n) any t id (fields k f) b → PassesCourse t Inner id k (list_of f) b
  unfolding SpellsWithin
  to_course h = by_kind (h.0).kind h.2
    where
      by_kind : (q : Kind) → KindSpells any t Inner id q (fields k f) b → PassesCourse t Inner id k (list_of f) b
      by_kind (kind.Int form spans) h = absurd (let e = h.1 in cc)
      by_kind (kind.Enum form listing) h = absurd (let e = h.2 in cc)
      by_kind (kind.Bool form) h = absurd (let e = h.1 in cc)
      by_kind (kind.Str form) h = absurd (let e = h.1 in cc)
      by_kind (kind.Bin m free) h = absurd (let e = h.1 in cc)
      by_kind (kind.Arr item m) h = absurd (let e = h.1 in cc)
      by_kind (kind.Con c) h =
          let e : fields k f ≡ fields h.0 h.1 = h.2 in
          let k_is : h.0 ≡ k = cc in
          let f_is : h.1 ≡ f = cc in
          course_of (subst (λ x. ContainerSpells any t Inner id x (list_of f) b) k_is (subst (λ vs. ContainerSpells any t Inner id h.0 (list_of vs) b) f_is h.3))

  pub from_course : IsContainer t id → PassesCourse t Inner id k (list_of f) b → SpellsWithin (suc n) any t id (fields k f) b
  unfolding SpellsWithin
  from_course i p = go (slice_get t id) refl i
    where
      spells : ContainerSpells any t Inner id k (list_of f) b
      spells = subst (λ vs. ContainerSpells any t Inner id k vs b) (sym p.values) (spelling_of t Inner is (FailsWithin n t) id k p.end b p.under p.passes)

      go : (o : Option TypeRow) → slice_get t id ≡ o → IsSome (container_in o) → (row : TypeRow) × (slice_get t id ≡ Some row) × KindSpells any t Inner id row.kind (fields k f) b
      go None e i = absurd (let z : true ≡ false = sym i in cc)
      go (Some row) e i = let c = container_kind row.kind i in (row, e, subst (λ q. KindSpells any t Inner id q (fields k f) b) (sym c.1) (k, f, refl, spells))

pub spelling_is_course : SpellingIsCourse
spelling_is_course t id h i k f b = (
  to_course t (table_of t h.rules) (facts_of t h.rules) 31 id k f b,
  from_course t (table_of t h.rules) (facts_of t h.rules) 31 id k f b i,
)
