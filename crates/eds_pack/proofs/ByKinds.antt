-- Defaults by the kind of their type, where the kind is known by an equation.
use Rattle.std.proofs.Common.{◌≡◌, ℕ, ℤ, pos, List, Option, Some, None, sym, subst, ◌∙◌}
use Rattle.std.specs.Prelude.{slice_get}
use Rattle.eds_base.specs.declared.ids.TypeId.{TypeId}
use Rattle.eds_base.specs.declared.spans.Span.{Span}
use Rattle.eds_bits.specs.Bits.{Bits}
use Rattle.eds_bits.specs.Style.{canonical}
use Rattle.eds_bits.specs.declared.forms.BoolForm.{BoolForm}
use Rattle.eds_bits.specs.declared.forms.IntForm.{IntForm}
use Rattle.eds_types.specs.declared.row.Container.{Container}
use Rattle.eds_types.specs.declared.row.Kind.{Kind}
use Rattle.eds_types.specs.declared.row.Kind.TheVariants as kind
use Rattle.eds_types.specs.declared.row.TypeRow.{TypeRow}
use Rattle.eds_types.specs.Plain.{Plain}
use Rattle.eds_types.specs.Rows.{Table}
use Rattle.eds_types.specs.Spelling.{KindSpells, SpellsWithin}
use Rattle.eds_pack.specs.Building.{AskedOf, Built, Chosen, HasContainer, IsFirstLabel, IsLeastLabel, IsLeastTruth, ItemsHold}
use Rattle.eds_pack.specs.Defaults.{DefaultsWithin, FieldsDefault, IsLeast, ItemsDefault, KindDefaults}
use Rattle.eds_pack.specs.Putting.{FieldsSpell}
use Rattle.eds_pack.proofs.Builds.{built_whole}
use Rattle.eds_pack.proofs.Entries.{own_built, own_none}

module _ (t : Table) (D : ℕ → Plain → Type 0) (C : ℕ → Plain → Bits → Type 0) (id : ℕ) (k : Kind) where
  abbrev pub Kept : ℕ → ℕ → Option Plain → Type 0
  Kept old new o = Built (KindDefaults t D id k) (KindSpells canonical t C id k) old new o

  pub label_kept : (form : IntForm) (listing : List (List ℕ × ℤ)) → k ≡ kind.Enum form listing → (n : ℕ) (o : Option Plain) → Chosen (IsFirstLabel listing) o → Kept n n o
  label_kept form listing e n o h = subst (λ x. Built (KindDefaults t D id x) (KindSpells canonical t C id x) n n o) (sym e) (built_whole (KindDefaults t D id (kind.Enum form listing)) (KindSpells canonical t C id (kind.Enum form listing)) n o h)

  pub items_kept : (item : TypeId) (m : ℕ) → k ≡ kind.Arr item m → (old new : ℕ) (o : Option Plain) → Built (ItemsDefault t D item.0 m) (λ v b. ItemsHold (C item.0) m v b) old new o → Kept old new o
  items_kept item m e old new o h = subst (λ x. Built (KindDefaults t D id x) (KindSpells canonical t C id x) old new o) (sym e) h

  pub fields_kept : (c : Container) → k ≡ kind.Con c → (old new : ℕ) (o : Option Plain) → Built (FieldsDefault t D id) (FieldsSpell t C id) old new o → Kept old new o
  fields_kept c e old new o h = subst (λ x. Built (KindDefaults t D id x) (KindSpells canonical t C id x) old new o) (sym e) h

  module _ (S : Plain → Bits → Type 0) (s : List Span) where
    abbrev pub Least : ℕ → ℕ → Option Plain → Type 0
    Least old new o = Built (AskedOf t D id k s) S old new o

    pub label_asked : (form : IntForm) (listing : List (List ℕ × ℤ)) → k ≡ kind.Enum form listing → (n : ℕ) (o : Option Plain) → Chosen (IsLeastLabel listing s) o → Least n n o
    label_asked form listing e n o h = subst (λ x. Built (AskedOf t D id x s) S n n o) (sym e) (built_whole (AskedOf t D id (kind.Enum form listing) s) S n o h)

    pub truth_asked : (form : BoolForm) → k ≡ kind.Bool form → (n : ℕ) (o : Option Plain) → Chosen (IsLeastTruth s) o → Least n n o
    truth_asked form e n o h = subst (λ x. Built (AskedOf t D id x s) S n n o) (sym e) (built_whole (AskedOf t D id (kind.Bool form) s) S n o h)

module _ (t : Table) (n id : ℕ) (k : Kind) (row : TypeRow) (c : Container) (is : slice_get t id ≡ Some row) (kind_is : row.kind ≡ k) (e : k ≡ kind.Con c) (s : List Span) where
  pub own_asked : (own old new : ℕ) (o : Option Plain) → IsLeast (HasContainer t id s) (pos own) → Built (DefaultsWithin n t own) (SpellsWithin n canonical t own) old new o → Built (AskedOf t (DefaultsWithin n t) id k s) (SpellsWithin n canonical t id) old new o
  own_asked own old new o l h = subst (λ x. Built (AskedOf t (DefaultsWithin n t) id x s) (SpellsWithin n canonical t id) old new o) (sym e) (own_built t n id row c is (kind_is ∙ e) s own old new o l h)

  pub none_asked : (old : ℕ) → ((m : ℤ) → HasContainer t id s m → ⊥) → Built (AskedOf t (DefaultsWithin n t) id k s) (SpellsWithin n canonical t id) old old None
  none_asked old none = subst (λ x. Built (AskedOf t (DefaultsWithin n t) id x s) (SpellsWithin n canonical t id) old old None) (sym e) (own_none t n id row c is (kind_is ∙ e) s old none)
