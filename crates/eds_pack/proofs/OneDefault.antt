-- A type has one default at most.
use Rattle.std.proofs.Common.{◌≡◌, ℕ, zero, suc, ℤ, pos, nat_abs, List, [], ◌∷◌, ◌++◌, replicate, Bool, true, false, Option, Some, inl, inr, refl, sym, ap, subst, ◌∙◌, arith}
use Rattle.std.specs.Prelude.{if◌then◌else◌}
use Rattle.eds_base.specs.declared.spans.Span.{Span}
use Rattle.eds_base.specs.Spans.{IsWithin}
use Rattle.eds_types.proofs.RuleFacts.{table_of}
use Rattle.eds_types.proofs.Tables.{IsOneLabel}
use Rattle.eds_types.specs.declared.row.Constraint.{Constraint}
use Rattle.eds_types.specs.declared.row.Kind.{Kind}
use Rattle.eds_types.specs.declared.row.Kind.TheVariants as kind
use Rattle.eds_types.specs.declared.row.Part.{Part}
use Rattle.eds_types.specs.declared.row.Part.TheVariants as part
use Rattle.eds_types.specs.declared.row.TypeRow.{TypeRow}
use Rattle.eds_types.specs.Fields.{constraints_along}
use Rattle.eds_types.specs.Overlap.{IsSolution}
use Rattle.eds_types.specs.Plain.{Plain, num, label, truth, items, fields, plains_of}
use Rattle.eds_types.specs.Rows.{Table, Placed, address, sequence}
use Rattle.eds_types.specs.Rules.{KeepsRules}
use Rattle.eds_pack.specs.Defaults.{DefaultsWithin, EntryDefaults, IsFirst, KindDefaults, LeastDefaults, PartDefaults, PartsDefault, StandsFor}
use Rattle.eds_pack.proofs.Entries.{least_same}

first_same : (s : List Span) (n m : ℤ) → IsFirst s n → IsFirst s m → n ≡ m
first_same s n m (inl h) (inl k) = h.1 ∙ sym k.1
first_same s n m (inl h) (inr k) = absurd (k.0 h.0)
first_same s n m (inr h) (inl k) = absurd (h.0 k.0)
first_same s n m (inr h) (inr k) = least_same (IsWithin s) n m h.1 k.1

truths_same : (b c : Bool) → pos (if b then 1 else 0) ≡ pos (if c then 1 else 0) → b ≡ c
truths_same true true e = refl
truths_same false false e = refl
truths_same true false e = absurd (let z : 1 ≡ 0 = ap nat_abs e in omega arith)
truths_same false true e = absurd (let z : 0 ≡ 1 = ap nat_abs e in omega arith)

module _ (t : Table) (rules : KeepsRules t) (D : ℕ → Plain → Type 0) (one : (id : ℕ) (v w : Plain) → D id v → D id w → v ≡ w) where
  stands_same : (k : Kind) → IsOneLabel k → (n : ℤ) (v w : Plain) → StandsFor t D k n v → StandsFor t D k n w → v ≡ w
  stands_same (kind.Int form spans) l n v w h k = h ∙ sym k
  stands_same (kind.Enum form listing) l n v w h k = h.1 ∙ ap label (l h.0 k.0 n h.2 k.2) ∙ sym k.1
  stands_same (kind.Bool form) l n v w h k = h.1 ∙ ap truth (truths_same h.0 k.0 (sym h.2 ∙ k.2)) ∙ sym k.1
  stands_same (kind.Str form) l n v w h k = absurd h
  stands_same (kind.Bin m free) l n v w h k = absurd h
  stands_same (kind.Arr item m) l n v w h k = absurd h
  stands_same (kind.Con c) l n v w h k = let e : h.0 ≡ k.0 = ap nat_abs (sym h.1 ∙ k.1) in one k.0 v w (subst (λ x. D x v) e h.2) k.2

  least_default_same : (cs : List Constraint) (p : Placed) (id : ℕ) (v w : Plain) → LeastDefaults t D cs p id v → LeastDefaults t D cs p id w → v ≡ w
  least_default_same cs p id v w h k =
      let z : ◌≡◌ {A = Option TypeRow} (Some h.0) (Some k.0) = sym h.1 ∙ k.1 in
      let r : h.0 ≡ k.0 = cc in
      let n : h.2.0 ≡ k.2.0 = least_same (IsSolution t cs (address p ∷ [])) h.2.0 k.2.0 h.2.1 k.2.1 in
      stands_same (k.0).kind ((table_of t rules).one_label id k.0 k.1) k.2.0 v w (subst (λ x. StandsFor t D (k.0).kind x v) n (subst (λ (x : TypeRow). StandsFor t D x.kind h.2.0 v) r h.2.2)) k.2.2

  entry_same : (cs : List Constraint) (p : Placed) (id : ℕ) (v w : Plain) → EntryDefaults t D cs p id v → EntryDefaults t D cs p id w → v ≡ w
  entry_same cs p id v w (inl h) (inl k) = least_default_same cs p id v w h.1 k.1
  entry_same cs p id v w (inl h) (inr k) = absurd (k.0 h.0)
  entry_same cs p id v w (inr h) (inl k) = absurd (h.0 k.0)
  entry_same cs p id v w (inr h) (inr k) = one id v w h.1 k.1

  part_same : (cs : List Constraint) (p : Placed) (q : Part) (f g : List Plain) → PartDefaults t D cs p q f → PartDefaults t D cs p q g → f ≡ g
  part_same cs p (part.Plain name id) f g h k = h.1 ∙ ap (λ v. v ∷ []) (entry_same cs p id.0 h.0 k.0 h.2 k.2) ∙ sym k.1
  part_same cs p (part.Fixed name id v) f g h k = h ∙ sym k
  part_same cs p (part.Pad n) f g h k = h ∙ sym k
  part_same cs p (part.List name id y i) f g h k = h ∙ sym k
  part_same cs p (part.Length name id c0 c1) f g h k = h ∙ sym k
  part_same cs p (part.Check name id check) f g h k = h ∙ sym k

  parts_same : (cs : List Constraint) (ps : List Placed) (f g : List Plain) → PartsDefault t D cs ps f → PartsDefault t D cs ps g → f ≡ g
  parts_same cs [] f g h k = h ∙ sym k
  parts_same cs (p ∷ ps) f g h k = h.2 ∙ ap (λ z. z ++ h.1) (part_same cs p p.part h.0 k.0 h.3 k.3) ∙ ap (λ z. k.0 ++ z) (parts_same cs ps h.1 k.1 h.4 k.4) ∙ sym k.2

  kind_same : (id : ℕ) (k : Kind) (v w : Plain) → KindDefaults t D id k v → KindDefaults t D id k w → v ≡ w
  kind_same id (kind.Int form spans) v w h k = h.1 ∙ ap num (first_same spans h.0 k.0 h.2 k.2) ∙ sym k.1
  kind_same id (kind.Enum form listing) v w h k =
      let e : (h.0, h.1) ∷ h.2 ≡ (k.0, k.1) ∷ k.2 = sym h.3 ∙ k.3 in
      let first : ◌≡◌ {A = List ℕ × ℤ} (h.0, h.1) (k.0, k.1) = cc in
      let l : h.0 ≡ k.0 = ap (λ (y : List ℕ × ℤ). y.0) first in
      h.4 ∙ ap label l ∙ sym k.4
  kind_same id (kind.Bool form) v w h k = h ∙ sym k
  kind_same id (kind.Str form) v w h k = h ∙ sym k
  kind_same id (kind.Bin n free) v w h k = h ∙ sym k
  kind_same id (kind.Arr item n) v w h k = h.2 ∙ ap (λ x. items (plains_of (replicate n x))) (one item.0 h.0 k.0 h.1 k.1) ∙ sym k.2
  kind_same id (kind.Con c) v w h k = h.1.2 ∙ ap (λ f. fields id (plains_of f)) (parts_same (constraints_along t id) (sequence t id) h.1.0 k.1.0 h.1.1 k.1.1) ∙ sym k.1.2

pub one_within : (t : Table) → KeepsRules t → (n id : ℕ) (v w : Plain) → DefaultsWithin n t id v → DefaultsWithin n t id w → v ≡ w
unfolding DefaultsWithin
one_within t rules zero id v w h k = absurd h
one_within t rules (suc n) id v w h k =
    let z : ◌≡◌ {A = Option TypeRow} (Some h.0) (Some k.0) = sym h.1 ∙ k.1 in
    let r : h.0 ≡ k.0 = cc in
    kind_same t rules (DefaultsWithin n t) (one_within t rules n) id (k.0).kind v w (subst (λ (x : TypeRow). KindDefaults t (DefaultsWithin n t) id x.kind v) r h.2) k.2
