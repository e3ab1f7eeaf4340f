-- The fields that parts add to those before.
use Rattle.std.proofs.Common.{◌≡◌, ℕ, List, [], ◌∷◌, ◌++◌, sym, ap, ◌∙◌, append_assoc, append-nil}
use Rattle.std.specs.List.{AllByRecursion}
use Rattle.eds_bits.specs.Bits.{Bits}
use Rattle.eds_bits.specs.Style.{Style}
use Rattle.eds_types.specs.declared.row.Part.{Part}
use Rattle.eds_types.specs.declared.row.Part.TheVariants as part
use Rattle.eds_types.specs.Fields.{Field, field_of}
use Rattle.eds_types.specs.Plain.{Plain, items}
use Rattle.eds_types.specs.Rows.{Table, Placed}
use Rattle.eds_types.specs.Spelling.{Progress, PartPasses, PartsPass}
use Rattle.eds_types.proofs.AllOf.{All-both, All-each}

module _ (style : Style) (t : Table) (SpellsInner : ℕ → Plain → Bits → Type 0) where
  -- the fields that a part adds are its own
  pub part_grown : (Q : ℕ → ℕ → Type 0) (s : Progress) (p : Placed) (q : Part) (u : Progress) (b : Bits) → Q p.container p.place → PartPasses style t SpellsInner s p q u b → (gs : List Field) × (u.fields ≡ s.fields ++ gs) × AllByRecursion (λ (f : Field). Q f.container f.place) gs
  part_grown Q s p (part.Plain name id) u b h k = ((field_of p k.0) ∷ [], ap (λ (z : Progress). z.fields) k.2, (h, tt))
  part_grown Q s p (part.Fixed name id v) u b h k = ([], ap (λ (z : Progress). z.fields) k.1 ∙ sym (append-nil s.fields), tt)
  part_grown Q s p (part.Pad n) u b h k = ([], ap (λ (z : Progress). z.fields) k.2 ∙ sym (append-nil s.fields), tt)
  part_grown Q s p (part.List name id y i) u b h k = ((field_of p (items k.0)) ∷ [], ap (λ (z : Progress). z.fields) k.3, (h, tt))
  part_grown Q s p (part.Length name id c0 c1) u b h k = ([], ap (λ (z : Progress). z.fields) k.2 ∙ sym (append-nil s.fields), tt)
  part_grown Q s p (part.Check name id c) u b h k = ([], ap (λ (z : Progress). z.fields) k.1 ∙ sym (append-nil s.fields), tt)

  -- and so do those of some parts
  pub grown : (Q : ℕ → ℕ → Type 0) (ps : List Placed) (s u : Progress) (b : Bits) → AllByRecursion (λ (p : Placed). Q p.container p.place) ps → PartsPass style t SpellsInner s ps u b → (gs : List Field) × (u.fields ≡ s.fields ++ gs) × AllByRecursion (λ (f : Field). Q f.container f.place) gs
  grown Q [] s u b h k = ([], ap (λ (z : Progress). z.fields) k.0 ∙ sym (append-nil s.fields), tt)
  grown Q (p ∷ ps) s u b h k =
      let one = part_grown Q s p p.part k.0 k.1 h.0 k.4 in
      let rest = grown Q ps k.0 u k.2 h.1 k.5 in
      (one.0 ++ rest.0, rest.1 ∙ ap (λ z. z ++ rest.0) one.1 ∙ append_assoc s.fields one.0 rest.0, All-both (λ (f : Field). Q f.container f.place) one.0 rest.0 one.2 rest.2)

  -- fields are only added
  pub only_grown : (ps : List Placed) (s u : Progress) (b : Bits) → PartsPass style t SpellsInner s ps u b → (gs : List Field) × (u.fields ≡ s.fields ++ gs)
  only_grown ps s u b h = let g = grown (λ y i. Unit {0}) ps s u b (All-each (λ (p : Placed). Unit {0}) (λ p. tt) ps) h in (g.0, g.1)
