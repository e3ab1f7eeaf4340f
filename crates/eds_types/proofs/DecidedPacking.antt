-- Packing that is decided: a canonical spelling or a fault, not both, and no two faults.
use Rattle.std.proofs.Common.{◌≡◌, ℕ, ◌+◌, List, [], ◌∷◌, ◌++◌, refl, sym, ap, ◌∙◌, ◌⊎◌, inl, inr}
use Rattle.eds_types.specs.declared.reason.PackReason.TheVariants as reason
use Rattle.eds_types.specs.declared.row.Kind.{Kind}
use Rattle.eds_bits.specs.Bits.{Bits}
use Rattle.eds_types.specs.Packing.{PackFault, pack_fault_behind, pack_fault_here, item_step, ItemPackFails, IsOfKind, OfKindFails, KindPackFails}
use Rattle.eds_types.specs.Plain.{Plain}
use Rattle.eds_types.specs.Rows.{Table}
use Rattle.eds_types.specs.Spelling.{ItemsSpell}

pub record Decided (P : Bits → Type 0) (F : PackFault → Type 0) : Type 0 where
  pub either : ((b : Bits) × P b) ⊎ ((g : PackFault) × F g)
  pub apart : (b : Bits) (g : PackFault) → P b → F g → ⊥
  pub one : (g k : PackFault) → F g → F k → g ≡ k

pub spelled : (P : Bits → Type 0) (F : PackFault → Type 0) (b : Bits) → P b → ((g : PackFault) → F g → ⊥) → Decided P F
spelled P F b p none = record { either = inl (b, p); apart = λ c g h f. none g f; one = λ g k f h. absurd (none g f) }

pub refused : (P : Bits → Type 0) (F : PackFault → Type 0) (w : PackFault) → F w → ((b : Bits) → P b → ⊥) → ((g : PackFault) → F g → g ≡ w) → Decided P F
refused P F w f none is = record { either = inr (w, f); apart = λ b g h k. none b h; one = λ g k h q. is g h ∙ sym (is k q) }

-- with the same meaning in other words
pub decided_as : (P Q : Bits → Type 0) (F G : PackFault → Type 0) → Decided P F → ((b : Bits) → P b → Q b) → ((b : Bits) → Q b → P b) → ((g : PackFault) → F g → G g) → ((g : PackFault) → G g → F g) → Decided Q G
decided_as P Q F G d pq qp fg gf = record { either = go d.either; apart = λ b g h k. d.apart b g (qp b h) (gf g k); one = λ g k h q. d.one g k (gf g h) (gf k q) }
  where
    go : (((b : Bits) × P b) ⊎ ((g : PackFault) × F g)) → ((b : Bits) × Q b) ⊎ ((g : PackFault) × G g)
    go (inl h) = inl (h.0, pq h.0 h.1)
    go (inr h) = inr (h.0, fg h.0 h.1)

-- ---- the kind of a value

module _ (t : Table) (SpellsInner : ℕ → Plain → Bits → Type 0) (FailsInner : ℕ → Plain → PackFault → Type 0) (id : ℕ) (k : Kind) (v : Plain) (P : Bits → Type 0) where
  pub of_kind : ((b : Bits) → P b → IsOfKind k v) → ((g : PackFault) → OfKindFails t SpellsInner FailsInner id k v g → IsOfKind k v) → Decided P (OfKindFails t SpellsInner FailsInner id k v) → Decided P (KindPackFails t SpellsInner FailsInner id k v)
  of_kind p f d = record { either = go d.either; apart = λ b g h e. cut b g h e; one = same }
    where
      go : (((b : Bits) × P b) ⊎ ((g : PackFault) × OfKindFails t SpellsInner FailsInner id k v g)) → ((b : Bits) × P b) ⊎ ((g : PackFault) × KindPackFails t SpellsInner FailsInner id k v g)
      go (inl h) = inl h
      go (inr h) = inr (h.0, inr h.1)

      cut : (b : Bits) (g : PackFault) → P b → KindPackFails t SpellsInner FailsInner id k v g → ⊥
      cut b g h (inl e) = e.0 (p b h)
      cut b g h (inr e) = d.apart b g h e

      same : (g h : PackFault) → KindPackFails t SpellsInner FailsInner id k v g → KindPackFails t SpellsInner FailsInner id k v h → g ≡ h
      same g h (inl a) (inl c) = a.1 ∙ sym c.1
      same g h (inl a) (inr c) = absurd (a.0 (f h c))
      same g h (inr a) (inl c) = absurd (c.0 (f g a))
      same g h (inr a) (inr c) = d.one g h a c

  pub of_other_kind : ((b : Bits) → P b → IsOfKind k v) → ((g : PackFault) → OfKindFails t SpellsInner FailsInner id k v g → IsOfKind k v) → (IsOfKind k v → ⊥) → Decided P (KindPackFails t SpellsInner FailsInner id k v)
  of_other_kind p f ne = refused P (KindPackFails t SpellsInner FailsInner id k v) (pack_fault_here reason.WrongKind) (inl (ne, refl)) (λ b h. ne (p b h)) is
    where
      is : (g : PackFault) → KindPackFails t SpellsInner FailsInner id k v g → g ≡ pack_fault_here reason.WrongKind
      is g (inl a) = a.1
      is g (inr a) = absurd (ne (f g a))

-- ---- items

module _ (E : Plain → Bits → Type 0) (F : Plain → PackFault → Type 0) (d : (v : Plain) → Decided (E v) (F v)) where
  pub items_decided : (vs : List Plain) (j : ℕ) → Decided (ItemsSpell E vs) (ItemPackFails F j vs)
  items_decided [] j = spelled (ItemsSpell E []) (ItemPackFails F j []) [] refl (λ g f. f)
  items_decided (v ∷ vs) j = put_first (d v) (items_decided vs (j + 1))
    where
      put_first : Decided (E v) (F v) → Decided (ItemsSpell E vs) (ItemPackFails F (j + 1) vs) → Decided (ItemsSpell E (v ∷ vs)) (ItemPackFails F j (v ∷ vs))
      put_first a r = record { either = go a.either r.either; apart = λ b g h f. cut b g h f; one = same }
        where
          go : (((b : Bits) × E v b) ⊎ ((g : PackFault) × F v g)) → (((b : Bits) × ItemsSpell E vs b) ⊎ ((g : PackFault) × ItemPackFails F (j + 1) vs g)) → ((b : Bits) × ItemsSpell E (v ∷ vs) b) ⊎ ((g : PackFault) × ItemPackFails F j (v ∷ vs) g)
          go (inr f) q = inr (pack_fault_behind (item_step j) f.0, inl (f.0, f.1, refl))
          go (inl h) (inl q) = inl (h.0 ++ q.0, (h.0, q.0, refl, h.1, q.1))
          go (inl h) (inr q) = inr (q.0, inr ((λ w f. a.apart h.0 w h.1 f), q.1))

          cut : (b : Bits) (g : PackFault) → ItemsSpell E (v ∷ vs) b → ItemPackFails F j (v ∷ vs) g → ⊥
          cut b g h (inl f) = a.apart h.0 f.0 h.3 f.1
          cut b g h (inr f) = r.apart h.1 g h.4 f.1

          same : (g k : PackFault) → ItemPackFails F j (v ∷ vs) g → ItemPackFails F j (v ∷ vs) k → g ≡ k
          same g k (inl f) (inl h) = f.2 ∙ ap (pack_fault_behind (item_step j)) (a.one f.0 h.0 f.1 h.1) ∙ sym h.2
          same g k (inl f) (inr h) = absurd (h.0 f.0 f.1)
          same g k (inr f) (inl h) = absurd (f.0 h.0 h.1)
          same g k (inr f) (inr h) = r.one g k f.1 h.1
