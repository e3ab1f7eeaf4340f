-- What one pass over a value of any type finds is the size of its canonical spelling, or the fault that is there.
use Rattle.std.proofs.Common.{◌≡◌, ℕ, zero, suc, ◌<◌, true, false, cond, length, Ok, Err, refl, sym, ap, subst, ◌∙◌, arith, ◌⊎◌, inl, inr}
use Rattle.std.specs.Prelude.{is_ok, nat_le, IsTrue}
use Rattle.std.specs.List.{AllByRecursion}
use Rattle.std.proofs.lemmas.Bool.{cases_lt, leb-true, le-leb, false_from_ne_true}
use Rattle.eds_bits.specs.Bits.{Bits}
use Rattle.eds_bits.specs.Style.{canonical}
use Rattle.eds_types.specs.declared.reason.PackReason.TheVariants as reason
use Rattle.eds_types.specs.declared.row.Container.{Container}
use Rattle.eds_types.specs.declared.row.Kind.{Kind}
use Rattle.eds_types.specs.declared.row.Kind.TheVariants as kind
use Rattle.eds_types.specs.Fields.{IsAtOrUnder}
use Rattle.eds_types.specs.Packing.{PackFault, pack_fault_here, IsOfKind, KindPackFails, PackFailsWithin, PackFailsAt, most_bits}
use Rattle.eds_types.specs.PackedSizes.{Size, container_size, packed_kind_size, packed_row_size, packed_size_within, not_long, packed_size, packs, Packs, IsExact, SizesAreExact}
use Rattle.eds_types.specs.Plain.{Plain, fields, list_of}
use Rattle.eds_types.specs.Rows.{Table, Placed, sequence}
use Rattle.eds_types.specs.Rules.{KeepsRules}
use Rattle.eds_types.specs.Spelling.{KindSpells, SpellsWithin, Canon}
use Rattle.eds_types.proofs.Tables.{IsTable, IsPartType, IsItemType}
use Rattle.eds_types.proofs.AllOf.{All-weaker}
use Rattle.eds_types.proofs.ContainerPacking.{Known}
use Rattle.eds_types.proofs.DecidedPacking.{Decided}
use Rattle.eds_types.proofs.PackedFields.{TypesTied, fields_spelled, fields_fail}
use Rattle.eds_types.proofs.PackedSizes.{Ties, array_ties, bin_ties, bool_ties, enum_ties, int_ties, text_ties}
use Rattle.eds_types.proofs.PackingLaws.{known_of, packs_within}
use Rattle.eds_types.proofs.Ranks.{sequence_lower}
use Rattle.eds_types.proofs.RuleFacts.{table_of, facts_of}
use Rattle.eds_types.proofs.TableFacts.{Facts}

module _ (t : Table) (is : IsTable t) (can : Facts t) where
  abbrev TiedWithin : ℕ → ℕ → Type 0
  TiedWithin n x = (v : Plain) → Ties (packed_size_within n t x v) (SpellsWithin n canonical t x v) (PackFailsWithin n t x v)

  module _ (n : ℕ) (ih : (x : ℕ) → is.rank x < n → x < length t → TiedWithin n x) (id : ℕ) (low : is.rank id < suc n) where
    abbrev C : ℕ → Plain → Bits → Type 0
    C = SpellsWithin n canonical t

    abbrev F : ℕ → Plain → PackFault → Type 0
    F = PackFailsWithin n t

    abbrev S : ℕ → Plain → Size
    S = packed_size_within n t

    ties_of : (k : ℕ) → IsAtOrUnder t id k → AllByRecursion (λ (p : Placed). TypesTied t is can n S p.part) (sequence t k)
    ties_of k u = All-weaker (λ (p : Placed). IsPartType t is.rank id p.part) (λ (p : Placed). TypesTied t is can n S p.part) (λ p l x e. let h = l.lower x e in let r = h.0 in ih x (omega arith) h.1) (sequence t k) (sequence_lower t is id k u)

    known : (k : ℕ) → IsAtOrUnder t id k → Known t is can n k
    known k u = known_of t is can n (packs_within t is can n) id low k u

    con_ties : (c : Container) (v : Plain) → Ties (container_size t S id v) (KindSpells canonical t C id (kind.Con c) v) (KindPackFails t C F id (kind.Con c) v)
    con_ties c v = record {
      spelled = λ b p. ap (container_size t S id) p.2 ∙ fields_spelled t is can n S id known ties_of p.0 (list_of p.1) b p.3;
      fails = λ g f. elim f [
        | inl h ↦ other v h.0 ∙ ap (λ w. Err w) (sym h.1)
        | inr h ↦ ap (container_size t S id) h.2 ∙ fields_fail t is can n S id known ties_of h.0 (list_of h.1) g h.3
      ];
    }
      where
        other : (v : Plain) → (IsOfKind (kind.Con c) v → ⊥) → container_size t S id v ≡ Err (pack_fault_here reason.WrongKind)
        other (fields k f) h = absurd (h tt)
        other v h = refl

    kind_ties : (k : Kind) → IsItemType t is.rank id k → (v : Plain) → Ties (packed_kind_size t S id k v) (KindSpells canonical t C id k v) (KindPackFails t C F id k v)
    kind_ties (kind.Int form spans) i v = int_ties t C F id form spans v
    kind_ties (kind.Enum form listing) i v = enum_ties t C F id form listing v
    kind_ties (kind.Bool form) i v = bool_ties t C F id form v
    kind_ties (kind.Str form) i v = text_ties t C F id form v
    kind_ties (kind.Bin m free) i v = bin_ties t C F id m free v
    kind_ties (kind.Arr item m) i v = array_ties t C F S id item m (let r = i.0 in ih item.0 (omega arith) i.1) (let r = i.0 in packs_within t is can n item.0 (omega arith) i.1) v
    kind_ties (kind.Con c) i v = con_ties c v

  ties_within : (n id : ℕ) → is.rank id < n → TiedWithin n id
  unfolding packed_size_within SpellsWithin PackFailsWithin
  ties_within zero id h v = absurd (omega arith)
  ties_within (suc n) id h v = record {
    spelled = λ b p. ap (λ o. packed_row_size t (packed_size_within n t) id o v) p.1 ∙ (kind_ties n (λ x r l. ties_within n x r) id h (p.0).kind (is.items id p.0 p.1) v).spelled b p.2;
    fails = λ g f. ap (λ o. packed_row_size t (packed_size_within n t) id o v) f.1 ∙ (kind_ties n (λ x r l. ties_within n x r) id h (f.0).kind (is.items id f.0 f.1) v).fails g f.2;
  }

ok_is : (m n : ℕ) → ◌≡◌ {A = Size} (Ok m) (Ok n) → m ≡ n
ok_is m n e = cc

err_is : (g h : PackFault) → ◌≡◌ {A = Size} (Err g) (Err h) → g ≡ h
err_is g h e = cc

not_both : {P : Type 0} (r : Size) (n : ℕ) (g : PackFault) → r ≡ Ok n → r ≡ Err g → P
not_both r n g e h = absurd (let z : ◌≡◌ {A = Size} (Ok n) (Err g) = sym e ∙ h in cc)

module _ (t : Table) (id : ℕ) (rules : KeepsRules t) (there : id < length t) (v : Plain) where
  ties : Ties (packed_size_within 32 t id v) (SpellsWithin 32 canonical t id v) (PackFailsWithin 32 t id v)
  ties = let is = table_of t rules in ties_within t is (facts_of t rules) 32 id (is.nested id) v

  d : Decided (SpellsWithin 32 canonical t id v) (PackFailsWithin 32 t id v)
  d = let is = table_of t rules in packs_within t is (facts_of t rules) 32 id (is.nested id) there v

  size_there : (n : ℕ) → Packs t id v n → packed_size t id v ≡ Ok n
  size_there n p = ap not_long (ties.spelled p.0 p.1 ∙ ap (λ m. Ok m) p.2) ∙ ap (λ b. cond b (Ok n) (Err (pack_fault_here reason.TooLong))) (le-leb n most_bits p.3)

  fault_there : (g : PackFault) → PackFailsAt t id v g → packed_size t id v ≡ Err g
  fault_there g (inl f) = ap not_long (ties.fails g f)
  fault_there g (inr f) =
      let l = f.0 in
      let long = l.long in
      ap not_long (ties.spelled l.spelling l.is)
      ∙ ap (λ b. cond b (Ok (length l.spelling)) (Err (pack_fault_here reason.TooLong))) (false_from_ne_true (nat_le (length l.spelling) most_bits) (λ e. let k = leb-true (length l.spelling) most_bits e in omega arith))
      ∙ ap (λ z. Err z) (sym f.1)

  outcome : ((n : ℕ) × Packs t id v n) ⊎ ((g : PackFault) × PackFailsAt t id v g)
  outcome = go d.either
    where
      go : ((b : Bits) × Canon t id v b) ⊎ ((g : PackFault) × PackFailsWithin 32 t id v g) → ((n : ℕ) × Packs t id v n) ⊎ ((g : PackFault) × PackFailsAt t id v g)
      go (inr f) = inr (f.0, inl f.1)
      go (inl s) = elim (cases_lt most_bits (length s.0)) [
        | inl long ↦ inr (pack_fault_here reason.TooLong, inr (record { nothing_else = λ w f. d.apart s.0 w s.1 f; spelling = s.0; is = s.1; long = long }, refl))
        | inr short ↦ inl (length s.0, (s.0, s.1, refl, short))
      ]

  packs_size : (n : ℕ) → packed_size t id v ≡ Ok n → Packs t id v n
  packs_size n e = elim outcome [
    | inl p ↦ subst (Packs t id v) (ok_is p.0 n (sym (size_there p.0 p.1) ∙ e)) p.1
    | inr f ↦ not_both (packed_size t id v) n f.0 e (fault_there f.0 f.1)
  ]

  packs_fault : (g : PackFault) → packed_size t id v ≡ Err g → PackFailsAt t id v g
  packs_fault g e = elim outcome [
    | inl p ↦ not_both (packed_size t id v) p.0 g (size_there p.0 p.1) e
    | inr f ↦ subst (PackFailsAt t id v) (err_is f.0 g (sym (fault_there f.0 f.1) ∙ e)) f.1
  ]

  exact : IsExact t id v
  exact = record {
    size = λ n. (packs_size n, size_there n);
    fault = λ g. (packs_fault g, fault_there g);
    bool = (go, λ p. ap is_ok (size_there p.0 p.1));
  }
    where
      go : IsTrue (packs t id v) → (n : ℕ) × Packs t id v n
      go e = elim outcome [
        | inl p ↦ p
        | inr f ↦ absurd (let z : false ≡ true = sym (ap is_ok (fault_there f.0 f.1)) ∙ e in cc)
      ]

pub sizes_are_exact : SizesAreExact
sizes_are_exact t id rules there v = exact t id rules there v
