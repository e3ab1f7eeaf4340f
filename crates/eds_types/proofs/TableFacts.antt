-- What the rules say of the parts of whole sequences.
use Rattle.std.specs.Prelude.{◌≡◌, ℕ, suc, ℤ, pos, List, [], ◌∷◌, ◌++◌, Some, IsSome, IfSome, IsTrue, slice_get}
use Rattle.std.specs.List.{AllByRecursion}
use Rattle.eds_base.specs.Spans.{IsWithin}
use Rattle.eds_bits.specs.Lists.{HasOne}
use Rattle.eds_types.specs.declared.row.TypeRow.{TypeRow}
use Rattle.eds_types.specs.declared.row.Part.{Part}
use Rattle.eds_types.specs.declared.row.Part.TheVariants as part
use Rattle.eds_types.specs.Plain.{plain}
use Rattle.eds_types.specs.Rows.{Table, Placed, sequence}
use Rattle.eds_types.specs.Rules.{HasKind, IsInt, IsValueOf, HoldsCheck, KindKeeps, is_length}
use Rattle.eds_types.specs.Sizes.{tail_of, part_size, trailers_along}
use Rattle.eds_types.proofs.Tables.{IsIntRow}

-- entries that hold a size or a check have integer types
abbrev pub IsNumbered : Table → Part → Type 0
IsNumbered t (part.Plain name id) = Unit {0}
IsNumbered t (part.Fixed name id v) = Unit {0}
IsNumbered t (part.Pad n) = Unit {0}
IsNumbered t (part.List name id y i) = Unit {0}
IsNumbered t (part.Length name id c0 c1) = IsIntRow (slice_get t id.0)
IsNumbered t (part.Check name id k) = IsIntRow (slice_get t id.0)

-- the type of a check has its numbers
abbrev pub CheckFits : Table → Part → Type 0
CheckFits t (part.Plain name id) = Unit {0}
CheckFits t (part.Fixed name id v) = Unit {0}
CheckFits t (part.Pad n) = Unit {0}
CheckFits t (part.List name id y i) = Unit {0}
CheckFits t (part.Length name id c0 c1) = Unit {0}
CheckFits t (part.Check name id k) = IsInt t id.0 (HoldsCheck k)

-- a fixed value is a value of its type
abbrev pub FixedFits : Table → Part → Type 0
FixedFits t (part.Plain name id) = Unit {0}
FixedFits t (part.Fixed name id v) = HasKind t id.0 (λ k. IsValueOf k (plain v))
FixedFits t (part.Pad n) = Unit {0}
FixedFits t (part.List name id y i) = Unit {0}
FixedFits t (part.Length name id c0 c1) = Unit {0}
FixedFits t (part.Check name id k) = Unit {0}

-- an entry of an integer type without negative numbers
abbrev pub IsCount : Table → Part → Type 0
IsCount t (part.Plain name id) = IsInt t id.0 (λ form spans. (n : ℤ) → IsWithin spans n → (m : ℕ) × (n ≡ pos m))
IsCount t (part.Fixed name id v) = ⊥
IsCount t (part.Pad n) = ⊥
IsCount t (part.List name id y i) = ⊥
IsCount t (part.Length name id c0 c1) = ⊥
IsCount t (part.Check name id k) = ⊥

-- a list has as many items as an entry before it says
abbrev pub ListFits : Table → List Placed → Part → Type 0
ListFits t before (part.Plain name id) = Unit {0}
ListFits t before (part.Fixed name id v) = Unit {0}
ListFits t before (part.Pad n) = Unit {0}
ListFits t before (part.List name id y i) = HasOne (λ (q : Placed). (q.container ≡ y.0) × (q.place ≡ i) × IsCount t q.part) before
ListFits t before (part.Length name id c0 c1) = Unit {0}
ListFits t before (part.Check name id k) = Unit {0}

abbrev pub ListsFit : Table → List Placed → List Placed → Type 0
ListsFit t before [] = Unit {0}
ListsFit t before (p ∷ ps) = ListFits t before p.part × ListsFit t (before ++ p ∷ []) ps

-- a length entry grows with its number
abbrev pub IsScaled : Part → Type 0
IsScaled (part.Plain name id) = Unit {0}
IsScaled (part.Fixed name id v) = Unit {0}
IsScaled (part.Pad n) = Unit {0}
IsScaled (part.List name id y i) = Unit {0}
IsScaled (part.Length name id c0 c1) = (k : ℕ) × (c1 ≡ pos (suc k))
IsScaled (part.Check name id k) = Unit {0}

abbrev pub NoLength : Part → Type 0
NoLength (part.Plain name id) = Unit {0}
NoLength (part.Fixed name id v) = Unit {0}
NoLength (part.Pad n) = Unit {0}
NoLength (part.List name id y i) = Unit {0}
NoLength (part.Length name id c0 c1) = ⊥
NoLength (part.Check name id k) = Unit {0}

-- at most one length entry
abbrev pub IsLengthOnce : List Placed → Type 0
IsLengthOnce [] = Unit {0}
IsLengthOnce (p ∷ ps) = ((NoLength p.part → ⊥) → AllByRecursion (λ (p : Placed). NoLength p.part) ps) × IsLengthOnce ps

abbrev pub IsSized : Table → Placed → Type 0
IsSized t p = IsSome (part_size t p.part)

-- a tail stands after a length entry, and the trailers of its container follow it and no other part; they have sizes
abbrev pub TailFollowed : Table → List Placed → Placed → List Placed → Type 0
TailFollowed t before p after = IfSome (tail_of t p.part) (λ n. HasOne (λ (q : Placed). IsTrue (is_length q.part)) before × (after ≡ trailers_along t p.container) × AllByRecursion (IsSized t) after)

abbrev pub TailsFollowed : Table → List Placed → List Placed → Type 0
TailsFollowed t before [] = Unit {0}
TailsFollowed t before (p ∷ ps) = TailFollowed t before p ps × TailsFollowed t (before ++ p ∷ []) ps

pub record Facts (t : Table) : Type 0 where
  pub kinds : (id : ℕ) (row : TypeRow) → slice_get t id ≡ Some row → KindKeeps row.kind
  pub numbered : (k : ℕ) → AllByRecursion (λ (p : Placed). IsNumbered t p.part) (sequence t k)
  pub checks : (k : ℕ) → AllByRecursion (λ (p : Placed). CheckFits t p.part) (sequence t k)
  pub fixed : (k : ℕ) → AllByRecursion (λ (p : Placed). FixedFits t p.part) (sequence t k)
  pub lists : (k : ℕ) → ListsFit t [] (sequence t k)
  pub scaled : (k : ℕ) → AllByRecursion (λ (p : Placed). IsScaled p.part) (sequence t k)
  pub once : (k : ℕ) → IsLengthOnce (sequence t k)
  pub tails : (k : ℕ) → TailsFollowed t [] (sequence t k)
