-- The sorts of types, and what binaries keep.
use Rattle.std.proofs.Common.{◌≡◌, ℕ, ◌*◌, ◌≤◌, ◌/◌, ◌%◌, ◌==◌, ◌&&◌, ◌||◌, Bool, true, false, not, List, Option, Some, None, refl, sym, ap, ◌∙◌, arith, leb-true, lit≤}
use Rattle.std.specs.Prelude.{codes, nat_le, ℤ, IsTrue, if◌then◌else◌}
use Rattle.std.specs.Option.{unwrap_or}
use Rattle.std.proofs.lemmas.Bool.{and_parts, eqb-true}
use Rattle.eds_base.specs.Reading.{◌>>=◌, same, only}
use Rattle.eds_tree.specs.declared.tree.Node.{Node}
use Rattle.eds_types.specs.Rules.{KindKeeps}
use Rattle.eds_type_rows.specs.declared.sort.Sort.{Sort}
use Rattle.eds_type_rows.specs.declared.sort.Sort.TheVariants as sort
use Rattle.eds_type_rows.specs.Sorts.{sort_of}
use Rattle.eds_type_rows.specs.Held.{number_at}
use Rattle.eds_type_rows.specs.TextForms.{natural, is_open, is_binary_size, binary_bits_of}
use Rattle.eds_type_rows.specs.Kinds.{binary_kind}

-- the name of the elements that declare a sort of types
abbrev pub element_of : Sort → List ℕ
element_of sort.Integer = codes "IntegerDataType"
element_of sort.Enumerated = codes "EnumeratedDataType"
element_of sort.Boolean = codes "BooleanDataType"
element_of sort.Text = codes "StringDataType"
element_of sort.Binary = codes "BinaryDataType"
element_of sort.Array = codes "ArrayDataType"
element_of sort.SubRange = codes "SubRangeDataType"
element_of sort.Container = codes "ContainerDataType"

-- what a list of names gives for the first of them that is the name has that name, if what comes behind it does
pub named_next : {A : Type 0} (element_of : A → List ℕ) (name : List ℕ) (s : A) (element : List ℕ) (r : A) (rest : Option A) → (if same name element then Some r else rest) ≡ Some s → element ≡ element_of r → (rest ≡ Some s → same name (element_of s) ≡ true) → same name (element_of s) ≡ true
named_next element_of name s element r rest h is later = go (same name element) refl h
  where
    go : (b : Bool) → same name element ≡ b → (if b then Some r else rest) ≡ Some s → same name (element_of s) ≡ true
    go true e k = let this : r ≡ s = cc in ap (λ x. same name (element_of x)) (sym this) ∙ (sym (ap (same name) is) ∙ e)
    go false e k = later k

-- an element that declares a sort has its name
pub sort_named : (name : List ℕ) (s : Sort) → sort_of name ≡ Some s → same name (element_of s) ≡ true
sort_named name s h =
    next (codes "IntegerDataType") sort.Integer _ h refl λ h.
    next (codes "EnumeratedDataType") sort.Enumerated _ h refl λ h.
    next (codes "BooleanDataType") sort.Boolean _ h refl λ h.
    next (codes "StringDataType") sort.Text _ h refl λ h.
    next (codes "BinaryDataType") sort.Binary _ h refl λ h.
    next (codes "ArrayDataType") sort.Array _ h refl λ h.
    next (codes "SubRangeDataType") sort.SubRange _ h refl λ h.
    next (codes "ContainerDataType") sort.Container _ h refl λ h. absurd cc
  where
    next : (element : List ℕ) (r : Sort) (rest : Option Sort) → (if same name element then Some r else rest) ≡ Some s → element ≡ element_of r → (rest ≡ Some s → same name (element_of s) ≡ true) → same name (element_of s) ≡ true
    next = named_next element_of name s

-- a binary has bits, and an open one whole octets
pub binary_keeps : (t : List Node) (n : ℕ) → KindKeeps (binary_kind t n)
binary_keeps t n = go (binary_bits_of t n) refl
  where
    whole : (free : Bool) (bits : ℕ) → (not free || (bits % 8 == 0)) ≡ true → IsTrue free → (j : ℕ) × (bits ≡ 8 * j)
    whole true bits h f = let e = eqb-true (bits % 8) 0 h in (bits / 8, omega (arith, e))
    whole false bits h f = absurd cc

    sized : (bits : ℕ) → is_binary_size (is_open t n) bits ≡ true → (1 ≤ bits) × (bits ≤ 524288) × (IsTrue (is_open t n) → (j : ℕ) × (bits ≡ 8 * j))
    sized bits h =
        let first = and_parts (nat_le 1 bits) (nat_le bits 524288 && (not (is_open t n) || (bits % 8 == 0))) h in
        let second = and_parts (nat_le bits 524288) (not (is_open t n) || (bits % 8 == 0)) first.1 in
        (leb-true 1 bits first.0, leb-true bits 524288 second.0, whole (is_open t n) bits second.1)

    only_some : (b : Bool) (x bits : ℕ) → only b x ≡ Some bits → (b ≡ true) × (x ≡ bits)
    only_some true x bits e = (refl, cc)
    only_some false x bits e = absurd cc

    at_size : (o : Option ℤ) (bits : ℕ) → (o >>= λ size. natural size >>= λ bits. only (is_binary_size (is_open t n) bits) bits) ≡ Some bits → is_binary_size (is_open t n) bits ≡ true
    at_size None bits e = absurd cc
    at_size (Some size) bits e = natural_size (natural size) e
      where
        natural_size : (o : Option ℕ) → (o >>= λ bits. only (is_binary_size (is_open t n) bits) bits) ≡ Some bits → is_binary_size (is_open t n) bits ≡ true
        natural_size None e = absurd cc
        natural_size (Some m) e = let p = only_some (is_binary_size (is_open t n) m) m bits e in sym (ap (is_binary_size (is_open t n)) p.1) ∙ p.0

    go : (o : Option ℕ) → binary_bits_of t n ≡ o → (1 ≤ unwrap_or o 8) × (unwrap_or o 8 ≤ 524288) × (IsTrue (is_open t n) → (j : ℕ) × (unwrap_or o 8 ≡ 8 * j))
    go None e = (lit≤ tt, lit≤ tt, λ f. (1, refl))
    go (Some bits) e = sized bits (at_size (number_at t n (codes "sizeInBits")) bits e)
