-- The parts of containers one by one: their names, and the sizes of padding.
use Rattle.std.proofs.Common.{◌≡◌, ℕ, ◌≤◌, ◌==◌, ◌%◌, Bool, true, false, ◌&&◌, ◌||◌, not, List, [], ◌∷◌, ◌++◌, map, Option, Some, None, refl, sym, ap, subst, ◌∙◌, leb-true, lit≤}
use Rattle.std.specs.Prelude.{codes, nat_le, ℤ, IfSome, is_some}
use Rattle.std.specs.Option.{unwrap_or}
use Rattle.std.specs.List.{filter_map}
use Rattle.std.proofs.lemmas.Bool.{and_parts}
use Rattle.std.proofs.lemmas.Slice.Eq.{bytes_eq-Decides}
use Rattle.eds_base.specs.Reading.{◌>>=◌, same, only}
use Rattle.eds_base.specs.Numbers.{whole_number}
use Rattle.eds_base.specs.declared.ids.Place.{Place}
use Rattle.eds_bits.specs.Lists.{Has}
use Rattle.eds_tree.specs.declared.tree.Node.{Node}
use Rattle.eds_names.specs.LookUp.{Names, AreApart}
use Rattle.eds_names.specs.Repeats.{is_among}
use Rattle.eds_types.specs.Rules.{AreDistinct, name_of}
use Rattle.eds_type_rows.specs.declared.part_sort.PartSort.{PartSort}
use Rattle.eds_type_rows.specs.declared.part_sort.PartSort.TheVariants as sort
use Rattle.eds_type_rows.specs.declared.seat.Seat.{Seat}
use Rattle.eds_type_rows.specs.Places.{attribute, own_name}
use Rattle.eds_type_rows.specs.TextForms.{natural, is_binary_size}
use Rattle.eds_type_rows.specs.Entries.{sort_at, has_name_by, has_name, named_among}
use Rattle.eds_type_rows.specs.PartRows.{padding_size, padding_bits, part_by, part_at}

clash : (b : Bool) → b ≡ false → b ≡ true → ⊥
clash b e f = cc

true_or : (b : Bool) → (b || true) ≡ true
true_or true = refl
true_or false = refl

pub among_has : (xs : List (List ℕ)) (x : List ℕ) → Has xs x → is_among xs x ≡ true
among_has xs x h = ap (λ ys. is_among ys x) h.is ∙ stands h.before h.after
  where
    stands : (before after : List (List ℕ)) → is_among (before ++ x ∷ after) x ≡ true
    stands [] after = rw ((bytes_eq-Decides x x).1 refl) refl
    stands (y ∷ before) after = rw (stands before after) (true_or (same x y))

-- ---- names

module _ (trees : List (List Node)) (names : Names) (container : ℕ) (seats : List Seat) where
  -- the name of a part's row is that of its element, which has one
  abbrev IsNamed : Place → Option (List ℕ) → Type 0
  IsNamed at name = IfSome name (λ n. (n ≡ own_name trees at) × (has_name trees at ≡ true))

  name_is : (at : Place) → IsNamed at (name_of (part_at trees names container seats at))
  name_is at = go (sort_at trees at) refl
    where
      -- a fixed value that has no name gives its row none
      fixed : sort_at trees at ≡ Some sort.FixedValue → (o : Option (List ℕ)) → attribute trees (codes "name") at ≡ o → IsNamed at o
      fixed e None q = tt
      fixed e (Some n) q = (sym (ap (λ name. unwrap_or name []) q), ap (has_name_by (is_some (attribute trees (codes "name") at))) e ∙ ap is_some q)

      go : (s : Option PartSort) → sort_at trees at ≡ s → IsNamed at (name_of (part_by s trees names container seats at))
      go None e = tt
      go (Some sort.Entry) e = (refl, ap (has_name_by (is_some (attribute trees (codes "name") at))) e)
      go (Some sort.FixedValue) e = fixed e (attribute trees (codes "name") at) refl
      go (Some sort.Padding) e = tt
      go (Some sort.List) e = (refl, ap (has_name_by (is_some (attribute trees (codes "name") at))) e)
      go (Some sort.Length) e = (refl, ap (has_name_by (is_some (attribute trees (codes "name") at))) e)
      go (Some sort.ErrorControl) e = (refl, ap (has_name_by (is_some (attribute trees (codes "name") at))) e)

  abbrev pub element_names : List Place → List (List ℕ)
  element_names ats = map (own_name trees) (named_among trees ats)

  abbrev pub row_names : List Place → List (List ℕ)
  row_names ats = filter_map name_of (map (part_at trees names container seats) ats)

  among_more : (at : Place) (ats : List Place) (x : List ℕ) → is_among (element_names ats) x ≡ true → is_among (element_names (at ∷ ats)) x ≡ true
  among_more at ats x h = go (has_name trees at) refl
    where
      go : (b : Bool) → has_name trees at ≡ b → is_among (element_names (at ∷ ats)) x ≡ true
      go true e = rw e (rw h (true_or (same x (own_name trees at))))
      go false e = rw e h

  pub among_parts : (ats : List Place) (x : List ℕ) → is_among (row_names ats) x ≡ true → is_among (element_names ats) x ≡ true
  among_parts [] x h = absurd cc
  among_parts (at ∷ ats) x h = go (λ k. among_parts ats x k) (name_of (part_at trees names container seats at)) refl (name_is at) h
    where
      here : (is_among (row_names ats) x ≡ true → is_among (element_names ats) x ≡ true) → (b : Bool) → same x (own_name trees at) ≡ b → (b || is_among (row_names ats) x) ≡ true → has_name trees at ≡ true → is_among (element_names (at ∷ ats)) x ≡ true
      here rest true e k named = rw named (rw e refl)
      here rest false e k named = among_more at ats x (rest k)

      go : (is_among (row_names ats) x ≡ true → is_among (element_names ats) x ≡ true) → (o : Option (List ℕ)) → name_of (part_at trees names container seats at) ≡ o → IsNamed at o → is_among (row_names (at ∷ ats)) x ≡ true → is_among (element_names (at ∷ ats)) x ≡ true
      go rest None e is k = among_more at ats x (rest (rw e at k))
      go rest (Some n) e is k =
          let one : is_among (n ∷ row_names ats) x ≡ true = rw e at k in
          here rest (same x (own_name trees at)) refl (subst (λ m. (same x m || is_among (row_names ats) x) ≡ true) is.0 one) is.1

  apart_after : (at : Place) (ats : List Place) → AreApart (element_names (at ∷ ats)) → AreApart (element_names ats)
  apart_after at ats h = go (has_name trees at) refl
    where
      go : (b : Bool) → has_name trees at ≡ b → AreApart (element_names ats)
      go true e = (rw e at h).1
      go false e = rw e at h

  -- where the names of elements differ, those of their rows do
  pub names_distinct : (ats : List Place) → AreApart (element_names ats) → AreDistinct (row_names ats)
  names_distinct [] h = tt
  names_distinct (at ∷ ats) h = go (names_distinct ats (apart_after at ats h)) (name_of (part_at trees names container seats at)) refl (name_is at)
    where
      go : AreDistinct (row_names ats) → (o : Option (List ℕ)) → name_of (part_at trees names container seats at) ≡ o → IsNamed at o → AreDistinct (row_names (at ∷ ats))
      go rest None e is = rw e rest
      go rest (Some n) e is =
          let named : has_name trees at ≡ true = is.1 in
          let apart : is_among (element_names ats) (own_name trees at) ≡ false = (rw named at h).0 in
          let other : is_among (element_names ats) n ≡ false = ap (is_among (element_names ats)) is.0 ∙ apart in
          rw e ((λ has. clash (is_among (element_names ats) n) other (among_parts ats n (among_has (row_names ats) n has))), rest)

-- ---- padding

abbrev Sized : ℕ → Type 0
Sized n = (1 ≤ n) × (n ≤ 524288)

-- padding has from 1 to 524,288 bits
pub padding_keeps : (trees : List (List Node)) (at : Place) → (1 ≤ padding_bits trees at) × (padding_bits trees at ≤ 524288)
padding_keeps trees at = of_text (attribute trees (codes "sizeInBits") at)
  where
    sized : (b : Bool) (bits : ℕ) → is_binary_size false bits ≡ b → Sized (unwrap_or (only b bits) 8)
    sized false bits e = (lit≤ tt, lit≤ tt)
    sized true bits e =
        let first = and_parts (nat_le 1 bits) (nat_le bits 524288 && (not false || (bits % 8 == 0))) e in
        let second = and_parts (nat_le bits 524288) (not false || (bits % 8 == 0)) first.1 in
        (leb-true 1 bits first.0, leb-true bits 524288 second.0)

    of_bits : (o : Option ℕ) → Sized (unwrap_or (o >>= λ bits. only (is_binary_size false bits) bits) 8)
    of_bits None = (lit≤ tt, lit≤ tt)
    of_bits (Some bits) = sized (is_binary_size false bits) bits refl

    of_size : (o : Option ℤ) → Sized (unwrap_or (o >>= λ size. natural size >>= λ bits. only (is_binary_size false bits) bits) 8)
    of_size None = (lit≤ tt, lit≤ tt)
    of_size (Some size) = of_bits (natural size)

    of_text : (o : Option (List ℕ)) → Sized (unwrap_or (o >>= padding_size) 8)
    of_text None = (lit≤ tt, lit≤ tt)
    of_text (Some text) = of_size (whole_number text)
