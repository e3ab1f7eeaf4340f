-- The types of error controls.
use Rattle.std.proofs.Common.{◌≡◌, ℕ, ◌==◌, ◌&&◌, not, Bool, true, false, List, slice_get, is_some, Option, Some, None, refl, sym, ap, subst, ◌∙◌}
use Rattle.std.specs.Prelude.{codes}
use Rattle.std.proofs.lemmas.Bool.{and_parts, eqb-true}
use Rattle.eds_base.specs.declared.ids.Place.{Place}
use Rattle.eds_base.specs.declared.ids.TypeId.{TypeId}
use Rattle.eds_bits.specs.declared.forms.Encoding.{Encoding}
use Rattle.eds_bits.specs.declared.forms.Encoding.TheVariants.{Unsigned, TwosComplement, SignMagnitude, OnesComplement, PackedBcd, Bcd}
use Rattle.eds_bits.specs.declared.forms.IntForm.{IntForm}
use Rattle.eds_bits.specs.declared.forms.CheckKind.{CheckKind}
use Rattle.eds_bits.specs.Scalars.{check_bits}
use Rattle.eds_tree.specs.declared.tree.Node.{Node}
use Rattle.eds_types.specs.Rules.{HoldsCheck}
use Rattle.eds_type_rows.specs.declared.numbers.FormAndDomain.{FormAndDomain}
use Rattle.eds_type_rows.specs.Held.{child_named}
use Rattle.eds_type_rows.specs.Places.{is_element}
use Rattle.eds_type_rows.specs.Forms.{int_form_of}
use Rattle.eds_domains.specs.Ranges.{no_range}
use Rattle.eds_type_rows.specs.Ranges.{range_held, range_of}
use Rattle.eds_type_rows.specs.Bases.{base_at}
use Rattle.eds_type_rows.specs.Numbers.{form_or_wide, numbers_with, own_numbers, own_numbers_in, own_numbers_at, numbers_of}
use Rattle.eds_type_rows.specs.ScalarKinds.{is_integer}
use Rattle.eds_read_types.specs.ErrorControl.{is_unsigned, fits_check, holds_check, holds_check_in, holds_check_at}
use Rattle.eds_domains.proofs.DomainFacts.{domain_within}
use Rattle.eds_read_types.proofs.NumberFacts.{own_within}

unsigned_is : (encoding : Encoding) → is_unsigned encoding ≡ true → encoding ≡ Unsigned
unsigned_is Unsigned h = refl
unsigned_is TwosComplement h = absurd cc
unsigned_is SignMagnitude h = absurd cc
unsigned_is OnesComplement h = absurd cc
unsigned_is PackedBcd h = absurd cc
unsigned_is Bcd h = absurd cc

was_not : (b : Bool) → not b ≡ true → b ≡ false
was_not true h = absurd cc
was_not false h = refl

-- the numbers of a type hold a check
abbrev pub NumbersHold : CheckKind → FormAndDomain → Type 0
NumbersHold check numbers = HoldsCheck check numbers.form numbers.spans

-- all numbers of a form that fits a check
fitting : (check : CheckKind) (o : Option IntForm) → fits_check check o ≡ true → NumbersHold check (numbers_with (form_or_wide o) no_range)
fitting check None h = absurd cc
fitting check (Some form) h =
    let both = and_parts (is_unsigned form.encoding) (form.bits == check_bits check) h in
    record {
      encoding = unsigned_is form.encoding both.0;
      size = eqb-true form.bits (check_bits check) both.1;
      all = λ n has. (domain_within form no_range n).1 (has, record { from_low = tt; to_high = tt });
    }

ranged : (t : List Node) (o : Option ℕ) → is_some o ≡ false → range_held t o ≡ no_range
ranged t None h = refl
ranged t (Some n) h = absurd cc

-- the element of the type of a check is an integer type, and its numbers hold the check
record IsHeldIn (trees : List (List Node)) (check : CheckKind) (at : Place) : Type 0 where
  pub integer : is_element trees (codes "IntegerDataType") at ≡ true
  pub numbers : NumbersHold check (own_numbers_in (slice_get trees at.file) at.node)

held_tree : (check : CheckKind) (t : List Node) (n : ℕ) → holds_check check t n ≡ true → (is_integer t n ≡ true) × NumbersHold check (own_numbers t n)
held_tree check t n h =
    let first = and_parts (is_integer t n) (not (is_some (child_named t n (codes "Range"))) && fits_check check (int_form_of t n)) h in
    let second = and_parts (not (is_some (child_named t n (codes "Range")))) (fits_check check (int_form_of t n)) first.1 in
    let free : range_of t n ≡ no_range = ranged t (child_named t n (codes "Range")) (was_not (is_some (child_named t n (codes "Range"))) second.0) in
    (first.0, rw (first.0, free) (fitting check (int_form_of t n) second.1))

held_at : (trees : List (List Node)) (check : CheckKind) (at : Place) → holds_check_in check (slice_get trees at.file) at.node ≡ true → IsHeldIn trees check at
held_at trees check at h = go (slice_get trees at.file) refl h
  where
    go : (o : Option (List Node)) → slice_get trees at.file ≡ o → holds_check_in check o at.node ≡ true → IsHeldIn trees check at
    go None e k = absurd cc
    go (Some t) e k = let both = held_tree check t at.node k in record { integer = rw e both.0; numbers = rw e both.1 }

-- the type of an error control that holds its check
pub record HoldsAt (trees : List (List Node)) (places : List Place) (bases : List (Option TypeId)) (check : CheckKind) (id : ℕ) : Type 0 where
  pub place : Place
  pub there : slice_get places id ≡ Some place
  pub integer : is_element trees (codes "IntegerDataType") place ≡ true
  pub numbers : base_at bases id ≡ None → NumbersHold check (numbers_of trees places bases id)

pub held : (trees : List (List Node)) (places : List Place) (bases : List (Option TypeId)) (check : CheckKind) (id : ℕ) → holds_check_at trees check (slice_get places id) ≡ true → HoldsAt trees places bases check id
held trees places bases check id h = go (slice_get places id) refl h
  where
    go : (o : Option Place) → slice_get places id ≡ o → holds_check_at trees check o ≡ true → HoldsAt trees places bases check id
    go None e k = absurd cc
    go (Some at) e k =
        let here = held_at trees check at k in
        record {
          place = at;
          there = e;
          integer = here.integer;
          numbers = λ none. subst (NumbersHold check) (sym (own_within trees places bases 16 id none ∙ ap (own_numbers_at trees) e)) here.numbers;
        }
