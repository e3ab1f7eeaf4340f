-- What the table of types asks for, from what is tested.
use Rattle.std.proofs.Common.{◌≡◌, ℕ, ◌≤◌, ℤ, ◌≤ℤ◌, ◌↔◌, inl, Bool, true, false, ◌&&◌, ◌||◌, not, List, [], ◌∷◌, ◌++◌, length, map, refl, sym, ap, ◌∙◌, arith}
use Rattle.std.specs.Bool.{Decides}
use Rattle.std.specs.Prelude.{int_le, codes, is_none, IsSome, Option, Some, None, if◌then◌else◌}
use Rattle.std.specs.List.{list_any, list_all, AllByRecursion}
use Rattle.std.specs.Int.Signed.{≤ℤ_refl}
use Rattle.std.specs.Ordering.{int_eq}
use Rattle.std.proofs.lemmas.Bool.{and_parts, and_from}
use Rattle.std.proofs.lemmas.Bool.Decides.{Decides-int_eq}
use Rattle.std.proofs.lemmas.Int.{ints}
use Rattle.std.proofs.lemmas.Slice.Eq.{bytes_eq-Decides}
use Rattle.eds_base.specs.declared.spans.Span.{Span}
use Rattle.eds_base.specs.declared.ids.Place.{Place}
use Rattle.eds_base.specs.declared.rule.Rule.{Rule}
use Rattle.eds_base.specs.declared.rule.Rule.TheVariants.{BadEncoding, EmptyRange, BadEnumeration}
use Rattle.eds_base.specs.Reading.{same}
use Rattle.eds_base.specs.Spans.{IsWithin}
use Rattle.eds_bits.specs.Lists.{Has}
use Rattle.eds_bits.specs.declared.forms.IntForm.{IntForm}
use Rattle.eds_bits.specs.declared.forms.BoolForm.{BoolForm}
use Rattle.eds_bits.specs.IntForms.{least, greatest, HasNumber}
use Rattle.eds_types.specs.Rules.{AreDistinct, IsDomain, IsListing, IsSubRange}
use Rattle.eds_domains.specs.declared.range.Range.{Range}
use Rattle.eds_type_rows.specs.Ranges.{range_of}
use Rattle.eds_domains.specs.Domains.{interval, raised, lowered, narrowed, domain_of, has_none}
use Rattle.eds_type_rows.specs.Listings.{listing_of, label, value, is_empty, all_differ, has_number, is_entry, is_listing}
use Rattle.eds_tree.specs.declared.tree.Node.{Node}
use Rattle.eds_tree.specs.Trees.{name_at}
use Rattle.eds_type_rows.specs.Forms.{int_form_of, bool_form_of}
use Rattle.eds_type_rows.specs.ScalarKinds.{is_integer, is_enumerated, is_boolean}
use Rattle.eds_read_types.specs.Breaks.{broken_where}
use Rattle.eds_type_rows.specs.LackingForms.{lacks_form}
use Rattle.eds_read_types.specs.BadEncoding.{encoding_breaks}
use Rattle.eds_read_types.specs.EmptyRange.{lacks_numbers_by, lacks_numbers, range_breaks}
use Rattle.eds_read_types.specs.BadEnumeration.{misses_listing_by, misses_listing, enumeration_breaks}
use Rattle.eds_read_types.specs.Unbroken.{HasDomain, HasListing}
use Rattle.eds_domains.proofs.DomainFacts.{domain_within, narrowed_within}

-- ---- domains

-- an interval that holds a number, with others or alone
interval_some : (low high : ℤ) (rest : List Span) → has_none (interval low high ++ rest) ≡ false → (has_none rest ≡ false → (n : ℤ) × IsWithin rest n) → (n : ℤ) × IsWithin (interval low high ++ rest) n
interval_some low high rest h more = go (int_le low high) refl
  where
    in_order : int_le low high ≡ true → low ≤ℤ high
    in_order e = grind (arith, ints)

    go : (b : Bool) → int_le low high ≡ b → (n : ℤ) × IsWithin (interval low high ++ rest) n
    go true e = rw e (low, inl (≤ℤ_refl low, in_order e))
    go false e = rw e (more (rw e at h))

narrowed_some : (range : Range) (spans : List Span) → has_none (narrowed range spans) ≡ false → (n : ℤ) × IsWithin (narrowed range spans) n
narrowed_some range [] h = absurd cc
narrowed_some range (s ∷ spans) h = interval_some (raised range.low s.low) (lowered range.high s.high) (narrowed range spans) h (narrowed_some range spans)

pub domain_kept : (form : IntForm) (range : Range) → has_none (domain_of form range) ≡ false → IsDomain form (domain_of form range)
domain_kept form range h =
    record {
      some = one_some (raised range.low (least form)) (lowered range.high (greatest form)) h;
      of_form = λ n w. ((domain_within form range n).0 w).0;
    }
  where
    one_some : (low high : ℤ) → has_none (interval low high) ≡ false → (n : ℤ) × IsWithin (interval low high) n
    one_some low high h = go (int_le low high) refl
      where
        in_order : int_le low high ≡ true → low ≤ℤ high
        in_order e = grind (arith, ints)

        go : (b : Bool) → int_le low high ≡ b → (n : ℤ) × IsWithin (interval low high) n
        go true e = rw e (low, inl (≤ℤ_refl low, in_order e))
        go false e = let no : has_none [] ≡ false = rw e at h in absurd cc

pub narrowed_kept : (form : IntForm) (base : List Span) (range : Range) → IsDomain form base → has_none (narrowed range base) ≡ false → IsDomain form (narrowed range base)
narrowed_kept form base range d h =
    record {
      some = narrowed_some range base h;
      of_form = λ n w. d.of_form n ((narrowed_within range base n).0 w).0;
    }

pub narrowed_derives : (form : IntForm) (base : List Span) (range : Range) → IsSubRange form (narrowed range base) form base
narrowed_derives form base range = record { form_is = refl; within = λ n w. ((narrowed_within range base n).0 w).0 }

-- ---- items that differ

-- a test tells whether two items are one
abbrev pub Tells : {A : Type 0} → (A → A → Bool) → Type 0
Tells {A} test = (x y : A) → Decides (test x y) (x ≡ y)

any-from_has : {A : Type 0} (test : A → A → Bool) → Tells test → (x : A) (before after : List A) → list_any (test x) (before ++ x ∷ after) ≡ true
any-from_has test tells x [] after = rw ((tells x x).1 refl) refl
any-from_has test tells x (y ∷ before) after = rw (any-from_has test tells x before after) (or_true (test x y))
  where
    or_true : (b : Bool) → (b || true) ≡ true
    or_true true = refl
    or_true false = refl

has-from_any : {A : Type 0} (test : A → A → Bool) → Tells test → (x : A) (xs : List A) → list_any (test x) xs ≡ true → Has xs x
has-from_any test tells x [] h = absurd cc
has-from_any test tells x (y ∷ ys) h = go (has-from_any test tells x ys) (test x y) refl
  where
    go : (list_any (test x) ys ≡ true → Has ys x) → (b : Bool) → test x y ≡ b → Has (y ∷ ys) x
    go later true e = record { before = []; after = ys; is = ap (λ z. z ∷ ys) (sym ((tells x y).0 e)) }
    go later false e = let found = later (rw e at h) in record { before = y ∷ found.before; after = found.after; is = ap (λ l. y ∷ l) found.is }

fresh-from : {A : Type 0} (test : A → A → Bool) → Tells test → (x : A) (xs : List A) → not (list_any (test x) xs) ≡ true → Has xs x → ⊥
fresh-from test tells x xs h has =
    let found : list_any (test x) xs ≡ true = ap (list_any (test x)) has.is ∙ any-from_has test tells x has.before has.after in
    let no : false ≡ true = rw found at h in
    cc

from-fresh : {A : Type 0} (test : A → A → Bool) → Tells test → (x : A) (xs : List A) → (Has xs x → ⊥) → not (list_any (test x) xs) ≡ true
from-fresh test tells x xs h = go (list_any (test x) xs) refl
  where
    go : (b : Bool) → list_any (test x) xs ≡ b → not (list_any (test x) xs) ≡ true
    go true e = absurd (h (has-from_any test tells x xs e))
    go false e = rw e refl

distinct-from : {A : Type 0} (test : A → A → Bool) → Tells test → (xs : List A) → all_differ test xs ≡ true → AreDistinct xs
distinct-from test tells [] h = tt
distinct-from test tells (x ∷ xs) h =
    let p = and_parts (not (list_any (test x) xs)) (all_differ test xs) h in
    (fresh-from test tells x xs p.0, distinct-from test tells xs p.1)

from-distinct : {A : Type 0} (test : A → A → Bool) → Tells test → (xs : List A) → AreDistinct xs → all_differ test xs ≡ true
from-distinct test tells [] h = refl
from-distinct test tells (x ∷ xs) h = and_from (not (list_any (test x) xs)) (all_differ test xs) (from-fresh test tells x xs h.0) (from-distinct test tells xs h.1)

-- ---- entries

some-from : {A : Type 0} (xs : List A) → not (is_empty xs) ≡ true → 1 ≤ length xs
some-from [] h = absurd cc
some-from (x ∷ xs) h = omega arith

from-some : {A : Type 0} (xs : List A) → 1 ≤ length xs → not (is_empty xs) ≡ true
from-some [] h = absurd (omega arith)
from-some (x ∷ xs) h = refl

number-from : (form : IntForm) (n : ℤ) → has_number form n ≡ true → HasNumber form n
number-from form n h = let p = and_parts (int_le (least form) n) (int_le n (greatest form)) h in record { from_least = up (least form) n p.0; to_greatest = up n (greatest form) p.1 }
  where
    up : (a b : ℤ) → int_le a b ≡ true → a ≤ℤ b
    up a b e = grind (arith, ints)

from-number : (form : IntForm) (n : ℤ) → HasNumber form n → has_number form n ≡ true
from-number form n h = and_from (int_le (least form) n) (int_le n (greatest form)) (tested (least form) n h.from_least) (tested n (greatest form) h.to_greatest)
  where
    tested : (a b : ℤ) → a ≤ℤ b → int_le a b ≡ true
    tested a b e = grind (arith, ints)

named-from : (form : IntForm) (es : List (List ℕ × ℤ)) → list_all (is_entry form) es ≡ true → AllByRecursion (λ e. 1 ≤ length e.0) es
named-from form [] h = tt
named-from form (e ∷ es) h =
    let p = and_parts (is_entry form e) (list_all (is_entry form) es) h in
    (some-from (label e) (and_parts (not (is_empty (label e))) (has_number form (value e)) p.0).0, named-from form es p.1)

numbered-from : (form : IntForm) (es : List (List ℕ × ℤ)) → list_all (is_entry form) es ≡ true → AllByRecursion (λ e. HasNumber form e.1) es
numbered-from form [] h = tt
numbered-from form (e ∷ es) h =
    let p = and_parts (is_entry form e) (list_all (is_entry form) es) h in
    (number-from form (value e) (and_parts (not (is_empty (label e))) (has_number form (value e)) p.0).1, numbered-from form es p.1)

from-entries : (form : IntForm) (es : List (List ℕ × ℤ)) → AllByRecursion (λ e. 1 ≤ length e.0) es → AllByRecursion (λ e. HasNumber form e.1) es → list_all (is_entry form) es ≡ true
from-entries form [] h k = refl
from-entries form (e ∷ es) h k =
    and_from (is_entry form e) (list_all (is_entry form) es)
    (and_from (not (is_empty (label e))) (has_number form (value e)) (from-some (label e) h.0) (from-number form (value e) k.0))
    (from-entries form es h.1 k.1)

same-tells : Tells same
same-tells x y = bytes_eq-Decides x y

pub listing_is : (form : IntForm) (listing : List (List ℕ × ℤ)) → (is_listing form listing ≡ true) ↔ IsListing form listing
listing_is form listing = (into, onto)
  where
    into : is_listing form listing ≡ true → IsListing form listing
    into h =
        let p = and_parts (not (is_empty listing)) (list_all (is_entry form) listing && (all_differ same (map label listing) && all_differ int_eq (map value listing))) h in
        let q = and_parts (list_all (is_entry form) listing) (all_differ same (map label listing) && all_differ int_eq (map value listing)) p.1 in
        let r = and_parts (all_differ same (map label listing)) (all_differ int_eq (map value listing)) q.1 in
        record {
          some = some-from listing p.0;
          named = named-from form listing q.0;
          labels = distinct-from same same-tells (map label listing) r.0;
          numbers = distinct-from int_eq Decides-int_eq (map value listing) r.1;
          of_form = numbered-from form listing q.0;
        }

    onto : IsListing form listing → is_listing form listing ≡ true
    onto l =
        and_from (not (is_empty listing)) (list_all (is_entry form) listing && (all_differ same (map label listing) && all_differ int_eq (map value listing)))
        (from-some listing l.some)
        (and_from (list_all (is_entry form) listing) (all_differ same (map label listing) && all_differ int_eq (map value listing))
        (from-entries form listing l.named l.of_form)
        (and_from (all_differ same (map label listing)) (all_differ int_eq (map value listing))
        (from-distinct same same-tells (map label listing) l.labels)
        (from-distinct int_eq Decides-int_eq (map value listing) l.numbers)))

-- ---- types that break no rule

pub none_broken : (b : Bool) (rule : Rule) (at : Place) → broken_where b rule at ≡ [] → b ≡ false
none_broken false rule at h = refl
none_broken true rule at h = absurd cc

-- an integer or enumerated type that has a form
form_there : (f : Option IntForm) → is_none f ≡ false → (form : IntForm) × (f ≡ Some form)
form_there None h = absurd cc
form_there (Some form) h = (form, refl)

truth_there : (f : Option BoolForm) → is_none f ≡ false → IsSome f
truth_there None h = absurd cc
truth_there (Some form) h = refl

form_if_unbroken : (integer enumerated : Bool) (f : Option IntForm) (rest : Bool) → (integer || enumerated) ≡ true → (if integer || enumerated then is_none f else rest) ≡ false → (form : IntForm) × (f ≡ Some form)
form_if_unbroken integer enumerated f rest is h = form_there f (rw is at h)

or_right : (a : Bool) → (a || true) ≡ true
or_right true = refl
or_right false = refl

pub integer_unbroken : (t : List Node) (at : Place) → is_integer t at.node ≡ true → encoding_breaks t at ≡ [] → range_breaks t at ≡ [] → HasDomain t at.node
integer_unbroken t at is encoding range =
    let there = form_if_unbroken (is_integer t at.node) (is_enumerated t at.node) (int_form_of t at.node) _ (rw is refl) (none_broken (lacks_form t at.node) BadEncoding at encoding) in
    let numbers : lacks_numbers_by (int_form_of t at.node) (range_of t at.node) ≡ false = rw is at (none_broken (lacks_numbers t at.node) EmptyRange at range) in
    let some : has_none (domain_of there.0 (range_of t at.node)) ≡ false = ap (λ f. lacks_numbers_by f (range_of t at.node)) (sym there.1) ∙ numbers in
    record { form = there.0; form_is = there.1; is_domain = domain_kept there.0 (range_of t at.node) some }

pub enumerated_unbroken : (t : List Node) (at : Place) → is_enumerated t at.node ≡ true → encoding_breaks t at ≡ [] → enumeration_breaks t at ≡ [] → HasListing t at.node
enumerated_unbroken t at is encoding enumeration =
    let there = form_if_unbroken (is_integer t at.node) (is_enumerated t at.node) (int_form_of t at.node) _ (rw is (or_right (is_integer t at.node))) (none_broken (lacks_form t at.node) BadEncoding at encoding) in
    let entries : misses_listing_by (int_form_of t at.node) (listing_of t at.node) ≡ false = rw is at (none_broken (misses_listing t at.node) BadEnumeration at enumeration) in
    let good : not (is_listing there.0 (listing_of t at.node)) ≡ false = ap (λ f. misses_listing_by f (listing_of t at.node)) (sym there.1) ∙ entries in
    record { form = there.0; form_is = there.1; lists = (listing_is there.0 (listing_of t at.node)).0 (flip (is_listing there.0 (listing_of t at.node)) good) }
  where
    flip : (b : Bool) → not b ≡ false → b ≡ true
    flip true h = refl
    flip false h = absurd cc

-- two names of types are not one
pub name_apart : (name one other : List ℕ) → same one other ≡ false → same name one ≡ true → same name other ≡ false
name_apart name one other h e = let is : name ≡ one = (bytes_eq-Decides name one).0 e in ap (λ n. same n other) is ∙ h

pub boolean_unbroken : (t : List Node) (at : Place) → is_boolean t at.node ≡ true → encoding_breaks t at ≡ [] → IsSome (bool_form_of t at.node)
boolean_unbroken t at is encoding =
    let whole : lacks_form t at.node ≡ false = none_broken (lacks_form t at.node) BadEncoding at encoding in
    let no_integer : is_integer t at.node ≡ false = name_apart (name_at t at.node) (codes "BooleanDataType") (codes "IntegerDataType") refl is in
    let no_enumerated : is_enumerated t at.node ≡ false = name_apart (name_at t at.node) (codes "BooleanDataType") (codes "EnumeratedDataType") refl is in
    truth_there (bool_form_of t at.node) (rw (no_integer, no_enumerated, is) at whole)
