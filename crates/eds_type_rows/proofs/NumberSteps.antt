-- The numbers of a type, step by step.
use Rattle.std.proofs.Common.{◌≡◌, ℕ, zero, suc, ◌-◌, ◌<◌, false, List, Option, Some, None, Result, Ok, Err, refl, sym, ap, ◌∙◌, arith, slice_get}
use Rattle.std.specs.Prelude.{IfOk, if◌then◌else◌}
use Rattle.eds_base.specs.declared.ids.Place.{Place}
use Rattle.eds_base.specs.declared.ids.TypeId.{TypeId}
use Rattle.eds_tree.specs.declared.tree.Node.{Node}
use Rattle.eds_type_rows.specs.declared.numbers.FormAndDomain.{FormAndDomain}
use Rattle.eds_type_rows.specs.Forms.{int_form_of}
use Rattle.eds_type_rows.specs.Ranges.{range_of}
use Rattle.eds_type_rows.specs.Bases.{base_at}
use Rattle.eds_type_rows.specs.Numbers.{form_or_wide, numbers_with, all_numbers, own_numbers, own_numbers_in, own_numbers_at, range_at, narrowed_numbers, numbers_by, numbers_within}
use Rattle.eds_type_rows.specs.ScalarKinds.{is_integer}

-- an answer by another name
pub ok-is : {A E : Type 0} (r : Result A E) (x y : A) → x ≡ y → IfOk r (λ a. a ≡ x) → IfOk r (λ a. a ≡ y)
ok-is (Ok a) x y e h = h ∙ e
ok-is (Err e) x y f h = tt

pub own-other : (t : List Node) (n : ℕ) → is_integer t n ≡ false → all_numbers ≡ own_numbers t n
own-other t n e = sym (ap (λ b. if b then numbers_with (form_or_wide (int_form_of t n)) (range_of t n) else all_numbers) e)

pub own-none : (trees : List (List Node)) (at : Option Place) → at ≡ None → all_numbers ≡ own_numbers_at trees at
own-none trees at e = sym (ap (own_numbers_at trees) e)

pub own-past : (trees : List (List Node)) (at : Option Place) (p : Place) → at ≡ Some p → slice_get trees p.file ≡ None → all_numbers ≡ own_numbers_at trees at
own-past trees at p e h = sym (ap (own_numbers_at trees) e ∙ ap (λ o. own_numbers_in o p.node) h)

pub own-there : (trees : List (List Node)) (at : Option Place) (p : Place) (t : List Node) → at ≡ Some p → slice_get trees p.file ≡ Some t → own_numbers t p.node ≡ own_numbers_at trees at
own-there trees at p t e h = sym (ap (own_numbers_at trees) e ∙ ap (λ o. own_numbers_in o p.node) h)

pub up-own : (most : ℕ) (trees : List (List Node)) (places : List Place) (bases : List (Option TypeId)) (id : ℕ) → base_at bases id ≡ None → own_numbers_at trees (slice_get places id) ≡ numbers_within most trees places bases id
unfolding numbers_within
up-own zero trees places bases id e = refl
up-own (suc n) trees places bases id e = sym (ap (numbers_by (numbers_within n trees places bases) (range_at trees (slice_get places id)) (own_numbers_at trees (slice_get places id))) e)

pub up-base : (most : ℕ) (trees : List (List Node)) (places : List Place) (bases : List (Option TypeId)) (id : ℕ) (base : TypeId) (below : FormAndDomain) → 0 < most → base_at bases id ≡ Some base → below ≡ numbers_within (most - 1) trees places bases base.0
    → narrowed_numbers (range_at trees (slice_get places id)) below ≡ numbers_within most trees places bases id
unfolding numbers_within
up-base zero trees places bases id base below h e f = absurd (omega arith)
up-base (suc n) trees places bases id base below h e f =
    let back : suc n - 1 ≡ n = omega arith in
    ap (narrowed_numbers (range_at trees (slice_get places id))) (f ∙ ap (λ m. numbers_within m trees places bases base.0) back) ∙ sym (ap (numbers_by (numbers_within n trees places bases) (range_at trees (slice_get places id)) (own_numbers_at trees (slice_get places id))) e)
