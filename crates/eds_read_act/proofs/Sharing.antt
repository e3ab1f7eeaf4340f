-- Ends that carry the same have the same fields.
use Rattle.std.proofs.Common.{◌≡◌, ℕ, zero, suc, Bool, true, false, List, [], ◌∷◌, ◌++◌, map, Option, Some, None, refl, sym, ap, ◌∙◌}
use Rattle.std.specs.Prelude.{slice_get, ◌&&◌, ◌==◌, if◌then◌else◌, IfSome}
use Rattle.std.proofs.lemmas.Bool.{eqb-true, and_parts}
use Rattle.std.proofs.lemmas.Slice.Eq.{bytes_eq-Decides}
use Rattle.eds_base.specs.Reading.{◌>>=◌, same}
use Rattle.eds_plan.specs.declared.component.EndPlan.{EndPlan}
use Rattle.eds_plan.specs.declared.instance.Argument.{Argument}
use Rattle.eds_plan.specs.declared.instance.Member.{Member}
use Rattle.eds_plan.specs.declared.instance.Member.TheVariants as member
use Rattle.eds_plan.specs.declared.instance.Mode.{Mode}
use Rattle.eds_plan.specs.declared.instance.Mode.TheVariants.{In, Out, InOut, Notify}
use Rattle.eds_plan.specs.declared.run.Way.{Way}
use Rattle.eds_plan.specs.Carried.{carried_fields}
use Rattle.eds_read_act.specs.Carrying.{member_fields, end_fields, same_mode, same_argument, same_arguments, carry_alike, all_carry_alike, same_side, ends_carry_alike, alike_number}
use Rattle.eds_read_act.specs.Numbered.{at_number}
use Rattle.eds_read_act.specs.Scopes.{Field}

mode-one : (m n : Mode) → same_mode m n ≡ true → m ≡ n
mode-one In In e = refl
mode-one In Out e = cc
mode-one In InOut e = cc
mode-one In Notify e = cc
mode-one Out In e = cc
mode-one Out Out e = refl
mode-one Out InOut e = cc
mode-one Out Notify e = cc
mode-one InOut In e = cc
mode-one InOut Out e = cc
mode-one InOut InOut e = refl
mode-one InOut Notify e = cc
mode-one Notify In e = cc
mode-one Notify Out e = cc
mode-one Notify InOut e = cc
mode-one Notify Notify e = refl

argument-made : (a b : Argument) → a.name ≡ b.name → a.id ≡ b.id → a.mode ≡ b.mode → a ≡ b
argument-made a b n i m = rw (n, i, m) refl

argument-one : (a b : Argument) → same_argument a b ≡ true → a ≡ b
argument-one a b e =
    let both = and_parts (same a.name b.name) ((a.id.0 == b.id.0) && same_mode a.mode b.mode) e in
    let more = and_parts (a.id.0 == b.id.0) (same_mode a.mode b.mode) both.1 in
    let id : a.id ≡ b.id = ap (λ (n : ℕ). record { 0 = n }) (eqb-true a.id.0 b.id.0 more.0) in
    argument-made a b ((bytes_eq-Decides a.name b.name).0 both.0) id (mode-one a.mode b.mode more.1)

arguments-one : (xs ys : List Argument) → same_arguments xs ys ≡ true → xs ≡ ys
arguments-one [] [] e = refl
arguments-one [] (y ∷ ys) e = cc
arguments-one (x ∷ xs) [] e = cc
arguments-one (x ∷ xs) (y ∷ ys) e =
    let both = and_parts (same_argument x y) (same_arguments xs ys) e in
    ap (λ z. z ∷ xs) (argument-one x y both.0) ∙ ap (λ zs. y ∷ zs) (arguments-one xs ys both.1)

member-alike : (way : Way) (m n : Member) → carry_alike m n ≡ true → member_fields way m ≡ member_fields way n
member-alike way (member.Parameter a i r) (member.Parameter b j s) e = refl
member-alike way (member.Parameter a i r) (member.Command b ys) e = cc
member-alike way (member.Command a xs) (member.Parameter b j s) e = cc
member-alike way (member.Command a xs) (member.Command b ys) e = ap (carried_fields way) (arguments-one xs ys e)

members-alike : (way : Way) (ms ns : List Member) → all_carry_alike ms ns ≡ true → map (member_fields way) ms ≡ map (member_fields way) ns
members-alike way [] [] e = refl
members-alike way [] (n ∷ ns) e = cc
members-alike way (m ∷ ms) [] e = cc
members-alike way (m ∷ ms) (n ∷ ns) e =
    let both = and_parts (carry_alike m n) (all_carry_alike ms ns) e in
    ap (λ z. z ∷ map (member_fields way) ms) (member-alike way m n both.0) ∙ ap (λ zs. member_fields way n ∷ zs) (members-alike way ms ns both.1)

side-one : (a b : Bool) → same_side a b ≡ true → a ≡ b
side-one true true e = refl
side-one true false e = cc
side-one false true e = cc
side-one false false e = refl

ends-alike : (way : Bool → Way) (e f : EndPlan) → ends_carry_alike e f ≡ true → end_fields way e ≡ end_fields way f
unfolding end_fields
ends-alike way e f h =
    let both = and_parts (same_side e.required f.required) (all_carry_alike e.instance.members f.instance.members) h in
    ap (λ r. map (member_fields (way r)) e.instance.members) (side-one e.required f.required both.0) ∙ members-alike (way f.required) e.instance.members f.instance.members both.1

-- what is made for some first ends
made-at : (way : Bool → Way) (ends : List EndPlan) (made rest : List (List (List Field))) → made ++ rest ≡ map (end_fields way) ends
    → (k : ℕ) (e : EndPlan) (fs : List (List Field)) → slice_get ends k ≡ Some e → slice_get made k ≡ Some fs → fs ≡ end_fields way e
made-at way ends [] rest h k e fs i j = cc
made-at way [] (m ∷ made) rest h k e fs i j = cc
made-at way (d ∷ ends) (m ∷ made) rest h zero e fs i j =
    let first : m ≡ end_fields way d = cc in
    let end : d ≡ e = cc in
    let is : m ≡ fs = cc in
    sym is ∙ first ∙ ap (end_fields way) end
made-at way (d ∷ ends) (m ∷ made) rest h (suc k) e fs i j =
    let next : made ++ rest ≡ map (end_fields way) ends = cc in
    made-at way ends made rest next k e fs i j

-- what is made for an end that carries the same is what this end carries
pub alike-made : (way : Bool → Way) (ends : List EndPlan) (end : EndPlan) (made rest : List (List (List Field))) (number : Option ℕ) → made ++ rest ≡ map (end_fields way) ends
    → IfSome (at_number made (alike_number ends end number)) (λ fs. fs ≡ end_fields way end)
alike-made way ends end made rest None h = tt
alike-made way ends end made rest (Some k) h = at (slice_get ends k) refl
  where
    there : (e : EndPlan) → slice_get ends k ≡ Some e → ends_carry_alike e end ≡ true → (o : Option (List (List Field))) → slice_get made k ≡ o → IfSome o (λ fs. fs ≡ end_fields way end)
    there e i a None j = tt
    there e i a (Some fs) j = made-at way ends made rest h k e fs i j ∙ ends-alike way e end a

    told : (e : EndPlan) → slice_get ends k ≡ Some e → (b : Bool) → ends_carry_alike e end ≡ b → IfSome (at_number made (if b then Some k else None)) (λ fs. fs ≡ end_fields way end)
    told e i true a = there e i a (slice_get made k) refl
    told e i false a = tt

    at : (o : Option EndPlan) → slice_get ends k ≡ o → IfSome (at_number made (o >>= λ e. if ends_carry_alike e end then Some k else None)) (λ fs. fs ≡ end_fields way end)
    at None i = tt
    at (Some e) i = told e i (ends_carry_alike e end) refl
