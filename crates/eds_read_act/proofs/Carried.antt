-- What the members of ends carry, found by the names of ends and commands.
use Rattle.std.proofs.Common.{◌≡◌, ℕ, zero, suc, ◌+◌, ◌<◌, Bool, true, false, List, [], ◌∷◌, map, Option, Some, None, refl, sym, ap, ◌∙◌, arith}
use Rattle.std.specs.Prelude.{slice_get, option_map}
use Rattle.std.proofs.lemmas.Option.{slice_get-map}
use Rattle.eds_base.specs.Reading.{◌>>=◌, same}
use Rattle.eds_plan.specs.declared.component.EndPlan.{EndPlan}
use Rattle.eds_plan.specs.declared.instance.Argument.{Argument}
use Rattle.eds_plan.specs.declared.instance.Member.{Member}
use Rattle.eds_plan.specs.declared.instance.Member.TheVariants as member
use Rattle.eds_plan.specs.declared.run.Way.{Way}
use Rattle.eds_plan.specs.Carried.{carried_fields}
use Rattle.eds_names.specs.Positions.{place_among}
use Rattle.eds_read_act.specs.Carrying.{member_fields, end_fields, fields_at}
use Rattle.eds_read_act.specs.Numbered.{numbered, first_numbered, item_at, item_named}
use Rattle.eds_read_act.specs.Scopes.{Field}
use Rattle.eds_read_act.specs.declared.sending.Taker.{Taker}
use Rattle.eds_read_act.specs.Naming.{short}
use Rattle.eds_read_act.specs.Sending.{as_command, command_at_end}

item-in : {A : Type 0} (xs : List A) (k j : ℕ) (x : A) (o : Option A) → slice_get xs j ≡ o → ◌≡◌ {A = Option (ℕ × A)} (Some (k, x)) (option_map {U = ℕ × A} (λ (y : A). (j, y)) o) → slice_get xs k ≡ Some x
item-in xs k j x None h e = cc
item-in {A = A} xs k j x (Some y) h e =
    let pair : ◌≡◌ {A = ℕ × A} (k, x) (j, y) = cc in
    ap (λ (p : ℕ × A). slice_get xs p.0) pair ∙ h ∙ ap (λ (p : ℕ × A). Some p.1) (sym pair)

item-at : {A : Type 0} (xs : List A) (k : ℕ) (x : A) (o : Option ℕ) → ◌≡◌ {A = Option (ℕ × A)} (Some (k, x)) (o >>= item_at xs) → slice_get xs k ≡ Some x
item-at xs k x None e = cc
item-at xs k x (Some j) e = item-in xs k j x (slice_get xs j) refl e

-- what is found at the position of a name stands there
pub item-there : {A : Type 0} (name_of : A → List ℕ) (xs : List A) (q : List ℕ) (k : ℕ) (x : A) → ◌≡◌ {A = Option (ℕ × A)} (Some (k, x)) (item_named name_of xs q) → slice_get xs k ≡ Some x
item-there name_of xs q k x e = item-at xs k x (place_among (map name_of xs) q) e

-- a command of a name carries what its arguments carry
command-fields : (way : Way) (name : List ℕ) (m : Member) (args : List Argument) → Some args ≡ as_command name m → member_fields way m ≡ carried_fields way args
command-fields way name (member.Parameter own id read_only) args e = cc
command-fields way name (member.Command own inside) args e = go (same own name) refl
  where
    go : (b : Bool) → same own name ≡ b → carried_fields way inside ≡ carried_fields way args
    go true h = let q : Some args ≡ Some inside = rw h at e in let is : inside ≡ args = cc in ap (carried_fields way) is
    go false h = let q : Some args ≡ None = rw h at e in cc

-- no position before the first is found
below : (name : List ℕ) (j : ℕ) (ns : List Member) (n : ℕ) (args : List Argument) → n < j → Some (n, args) ≡ numbered (as_command name) j ns → ⊥
below name j [] n args lt e = cc
below name j (x ∷ xs) n args lt e = let more : n < j + 1 = omega arith in pick (as_command name x) e (λ h. below name (j + 1) xs n args more h)
  where
    pick : (o : Option (List Argument)) → Some (n, args) ≡ first_numbered j o (numbered (as_command name) (j + 1) xs) → (Some (n, args) ≡ numbered (as_command name) (j + 1) xs → ⊥) → ⊥
    pick None e others = others e
    pick (Some found) e others =
        let pair : ◌≡◌ {A = ℕ × List Argument} (n, args) (j, found) = cc in
        let is : n ≡ j = ap (λ (p : ℕ × List Argument). p.0) pair in
        omega arith

-- what the first command of a name carries stands at its position
pub command-there : (way : Way) (name : List ℕ) (args : List Argument) (k i : ℕ) (ms : List Member) → Some (k + i, args) ≡ numbered (as_command name) k ms
    → slice_get (map (member_fields way) ms) i ≡ Some (carried_fields way args)
command-there way name args k i [] e = cc
command-there way name args k i (m ∷ ms) e = go (as_command name m) refl i e (λ n h. command-there way name args (k + 1) n ms h)
  where
    go : (o : Option (List Argument)) → as_command name m ≡ o → (n : ℕ) → Some (k + n, args) ≡ first_numbered k o (numbered (as_command name) (k + 1) ms)
        → ((n : ℕ) → Some (k + 1 + n, args) ≡ numbered (as_command name) (k + 1) ms → slice_get (map (member_fields way) ms) n ≡ Some (carried_fields way args))
        → slice_get (map (member_fields way) (m ∷ ms)) n ≡ Some (carried_fields way args)
    go (Some found) h zero e others =
        let pair : ◌≡◌ {A = ℕ × List Argument} (k + 0, args) (k, found) = cc in
        let is : args ≡ found = ap (λ (p : ℕ × List Argument). p.1) pair in
        ap Some (command-fields way name m args (sym (h ∙ ap Some (sym is))))
    go (Some found) h (suc n) e others =
        let pair : ◌≡◌ {A = ℕ × List Argument} (k + suc n, args) (k, found) = cc in
        let place : k + suc n ≡ k = ap (λ (p : ℕ × List Argument). p.0) pair in
        absurd (omega arith)
    go None h zero e others = absurd (below name (k + 1) ms (k + 0) args (omega arith) e)
    go None h (suc n) e others = let next : k + 1 + n ≡ k + suc n = omega arith in others n (ap (λ (i : ℕ). Some (i, args)) next ∙ e)

-- the fields that stand at the position of an end and of a command there
pub taken-fields : (way : Bool → Way) (ends : List EndPlan) (name : List ℕ) (at number : ℕ) (e : EndPlan) (args : List Argument)
    → slice_get ends at ≡ Some e → Some (number, args) ≡ numbered (as_command name) 0 e.instance.members
    → fields_at way ends at number ≡ option_map (λ (c : Taker). c.fields) (command_at_end way name (at, e))
unfolding end_fields
taken-fields way ends name at number e args here there =
    ap (λ (o : Option EndPlan). o >>= λ x. slice_get (end_fields way x) number) here
    ∙ command-there (way e.required) name args 0 number e.instance.members (let first : 0 + number ≡ number = omega arith in ap (λ (n : ℕ). Some (n, args)) first ∙ there)
    ∙ ap (λ (o : Option (ℕ × List Argument)). option_map (λ (c : Taker). c.fields) (option_map (λ (c : ℕ × List Argument). record { end = short at; member = short c.0; fields = carried_fields (way e.required) c.1 }) o)) there

pub none-taken : (way : Bool → Way) (name : List ℕ) (at : ℕ) (e : EndPlan) → None ≡ numbered (as_command name) 0 e.instance.members
    → None ≡ option_map (λ (c : Taker). c.fields) (command_at_end way name (at, e))
none-taken way name at e none = ap (λ (o : Option (ℕ × List Argument)). option_map (λ (c : Taker). c.fields) (option_map (λ (c : ℕ × List Argument). record { end = short at; member = short c.0; fields = carried_fields (way e.required) c.1 }) o)) none

-- the fields of an end's position, in the list of all ends
pub mapped-fields : (way : Bool → Way) (ends : List EndPlan) (end number : ℕ) (all : List (List (List Field))) → all ≡ map (end_fields way) ends
    → (slice_get all end >>= λ fs. slice_get fs number) ≡ fields_at way ends end number
mapped-fields way ends end number all e =
    ap (λ xs. slice_get xs end >>= λ fs. slice_get fs number) e ∙ ap (λ o. o >>= λ fs. slice_get fs number) (slice_get-map (end_fields way) ends end) ∙ go (slice_get ends end)
  where
    go : (o : Option EndPlan) → (option_map (end_fields way) o >>= λ fs. slice_get fs number) ≡ (o >>= λ x. slice_get (end_fields way x) number)
    go None = refl
    go (Some x) = refl
