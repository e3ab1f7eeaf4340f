-- Bodies in parts, counts and sends.
use Rattle.std.proofs.Common.{◌≡◌, ◌≤◌, ℕ, zero, suc, List, [], ◌∷◌, ◌++◌, Bool, refl, sym, ap, ◌∙◌, append_assoc, append-nil, arith}
use Rattle.eds_types.specs.Rows.{Table}
use Rattle.eds_types.specs.Plain.{Plain}
use Rattle.eds_plan.specs.declared.component.ComponentPlan.{ComponentPlan}
use Rattle.eds_plan.specs.Sends.{Sent}
use Rattle.eds_plan.specs.Statements.{Stmt}
use Rattle.eds_act.specs.Does.{World, Item, statement, items_of, Started, goes, halts, Ended, exec, start, after}
use Rattle.eds_act.specs.Laws.{going_on, BodyInParts, CountNeverFalls, SendsAreKept}
use Rattle.eds_act.proofs.Whole.{exec_before}

items_append : (args : List Plain) (one two : List Stmt) → items_of args (one ++ two) ≡ items_of args one ++ items_of args two
items_append args [] two = refl
items_append args (s ∷ ss) two = ap (λ is. statement args s ∷ is) (items_append args ss two)

module _ (packs : ℕ → Plain → Bool) (t : Table) (c : ComponentPlan) where
  -- further items go on from where some ended
  abbrev going : Ended → List Item → Ended
  going r js = going_on r.end r (exec packs t c r.left js r.world)

  exec_append : (l : ℕ) (is js : List Item) (w : World) → exec packs t c l (is ++ js) w ≡ going (exec packs t c l is w) js
  unfolding exec
  exec_append zero [] js w = refl
  exec_append (suc l) [] js w = refl
  exec_append zero (i ∷ is) js w = refl
  exec_append (suc l) (i ∷ is) js w = go (start packs t c i w) (λ next v. ap (λ ks. exec packs t c l ks v) (sym (append_assoc next is js)) ∙ exec_append l (next ++ is) js v)
    where
      go : (s : Started) → ((next : List Item) (v : World) → exec packs t c l (next ++ (is ++ js)) v ≡ going (exec packs t c l (next ++ is) v) js) → after packs t c s l w (λ next v. exec packs t c l (next ++ (is ++ js)) v) ≡ going (after packs t c s l w (λ next v. exec packs t c l (next ++ is) v)) js
      go (goes next v) h = h next v
      go (halts r) h = refl

  left_falls : (l : ℕ) (is : List Item) (w : World) → (exec packs t c l is w).left ≤ l
  unfolding exec
  left_falls zero [] w = omega arith
  left_falls (suc l) [] w = omega arith
  left_falls zero (i ∷ is) w = omega arith
  left_falls (suc l) (i ∷ is) w = go (start packs t c i w) (λ next v. left_falls l (next ++ is) v)
    where
      go : (s : Started) → ((next : List Item) (v : World) → (exec packs t c l (next ++ is) v).left ≤ l) → (after packs t c s l w (λ next v. exec packs t c l (next ++ is) v)).left ≤ suc l
      go (goes next v) h = omega (arith, h next v)
      go (halts r) h = omega arith

pub body_in_parts : BodyInParts
body_in_parts packs t c l args one two w = ap (λ is. exec packs t c l is w) (items_append args one two) ∙ exec_append packs t c l (items_of args one) (items_of args two) w

pub count_never_falls : CountNeverFalls
count_never_falls packs t c l is w = left_falls packs t c l is w

pub sends_are_kept : SendsAreKept
sends_are_kept packs t c l is w =
    ((exec packs t c l is (record w { sent = [] })).world.sent, ap (λ (s : List Sent). (exec packs t c l is (record w { sent = s })).world.sent) (sym (append-nil w.sent)) ∙ ap (λ (r : Ended). r.world.sent) (exec_before packs t w.sent c l is (record w { sent = [] })))
