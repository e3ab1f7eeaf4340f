-- What a halt keeps.
use Rattle.std.proofs.Common.{◌≡◌, ◌-◌, ℕ, zero, suc, List, [], ◌∷◌, ◌++◌, Bool, refl, sym, ap, subst, ◌∙◌, arith, map}
use Rattle.eds_types.specs.Plain.{Plain}
use Rattle.eds_types.specs.Rows.{Table}
use Rattle.eds_plan.specs.declared.component.ComponentPlan.{ComponentPlan}
use Rattle.eds_plan.specs.declared.run.Halt.{Halt}
use Rattle.eds_plan.specs.declared.run.Halt.TheVariants.{Budget}
use Rattle.eds_plan.specs.Statements.{stmts}
use Rattle.eds_act.specs.declared.ending.ActEnd.{ActEnd}
use Rattle.eds_act.specs.declared.ending.ActEnd.TheVariants.{Halted}
use Rattle.eds_act.specs.Acting.{acted, acting, entered, noted_end}
use Rattle.eds_act.specs.Does.{Ended, Item, Started, World, after, exec, goes, halts, items_of, start, value_of}
use Rattle.eds_host.specs.Halts.{ActionsKeep, HaltsKeep, IsKept, Stops}

halt : (h k : Halt) → Halted h ≡ Halted k → h ≡ k
halt h k e = cc

module _ (packs : ℕ → Plain → Bool) (t : Table) (c : ComponentPlan) where
  -- one more item was started before
  one_more : (left : ℕ) (i : Item) (is next : List Item) (w u v : World) (h : Halt) → start packs t c i w ≡ goes next u → IsKept packs t c left (next ++ is) u h v → IsKept packs t c (suc left) (i ∷ is) w h v
  one_more left i is next w u v h e k =
      let same : suc left - suc k.count ≡ left - k.count = omega arith in
      record {
        count = suc k.count;
        few = omega (arith, k.few);
        rest = k.rest;
        before = (next, u, e, k.before);
        stops = subst (λ n. Stops packs t c n h k.rest v) (sym same) k.stops;
      }

  kept : (left : ℕ) (is : List Item) (w : World) (h : Halt) → (exec packs t c left is w).end ≡ Halted h → IsKept packs t c left is w h (exec packs t c left is w).world
  unfolding exec
  kept zero [] w h e = absurd cc
  kept (suc left) [] w h e = absurd cc
  kept zero (i ∷ is) w h e = record { count = 0; few = omega arith; rest = i ∷ is; before = (refl, refl); stops = sym (halt Budget h e) }
  kept (suc left) (i ∷ is) w h e = go (start packs t c i w) refl (λ next u q. kept left (next ++ is) u h q) e
    where
      on : List Item → World → Ended
      on next v = exec packs t c left (next ++ is) v

      go : (x : Started) → start packs t c i w ≡ x → ((next : List Item) (u : World) → (on next u).end ≡ Halted h → IsKept packs t c left (next ++ is) u h (on next u).world) → (after packs t c x left w on).end ≡ Halted h → IsKept packs t c (suc left) (i ∷ is) w h (after packs t c x left w on).world
      go (goes next u) p rest q = one_more left i is next w u (on next u).world h p (rest next u q)
      go (halts k) p rest q = let all : suc left ≡ suc left - 0 = omega arith in record { count = 0; few = omega arith; rest = i ∷ is; before = (refl, refl); stops = subst (λ n. Stops packs t c n h (i ∷ is) w) all (p ∙ ap halts (halt k h q)) }

pub halts_keep : HaltsKeep
halts_keep packs t c left is w h e = kept packs t c left is w h e

pub actions_keep : ActionsKeep
unfolding acting
actions_keep packs t c machine action args left w a vs h at given e =
    ap (λ o. acted packs t c machine o (map (value_of t args w.variables) action.operands) left w) at
    ∙ ap (λ o. entered packs t c machine a o left w) given
    ∙ ap (λ (x : ActEnd). noted_end machine x r.left r.world) e
  where
    r : Ended
    r = exec packs t c left (items_of vs (stmts a.body)) w
