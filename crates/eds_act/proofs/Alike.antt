-- What components that are seen alike do.
use Rattle.std.proofs.Common.{◌≡◌, ℕ, zero, suc, ◌+ℤ◌, List, [], ◌∷◌, ◌++◌, map, Bool, Option, Some, None, slice_get, option_map, refl, sym, ap, ◌∙◌}
use Rattle.std.specs.Prelude.{option_to_list}
use Rattle.eds_base.specs.declared.ids.TypeId.{TypeId}
use Rattle.eds_types.specs.Plain.{Plain, num}
use Rattle.eds_types.specs.Rows.{Table}
use Rattle.eds_plan.specs.Alike.{IsAlike, SeenActivity, SeenComponent, seen_activity}
use Rattle.eds_plan.specs.Statements.{assign, calculate, choose, iterate, call, send_command, send_parameter, stmts}
use Rattle.eds_plan.specs.declared.activity.Action.{Action}
use Rattle.eds_plan.specs.declared.activity.Activity.{Activity}
use Rattle.eds_plan.specs.declared.activity.Op.{Op}
use Rattle.eds_plan.specs.declared.activity.Op.TheVariants as op
use Rattle.eds_plan.specs.declared.component.ComponentPlan.{ComponentPlan}
use Rattle.eds_plan.specs.Plans.{argument_types, variable_types}
use Rattle.eds_plan.proofs.Alike.{by_option, at_place, types_alike}
use Rattle.eds_act.specs.Acting.{acting, acted, entered, noted_end}
use Rattle.eds_act.specs.Does.{World, Item, statement, turn, turns, items_of, Started, goes, halts, Ended, storing, targeted, calculated, value_of, entering, calling, sending, arguments_of, start, after, exec}
use Rattle.eds_act.specs.Laws.{AlikeActions, AlikeBodies, AlikeRuns}

-- the types of the arguments of an activity that is so seen
abbrev types_in : SeenActivity → List ℕ
types_in a = map (λ (p : List ℕ × TypeId). (p.1).0) a.arguments

module _ (packs : ℕ → Plain → Bool) (t : Table) (c d : ComponentPlan) (h : IsAlike c d) where
  -- the activities of a number are seen alike
  activities_alike : (i : ℕ) → option_map seen_activity (slice_get c.activities i) ≡ option_map seen_activity (slice_get d.activities i)
  activities_alike i = at_place seen_activity c.activities d.activities (ap (λ (s : SeenComponent). s.activities) h) i

  -- a value is stored alike
  stored_alike : (x : ℕ) (v : Option Plain) (next : List Item) (w : World) → storing packs (slice_get (variable_types c) x) x v next w ≡ storing packs (slice_get (variable_types d) x) x v next w
  stored_alike x v next w = ap (λ ids. storing packs (slice_get ids x) x v next w) (types_alike c d h)

  called_alike : (i : ℕ) (vs : List (Option Plain)) (w : World) → calling packs (slice_get c.activities i) vs w ≡ calling packs (slice_get d.activities i) vs w
  called_alike i vs w =
      by_option seen_activity (λ a. calling packs a vs w) (λ a. calling packs a vs w) refl
      (λ a b same. ap (λ (s : SeenActivity). entering packs s.body (arguments_of packs (types_in s) vs) w) same)
      (slice_get c.activities i) (slice_get d.activities i) (activities_alike i)

  sent_alike : (o : Op) (end member : ℕ) (name : Option ℕ) (vs : List (Option Plain)) (w : World) → sending packs o end member name (slice_get c.ends end) vs w ≡ sending packs o end member name (slice_get d.ends end) vs w
  sent_alike o end member name vs w = ap (λ (s : SeenComponent). sending packs o end member name (slice_get s.ends end) vs w) h

  started_alike : (i : Item) (w : World) → start packs t c i w ≡ start packs t d i w
  started_alike (statement args (assign x a)) w = stored_alike x.variable (targeted t w.variables x (value_of t args w.variables a)) [] w
  started_alike (statement args (calculate x is)) w = stored_alike x.variable (targeted t w.variables x (calculated t args w.variables is)) [] w
  started_alike (statement args (choose g a b)) w = refl
  started_alike (statement args (iterate x a b step body)) w = refl
  started_alike (statement args (call action)) w = called_alike action.activity (map (value_of t args w.variables) action.operands) w
  started_alike (statement args (send_command end member operands name)) w = sent_alike op.Command end member name (map (value_of t args w.variables) operands) w
  started_alike (statement args (send_parameter end member o operand name)) w = sent_alike o end member name (map (value_of t args w.variables) (option_to_list operand)) w
  started_alike (turn x number last step args body) w = stored_alike x (Some (num number)) (items_of args body ++ turns x (number +ℤ step) last step args body) w

  pub runs_alike : (l : ℕ) (is : List Item) (w : World) → exec packs t c l is w ≡ exec packs t d l is w
  unfolding exec
  runs_alike zero [] w = refl
  runs_alike (suc l) [] w = refl
  runs_alike zero (i ∷ is) w = refl
  runs_alike (suc l) (i ∷ is) w =
      ap (λ s. after packs t c s l w (λ next v. exec packs t c l (next ++ is) v)) (started_alike i w)
      ∙ go (start packs t d i w) (λ next v. runs_alike l (next ++ is) v)
    where
      go : (s : Started) → ((next : List Item) (v : World) → exec packs t c l (next ++ is) v ≡ exec packs t d l (next ++ is) v) → after packs t c s l w (λ next v. exec packs t c l (next ++ is) v) ≡ after packs t d s l w (λ next v. exec packs t d l (next ++ is) v)
      go (goes next v) same = same next v
      go (halts r) same = refl

  entered_alike : (machine : ℕ) (a b : Activity) → seen_activity a ≡ seen_activity b → (args : Option (List Plain)) (l : ℕ) (w : World) → entered packs t c machine a args l w ≡ entered packs t d machine b args l w
  entered_alike machine a b same None l w = refl
  entered_alike machine a b same (Some args) l w =
      ap (λ (r : Ended). noted_end machine r.end r.left r.world) (runs_alike l (items_of args (stmts a.body)) w ∙ ap (λ (s : SeenActivity). exec packs t d l (items_of args s.body) w) same)

  pub actions_alike : (machine : ℕ) (action : Action) (args : List Plain) (l : ℕ) (w : World) → acting packs t c machine action args l w ≡ acting packs t d machine action args l w
  unfolding acting
  actions_alike machine action args l w =
      by_option seen_activity (λ a. acted packs t c machine a vs l w) (λ a. acted packs t d machine a vs l w) refl
      (λ a b same. entered_alike machine a b same (arguments_of packs (argument_types a) vs) l w ∙ ap (λ (s : SeenActivity). entered packs t d machine b (arguments_of packs (types_in s) vs) l w) same)
      (slice_get c.activities action.activity) (slice_get d.activities action.activity) (activities_alike action.activity)
    where
      vs : List (Option Plain)
      vs = map (value_of t args w.variables) action.operands

pub alike_runs : AlikeRuns
alike_runs packs t c d h l is w = runs_alike packs t c d h l is w

pub alike_bodies : AlikeBodies
alike_bodies t number c d h body args vars waiting n vars' waiting' out m end done =
    record { packs = done.packs; tells = done.tells; runs = sym (runs_alike done.packs t c d h _ (items_of args body) _) ∙ done.runs }

pub alike_actions : AlikeActions
alike_actions packs t c d h machine action args l w = actions_alike packs t c d h machine action args l w
