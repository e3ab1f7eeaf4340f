-- What an activity sends may leave its component.
use Rattle.std.proofs.Common.{◌≡◌, ℕ, zero, suc, ◌<◌, List, [], ◌∷◌, ◌++◌, map, Bool, true, false, Option, Some, None, slice_get, refl, sym, ap, subst, ◌∙◌}
use Rattle.std.specs.Prelude.{ℤ, ◌+ℤ◌, if◌then◌else◌, length, option_to_list, slice_set, IfSome}
use Rattle.std.specs.List.{AllByRecursion}
use Rattle.eds_types.specs.Plain.{Plain, num}
use Rattle.eds_types.specs.Rows.{Table}
use Rattle.eds_plan.specs.Carried.{OpFits, carried, leaving}
use Rattle.eds_plan.specs.Fitting.{CarriesAt, ComponentFits, StatementFits, StatementsFit, TakesArguments}
use Rattle.eds_plan.specs.Plans.{argument_types, variable_types}
use Rattle.eds_plan.specs.Sends.{primitive}
use Rattle.eds_plan.specs.Statements.{Stmt, Stmts, assign, calculate, choose, iterate, call, send_command, send_parameter, done, next, list_of, stmts, stmts_of}
use Rattle.eds_plan.specs.declared.activity.Activity.{Activity}
use Rattle.eds_plan.specs.declared.activity.Op.{Op}
use Rattle.eds_plan.specs.declared.activity.Op.TheVariants as op
use Rattle.eds_plan.specs.declared.component.ComponentPlan.{ComponentPlan}
use Rattle.eds_plan.specs.declared.component.EndPlan.{EndPlan}
use Rattle.eds_plan.specs.declared.run.Halt.TheVariants.{OutOfRange}
use Rattle.eds_plan.specs.declared.run.Outstanding.{Outstanding}
use Rattle.eds_act.specs.Does.{World, Tells, Conforms, AllConform, Item, statement, turn, items_of, Started, goes, halts, exec, start, after, argument_of, arguments_of, put_first, storing, iterating, entering, calling, emitting, sending, turns, is_within, begun, way_of, holds, number_of, value_of, calculated, targeted}
use Rattle.eds_act.specs.Leaves.{MayAllLeave, MayLeave, ActivitiesSendWell}
use Rattle.eds_act.proofs.Leading.{list_of-stmts_of}

-- ---- lists

pub all_append : {A : Type 0} (P : A → Type 0) (xs ys : List A) → AllByRecursion P xs → AllByRecursion P ys → AllByRecursion P (xs ++ ys)
all_append P [] ys h k = k
all_append P (x ∷ xs) ys h k = (h.0, all_append P xs ys h.1 k)

-- ---- values that pack

module _ (packs : ℕ → Plain → Bool) (t : Table) (tells : Tells t packs) where
  argument_packs : (id : ℕ) (v : Option Plain) → IfSome (argument_of packs id v) (Conforms t id)
  argument_packs id None = tt
  argument_packs id (Some v) = go (packs id v) refl
    where
      go : (b : Bool) → packs id v ≡ b → IfSome (if b then Some v else None) (Conforms t id)
      go true e = tells.packs_only id v e
      go false e = tt

  first_packs : (id : ℕ) (ids : List ℕ) (a : Option Plain) (vs : Option (List Plain)) → IfSome a (Conforms t id) → IfSome vs (AllConform t ids) → IfSome (put_first a vs) (AllConform t (id ∷ ids))
  first_packs id ids None vs h k = tt
  first_packs id ids (Some v) None h k = tt
  first_packs id ids (Some v) (Some vs) h k = (h, k)

  -- values that were found for some types pack as these
  pub arguments_pack : (ids : List ℕ) (vs : List (Option Plain)) → IfSome (arguments_of packs ids vs) (AllConform t ids)
  arguments_pack [] [] = tt
  arguments_pack [] (v ∷ vs) = tt
  arguments_pack (id ∷ ids) [] = tt
  arguments_pack (id ∷ ids) (v ∷ vs) = first_packs id ids (argument_of packs id v) (arguments_of packs ids vs) (argument_packs id v) (arguments_pack ids vs)

-- ---- statements and turns

module _ (packs : ℕ → Plain → Bool) (t : Table) (c : ComponentPlan) (comp : ℕ) (tells : Tells t packs) (fits : ComponentFits t (Conforms t) c) where
  -- a statement of a body with arguments of these types, which calls activities of a rank below this
  abbrev FitsBelow : List ℕ → ℕ → Stmt → Type 0
  FitsBelow ids n s = StatementFits t (Conforms t) (variable_types c) ids (λ j args. TakesArguments c j args × (fits.rank j < n)) (CarriesAt leaving c) (length c.transactions) s

  abbrev ItemFits : Item → Type 0
  ItemFits (statement args s) = (ids : List ℕ) × (n : ℕ) × FitsBelow ids n s
  ItemFits (turn x number last step args body) = (ids : List ℕ) × (n : ℕ) × AllByRecursion (FitsBelow ids n) body

  abbrev StartsWell : Started → Type 0
  StartsWell (goes is w) = AllByRecursion ItemFits is × MayAllLeave t c comp w
  StartsWell (halts h) = Unit {0}

  each_fits : (ids : List ℕ) (n : ℕ) (ss : Stmts) → StatementsFit t (Conforms t) (variable_types c) ids (λ j args. TakesArguments c j args × (fits.rank j < n)) (CarriesAt leaving c) (length c.transactions) ss → AllByRecursion (FitsBelow ids n) (list_of ss)
  each_fits ids n done h = tt
  each_fits ids n (next s ss) h = (h.0, each_fits ids n ss h.1)

  items_fit : (args : List Plain) (ids : List ℕ) (n : ℕ) (ss : List Stmt) → AllByRecursion (FitsBelow ids n) ss → AllByRecursion ItemFits (items_of args ss)
  items_fit args ids n [] h = tt
  items_fit args ids n (s ∷ ss) h = ((ids, n, h.0), items_fit args ids n ss h.1)

  -- the body of an activity
  pub body_fits : (i : ℕ) (a : Activity) (args : List Plain) → slice_get c.activities i ≡ Some a → AllByRecursion ItemFits (items_of args (stmts a.body))
  body_fits i a args e = items_fit args (argument_types a) (fits.rank i) (stmts a.body)
      (subst (λ ss. AllByRecursion (FitsBelow (argument_types a) (fits.rank i)) ss) (list_of-stmts_of (stmts a.body)) (each_fits (argument_types a) (fits.rank i) (stmts_of (stmts a.body)) (fits.bodies i a e)))

  turns_fit : (x : ℕ) (n last step : ℤ) (args : List Plain) (body : List Stmt) (ids : List ℕ) (rank : ℕ) → AllByRecursion (FitsBelow ids rank) body → AllByRecursion ItemFits (turns x n last step args body)
  turns_fit x n last step args body ids rank h = go (is_within step n last)
    where
      go : (b : Bool) → AllByRecursion ItemFits (if b then turn x n last step args body ∷ [] else [])
      go true = ((ids, rank, h), tt)
      go false = tt

  storing_well : (id : Option ℕ) (x : ℕ) (v : Option Plain) (is : List Item) (w : World) → AllByRecursion ItemFits is → MayAllLeave t c comp w → StartsWell (storing packs id x v is w)
  storing_well None x v is w h k = tt
  storing_well (Some id) x None is w h k = tt
  storing_well (Some id) x (Some v) is w h k = go (packs id v)
    where
      go : (b : Bool) → StartsWell (if b then goes is (record w { variables = slice_set w.variables x v }) else halts OutOfRange)
      go true = (h, record { own = k.own; sent = k.sent })
      go false = tt

  iterating_well : (x : ℕ) (a b : Option ℤ) (step : ℤ) (args : List Plain) (body : List Stmt) (w : World) (ids : List ℕ) (n : ℕ) → AllByRecursion (FitsBelow ids n) body → MayAllLeave t c comp w → StartsWell (iterating x a b step args body w)
  iterating_well x None b step args body w ids n h k = tt
  iterating_well x (Some m) None step args body w ids n h k = tt
  iterating_well x (Some m) (Some last) step args body w ids n h k = (turns_fit x m last step args body ids n h, k)

  entering_well : (i : ℕ) (a : Activity) (vs : Option (List Plain)) (w : World) → slice_get c.activities i ≡ Some a → MayAllLeave t c comp w → StartsWell (entering packs (stmts a.body) vs w)
  entering_well i a None w e k = tt
  entering_well i a (Some args) w e k = (body_fits i a args e, k)

  calling_well : (i : ℕ) (o : Option Activity) (vs : List (Option Plain)) (w : World) → slice_get c.activities i ≡ o → MayAllLeave t c comp w → StartsWell (calling packs o vs w)
  calling_well i None vs w e k = tt
  calling_well i (Some a) vs w e k = entering_well i a (arguments_of packs (argument_types a) vs) w e k

  -- values that pack are sent at a member that carries them
  emitting_well : (face number : ℕ) (o : Op) (e : EndPlan) (q : List Outstanding) (ids : List ℕ) (us : Option (List Plain)) (w : World) → CarriesAt leaving c face number o ids → slice_get c.ends face ≡ Some e → IfSome us (AllConform t (carried o (leaving e.required) (slice_get e.instance.members number))) → MayAllLeave t c comp w → StartsWell (emitting packs (primitive w.component face number (way_of e) o) q us w)
  emitting_well face number o e q ids None w h is all k = tt
  emitting_well face number o e q ids (Some vs) w h is all k =
      let same : h.end ≡ e = let f = sym h.end_is ∙ is in cc in
      let there : slice_get e.instance.members number ≡ Some h.member = ap (λ (x : EndPlan). slice_get x.instance.members number) (sym same) ∙ h.member_is in (
        tt,
        record {
          own = k.own;
          sent = all_append (MayLeave t c comp) w.sent (primitive w.component face number (leaving e.required) o vs ∷ []) k.sent (
            (
              k.own,
              record {
                end = e;
                end_is = is;
                member = h.member;
                member_is = there;
                turned = refl;
                op = subst (λ (x : EndPlan). OpFits o (leaving x.required) h.member) same h.op;
                values = subst (λ m. AllConform t (carried o (leaving e.required) m) vs) there all;
              },
            ),
            tt,
          );
        },
      )

  sending_well : (face number : ℕ) (o : Op) (name : Option ℕ) (e : Option EndPlan) (vs : List (Option Plain)) (w : World) (ids : List ℕ) → CarriesAt leaving c face number o ids → slice_get c.ends face ≡ e → MayAllLeave t c comp w → StartsWell (sending packs o face number name e vs w)
  sending_well face number o name None vs w ids h is k = tt
  sending_well face number o name (Some e) vs w ids h is k =
      emitting_well face number o e (begun e.required face number name w.waiting) ids (arguments_of packs (carried o (way_of e) (slice_get e.instance.members number)) vs) w h is
      (arguments_pack packs t tells (carried o (way_of e) (slice_get e.instance.members number)) vs) k

  choice_fits : (b : Bool) (args : List Plain) (ids : List ℕ) (n : ℕ) (one other : List Stmt) → AllByRecursion (FitsBelow ids n) one → AllByRecursion (FitsBelow ids n) other → AllByRecursion ItemFits (items_of args (if b then one else other))
  choice_fits true args ids n one other h k = items_fit args ids n one h
  choice_fits false args ids n one other h k = items_fit args ids n other k

  starts_well : (i : Item) (w : World) → ItemFits i → MayAllLeave t c comp w → StartsWell (start packs t c i w)
  starts_well (statement args (assign x a)) w h k = storing_well (slice_get (variable_types c) x.variable) x.variable (targeted t w.variables x (value_of t args w.variables a)) [] w tt k
  starts_well (statement args (calculate x is)) w h k = storing_well (slice_get (variable_types c) x.variable) x.variable (targeted t w.variables x (calculated t args w.variables is)) [] w tt k
  starts_well (statement args (choose g a b)) w h k = (choice_fits (holds t args w.variables g) args h.0 h.1 (list_of a) (list_of b) (each_fits h.0 h.1 a h.2.1) (each_fits h.0 h.1 b h.2.2), k)
  starts_well (statement args (iterate x a b step body)) w h k =
      iterating_well x (number_of (value_of t args w.variables a)) (number_of (value_of t args w.variables b)) step args (list_of body) w h.0 h.1 (each_fits h.0 h.1 body h.2.6) k
  starts_well (statement args (call action)) w h k = calling_well action.activity (slice_get c.activities action.activity) (map (value_of t args w.variables) action.operands) w refl k
  starts_well (statement args (send_command end member operands name)) w h k = sending_well end member op.Command name (slice_get c.ends end) (map (value_of t args w.variables) operands) w h.2.0 h.2.1 refl k
  starts_well (statement args (send_parameter end member o operand name)) w h k = sending_well end member o name (slice_get c.ends end) (map (value_of t args w.variables) (option_to_list operand)) w h.2.0 h.2.1 refl k
  starts_well (turn x number last step args body) w h k =
      storing_well (slice_get (variable_types c) x) x (Some (num number)) (items_of args body ++ turns x (number +ℤ step) last step args body) w
      (all_append ItemFits (items_of args body) (turns x (number +ℤ step) last step args body) (items_fit args h.0 h.1 body h.2) (turns_fit x (number +ℤ step) last step args body h.0 h.1 h.2)) k

  after_well : (l : ℕ) (is : List Item) (v : World) (s : Started) → StartsWell s → AllByRecursion ItemFits is → MayAllLeave t c comp v
      → ((js : List Item) (u : World) → AllByRecursion ItemFits js → MayAllLeave t c comp u → MayAllLeave t c comp (exec packs t c l js u).world)
      → MayAllLeave t c comp (after packs t c s l v (λ more u. exec packs t c l (more ++ is) u)).world
  after_well l is v (goes more u) g h k on = on (more ++ is) u (all_append ItemFits more is g.0 h) g.1
  after_well l is v (halts r) g h k on = k

  pub runs_well : (l : ℕ) (is : List Item) (w : World) → AllByRecursion ItemFits is → MayAllLeave t c comp w → MayAllLeave t c comp (exec packs t c l is w).world
  unfolding exec
  runs_well zero [] w h k = k
  runs_well (suc l) [] w h k = k
  runs_well zero (i ∷ is) w h k = k
  runs_well (suc l) (i ∷ is) w h k = after_well l is w (start packs t c i w) (starts_well i w h.0 k) h.1 k (λ js u p q. runs_well l js u p q)

pub activities_send_well : ActivitiesSendWell
activities_send_well packs t c comp i a args left w tells fits is k = runs_well packs t c comp tells fits left (items_of args (stmts a.body)) w (body_fits packs t c comp tells fits i a args is) k
