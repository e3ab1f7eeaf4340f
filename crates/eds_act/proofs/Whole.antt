-- From items to the whole activity.
use Rattle.std.proofs.Common.{◌≡◌, ◌≤◌, ◌<◌, ◌-◌, ◌⊎◌, inl, inr, ℕ, zero, suc, List, [], ◌∷◌, ◌++◌, length, Bool, true, false, nat_lt, Option, Some, None, slice_get, refl, sym, ap, ◌∙◌, append_assoc, append-nil, arith}
use Rattle.std.proofs.lemmas.Bool.Decides.{nat_tests}
use Rattle.std.proofs.lemmas.Option.{slice_get_within}
use Rattle.eds_types.specs.Spelling.{SpellsWithin}
use Rattle.std.specs.Prelude.{option_to_list, if◌then◌else◌, map, slice_set, ℤ, ◌+ℤ◌, IfOk, Result, Ok, Err}
use Rattle.eds_base.specs.declared.fail.Memory.{Memory}
use Rattle.eds_types.specs.Rows.{Table}
use Rattle.eds_types.specs.Plain.{Plain, num}
use Rattle.eds_types.specs.Rules.{KeepsRules}
use Rattle.eds_types.specs.Spelling.{Canon}
use Rattle.eds_types.specs.Packing.{most_bits, PackFailsAt}
use Rattle.eds_types.specs.Packing.{PackFault}
use Rattle.eds_bits.specs.Bits.{Bits}
use Rattle.eds_types.specs.Laws.{PackingIsDecided, IsThere}
use Rattle.eds_plan.specs.declared.activity.Activity.{Activity}
use Rattle.eds_plan.specs.declared.component.ComponentPlan.{ComponentPlan}
use Rattle.eds_plan.specs.declared.run.Halt.TheVariants.{OutOfRange}
use Rattle.eds_plan.specs.declared.activity.Op.{Op}
use Rattle.eds_plan.specs.declared.activity.Op.TheVariants as op
use Rattle.eds_plan.specs.declared.component.EndPlan.{EndPlan}
use Rattle.eds_plan.specs.declared.run.Outstanding.{Outstanding}
use Rattle.eds_plan.specs.Sends.{Sent, primitive}
use Rattle.eds_plan.specs.Statements.{Stmt, assign, calculate, choose, iterate, call, send_command, send_parameter, stmts, list_of}
use Rattle.eds_act.specs.declared.ending.ActEnd.{ActEnd}
use Rattle.eds_act.specs.declared.ending.ActEnd.TheVariants.{Done, Halted}
use Rattle.eds_plan.specs.Carried.{carried}
use Rattle.eds_plan.specs.Plans.{argument_types, variable_types}
use Rattle.eds_act.specs.Does.{World, Item, statement, turn, items_of, Started, goes, halts, Ended, Tells, Conforms, exec, start, after, storing, iterating, calling, entering, budget, value_of, number_of, arguments_of, turns, emitting, sending, way_of, begun, calculated, targeted}
use Rattle.eds_act.specs.Running.{Leads, Runs}

-- ---- a test that tells what packs

decided : (t : Table) (id : ℕ) (v : Plain) → (((b : Bits) × Canon t id v b × (length b ≤ most_bits)) ⊎ ((g : PackFault) × PackFailsAt t id v g)) → Bool
decided t id v (inl h) = true
decided t id v (inr h) = false

decided_only : (t : Table) (id : ℕ) (v : Plain) (d : ((b : Bits) × Canon t id v b × (length b ≤ most_bits)) ⊎ ((g : PackFault) × PackFailsAt t id v g)) → decided t id v d ≡ true → Conforms t id v
unfolding decided
decided_only t id v (inl h) e = (length h.0, (h.0, h.1, refl, h.2))
decided_only t id v (inr h) e = absurd cc

decided_all : (t : Table) (id : ℕ) (v : Plain) (d : ((b : Bits) × Canon t id v b × (length b ≤ most_bits)) ⊎ ((g : PackFault) × PackFailsAt t id v g)) → (((g : PackFault) → PackFailsAt t id v g → ⊥)) → decided t id v d ≡ true
unfolding decided
decided_all t id v (inl h) ne = refl
decided_all t id v (inr h) ne = absurd (ne h.0 h.1)

module _ (t : Table) (law : PackingIsDecided) (rules : KeepsRules t) where
  there : (id : ℕ) → nat_lt id (length t) ≡ true → IsThere t id
  there id e = record { rules = rules; there = grind (arith, nat_tests) }

  tried : (id : ℕ) (v : Plain) (b : Bool) → nat_lt id (length t) ≡ b → Bool
  tried id v false e = false
  tried id v true e = decided t id v ((law t id (there id e) v).either)

  tried_only : (id : ℕ) (v : Plain) (b : Bool) (e : nat_lt id (length t) ≡ b) → tried id v b e ≡ true → Conforms t id v
  unfolding tried
  tried_only id v false e h = absurd cc
  tried_only id v true e h = decided_only t id v ((law t id (there id e) v).either) h

  is_there : (id : ℕ) (v : Plain) → Conforms t id v → id < length t
  unfolding SpellsWithin
  is_there id v h = slice_get_within t id ((h.1).1).0 (((h.1).1).1)

  tried_all : (id : ℕ) (v : Plain) (b : Bool) (e : nat_lt id (length t) ≡ b) → Conforms t id v → tried id v b e ≡ true
  unfolding tried
  tried_all id v false e h = let lt : id < length t = is_there id v h in absurd (grind (arith, nat_tests))
  tried_all id v true e h =
      let bits = h.1 in
      let short : length bits.0 ≤ most_bits = omega (arith, bits.2, bits.3) in
      decided_all t id v ((law t id (there id e) v).either) (λ g f. (law t id (there id e) v).not_both bits.0 g bits.1 short f)

  -- a test that tells which values pack
  test : ℕ → Plain → Bool
  test id v = tried id v (nat_lt id (length t)) refl

  test_tells : Tells t test
  unfolding test
  test_tells = record { packs_only = λ id v h. tried_only id v (nat_lt id (length t)) refl h; packs_all = λ id v h. tried_all id v (nat_lt id (length t)) refl h }

-- ---- what was sent before

abbrev pub sent_before : List Sent → World → World
sent_before pre w = record w { sent = pre ++ w.sent }

abbrev pub started_before : List Sent → Started → Started
started_before pre (goes next w) = goes next (sent_before pre w)
started_before pre (halts h) = halts h

abbrev pub ended_before : List Sent → Ended → Ended
ended_before pre r = record { end = r.end; left = r.left; world = sent_before pre r.world }

module _ (packs : ℕ → Plain → Bool) (t : Table) (pre : List Sent) where
  storing_before : (id : Option ℕ) (x : ℕ) (v : Option Plain) (next : List Item) (w : World) → storing packs id x v next (sent_before pre w) ≡ started_before pre (storing packs id x v next w)
  storing_before None x v next w = refl
  storing_before (Some id) x None next w = refl
  storing_before (Some id) x (Some v) next w = go (packs id v)
    where
      go : (b : Bool) → (if b then goes next (record (sent_before pre w) { variables = slice_set w.variables x v }) else halts OutOfRange) ≡ started_before pre (if b then goes next (record w { variables = slice_set w.variables x v }) else halts OutOfRange)
      go true = refl
      go false = refl

  iterating_before : (x : ℕ) (a b : Option ℤ) (step : ℤ) (args : List Plain) (body : List Stmt) (w : World) → iterating x a b step args body (sent_before pre w) ≡ started_before pre (iterating x a b step args body w)
  iterating_before x None b step args body w = refl
  iterating_before x (Some m) None step args body w = refl
  iterating_before x (Some m) (Some n) step args body w = refl

  entering_before : (body : List Stmt) (vs : Option (List Plain)) (w : World) → entering packs body vs (sent_before pre w) ≡ started_before pre (entering packs body vs w)
  entering_before body None w = refl
  entering_before body (Some vs) w = refl

  calling_before : (a : Option Activity) (vs : List (Option Plain)) (w : World) → calling packs a vs (sent_before pre w) ≡ started_before pre (calling packs a vs w)
  calling_before None vs w = refl
  calling_before (Some a) vs w = entering_before (stmts a.body) (arguments_of packs (argument_types a) vs) w

  emitting_before : (p : List Plain → Sent) (q : List Outstanding) (vs : Option (List Plain)) (w : World) → emitting packs p q vs (sent_before pre w) ≡ started_before pre (emitting packs p q vs w)
  emitting_before p q None w = refl
  emitting_before p q (Some vs) w = ap (λ s. goes [] (record w { waiting = q; sent = s })) (append_assoc pre w.sent (p vs ∷ []))

  sending_before : (o : Op) (end member : ℕ) (name : Option ℕ) (e : Option EndPlan) (vs : List (Option Plain)) (w : World) → sending packs o end member name e vs (sent_before pre w) ≡ started_before pre (sending packs o end member name e vs w)
  sending_before o end member name None vs w = refl
  sending_before o end member name (Some e) vs w = emitting_before (primitive w.component end member (way_of e) o) (begun e.required end member name w.waiting) (arguments_of packs (carried o (way_of e) (slice_get e.instance.members member)) vs) w

  module _ (c : ComponentPlan) where
    start_before : (i : Item) (w : World) → start packs t c i (sent_before pre w) ≡ started_before pre (start packs t c i w)
    start_before (statement args (assign x a)) w = storing_before (slice_get (variable_types c) x.variable) x.variable (targeted t w.variables x (value_of t args w.variables a)) [] w
    start_before (statement args (calculate x is)) w = storing_before (slice_get (variable_types c) x.variable) x.variable (targeted t w.variables x (calculated t args w.variables is)) [] w
    start_before (statement args (choose g a b)) w = refl
    start_before (statement args (iterate x a b step body)) w = iterating_before x (number_of (value_of t args w.variables a)) (number_of (value_of t args w.variables b)) step args (list_of body) w
    start_before (statement args (call action)) w = calling_before (slice_get c.activities action.activity) (map (value_of t args w.variables) action.operands) w
    start_before (statement args (send_command end member operands name)) w = sending_before op.Command end member name (slice_get c.ends end) (map (value_of t args w.variables) operands) w
    start_before (statement args (send_parameter end member o operand name)) w = sending_before o end member name (slice_get c.ends end) (map (value_of t args w.variables) (option_to_list operand)) w
    start_before (turn x number last step args body) w = storing_before (slice_get (variable_types c) x) x (Some (num number)) (items_of args body ++ turns x (number +ℤ step) last step args body) w

    after_before : (s : Started) (l : ℕ) (w : World) (go : List Item → World → Ended) (same : (is : List Item) (v : World) → go is (sent_before pre v) ≡ ended_before pre (go is v)) → after packs t c (started_before pre s) l (sent_before pre w) go ≡ ended_before pre (after packs t c s l w go)
    after_before (goes is v) l w go same = same is v
    after_before (halts h) l w go same = refl

    pub exec_before : (l : ℕ) (is : List Item) (w : World) → exec packs t c l is (sent_before pre w) ≡ ended_before pre (exec packs t c l is w)
    unfolding exec
    exec_before zero [] w = refl
    exec_before (suc l) [] w = refl
    exec_before zero (i ∷ is) w = refl
    exec_before (suc l) (i ∷ is) w =
        ap (λ s. after packs t c s l (sent_before pre w) (λ next v. exec packs t c l (next ++ is) v)) (start_before i w)
        ∙ after_before (start packs t c i w) l w (λ next v. exec packs t c l (next ++ is) v) (λ next v. exec_before l (next ++ is) v)

    exec_none : (l : ℕ) (w : World) → exec packs t c l [] w ≡ record { end = Done; left = l; world = w }
    unfolding exec
    exec_none zero w = refl
    exec_none (suc l) w = refl

-- ---- the whole

module _ (t : Table) (number : ℕ) (c : ComponentPlan) (a : Activity) (args : List Plain) where
  pub ended : (packs : ℕ → Plain → Bool) → Tells t packs → (end : ActEnd) (is : List Item) (l m : ℕ) (w v : World) → Leads t c end is [] l w m v → exec packs t c l is w ≡ record { end = end; left = m; world = v }
  unfolding Leads
  ended packs tells Done is l m w v h = ap (λ js. exec packs t c l js w) (sym (append-nil is)) ∙ h packs tells [] ∙ exec_none packs t [] c m v
  ended packs tells (Halted r) is l m w v h = ap (λ js. exec packs t c l js w) (sym (append-nil is)) ∙ h packs tells []

  pub whole : (end : ActEnd) (vars vars' : List Plain) (waiting waiting' : List Outstanding) (pre new : List Sent) (l m : ℕ) → PackingIsDecided → KeepsRules t → l ≤ budget → m ≤ l → Leads t c end (items_of args (stmts a.body)) [] l (record { component = number; variables = vars; waiting = waiting; sent = pre }) m (record { component = number; variables = vars'; waiting = waiting'; sent = new }) → Runs t number c a args vars waiting pre l vars' waiting' new m end
  whole end vars vars' waiting waiting' pre new l m law rules le le' h =
      let packs : ℕ → Plain → Bool = test t law rules in
      let tells : Tells t packs = test_tells t law rules in
      let r : Ended = exec packs t c l (items_of args (stmts a.body)) (record { component = number; variables = vars; waiting = waiting; sent = [] }) in
      let before : ended_before pre r ≡ record { end = end; left = m; world = record { component = number; variables = vars'; waiting = waiting'; sent = new } } =
      sym (exec_before packs t pre c l (items_of args (stmts a.body)) (record { component = number; variables = vars; waiting = waiting; sent = [] }))
      ∙ ap (λ s. exec packs t c l (items_of args (stmts a.body)) (record { component = number; variables = vars; waiting = waiting; sent = s })) (append-nil pre)
      ∙ ended packs tells end (items_of args (stmts a.body)) l m (record { component = number; variables = vars; waiting = waiting; sent = pre }) (record { component = number; variables = vars'; waiting = waiting'; sent = new }) h in
      let k : budget - (budget - l) ≡ l = omega arith in
      let k' : budget - (budget - m) ≡ m = omega arith in
      record {
        out = r.world.sent;
        appended = sym (ap (λ (x : Ended). x.world.sent) before);
        does = record {
          packs = packs;
          tells = tells;
          runs =
              ap (λ n. exec packs t c n (items_of args (stmts a.body)) (record { component = number; variables = vars; waiting = waiting; sent = [] })) k
              ∙ ap (λ e. record { end = e; left = r.left; world = r.world }) (ap (λ (x : Ended). x.end) before)
              ∙ ap (λ n. record { end = end; left = n; world = r.world }) (ap (λ (x : Ended). x.left) before ∙ sym k')
              ∙ ap (λ vs. record { end = end; left = budget - (budget - m); world = record { component = r.world.component; variables = vs; waiting = r.world.waiting; sent = r.world.sent } }) (ap (λ (x : Ended). x.world.variables) before)
              ∙ ap (λ q. record { end = end; left = budget - (budget - m); world = record { component = r.world.component; variables = vars'; waiting = q; sent = r.world.sent } }) (ap (λ (x : Ended). x.world.waiting) before)
              ∙ ap (λ k. record { end = end; left = budget - (budget - m); world = record { component = k; variables = vars'; waiting = waiting'; sent = r.world.sent } }) (ap (λ (x : Ended). x.world.component) before);
        };
      }

  pub whole_if_ok : (res : Result ActEnd Memory) (vars vars' : List Plain) (waiting waiting' : List Outstanding) (pre new : List Sent) (l m : ℕ) → PackingIsDecided → KeepsRules t → l ≤ budget → m ≤ l → IfOk res (λ e. Leads t c e (items_of args (stmts a.body)) [] l (record { component = number; variables = vars; waiting = waiting; sent = pre }) m (record { component = number; variables = vars'; waiting = waiting'; sent = new })) → IfOk res (λ e. Runs t number c a args vars waiting pre l vars' waiting' new m e)
  whole_if_ok (Ok e) vars vars' waiting waiting' pre new l m law rules le le' h = whole e vars vars' waiting waiting' pre new l m law rules le le' h
  whole_if_ok (Err e) vars vars' waiting waiting' pre new l m law rules le le' h = tt
