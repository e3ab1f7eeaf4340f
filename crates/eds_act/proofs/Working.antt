-- What is still to be started, put onto lists and taken from them.
use Rattle.std.proofs.Common.{◌≡◌, ◌≢◌, ◌+◌, ◌-◌, ◌*◌, ◌<◌, ℕ, suc, List, [], ◌∷◌, ◌++◌, length, reverse, Option, Bool, refl, sym, ap, subst, ◌∙◌, append_assoc, arith}
use Rattle.std.proofs.lemmas.List.{reverse-append, length-append}
use Rattle.std.proofs.lemmas.List.Concat.{flat_map-cons}
use Rattle.std.specs.List.{flat_map}
use Rattle.std.specs.Prelude.{IfOk, OnOk, Result, Ok, Err, ◌≤◌}
use Rattle.eds_base.specs.declared.fail.Memory.{Memory}
use Rattle.eds_types.specs.Rows.{Table}
use Rattle.eds_types.specs.Plain.{Plain}
use Rattle.eds_plan.specs.declared.activity.Statement.{Statement}
use Rattle.eds_plan.specs.declared.activity.Statement.TheVariants.{rolls-Assign, rolls-Math, rolls-Call, rolls-SendCommand, rolls-SendParameter}
use Rattle.eds_plan.specs.declared.activity.Statement.TheVariants as activity
use Rattle.eds_plan.specs.declared.activity.Statement.TheOpen.{Statement-F}
use Rattle.eds_plan.specs.declared.activity.Statement.TheFolds.{fold-roll-Statement}
use Rattle.eds_plan.specs.declared.activity.Target.{Target}
use Rattle.eds_plan.specs.declared.activity.Operand.{Operand}
use Rattle.eds_plan.specs.declared.activity.MathItem.{MathItem}
use Rattle.eds_plan.specs.declared.activity.Op.{Op}
use Rattle.eds_plan.specs.declared.activity.Action.{Action}
use Rattle.eds_plan.specs.Statements.{Stmt, stmt_step, assign, calculate, call, send_command, send_parameter}
use Rattle.eds_plan.specs.declared.component.ComponentPlan.{ComponentPlan}
use Rattle.eds_plan.specs.Statements.{stmt, stmts}
use Rattle.eds_act.specs.declared.ending.ActEnd.{ActEnd}
use Rattle.eds_act.specs.declared.ending.ActEnd.TheVariants.{Done, Halted}
use Rattle.eds_act.specs.declared.event.Event.{Event}
use Rattle.eds_act.specs.declared.work.Task.{Task}
use Rattle.eds_act.specs.declared.work.Frame.{Frame}
use Rattle.eds_act.specs.declared.work.Step.{Step}
use Rattle.eds_act.specs.declared.work.Step.TheVariants as step
use Rattle.eds_act.specs.declared.work.Ran.{Ran}
use Rattle.eds_act.specs.declared.work.Ran.TheVariants as ran
use Rattle.eds_act.specs.Does.{World, Item, items_of, Tells, start, goes}
use Rattle.eds_act.specs.Running.{Leads, LeadsTo, world, stored, OnHalted}
use Rattle.eds_plan.specs.declared.run.Halt.{Halt}
use Rattle.eds_act.specs.Work.{task_items, tasks_items, frame_items, frames_items, end_of, called_items, ran_end, ran_items, StepsTo, ComesTo, Lessens, CountsOn}
use Rattle.eds_act.proofs.Leading.{leads_same, leads_on, leads_before, leads_goes, leads_stored, leads_nowhere}

-- one more, which is the next
last_first : {A B : Type 0} (f : A → List B) (xs : List A) (x : A) → flat_map f (reverse (xs ++ x ∷ [])) ≡ f x ++ flat_map f (reverse xs)
last_first f xs x = ap (flat_map f) (reverse-append xs (x ∷ [])) ∙ flat_map-cons f x (reverse xs)

pub put_task : (args : List Plain) (ts us : List Task) (x : Task) → us ≡ ts ++ x ∷ [] → tasks_items args us ≡ task_items args x ++ tasks_items args ts
put_task args ts us x e = ap (tasks_items args) e ∙ last_first (task_items args) ts x

pub put_frame : (fs gs : List Frame) (f : Frame) → gs ≡ fs ++ f ∷ [] → frames_items gs ≡ frame_items f ++ frames_items fs
put_frame fs gs f e = ap frames_items e ∙ last_first frame_items fs f

pub one_longer : (fs gs : List Frame) (f : Frame) → gs ≡ fs ++ f ∷ [] → length gs ≡ length fs + 1
one_longer fs gs f e = ap length e ∙ length-append fs (f ∷ [])

-- the plain data of statements that leave no tasks
pub stmt_assign : (x : Target) (a : Operand) → stmt (activity.Assign x a) ≡ assign x a
stmt_assign x a = ap stmt (sym (rolls-Assign x a)) ∙ fold-roll-Statement Stmt stmt_step (Statement-F.Assign x a)

pub stmt_math : (x : Target) (is : List MathItem) → stmt (activity.Math x is) ≡ calculate x is
stmt_math x is = ap stmt (sym (rolls-Math x is)) ∙ fold-roll-Statement Stmt stmt_step (Statement-F.Math x is)

pub stmt_call : (a : Action) → stmt (activity.Call a) ≡ call a
stmt_call a = ap stmt (sym (rolls-Call a)) ∙ fold-roll-Statement Stmt stmt_step (Statement-F.Call a)

pub stmt_send_command : (e m : ℕ) (os : List Operand) (n : Option ℕ) → stmt (activity.SendCommand e m os n) ≡ send_command e m os n
stmt_send_command e m os n = ap stmt (sym (rolls-SendCommand e m os n)) ∙ fold-roll-Statement Stmt stmt_step (Statement-F.SendCommand e m os n)

pub stmt_send_parameter : (e m : ℕ) (o : Op) (a : Option Operand) (n : Option ℕ) → stmt (activity.SendParameter e m o a n) ≡ send_parameter e m o a n
stmt_send_parameter e m o a n = ap stmt (sym (rolls-SendParameter e m o a n)) ∙ fold-roll-Statement Stmt stmt_step (Statement-F.SendParameter e m o a n)

pub no_items : (args : List Plain) (body : List Statement) → length body ≡ 0 → items_of args (stmts body) ≡ []
no_items args [] e = refl
no_items args (s ∷ ss) e = absurd (omega arith)

module _ (t : Table) (c : ComponentPlan) where
  -- an item that leaves items, before others
  pub goes_before : (i : Item) (is ts us : List Item) (l : ℕ) (w v : World) → ((packs : ℕ → Plain → Bool) → Tells t packs → start packs t c i w ≡ goes is v) → us ≡ is ++ ts → Leads t c Done (i ∷ ts) us (suc l) w l v
  goes_before i is ts us l w v s e = let P : List Item → Type 0 = λ k. Leads t c Done (i ∷ ts) k (suc l) w l v in subst P (sym e) (leads_before t c Done (i ∷ []) is ts (suc l) l w v (leads_goes t c Done i is is l l w v v s (leads_same t c is l v)))

  -- an item that stores a value, before others
  pub stores_before : (end : ActEnd) (i : Item) (is ts us : List Item) (l m : ℕ) (w v : World) → ((packs : ℕ → Plain → Bool) → Tells t packs → start packs t c i w ≡ stored end is v) → OnHalted end (v ≡ w) → m ≡ l → us ≡ is ++ ts → Leads t c end (i ∷ ts) us (suc l) w m v
  stores_before end i is ts us l m w v s same eq e = let P : List Item → Type 0 = λ k. Leads t c end (i ∷ ts) k (suc l) w m v in subst P (sym e) (leads_before t c end (i ∷ []) is ts (suc l) m w v (leads_stored t c end i is l m w v s same eq))

  -- a halt, before others
  pub halts_before : (h : Halt) (i : Item) (ts us : List Item) (l m : ℕ) (w v : World) → Leads t c (Halted h) (i ∷ []) [] l w m v → Leads t c (Halted h) (i ∷ ts) us l w m v
  halts_before h i ts us l m w v one = leads_nowhere t c h (i ∷ ts) ts us l m w v (leads_before t c (Halted h) (i ∷ []) [] ts l m w v one)

  -- an item that leaves no tasks
  pub steps_simply : (s : Step) (args : List Plain) (i : Item) (ts : List Task) (l : ℕ) (e f : Event) (end : ActEnd) → end_of s ≡ end → called_items s ≡ [] → Leads t c end (i ∷ []) [] l (world e) f.left (world f) → StepsTo t c s args i ts ts l e f
  steps_simply s args i ts l e f end is none h =
      let P : ActEnd → List Item → Type 0 = λ x k. Leads t c x (i ∷ tasks_items args ts) (k ++ tasks_items args ts) l (world e) f.left (world f) in
      subst (λ x. P x (called_items s)) (sym is) (subst (λ k. P end k) (sym none) (leads_before t c end (i ∷ []) [] (tasks_items args ts) l f.left (world e) (world f) h))

  -- an item that comes to a call, before the tasks
  pub steps_if_ok : (r : Result Step Memory) (i : Item) (ts : List Item) (l m : ℕ) (w v : World) → IfOk r (λ s. Leads t c (end_of s) (i ∷ []) (called_items s) l w m v) → IfOk r (λ s. Leads t c (end_of s) (i ∷ ts) (called_items s ++ ts) l w m v)
  steps_if_ok (Ok s) i ts l m w v h = leads_before t c (end_of s) (i ∷ []) (called_items s) ts l m w v h
  steps_if_ok (Err e) i ts l m w v h = tt

  -- items of a frame, before other frames
  pub ran_before : (s : Step) (args : List Plain) (first : List Item) (ts us : List Task) (all behind is : List Item) (e f : Event) → all ≡ first ++ tasks_items args ts → is ≡ called_items s ++ tasks_items args us → ComesTo t c s args first ts us e f → Leads t c (end_of s) (all ++ behind) (is ++ behind) e.left (world e) f.left (world f)
  ran_before s args first ts us all behind is e f from to h =
      let P : List Item → List Item → Type 0 = λ x y. Leads t c (end_of s) (x ++ behind) (y ++ behind) e.left (world e) f.left (world f) in
      subst (λ x. P x is) (sym from) (subst (λ y. P (first ++ tasks_items args ts) y) (sym to) (leads_before t c (end_of s) (first ++ tasks_items args ts) (called_items s ++ tasks_items args us) behind e.left f.left (world e) (world f) h))

  -- the same, where so much was run before
  pub ran_on : (s : Step) (args : List Plain) (first : List Item) (ts us : List Task) (whole here behind is : List Item) (d e f : Event) → Leads t c Done whole (here ++ behind) d.left (world d) e.left (world e) → here ≡ first ++ tasks_items args ts → is ≡ called_items s ++ tasks_items args us → ComesTo t c s args first ts us e f → Leads t c (end_of s) whole (is ++ behind) d.left (world d) f.left (world f)
  ran_on s args first ts us whole here behind is d e f before from to h =
      leads_on t c (end_of s) whole (here ++ behind) (is ++ behind) d.left e.left f.left (world d) (world e) (world f) before (ran_before s args first ts us here behind is e f from to h)

  -- items come to others, and these to what a step leaves
  comes_on : (s : Step) (args : List Plain) (is js : List Item) (ts us : List Task) (d e f : Event) → LeadsTo t c Done is js d e → ComesTo t c s args js ts us e f → ComesTo t c s args is ts us d f
  comes_on s args is js ts us d e f one two =
      leads_on t c (end_of s) (is ++ tasks_items args ts) (js ++ tasks_items args ts) (called_items s ++ tasks_items args us) d.left e.left f.left (world d) (world e) (world f)
      (leads_before t c Done is js (tasks_items args ts) d.left e.left (world d) (world e) one) two

  pub comes_on_if_ok : (r : Result Step Memory) (args : List Plain) (is js : List Item) (ts us : List Task) (d e f : Event) → LeadsTo t c Done is js d e → IfOk r (λ s. ComesTo t c s args js ts us e f) → IfOk r (λ s. ComesTo t c s args is ts us d f)
  comes_on_if_ok (Ok s) args is js ts us d e f one two = comes_on s args is js ts us d e f one two
  comes_on_if_ok (Err m) args is js ts us d e f one two = tt

  -- items that halt, before tasks
  pub comes_to_halt : (h : Halt) (args : List Plain) (is : List Item) (ts : List Task) (d e : Event) → LeadsTo t c (Halted h) is [] d e → ComesTo t c (step.Halts h) args is ts ts d e
  comes_to_halt h args is ts d e one = leads_before t c (Halted h) is [] (tasks_items args ts) d.left e.left (world d) (world e) one

  -- items that are done, before tasks
  pub comes_to_end : (args : List Plain) (is js : List Item) (ts us : List Task) (d e : Event) → LeadsTo t c Done is js d e → js ≡ [] → us ≡ ts → ComesTo t c step.Goes args is ts us d e
  comes_to_end args is js ts us d e one none same =
      let P : List Item → List Task → Type 0 = λ x y. Leads t c Done (is ++ tasks_items args ts) (x ++ tasks_items args y) d.left (world d) e.left (world e) in
      subst (λ x. P x us) none (subst (λ y. P js y) (sym same) (leads_before t c Done is js (tasks_items args ts) d.left e.left (world d) (world e) one))

  -- items that leave some, and others behind these, which are put before the tasks
  pub comes_behind : (r : Result Step Memory) (args : List Plain) (is rest nexts : List Item) (ts mid us : List Task) (d e f : Event) → LeadsTo t c Done is (rest ++ nexts) d e → tasks_items args mid ≡ nexts ++ tasks_items args ts → IfOk r (λ s. ComesTo t c s args rest mid us e f) → IfOk r (λ s. ComesTo t c s args is ts us d f)
  comes_behind (Err m) args is rest nexts ts mid us d e f one put two = tt
  comes_behind (Ok s) args is rest nexts ts mid us d e f one put two =
      leads_on t c (end_of s) (is ++ tasks_items args ts) ((rest ++ nexts) ++ tasks_items args ts) (called_items s ++ tasks_items args us) d.left e.left f.left (world d) (world e) (world f)
      (leads_before t c Done is (rest ++ nexts) (tasks_items args ts) d.left e.left (world d) (world e) one)
      (subst (λ x. Leads t c (end_of s) x (called_items s ++ tasks_items args us) e.left (world e) f.left (world f)) (ap (λ x. rest ++ x) put ∙ sym (append_assoc rest nexts (tasks_items args ts))) two)

  -- the first of statements is counted and started, and the rest put before the tasks
  pub comes_first : (r : Result Step Memory) (args : List Plain) (is : List Item) (i : Item) (rest : List Item) (ts mid us : List Task) (d e f : Event) → is ≡ i ∷ rest → tasks_items args mid ≡ rest ++ tasks_items args ts → d.left ≢ 0 → e.left ≡ d.left - 1 → world e ≡ world d → IfOk r (λ s. StepsTo t c s args i mid us (suc e.left) e f) → IfOk r (λ s. ComesTo t c s args is ts us d f)
  comes_first (Err m) args is i rest ts mid us d e f from put some one same h = tt
  comes_first (Ok s) args is i rest ts mid us d e f from put some one same h =
      let P : List Item → ℕ → World → Type 0 = λ x l w. Leads t c (end_of s) x (called_items s ++ tasks_items args us) l w f.left (world f) in
      let count : suc e.left ≡ d.left = omega (arith, some, one) in
      subst (λ x. P x d.left (world d)) (ap (λ x. i ∷ x) put ∙ ap (λ x. x ++ tasks_items args ts) (sym from))
      (subst (λ l. P (i ∷ tasks_items args mid) l (world d)) count (subst (λ w. P (i ∷ tasks_items args mid) (suc e.left) w) same h))

  -- a turn, and then the stores of its statements
  turn_goes_on : (r : Ran) (args : List Plain) (is body nexts : List Item) (d e f : Event) → LeadsTo t c Done is (body ++ nexts) d e → LeadsTo t c (ran_end r) body (ran_items args r) e f → LeadsTo t c (ran_end r) is (ran_items args r ++ nexts) d f
  turn_goes_on r args is body nexts d e f one two =
      leads_on t c (ran_end r) is (body ++ nexts) (ran_items args r ++ nexts) d.left e.left f.left (world d) (world e) (world f) one
      (leads_before t c (ran_end r) body (ran_items args r) nexts e.left f.left (world e) (world f) two)

  pub turn_if_ok : (r : Result Ran Memory) (args : List Plain) (is body nexts : List Item) (d e f : Event) → LeadsTo t c Done is (body ++ nexts) d e → IfOk r (λ x. LeadsTo t c (ran_end x) body (ran_items args x) e f) → IfOk r (λ x. LeadsTo t c (ran_end x) is (ran_items args x ++ nexts) d f)
  turn_if_ok (Ok x) args is body nexts d e f one two = turn_goes_on x args is body nexts d e f one two
  turn_if_ok (Err m) args is body nexts d e f one two = tt

-- ---- counts

-- fewer may start than before the turn
pub counts_if_ok : (r : Result Ran Memory) (before mid now : ℕ) → mid < before → now ≤ mid → IfOk r (λ x. CountsOn x before now)
counts_if_ok (Err m) before mid now one two = tt
counts_if_ok (Ok (ran.Until rest)) before mid now one two = omega (arith, one, two)
counts_if_ok (Ok (ran.Halted h)) before mid now one two = tt

-- a statement or turn was counted, and left two tasks at most
pub lessens_started : (r : Result Step Memory) (before tasks now left : ℕ) → now < before → OnOk r (left ≤ tasks + 2) → IfOk r (λ s. Lessens s before tasks now left)
lessens_started (Err m) before tasks now left one two = tt
lessens_started (Ok step.Goes) before tasks now left one two = omega (arith, one, two)
lessens_started (Ok (step.Calls f)) before tasks now left one two = one
lessens_started (Ok (step.Halts h)) before tasks now left one two = tt

-- and before that no fewer tasks may start, or one fewer, where a task was put onto the others
pub lessens_on : (r : Result Step Memory) (before more mid tasks now left : ℕ) → 2 * mid + tasks ≤ 2 * before + more → mid ≤ before → IfOk r (λ s. Lessens s mid tasks now left) → IfOk r (λ s. Lessens s before more now left)
lessens_on (Err m) before more mid tasks now left one two h = tt
lessens_on (Ok step.Goes) before more mid tasks now left one two h = omega (arith, one, h)
lessens_on (Ok (step.Calls f)) before more mid tasks now left one two h = omega (arith, two, h)
lessens_on (Ok (step.Halts x)) before more mid tasks now left one two h = tt
