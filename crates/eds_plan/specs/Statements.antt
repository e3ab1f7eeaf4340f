-- Conditions and statements as plain data.
use Rattle.std.specs.Prelude.{ℕ, ℤ, List, [], ◌∷◌, map, Option}
use Rattle.eds_plan.specs.declared.activity.Operand.{Operand}
use Rattle.eds_plan.specs.declared.activity.Target.{Target}
use Rattle.eds_plan.specs.declared.activity.Action.{Action}
use Rattle.eds_plan.specs.declared.activity.MathItem.{MathItem}
use Rattle.eds_plan.specs.declared.activity.Op.{Op}
use Rattle.eds_plan.specs.declared.activity.Relation.{Relation}
use Rattle.eds_plan.specs.declared.activity.Guard.{Guard, fold-Guard}
use Rattle.eds_plan.specs.declared.activity.Guard.TheOpen.{Guard-F}
use Rattle.eds_plan.specs.declared.activity.Statement.{Statement, fold-Statement}
use Rattle.eds_plan.specs.declared.activity.Statement.TheOpen.{Statement-F}

-- ---- conditions

mutual
  -- a condition as plain data
  pub data Condition : Type 0 where
    compare : Relation → Operand → Operand → Condition
    every : Conditions → Condition
    some : Conditions → Condition

  -- a list of conditions
  pub data Conditions : Type 0 where
    none : Conditions
    more : Condition → Conditions → Conditions

-- the list of some conditions
abbrev pub conditions_of : List Condition → Conditions
conditions_of [] = none
conditions_of (c ∷ cs) = more c (conditions_of cs)

-- one level of a condition as plain data
abbrev pub guard_step : Guard-F Condition → Condition
guard_step (Guard-F.Compare r a b) = compare r a b
guard_step (Guard-F.All cs) = every (conditions_of cs.items)
guard_step (Guard-F.Any cs) = some (conditions_of cs.items)

-- the plain data of a condition
abbrev pub condition : Guard → Condition
condition = fold-Guard Condition guard_step

-- ---- statements

mutual
  -- a statement as plain data
  pub data Stmt : Type 0 where
    assign : Target → Operand → Stmt
    calculate : Target → List MathItem → Stmt
    choose : Condition → Stmts → Stmts → Stmt
    iterate : (variable : ℕ) (first last : Operand) (step : ℤ) → Stmts → Stmt
    call : Action → Stmt
    send_command : (end member : ℕ) → List Operand → Option ℕ → Stmt
    send_parameter : (end member : ℕ) → Op → Option Operand → Option ℕ → Stmt

  -- a list of statements
  pub data Stmts : Type 0 where
    done : Stmts
    next : Stmt → Stmts → Stmts

-- the statements in it
abbrev pub list_of : Stmts → List Stmt
list_of done = []
list_of (next s ss) = s ∷ list_of ss

-- the list of some statements
abbrev pub stmts_of : List Stmt → Stmts
stmts_of [] = done
stmts_of (s ∷ ss) = next s (stmts_of ss)

-- one level of a statement as plain data
abbrev pub stmt_step : Statement-F Stmt → Stmt
stmt_step (Statement-F.Assign x a) = assign x a
stmt_step (Statement-F.Math x items) = calculate x items
stmt_step (Statement-F.If g a b) = choose (condition g) (stmts_of a.items) (stmts_of b.items)
stmt_step (Statement-F.Iterate x a b step body) = iterate x a b step (stmts_of body.items)
stmt_step (Statement-F.Call action) = call action
stmt_step (Statement-F.SendCommand end member operands name) = send_command end member operands name
stmt_step (Statement-F.SendParameter end member op operand name) = send_parameter end member op operand name

-- the plain data of a statement
abbrev pub stmt : Statement → Stmt
stmt = fold-Statement Stmt stmt_step

-- the plain data of a body
abbrev pub stmts : List Statement → List Stmt
stmts ss = map stmt ss
