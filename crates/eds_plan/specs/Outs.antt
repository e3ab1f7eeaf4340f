-- What goes over ends, and what a run reports, as plain data.
use Rattle.std.specs.Prelude.{ℕ, List, map}
use Rattle.eds_base.specs.declared.fault.Fault.{Fault}
use Rattle.eds_types.specs.Plain.{Plain, plain}
use Rattle.eds_plan.specs.declared.activity.Op.{Op}
use Rattle.eds_plan.specs.declared.run.End.{End}
use Rattle.eds_plan.specs.declared.run.Halt.{Halt}
use Rattle.eds_plan.specs.declared.run.Out.{Out}
use Rattle.eds_plan.specs.declared.run.Out.TheVariants.{Sent, Halted, Reject}
use Rattle.eds_plan.specs.declared.run.Primitive.{Primitive}
use Rattle.eds_plan.specs.declared.run.Way.{Way}

-- a primitive as plain data
pub record Signal : Type 0 where
  pub end : End
  pub member : ℕ
  pub way : Way
  pub op : Op
  pub arguments : List Plain

-- the plain data of a primitive
abbrev pub signal : Primitive → Signal
signal p = record { end = p.end; member = p.member; way = p.way; op = p.op; arguments = map plain p.arguments }

-- what leaves a run, with its time: a primitive at an end, the component and machine whose activity halted, or a frame for
-- a member of an end with what is wrong with it
pub data Report : Type 0 where
  left : ℕ → Signal → Report
  stopped : ℕ → (component machine : ℕ) → Halt → Report
  refused : ℕ → End → (member : ℕ) → Fault → Report

-- the plain data of what leaves a run
abbrev pub report : Out → Report
report (Sent t p) = left t (signal p)
report (Halted t comp machine h) = stopped t comp.0 machine h
report (Reject t e member fault) = refused t e member fault
