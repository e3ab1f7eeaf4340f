-- What a line of a script has happen, as plain data.
use Rattle.std.specs.Prelude.{ℕ, List, map}
use Rattle.eds_types.specs.Plain.{Plain, plain}
use Rattle.eds_plan.specs.declared.activity.Op.{Op}
use Rattle.eds_plan.specs.declared.run.Way.{Way}
use Rattle.eds_plan.specs.declared.run.Line.{Line}
use Rattle.eds_plan.specs.declared.run.Line.TheVariants.{Start, Tick, Prim, Frame}

-- the start of every component, so many nanoseconds that pass, a primitive that arrives at an end of a component, or the
-- octets of a command's one argument that arrive there
pub data Told : Type 0 where
  starts : Told
  passes : ℕ → Told
  arrives : (component end member : ℕ) → Way → Op → List Plain → Told
  framed : (component end member : ℕ) → List ℕ → Told

-- the plain data of what a line has happen
abbrev pub told : Line → Told
told Start = starts
told (Tick n) = passes n
told (Prim p) = arrives p.end.comp.0 p.end.face p.member p.way p.op (map plain p.arguments)
told (Frame e member octets) = framed e.comp.0 e.face member octets
