-- The order of the lines of a snapshot: the first line, the time, wires, and then machines, variables and transactions in any order.
use Rattle.std.specs.Prelude.{ℕ, Bool, true, false, Option, Some, None}
use Rattle.eds_snap.specs.declared.stage.Stage.{Stage}
use Rattle.eds_snap.specs.declared.stage.Stage.TheVariants.{First, Time, Wires, States}
use Rattle.eds_snap.specs.Words.{Saying, begins, ends, ties, stands, holds, waits}

-- which lines may come behind one of a state
abbrev pub state_order : Stage → Option Stage
state_order First = None
state_order Time = None
state_order Wires = Some States
state_order States = Some States

-- which lines may come behind the first line
abbrev pub first_order : Stage → Option Stage
first_order First = Some Time
first_order Time = None
first_order Wires = None
first_order States = None

-- which lines may come behind the time
abbrev pub time_order : Stage → Option Stage
time_order First = None
time_order Time = Some Wires
time_order Wires = None
time_order States = None

-- which lines may come behind a wire
abbrev pub wire_order : Stage → Option Stage
wire_order First = None
wire_order Time = None
wire_order Wires = Some Wires
wire_order States = None

-- which lines may come behind a line that says this, where it stands in order: the first line, the time, wires, and then
-- machines, variables and transactions in any order
abbrev pub in_order : Stage → Saying → Option Stage
in_order stage begins = first_order stage
in_order stage (ends number) = time_order stage
in_order stage (ties lower upper) = wire_order stage
in_order stage (stands component machine state entered passed) = state_order stage
in_order stage (holds component variable json) = state_order stage
in_order stage (waits end member name) = state_order stage

-- the first line and the time have come
abbrev pub is_whole : Stage → Bool
is_whole First = false
is_whole Time = false
is_whole Wires = true
is_whole States = true
