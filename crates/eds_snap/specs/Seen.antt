-- Lines, what they say, and what is read, as the code has them.
use Rattle.std.specs.Prelude.{◌<◌, ◌^◌, ℕ, List, map, option_map, Result, Ok, Err}
use Rattle.eds_base.specs.declared.fail.Fail.{Fail}
use Rattle.eds_base.specs.declared.fail.Fail.TheVariants.{Named, Memory}
use Rattle.eds_types.specs.Plain.{plain}
use Rattle.eds_value.specs.declared.fail.ValueFail.{ValueFail}
use Rattle.eds_snap.specs.declared.entry.Entry.{Entry as HeldEntry}
use Rattle.eds_snap.specs.declared.entry.Entry.TheVariants as held
use Rattle.eds_snap.specs.declared.names.MachinePlace.{MachinePlace as HeldMachine}
use Rattle.eds_snap.specs.declared.names.VariablePlace.{VariablePlace as HeldVariable}
use Rattle.eds_snap.specs.declared.names.WaitPlace.{WaitPlace as HeldWait}
use Rattle.eds_snap.specs.declared.reading.Reading.{Reading as HeldReading}
use Rattle.eds_snap.specs.declared.snap.Snap.{Snap}
use Rattle.eds_snap.specs.declared.told.Told.{Told as HeldTold}
use Rattle.eds_snap.specs.declared.why.BadSnap.{BadSnap}
use Rattle.eds_snap.specs.declared.why.SnapWhy.{SnapWhy}
use Rattle.eds_snap.specs.declared.words.Saying.{Saying as Held}
use Rattle.eds_snap.specs.declared.words.Saying.TheVariants.{Begins, Ends, Ties, Stands, Holds, Waits}
use Rattle.eds_snap.specs.Readings.{Reading, SnapNow}
use Rattle.eds_snap.specs.Words.{Saying, begins, ends, ties, stands, holds, waits}
use Rattle.eds_snap.specs.Entries.{Entry, Told, json_why, machine_is, nothing_is, time_is, variable_is, wait_is, wire_is}
use Rattle.eds_snap.specs.Places.{MachinePlace, VariablePlace, WaitPlace}

-- what a line says, in words
abbrev pub said_of : Held → Saying
said_of Begins = begins
said_of (Ends number) = ends number.now
said_of (Ties lower upper) = ties lower.now upper.now
said_of (Stands component own state entered passed) = stands component.now own.now state.now entered.now passed.now
said_of (Holds component own json) = holds component.now own.now json.now
said_of (Waits end member name) = waits end.now member.now name.now

-- what a line says, in words, or why it says nothing
abbrev pub seen_form : Result Held SnapWhy → Result Saying SnapWhy
seen_form (Ok said) = Ok (said_of said)
seen_form (Err why) = Err why

-- the machine and state that names tell
abbrev pub machine_seen : HeldMachine → MachinePlace
machine_seen p = record { comp = p.comp; machine = p.machine; at = p.at }

-- the variable that names tell
abbrev pub variable_seen : HeldVariable → VariablePlace
variable_seen p = record { comp = p.comp; variable = p.variable }

-- the transaction that names tell
abbrev pub wait_seen : HeldWait → WaitPlace
wait_seen p = record { comp = p.comp; waiting = record { face = p.face; member = p.member; name = p.name } }

-- what lines told of a component
abbrev pub told_now : HeldTold → Told
told_now told = record { variables = map (option_map plain) told.variables; machines = told.machines; outstanding = told.outstanding }

-- what a line tells
abbrev pub entry_now : HeldEntry → Entry
entry_now held.Begin = nothing_is
entry_now (held.Time n) = time_is n
entry_now (held.Wire lower upper) = wire_is lower.now upper.now
entry_now (held.Machine comp place m) = machine_is comp place m
entry_now (held.Variable comp place v) = variable_is comp place (plain v)
entry_now (held.Wait comp q) = wait_is comp q

-- what was read so far
abbrev pub reading_now : HeldReading → Reading
reading_now r = record { stage = r.stage; now = r.time; wires = r.wires; told = map told_now r.told.items }

-- a snapshot
abbrev pub snap_now : Snap → SnapNow
snap_now s = record { now = s.now; wires = s.wires; states = s.states }

-- what is wrong with JSON makes a line bad; want of memory is no fault of the line
abbrev pub why_in : Fail ValueFail → Fail SnapWhy
why_in (Named fail) = Named (json_why fail)
why_in Memory = Memory

-- why a line is bad, with its number; want of memory is no fault of the line
abbrev pub bad_line : ℕ → Fail SnapWhy → Fail BadSnap
bad_line n (Named w) = Named (record { line = n; why = w })
bad_line n Memory = Memory

-- a time that a line tells is below 2^63
abbrev pub IsEarly : Entry → Type 0
IsEarly (time_is n) = n < 2 ^ 63
IsEarly _ = Unit {0}
