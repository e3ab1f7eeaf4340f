-- A system of components that react to what comes to them, its world, and what one event makes of that world.
use Rattle.std.specs.Prelude.{◌+◌, ℕ, List, [], ◌∷◌, ◌++◌, if◌then◌else◌, nat_lt, nat_le, slice_get, slice_set, Option, Some, None, unwrap_or}
use Rattle.eds_types.specs.Plain.{Plain}
use Rattle.eds_plan.specs.declared.run.End.{End}
use Rattle.eds_plan.specs.declared.run.Way.{Way}
use Rattle.eds_plan.specs.declared.activity.Op.{Op}
use Rattle.eds_plan.specs.Outs.{Signal, Report, left, stopped}
use Rattle.eds_plan.specs.Sends.{Sent, primitive, halted}
use Rattle.eds_plan.specs.States.{StateNow}
use Rattle.eds_host.specs.declared.due.Due.{Due}

-- ---- components

-- what comes to a component: a primitive, or a moment of one of its machines
pub data Coming : Type 0 where
  arrival : Signal → Coming
  moment : ℕ → Coming

-- what a component makes of an event: its state after it, and what it sends, in order
pub record Reaction : Type 0 where
  pub state : StateNow
  pub sends : List Sent

-- a number of components: the state of each before it starts, how it starts, what it makes of an event at a time, the least
-- moment that it waits for with the first machine that does, and the end at the other side of an end's wire
pub record System : Type 0 where
  pub count : ℕ
  pub fresh : (component : ℕ) → StateNow
  pub starts : (component : ℕ) → Reaction
  pub reacts : (component : ℕ) → Coming → (now : ℕ) → StateNow → Reaction
  pub waits : (component : ℕ) → StateNow → Option (ℕ × ℕ)
  pub tied : End → Option End

-- ---- the world

-- a time, the states of the components, and the primitives that are still to be delivered
pub record World : Type 0 where
  pub now : ℕ
  pub states : List StateNow
  pub queue : List Signal

-- a world, and what left the run on the way there
pub record Happening : Type 0 where
  pub world : World
  pub outs : List Report

-- ---- what is sent

-- what is sent at an end of a component
abbrev pub sent_at : (component end member : ℕ) → Way → Op → List Plain → Signal
sent_at component end member way op vs = record { end = record { comp = record { 0 = component }; face = end }; member = member; way = way; op = op; arguments = vs }

-- what is sent at a wired end is to be delivered at the other end
abbrev pub delivered_at : Signal → Option End → List Signal
delivered_at s None = []
delivered_at s (Some e) = record s { end = e } ∷ []

-- the primitives that are to be delivered, of what was sent
abbrev pub queued : (End → Option End) → List Sent → List Signal
queued tied [] = []
queued tied (primitive c e m way op vs ∷ ss) = delivered_at (sent_at c e m way op vs) (tied (sent_at c e m way op vs).end) ++ queued tied ss
queued tied (halted machine h ∷ ss) = queued tied ss

-- what is sent at another end leaves the run
abbrev pub leaves_at : ℕ → Signal → Option End → List Report
leaves_at now s None = left now s ∷ []
leaves_at now s (Some e) = []

-- what leaves the run, of what a component sent, and each halt
abbrev pub leaving : (End → Option End) → (now component : ℕ) → List Sent → List Report
leaving tied now comp [] = []
leaving tied now comp (primitive c e m way op vs ∷ ss) = leaves_at now (sent_at c e m way op vs) (tied (sent_at c e m way op vs).end) ++ leaving tied now comp ss
leaving tied now comp (halted machine h ∷ ss) = stopped now comp machine h ∷ leaving tied now comp ss

-- ---- one event

-- a component has reacted
unfoldable pub settles : System → (component : ℕ) → World → Reaction → Happening
settles sys comp w r =
    record {
      world = record { now = w.now; states = slice_set w.states comp r.state; queue = w.queue ++ queued sys.tied r.sends };
      outs = leaving sys.tied w.now comp r.sends;
    }

-- what stands for the state of a component that isn't there
abbrev pub no_state : StateNow
no_state = record { variables = []; machines = []; outstanding = [] }

-- the state of a component
abbrev pub state_at : World → ℕ → StateNow
state_at w comp = unwrap_or (slice_get w.states comp) no_state

-- an event comes to a component
abbrev pub arrives : System → (component : ℕ) → Coming → World → Happening
arrives sys comp e w = settles sys comp w (sys.reacts comp e w.now (state_at w comp))

-- ---- what is next

-- the moment for which a component waits
abbrev pub due_at : ℕ → Option (ℕ × ℕ) → Option Due
due_at comp None = None
due_at comp (Some d) = Some (record { moment = d.0; comp = comp; machine = d.1 })

-- of two moments the sooner one, of equal ones the first
abbrev pub first_of : Option Due → Option Due → Option Due
first_of None b = b
first_of (Some a) None = Some a
first_of (Some a) (Some b) = if nat_lt b.moment a.moment then Some b else Some a

-- the least moment for which a component waits, and the first component that does; the first of them has this number
abbrev pub first_due : System → ℕ → List StateNow → Option Due
first_due sys comp [] = None
first_due sys comp (s ∷ states) = first_of (due_at comp (sys.waits comp s)) (first_due sys (comp + 1) states)

-- a moment that has come by a time; none where no time is given
abbrev pub has_come : Option ℕ → Option Due → Option Due
has_come None d = None
has_come (Some until) None = None
has_come (Some until) (Some d) = if nat_le d.moment until then Some d else None

-- a machine fires at its moment
abbrev pub fires : System → World → Option Due → Option Happening
fires sys w None = None
fires sys w (Some d) = Some (arrives sys d.comp (moment d.machine) (record w { now = d.moment }))

-- the first of the queue is delivered; where it is empty, the machine fires whose moment is the least, if that has come
abbrev pub next_by : System → Option ℕ → World → List Signal → Option Happening
next_by sys until w [] = fires sys w (has_come until (first_due sys 0 w.states))
next_by sys until w (s ∷ ss) = Some (arrives sys s.end.comp.0 (arrival s) (record w { queue = ss }))

-- what happens next, if anything does
unfoldable pub next : System → Option ℕ → World → Option Happening
next sys until w = next_by sys until w w.queue
