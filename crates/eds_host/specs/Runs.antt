-- Runs: what a line makes of a world, and what lines make of it one after another.
use Rattle.std.specs.Prelude.{◌≡◌, ◌≢◌, ◌≤◌, ◌+◌, ℕ, zero, suc, List, [], ◌∷◌, ◌++◌, length, Option, Some, None, option_map, Result, Ok, Err}
use Rattle.eds_base.specs.declared.fault.Fault.{Fault}
use Rattle.eds_plan.specs.declared.activity.Op.TheVariants as op
use Rattle.eds_plan.specs.declared.run.Way.{Way}
use Rattle.eds_plan.specs.Lines.{Told, starts, passes, framed}
use Rattle.eds_plan.specs.Lines as lines
use Rattle.eds_plan.specs.Outs.{Signal, Report, refused}
use Rattle.eds_plan.specs.States.{StateNow}
use Rattle.eds_types.specs.Plain.{Plain}
use Rattle.eds_host.specs.Systems.{System, World, Happening, Reaction, next, arrives, arrival, queued, leaving, sent_at}

-- ---- the course of a line

-- these happen one after another, each being next, and lead from one world to another
abbrev pub Chain : System → Option ℕ → World → List Happening → World → Type 0
Chain sys until w [] v = v ≡ w
Chain sys until w (h ∷ hs) v = (next sys until w ≡ Some h) × Chain sys until h.world hs v

-- all that left the run in the course of them
abbrev pub outs_of : List Happening → List Report
outs_of [] = []
outs_of (h ∷ hs) = h.outs ++ outs_of hs

-- at most so many things happen, and then nothing is next
pub record Rests (sys : System) (most : ℕ) (until : Option ℕ) (w v : World) (outs : List Report) (hs : List Happening) : Type 0 where
  pub chain : Chain sys until w hs v
  pub few : length hs ≤ most
  pub last : next sys until v ≡ None
  pub all : outs ≡ outs_of hs

-- so many things happen, and then one more is next
pub record Storms (sys : System) (most : ℕ) (until : Option ℕ) (w v : World) (outs : List Report) (hs : List Happening) : Type 0 where
  pub chain : Chain sys until w hs v
  pub many : length hs ≡ most
  pub more : next sys until v ≢ None
  pub all : outs ≡ outs_of hs

-- what left the run in a line, and the world after it; none after a storm
pub record Course : Type 0 where
  pub outs : List Report
  pub end : Option World

-- a course behind what left the run before it
abbrev pub after : List Report → Course → Course
after outs c = record { outs = outs ++ c.outs; end = c.end }

-- a course that isn't gone any further
abbrev pub storm : Course
storm = record { outs = []; end = None }

-- a course in which nothing is next
abbrev pub rests : World → Course
rests w = record { outs = []; end = Some w }

-- the course of what is next in a world; where nothing is, it rests there
abbrev pub go_by : World → Option Happening → (Happening → Course) → Course
go_by w None on = rests w
go_by w (Some h) on = on h

-- What happens next happens, until nothing does; where one more than so many is next, it is a storm.
unfoldable pub go_on : System → ℕ → Option ℕ → World → Course
go_on sys zero until w = go_by w (next sys until w) (λ h. storm)
go_on sys (suc more) until w = go_by w (next sys until w) (λ h. after h.outs (go_on sys more until h.world))

-- ---- one line

-- the most deliveries and firings of a line
abbrev pub most : ℕ
most = 10000

-- what is sent is delivered, and so on
abbrev pub follows : System → Happening → Course
follows sys h = after h.outs (go_on sys most None h.world)

-- so many components from this one on, before they start
abbrev pub all_fresh : (fresh : ℕ → StateNow) → (component : ℕ) → ℕ → List StateNow
all_fresh fresh comp zero = []
all_fresh fresh comp (suc more) = fresh comp ∷ all_fresh fresh (comp + 1) more

-- the world before the start: time 0, no component has started, and nothing is to be delivered
abbrev pub unbegun : System → World
unbegun sys = record { now = 0; states = all_fresh sys.fresh 0 sys.count; queue = [] }

-- the world in which components start: time 0, and none is there yet
abbrev pub nothing : World
nothing = record { now = 0; states = []; queue = [] }

-- a world, with what left the run on the way there
abbrev pub happening : World → List Report → Happening
happening w outs = record { world = w; outs = outs }

-- one more component has started
abbrev pub begun : System → (component : ℕ) → Reaction → Happening → Happening
begun sys comp r h =
    record {
      world = record { now = h.world.now; states = h.world.states ++ r.state ∷ []; queue = h.world.queue ++ queued sys.tied r.sends };
      outs = h.outs ++ leaving sys.tied h.world.now comp r.sends;
    }

-- so many components start, from this one on, in document order
abbrev pub all_start : System → (component : ℕ) → ℕ → Happening → Happening
all_start sys comp zero h = h
all_start sys comp (suc more) h = all_start sys (comp + 1) more (begun sys comp (sys.starts comp) h)

-- a primitive arrives at its end
abbrev pub comes : System → Signal → World → Happening
comes sys s w = arrives sys s.end.comp.0 (arrival s) w

-- a frame arrives as its value at an end; or it is refused, and nothing changes
abbrev pub frame_goes : System → Way → (component end member : ℕ) → Result Plain Fault → World → Course
frame_goes sys way comp end member (Ok v) w = follows sys (comes sys (sent_at comp end member way op.Command (v ∷ [])) w)
frame_goes sys way comp end member (Err fault) w = record { outs = refused w.now (sent_at comp end member way op.Command []).end member fault ∷ []; end = Some w }

-- the course with the time set at its end
abbrev pub at_time : ℕ → Course → Course
at_time t c = record { outs = c.outs; end = option_map (λ (w : World). record w { now = t }) c.end }

-- time passes
abbrev pub time_passes : System → ℕ → World → Course
time_passes sys n w = at_time (w.now + n) (go_on sys most (Some (w.now + n)) w)

-- how frames are read: the way in which something arrives at an end, and what a frame for a member there comes to
pub record Reading : Type 1 where
  pub way : (component end : ℕ) → Way
  pub reads : (component end member : ℕ) → List ℕ → Result Plain Fault → Type 0

-- one line makes a course of a world; the start begins anew, whatever was
abbrev pub LineGoes : System → Reading → Told → World → Course → Type 0
LineGoes sys reading starts w c = c ≡ follows sys (all_start sys 0 sys.count (happening nothing []))
LineGoes sys reading (passes n) w c = c ≡ time_passes sys n w
LineGoes sys reading (lines.arrives comp end member way o vs) w c = c ≡ follows sys (comes sys (sent_at comp end member way o vs) w)
LineGoes sys reading (framed comp end member octets) w c = (r : Result Plain Fault) × reading.reads comp end member octets r × (c ≡ frame_goes sys (reading.way comp end) comp end member r w)

-- the time after a line that was told at a time, unless it is a storm
abbrev pub time_after : Told → (now : ℕ) → ℕ
time_after starts now = 0
time_after (passes n) now = now + n
time_after (lines.arrives comp end member way o vs) now = now
time_after (framed comp end member octets) now = now

-- ---- many lines

-- what is after a line: nothing, if it was a storm
abbrev pub RestGoes : Option World → List (List Report) → Option World → (World → List (List Report) → Type 0) → Type 0
RestGoes None outs end on = (outs ≡ []) × (end ≡ None)
RestGoes (Some v) outs end on = on v outs

-- lines one after another, with what leaves the run in each; after a storm no further one is handled
abbrev pub RunGoes : System → Reading → List Told → World → List (List Report) → Option World → Type 0
RunGoes sys reading [] w outs end = (outs ≡ []) × (end ≡ Some w)
RunGoes sys reading (l ∷ ls) w outs end = (c : Course) × (os : List (List Report)) × LineGoes sys reading l w c × RestGoes c.end os end (λ v os. RunGoes sys reading ls v os end) × (outs ≡ c.outs ∷ os)
