-- What holds of all runs.
use Rattle.std.specs.Prelude.{◌≡◌, ◌≤◌, ◌+◌, ℕ, zero, suc, List, [], ◌∷◌, ◌++◌, map, take, if◌then◌else◌, slice_get, Option, Some, None, is_some, IfSome, Result, ◌⊎◌}
use Rattle.eds_plan.specs.Outs.{Signal, Report, left, stopped}
use Rattle.eds_plan.specs.Sends.{Sent, primitive, halted}
use Rattle.eds_plan.specs.States.{StateNow}
use Rattle.eds_plan.specs.declared.run.End.{End}
use Rattle.eds_host.specs.declared.due.Due.{Due}
use Rattle.eds_host.specs.Systems.{System, World, Happening, Coming, arrival, arrives, moment, state_at, queued, sent_at, first_due, has_come, next}
use Rattle.eds_base.specs.declared.fault.Fault.{Fault}
use Rattle.eds_types.specs.Plain.{Plain}
use Rattle.eds_host.specs.Runs.{Chain, Reading, Rests, Storms, all_start, comes, go_on, happening, nothing, outs_of, time_passes}

-- a tick of m + n that is no storm gives the outs and the end of a tick of m followed by one of n
abbrev pub TicksAdd : Type 0
TicksAdd = (sys : System) (w v : World) (m n : ℕ) → let whole = time_passes sys (m + n) w in let first = time_passes sys m w in
    whole.end ≡ Some v
    → (u : World) × (first.end ≡ Some u) × (let second = time_passes sys n u in (second.end ≡ Some v) × (whole.outs ≡ first.outs ++ second.outs))

-- a chain of at most so many happenings after which nothing is next is the course that is gone, and so is a storm
abbrev pub CoursesAreChains : Type 0
CoursesAreChains = (sys : System) (most : ℕ) (until : Option ℕ) (w v : World) (outs : List Report) (hs : List Happening) →
    (Rests sys most until w v outs hs → go_on sys most until w ≡ record { outs = outs; end = Some v })
    × (Storms sys most until w v outs hs → go_on sys most until w ≡ record { outs = outs; end = None })

-- there always is a chain that comes to rest, or a storm
abbrev pub CoursesGoOnOrStorm : Type 0
CoursesGoOnOrStorm = (sys : System) (most : ℕ) (until : Option ℕ) (w : World) → ((v : World) × (outs : List Report) × (hs : List Happening) × Rests sys most until w v outs hs) ⊎ ((v : World) × (outs : List Report) × (hs : List Happening) × Storms sys most until w v outs hs)

-- ---- deliveries

-- what a component sends that fires, if one does
abbrev pub sent_by : System → World → Option Due → List Sent
sent_by sys w None = []
sent_by sys w (Some d) = (sys.reacts d.comp (moment d.machine) d.moment (state_at w d.comp)).sends

-- what is sent by the component to which something comes next
abbrev pub sent_for : System → Option ℕ → World → List Signal → List Sent
sent_for sys until w [] = sent_by sys w (has_come until (first_due sys 0 w.states))
sent_for sys until w (s ∷ ss) = (sys.reacts s.end.comp.0 (arrival s) w.now (state_at w s.end.comp.0)).sends

-- all that is sent in the course of some happenings
abbrev pub sent_along : System → Option ℕ → World → List Happening → List Sent
sent_along sys until w [] = []
sent_along sys until w (h ∷ hs) = sent_for sys until w w.queue ++ sent_along sys until h.world hs

-- all that is delivered in the course of them
abbrev pub delivered_along : World → List Happening → List Signal
delivered_along w [] = []
delivered_along w (h ∷ hs) = take 1 w.queue ++ delivered_along h.world hs

-- where a line comes to rest, what waited and then what was sent at wired ends has been delivered, each once and in order
abbrev pub EachIsDelivered : Type 0
EachIsDelivered = (sys : System) (most : ℕ) (until : Option ℕ) (w v : World) (outs : List Report) (hs : List Happening) → Rests sys most until w v outs hs → delivered_along w hs ≡ w.queue ++ queued sys.tied (sent_along sys until w hs)

-- ---- what leaves the run

-- something that a component sent, and when
pub record Sending : Type 0 where
  pub time : ℕ
  pub component : ℕ
  pub sent : Sent

-- what a component sends at a time, one thing after another
abbrev pub sendings : (time component : ℕ) → List Sent → List Sending
sendings time comp ss = map (λ (s : Sent). record { time = time; component = comp; sent = s }) ss

-- what a component sends that fires, if one does: at its moment
abbrev pub sendings_by : System → World → Option Due → List Sending
sendings_by sys w None = []
sendings_by sys w (Some d) = sendings d.moment d.comp (sent_by sys w (Some d))

-- what is sent by the component to which something comes next: to which something is delivered, now
abbrev pub sendings_for : System → Option ℕ → World → List Signal → List Sending
sendings_for sys until w [] = sendings_by sys w (has_come until (first_due sys 0 w.states))
sendings_for sys until w (s ∷ ss) = sendings w.now s.end.comp.0 (sent_for sys until w (s ∷ ss))

-- all that is sent in the course of some happenings, with who sends it and when
abbrev pub sendings_along : System → Option ℕ → World → List Happening → List Sending
sendings_along sys until w [] = []
sendings_along sys until w (h ∷ hs) = sendings_for sys until w w.queue ++ sendings_along sys until h.world hs

-- what so many components send, from this one on, when they start: at time 0, in document order
abbrev pub sendings_at_start : System → (component : ℕ) → ℕ → List Sending
sendings_at_start sys comp zero = []
sendings_at_start sys comp (suc more) = sendings 0 comp (sys.starts comp).sends ++ sendings_at_start sys (comp + 1) more

-- what leaves the run of what was sent: a primitive at an end that no wire ties, and each halt
abbrev pub leaves_run : (End → Option End) → (time component : ℕ) → Sent → List Report
leaves_run tied time comp (primitive c e m way op vs) = if is_some (tied (sent_at c e m way op vs).end) then [] else left time (sent_at c e m way op vs) ∷ []
leaves_run tied time comp (halted machine h) = stopped time comp machine h ∷ []

-- the same of all that was sent
abbrev pub all_leave : (End → Option End) → List Sending → List Report
all_leave tied [] = []
all_leave tied (x ∷ xs) = leaves_run tied x.time x.component x.sent ++ all_leave tied xs

-- in the course of a line just what is sent at unwired ends leaves the run, and each halt: once, in order, at its time
abbrev pub EachLeaves : Type 0
EachLeaves = (sys : System) (until : Option ℕ) (w v : World) (hs : List Happening) → Chain sys until w hs v → outs_of hs ≡ all_leave sys.tied (sendings_along sys until w hs)

-- it is a part of the same sends as what is delivered
abbrev pub SendingsAreSent : Type 0
SendingsAreSent = (sys : System) (until : Option ℕ) (w : World) (hs : List Happening) → map (λ (x : Sending). x.sent) (sendings_along sys until w hs) ≡ sent_along sys until w hs

-- of what was sent, what leaves the run has left it, and the rest waits behind what waited before
pub record AreSentOn (sys : System) (xs : List Sending) (before : List Signal) (h : Happening) : Type 0 where
  pub leave : h.outs ≡ all_leave sys.tied xs
  pub wait : h.world.queue ≡ before ++ queued sys.tied (map (λ (x : Sending). x.sent) xs)

-- so it is where all components start
abbrev pub StartsSendOn : Type 0
StartsSendOn = (sys : System) → AreSentOn sys (sendings_at_start sys 0 sys.count) [] (all_start sys 0 sys.count (happening nothing []))

-- and where a primitive arrives by a line
abbrev pub ArrivalsSendOn : Type 0
ArrivalsSendOn = (sys : System) (s : Signal) (w : World) → AreSentOn sys (sendings w.now s.end.comp.0 (sys.reacts s.end.comp.0 (arrival s) w.now (state_at w s.end.comp.0)).sends) w.queue (comes sys s w)

-- ---- time

-- a moment that isn't before a time
abbrev pub NotBefore : ℕ → Option (ℕ × ℕ) → Type 0
NotBefore b None = Unit {0}
NotBefore b (Some d) = b ≤ d.0

-- no component waits for a moment before a time
abbrev pub WaitFrom : System → ℕ → List StateNow → Type 0
WaitFrom sys b states = (i : ℕ) (s : StateNow) → slice_get states i ≡ Some s → NotBefore b (sys.waits i s)

-- a component that reacts waits for later moments, or for those for which it waited before
abbrev pub IsPunctual : System → Type 0
IsPunctual sys = (component now b : ℕ) (e : Coming) (s : StateNow) → b ≤ now + 1 → NotBefore b (sys.waits component s) → NotBefore b (sys.waits component (sys.reacts component e now s).state)

-- time never goes back, and no moment is passed over
abbrev pub TimeGoesOn : Type 0
TimeGoesOn = (sys : System) → IsPunctual sys → (until : Option ℕ) (w v : World) (hs : List Happening) → WaitFrom sys w.now w.states → Chain sys until w hs v → (w.now ≤ v.now) × WaitFrom sys v.now v.states

-- where nothing is next up to a time, components wait for later moments alone
abbrev pub NoneIsLate : Type 0
NoneIsLate = (sys : System) (until : ℕ) (w : World) → next sys (Some until) w ≡ None → WaitFrom sys (until + 1) w.states

-- ---- timers

-- what is next in a world is the firing of a machine at the moment for which its component waits: then and no later, as time
-- hasn't passed it; and not before it has come
pub record IsOnTime (sys : System) (until : Option ℕ) (w : World) (h : Happening) (d : Due) : Type 0 where
  pub waits : sys.waits d.comp (state_at w d.comp) ≡ Some (d.moment, d.machine)
  pub is : h ≡ arrives sys d.comp (moment d.machine) (record w { now = d.moment })
  pub on_time : h.world.now ≡ d.moment
  pub not_late : w.now ≤ d.moment
  pub not_early : IfSome until (λ t. d.moment ≤ t)

-- a delivery takes no time; where nothing is to be delivered, a machine fires on time
abbrev pub TakesItsTime : System → Option ℕ → World → Happening → List Signal → Type 0
TakesItsTime sys until w h [] = (d : Due) × IsOnTime sys until w h d
TakesItsTime sys until w h (s ∷ ss) = h.world.now ≡ w.now

-- so it is with each of some happenings
abbrev pub AllTakeTheirTime : System → Option ℕ → World → List Happening → Type 0
AllTakeTheirTime sys until w [] = Unit {0}
AllTakeTheirTime sys until w (h ∷ hs) = TakesItsTime sys until w h w.queue × AllTakeTheirTime sys until h.world hs

-- no timer fires early or late
abbrev pub TimersAreOnTime : Type 0
TimersAreOnTime = (sys : System) → IsPunctual sys → (until : Option ℕ) (w v : World) (hs : List Happening) → WaitFrom sys w.now w.states → Chain sys until w hs v → AllTakeTheirTime sys until w hs

-- ---- frames

-- a frame for a member of an end comes to one thing alone
abbrev pub ReadsOne : Reading → Type 0
ReadsOne reading = (comp face member : ℕ) (octets : List ℕ) (r s : Result Plain Fault) → reading.reads comp face member octets r → reading.reads comp face member octets s → r ≡ s
