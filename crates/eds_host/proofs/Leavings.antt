-- What leaves the run in the course of a line.
use Rattle.std.proofs.Common.{◌≡◌, ◌+◌, ℕ, zero, suc, List, [], ◌∷◌, ◌++◌, Option, Some, None, refl, sym, ap, ◌∙◌, append_assoc, append-nil, map}
use Rattle.std.specs.Prelude.{if◌then◌else◌, is_some}
use Rattle.std.proofs.lemmas.List.{map-append}
use Rattle.eds_plan.specs.Outs.{Signal, Report, left, stopped}
use Rattle.eds_plan.specs.Sends.{Sent, primitive, halted}
use Rattle.eds_plan.specs.declared.run.End.{End}
use Rattle.eds_host.specs.declared.due.Due.{Due}
use Rattle.eds_host.specs.Laws.{ArrivalsSendOn, EachLeaves, Sending, SendingsAreSent, StartsSendOn, all_leave, leaves_run, sendings, sendings_along, sendings_at_start, sendings_by, sendings_for, sent_along, sent_by, sent_for}
use Rattle.eds_host.specs.Runs.{Chain, all_start, begun, happening, nothing, outs_of}
use Rattle.eds_host.specs.Systems.{System, World, Happening, arrival, next, next_by, fires, has_come, first_due, leaving, leaves_at, queued, sent_at, settles, state_at}
use Rattle.eds_host.proofs.Sent.{queued_more}

-- ---- some sends

at_end : (now : ℕ) (s : Signal) (o : Option End) → leaves_at now s o ≡ (if is_some o then [] else left now s ∷ [])
at_end now s None = refl
at_end now s (Some e) = refl

leaving_is : (tied : End → Option End) (now comp : ℕ) (ss : List Sent) → leaving tied now comp ss ≡ all_leave tied (sendings now comp ss)
leaving_is tied now comp [] = refl
leaving_is tied now comp (primitive c e m way op vs ∷ ss) =
    let s = sent_at c e m way op vs in
    ap (λ q. q ++ leaving tied now comp ss) (at_end now s (tied s.end)) ∙ ap (λ q. leaves_run tied now comp (primitive c e m way op vs) ++ q) (leaving_is tied now comp ss)
leaving_is tied now comp (halted machine h ∷ ss) = ap (λ q. stopped now comp machine h ∷ q) (leaving_is tied now comp ss)

more_leave : (tied : End → Option End) (xs ys : List Sending) → all_leave tied (xs ++ ys) ≡ all_leave tied xs ++ all_leave tied ys
more_leave tied [] ys = refl
more_leave tied (x ∷ xs) ys =
    let here = leaves_run tied x.time x.component x.sent in
    ap (λ q. here ++ q) (more_leave tied xs ys) ∙ sym (append_assoc here (all_leave tied xs) (all_leave tied ys))

abbrev sents : List Sending → List Sent
sents xs = map (λ (x : Sending). x.sent) xs

sents_same : (time comp : ℕ) (ss : List Sent) → sents (sendings time comp ss) ≡ ss
sents_same time comp [] = refl
sents_same time comp (s ∷ ss) = ap (λ q. s ∷ q) (sents_same time comp ss)

-- ---- a course

abbrev outs_by : Option Happening → List Report
outs_by None = []
outs_by (Some h) = h.outs

module _ (sys : System) (until : Option ℕ) where
  step : (w : World) (h : Happening) → next sys until w ≡ Some h → h.outs ≡ all_leave sys.tied (sendings_for sys until w w.queue)
  unfolding next settles
  step w h e = go w.queue e
    where
      fired : (d : Option Due) → fires sys w d ≡ Some h → h.outs ≡ all_leave sys.tied (sendings_by sys w d)
      fired None e = absurd cc
      fired (Some d) e = sym (ap outs_by e) ∙ leaving_is sys.tied d.moment d.comp (sent_by sys w (Some d))

      go : (q : List Signal) → next_by sys until w q ≡ Some h → h.outs ≡ all_leave sys.tied (sendings_for sys until w q)
      go [] e = fired (has_come until (first_due sys 0 w.states)) e
      go (s ∷ ss) e = sym (ap outs_by e) ∙ leaving_is sys.tied w.now s.end.comp.0 (sent_for sys until w (s ∷ ss))

  along : (hs : List Happening) (w v : World) → Chain sys until w hs v → outs_of hs ≡ all_leave sys.tied (sendings_along sys until w hs)
  along [] w v e = refl
  along (h ∷ hs) w v c =
      let now = sendings_for sys until w w.queue in let further = sendings_along sys until h.world hs in
      ap (λ q. q ++ outs_of hs) (step w h c.0) ∙ ap (λ q. all_leave sys.tied now ++ q) (along hs h.world v c.1) ∙ sym (more_leave sys.tied now further)

  sent_now : (w : World) (q : List Signal) → sents (sendings_for sys until w q) ≡ sent_for sys until w q
  sent_now w [] = go (has_come until (first_due sys 0 w.states))
    where
      go : (d : Option Due) → sents (sendings_by sys w d) ≡ sent_by sys w d
      go None = refl
      go (Some d) = sents_same d.moment d.comp (sent_by sys w (Some d))
  sent_now w (s ∷ ss) = sents_same w.now s.end.comp.0 (sent_for sys until w (s ∷ ss))

  all_sent : (w : World) (hs : List Happening) → sents (sendings_along sys until w hs) ≡ sent_along sys until w hs
  all_sent w [] = refl
  all_sent w (h ∷ hs) =
      map-append (λ (x : Sending). x.sent) (sendings_for sys until w w.queue) (sendings_along sys until h.world hs)
      ∙ ap (λ q. q ++ sents (sendings_along sys until h.world hs)) (sent_now w w.queue)
      ∙ ap (λ q. sent_for sys until w w.queue ++ q) (all_sent h.world hs)

pub each_leaves : EachLeaves
each_leaves sys until w v hs c = along sys until hs w v c

pub sendings_are_sent : SendingsAreSent
sendings_are_sent sys until w hs = all_sent sys until w hs

-- ---- the start, and an arrival

module _ (sys : System) where
  starts_leave : (more comp : ℕ) (h : Happening) → h.world.now ≡ 0 → (all_start sys comp more h).outs ≡ h.outs ++ all_leave sys.tied (sendings_at_start sys comp more)
  starts_leave zero comp h e = sym (append-nil h.outs)
  starts_leave (suc more) comp h e =
      let ss = (sys.starts comp).sends in let rest = sendings_at_start sys (comp + 1) more in
      starts_leave more (comp + 1) (begun sys comp (sys.starts comp) h) e
      ∙ append_assoc h.outs (leaving sys.tied h.world.now comp ss) (all_leave sys.tied rest)
      ∙ ap (λ q. h.outs ++ (q ++ all_leave sys.tied rest)) (ap (λ n. leaving sys.tied n comp ss) e ∙ leaving_is sys.tied 0 comp ss)
      ∙ ap (λ q. h.outs ++ q) (sym (more_leave sys.tied (sendings 0 comp ss) rest))

  starts_wait : (more comp : ℕ) (h : Happening) → (all_start sys comp more h).world.queue ≡ h.world.queue ++ queued sys.tied (sents (sendings_at_start sys comp more))
  starts_wait zero comp h = sym (append-nil h.world.queue)
  starts_wait (suc more) comp h =
      let ss = (sys.starts comp).sends in let rest = sendings_at_start sys (comp + 1) more in
      starts_wait more (comp + 1) (begun sys comp (sys.starts comp) h)
      ∙ append_assoc h.world.queue (queued sys.tied ss) (queued sys.tied (sents rest))
      ∙ ap (λ q. h.world.queue ++ q) (sym (queued_more sys.tied ss (sents rest)))
      ∙ ap (λ q. h.world.queue ++ queued sys.tied (q ++ sents rest)) (sym (sents_same 0 comp ss))
      ∙ ap (λ q. h.world.queue ++ queued sys.tied q) (sym (map-append (λ (x : Sending). x.sent) (sendings 0 comp ss) rest))

pub starts_send_on : StartsSendOn
starts_send_on sys = record { leave = starts_leave sys sys.count 0 (happening nothing []) refl; wait = starts_wait sys sys.count 0 (happening nothing []) }

pub arrivals_send_on : ArrivalsSendOn
unfolding settles
arrivals_send_on sys s w =
    let ss = (sys.reacts s.end.comp.0 (arrival s) w.now (state_at w s.end.comp.0)).sends in
    record { leave = leaving_is sys.tied w.now s.end.comp.0 ss; wait = ap (λ q. w.queue ++ queued sys.tied q) (sym (sents_same w.now s.end.comp.0 ss)) }
