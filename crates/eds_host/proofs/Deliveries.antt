-- What is delivered in the course of a line.
use Rattle.std.proofs.Common.{◌≡◌, ℕ, List, [], ◌∷◌, ◌++◌, Option, Some, None, refl, sym, ap, ◌∙◌, append_assoc, append-nil, take}
use Rattle.eds_plan.specs.Outs.{Signal}
use Rattle.eds_host.specs.declared.due.Due.{Due}
use Rattle.eds_host.specs.Laws.{EachIsDelivered, sent_by, sent_for, sent_along, delivered_along}
use Rattle.eds_host.specs.Runs.{Chain}
use Rattle.eds_host.specs.Systems.{System, World, Happening, next, next_by, fires, has_come, first_due, queued, settles}
use Rattle.eds_host.proofs.Sent.{queued_more}
use Rattle.eds_host.proofs.Ticks.{none_waits}

abbrev queue_of : Option Happening → List Signal
queue_of None = []
queue_of (Some h) = h.world.queue

module _ (sys : System) (until : Option ℕ) where
  step : (w : World) (h : Happening) → next sys until w ≡ Some h → take 1 w.queue ++ h.world.queue ≡ w.queue ++ queued sys.tied (sent_for sys until w w.queue)
  unfolding next settles
  step w h e = go w.queue refl e
    where
      fired : (d : Option Due) → w.queue ≡ [] → fires sys w d ≡ Some h → h.world.queue ≡ queued sys.tied (sent_by sys w d)
      fired None q e = absurd cc
      fired (Some d) q e = sym (ap queue_of e) ∙ ap (λ ss. ss ++ queued sys.tied (sent_by sys w (Some d))) q

      go : (q : List Signal) → w.queue ≡ q → next_by sys until w q ≡ Some h → take 1 q ++ h.world.queue ≡ q ++ queued sys.tied (sent_for sys until w q)
      go [] p e = fired (has_come until (first_due sys 0 w.states)) p e
      go (s ∷ ss) p e = ap (λ x. s ∷ x) (sym (ap queue_of e))

  along : (hs : List Happening) (w v : World) → Chain sys until w hs v → delivered_along w hs ++ v.queue ≡ w.queue ++ queued sys.tied (sent_along sys until w hs)
  along [] w v e = ap (λ (u : World). u.queue) e ∙ sym (append-nil w.queue)
  along (h ∷ hs) w v c =
      let now = queued sys.tied (sent_for sys until w w.queue) in let further = queued sys.tied (sent_along sys until h.world hs) in
      append_assoc (take 1 w.queue) (delivered_along h.world hs) v.queue
      ∙ ap (λ x. take 1 w.queue ++ x) (along hs h.world v c.1)
      ∙ sym (append_assoc (take 1 w.queue) h.world.queue further)
      ∙ ap (λ x. x ++ further) (step w h c.0)
      ∙ append_assoc w.queue now further
      ∙ ap (λ x. w.queue ++ x) (sym (queued_more sys.tied (sent_for sys until w w.queue) (sent_along sys until h.world hs)))

pub each_is_delivered : EachIsDelivered
each_is_delivered sys most until w v outs hs r = sym (append-nil (delivered_along w hs)) ∙ ap (λ x. delivered_along w hs ++ x) (sym (none_waits sys until v r.last)) ∙ along sys until hs w v r.chain
