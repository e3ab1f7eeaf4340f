-- The time after a line.
use Rattle.std.proofs.Common.{◌≡◌, ◌+◌, ℕ, zero, suc, List, [], ◌∷◌, Option, Some, None, refl, sym, ap, ◌∙◌}
use Rattle.std.specs.Prelude.{Result, Ok, Err, option_map}
use Rattle.eds_base.specs.declared.fault.Fault.{Fault}
use Rattle.eds_plan.specs.Lines.{starts, passes, framed}
use Rattle.eds_plan.specs.Lines as lines
use Rattle.eds_plan.specs.Outs.{Signal}
use Rattle.eds_plan.specs.declared.activity.Op.TheVariants as op
use Rattle.eds_types.specs.Plain.{Plain}
use Rattle.eds_host.specs.Hosts.{LinesTakeTheirTime, reading}
use Rattle.eds_host.specs.Plans.{system}
use Rattle.eds_host.specs.Runs.{Course, after, all_start, begun, comes, follows, frame_goes, go_by, go_on, happening, most, nothing, storm}
use Rattle.eds_host.specs.Systems.{System, World, Happening, arrival, arrives, next, next_by, sent_at, settles}

world_is : (u v : World) → Some u ≡ Some v → v.now ≡ u.now
world_is u v e = let same : u ≡ v = cc in ap (λ (x : World). x.now) (sym same)

module _ (sys : System) where
  -- a delivery takes no time, and where no time passes nothing else happens
  still : (w : World) (h : Happening) → next sys None w ≡ Some h → h.world.now ≡ w.now
  unfolding next settles
  still w h e = go w.queue e
    where
      go : (q : List Signal) → next_by sys None w q ≡ Some h → h.world.now ≡ w.now
      go [] e = absurd cc
      go (s ∷ ss) e = let same : arrives sys s.end.comp.0 (arrival s) (record w { queue = ss }) ≡ h = cc in ap (λ (k : Happening). k.world.now) (sym same)

  pub stays : (left : ℕ) (w v : World) → (go_on sys left None w).end ≡ Some v → v.now ≡ w.now
  unfolding go_on
  stays zero w v e = go (next sys None w) e
    where
      go : (x : Option Happening) → (go_by w x (λ h. storm)).end ≡ Some v → v.now ≡ w.now
      go None e = world_is w v e
      go (Some h) e = absurd cc
  stays (suc left) w v e = go (λ u f. stays left u v f) (next sys None w) refl e
    where
      go : ((u : World) → (go_on sys left None u).end ≡ Some v → v.now ≡ u.now) → (x : Option Happening) → next sys None w ≡ x → (go_by w x (λ h. after h.outs (go_on sys left None h.world))).end ≡ Some v → v.now ≡ w.now
      go on None is e = world_is w v e
      go on (Some h) is e = on h.world e ∙ still w h is

  followed : (h : Happening) (v : World) (c : Course) → c ≡ follows sys h → c.end ≡ Some v → v.now ≡ h.world.now
  followed h v c is e = stays most h.world v (sym (ap (λ (d : Course). d.end) is) ∙ e)

  started : (comp n : ℕ) (h : Happening) → (all_start sys comp n h).world.now ≡ h.world.now
  started comp zero h = refl
  started comp (suc n) h = started (comp + 1) n (begun sys comp (sys.starts comp) h)

  arrived : (s : Signal) (w : World) → (comes sys s w).world.now ≡ w.now
  unfolding settles
  arrived s w = refl

  set : (t : ℕ) (o : Option World) (v : World) → option_map (λ (u : World). record u { now = t }) o ≡ Some v → v.now ≡ t
  set t None v e = absurd cc
  set t (Some u) v e = world_is (record u { now = t }) v e

pub lines_take_their_time : LinesTakeTheirTime
lines_take_their_time t plan tied starts w v c goes e =
    let sys = system t plan tied in
    followed sys (all_start sys 0 sys.count (happening nothing [])) v c goes e ∙ started sys 0 sys.count (happening nothing [])
lines_take_their_time t plan tied (passes n) w v c goes e =
    let sys = system t plan tied in
    set sys (w.now + n) (go_on sys most (Some (w.now + n)) w).end v (sym (ap (λ (d : Course). d.end) goes) ∙ e)
lines_take_their_time t plan tied (lines.arrives comp face member way o vs) w v c goes e =
    let sys = system t plan tied in let s = sent_at comp face member way o vs in
    followed sys (comes sys s w) v c goes e ∙ arrived sys s w
lines_take_their_time t plan tied (framed comp face member octets) w v c goes e = go goes.0 goes.2
  where
    go : (r : Result Plain Fault) → c ≡ frame_goes (system t plan tied) ((reading t plan).way comp face) comp face member r w → v.now ≡ w.now
    go (Ok x) is =
        let sys = system t plan tied in let s = sent_at comp face member ((reading t plan).way comp face) op.Command (x ∷ []) in
        followed sys (comes sys s w) v c is e ∙ arrived sys s w
    go (Err fault) is = world_is w v (sym (ap (λ (d : Course). d.end) is) ∙ e)
