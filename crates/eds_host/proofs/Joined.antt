-- Lines after lines.
use Rattle.std.proofs.Common.{◌≡◌, List, [], ◌∷◌, ◌++◌, Option, Some, None, refl, sym, ap, subst, ◌∙◌}
use Rattle.std.specs.Prelude.{Result}
use Rattle.eds_base.specs.declared.fault.Fault.{Fault}
use Rattle.eds_plan.specs.Lines.{Told, starts, passes, framed}
use Rattle.eds_plan.specs.Lines as lines
use Rattle.eds_plan.specs.Outs.{Report}
use Rattle.eds_types.specs.Plain.{Plain}
use Rattle.eds_host.specs.Hosts.{PlansReadOne, RunsGoOn, RunsJoin, RunsHaveOneOutcome, reading}
use Rattle.eds_host.specs.Laws.{ReadsOne}
use Rattle.eds_host.specs.Plans.{system}
use Rattle.eds_host.specs.Runs.{Course, LineGoes, Reading, RestGoes, RunGoes, frame_goes}
use Rattle.eds_host.specs.Systems.{System, World}

module _ (sys : System) (reading : Reading) where
  pub joined : (one two : List Told) (w v : World) (outs more : List (List Report)) (end : Option World) → RunGoes sys reading one w outs (Some v) → RunGoes sys reading two v more end → RunGoes sys reading (one ++ two) w (outs ++ more) end
  joined [] two w v outs more end h k =
      let same : v ≡ w = let e = h.1 in cc in
      subst (λ os. RunGoes sys reading two w (os ++ more) end) (sym h.0) (subst (λ u. RunGoes sys reading two u more end) same k)
  joined (l ∷ ls) two w v outs more end h k = (h.0, h.1 ++ more, h.2, go (λ u r. joined ls two u v h.1 more end r k) h.0.end h.3, ap (λ os. os ++ more) h.4)
    where
      go : ((u : World) → RunGoes sys reading ls u h.1 (Some v) → RunGoes sys reading (ls ++ two) u (h.1 ++ more) end)
          → (o : Option World) → RestGoes o h.1 (Some v) (λ u os. RunGoes sys reading ls u os (Some v)) → RestGoes o (h.1 ++ more) end (λ u os. RunGoes sys reading (ls ++ two) u os end)
      go on None r = absurd (let e = r.1 in cc)
      go on (Some u) r = on u r

  one_line : (l : Told) (w : World) (c : Course) → LineGoes sys reading l w c → RunGoes sys reading (l ∷ []) w (c.outs ∷ []) c.end
  one_line l w c h = (c, [], h, go c.end, refl)
    where
      go : (o : Option World) → RestGoes o [] o (λ u os. RunGoes sys reading [] u os o)
      go None = (refl, refl)
      go (Some u) = (refl, refl)

  pub one_course : (l : Told) (w : World) (c d : Course) → ReadsOne reading → LineGoes sys reading l w c → LineGoes sys reading l w d → c ≡ d
  one_course starts w c d one h k = h ∙ sym k
  one_course (passes n) w c d one h k = h ∙ sym k
  one_course (lines.arrives comp end member way o vs) w c d one h k = h ∙ sym k
  one_course (framed comp end member octets) w c d one h k =
      h.2 ∙ ap (λ (r : Result Plain Fault). frame_goes sys (reading.way comp end) comp end member r w) (one comp end member octets h.0 k.0 h.1 k.1) ∙ sym k.2

  one_run : (ls : List Told) (w : World) (outs more : List (List Report)) (end stop : Option World) → ReadsOne reading → RunGoes sys reading ls w outs end → RunGoes sys reading ls w more stop → (outs ≡ more) × (end ≡ stop)
  one_run [] w outs more end stop one h k = (h.0 ∙ sym k.0, h.1 ∙ sym k.1)
  one_run (l ∷ ls) w outs more end stop one h k =
      let same : h.0 ≡ k.0 = one_course l w h.0 k.0 one h.2 k.2 in
      let rest = go (λ u r q. one_run ls u h.1 k.1 end stop one r q) h.0.end h.3 (subst (λ (c : Course). RestGoes c.end k.1 stop (λ u os. RunGoes sys reading ls u os stop)) (sym same) k.3) in
      (h.4 ∙ ap (λ (c : Course). c.outs ∷ h.1) same ∙ ap (λ os. k.0.outs ∷ os) rest.0 ∙ sym k.4, rest.1)
    where
      go : ((u : World) → RunGoes sys reading ls u h.1 end → RunGoes sys reading ls u k.1 stop → (h.1 ≡ k.1) × (end ≡ stop))
          → (o : Option World) → RestGoes o h.1 end (λ u os. RunGoes sys reading ls u os end) → RestGoes o k.1 stop (λ u os. RunGoes sys reading ls u os stop) → (h.1 ≡ k.1) × (end ≡ stop)
      go on None r q = (r.0 ∙ sym q.0, r.1 ∙ sym q.1)
      go on (Some u) r q = on u r q

pub runs_join : RunsJoin
runs_join t plan tied one two w v outs more end h k = joined (system t plan tied) (reading t plan) one two w v outs more end h k

pub runs_go_on : RunsGoOn
runs_go_on t plan tied ls l w v outs c h k = joined (system t plan tied) (reading t plan) ls (l ∷ []) w v outs (c.outs ∷ []) c.end h (one_line (system t plan tied) (reading t plan) l v c k)

pub runs_have_one_outcome : PlansReadOne → RunsHaveOneOutcome
runs_have_one_outcome reads t plan tied ls w outs more end stop keeps fits clear h k = one_run (system t plan tied) (reading t plan) ls w outs more end stop (reads t plan keeps fits clear) h k
