-- What a script has happen may be handed to a host.
use Rattle.std.proofs.Common.{◌≡◌, ◌+◌, ℕ, List, [], ◌∷◌, map, length, Bool, true, false, cond, Some, None, refl, sym, ap, subst, ◌∙◌, arith}
use Rattle.eds_base.specs.declared.ids.TypeId.{TypeId}
use Rattle.eds_types.specs.Plain.{Plain}
use Rattle.eds_types.specs.Rows.{Table}
use Rattle.eds_plan.specs.Carried.{arriving, carried, carried_fields, carried_of, goes}
use Rattle.eds_plan.specs.Lines.{Told, starts, passes, framed}
use Rattle.eds_plan.specs.Lines as lines
use Rattle.eds_plan.specs.declared.activity.Op.TheVariants as op
use Rattle.eds_plan.specs.declared.component.ComponentPlan.{ComponentPlan}
use Rattle.eds_plan.specs.declared.instance.Argument.{Argument}
use Rattle.eds_plan.specs.declared.run.End.{End}
use Rattle.eds_plan.specs.declared.run.Way.{Way}
use Rattle.eds_plan.specs.declared.run.Wire.{Wire}
use Rattle.std.specs.Prelude.{Ok}
use Rattle.eds_act.specs.Does.{AllConform}
use Rattle.eds_script.specs.Fitting.{IsValueOf}
use Rattle.eds_script.specs.Handing.{IsFree, MayAllHappen, MayBring, MayHappen, ScriptsMayRun, end_of, passed}
use Rattle.eds_script.specs.Pairs.{AllPaired}
use Rattle.eds_host.specs.declared.wiring.Tie.{Tie}
use Rattle.eds_host.specs.Hosts.{BringsOne, MayAllGoOn, MayAllStart, MayGoOn, UnnamedEndsAreOutside, asked_by}
use Rattle.eds_host.specs.Runs.{time_after}
use Rattle.eds_host.specs.Wires.{other_end, ties_of}
use Rattle.eds_cmd.specs.RunLaws.{ScriptsMayBeHandled}
use Rattle.eds_cmd.proofs.Printing.{plans_know_types}

-- ---- values

conform : (t : Table) (ids : List ℕ) (vs : List Plain) → AllPaired (λ (id : ℕ) (v : Plain). IsValueOf t id v) ids vs → AllConform t ids vs
conform t [] [] h = tt
conform t [] (v ∷ vs) h = absurd h
conform t (id ∷ ids) [] h = absurd h
conform t (id ∷ ids) (v ∷ vs) h = ((h.0.size, h.0.packs), conform t ids vs h.1)

abbrev types : List (List ℕ × TypeId) → List ℕ
types fs = map (λ (f : List ℕ × TypeId). f.1.0) fs

carried_types : (way : Way) (args : List Argument) → carried_of way args ≡ types (carried_fields way args)
carried_types way [] = refl
carried_types way (a ∷ as') = go (goes way a.mode) (carried_types way as')
  where
    go : (b : Bool) → carried_of way as' ≡ types (carried_fields way as')
        → cond b (a.id.0 ∷ carried_of way as') (carried_of way as') ≡ types (cond b ((a.name, a.id) ∷ carried_fields way as') (carried_fields way as'))
    go true e = ap (λ ids. a.id.0 ∷ ids) e
    go false e = e

one_type : (fs : List (List ℕ × TypeId)) → length fs ≡ 1 → (id : ℕ) × (types fs ≡ id ∷ [])
one_type [] e = absurd (omega (arith, e))
one_type (f ∷ []) e = (f.1.0, refl)
one_type (f ∷ g ∷ fs) e = absurd (omega (arith, e))

brings : (plan : List ComponentPlan) (comp face number : ℕ) (octets : List ℕ) → MayBring plan (end_of comp face) number octets → BringsOne plan comp face number
brings plan comp face number octets h =
    let one = one_type (carried_fields (arriving h.end.required) h.arguments) h.one in
    record {
      end = h.end;
      end_is = h.end_is;
      name = h.name;
      arguments = h.arguments;
      command = h.command;
      id = one.0;
      one = ap (carried op.Command (arriving h.end.required)) h.command ∙ carried_types (arriving h.end.required) h.arguments ∙ one.1;
    }

-- ---- lines

module _ (outside : UnnamedEndsAreOutside) (t : Table) (plan : List ComponentPlan) (wires : List Wire) (ties : List Tie) (tied : ties_of plan (map (asked_by plan) wires) ≡ Ok ties) where
  free_outside : (e : End) → IsFree plan wires e → other_end ties e ≡ None
  free_outside e f = outside plan wires ties f.text e tied f.named f.unnamed

  goes_on : (now : ℕ) (l : Told) → MayHappen t plan wires now l → MayGoOn t plan ties now l
  goes_on now starts h = absurd h
  goes_on now (passes n) h = h
  goes_on now (lines.arrives comp face number way o vs) h = (
    free_outside (end_of comp face) h.0,
    record { end = h.1.end; here = h.1.end_is; member = h.1.member; there = h.1.member_is; way = h.1.way_is; op = h.1.op; values = conform t (carried o way (Some h.1.member)) vs h.1.values },
  )
  goes_on now (framed comp face number octets) h = (free_outside (end_of comp face) h.0, h.1.few, brings plan comp face number octets h.1)

  time_is : (now : ℕ) (l : Told) → MayHappen t plan wires now l → now + passed l ≡ time_after l now
  time_is now starts h = absurd h
  time_is now (passes n) h = refl
  time_is now (lines.arrives comp face number way o vs) h = omega arith
  time_is now (framed comp face number octets) h = omega arith

  all_go_on : (now : ℕ) (ls : List (ℕ × Told)) → MayAllHappen t plan wires now ls → MayAllGoOn t plan ties now (map (λ (l : ℕ × Told). l.1) ls)
  all_go_on now [] h = tt
  all_go_on now (l ∷ ls) h = (
    goes_on now l.1 h.0,
    subst (λ n. MayAllGoOn t plan ties n (map (λ (k : ℕ × Told). k.1) ls)) (time_is now l.1 h.0) (all_go_on (now + passed l.1) ls h.1),
  )

pub scripts_may_be_handled : ScriptsMayRun → UnnamedEndsAreOutside → ScriptsMayBeHandled
scripts_may_be_handled run outside h octets p rules fits said tied =
    let r = run h.table h.plan octets p rules (plans_know_types h.table h.plan fits) said in
    subst (λ (ls : List (ℕ × Told)). MayAllStart h (map (λ (l : ℕ × Told). l.1) ls)) (sym r.lines) (refl, all_go_on outside h.table h.plan p.wires h.wires tied 0 r.rest r.happen)
