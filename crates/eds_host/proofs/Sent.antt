-- What is sent, one after another.
use Rattle.std.proofs.Common.{◌≡◌, ℕ, List, [], ◌∷◌, ◌++◌, Option, Some, refl, sym, ap, subst, ◌∙◌, append_assoc, map}
use Rattle.std.proofs.lemmas.List.{map-append}
use Rattle.std.specs.List.{AllByRecursion}
use Rattle.std.specs.Prelude.{slice_get}
use Rattle.eds_plan.specs.declared.component.ComponentPlan.{ComponentPlan}
use Rattle.eds_plan.specs.declared.run.End.{End}
use Rattle.eds_plan.specs.declared.run.Out.{Out}
use Rattle.eds_plan.specs.Carried.{leaving as leaving_way}
use Rattle.eds_plan.specs.Outs.{Signal, Report, report, stopped}
use Rattle.eds_plan.specs.Sends.{Sent, primitive, halted}
use Rattle.eds_types.specs.Rows.{Table}
use Rattle.eds_host.specs.Plans.{Arrives, Leaves, AreTied, MayAllGoOut, MayGoOut, WiresFit}
use Rattle.eds_host.specs.Systems.{queued, leaving, delivered_at, leaves_at, sent_at}

some : {A : Type 0} {a b : A} → Some a ≡ Some b → a ≡ b
some e = cc

pub reported : (os : List Out) (o : Out) → map report (os ++ o ∷ []) ≡ map report os ++ report o ∷ []
reported os o = map-append report os (o ∷ [])

pub placed_last : {A : Type 0} (P : A → Type 0) (ps : List A) (p : A) → AllByRecursion P ps → P p → AllByRecursion P (ps ++ p ∷ [])
placed_last P [] p h k = (k, tt)
placed_last P (q ∷ qs) p h k = (h.0, placed_last P qs p h.1 k)

-- one thing more leaves the run
pub out_last : (t : Table) (plan : List ComponentPlan) (os qs : List Report) (r : Report) → qs ≡ os ++ r ∷ [] → MayGoOut t plan r → MayAllGoOut t plan os → MayAllGoOut t plan qs
out_last t plan os qs r is fit all = subst (λ (xs : List Report). MayAllGoOut t plan xs) (sym is) (placed_last (MayGoOut t plan) os r all fit)

pub queued_more : (tied : End → Option End) (xs ys : List Sent) → queued tied (xs ++ ys) ≡ queued tied xs ++ queued tied ys
queued_more tied [] ys = refl
queued_more tied (primitive c e m way op vs ∷ xs) ys = let s = sent_at c e m way op vs in ap (λ q. delivered_at s (tied s.end) ++ q) (queued_more tied xs ys) ∙ sym (append_assoc (delivered_at s (tied s.end)) (queued tied xs) (queued tied ys))
queued_more tied (halted machine h ∷ xs) ys = queued_more tied xs ys

pub leaving_more : (tied : End → Option End) (now comp : ℕ) (xs ys : List Sent) → leaving tied now comp (xs ++ ys) ≡ leaving tied now comp xs ++ leaving tied now comp ys
leaving_more tied now comp [] ys = refl
leaving_more tied now comp (primitive c e m way op vs ∷ xs) ys = let s = sent_at c e m way op vs in ap (λ q. leaves_at now s (tied s.end) ++ q) (leaving_more tied now comp xs ys) ∙ sym (append_assoc (leaves_at now s (tied s.end)) (leaving tied now comp xs) (leaving tied now comp ys))
leaving_more tied now comp (halted machine h ∷ xs) ys = ap (λ q. stopped now comp machine h ∷ q) (leaving_more tied now comp xs ys)

-- what may leave at one end of a wire may arrive at the other
pub arrives_tied : (t : Table) (plan : List ComponentPlan) (tied : End → Option End) (s : Signal) (e : End) → WiresFit plan tied → Leaves t plan s → tied s.end ≡ Some e → Arrives t plan (record s { end = e })
arrives_tied t plan tied s e fit h is = go (fit s.end e is)
  where
    go : AreTied plan s.end e → Arrives t plan (record s { end = e })
    go w =
        let one : h.end ≡ w.one = some (sym h.here ∙ w.one_is) in
        record {
          end = w.other;
          here = w.other_is;
          member = h.member;
          there = ap (λ ms. slice_get ms s.member) (w.same ∙ ap (λ x. x.instance.members) (sym one)) ∙ h.there;
          way = h.way ∙ ap (λ x. leaving_way x.required) one ∙ sym w.turned;
          op = h.op;
          values = h.values;
        }
