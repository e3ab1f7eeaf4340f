-- A frame comes to one thing alone.
use Rattle.std.proofs.Common.{◌≡◌, ◌<◌, ◌+◌, ℕ, List, [], ◌∷◌, Option, Some, None, length, length-append, slice_get, refl, sym, ap, subst, ◌∙◌, arith, inl, inr}
use Rattle.std.specs.Prelude.{Result, Ok, Err}
use Rattle.std.specs.List.{AllByRecursion}
use Rattle.eds_base.specs.declared.fault.Fault.{Fault}
use Rattle.eds_base.specs.Reading.{◌>>=◌}
use Rattle.eds_bits.specs.Bits.{Bits, bits_of}
use Rattle.eds_types.specs.Overlap.{IsClear}
use Rattle.eds_types.specs.Plain.{Plain}
use Rattle.eds_types.specs.Rows.{Table}
use Rattle.eds_types.specs.Rules.{KeepsRules}
use Rattle.eds_overlap.specs.Laws.{HasOneOutcome, IsReadable, OneOutcome}
use Rattle.eds_plan.specs.Carried.{arriving, carried}
use Rattle.eds_plan.specs.Ends.{end_at}
use Rattle.eds_plan.specs.Fitting.{ComponentFits, MemberKnown, PlanFits}
use Rattle.eds_plan.specs.declared.activity.Op.TheVariants as op
use Rattle.eds_plan.specs.declared.component.ComponentPlan.{ComponentPlan}
use Rattle.eds_plan.specs.declared.component.EndPlan.{EndPlan}
use Rattle.eds_plan.specs.declared.instance.Member.{Member}
use Rattle.eds_plan.specs.declared.instance.Member.TheVariants as members
use Rattle.eds_plan.specs.declared.run.End.{End}
use Rattle.eds_plan.specs.declared.run.Way.{Way}
use Rattle.eds_act.specs.Does.{Conforms}
use Rattle.eds_host.specs.Frames.{Begins, FrameIs}
use Rattle.eds_host.specs.Hosts.{ArgumentsAreClear, FramesHaveOneOutcome, PlansReadOne, brought_to}
use Rattle.eds_plan.specs.Arguments.{OnArguments}
use Rattle.eds_host.proofs.FrameTypes.{all_at, one_has}

module _ (t : Table) (id : ℕ) (bits : Bits) (one : HasOneOutcome t id bits) where
  same_value : (v w : Plain) (x y : Bits) → Begins t id v x bits → Begins t id w y bits → v ≡ w
  same_value v w x y b c = (one.one_value v w b.front c.front x y b.split c.split b.spelled c.spelled).0

  -- so many bits are left behind the value
  same_rest : (v w : Plain) (x y : Bits) → Begins t id v x bits → Begins t id w y bits → length x ≡ length y
  same_rest v w x y b c =
      let front : b.front ≡ c.front = (one.one_value v w b.front c.front x y b.split c.split b.spelled c.spelled).1 in
      let p : length b.front + length x ≡ length c.front + length y = sym (length-append b.front x) ∙ ap length (sym b.split ∙ c.split) ∙ length-append c.front y in
      omega (arith, p, ap length front)

  value_and_fault : (v : Plain) (g : Fault) → FrameIs t id bits (Ok v) → FrameIs t id bits (Err g) → ⊥
  value_and_fault v g h (inl f) = one.not_both v h.1.front h.0 g h.1.split h.1.spelled f
  value_and_fault v g h (inr q) = let e = same_rest v q.0 h.0 q.1 h.1 q.2 in omega (arith, h.2, q.3, e)

  two_faults : (g h : Fault) → FrameIs t id bits (Err g) → FrameIs t id bits (Err h) → g ≡ h
  two_faults g h (inl f) (inl k) = one.one_place g h f k
  two_faults g h (inl f) (inr q) = absurd (one.not_both q.0 q.2.front q.1 g q.2.split q.2.spelled f)
  two_faults g h (inr q) (inl k) = absurd (one.not_both q.0 q.2.front q.1 h q.2.split q.2.spelled k)
  two_faults g h (inr q) (inr p) = q.4 ∙ sym p.4

  pub one_frame : (r s : Result Plain Fault) → FrameIs t id bits r → FrameIs t id bits s → r ≡ s
  one_frame (Ok v) (Ok w) h k = ap (λ (x : Plain). Ok x) (same_value v w h.0 k.0 h.1 k.1)
  one_frame (Ok v) (Err g) h k = absurd (value_and_fault v g h k)
  one_frame (Err g) (Ok v) h k = absurd (value_and_fault v g k h)
  one_frame (Err g) (Err h) p q = ap (λ (x : Fault). Err x) (two_faults g h p q)

pub frames_have_one_outcome : OneOutcome → FramesHaveOneOutcome
frames_have_one_outcome law t id readable bits r s h k = one_frame t id bits (law t id readable bits) r s h k

-- ---- the frames of a plan

-- the one type that a command carries is of the table, and clear
module _ (t : Table) (plan : List ComponentPlan) (rules : KeepsRules t) (fits : PlanFits t (Conforms t) plan) (clear : ArgumentsAreClear t plan) where
  command_readable : (way : Way) (m : Option Member) (id : ℕ) → MemberKnown t m → ((x : Member) → m ≡ Some x → OnArguments (IsClear t) x) → carried op.Command way m ≡ id ∷ [] → IsReadable t id
  command_readable way None id known free e = absurd cc
  command_readable way (Some (members.Parameter name k read_only)) id known free e = absurd cc
  command_readable way (Some (members.Command name args)) id known free e = record {
    rules = rules;
    there = one_has (λ n. n < length t) way args id [] e known;
    clear = one_has (λ n. IsClear t n) way args id [] e (free (members.Command name args) refl);
  }

  pub end_readable : (at : End) (end : Option EndPlan) (number id : ℕ) → end_at plan at ≡ end → brought_to end number ≡ id ∷ [] → IsReadable t id
  end_readable at None number id is e = absurd cc
  end_readable at (Some end) number id is e = go (slice_get plan at.comp.0) refl is
    where
      go : (o : Option ComponentPlan) → slice_get plan at.comp.0 ≡ o → (o >>= λ c. slice_get c.ends at.face) ≡ Some end → IsReadable t id
      go None p q = absurd cc
      go (Some c) p q =
          let own = all_at (ComponentFits t (Conforms t)) plan at.comp.0 c p fits.components in
          let ends = all_at (λ (x : ComponentPlan). AllByRecursion (λ (y : EndPlan). AllByRecursion (OnArguments (IsClear t)) y.instance.members) x.ends) plan at.comp.0 c p clear in
          let free = all_at (λ (y : EndPlan). AllByRecursion (OnArguments (IsClear t)) y.instance.members) c.ends at.face end q ends in
          command_readable (arriving end.required) (slice_get end.instance.members number) id (own.members at.face number end q) (λ x there. all_at (OnArguments (IsClear t)) end.instance.members number x there free) e

-- the first type is the one
pub brought_one : (o : Option EndPlan) (e : EndPlan) (number x y : ℕ) (xs : List ℕ) → brought_to o number ≡ x ∷ xs → o ≡ Some e → brought_to (Some e) number ≡ y ∷ [] → brought_to (Some e) number ≡ x ∷ []
brought_one o e number x y xs h is one =
    let f : x ∷ xs ≡ y ∷ [] = sym h ∙ ap (λ p. brought_to p number) is ∙ one in
    let same : x ≡ y = cc in
    one ∙ ap (λ n. n ∷ []) (sym same)

pub plans_read_one : OneOutcome → PlansReadOne
plans_read_one law t plan rules fits clear comp face number octets r s h k =
    let at : End = record { comp = record { 0 = comp }; face = face } in
    let same : h.0 ≡ k.0 = let f : h.0 ∷ [] ≡ k.0 ∷ [] = sym h.1 ∙ k.1 in cc in
    frames_have_one_outcome law t h.0 (end_readable t plan rules fits clear at (end_at plan at) number h.0 refl h.1) (bits_of octets) r s h.2
    (subst (λ n. FrameIs t n (bits_of octets) s) (sym same) k.2)
