-- The type of a frame's argument.
use Rattle.std.proofs.Common.{◌≡◌, ℕ, zero, suc, ◌<◌, length, Bool, true, false, List, [], ◌∷◌, Option, Some, None, codes, slice_get, option_map, refl, ap, subst}
use Rattle.std.specs.Prelude.{if◌then◌else◌}
use Rattle.std.specs.List.{AllByRecursion}
use Rattle.eds_base.specs.Reading.{◌>>=◌}
use Rattle.eds_base.specs.declared.ids.TypeId.{TypeId}
use Rattle.eds_types.specs.Plain.{Plain}
use Rattle.eds_types.specs.Rows.{Table}
use Rattle.eds_plan.specs.Arguments.{OnArguments, OnAllArguments}
use Rattle.eds_plan.specs.Carried.{carried_fields, goes}
use Rattle.eds_plan.specs.Ends.{end_at}
use Rattle.eds_plan.specs.Outs.{Report, Signal, left, stopped, refused}
use Rattle.eds_plan.specs.declared.component.ComponentPlan.{ComponentPlan}
use Rattle.eds_plan.specs.declared.component.EndPlan.{EndPlan}
use Rattle.eds_plan.specs.declared.component.Level.{Level}
use Rattle.eds_plan.specs.declared.component.Level.TheVariants as level
use Rattle.eds_plan.specs.declared.instance.Argument.{Argument}
use Rattle.eds_plan.specs.declared.instance.Member.{Member}
use Rattle.eds_plan.specs.declared.instance.Member.TheVariants as member
use Rattle.eds_plan.specs.declared.run.Way.{Way}
use Rattle.eds_script.specs.Events.{frame_type, front}
use Rattle.eds_script.specs.Known.{AreKnown, IsKnown, KnowsTypes}
use Rattle.eds_script.specs.Names.{member_in, text_of_end}
use Rattle.eds_script.specs.Frames.{Framed, command_framed, frame_in, member_framed, sent_framed}

-- what holds of all items holds of the one at a place
all_at : {A : Type 0} (P : A → Type 0) (xs : List A) (i : ℕ) (x : A) → slice_get xs i ≡ Some x → AllByRecursion P xs → P x
all_at P [] i x e h = absurd cc
all_at P (y ∷ xs) zero x e h = let same : y ≡ x = cc in subst P same h.0
all_at P (y ∷ xs) (suc i) x e h = all_at P xs i x e h.1

module _ (P : ℕ → Type 0) where
  all_carried : (way : Way) (args : List Argument) → AllByRecursion (λ (a : Argument). P a.id.0) args → AllByRecursion (λ (f : List ℕ × TypeId). P f.1.0) (carried_fields way args)
  all_carried way [] h = tt
  all_carried way (a ∷ args) h = go (all_carried way args h.1) (goes way a.mode)
    where
      go : AllByRecursion (λ (f : List ℕ × TypeId). P f.1.0) (carried_fields way args) → (b : Bool) → AllByRecursion (λ (f : List ℕ × TypeId). P f.1.0) (if b then (a.name, a.id) ∷ carried_fields way args else carried_fields way args)
      go rest true = (h.0, rest)
      go rest false = rest

  field_has : (l : Level) (fs : List (List ℕ × TypeId)) (id : TypeId) → frame_type l fs ≡ Some id → AllByRecursion (λ (f : List ℕ × TypeId). P f.1.0) fs → P id.0
  field_has level.Subnetwork [] id e h = cc
  field_has level.Subnetwork (f ∷ []) id e h = let same : f.1 ≡ id = cc in subst (λ (x : TypeId). P x.0) same h.0
  field_has level.Subnetwork (f ∷ g ∷ fs) id e h = cc
  field_has level.Access fs id e h = cc
  field_has level.Functional fs id e h = cc
  field_has level.Application fs id e h = cc

-- the frame of a command has the type of its one argument
abbrev Chosen : Option TypeId → Option Plain → List ℕ → Option Framed
Chosen id v head = id >>= λ i. option_map (λ x. record { head = head; id = i; value = x }) v

chosen-id : (id : Option TypeId) (v : Option Plain) (head : List ℕ) (f : Framed) → Chosen id v head ≡ Some f → id ≡ Some f.id
chosen-id None v head f e = cc
chosen-id (Some i) None head f e = cc
chosen-id (Some i) (Some x) head f e = let g : Framed = record { head = head; id = i; value = x } in let same : g ≡ f = cc in ap (λ (k : Framed). Some k.id) same

pub command-id : (time : ℕ) (end : List ℕ) (l : Level) (s : Signal) (name : List ℕ) (args : List Argument) (f : Framed) → command_framed time end l s name args ≡ Some f → frame_type l (carried_fields s.way args) ≡ Some f.id
command-id time end l s name args f e = chosen-id (frame_type l (carried_fields s.way args)) (slice_get s.arguments 0) (front time (codes "frame") end name) f e

module _ (P : ℕ → Type 0) (plan : List ComponentPlan) (all : OnAllArguments P plan) where
  member_has : (time : ℕ) (end : List ℕ) (l : Level) (s : Signal) (m : Option Member) (f : Framed) → ((x : Member) → m ≡ Some x → OnArguments P x) → member_framed time end l s m ≡ Some f → P f.id.0
  member_has time end l s None f h e = cc
  member_has time end l s (Some (member.Parameter name id read_only)) f h e = cc
  member_has time end l s (Some (member.Command name args)) f h e =
      field_has P l (carried_fields s.way args) f.id (command-id time end l s name args f e) (all_carried P s.way args (h (member.Command name args) refl))

  sent_has : (time : ℕ) (end : List ℕ) (s : Signal) (o : Option EndPlan) (f : Framed) → ((x : EndPlan) → o ≡ Some x → AllByRecursion (OnArguments P) x.instance.members) → sent_framed time end s o ≡ Some f → P f.id.0
  sent_has time end s None f h e = cc
  sent_has time end s (Some x) f h e = member_has time end x.level s (member_in (Some x) s.member) f (λ m there. all_at (OnArguments P) x.instance.members s.member m there (h x refl)) e

  ends_have : (comp face : ℕ) (x : EndPlan) → (slice_get plan comp >>= λ (c : ComponentPlan). slice_get c.ends face) ≡ Some x → AllByRecursion (OnArguments P) x.instance.members
  ends_have comp face x e = go (slice_get plan comp) refl e
    where
      go : (o : Option ComponentPlan) → slice_get plan comp ≡ o → (o >>= λ (c : ComponentPlan). slice_get c.ends face) ≡ Some x → AllByRecursion (OnArguments P) x.instance.members
      go None p q = cc
      go (Some c) p q = all_at (λ (y : EndPlan). AllByRecursion (OnArguments P) y.instance.members) c.ends face x q (all_at (λ (y : ComponentPlan). AllByRecursion (λ (z : EndPlan). AllByRecursion (OnArguments P) z.instance.members) y.ends) plan comp c p all)

  -- what holds of the types of all arguments holds of that of a frame
  pub frame_has : (r : Report) (f : Framed) → frame_in plan r ≡ Some f → P f.id.0
  frame_has (left time s) f e = sent_has time (text_of_end plan s.end) s (end_at plan s.end) f (λ x there. ends_have s.end.comp.0 s.end.face x there) e
  frame_has (stopped time component machine halt) f e = cc
  frame_has (refused time end member fault) f e = cc

-- ---- the types of a plan

module _ (t : Table) where
  members-known : (ms : List Member) → AllByRecursion (IsKnown t) ms → AllByRecursion (OnArguments (λ n. n < length t)) ms
  members-known [] h = tt
  members-known (member.Parameter name id read_only ∷ ms) h = (tt, members-known ms h.1)
  members-known (member.Command name args ∷ ms) h = (h.0, members-known ms h.1)

  ends-known : (es : List EndPlan) → AllByRecursion (AreKnown t) es → AllByRecursion (λ (e : EndPlan). AllByRecursion (OnArguments (λ n. n < length t)) e.instance.members) es
  ends-known [] h = tt
  ends-known (e ∷ es) h = (members-known e.instance.members h.0, ends-known es h.1)

  pub all-known : (plan : List ComponentPlan) → KnowsTypes t plan → OnAllArguments (λ n. n < length t) plan
  all-known [] h = tt
  all-known (c ∷ cs) h = (ends-known c.ends h.0, all-known cs h.1)

  -- the type of a frame's argument is the table's
  pub frame-known : (plan : List ComponentPlan) (r : Report) (f : Framed) → KnowsTypes t plan → frame_in plan r ≡ Some f → f.id.0 < length t
  frame-known plan r f known e = frame_has (λ n. n < length t) plan (all-known plan known) r f e
