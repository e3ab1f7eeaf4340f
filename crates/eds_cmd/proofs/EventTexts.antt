-- What leaves a run has a text: its line without the line feed.
use Rattle.std.proofs.Common.{ℕ, List, [], ◌∷◌, ◌++◌, codes, Option, Some, None, slice_get, refl}
use Rattle.std.specs.List.{AllByRecursion}
use Rattle.eds_base.specs.declared.ids.TypeId.{TypeId}
use Rattle.eds_base.specs.Faults.{reason_name}
use Rattle.eds_bits.specs.Bits.{octets_of}
use Rattle.hex.specs.Hex.{encode_lower}
use Rattle.eds_plan.specs.Carried.{carried_fields}
use Rattle.eds_plan.specs.Ends.{end_at}
use Rattle.eds_plan.specs.Outs.{Report, Signal, left, refused, stopped}
use Rattle.eds_plan.specs.Plans.{component_at}
use Rattle.eds_plan.specs.declared.component.ComponentPlan.{ComponentPlan}
use Rattle.eds_plan.specs.declared.component.EndPlan.{EndPlan}
use Rattle.eds_plan.specs.declared.component.Level.{Level}
use Rattle.eds_plan.specs.declared.instance.Member.{Member}
use Rattle.eds_plan.specs.declared.instance.Member.TheVariants as member
use Rattle.eds_replay.specs.Laws.{HasText}
use Rattle.eds_script.specs.Events.{IsCommandBy, IsEventLine, IsMemberLine, IsSentLine, frame_type, front, halt_word, op_word, value_word}
use Rattle.eds_script.specs.Fitting.{FitsPlan}
use Rattle.eds_script.specs.Names.{machine_name, member_in, member_name, text_of_end}
use Rattle.eds_types.specs.Plain.{Plain}
use Rattle.eds_types.specs.Rows.{Table}
use Rattle.eds_value.specs.JsonOfValue.{arguments_text}
use Rattle.eds_value.specs.Paths.{path_text}
use Rattle.eds_cmd.proofs.SomeRun.{event_line}

-- a line of that claim has a line feed at its end
abbrev HasFeed : (List ℕ → Type 0) → Type 0
HasFeed Is = (text : List ℕ) × Is (text ++ codes "\n")

-- `T WORD END MEMBER GIVEN`, without the line feed
abbrev given_text : (time : ℕ) → (word end name given : List ℕ) → List ℕ
given_text time word end name given = front time word end name ++ codes " " ++ given

module _ (t : Table) (time : ℕ) (end : List ℕ) where
  command_feed : (name : List ℕ) (id : Option TypeId) (fields : List (List ℕ × TypeId)) (vs : List Plain) (line : List ℕ) → IsCommandBy id t time end name fields vs line → HasFeed (IsCommandBy id t time end name fields vs)
  command_feed name None fields vs line is = (given_text time (codes "cmd") end name (arguments_text t fields vs), refl)
  command_feed name (Some id) fields vs line is =
      (given_text time (codes "frame") end name (encode_lower (octets_of is.bits)), record { value = is.value; bits = is.bits; one = is.one; canonical = is.canonical; line = refl })

  member_feed : (l : Level) (s : Signal) (m : Option Member) (line : List ℕ) → IsMemberLine t time end l s m line → HasFeed (IsMemberLine t time end l s m)
  member_feed l s None line is = absurd is
  member_feed l s (Some (member.Parameter name id read_only)) line is = (front time (op_word s.op) end name ++ value_word t (slice_get s.arguments 0), refl)
  member_feed l s (Some (member.Command name args)) line is = command_feed name (frame_type l (carried_fields s.way args)) (carried_fields s.way args) s.arguments line is

  sent_feed : (s : Signal) (e : Option EndPlan) (line : List ℕ) → IsSentLine t time end s e line → HasFeed (IsSentLine t time end s e)
  sent_feed s None line is = absurd is
  sent_feed s (Some e) line is = member_feed e.level s (member_in (Some e) s.member) line is

event_feed : (t : Table) (plan : List ComponentPlan) (r : Report) (line : List ℕ) → IsEventLine t plan r line → HasText t plan r
event_feed t plan (left time s) line is = sent_feed t time (text_of_end plan s.end) s (end_at plan s.end) line is
event_feed t plan (stopped time comp machine halt) line is = (front time (codes "halt") (component_at plan comp).name (machine_name (component_at plan comp) machine) ++ codes " " ++ halt_word halt, refl)
event_feed t plan (refused time e number fault) line is =
    (front time (codes "reject") (text_of_end plan e) (member_name (end_at plan e) number) ++ codes " " ++ reason_name fault.reason ++ codes " at " ++ path_text t fault.path, refl)

-- what fits the plan has a text
pub all_texts : (t : Table) (plan : List ComponentPlan) (rs : List Report) → AllByRecursion (FitsPlan t plan) rs → AllByRecursion (HasText t plan) rs
all_texts t plan [] h = tt
all_texts t plan (r ∷ rs) h = let line = event_line t plan r h.0 in (event_feed t plan r line.0 line.1, all_texts t plan rs h.1)
