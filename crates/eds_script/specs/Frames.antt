-- Frames that leave a run.
use Rattle.std.specs.Prelude.{◌≡◌, ℕ, List, ◌++◌, codes, Bool, Option, Some, None, option_map, slice_get}
use Rattle.std.specs.List.{list_any}
use Rattle.hex.specs.Hex.{encode_lower}
use Rattle.eds_base.specs.Reading.{◌>>=◌}
use Rattle.eds_base.specs.declared.ids.TypeId.{TypeId}
use Rattle.eds_bits.specs.Bits.{Bits, octets_of}
use Rattle.eds_types.specs.Plain.{Plain, plain}
use Rattle.eds_types.specs.Rows.{Table}
use Rattle.eds_types.specs.Spelling.{Canon}
use Rattle.eds_plan.specs.Carried.{carried_fields, goes}
use Rattle.eds_plan.specs.Ends.{end_at}
use Rattle.eds_plan.specs.Outs.{Report, Signal, left, stopped, refused}
use Rattle.eds_plan.specs.declared.component.ComponentPlan.{ComponentPlan}
use Rattle.eds_plan.specs.declared.component.EndPlan.{EndPlan}
use Rattle.eds_plan.specs.declared.component.Level.{Level}
use Rattle.eds_plan.specs.declared.instance.Argument.{Argument}
use Rattle.eds_plan.specs.declared.instance.Member.{Member}
use Rattle.eds_plan.specs.declared.instance.Member.TheVariants as member
use Rattle.eds_plan.specs.declared.run.Way.{Way}
use Rattle.eds_script.specs.declared.frame.Frame.{Frame}
use Rattle.eds_script.specs.Events.{frame_type, front}
use Rattle.eds_script.specs.Names.{member_in, text_of_end}
use Rattle.eds_script.specs.Places.{place_text}

-- ---- a frame

-- what stands in its line in front of a space and the hex, which are the time, the word, the end and the command; and the type
-- and the value of its one argument
pub record Framed : Type 0 where
  pub head : List ℕ
  pub id : TypeId
  pub value : Plain

-- the plain data of a frame
abbrev pub framed : Frame → Framed
framed f = record { head = front f.spot.time (codes "frame") (place_text f.spot.place) f.spot.name.now; id = f.id; value = plain f.value.now }

-- the text is the frame's line: its head, a space, and the hex of its value's canonical bits
abbrev pub IsFramed : Table → Framed → List ℕ → Type 0
IsFramed t f text = (b : Bits) × Canon t f.id.0 f.value b × (text ≡ f.head ++ codes " " ++ encode_lower (octets_of b) ++ codes "\n")

-- whether any argument goes that way
abbrev pub some_carried : Way → List Argument → Bool
some_carried way arguments = list_any (λ (a : Argument). goes way a.mode) arguments

-- ---- what leaves a run

-- a command that is sent, where its one argument that way is written as a frame
abbrev pub command_framed : (time : ℕ) → (end : List ℕ) → Level → Signal → (command : List ℕ) → List Argument → Option Framed
command_framed time end l s command arguments =
    frame_type l (carried_fields s.way arguments) >>= λ id.
    option_map (λ v. record { head = front time (codes "frame") end command; id = id; value = v }) (slice_get s.arguments 0)

-- what is sent for a member at an end of that level, where it is a frame
abbrev pub member_framed : (time : ℕ) → (end : List ℕ) → Level → Signal → Option Member → Option Framed
member_framed time end l s None = None
member_framed time end l s (Some (member.Parameter name id read_only)) = None
member_framed time end l s (Some (member.Command name arguments)) = command_framed time end l s name arguments

-- what is sent at an end that may be there, where it is a frame
abbrev pub sent_framed : (time : ℕ) → (end : List ℕ) → Signal → Option EndPlan → Option Framed
sent_framed time end s None = None
sent_framed time end s (Some e) = member_framed time end e.level s (member_in (Some e) s.member)

-- what leaves a run, where it is a frame
abbrev pub frame_in : List ComponentPlan → Report → Option Framed
frame_in plan (left time s) = sent_framed time (text_of_end plan s.end) s (end_at plan s.end)
frame_in plan (stopped time component machine halt) = None
frame_in plan (refused time e member fault) = None
