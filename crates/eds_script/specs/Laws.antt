-- What is told of a run can be read again.
use Rattle.std.specs.Prelude.{◌≡◌, ℕ, ◌≤◌, List, ◌++◌, length, Option, Some, None, slice_get, Ok}
use Rattle.hex.specs.Hex.{encode_lower}
use Rattle.eds_base.specs.declared.ids.TypeId.{TypeId}
use Rattle.eds_bits.specs.Bits.{Bits, bits_of, octets_of}
use Rattle.eds_types.specs.Packing.{most_bits}
use Rattle.eds_types.specs.Plain.{Plain}
use Rattle.eds_types.specs.Rows.{Table}
use Rattle.eds_types.specs.Rules.{KeepsRules}
use Rattle.eds_value.specs.Json.{arguments_in, value_in}
use Rattle.eds_value.specs.JsonOfValue.{arguments_text, json_text}
use Rattle.eds_value.specs.Laws.{AreNamed}
use Rattle.eds_plan.specs.Carried.{carried_fields}
use Rattle.eds_plan.specs.Outs.{Report, Signal, left, stopped, refused}
use Rattle.eds_plan.specs.declared.component.ComponentPlan.{ComponentPlan}
use Rattle.eds_plan.specs.declared.component.EndPlan.{EndPlan}
use Rattle.eds_plan.specs.declared.component.Level.{Level}
use Rattle.eds_plan.specs.declared.instance.Member.{Member}
use Rattle.eds_plan.specs.declared.instance.Member.TheVariants as member
use Rattle.eds_plan.specs.Ends.{end_at}
use Rattle.eds_script.specs.Events.{IsEventLine, frame_type}
use Rattle.eds_script.specs.Given.{frame_octets}
use Rattle.eds_script.specs.Known.{KnowsTypes}
use Rattle.eds_script.specs.Names.{member_in}

-- ---- JSON

-- the JSON of a command's arguments is read, over the fields of that way, as these arguments; a frame has none
abbrev pub ArgumentsRead : Option TypeId → Table → List (List ℕ × TypeId) → List Plain → Type 0
ArgumentsRead (Some id) t fields vs = Unit {0}
ArgumentsRead None t fields vs = AreNamed fields → arguments_in t fields (arguments_text t fields vs) ≡ Ok vs

-- the JSON in the line of what is sent for a member is read as what was sent
abbrev pub MemberReads : Table → Level → Signal → Option Member → Type 0
MemberReads t l s None = Unit {0}
MemberReads t l s (Some (member.Parameter name id read_only)) = (v : Plain) → slice_get s.arguments 0 ≡ Some v → value_in t id.0 (json_text t v) ≡ Ok v
MemberReads t l s (Some (member.Command name args)) = ArgumentsRead (frame_type l (carried_fields s.way args)) t (carried_fields s.way args) s.arguments

-- the same at the end where it was sent
abbrev pub SentReads : Table → Signal → Option EndPlan → Type 0
SentReads t s None = Unit {0}
SentReads t s (Some e) = MemberReads t e.level s (member_in (Some e) s.member)

-- the same of all that leaves a run
abbrev pub EventReads : Table → List ComponentPlan → Report → Type 0
EventReads t plan (left time s) = SentReads t s (end_at plan s.end)
EventReads t plan (stopped time component machine h) = Unit {0}
EventReads t plan (refused time e member fault) = Unit {0}

-- ---- hex

-- octets that begin with the bits, with at most 7 more
pub record Hold (octets : List ℕ) (bits : Bits) : Type 0 where
  pub rest : Bits
  pub begins : bits_of octets ≡ bits ++ rest
  pub few : length rest ≤ 7

-- the hex of a frame's bits is read, as a script's line gives it, as octets that begin with these
abbrev pub FramesRead : Type 0
FramesRead = (bits : Bits) → length bits ≤ most_bits → (octets : List ℕ) × (frame_octets (encode_lower (octets_of bits)) ≡ Some octets) × Hold octets bits

-- ---- one text

-- what leaves a run has one line at most, where the plan's members have types of the table
abbrev pub OneLine : Type 0
OneLine = (t : Table) (plan : List ComponentPlan) (r : Report) (one other : List ℕ) → KeepsRules t → KnowsTypes t plan
    → IsEventLine t plan r one → IsEventLine t plan r other → one ≡ other
