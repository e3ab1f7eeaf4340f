-- The lines of what leaves a run: what components send, activities that halt, and frames that are refused.
use Rattle.std.specs.Prelude.{◌≡◌, ℕ, List, [], ◌∷◌, ◌++◌, codes, decimal, Option, Some, None, slice_get}
use Rattle.std.specs.Str.{IsUtf8}
use Rattle.hex.specs.Hex.{encode_lower}
use Rattle.eds_base.specs.Faults.{reason_name}
use Rattle.eds_base.specs.declared.fault.Fault.{Fault}
use Rattle.eds_base.specs.declared.ids.TypeId.{TypeId}
use Rattle.eds_bits.specs.Bits.{Bits, octets_of}
use Rattle.eds_types.specs.Plain.{Plain}
use Rattle.eds_types.specs.Rows.{Table}
use Rattle.eds_types.specs.Spelling.{Canon}
use Rattle.eds_value.specs.JsonOfValue.{arguments_text, json_text}
use Rattle.eds_value.specs.Paths.{path_text}
use Rattle.eds_plan.specs.Carried.{carried_fields}
use Rattle.eds_plan.specs.Outs.{Report, Signal, left, stopped, refused}
use Rattle.eds_plan.specs.Plans.{component_at}
use Rattle.eds_plan.specs.declared.activity.Op.{Op}
use Rattle.eds_plan.specs.declared.activity.Op.TheVariants as op
use Rattle.eds_plan.specs.declared.component.ComponentPlan.{ComponentPlan}
use Rattle.eds_plan.specs.declared.component.EndPlan.{EndPlan}
use Rattle.eds_plan.specs.declared.component.Level.{Level}
use Rattle.eds_plan.specs.declared.component.Level.TheVariants as level
use Rattle.eds_plan.specs.declared.instance.Member.{Member}
use Rattle.eds_plan.specs.declared.instance.Member.TheVariants as member
use Rattle.eds_plan.specs.declared.run.Halt.{Halt}
use Rattle.eds_plan.specs.declared.run.Halt.TheVariants as halt
use Rattle.eds_plan.specs.Ends.{end_at}
use Rattle.eds_script.specs.Names.{machine_name, member_in, member_name, text_of_end}

-- ---- what is sent

-- `T WORD END MEMBER`
unfoldable pub front : (time : ℕ) → (word end member : List ℕ) → List ℕ
front time word end member = decimal time ++ codes " " ++ word ++ codes " " ++ end ++ codes " " ++ member

-- `T WORD END MEMBER GIVEN`
abbrev pub given_line : (time : ℕ) → (word end member given : List ℕ) → List ℕ
given_line time word end member given = front time word end member ++ codes " " ++ given ++ codes "\n"

-- the type of the argument that is written as a frame: the only one that goes that way, at an end of the level of a bus
abbrev pub frame_type : Level → List (List ℕ × TypeId) → Option TypeId
frame_type level.Subnetwork (f ∷ []) = Some f.1
frame_type level.Subnetwork [] = None
frame_type level.Subnetwork (f ∷ g ∷ fs) = None
frame_type level.Access fs = None
frame_type level.Functional fs = None
frame_type level.Application fs = None

-- a frame: the canonical bits of the one value, whose octets are written as hex, the last filled with zeros
pub record IsFrameLine (t : Table) (time : ℕ) (end name : List ℕ) (id : TypeId) (vs : List Plain) (text : List ℕ) : Type 0 where
  pub value : Plain
  pub bits : Bits
  pub one : vs ≡ value ∷ []
  pub canonical : Canon t id.0 value bits
  pub line : text ≡ given_line time (codes "frame") end name (encode_lower (octets_of bits))

-- a command: a frame of its one argument, or else the JSON of what it carries that way
abbrev pub IsCommandBy : Option TypeId → Table → (time : ℕ) → (end name : List ℕ) → List (List ℕ × TypeId) → List Plain → List ℕ → Type 0
IsCommandBy (Some id) t time end name fields vs text = IsFrameLine t time end name id vs text
IsCommandBy None t time end name fields vs text = text ≡ given_line time (codes "cmd") end name (arguments_text t fields vs)

-- what is asked of a parameter, or told of it
abbrev pub op_word : Op → List ℕ
op_word op.Command = codes "cmd"
op_word op.Get = codes "get"
op_word op.Set = codes "set"
op_word op.Val = codes "val"

-- a space and the JSON of a value, where there is one
abbrev pub value_word : Table → Option Plain → List ℕ
value_word t None = []
value_word t (Some v) = codes " " ++ json_text t v

-- `T get END PARAMETER`, `T set END PARAMETER JSON` and `T val END PARAMETER JSON`
abbrev pub parameter_line : Table → (time : ℕ) → (end name : List ℕ) → Op → List Plain → List ℕ
parameter_line t time end name o vs = front time (op_word o) end name ++ value_word t (slice_get vs 0) ++ codes "\n"

-- what is sent for a member at an end of that level
abbrev pub IsMemberLine : Table → (time : ℕ) → (end : List ℕ) → Level → Signal → Option Member → List ℕ → Type 0
IsMemberLine t time end l s None text = ⊥
IsMemberLine t time end l s (Some (member.Parameter name id read_only)) text = text ≡ parameter_line t time end name s.op s.arguments
IsMemberLine t time end l s (Some (member.Command name args)) text = IsCommandBy (frame_type l (carried_fields s.way args)) t time end name (carried_fields s.way args) s.arguments text

-- what is sent at an end that may be there
abbrev pub IsSentLine : Table → (time : ℕ) → (end : List ℕ) → Signal → Option EndPlan → List ℕ → Type 0
IsSentLine t time end s None text = ⊥
IsSentLine t time end s (Some e) text = IsMemberLine t time end e.level s (member_in (Some e) s.member) text

-- ---- what goes wrong

-- why an activity halts
abbrev pub halt_word : Halt → List ℕ
halt_word halt.OutOfRange = codes "OutOfRange"
halt_word halt.BadArgument = codes "BadArgument"
halt_word halt.Budget = codes "Budget"

-- `T halt COMPONENT MACHINE HALT`
abbrev pub halt_line : (time : ℕ) → (component machine : List ℕ) → Halt → List ℕ
halt_line time component machine h = front time (codes "halt") component machine ++ codes " " ++ halt_word h ++ codes "\n"

-- `T reject END COMMAND REASON at PATH`
abbrev pub reject_line : Table → (time : ℕ) → (end name : List ℕ) → Fault → List ℕ
reject_line t time end name fault = front time (codes "reject") end name ++ codes " " ++ reason_name fault.reason ++ codes " at " ++ path_text t fault.path ++ codes "\n"

-- ---- all

-- the text is the line of what leaves a run
abbrev pub IsEventLine : Table → List ComponentPlan → Report → List ℕ → Type 0
IsEventLine t plan (left time s) text = IsSentLine t time (text_of_end plan s.end) s (end_at plan s.end) text
IsEventLine t plan (stopped time component machine h) text = text ≡ halt_line time (component_at plan component).name (machine_name (component_at plan component) machine) h
IsEventLine t plan (refused time e member fault) text = text ≡ reject_line t time (text_of_end plan e) (member_name (end_at plan e) member) fault

-- ---- a line

-- a text that is UTF-8, and a line feed behind it
abbrev pub IsTextLine : List ℕ → Type 0
IsTextLine line = (text : List ℕ) × IsUtf8 text × (line ≡ text ++ codes "\n")
