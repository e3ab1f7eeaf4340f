-- What members carry each way (CCSDS 876.0-B, modes of arguments and operations on parameters).
use Rattle.std.specs.Prelude.{ℕ, List, [], ◌∷◌, Bool, true, false, if◌then◌else◌, Option, Some, None}
use Rattle.eds_base.specs.declared.ids.TypeId.{TypeId}
use Rattle.eds_plan.specs.declared.activity.Op.{Op}
use Rattle.eds_plan.specs.declared.activity.Op.TheVariants as op
use Rattle.eds_plan.specs.declared.instance.Argument.{Argument}
use Rattle.eds_plan.specs.declared.instance.Member.{Member}
use Rattle.eds_plan.specs.declared.instance.Member.TheVariants as member
use Rattle.eds_plan.specs.declared.instance.Mode.{Mode}
use Rattle.eds_plan.specs.declared.instance.Mode.TheVariants.{In, Out, InOut, Notify}
use Rattle.eds_plan.specs.declared.run.Way.{Way}
use Rattle.eds_plan.specs.declared.run.Way.TheVariants.{Down, Up}

-- whether an argument of a mode goes that way: down to a provided end `in` and `inout`, up to a required one `out`, `inout`
-- and `notify`
abbrev pub goes : Way → Mode → Bool
goes Down In = true
goes Down Out = false
goes Down InOut = true
goes Down Notify = false
goes Up In = false
goes Up Out = true
goes Up InOut = true
goes Up Notify = true

-- the names and types of the arguments that go that way, in their order
abbrev pub carried_fields : Way → List Argument → List (List ℕ × TypeId)
carried_fields way [] = []
carried_fields way (a ∷ as') = if goes way a.mode then (a.name, a.id) ∷ carried_fields way as' else carried_fields way as'

-- the way in which what is sent arrives at an end, which is required or not
abbrev pub arriving : Bool → Way
arriving true = Up
arriving false = Down

-- the way in which such an end sends
abbrev pub leaving : Bool → Way
leaving true = Down
leaving false = Up

-- the types of the arguments that go that way, in their order
abbrev pub carried_of : Way → List Argument → List ℕ
carried_of way [] = []
carried_of way (a ∷ as') = if goes way a.mode then a.id.0 ∷ carried_of way as' else carried_of way as'

-- the types of the values that a member carries in a way: `set` and `val` the parameter's, `get` none
abbrev pub carried : Op → Way → Option Member → List ℕ
carried o way None = []
carried op.Command way (Some (member.Parameter name id read_only)) = []
carried op.Get way (Some (member.Parameter name id read_only)) = []
carried op.Set way (Some (member.Parameter name id read_only)) = id.0 ∷ []
carried op.Val way (Some (member.Parameter name id read_only)) = id.0 ∷ []
carried op.Command way (Some (member.Command name args)) = carried_of way args
carried op.Get way (Some (member.Command name args)) = []
carried op.Set way (Some (member.Command name args)) = []
carried op.Val way (Some (member.Command name args)) = []

-- what is done at such a member that way: commands go both ways, a parameter is asked for and set downwards, and its value
-- goes up
abbrev pub OpFits : Op → Way → Member → Type 0
OpFits op.Command way (member.Command name args) = Unit {0}
OpFits op.Get Down (member.Parameter name id read_only) = Unit {0}
OpFits op.Set Down (member.Parameter name id read_only) = Unit {0}
OpFits op.Val Up (member.Parameter name id read_only) = Unit {0}
OpFits o way m = ⊥
