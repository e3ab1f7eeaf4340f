-- What has a value in an object: the entries and lists of a container, and arguments.
use Rattle.std.specs.Prelude.{ℕ, List, map, Bool, true, false, Option, Some, None}
use Rattle.std.specs.List.{filter_map}
use Rattle.eds_base.specs.declared.ids.TypeId.{TypeId}
use Rattle.eds_base.specs.declared.fault.Step.{Step}
use Rattle.eds_base.specs.declared.fault.Step.TheVariants as step
use Rattle.eds_types.specs.declared.row.Part.{Part}
use Rattle.eds_types.specs.declared.row.Part.TheVariants as part
use Rattle.eds_types.specs.Fields.{part_at}
use Rattle.eds_types.specs.Rows.{Table, address, sequence}

-- an entry or list: the step to it from its container, its name, and its type or that of its items. An argument is one too:
-- no step leads to it, since its path begins at its own value
pub record Entry : Type 0 where
  pub step : Option Step
  pub name : List ℕ
  pub id : ℕ
  pub is_list : Bool

-- a part as an entry, where it has a value
abbrev pub entry_by : TypeId × ℕ → Option Part → Option Entry
entry_by a None = None
entry_by a (Some (part.Plain name id)) = Some (record { step = Some (step.Part a.0 a.1); name = name; id = id.0; is_list = false })
entry_by a (Some (part.Fixed name id v)) = None
entry_by a (Some (part.Pad n)) = None
entry_by a (Some (part.List name id y i)) = Some (record { step = Some (step.Part a.0 a.1); name = name; id = id.0; is_list = true })
entry_by a (Some (part.Length name id c0 c1)) = None
entry_by a (Some (part.Check name id check)) = None

-- the entry at an address
abbrev pub entry_at : Table → TypeId × ℕ → Option Entry
entry_at t a = entry_by a (part_at t a)

-- the entries and lists of a container and of its bases, in the order of their bits
abbrev pub entries_along : Table → ℕ → List Entry
entries_along t k = filter_map (entry_at t) (map address (sequence t k))

-- ---- arguments

-- an argument of a name and a type, as an entry of an object
abbrev pub argument : List ℕ × TypeId → Entry
argument f = record { step = None; name = f.0; id = f.1.0; is_list = false }

-- the arguments of these names and types
abbrev pub arguments : List (List ℕ × TypeId) → List Entry
arguments fs = map argument fs
