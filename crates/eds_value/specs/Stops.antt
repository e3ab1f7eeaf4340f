-- What stops the reading of JSON.
use Rattle.std.specs.Prelude.{ℕ, List, ◌∷◌, Option, Some, None}
use Rattle.eds_base.specs.declared.fail.Fail.{Fail}
use Rattle.eds_base.specs.declared.fail.Fail.TheVariants.{Named, Memory}
use Rattle.eds_base.specs.declared.fault.Step.{Step}
use Rattle.eds_types.specs.Rows.{Table}
use Rattle.eds_value.specs.ValueOfJson.{path_inside}

-- what a wrong shape says of its path; want of memory says nothing
abbrev pub IfNamed : (List Step → Type 0) → Fail (List Step) → Type 0
IfNamed P (Named path) = P path
IfNamed P Memory = Unit {0}

-- the same stop, seen from one step further out
abbrev pub stop_behind : Step → Fail (List Step) → Fail (List Step)
stop_behind s (Named path) = Named (s ∷ path)
stop_behind s Memory = Memory

-- the same, seen from further out than an entry
abbrev pub stop_behind_entry : Option Step → Fail (List Step) → Fail (List Step)
stop_behind_entry None stop = stop
stop_behind_entry (Some s) stop = stop_behind s stop

-- a stop inside the container k, where the type id is declared
abbrev pub stop_inside : Table → ℕ → ℕ → Fail (List Step) → Fail (List Step)
stop_inside t id k (Named path) = Named (path_inside t id k path)
stop_inside t id k Memory = Memory
