-- Activities that call themselves.
use Rattle.std.specs.Prelude.{ℕ, List, [], ◌∷◌, map, Option, Some, None, option_map}
use Rattle.std.specs.List.{flat_map}
use Rattle.eds_tree.specs.declared.link.Link.{Link}
use Rattle.eds_read_act.specs.declared.activity_sort.ActivitySort.{ActivitySort}
use Rattle.eds_read_act.specs.declared.activity_sort.ActivitySort.TheVariants as sort
use Rattle.eds_read_act.specs.ActivitySorts.{sort_at}
use Rattle.eds_read_act.specs.Scopes.{Scope, Field, links_at}
use Rattle.eds_read_act.specs.Sending.{activity_of}

-- a number that may be there
abbrev pub number_if : Option ℕ → List ℕ
number_if None = []
number_if (Some k) = k ∷ []

-- the activity that an element calls; where it is not there nothing is called
abbrev pub called_as : ActivitySort → Scope → ℕ → List ℕ
called_as sort.Call s n = number_if (option_map (λ (a : ℕ × List Field). a.0) (activity_of s n))
called_as k s n = []

-- the activity that an element calls, if it is a call
abbrev pub called_at : Scope → Link → List ℕ
called_at s link = called_as (sort_at s.tree link.node) s link.node

-- all that an activity calls
abbrev pub calls_of : Scope → ℕ → List ℕ
calls_of s n = flat_map (called_at s) (links_at s.tree n)

-- each activity leads to those that it calls
abbrev pub call_graph : Scope → List ℕ → List (List ℕ)
call_graph s nodes = map (calls_of s) nodes
