use Rattle.std.proofs.Common.{◌≡◌, ◌++◌}
use Rattle.eds_value.proofs.Merged.{of_entries}
use Rattle.eds_value.proofs.member.merged.Given as goal

-- the members of the entries before, and those that are to come
abbrev pub invariant-loop-name : goal.invariant-loop-name
invariant-loop-name l = l.merged.items ++ of_entries l.name-iterator ≡ of_entries l.initial.name-iterator
