use Rattle.std.proofs.Common.{◌≡◌, ◌++◌, drop}
use Rattle.eds_nesting.specs.Families.{held_over, held_in}
use Rattle.eds_nesting.proofs.holding.held.Given as goal

abbrev pub invariant-loop-id : goal.invariant-loop-id
invariant-loop-id l = l.held.items ++ held_over l.families l.name l.id (drop l.id l.rows) ≡ held_in l.rows l.families l.name
