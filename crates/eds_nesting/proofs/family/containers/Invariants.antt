use Rattle.std.proofs.Common.{◌≡◌, ◌≤◌, ◌+◌, drop}
use Rattle.eds_nesting.specs.Families.{containers, containers_over}
use Rattle.eds_nesting.proofs.family.containers.Given as goal

abbrev pub invariant-loop-id : goal.invariant-loop-id
invariant-loop-id l = (l.count + containers_over l.families l.name l.id (drop l.id l.rows) ≡ containers l.rows l.families l.name) × (l.count ≤ l.id)
