use Rattle.std.proofs.Common.{◌≡◌, drop}
use Rattle.eds_read_act.specs.Inside.{first_where, gives, given_for}
use Rattle.eds_read_act.proofs.inside.given_for.Given as goal

abbrev pub invariant-loop-child : goal.invariant-loop-child
invariant-loop-child l = first_where (gives l.tree l.name) (drop l.child-index l.child-items) ≡ given_for l.tree l.node l.name
