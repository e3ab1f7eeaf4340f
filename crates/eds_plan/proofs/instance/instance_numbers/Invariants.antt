use Rattle.std.proofs.Common.{◌≡◌, ℕ, List, ◌++◌, map, drop}
use Rattle.eds_base.specs.declared.ids.TypeId.{TypeId}
use Rattle.eds_plan.specs.Interfaces.{numbers_under}
use Rattle.eds_plan.proofs.instance.instance_numbers.Given as goal

abbrev pub invariant-loop-one : goal.invariant-loop-one
invariant-loop-one l = l.numbers.items ++ map (λ (p : List ℕ × TypeId). (p.1).0) (drop l.one-index l.given) ≡ numbers_under l.fn.face l.given
