use Rattle.std.proofs.Common.{◌≡◌, ◌++◌, drop}
use Rattle.std.specs.Prelude.{option_map}
use Rattle.eds_overlap.specs.Index.{marks_on, sets_of}
use Rattle.eds_overlap.proofs.index.numbers_on.Given as goal

-- the numbers so far go before those that are left
abbrev pub invariant-loop-one : goal.invariant-loop-one
invariant-loop-one l = marks_on l.model (sets_of l.sets l.id.0) ≡ option_map (λ ms. l.numbers ++ ms) (marks_on (drop l.one-index l.model) (sets_of l.sets l.id.0))
