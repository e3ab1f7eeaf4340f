use Rattle.std.proofs.Common.{◌≡◌, ◌<◌, ℕ, replicate, []}
use Rattle.eds_graph.specs.declared.search.State.TheVariants.{New}
use Rattle.eds_graph.specs.Search.{Has}
use Rattle.eds_graph.proofs.search.start.Given as goal

abbrev pub invariant-loop-number : goal.invariant-loop-number
invariant-loop-number l =
    (l.search.states ≡ replicate l.count New)
    × (l.search.opened ≡ [])
    × ((a : ℕ) → a < l.number → Has l.search.waiting a)
    × (l.search.parts ≡ [])
