use Rattle.std.proofs.Common.{◌≡◌, ℕ, ◌<◌, ◌==◌, ◌||◌, ◌&&◌, not, length}
use Rattle.eds_graph.specs.Reaching.{mark}
use Rattle.eds_types.specs.Rows.{chain_within, list_has}
use Rattle.eds_read_types.specs.Kin.{is_over}
use Rattle.eds_read_types.proofs.kin.mark_chain.Given as goal

abbrev pub invariant-loop-left : goal.invariant-loop-left
invariant-loop-left l =
    (length l.marks ≡ length l.initial.marks)
    × ((k : ℕ) → k < length l.initial.marks → (mark l.marks k || (list_has (chain_within l.left l.rows l.at) k && (l.own || not (l.fn.id == k)))) ≡ (mark l.initial.marks k || is_over l.rows l.own l.fn.id k))

abbrev pub decreases-loop-left : goal.decreases-loop-left
decreases-loop-left l = l.left
