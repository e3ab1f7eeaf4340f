use Rattle.std.proofs.Common.{◌≡◌, ◌≤◌, ◌-◌, ℕ, Bool, false, length}
use Rattle.eds_read_types.specs.Kin.{AreMarks}
use Rattle.eds_read_types.specs.Faults.{reaches_fault}
use Rattle.eds_read_types.proofs.faults.reach_faulty.Given as goal

abbrev pub invariant-loop-done : goal.invariant-loop-done
invariant-loop-done l =
    (l.done ≤ 32)
    × ((test : ℕ → Bool) → AreMarks (length l.rows) test l.faulty → ((k : ℕ) → length l.rows ≤ k → test k ≡ false) → AreMarks (length l.rows) (reaches_fault l.done l.rows test) l.marks.items)

abbrev pub decreases-loop-done : goal.decreases-loop-done
decreases-loop-done l = 32 - l.done
