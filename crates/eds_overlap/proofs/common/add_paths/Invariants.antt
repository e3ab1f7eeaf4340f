use Rattle.std.proofs.Common.{◌≡◌, drop}
use Rattle.eds_overlap.specs.Common.{AreUnderTexts, all_under, least_of_both, with_paths}
use Rattle.eds_overlap.proofs.common.add_paths.Given as goal

abbrev pub invariant-loop-constraint : goal.invariant-loop-constraint
invariant-loop-constraint l = AreUnderTexts l.table l.gathered.entries
    × (with_paths l.table l.ancestor.0 (least_of_both l.ours l.theirs) (all_under l.gathered.entries) (drop l.constraint-index l.constraints) ≡ with_paths l.table l.ancestor.0 (least_of_both l.ours l.theirs) (all_under l.initial.gathered.entries) l.constraints)
