use Rattle.std.proofs.Common.{◌≡◌, drop}
use Rattle.eds_overlap.specs.Common.{AreUnderTexts, all_under, least_of_both, with_paths}
use Rattle.eds_overlap.specs.Pairs.{constraints_among}
use Rattle.eds_overlap.proofs.common.add_among.Given as goal

abbrev pub invariant-loop-id : goal.invariant-loop-id
invariant-loop-id l = AreUnderTexts l.table l.gathered.entries
    × (with_paths l.table l.ancestor.0 (least_of_both l.ours l.theirs) (all_under l.gathered.entries) (constraints_among l.table (drop l.id-index l.ids)) ≡ with_paths l.table l.ancestor.0 (least_of_both l.ours l.theirs) (all_under l.initial.gathered.entries) (constraints_among l.table l.ids))
