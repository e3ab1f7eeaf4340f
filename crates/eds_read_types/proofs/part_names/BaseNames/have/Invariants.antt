use Rattle.std.proofs.Common.{◌≡◌}
use Rattle.eds_names.specs.Repeats.{is_among}
use Rattle.eds_types.specs.Rows.{base_of}
use Rattle.eds_read_types.specs.DuplicateEntry.{names_above}
use Rattle.eds_read_types.proofs.part_names.BaseNames.have.Given as goal

abbrev pub invariant-loop-left : goal.invariant-loop-left
invariant-loop-left l = is_among (names_above l.left l.self.rows.now (base_of l.self.rows.now l.at)) l.name ≡ is_among (names_above 16 l.self.rows.now (base_of l.self.rows.now l.fn.id)) l.name

abbrev pub decreases-loop-left : goal.decreases-loop-left
decreases-loop-left l = l.left
