use Rattle.std.proofs.Common.{◌+◌, ◌*◌}
use Rattle.eds_trials.proofs.slow.Slow.+spells.Given as goal

abbrev pub decreases-spells_within : goal.decreases-spells_within
decreases-spells_within l = 8 * l.depth

abbrev pub decreases-spell_items : goal.decreases-spell_items
decreases-spell_items l = 8 * l.depth + 1

abbrev pub decreases-spells_part : goal.decreases-spells_part
decreases-spells_part l = 8 * l.depth + 2

abbrev pub decreases-spell_parts : goal.decreases-spell_parts
decreases-spell_parts l = 8 * l.depth + 3

abbrev pub decreases-spells_container : goal.decreases-spells_container
decreases-spells_container l = 8 * l.depth + 4
