use Rattle.std.proofs.Common.{sym, ap, ◌∙◌}
use Rattle.eds_types.specs.Rows.{number_of_id}
use Rattle.eds_read_types.proofs.PartNameFacts.{bases_same, bases_next}
use Rattle.eds_read_types.proofs.part_names.mark_base.Goals as goal

pub returns-in-Some : goal.returns-in-Some
returns-in-Some c = bases_next c.args.rows.now c.args.id c.in-Some.base.0 c.args.marks.now c.set_mark.new.marks c.requires (sym c.base_of.ensures ∙ ap number_of_id c.in-Some.is) c.set_mark.ensures.long c.set_mark.ensures.set
