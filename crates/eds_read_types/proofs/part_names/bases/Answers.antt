use Rattle.std.proofs.Common.{rules, length, subst, ◌∙◌, arith}
use Rattle.eds_read_types.specs.PartNames.{AreBases}
use Rattle.eds_read_types.proofs.KinFacts.{all-unmarked}
use Rattle.eds_read_types.proofs.PartNameFacts.{bases_none}
use Rattle.eds_read_types.proofs.part_names.bases.Goals as goal

pub loop-id-init : goal.loop-id-init
loop-id-init c =
    let none = all-unmarked c.len.result c.in_ok-marks.marks.items (c.in_ok-marks.ensures.items_if_clones_equal (λ y h. search rules)) in
    bases_none c.args.rows.now c.in_ok-marks.marks.items (none.0 ∙ c.len.ensures)

pub returns : goal.returns
returns c = subst (λ n. AreBases c.args.rows.now n c.loop-id.marks.items) (omega arith) c.loop-id.invariant
