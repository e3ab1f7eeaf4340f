use Rattle.std.proofs.Common.{◌∙◌, ◌-◌, get_or, arith}
use Rattle.eds_types.specs.Rows.{id_of}
use Rattle.eds_overlap.proofs.Parting.{parted, not_parted, got}
use Rattle.eds_overlap.proofs.find.parting.Goals.{else-count-gt0-via-then-count-gt0+then-count-ours+else-count-theirs, else-count-gt0-via-then-count-gt0+else-count-ours, else-count-gt0-via-else-count-gt0}
use Rattle.eds_overlap.proofs.find.parting.Goals as goal

pub returns-then-count-theirs-clause-some : goal.returns-then-count-theirs-clause-some
returns-then-count-theirs-clause-some c =
    parted c.args.table.now c.keeps_rules.ensures c.args.first.0 c.args.second.0 c.shared_front-count.result c.as_slice-ours.result.now c.as_slice-theirs.result.now (get_or c.as_slice-ours.result.now (c.shared_front-count.result - 1) (id_of 0))
    (c.as_slice-ours.ensures.value ∙ c.chain_of-one.ensures) (c.as_slice-theirs.ensures.value ∙ c.chain_of-other.ensures) c.shared_front-count.ensures (omega arith) (omega arith) (omega arith)
    (got c.as_slice-ours.result.now (c.shared_front-count.result - 1) (id_of 0) (omega arith))

pub returns-else-count-gt0-clause-none : goal.returns-else-count-gt0-clause-none
returns-else-count-gt0-clause-none c =
    not_parted c.args.table.now c.keeps_rules.ensures c.args.first.0 c.args.second.0 c.shared_front-count.result c.as_slice-ours.result.now c.as_slice-theirs.result.now
    (c.as_slice-ours.ensures.value ∙ c.chain_of-one.ensures) (c.as_slice-theirs.ensures.value ∙ c.chain_of-other.ensures) c.shared_front-count.ensures
    (λ few one other. elim c.else-count-gt0.branch [
      | else-count-gt0-via-then-count-gt0+then-count-ours+else-count-theirs w ↦ absurd (omega (arith, w.if-count-theirs.false))
      | else-count-gt0-via-then-count-gt0+else-count-ours w ↦ absurd (omega (arith, w.if-count-ours.false))
      | else-count-gt0-via-else-count-gt0 w ↦ absurd (omega (arith, w.if-count-gt0.false))
    ])
