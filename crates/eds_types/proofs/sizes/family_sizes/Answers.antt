use Rattle.std.proofs.Common.{◌+◌, length, drop, refl, sym, subst, ◌∙◌}
use Rattle.eds_types.proofs.LeastSizes.{FamiliesSoFar, families_take, families_skip, take_all_written}
use Rattle.eds_types.proofs.sizes.family_sizes.Goals as goal
use Rattle.eds_types.proofs.sizes.family_sizes.Goals.{then-is_concrete, else-is_concrete}

pub loop-k-preserved : goal.loop-k-preserved
loop-k-preserved c = elim c.if-is_concrete.branch [
  | then-is_concrete w ↦
      subst (λ f. FamiliesSoFar c.args.rows.now c.args.own.now (c.loop-k.k + 1) f.items) (sym w.families-is)
      (subst (FamiliesSoFar c.args.rows.now c.args.own.now (c.loop-k.k + 1)) (sym (take_all_written c.loop-k.families.len w.lower.new.families (drop (length w.lower.new.families) c.loop-k.families.items) (w.lower.auto.families ∙ w.deref_mut.ensures.len)))
      (families_take c.args.rows.now c.args.own.now c.loop-k.k (c.loop-k.k + 1) w.chain_size.result c.loop-k.families.items w.deref_mut.result.now w.lower.new.families
      w.as_slice.result.now w.as_slice-then-is_concrete.result.now refl (sym c.is_concrete.ensures ∙ w.if-is_concrete.true)
      (w.as_slice.ensures.value ∙ w.chain_of-chain.ensures) (w.as_slice-then-is_concrete.ensures.value ∙ w.chain_of-chain.ensures)
      w.chain_size.ensures w.deref_mut.ensures.value w.lower.auto.families w.lower.ensures c.loop-k.invariant))
  | else-is_concrete w ↦
      subst (λ f. FamiliesSoFar c.args.rows.now c.args.own.now (c.loop-k.k + 1) f.items) (sym w.families-is)
      (families_skip c.args.rows.now c.args.own.now c.loop-k.k (c.loop-k.k + 1) c.loop-k.families.items refl (sym c.is_concrete.ensures ∙ w.if-is_concrete.false) c.loop-k.invariant)
]
