use Rattle.std.proofs.Common.{◌+◌, length, drop, refl, sym, subst, ◌∙◌}
use Rattle.eds_types.specs.Families.{IsFamilies}
use Rattle.eds_types.proofs.Families.{FamiliesUpTo, families_pass, families_put, families_end}
use Rattle.eds_types.proofs.LeastSizes.{take_all_written}
use Rattle.eds_types.proofs.family.families_of.Goals as goal
use Rattle.eds_types.proofs.family.families_of.Goals.{then-is_concrete+in_ok-put_along, else-is_concrete}

pub loop-number-preserved : goal.loop-number-preserved
loop-number-preserved c = elim c.if-is_concrete.branch [
  | then-is_concrete+in_ok-put_along w ↦
      subst (λ f. FamiliesUpTo c.args.rows.now (c.loop-number.number + 1) f.items) (sym w.lists-is)
      (subst (FamiliesUpTo c.args.rows.now (c.loop-number.number + 1)) (sym (take_all_written c.loop-number.lists.len w.put_along.new.lists (drop (length w.put_along.new.lists) c.loop-number.lists.items) (w.in_ok-put_along.ensures.same ∙ w.deref_mut.ensures.len)))
      (families_put c.args.rows.now c.loop-number.number (c.loop-number.number + 1) w.deref_mut.result.now w.put_along.new.lists w.as_slice.result.now refl (sym c.is_concrete.ensures ∙ w.if-is_concrete.true)
      (w.as_slice.ensures.value ∙ w.chain_of-chain.ensures) w.in_ok-put_along.ensures.same w.in_ok-put_along.ensures.lists
      (subst (FamiliesUpTo c.args.rows.now c.loop-number.number) (sym w.deref_mut.ensures.value) c.loop-number.invariant)))
  | else-is_concrete w ↦ subst (λ f. FamiliesUpTo c.args.rows.now (c.loop-number.number + 1) f.items) (sym w.lists-is)
      (families_pass c.args.rows.now c.loop-number.number (c.loop-number.number + 1) c.loop-number.lists.items refl (sym c.is_concrete.ensures ∙ w.if-is_concrete.false) c.loop-number.invariant)
]

pub returns : goal.returns
returns c = subst (IsFamilies c.args.rows.now) (sym c.from_vec.ensures) (families_end c.args.rows.now c.loop-number.number c.loop-number.lists.items c.loop-number-test.false c.loop-number.auto.number-end c.loop-number.invariant)
