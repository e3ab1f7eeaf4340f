use Rattle.std.proofs.Common.{map, subst, sym, ◌∙◌}
use Rattle.std.specs.List.{AllByRecursion}
use Rattle.eds_overlap.specs.Pairs.{AreSets, IsDeclared, constraints_among}
use Rattle.eds_overlap.proofs.Solutions.{all_declared}
use Rattle.eds_overlap.proofs.TakenIn.{all_permuted, sets_along}
use Rattle.eds_overlap.proofs.sets.sets_by_path.Goals as goal

pub gathered_sets-requires-clause-declared : goal.gathered_sets-requires-clause-declared
gathered_sets-requires-clause-declared c =
    subst (λ xs. AllByRecursion (IsDeclared c.args.table.now) (map (λ c. c.now) xs)) (sym c.as_slice-2.ensures.value)
    (all_permuted (IsDeclared c.args.table.now) (constraints_among c.args.table.now c.as_slice.result.now) (map (λ c. c.now) c.in_ok-constraints.constraints.items) c.in_ok-constraints.ensures.all (all_declared c.args.table.now c.as_slice.result.now))

pub returns : goal.returns
returns c =
    sets_along c.args.table.now c.args.id.0 c.as_slice.result.now (map (λ c. c.now) c.in_ok-constraints.constraints.items) c.in_ok-sets.sets.items (c.as_slice.ensures.value ∙ c.chain_of-chain.ensures) c.in_ok-constraints.ensures.all
    (subst (λ xs. AreSets c.args.table.now (map (λ c. c.now) xs) c.in_ok-sets.sets.items) c.as_slice-2.ensures.value c.in_ok-sets.ensures.0)
