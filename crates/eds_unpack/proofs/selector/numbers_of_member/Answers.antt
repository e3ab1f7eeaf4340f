use Rattle.std.proofs.Common.{subst, sym, ◌∙◌}
use Rattle.std.specs.List.{AllByRecursion, flat_map}
use Rattle.eds_types.specs.Rows.{chain, constraints_of}
use Rattle.eds_types.proofs.Candidates.{numbers_are}
use Rattle.eds_unpack.specs.Selectors.{Allows}
use Rattle.eds_unpack.proofs.selector.numbers_of_member.Goals as goal

pub returns : goal.returns
returns c = λ n f h.
    c.numbers_along.ensures n f
    (subst (λ ys. AllByRecursion (Allows c.args.path.now n) (flat_map (constraints_of c.args.table.now) ys)) (sym (numbers_are c.as_slice.result.now (chain c.args.table.now c.args.member.0) (c.as_slice.ensures.value ∙ c.chain_of-chain.ensures))) h.1)
