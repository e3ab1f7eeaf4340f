use Rattle.std.proofs.Common.{subst, sym, arith}
use Rattle.std.specs.List.{AllByRecursion}
use Rattle.eds_types.specs.Rows.{constraints_of}
use Rattle.eds_unpack.specs.Selectors.{Allows}
use Rattle.eds_unpack.proofs.Hulls.{theirs_at}
use Rattle.eds_unpack.proofs.selector.numbers_along.Goals as goal

pub loop-one-preserved : goal.loop-one-preserved
loop-one-preserved c = λ n f h.
    c.narrowed_by-numbers.ensures n (c.loop-one.invariant n f h)
    (subst (AllByRecursion (Allows c.args.path.now n)) (sym c.constraints_of.ensures) (theirs_at (Allows c.args.path.now n) (constraints_of c.args.table.now) c.args.containers.now c.loop-one.one-index _ (omega arith) h))
