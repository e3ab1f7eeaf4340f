use Rattle.std.proofs.Common.{sym, ap, ◌∙◌}
use Rattle.eds_overlap.specs.Pairs.{same_path}
use Rattle.eds_overlap.proofs.Solutions.{same_is}
use Rattle.eds_unpack.proofs.selector.narrowed.Goals as goal

pub returns-then-is_same : goal.returns-then-is_same
returns-then-is_same c = λ n h k.
    (let same = same_is c.args.constraint.now.path c.args.path.now (ap (λ p. same_path p c.args.path.now) (sym c.as_slice.ensures) ∙ sym c.is_same.ensures ∙ c.if-is_same.true) in
    c.common.ensures n h (c.ends_of.ensures n (k same)))
