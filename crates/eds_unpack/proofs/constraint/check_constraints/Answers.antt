use Rattle.std.proofs.Common.{length, ap, sym, ◌∙◌, arith}
use Rattle.eds_types.specs.Reading.{holds}
use Rattle.eds_unpack.specs.Courses.{fields_of}
use Rattle.eds_unpack.proofs.Listing.{check_later}
use Rattle.eds_unpack.proofs.Ranks.{near_at, steps_length}
use Rattle.eds_unpack.proofs.constraint.check_constraints.Goals as goal

pub put_steps-requires : goal.put_steps-requires
put_steps-requires c =
    let e = near_at 32 c.args.constraints.now c.loop-constraint.constraint-index c.constraint-item.result (omega arith) c.requires.near in
    omega (arith, e, ap length c.as_slice.ensures, ap (λ x. length x.path) c.constraint-item.is, ap length c.loop-constraint.invariant.root)

pub returns-then-not-holds-clause-near : goal.returns-then-not-holds-clause-near
returns-then-not-holds-clause-near c = λ n h.
    (let e = near_at n c.args.constraints.now c.loop-constraint.constraint-index c.constraint-item.result (omega arith) h in
    omega (arith, e, ap length c.as_slice.ensures, ap (λ x. length x.path) c.constraint-item.is, ap length c.loop-constraint.invariant.root, ap length c.put_steps.ensures, steps_length c.as_slice.result.now c.loop-constraint.path))

pub loop-constraint-preserved : goal.loop-constraint-preserved
loop-constraint-preserved c = record {
  root = c.loop-constraint.invariant.root;
  checked = sym (check_later c.args.table.now c.args.constraints.now c.loop-constraint.constraint-index c.constraint-item.result (fields_of c.args.fields.now) (omega arith) (c.if-not-holds.ensures ∙ ap (λ x. holds c.args.table.now (fields_of c.args.fields.now) x) c.constraint-item.is)) ∙ c.loop-constraint.invariant.checked;
}
