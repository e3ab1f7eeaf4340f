use Rattle.std.proofs.Common.{◌++◌, length, ap, ◌∙◌, append-nil, arith}
use Rattle.eds_types.specs.Failing.{path_steps}
use Rattle.eds_pack.specs.Seeking.{fields_of}
use Rattle.eds_pack.proofs.Counts.{condition_fails, condition_holds}
use Rattle.eds_pack.proofs.Ranks.{near_at, steps_length}
use Rattle.eds_pack.proofs.constraint.check_constraints.Goals as goal

pub put_steps-requires : goal.put_steps-requires
put_steps-requires c =
    let e = near_at 32 c.args.constraints.now c.loop-constraint.constraint-index c.constraint-item.result (omega arith) c.requires.near in
    omega (arith, e, ap length c.as_slice.ensures, ap (λ x. length x.path) c.constraint-item.is, ap length c.loop-constraint.invariant.root)

pub returns-then-not-holds-clause-near : goal.returns-then-not-holds-clause-near
returns-then-not-holds-clause-near c = λ n h.
    (let e = near_at n c.args.constraints.now c.loop-constraint.constraint-index c.constraint-item.result (omega arith) h in
    omega (arith, e, ap length c.as_slice.ensures, ap (λ x. length x.path) c.constraint-item.is, ap length c.loop-constraint.invariant.root, ap length c.put_steps.ensures, steps_length c.as_slice.result.now c.loop-constraint.path))

pub loop-constraint-preserved : goal.loop-constraint-preserved
loop-constraint-preserved c = record {
  root = c.loop-constraint.invariant.root;
  checked = λ size k y.
      condition_holds c.args.fields.now.table.now size (fields_of c.args.fields.now.table.now c.args.fields.now.own.0 c.args.fields.now.values.now) k y c.args.constraints.now c.loop-constraint.constraint-index c.constraint-item.result (omega arith) c.constraint-item.is c.if-not-holds.ensures
      ∙ c.loop-constraint.invariant.checked size k y;
}

pub returns-then-not-holds-clause-adds : goal.returns-then-not-holds-clause-adds
returns-then-not-holds-clause-adds c = λ size k y.
    condition_fails c.args.fields.now.table.now size (fields_of c.args.fields.now.table.now c.args.fields.now.own.0 c.args.fields.now.values.now) k y c.args.constraints.now c.loop-constraint.constraint-index c.constraint-item.result c.put_steps.new.path (omega arith) c.constraint-item.is c.if-not-holds.ensures
    (c.put_steps.ensures ∙ ap (λ q. path_steps c.as_slice.result.now ++ q) c.loop-constraint.invariant.root ∙ append-nil (path_steps c.as_slice.result.now) ∙ ap path_steps c.as_slice.ensures)
    ∙ c.loop-constraint.invariant.checked size k y
