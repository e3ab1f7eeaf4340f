use Rattle.std.proofs.Common.{Err, length, ap, sym, subst, append-nil, ◌∙◌, ◌++◌, arith}
use Rattle.eds_base.specs.declared.fault.Reason.TheVariants.{Constraint as Fails}
use Rattle.eds_types.specs.Failing.{fault_at, path_steps}
use Rattle.eds_types.specs.Reading.{holds}
use Rattle.eds_unpack.specs.Noted.{IsNotedFor}
use Rattle.eds_unpack.proofs.Listing.{check_later}
use Rattle.eds_unpack.proofs.NotedSlots.{check_stops, check_ends}
use Rattle.eds_unpack.proofs.Ranks.{all_at, near_at, steps_length}
use Rattle.eds_unpack.proofs.noted.check_noted.Goals as goal

pub put_steps-requires : goal.put_steps-requires
put_steps-requires c =
    let e = near_at 32 c.args.constraints.now c.loop-constraint.constraint-index c.constraint-item.result (omega arith) c.requires.near in
    omega (arith, e, ap length c.as_slice.ensures, ap (λ x. length x.path) c.constraint-item.is, ap length c.loop-constraint.invariant.root)

pub returns-then-not-holds_noted-clause-near : goal.returns-then-not-holds_noted-clause-near
returns-then-not-holds_noted-clause-near c = λ n h.
    (let e = near_at n c.args.constraints.now c.loop-constraint.constraint-index c.constraint-item.result (omega arith) h in
    omega (arith, e, ap length c.as_slice.ensures, ap (λ x. length x.path) c.constraint-item.is, ap length c.loop-constraint.invariant.root, ap length c.put_steps.ensures, steps_length c.as_slice.result.now c.loop-constraint.path))

pub returns-then-not-holds_noted-clause-stops : goal.returns-then-not-holds_noted-clause-stops
returns-then-not-holds_noted-clause-stops c = λ t fs h.
    (let noted = all_at (IsNotedFor t c.args.notes.now c.args.numbers.now fs) c.args.constraints.now c.loop-constraint.constraint-index c.constraint-item.result (omega arith) h in
    let fails = c.if-not-holds_noted.ensures t fs (subst (IsNotedFor t c.args.notes.now c.args.numbers.now fs) (sym c.constraint-item.is) noted) in
    sym (c.loop-constraint.invariant.checked t fs h)
    ∙ check_stops t c.args.constraints.now c.loop-constraint.constraint-index c.constraint-item.result fs (omega arith) (fails ∙ ap (holds t fs) c.constraint-item.is)
    ∙ ap (λ x. Err (fault_at Fails (path_steps x.path))) (sym c.constraint-item.is)
    ∙ ap (λ p. Err (fault_at Fails (path_steps p))) (sym c.as_slice.ensures)
    ∙ ap (λ p. Err (fault_at Fails p)) (sym (c.put_steps.ensures ∙ ap (λ p. path_steps c.as_slice.result.now ++ p) c.loop-constraint.invariant.root ∙ append-nil (path_steps c.as_slice.result.now))))

pub loop-constraint-preserved : goal.loop-constraint-preserved
loop-constraint-preserved c = record {
  root = c.loop-constraint.invariant.root;
  checked = λ t fs h.
      (let noted = all_at (IsNotedFor t c.args.notes.now c.args.numbers.now fs) c.args.constraints.now c.loop-constraint.constraint-index c.constraint-item.result (omega arith) h in
      let goes = c.if-not-holds_noted.ensures t fs (subst (IsNotedFor t c.args.notes.now c.args.numbers.now fs) (sym c.constraint-item.is) noted) in
      sym (check_later t c.args.constraints.now c.loop-constraint.constraint-index c.constraint-item.result fs (omega arith) (goes ∙ ap (holds t fs) c.constraint-item.is)) ∙ c.loop-constraint.invariant.checked t fs h);
}

pub returns-clause-passes : goal.returns-clause-passes
returns-clause-passes c = λ t fs h. sym (c.loop-constraint.invariant.checked t fs h) ∙ check_ends t c.args.constraints.now c.loop-constraint.constraint-index fs (omega arith)
