use Rattle.eds_tree.proofs.Least.{least-joined}
use Rattle.eds_read_act.specs.Activities.{bad_references_in, mismatches_in}
use Rattle.eds_read_act.specs.Scopes.{scope_of}
use Rattle.eds_read_act.proofs.activity.least_break_in.Goals as goal

pub returns : goal.returns
returns c =
    let s = scope_of c.args.scope.now in
    least-joined (bad_references_in c.args.file s c.args.node) (mismatches_in c.args.file s c.args.node)
    c.in_ok-reference.reference c.in_ok-mismatch.mismatch c.first.result
    c.in_ok-reference.ensures c.in_ok-mismatch.ensures c.first.ensures.first
