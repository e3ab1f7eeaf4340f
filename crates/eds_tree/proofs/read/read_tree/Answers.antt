use Rattle.std.proofs.Common.{◌≤◌, length, sym, ap, Err, rules, arith}
use Rattle.serde_json.specs.View.{view}
use Rattle.serde_json.specs.Errors.{IsMemory}
use Rattle.eds_tree.specs.Elements.{size}
use Rattle.eds_tree.specs.Reading.{tree_in}
use Rattle.eds_tree.proofs.Bound.{size-read}
use Rattle.eds_tree.proofs.Octets.{data-read, data-none}
use Rattle.eds_tree.proofs.read.read_tree.Goals as goal

pub tree_of-requires : goal.tree_of-requires
tree_of-requires c =
    let bound : size (view c.in-Ok.value) ≤ length c.args.octets.now = size-read c.args.octets.now (view c.in-Ok.value) c.in-Ok.ensures.ok.1 in
    omega (arith, bound, c.requires)

pub returns-in-Ok : goal.returns-in-Ok
unfolding tree_in
returns-in-Ok c = rw (data-read c.args.octets.now (view c.in-Ok.value) c.in-Ok.ensures.ok.0 c.in-Ok.ensures.ok.1) c.tree_of.ensures

pub returns-else-is_memory : goal.returns-else-is_memory
unfolding tree_in
returns-else-is_memory c =
    let other : ¬ IsMemory c.in-Err.e = search rules in
    rw (data-none c.args.octets.now (λ u. c.in-Err.ensures.err other u)) (ap Err (sym c.refusal.ensures))
