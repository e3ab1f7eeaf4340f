use Rattle.std.proofs.Common.{◌∙◌}
use Rattle.eds_overlap.proofs.Solutions.{first_is}
use Rattle.eds_overlap.proofs.TakenIn.{added}
use Rattle.eds_overlap.proofs.sets.push_first.Goals as goal

pub returns : goal.returns
returns c =
    added c.args.table.now c.args.constraint.now c.args.sets.now.items c.push.new.self.items (record { path = c.in_ok-path.path; set = c.in_ok-set.set }) c.in_ok-push.ensures.items (c.in_ok-path.ensures ∙ c.as_slice.ensures)
    (first_is c.args.table.now c.args.constraint.now c.in_ok-set.set c.keeps_rules.ensures c.requires.declared (record { from = c.in_ok-set.ensures.from_set; within = c.in_ok-set.ensures.of_domain; all = c.in_ok-set.ensures.all })) c.requires.new
