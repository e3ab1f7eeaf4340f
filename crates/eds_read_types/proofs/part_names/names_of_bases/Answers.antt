use Rattle.std.proofs.Common.{ap, ◌∙◌, arith}
use Rattle.eds_graph.specs.Reaching.{mark}
use Rattle.eds_read_types.proofs.PartNameFacts.{names_none, names_next, names_all}
use Rattle.eds_read_types.proofs.part_names.names_of_bases.Goals as goal

pub loop-id-init : goal.loop-id-init
loop-id-init c = names_none c.args.rows.now c.in_ok-bases.bases.items c.new-names.result.items c.new-names.ensures.items

pub loop-id-preserved : goal.loop-id-preserved
loop-id-preserved c =
    names_next c.args.rows.now c.in_ok-bases.bases.items c.loop-id.id c.mark_at.result c.in_ok-names_where.field-0 c.loop-id.names.items c.push.new.self.items c.loop-id.invariant c.in_ok-push.ensures.items
    (c.mark_at.ensures ∙ ap (λ ms. mark ms c.loop-id.id) c.deref.ensures.value) c.in_ok-names_where.ensures

pub returns : goal.returns
returns c = names_all c.args.rows.now c.in_ok-bases.bases.items c.loop-id.id c.loop-id.names.items (omega arith) c.in_ok-bases.ensures c.loop-id.invariant
