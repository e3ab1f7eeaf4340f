use Rattle.std.proofs.Common.{map, string_bytes, arith, refl, ap, ◌∷◌, ◌∙◌}
use Rattle.eds_names.specs.Repeats.{is_among}
use Rattle.eds_read_comp.proofs.MapLaws.{next-map}
use Rattle.eds_read_comp.proofs.parameter_map.least_over_maps.Goals as goal

pub loop-node-preserved : goal.loop-node-preserved
loop-node-preserved c =
    let name = c.as_str.ensures ∙ c.in_ok-name.ensures in
    next-map c.args.held.now.ends.now c.args.held.now.variables.now c.args.tree.now c.args.file (map string_bytes c.loop-node.before.keys) (map string_bytes c.note.new.before.keys) c.args.nodes.now c.loop-node.node-index
    _ _ c.place.result c.in_ok-second.second c.mapping_at-mapping.result c.loop-node.found c.least_at-here.result c.first-found.result _
    (omega arith) refl c.place.ensures (c.in_ok-second.ensures.second ∙ ap (is_among (map string_bytes c.loop-node.before.keys)) name) c.mapping_at-mapping.ensures
    (λ q. c.in_ok-second.ensures.before q ∙ ap (λ k. is_among (k ∷ map string_bytes c.loop-node.before.keys) q) name) c.least_at-here.ensures c.first-found.ensures.first c.loop-node.invariant
