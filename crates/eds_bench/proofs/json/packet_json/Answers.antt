use Rattle.eds_overlap.specs.Laws.{IsThere}
use Rattle.eds_bench.proofs.json.packet_json.Goals as goal

-- a value that is spelled has a canonical spelling
pub to_json-requires-clause-one : goal.to_json-requires-clause-one
to_json-requires-clause-one c =
    let there : IsThere c.args.table.now c.args.id.0 = record { rules = c.keeps_rules.ensures; there = c.requires.known } in
    (c.canonical_spelling.ensures.some c.args.table.now c.args.id.0 there _).0 c.in_ok-packet.ensures.0 c.in_ok-packet.ensures.1
