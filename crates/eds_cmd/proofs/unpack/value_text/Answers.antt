use Rattle.eds_overlap.specs.Laws.{IsThere}
use Rattle.eds_cmd.proofs.unpack.value_text.Goals as goal

-- a value that is spelled has a canonical spelling
pub to_json-requires-clause-one : goal.to_json-requires-clause-one
to_json-requires-clause-one c =
    let there : IsThere c.args.target.now.table.now c.args.target.now.id.0 = record { rules = c.keeps_rules.ensures; there = c.requires.known.there } in
    (c.canonical_spelling.ensures.some c.args.target.now.table.now c.args.target.now.id.0 there _).0 c.requires.spelled.0 c.requires.spelled.1
