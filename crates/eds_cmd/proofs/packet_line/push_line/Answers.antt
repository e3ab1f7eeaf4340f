use Rattle.std.proofs.Common.{◌<◌, length, sym, subst}
use Rattle.eds_overlap.specs.Laws.{IsThere}
use Rattle.eds_types.specs.Plain.{plain}
use Rattle.eds_types.specs.Rows.{Table}
use Rattle.eds_value.specs.Laws.{IsOfType}
use Rattle.eds_cmd.proofs.packet_line.push_line.Goals as goal

pub put_json-requires-clause-known : goal.put_json-requires-clause-known
put_json-requires-clause-known c = subst (λ (t : Table). c.args.packet_type.now.target.id.0 < length t) (sym c.args.packet_type.now.put_by) c.args.packet_type.now.known.there

-- a value that is spelled has a canonical spelling
pub put_json-requires-clause-one : goal.put_json-requires-clause-one
put_json-requires-clause-one c =
    let t = c.args.packet_type.now.target.table.now in
    let id = c.args.packet_type.now.target.id.0 in
    let there : IsThere t id = record { rules = c.keeps_rules.ensures; there = c.args.packet_type.now.known.there } in
    subst (λ (t : Table). IsOfType t id (plain c.args.value.now)) (sym c.args.packet_type.now.put_by) ((c.canonical_spelling.ensures.some t id there _).0 c.requires.spelled.0 c.requires.spelled.1)
