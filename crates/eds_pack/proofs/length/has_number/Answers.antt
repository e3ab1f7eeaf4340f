use Rattle.std.proofs.Common.{rules, sym, ◌∙◌}
use Rattle.std.proofs.lemmas.Int.{to_z-of_z}
use mir.Syntax.{w128}
use Rattle.eds_pack.proofs.LengthEntries.{int_has, other_has}
use Rattle.eds_pack.proofs.Scalars.{within_by}
use Rattle.eds_pack.proofs.length.has_number.Goals as goal

pub returns-in-Int : goal.returns-in-Int
returns-in-Int c n some =
    within_by c.in-Int.spans c.args.number _ c.holds.result (to_z-of_z w128 c.args.number (search rules)) c.holds.ensures
    ∙ sym (int_has c.args.table.now n c.args.id.0 c.row.result.now some c.row.ensures c.args.number c.in-Int.field-0 c.in-Int.spans c.in-Int.is)

pub returns-in_default : goal.returns-in_default
returns-in_default c n some = sym (other_has c.args.table.now n c.args.id.0 c.row.result.now some c.row.ensures c.args.number (λ form spans e. c.in_default.not-Int form spans e))
