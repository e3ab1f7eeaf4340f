use Rattle.std.proofs.Common.{map, sym, ap, ◌∙◌}
use Rattle.std.specs.Option.{option_copied}
use Rattle.eds_types.specs.Rows.{id_of, family}
use Rattle.eds_types.proofs.Families.{family_found, family_missing}
use Rattle.eds_types.proofs.table.TypeTable.family_of.Goals as goal

pub returns-in-Some : goal.returns-in-Some
returns-in-Some c =
    c.as_slice.ensures ∙ family_found c.self.inside.rows c.self.inside.families c.args.id.0 c.in-Some.family.now c.self.invariant.grouped (sym c.get.ensures ∙ ap option_copied c.in-Some.is)
    ∙ ap (λ t. map id_of (family t c.args.id.0)) c.self.view_is

pub returns-in-None : goal.returns-in-None
returns-in-None c =
    family_missing c.self.inside.rows c.self.inside.families c.args.id.0 c.self.invariant.rules c.self.invariant.grouped (sym c.get.ensures ∙ ap option_copied c.in-None.is)
    ∙ ap (λ t. map id_of (family t c.args.id.0)) c.self.view_is
