use Rattle.std.proofs.Common.{◌≡◌, Bool, false, ◌∙◌, ap, subst, sym}
use Rattle.std.specs.Prelude.{◌&&◌}
use Rattle.std.specs.List.{AllByRecursion, list_all}
use Rattle.eds_types.specs.declared.row.Constraint.{Constraint}
use Rattle.eds_types.specs.Fields.{constraints_along}
use Rattle.eds_types.specs.Rows.{constraints_of}
use Rattle.eds_types.specs.Choices.{meets}
use Rattle.eds_types.proofs.Candidates.{own_along}
use Rattle.eds_unpack.specs.Choices.{TellsAbove}
use Rattle.eds_unpack.proofs.choice.fits_under.Goals as goal

pub returns-then-meets_own : goal.returns-then-meets_own
returns-then-meets_own c = λ fs h.
    (let m : Constraint → Bool = meets c.args.table.now c.args.id.0 fs in
    let told = subst (AllByRecursion (TellsAbove c.args.table.now c.args.id.0 fs c.args.known.now)) (sym c.constraints_of.ensures) (h c.args.under.0) in
    c.meets_bases.ensures fs h (sym (c.meets_own.ensures fs told ∙ ap (list_all m) c.constraints_of.ensures) ∙ c.if-meets_own.true))

pub returns-else-meets_own : goal.returns-else-meets_own
returns-else-meets_own c = λ fs h.
    (let m : Constraint → Bool = meets c.args.table.now c.args.id.0 fs in
    let told = subst (AllByRecursion (TellsAbove c.args.table.now c.args.id.0 fs c.args.known.now)) (sym c.constraints_of.ensures) (h c.args.under.0) in
    let own : list_all m (constraints_of c.args.table.now c.args.under.0) ≡ false = sym (c.meets_own.ensures fs told ∙ ap (list_all m) c.constraints_of.ensures) ∙ c.if-meets_own.false in
    c.if-meets_own.false ∙ sym (sym (own_along c.args.table.now m c.args.under.0) ∙ ap (λ b. b && list_all m (constraints_along c.args.table.now c.args.under.0)) own))
