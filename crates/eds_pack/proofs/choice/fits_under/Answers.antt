use Rattle.std.proofs.Common.{◌≡◌, Bool, false, ◌∙◌, ap, sym}
use Rattle.std.specs.Prelude.{◌&&◌}
use Rattle.std.specs.List.{list_all, flat_map}
use Rattle.eds_types.specs.declared.row.Constraint.{Constraint}
use Rattle.eds_types.specs.Fields.{constraints_along}
use Rattle.eds_types.specs.Rows.{chain, constraints_of}
use Rattle.eds_types.specs.Choices.{meets}
use Rattle.eds_types.proofs.Candidates.{numbers_are, own_along}
use Rattle.eds_pack.specs.Seeking.{fields_of}
use Rattle.eds_pack.proofs.choice.fits_under.Goals as goal

pub returns-then-meets_own : goal.returns-then-meets_own
returns-then-meets_own c =
    c.meets_all.ensures
    ∙ ap (λ ys. list_all (meets c.args.fields.now.table.now c.args.fields.now.own.0 (fields_of c.args.fields.now.table.now c.args.fields.now.own.0 c.args.fields.now.values.now)) (flat_map (constraints_of c.args.fields.now.table.now) ys)) (numbers_are c.as_slice.result.now (chain c.args.fields.now.table.now c.args.under.0) (c.as_slice.ensures.value ∙ c.chain_of.ensures))

pub returns-else-meets_own : goal.returns-else-meets_own
returns-else-meets_own c =
    let m : Constraint → Bool = meets c.args.fields.now.table.now c.args.fields.now.own.0 (fields_of c.args.fields.now.table.now c.args.fields.now.own.0 c.args.fields.now.values.now) in
    let own : list_all m (constraints_of c.args.fields.now.table.now c.args.under.0) ≡ false = sym (c.meets_own.ensures ∙ ap (list_all m) c.constraints_of.ensures) ∙ c.if-meets_own.false in
    c.if-meets_own.false ∙ sym (sym (own_along c.args.fields.now.table.now m c.args.under.0) ∙ ap (λ b. b && list_all m (constraints_along c.args.fields.now.table.now c.args.under.0)) own)
