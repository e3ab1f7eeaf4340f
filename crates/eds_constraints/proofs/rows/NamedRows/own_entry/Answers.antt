use Rattle.std.proofs.Common.{arith, ◌∙◌}
use Rattle.eds_constraints.proofs.NamedFacts.{past_entries, entry_names_are, no_entry, entry_by, entry_fits}
use Rattle.eds_constraints.proofs.rows.NamedRows.own_entry.Goals as goal

pub overflow_cast-result : goal.overflow_cast-result
overflow_cast-result c =
    let is = entry_names_are c.args.self.now.rows.now c.args.id.0 _ c.in_ok-names.names.now c.args.self.now.entry_names c.in_ok-names.ensures in
    let small = entry_fits c.args.self.now.rows.now c.args.self.now.small c.args.name.now c.args.id.0 c.in_ok-names.names.now c.in_ok-place.place is c.in_ok-place.ensures in
    omega arith

pub returns-in_err-names : goal.returns-in_err-names
returns-in_err-names c = c.from_residual.ensures ∙ no_entry c.args.self.now.rows.now c.args.name.now c.args.id.0 (past_entries c.args.self.now.rows.now c.args.id.0 _ c.args.self.now.entry_names c.in_err-names.ensures)

pub returns-in_err-place : goal.returns-in_err-place
returns-in_err-place c =
    c.from_residual-in_err-place.ensures
    ∙ entry_by c.args.self.now.rows.now c.args.name.now c.args.id.0 c.in_ok-names.names.now _ (entry_names_are c.args.self.now.rows.now c.args.id.0 _ c.in_ok-names.names.now c.args.self.now.entry_names c.in_ok-names.ensures) c.in_err-place.ensures

pub returns : goal.returns
returns c =
    entry_by c.args.self.now.rows.now c.args.name.now c.args.id.0 c.in_ok-names.names.now _ (entry_names_are c.args.self.now.rows.now c.args.id.0 _ c.in_ok-names.names.now c.args.self.now.entry_names c.in_ok-names.ensures) c.in_ok-place.ensures
