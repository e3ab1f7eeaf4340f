use Rattle.std.proofs.Common.{arith, ap, ◌∙◌, Some, ◌+◌, length}
use Rattle.eds_constraints.proofs.NamedFacts.{past_trailers, trailer_names_are, no_trailer, trailer_by, trailer_fits}
use Rattle.eds_constraints.proofs.rows.NamedRows.own_trailer.Goals as goal

pub overflow_add-result : goal.overflow_add-result
overflow_add-result c =
    let is = trailer_names_are c.args.self.now.rows.now c.args.id.0 _ c.in_ok-names.names.now c.args.self.now.trailer_names c.in_ok-names.ensures in
    let small = trailer_fits c.args.self.now.rows.now c.args.self.now.small c.args.name.now c.args.id.0 c.in_ok-names.names.now c.in_ok-place.place is c.in_ok-place.ensures in
    rw c.entries_of-first.ensures (omega arith)

pub overflow_cast-result : goal.overflow_cast-result
overflow_cast-result c =
    let is = trailer_names_are c.args.self.now.rows.now c.args.id.0 _ c.in_ok-names.names.now c.args.self.now.trailer_names c.in_ok-names.ensures in
    let small = trailer_fits c.args.self.now.rows.now c.args.self.now.small c.args.name.now c.args.id.0 c.in_ok-names.names.now c.in_ok-place.place is c.in_ok-place.ensures in
    rw c.entries_of-first.ensures (omega arith)

pub returns-in_err-names : goal.returns-in_err-names
returns-in_err-names c = c.from_residual.ensures ∙ no_trailer c.args.self.now.rows.now c.args.name.now c.args.id.0 (past_trailers c.args.self.now.rows.now c.args.id.0 _ c.args.self.now.trailer_names c.in_err-names.ensures)

pub returns-in_err-place : goal.returns-in_err-place
returns-in_err-place c =
    c.from_residual-in_err-place.ensures
    ∙ trailer_by c.args.self.now.rows.now c.args.name.now c.args.id.0 c.in_ok-names.names.now _ (trailer_names_are c.args.self.now.rows.now c.args.id.0 _ c.in_ok-names.names.now c.args.self.now.trailer_names c.in_ok-names.ensures) c.in_err-place.ensures

pub returns : goal.returns
returns c =
    ap (λ ps. Some (c.args.id, length ps + c.in_ok-place.place)) c.entries_of-first.ensures
    ∙ trailer_by c.args.self.now.rows.now c.args.name.now c.args.id.0 c.in_ok-names.names.now _ (trailer_names_are c.args.self.now.rows.now c.args.id.0 _ c.in_ok-names.names.now c.args.self.now.trailer_names c.in_ok-names.ensures) c.in_ok-place.ensures
