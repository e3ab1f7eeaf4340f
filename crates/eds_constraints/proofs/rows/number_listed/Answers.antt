use Rattle.std.proofs.Common.{rules, None, Some, refl, sym, ap, ◌∙◌}
use Rattle.std.proofs.lemmas.Option.{slice_get_past, slice_get_read}
use Rattle.std.proofs.lemmas.Int.{to_z-of_z}
use mir.Syntax.{w128}
use mir.Val.{SFits}
use Rattle.eds_constraints.proofs.LabelFacts.{listed_nowhere, listed_at}
use Rattle.eds_constraints.proofs.rows.number_listed.Goals as goal

pub returns-in_err-at : goal.returns-in_err-at
returns-in_err-at c = c.from_residual.ensures ∙ listed_nowhere c.args.listing.now c.args.labels.now c.args.label.now c.requires c.in_err-at.ensures

pub returns-in_err-entry : goal.returns-in_err-entry
returns-in_err-entry c = c.from_residual-in_err-entry.ensures ∙ listed_at c.args.listing.now c.args.labels.now c.args.label.now c.in_ok-at.at None c.requires c.in_ok-at.ensures (sym (slice_get_past c.args.listing.now c.in_ok-at.at (c.in_err-entry.ensures.lookup).3))

pub returns : goal.returns
returns c =
    let fits : SFits w128 c.in_ok-entry.entry.now.1 = search rules in
    ap Some (to_z-of_z w128 c.in_ok-entry.entry.now.1 fits) ∙ listed_at c.args.listing.now c.args.labels.now c.args.label.now c.in_ok-at.at (Some c.in_ok-entry.entry.now) c.requires c.in_ok-at.ensures (sym (slice_get_read c.args.listing.now _ c.in_ok-at.at c.in_ok-entry.entry.now refl ((c.in_ok-entry.ensures.lookup).3).0 (c.in_ok-entry.ensures.lookup).1))
