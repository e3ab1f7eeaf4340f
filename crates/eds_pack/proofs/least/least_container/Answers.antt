use mir.Syntax.{w128}
use Rattle.std.proofs.lemmas.Int.{to_z-of_z}
use Rattle.eds_base.specs.Spans.{IsWithin}
use Rattle.std.proofs.Common.{rules, arith, sym, subst, ◌∙◌}
use Rattle.std.proofs.lemmas.Bool.{both_ways}
use Rattle.eds_types.proofs.ReadingTests.{has_in, has_from}
use Rattle.eds_types.specs.Rows.{chain, list_has}
use Rattle.eds_pack.proofs.Leasts.{container_least, no_container, none_more}
use Rattle.eds_pack.proofs.least.least_container.Goals as goal
use Rattle.eds_pack.proofs.least.least_container.Goals.{else-holds-via-then-holds+then-is_concrete+else-is_under, else-holds-via-then-holds+else-is_concrete, else-holds-via-else-holds}

pub returns-then-is_under : goal.returns-then-is_under
returns-then-is_under c =
    container_least c.args.table.now c.args.id.0 c.args.set.now c.loop-n.n c.loop-n.invariant (sym c.is_concrete.ensures ∙ c.if-is_concrete.true)
    (has_from (chain c.args.table.now c.loop-n.n) c.args.id.0 (sym c.is_under.ensures ∙ c.if-is_under.true)) (subst (IsWithin c.args.set.now) (to_z-of_z w128 c.from.result (search rules) ∙ c.from.ensures) (c.holds.ensures.0 c.if-holds.true))

pub loop-n-preserved : goal.loop-n-preserved
loop-n-preserved c = none_more c.args.table.now c.args.id.0 c.args.set.now c.loop-n.n c.loop-n.invariant (λ concrete under within. elim c.else-holds.branch [
  | else-holds-via-then-holds+then-is_concrete+else-is_under w ↦ both_ways (list_has (chain c.args.table.now c.loop-n.n) c.args.id.0) (sym w.is_under.ensures ∙ w.if-is_under.false) (has_in (chain c.args.table.now c.loop-n.n) c.args.id.0 under.before under.after under.is)
  | else-holds-via-then-holds+else-is_concrete w ↦ both_ways _ (sym w.is_concrete.ensures ∙ w.if-is_concrete.false) concrete
  | else-holds-via-else-holds w ↦ both_ways c.holds.result w.if-holds.false (c.holds.ensures.1 (subst (IsWithin c.args.set.now) (sym (to_z-of_z w128 c.from.result (search rules) ∙ c.from.ensures)) within))
])

pub returns : goal.returns
returns c = no_container c.args.table.now c.args.id.0 c.args.set.now c.loop-n.n (omega (arith, c.len-n-end.ensures)) c.loop-n.invariant
