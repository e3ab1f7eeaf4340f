use Rattle.std.proofs.Common.{◌≡◌, ℕ, ◌+◌, ◌<◌, Bool, true, false, List, length, get_or, drop, ap, sym, subst, ◌∙◌, arith}
use Rattle.std.specs.Prelude.{◌&&◌}
use Rattle.std.specs.List.{AllByRecursion, list_all}
use Rattle.std.proofs.lemmas.List.{drop_more}
use Rattle.eds_types.specs.declared.row.Constraint.{Constraint}
use Rattle.eds_types.specs.Choices.{meets}
use Rattle.eds_types.specs.Fields.{Field}
use Rattle.eds_types.specs.Rows.{Table}
use Rattle.eds_unpack.specs.declared.known.Known.{Known}
use Rattle.eds_unpack.specs.Choices.{TellsAbove}
use Rattle.eds_unpack.proofs.Ranks.{all_at}
use Rattle.eds_unpack.proofs.choice.meets_own.Goals as goal

-- what was answered for the constraint at a place is whether it is met, and so are those behind it
met_at : (t : Table) (x : ℕ) (fs : List Field) (k : Known) (cs : List Constraint) (i : ℕ) (c : Constraint) (b : Bool) → i < length cs → c ≡ get_or cs i c → (TellsAbove t x fs k c → b ≡ meets t x fs c) → AllByRecursion (TellsAbove t x fs k) cs
    → (b && list_all (meets t x fs) (drop (i + 1) cs)) ≡ list_all (meets t x fs) (drop i cs)
met_at t x fs k cs i c b lt is answers h =
    let met : b ≡ meets t x fs (get_or cs i c) = answers (subst (TellsAbove t x fs k) (sym is) (all_at (TellsAbove t x fs k) cs i c lt h)) ∙ ap (meets t x fs) is in
    ap (λ a. a && list_all (meets t x fs) (drop (i + 1) cs)) met ∙ ap (list_all (meets t x fs)) (sym (drop_more cs i c lt))

pub returns-then-not-meets_one : goal.returns-then-not-meets_one
returns-then-not-meets_one c = λ fs h.
    met_at c.args.table.now c.args.id.0 fs c.args.known.now c.args.constraints.now c.loop-constraint.constraint-index c.constraint-item.result false (omega arith) c.constraint-item.is (c.if-not-meets_one.ensures fs) h ∙ c.loop-constraint.invariant fs h

pub loop-constraint-preserved : goal.loop-constraint-preserved
loop-constraint-preserved c = λ fs h.
    met_at c.args.table.now c.args.id.0 fs c.args.known.now c.args.constraints.now c.loop-constraint.constraint-index c.constraint-item.result true (omega arith) c.constraint-item.is (c.if-not-meets_one.ensures fs) h ∙ c.loop-constraint.invariant fs h
