use Rattle.std.proofs.Common.{rules, Some, refl, map, sym, subst, ◌≡◌, ◌+◌}
use Rattle.eds_plan.specs.Outs.{report}
use Rattle.eds_replay.specs.Judges.{IsLater, JudgeNow, Judged}
use Rattle.eds_replay.proofs.Judging.{behind-more, judged-by, own-here, rise-rest, within-more}
use Rattle.eds_replay.proofs.judge.Judge.line_by.Goals as goal

pub own_of-seen-requires : goal.own_of-seen-requires
own_of-seen-requires c = rise-rest c.self.inside.recorded c.as_slice.result.now c.self.inside.place _ c.as_slice.ensures.all refl c.as_slice.ensures.order

pub invariant_of-self : goal.invariant_of-self
invariant_of-self c =
    let later : IsLater c.self.inside.last c.args.line = subst (λ (j : JudgeNow). IsLater j.last c.args.line) (sym c.self.view_is) c.requires.later in (
      within-more c.self.inside.recorded c.as_slice.result.now c.self.inside.place c.own_of-seen.result.1 _ c.self.invariant.0 c.as_slice.ensures.all refl c.own_of-seen.ensures.within,
      behind-more c.self.inside.last c.self.inside.recorded c.as_slice.result.now c.self.inside.place c.own_of-seen.result.1 c.args.line _ later c.self.invariant.1 c.as_slice.ensures.all refl c.own_of-seen.ensures.seen,
    )

pub returns-clause-judged : goal.returns-clause-judged
returns-clause-judged c =
    let later : IsLater c.self.inside.last c.args.line = subst (λ (j : JudgeNow). IsLater j.last c.args.line) (sym c.self.view_is) c.requires.later in
    let agreed : c.in_ok-agreed.agreed ≡ c.self.inside.agreed + c.in_ok-compared.compared.agreed = search rules in
    let otherwise : c.in_ok-otherwise.otherwise ≡ c.self.inside.otherwise + c.in_ok-compared.compared.otherwise = search rules in
    let before : JudgeNow = record { recorded = c.self.inside.recorded; agreed = c.self.inside.agreed; otherwise = c.self.inside.otherwise; last = c.self.inside.last } in
    let after : JudgeNow = record { recorded = c.self.inside.recorded; agreed = c.in_ok-agreed.agreed; otherwise = c.in_ok-otherwise.otherwise; last = Some c.args.line } in
    subst (λ (j : JudgeNow). Judged c.args.table.now c.args.plan.now c.args.line (map report c.args.events.now) j after c.in_ok-compared.compared.differs) c.self.view_is
    (judged-by c.args.table.now c.args.plan.now c.args.line c.own_of-seen.result.0.now (map report c.args.events.now) before after c.in_ok-compared.compared.agreed c.in_ok-compared.compared.otherwise c.in_ok-compared.compared.differs
    (own-here c.self.inside.last c.self.inside.recorded c.as_slice.result.now c.own_of-seen.result.0.now c.self.inside.place c.args.line _ later c.self.invariant.1 c.as_slice.ensures.all refl c.own_of-seen.ensures.own)
    (rw c.as_slice-2.ensures at c.in_ok-compared.ensures) agreed otherwise)
