use Rattle.std.proofs.Common.{subst, sym, ◌∙◌}
use Rattle.eds_plan.specs.Outs.{report}
use Rattle.eds_script.specs.Events.{IsEventLine}
use Rattle.eds_replay.specs.Agreement.{IsEventText, IsRespelled}
use Rattle.eds_replay.proofs.Pairing.{agrees-otherwise, never-agrees}
use Rattle.eds_replay.proofs.pair.pair_of.Goals as goal

pub returns-then-branch : goal.returns-then-branch
returns-then-branch c =
    let t = c.args.table.now in
    let plan = c.args.plan.now in
    let r = report c.args.event.now in
    let got : IsEventText t plan r c.without_feed-got.result.now = subst (IsEventLine t plan r) (sym c.as_slice.ensures ∙ c.without_feed-got.ensures.line) c.in_ok-line.ensures.line in
    let h : IsRespelled t plan r c.args.text.now = (rw c.as_bytes-recorded.ensures.value at c.in_ok-is_respelled.ensures.holds) c.if-branch.true in
    agrees-otherwise t plan r c.args.text.now c.without_feed-got.result.now c.one_line.ensures c.keeps_rules.ensures c.requires.known got (rw c.as_bytes-recorded.ensures.value at c.if-are_same.ensures) h

pub returns : goal.returns
returns c =
    let t = c.args.table.now in
    let plan = c.args.plan.now in
    let r = report c.args.event.now in
    let got : IsEventText t plan r c.without_feed-got.result.now = subst (IsEventLine t plan r) (sym c.as_slice.ensures ∙ c.without_feed-got.ensures.line) c.in_ok-line.ensures.line in (
      never-agrees t plan r c.args.text.now c.without_feed-got.result.now c.one_line.ensures c.keeps_rules.ensures c.requires.known got (rw c.as_bytes-recorded.ensures.value at c.if-are_same.ensures)
          (λ h. let k = (rw c.as_bytes-recorded.ensures.value at c.in_ok-is_respelled.ensures.only) h in let n = c.if-branch.false in cc),
      subst (IsEventText t plan r) (sym c.in_ok-text_of.ensures) got,
    )
