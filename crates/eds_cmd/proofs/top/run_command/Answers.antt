use Rattle.std.proofs.Common.{ap, inl, inr}
use Rattle.std.proofs.lemmas.Result.{IfOk-weaker}
use Rattle.eds_cmd.specs.declared.top.Outcome.{Outcome}
use Rattle.eds_cmd.specs.Command.{words_of}
use Rattle.eds_cmd.proofs.AnswerLemmas.{few_answer}
use Rattle.eds_cmd.proofs.top.run_command.Goals as goal

pub returns-in-Ok-clause-told : goal.returns-in-Ok-clause-told
returns-in-Ok-clause-told g c = λ firsts tells files told. inl (few_answer firsts files (words_of c.args.command.now) _ _ c.requires (c.in-Ok.ensures.told firsts tells files told))

pub returns-in-Err-Stopped-clause-told : goal.returns-in-Err-Stopped-clause-told
returns-in-Err-Stopped-clause-told g c = λ firsts tells files told.
    let stops = rw c.in-Err-Stopped.field-0-is at (c.in-Err-Stopped.ensures.told firsts tells files told) in
    inl (few_answer firsts files (words_of c.args.command.now) _ _ c.requires (rw c.status.ensures stops))

pub returns-in-Err-Unread-clause-told : goal.returns-in-Err-Unread-clause-told
returns-in-Err-Unread-clause-told g c = λ firsts tells files told.
    let reached = rw c.in-Err-Unread.field-0-is at (c.in-Err-Unread.ensures.reached firsts tells files told) in
    let risen = rw c.in-Err-Unread.field-0-is at c.in-Err-Unread.ensures.cause in
    IfOk-weaker c.unread.result _ _ (λ o e. inr (record {
      name = c.in-Err-Unread.name;
      status_is = ap (λ (p : Outcome). p.status) e;
      report_is = ap (λ (p : Outcome). p.report) e;
      risen = risen;
      reached = reached;
    })) c.unread.ensures
