use Rattle.std.proofs.Common.{◌≡◌, ◌∙◌, ◌++◌, ℕ, List, take, sym, ap, refl, inl, ⊎_elim, Some, None}
use Rattle.eds_cmd.specs.declared.status.Status.TheVariants as statuses
use Rattle.eds_cmd.specs.Command.{command_of, words_of}
use Rattle.eds_cmd.specs.declared.status.What.TheVariants as what
use Rattle.eds_cmd.specs.Limits.{sheet_count}
use Rattle.eds_cmd.proofs.AnswerLemmas.{not_write_fault, past_answer, past_line, past_line_is, unread_reached}
use Rattle.eds_cmd.proofs.top.eds.Goals as goal

pub returns-in_default-clause-answer : goal.returns-in_default-clause-answer
returns-in_default-clause-answer g c = λ firsts tells files before told written calm.
    let none : command_of c.args.words.now ≡ None = rw (← c.as_slice.ensures) (sym c.in_default.ensures) in
    rw none (c.without_files.ensures.answer firsts tells files before written calm)

pub returns-in_default-clause-status : goal.returns-in_default-clause-status
returns-in_default-clause-status g c = λ firsts tells files told calm.
    let none : command_of c.args.words.now ≡ None = rw (← c.as_slice.ensures) (sym c.in_default.ensures) in
    rw none (c.without_files.ensures.status firsts tells files calm)

pub returns-in_default-clause-write_prefix : goal.returns-in_default-clause-write_prefix
returns-in_default-clause-write_prefix g c = λ firsts tells files before told written fault.
    let none : command_of c.args.words.now ≡ None = rw (← c.as_slice.ensures) (sym c.in_default.ensures) in
    let front = c.without_files.ensures.write_prefix firsts tells files before written fault in
    (front.1, front.2, (front.0, inl (rw none front.3)), front.4)

pub returns-then-command-gt-SHEETS-clause-answer : goal.returns-then-command-gt-SHEETS-clause-answer
returns-then-command-gt-SHEETS-clause-answer g c = λ firsts tells files before told written calm.
    let some : command_of c.args.words.now ≡ Some (words_of c.in-Some.command) = rw (← c.as_slice.ensures) (sym c.in-Some.ensures) in
    let whole = not_write_fault c.finish.result calm in
    let answer = past_answer firsts files (words_of c.in-Some.command) c.if-command-gt-SHEETS.true in (
      past_line,
      rw (some, c.finish.ensures.kept whole) answer,
      c.finish.ensures.whole before written whole ∙ ap (λ (line : List ℕ). Some (before ++ line)) c.as_bytes.ensures.value,
    )

pub returns-then-command-gt-SHEETS-clause-status : goal.returns-then-command-gt-SHEETS-clause-status
returns-then-command-gt-SHEETS-clause-status g c = λ firsts tells files told calm.
    let some : command_of c.args.words.now ≡ Some (words_of c.in-Some.command) = rw (← c.as_slice.ensures) (sym c.in-Some.ensures) in
    let kept = c.finish.ensures.kept (not_write_fault c.finish.result calm) in
    (past_line, rw (some, kept) (past_answer firsts files (words_of c.in-Some.command) c.if-command-gt-SHEETS.true))

pub returns-then-command-gt-SHEETS-clause-too_many_line : goal.returns-then-command-gt-SHEETS-clause-too_many_line
returns-then-command-gt-SHEETS-clause-too_many_line g c = λ before written many calm.
    rw (← past_line_is)
    (c.finish.ensures.whole before written (not_write_fault c.finish.result calm) ∙ ap (λ (line : List ℕ). Some (before ++ line)) c.as_bytes.ensures.value)

pub returns-then-command-gt-SHEETS-clause-write_prefix : goal.returns-then-command-gt-SHEETS-clause-write_prefix
returns-then-command-gt-SHEETS-clause-write_prefix g c = λ firsts tells files before told written fault.
    let some : command_of c.args.words.now ≡ Some (words_of c.in-Some.command) = rw (← c.as_slice.ensures) (sym c.in-Some.ensures) in
    let front = c.finish.ensures.prefix before written refl fault in
    let answer = past_answer firsts files (words_of c.in-Some.command) c.if-command-gt-SHEETS.true in
    (past_line, front.0, (statuses.Limit what.Files sheet_count, inl (rw some answer)), front.1 ∙ ap (λ (line : List ℕ). Some (before ++ take front.0 line)) c.as_bytes.ensures.value)

pub returns-in-Ok-clause-read_first : goal.returns-in-Ok-clause-read_first
returns-in-Ok-clause-read_first g c = λ firsts tells files name told fault.
    let some : command_of c.args.words.now ≡ Some (words_of c.in-Some.command) = rw (← c.as_slice.ensures) (sym c.in-Some.ensures) in
    let kept = c.finish-in-Ok.ensures.kept (λ e. cc (e, fault)) in
    let reached = unread_reached firsts _ files (words_of c.in-Some.command) c.in-Ok.field-0.status c.in-Ok.field-0.report name (c.in-Ok.ensures.told firsts tells files told) (sym kept ∙ fault) in
    rw some reached

pub returns-in-Ok-clause-write_prefix : goal.returns-in-Ok-clause-write_prefix
returns-in-Ok-clause-write_prefix g c = λ firsts tells files before told written fault.
    let some : command_of c.args.words.now ≡ Some (words_of c.in-Some.command) = rw (← c.as_slice.ensures) (sym c.in-Some.ensures) in
    let front = rw c.as_slice-in-Ok.ensures at (c.finish-in-Ok.ensures.prefix before written c.in-Ok.ensures.written fault) in
    (c.in-Ok.field-0.report, front.0, (c.in-Ok.field-0.status, rw some (c.in-Ok.ensures.told firsts tells files told)), front.1)

pub returns-in-Ok-clause-complete : goal.returns-in-Ok-clause-complete
returns-in-Ok-clause-complete g c = λ firsts tells files words told is valid reads_calm writes_calm.
    let some : Some (words_of c.in-Some.command) ≡ Some words = c.in-Some.ensures ∙ rw c.as_slice.ensures is in
    let same : words_of c.in-Some.command ≡ words = cc some in
    let kept = c.finish-in-Ok.ensures.kept (λ e. writes_calm (c.finish-in-Ok.ensures.cause c.in-Ok.ensures.written e)) in
    ⊎_elim
    (λ answer. inl (kept ∙ c.answer_is_one.ensures.valid firsts files (words_of c.in-Some.command) c.in-Ok.field-0.status c.in-Ok.field-0.report (rw same valid) answer))
    (λ unread. absurd (reads_calm unread.name unread.risen))
    (c.in-Ok.ensures.told firsts tells files told)
