use Rattle.std.proofs.Common.{◌≡◌, ◌∙◌, ◌++◌, ℕ, List, take, sym, ap, refl, Some, None}
use Rattle.eds_cmd.specs.declared.status.Status.TheVariants as statuses
use Rattle.eds_cmd.specs.Command.{demo_of}
use Rattle.eds_cmd.specs.Reports.{usage_line}
use Rattle.eds_cmd.proofs.AnswerLemmas.{not_write_fault}
use Rattle.eds_cmd.proofs.top.without_files.Goals as goal

pub returns-in_default-clause-status : goal.returns-in_default-clause-status
returns-in_default-clause-status g c = λ firsts tells files calm.
    let none : demo_of c.args.words.now ≡ None = rw (← c.as_slice.ensures) (sym c.in_default.ensures.number) in
    (usage_line, rw none (c.finish.ensures.kept (not_write_fault c.finish.result calm), refl))

pub returns-in_default-clause-answer : goal.returns-in_default-clause-answer
returns-in_default-clause-answer g c = λ firsts tells files before written calm.
    let none : demo_of c.args.words.now ≡ None = rw (← c.as_slice.ensures) (sym c.in_default.ensures.number) in
    let whole = not_write_fault c.finish.result calm in
    (usage_line, rw none (c.finish.ensures.kept whole, refl), c.finish.ensures.whole before written whole ∙ ap (λ (line : List ℕ). Some (before ++ line)) c.as_bytes.ensures.value)

pub returns-in_default-clause-usage_line : goal.returns-in_default-clause-usage_line
returns-in_default-clause-usage_line g c = λ before written usage. c.finish.ensures.whole before written (λ fault. cc (usage, fault)) ∙ ap (λ (line : List ℕ). Some (before ++ line)) c.as_bytes.ensures.value

pub returns-in_default-clause-write_prefix : goal.returns-in_default-clause-write_prefix
returns-in_default-clause-write_prefix g c = λ firsts tells files before written fault.
    let none : demo_of c.args.words.now ≡ None = rw (← c.as_slice.ensures) (sym c.in_default.ensures.number) in
    let front = c.finish.ensures.prefix before written refl fault in
    (statuses.Usage, usage_line, front.0, rw none (refl, refl), front.1 ∙ ap (λ (line : List ℕ). Some (before ++ take front.0 line)) c.as_bytes.ensures.value)

pub returns-in-Ok-clause-status : goal.returns-in-Ok-clause-status
returns-in-Ok-clause-status g c = λ firsts tells files calm.
    let some : demo_of c.args.words.now ≡ Some c.in-Some.n = rw (← c.as_slice.ensures) (sym c.in-Some.ensures.number) in
    let kept = c.finish-in-Ok.ensures.kept (not_write_fault c.finish-in-Ok.result calm) in
    (c.in-Ok.report, rw (some, kept) (c.in-Ok.ensures firsts tells))

pub returns-in-Ok-clause-answer : goal.returns-in-Ok-clause-answer
returns-in-Ok-clause-answer g c = λ firsts tells files before written calm.
    let some : demo_of c.args.words.now ≡ Some c.in-Some.n = rw (← c.as_slice.ensures) (sym c.in-Some.ensures.number) in
    let whole = not_write_fault c.finish-in-Ok.result calm in
    (c.in-Ok.report, rw (some, c.finish-in-Ok.ensures.kept whole) (c.in-Ok.ensures firsts tells), rw c.as_slice-in-Ok.ensures at (c.finish-in-Ok.ensures.whole before written whole))

pub returns-in-Ok-clause-write_prefix : goal.returns-in-Ok-clause-write_prefix
returns-in-Ok-clause-write_prefix g c = λ firsts tells files before written fault.
    let some : demo_of c.args.words.now ≡ Some c.in-Some.n = rw (← c.as_slice.ensures) (sym c.in-Some.ensures.number) in
    let front = rw c.as_slice-in-Ok.ensures at (c.finish-in-Ok.ensures.prefix before written refl fault) in
    (statuses.Done, c.in-Ok.report, front.0, rw some (c.in-Ok.ensures firsts tells), front.1)
