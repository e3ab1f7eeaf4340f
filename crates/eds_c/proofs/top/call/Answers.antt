use Rattle.std.proofs.Common.{◌≡◌, ◌∙◌, ◌⊎◌, ℕ, List, [], Some, refl, sym, ap, inl, inr, ⊎_elim, subst}
use Rattle.eds_io.specs.Files.{Files}
use Rattle.eds_cmd.specs.Answer.{Answer}
use Rattle.eds_cmd.specs.Status.{number_of}
use Rattle.eds_c.proofs.Handed.{no_fault, two_ends}
use Rattle.eds_c.proofs.top.call.Goals as goal

pub returns-clause-answer : goal.returns-clause-answer
returns-clause-answer c = λ firsts tells ws fs is some.
    let ok = c.in-Ok.ensures.ok in
    let same_words : c.in-Ok.request.words ≡ ws = cc (ok.words_are, is.words_are) in
    let same_files : c.in-Ok.request.files ≡ fs = cc (ok.files_are, is.files_are) in
    let got = c.eds-status.ensures.answer firsts tells c.in-Ok.request.files [] (ap Some c.new-shelf.ensures) (ap Some c.new-kept.ensures.octets) (c.is_fault.ensures.calm c.if-is_fault.false) in
    let report : c.written.result.now ≡ got.0 = c.written.ensures ∙ cc got.2 in
    (c.eds-status.result, got.0, rw (← same_words, ← same_files) got.1, rw (← report, ← c.number.ensures) c.hand.ensures)

pub returns-clause-complete : goal.returns-clause-complete
returns-clause-complete c = λ firsts tells ws fs words is command valid.
    let ok = c.in-Ok.ensures.ok in
    let same_words : c.in-Ok.request.words ≡ ws = cc (ok.words_are, is.words_are) in
    let same_files : c.in-Ok.request.files ≡ fs = cc (ok.files_are, is.files_are) in
    let got = c.eds-status.ensures.answer firsts tells c.in-Ok.request.files [] (ap Some c.new-shelf.ensures) (ap Some c.new-kept.ensures.octets) (c.is_fault.ensures.calm c.if-is_fault.false) in
    let answer : Answer firsts ws fs c.eds-status.result got.0 = rw (← same_words, ← same_files) got.1 in
    let done = c.answer_is_one.ensures.valid firsts fs words c.eds-status.result got.0 valid (rw command at answer) in
    ⊎_elim
    (λ e. inl (e ∙ c.number.ensures ∙ ap number_of done))
    (λ e. inr (inl e))
    (two_ends c.number.result _ c.written.result.now c.args.room.now c.hand.ensures)

pub returns-clause-no_fault : goal.returns-clause-no_fault
returns-clause-no_fault c =
    no_fault c.eds-status.result c.hand.result.status (c.is_fault.ensures.calm c.if-is_fault.false)
    (⊎_elim (λ e. inl (e ∙ c.number.ensures)) (λ e. inr e) (two_ends c.number.result _ c.written.result.now c.args.room.now c.hand.ensures))
