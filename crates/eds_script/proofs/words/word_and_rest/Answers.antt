use Rattle.std.proofs.Common.{refl, lit<}
use Rattle.eds_script.specs.Words.{is_space}
use Rattle.eds_script.proofs.Places.{some-placed, none-placed}
use Rattle.eds_script.proofs.words.word_and_rest.Goals as goal

pub returns : goal.returns
returns c =
    let h = c.in_ok-first.ensures.byte (lit< tt) (λ w o f. f) in
    rw (some-placed is_space c.args.text.now h.2, h.0, h.1) refl

pub returns-in_err-first : goal.returns-in_err-first
returns-in_err-first c =
    let h = c.in_err-first.ensures.byte (lit< tt) (λ w o f. f) in
    rw (c.from_residual.ensures, none-placed is_space c.args.text.now h) refl
