use Rattle.std.specs.Prelude.{option_map}
use Rattle.eds_sheet.proofs.CompiledLaws.{refused-by, refused-for, accepted-whole, whole-accepted}
use Rattle.eds_sheet.proofs.law.refused_for_the_first_break.Goals as goal

pub returns : goal.returns
returns c =
    let files = c.args.files.now in
    let word = option_map (λ w. w.now) c.args.word in
    record {
      refused = λ firsts r. (refused-by firsts files word r, refused-for firsts files word r);
      accepted = λ firsts. (accepted-whole firsts files word, whole-accepted firsts files word);
    }
