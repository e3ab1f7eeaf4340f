use Rattle.std.proofs.Common.{option_map}
use Rattle.eds_sheet.proofs.SoundSheets.{judged-sound, answered_judged}
use Rattle.eds_sheet.proofs.judged.judge.Goals as goal

pub returns-clause-clear : goal.returns-clause-clear
returns-clause-clear c = let word = option_map (λ w. w.now) c.args.extra in answered_judged _ _ _ (λ j e. (judged-sound c.args.files.now word j e).clear) c.judged_types.ensures.judged

pub returns-clause-solid : goal.returns-clause-solid
returns-clause-solid c = let word = option_map (λ w. w.now) c.args.extra in answered_judged _ _ _ (λ j e. (judged-sound c.args.files.now word j e).solid) c.judged_types.ensures.judged

pub returns-clause-named : goal.returns-clause-named
returns-clause-named c = let word = option_map (λ w. w.now) c.args.extra in answered_judged _ _ _ (λ j e. (judged-sound c.args.files.now word j e).all) c.judged_types.ensures.judged

pub returns-clause-used : goal.returns-clause-used
returns-clause-used c = let word = option_map (λ w. w.now) c.args.extra in answered_judged _ _ _ (λ j e. (judged-sound c.args.files.now word j e).used) c.judged_types.ensures.judged
