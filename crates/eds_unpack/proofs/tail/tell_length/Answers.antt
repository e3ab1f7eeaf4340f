use Rattle.std.proofs.Common.{ap, ◌∙◌, ◌∷◌}
use Rattle.eds_types.specs.Rows.{sequence}
use Rattle.eds_unpack.proofs.Reaches.{length_is, steps_of}
use Rattle.eds_unpack.proofs.tail.tell_length.Goals as goal

pub returns-in-Some-clause-value : goal.returns-in-Some-clause-value
returns-in-Some-clause-value c = c.put_first.ensures ∙ ap (λ old. c.in-Some.step ∷ old) c.requires.root ∙ ap steps_of c.in-Some.ensures ∙ length_is (sequence c.args.table.now c.args.id.0)

pub returns-in-None-clause-value : goal.returns-in-None-clause-value
returns-in-None-clause-value c = c.requires.root ∙ ap steps_of c.in-None.ensures ∙ length_is (sequence c.args.table.now c.args.id.0)
