use Rattle.eds_bits.specs.Encodings.{ordered}
use Rattle.eds_bits.proofs.PatternLaws.{no_number}
use Rattle.eds_bits.proofs.FormLaws.{one_number}
use Rattle.eds_bits.proofs.law.numbers_of_patterns.Goals as goal

pub returns : goal.returns
returns c = record {
  one = λ m n bits i j. one_number c.args.form m n bits i j;
  none = λ bits. no_number c.args.form.encoding (ordered c.args.form.order bits);
}
