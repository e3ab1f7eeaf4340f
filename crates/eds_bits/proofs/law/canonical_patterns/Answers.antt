use Rattle.eds_bits.proofs.FormLaws.{has_canonical, one_canonical}
use Rattle.eds_bits.proofs.law.canonical_patterns.Goals as goal

pub returns : goal.returns
returns c = record {
  some = λ n h. has_canonical c.args.form n h;
  one = λ n bits others i j. one_canonical c.args.form n bits others i j;
}
