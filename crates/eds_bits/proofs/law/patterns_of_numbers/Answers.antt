use Rattle.eds_bits.proofs.FormLaws.{only_numbers, has_canonical}
use Rattle.eds_bits.proofs.law.patterns_of_numbers.Goals as goal

pub returns : goal.returns
returns c = record {
  only = λ n bits i. only_numbers c.args.form n bits i;
  each = λ n h. let p = has_canonical c.args.form n h in (p.0, p.1.is);
}
