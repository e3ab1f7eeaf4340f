use Rattle.eds_bits.proofs.FormLaws.{only_numbers, has_canonical}
use Rattle.eds_bits.proofs.law.decoding_and_encoding.Goals as goal

pub returns : goal.returns
returns c = record {
  encoded = λ n bits i. i.is.number;
  decoded = λ n bits i. has_canonical c.args.form n (only_numbers c.args.form n bits i);
}
