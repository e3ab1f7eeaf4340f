use Rattle.std.proofs.Common.{◌≡◌, ℕ, List, Result, Ok, Err}
use Rattle.std.specs.Prelude.{OnOk}
use Rattle.eds_base.specs.declared.fault.Reason.{Reason}
use Rattle.eds_bits.specs.Bits.{Bits, octets_of}
use Rattle.eds_bits.specs.Reader.{bits_left}
use Rattle.eds_types.specs.Plain.{bits}
use Rattle.eds_types.specs.Reading.{judge, read_bits}
use Rattle.eds_unpack.specs.Readers.{passed}
use Rattle.eds_unpack.proofs.Skims.{octets_passed}
use Rattle.eds_unpack.proofs.skim.skim_octets.Goals as goal

octets_of_result : (n : ℕ) (b rest : Bits) (r : Result (Unit {0}) Reason) → OnOk r (passed (read_bits n b) ≡ Ok rest) → OnOk r ((o : List ℕ) × (judge (λ d. Ok (bits n (octets_of d))) (read_bits n b) ≡ Ok (bits n o, rest)))
octets_of_result n b rest (Ok u) h = octets_passed n b rest h
octets_of_result n b rest (Err g) h = tt

pub returns-clause-read : goal.returns-clause-read
returns-clause-read c = octets_of_result c.args.bits (bits_left c.args.reader.now) (bits_left c.skim_padding.new.reader) c.skim_padding.result c.skim_padding.ensures.read
