use Rattle.std.proofs.Common.{◌≡◌, ℕ, List, ◌++◌, take}
use Rattle.eds_bits.specs.Scalars.{check_of_octets}
use Rattle.eds_bits.specs.declared.forms.CheckKind.TheVariants.{Checksum}
use Rattle.eds_codec.proofs.check.summed.Given as goal

abbrev pub invariant-loop-octet : goal.invariant-loop-octet
invariant-loop-octet l = (seen : List ℕ) → l.fn.before ≡ check_of_octets Checksum seen → l.sum ≡ check_of_octets Checksum (seen ++ take l.octet-index l.octets)
