use Rattle.json.specs.Written.{PlainBetween}
use Rattle.eds_value.proofs.quoted.is_plain.Given as goal

abbrev pub invariant-loop-octet : goal.invariant-loop-octet
invariant-loop-octet l = PlainBetween l.text 0 l.octet-index
