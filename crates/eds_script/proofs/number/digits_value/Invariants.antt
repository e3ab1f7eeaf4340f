use Rattle.std.proofs.Common.{◌≡◌, ◌<◌, ◌^◌, drop}
use Rattle.eds_base.specs.Numbers.{decimal_value}
use Rattle.eds_script.proofs.number.digits_value.Given as goal

abbrev pub invariant-loop-digit : goal.invariant-loop-digit
invariant-loop-digit l = record {
  same : decimal_value l.value (drop l.digit-index l.digits) ≡ decimal_value 0 l.digits;
  small : l.value < 10 ^ l.digit-index;
}
