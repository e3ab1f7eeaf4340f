use Rattle.std.proofs.Common.{◌≡◌, drop, option_map}
use Rattle.std.specs.Option.{option_copied}
use Rattle.eds_types.specs.Plain.{plain}
use Rattle.eds_types.specs.Seeking.{along}
use Rattle.eds_types.proofs.seek.value_along.Given as goal

abbrev pub invariant-loop-wanted : goal.invariant-loop-wanted
invariant-loop-wanted l = along l.table (option_map plain (option_copied l.at)) (drop l.wanted-index l.path) ≡ along l.table (option_map plain (option_copied l.fn.value)) l.path
