-- Going on where a test holds.
use Rattle.std.specs.Prelude.{Bool, true, false, Result, Ok, Err}

-- goes on where a test holds, and else stops for a reason
abbrev pub unless_stop : {W : Type 0} → W → Bool → Result Bool W
unless_stop w false = Err w
unless_stop w true = Ok true
