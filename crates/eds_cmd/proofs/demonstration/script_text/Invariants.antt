use Rattle.std.proofs.Common.{◌≡◌, ◌++◌, ◌+◌, ◌-◌, ◌*◌, string_bytes}
use Rattle.eds_cmd.specs.Demo.{demo_script, frames_text}
use Rattle.eds_cmd.proofs.demonstration.script_text.Given as goal

abbrev pub invariant-loop-i : goal.invariant-loop-i
invariant-loop-i l = string_bytes l.text ++ frames_text l.n l.i (10 * (l.n + 1) + 1 - l.i) ≡ demo_script l.n
