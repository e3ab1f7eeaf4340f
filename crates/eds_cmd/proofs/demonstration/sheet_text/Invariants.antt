use Rattle.std.proofs.Common.{◌≡◌, ◌++◌, ◌+◌, ◌-◌, string_bytes}
use Rattle.eds_cmd.specs.Demo.{front_text, packets_text}
use Rattle.eds_cmd.proofs.demonstration.sheet_text.Given as goal

abbrev pub invariant-loop-i : goal.invariant-loop-i
invariant-loop-i l = string_bytes l.text ++ packets_text l.i (l.n + 1 - l.i) ≡ front_text ++ packets_text 1 l.n
