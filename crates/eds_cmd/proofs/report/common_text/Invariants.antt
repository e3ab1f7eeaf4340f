use Rattle.std.proofs.Common.{◌≡◌, ◌++◌, drop, string_bytes}
use Rattle.eds_cmd.specs.Reports.{common_text}
use Rattle.eds_cmd.proofs.report.common_text.Given as goal

abbrev pub invariant-loop-one : goal.invariant-loop-one
invariant-loop-one l = string_bytes l.text ++ common_text (drop l.one-index l.common) ≡ common_text l.common
