use Rattle.std.proofs.Common.{◌≡◌, ◌++◌, drop, string_bytes}
use Rattle.eds_overlap.specs.PathTexts.{dotted, path_text}
use Rattle.eds_overlap.proofs.texts.path_text.Given as goal

abbrev pub invariant-loop-step : goal.invariant-loop-step
invariant-loop-step l = string_bytes l.text ++ dotted l.table (drop l.step-index l.further) ≡ path_text l.table l.path
