use Rattle.std.proofs.Common.{◌≡◌, ◌++◌, drop, string_bytes}
use Rattle.eds_overlap.specs.Index.{numbers_text}
use Rattle.eds_overlap.proofs.index.numbers_text.Given as goal

abbrev pub invariant-loop-one : goal.invariant-loop-one
invariant-loop-one l = string_bytes l.text ++ numbers_text (drop l.one-index l.numbers) ≡ numbers_text l.numbers
