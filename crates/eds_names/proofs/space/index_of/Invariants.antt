use Rattle.std.proofs.Common.{◌≡◌, ℕ, List, drop}
use Rattle.std.specs.HashMap.{get_by_text}
use Rattle.eds_names.specs.LookUp.{item_named, or_else}
use Rattle.eds_names.proofs.space.index_of.Given as goal

abbrev pub invariant-loop-one : goal.invariant-loop-one
invariant-loop-one l = (q : List ℕ) → or_else (get_by_text l.index q) (item_named (drop l.one-index l.declared) q) ≡ item_named l.declared q
