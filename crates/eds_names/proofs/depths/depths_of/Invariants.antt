use Rattle.std.proofs.Common.{◌≡◌, ℕ, List, false, drop}
use Rattle.eds_names.specs.LookUp.{item_named, slashes, is_marked}
use Rattle.eds_names.proofs.depths.depths_of.Given as goal

abbrev pub invariant-loop-one : goal.invariant-loop-one
invariant-loop-one l = (q : List ℕ) → is_marked l.depths.items (slashes q) ≡ false → item_named (drop l.one-index l.declared) q ≡ item_named l.declared q
