-- The plain data of each kind of value.
use Rattle.std.proofs.Common.{◌≡◌, ℕ, List, Bool, length, map, sym, ap, ◌∙◌}
use Rattle.std.proofs.lemmas.List.{length-map}
use Rattle.eds_types.specs.declared.value.Value.{Value}
use Rattle.eds_types.specs.declared.value.Value.TheVariants.{rolls-Label, rolls-Bool, rolls-Bits}
use Rattle.eds_types.specs.declared.value.Value.TheVariants as value
use Rattle.eds_types.specs.declared.value.Value.TheOpen.{Value-F}
use Rattle.eds_types.specs.declared.value.Value.TheFolds.{fold-roll-Value}
use Rattle.eds_types.specs.Plain.{Plain, label, truth, bits, plain_step, plain}

pub plain_label : (l : List ℕ) → plain (value.Label l) ≡ label l
plain_label l = ap plain (sym (rolls-Label l)) ∙ fold-roll-Value Plain plain_step (Value-F.Label l)

pub plain_truth : (b : Bool) → plain (value.Bool b) ≡ truth b
plain_truth b = ap plain (sym (rolls-Bool b)) ∙ fold-roll-Value Plain plain_step (Value-F.Bool b)

-- a value has one plain tree
pub length_plains : (vs : List Value) → length (map plain vs) ≡ length vs
length_plains vs = length-map vs plain

pub plain_bits : (n : ℕ) (os : List ℕ) → plain (value.Bits n os) ≡ bits n os
plain_bits n os = ap plain (sym (rolls-Bits n os)) ∙ fold-roll-Value Plain plain_step (Value-F.Bits n os)
