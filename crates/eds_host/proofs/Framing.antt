-- What a frame is whose first bits spell a value.
use Rattle.std.proofs.Common.{◌≡◌, ℕ, ◌+◌, ◌≤◌, ◌<◌, [], length, take, drop, sym, subst, ◌∙◌, ap, arith, inr}
use Rattle.std.specs.Prelude.{Ok, Err, Result, List, IfErr, IfOk}
use Rattle.eds_base.specs.declared.fail.Fail.{Fail}
use Rattle.eds_base.specs.declared.fail.Fail.TheVariants.{Named, Memory}
use Rattle.eds_types.specs.declared.value.Value.{Value}
use Rattle.eds_unpack.specs.Answers.{IfNamed}
use Rattle.std.proofs.lemmas.List.{take-append-drop, length-drop}
use Rattle.eds_base.specs.declared.fault.Fault.{Fault}
use Rattle.eds_base.specs.declared.fault.Reason.{Reason}
use Rattle.eds_base.specs.declared.fault.Reason.TheVariants.{Trailing}
use Rattle.eds_base.specs.declared.fault.Step.{Step}
use Rattle.eds_bits.specs.Bits.{Bits}
use Rattle.eds_types.specs.Failing.{fault_at}
use Rattle.eds_types.specs.Plain.{Plain, plain}
use Rattle.eds_types.specs.Rows.{Table}
use Rattle.eds_types.specs.Spelling.{Spells}
use Rattle.eds_host.specs.Frames.{FrameIs, Begins}

module _ (t : Table) (id : ℕ) (v : Plain) (size : ℕ) (bits : Bits) (spelled : Spells t id v (take size bits)) where
  begins : Begins t id v (drop size bits) bits
  begins = record { front = take size bits; split = sym (take-append-drop size bits); spelled = spelled }

  pub frame_is : (n : ℕ) → length bits ≡ n → n < size + 8 → FrameIs t id bits (Ok v)
  frame_is n e few = (drop size bits, begins, omega (arith, few, e, length-drop size bits))

  pub frame_trails : (n : ℕ) (fault : Fault) → length bits ≡ n → size + 8 ≤ n → fault.reason ≡ Trailing → fault.path ≡ [] → FrameIs t id bits (Err fault)
  frame_trails n fault e many why path = inr (v, drop size bits, begins, omega (arith, many, e, length-drop size bits), ap (λ (r : Reason). fault_at r fault.path) why ∙ ap (λ (p : List Step). fault_at Trailing p) path)

-- what a function gave that looks at the bits behind a value
module _ (t : Table) (id : ℕ) (value : Value) (size n : ℕ) (bits : Bits) (spelled : Spells t id (plain value) (take size bits)) (e : length bits ≡ n) where
  pub whole_is : (r : Result Value (Fail Fault)) → IfOk r (λ x. (x ≡ value) × (n < size + 8)) → IfOk r (λ x. FrameIs t id bits (Ok (plain x)))
  whole_is (Ok x) h = subst (λ (y : Value). FrameIs t id bits (Ok (plain y))) (sym h.0) (frame_is t id (plain value) size bits spelled n e h.1)
  whole_is (Err stop) h = tt

  pub whole_trails : (r : Result Value (Fail Fault)) → IfErr r (IfNamed (λ g. (size + 8 ≤ n) × (g.reason ≡ Trailing) × (g.path ≡ []))) → IfErr r (IfNamed (λ g. FrameIs t id bits (Err g)))
  whole_trails (Ok x) h = tt
  whole_trails (Err (Named g)) h = frame_trails t id (plain value) size bits spelled n g e h.0 h.1 h.2
  whole_trails (Err Memory) h = tt
