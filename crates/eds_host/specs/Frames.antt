-- What a frame comes to, for the type of the one argument that its command carries.
use Rattle.std.specs.Prelude.{◌≡◌, ◌≤◌, ◌++◌, ℕ, length, Result, Ok, Err, ◌⊎◌}
use Rattle.eds_base.specs.declared.fault.Fault.{Fault}
use Rattle.eds_base.specs.declared.fault.Reason.TheVariants.{Trailing}
use Rattle.eds_bits.specs.Bits.{Bits}
use Rattle.eds_types.specs.Failing.{FailsAt, fault_here}
use Rattle.eds_types.specs.Plain.{Plain}
use Rattle.eds_types.specs.Rows.{Table}
use Rattle.eds_types.specs.Spelling.{Spells}

-- a front of the bits spells the value of the type, and the rest follows
pub record Begins (t : Table) (id : ℕ) (value : Plain) (rest bits : Bits) : Type 0 where
  pub front : Bits
  pub split : bits ≡ front ++ rest
  pub spelled : Spells t id value front

-- the frame is this value, with at most 7 bits behind it, or it is refused for what is wrong with it: reading it fails
-- there, or 8 bits or more are left
abbrev pub FrameIs : Table → ℕ → Bits → Result Plain Fault → Type 0
FrameIs t id bits (Ok v) = (rest : Bits) × Begins t id v rest bits × (length rest ≤ 7)
FrameIs t id bits (Err fault) = FailsAt t id bits fault ⊎ ((v : Plain) × (rest : Bits) × Begins t id v rest bits × (8 ≤ length rest) × (fault ≡ fault_here Trailing))
