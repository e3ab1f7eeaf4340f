-- Laws of defaults.
use Rattle.std.specs.Prelude.{◌≡◌, ℕ}
use Rattle.eds_types.specs.Plain.{Plain}
use Rattle.eds_types.specs.Rows.{Table}
use Rattle.eds_types.specs.Rules.{KeepsRules}
use Rattle.eds_pack.specs.Defaults.{IsDefault}

-- two defaults of a type are one
abbrev pub OneDefault : Type 0
OneDefault = (t : Table) (id : ℕ) → KeepsRules t → (v w : Plain) → IsDefault t id v → IsDefault t id w → v ≡ w
