-- What packing a value comes to.
use Rattle.std.specs.Prelude.{◌≡◌, ℕ, ◌≤◌, ◌<◌, [], length}
use Rattle.eds_base.specs.declared.fail.Fail.{Fail}
use Rattle.eds_base.specs.declared.fail.Fail.TheVariants.{Named, Memory}
use Rattle.eds_bits.specs.Bits.{Bits, octets_for}
use Rattle.eds_pack.specs.declared.fail.PackFail.{PackFail}
use Rattle.eds_types.specs.declared.reason.PackReason.TheVariants.{Room}
use Rattle.eds_types.specs.Packing.{PackFault, most_bits, pack_fault_at}
use Rattle.eds_types.specs.Plain.{Plain}
use Rattle.eds_types.specs.Rows.{Table}
use Rattle.eds_types.specs.Spelling.{Canon}

-- the value has a canonical spelling, of n bits, which isn't too long
abbrev pub Packs : Table → ℕ → Plain → ℕ → Type 0
Packs t id v n = (b : Bits) × Canon t id v b × (length b ≡ n) × (n ≤ most_bits)

-- where a fault is, and why
abbrev pub where_of : PackFail → PackFault
where_of f = pack_fault_at f.reason f.path

-- the fault for this reason at this path
abbrev pub fail_at : PackFault → PackFail
fail_at g = record { reason = g.reason; path = g.path; need = 0 }

-- the fault of a room that is too small: so many octets are needed
abbrev pub no_room : ℕ → PackFail
no_room octets = record { reason = Room; path = []; need = octets }

-- the value packs into more octets than there are
pub record LacksRoom (t : Table) (id : ℕ) (v : Plain) (octets : ℕ) (f : PackFail) : Type 0 where
  pub bits : ℕ
  pub packs : Packs t id v bits
  pub short : octets < octets_for bits
  pub is : f ≡ no_room (octets_for bits)

-- where a cause is named, it is P
abbrev pub IfNamed : {E : Type 0} → (E → Type 0) → Fail E → Type 0
IfNamed P (Named f) = P f
IfNamed P Memory = Unit {0}
