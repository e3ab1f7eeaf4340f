-- Octets that hold a value.
use Rattle.std.proofs.Common.{◌≡◌, ℕ, ◌+◌, ◌*◌, ◌≤◌, length, take, drop, length-drop, length-append, sym, ap, subst, ◌∙◌, arith}
use Rattle.std.proofs.lemmas.List.{take-append-drop}
use Rattle.std.specs.Prelude.{List, ◌++◌, Ok, Err}
use Rattle.eds_base.specs.declared.fail.Fail.{Fail}
use Rattle.eds_base.specs.declared.fault.Fault.{Fault}
use Rattle.eds_bits.specs.Bits.{Bits, bits_of}
use Rattle.eds_bits.proofs.OctetLaws.{length-bits_of}
use Rattle.eds_types.specs.declared.value.Value.{Value}
use Rattle.eds_types.specs.Plain.{Plain, plain}
use Rattle.eds_types.specs.Rows.{Table}
use Rattle.eds_types.specs.Spelling.{Spells}
use Rattle.eds_unpack.specs.Answers.{IsMemory, IsValue}
use Rattle.eds_replay.specs.Frames.{HoldValue}

module _ (t : Table) (id : ℕ) (value : Plain) (octets : List ℕ) where
  -- so many bits in front spell the value, and few follow
  pub value-held : (read : Plain) (size : ℕ) → read ≡ value → size ≤ length (bits_of octets) → 8 * length octets ≤ size + 7 → Spells t id read (take size (bits_of octets)) → HoldValue t id value octets
  value-held read size same within few spells = record {
    spelling = take size (bits_of octets);
    spells = subst (λ v. Spells t id v (take size (bits_of octets))) same spells;
    holds = record { rest = drop size (bits_of octets); begins = sym (take-append-drop size (bits_of octets)); few = omega (arith, length-drop size (bits_of octets), length-bits_of octets) };
  }

  -- what is read is the value, and few bits follow it
  pub held-few : (read : Value) (size : ℕ) (bits : Bits) → bits ≡ bits_of octets
      → ((v : Plain) (c rest : Bits) → bits ≡ c ++ rest → Spells t id v c → IsValue v (length c) (Ok (read, size)))
      → HoldValue t id value octets → (plain read ≡ value) × (8 * length octets ≤ size + 7)
  held-few read size bits is only h =
      let one = only value h.spelling h.holds.rest (is ∙ h.holds.begins) h.spells in
      let sizes : length (bits_of octets) ≡ length h.spelling + length h.holds.rest = ap length h.holds.begins ∙ length-append h.spelling h.holds.rest in
      (one.0, omega (arith, one.1, sizes, h.holds.few, length-bits_of octets))

  -- a fault says that it isn't held
  pub never-held : (stop : Fail Fault) (bits : Bits) → bits ≡ bits_of octets
      → ((v : Plain) (c rest : Bits) → bits ≡ c ++ rest → Spells t id v c → IsValue v (length c) (Err stop))
      → HoldValue t id value octets → IsMemory stop
  never-held stop bits is only h = only value h.spelling h.holds.rest (is ∙ h.holds.begins) h.spells
