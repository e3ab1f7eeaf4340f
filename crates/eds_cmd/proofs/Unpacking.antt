-- What unpacking a frame comes to, where its first bits spell a value.
use Rattle.std.proofs.Common.{◌≡◌, ℕ, ◌+◌, ◌≤◌, ◌<◌, List, [], length, take, drop, refl, sym, ◌∙◌, ap, arith, inl, inr}
use Rattle.std.proofs.lemmas.List.{take-append-drop, length-take-le, length-drop}
use Rattle.eds_base.specs.declared.fault.Fault.{Fault}
use Rattle.eds_base.specs.declared.fault.Reason.TheVariants.{Trailing}
use Rattle.eds_bits.specs.Bits.{Bits}
use Rattle.eds_types.specs.Plain.{Plain}
use Rattle.eds_types.specs.Spelling.{Spells}
use Rattle.eds_value.specs.JsonOfValue.{json_text}
use Rattle.eds_cmd.specs.declared.status.Status.TheVariants as statuses
use Rattle.eds_cmd.specs.declared.stop.Stop.{Stop}
use Rattle.eds_cmd.specs.Reports.{bits_report}
use Rattle.eds_cmd.specs.Stops.{frame_fault, status_of}
use Rattle.eds_cmd.specs.Target.{TypeIn}
use Rattle.eds_cmd.specs.Unpack.{Begins, UnpacksBits}

-- the value of the first bits begins all of them
begins : (type : TypeIn) (value : Plain) (size : ℕ) (bits : Bits) → Spells type.table type.id value (take size bits) → Begins type value (take size bits) (drop size bits) bits
begins type value size bits spelled = record { split = sym (take-append-drop size bits); spelled = spelled }

-- at most 7 bits follow
pub unpacked_by : (type : TypeIn) (value : Plain) (size : ℕ) (bits : Bits) (report : List ℕ) → size ≤ length bits → length bits < size + 8
    → Spells type.table type.id value (take size bits) → report ≡ bits_report (json_text type.table value) size → UnpacksBits type bits statuses.Done report
unpacked_by type value size bits report within few spelled is = inl (record {
  value = value;
  front = take size bits;
  rest = drop size bits;
  begins = begins type value size bits spelled;
  few = omega (arith, length-drop size bits);
  status_is = refl;
  report_is = is ∙ ap (λ (n : ℕ). bits_report (json_text type.table value) n) (sym (length-take-le size bits within));
})

-- 8 bits or more follow
pub trailing_by : (type : TypeIn) (value : Plain) (size : ℕ) (bits : Bits) (fault : Fault) (stop : Stop) → size + 8 ≤ length bits
    → Spells type.table type.id value (take size bits) → fault.reason ≡ Trailing → fault.path ≡ []
    → stop ≡ frame_fault type.table fault.reason fault.path → UnpacksBits type bits (status_of stop.cause) stop.report
trailing_by type value size bits fault stop many spelled reason path is =
    let at_root = rw (reason, path) at is in
    inr (inl (record {
      value = value;
      front = take size bits;
      rest = drop size bits;
      begins = begins type value size bits spelled;
      many = omega (arith, length-drop size bits);
      stop = record { status_is = ap (λ (s : Stop). status_of s.cause) at_root; report_is = ap (λ (s : Stop). s.report) at_root };
    }))
