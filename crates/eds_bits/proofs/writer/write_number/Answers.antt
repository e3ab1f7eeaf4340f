use Rattle.std.proofs.Common.{◌≡◌, ◌+◌, ◌-◌, ◌*◌, ◌/◌, ◌^◌, length, bit_and, arith, ap, sym, ◌∙◌, length-set}
use Rattle.std.proofs.lemmas.Nat.{and_mask}
use Rattle.eds_bits.specs.Bits.{low_bits}
use Rattle.eds_bits.proofs.Windows.{low_none, written_more}
use Rattle.eds_bits.proofs.writer.write_number.Goals as goal

pub loop-octet-init : goal.loop-octet-init
loop-octet-init c = record { count = omega arith; written = low_none (c.args.number / 2 ^ (8 * length c.args.octets.now)) }

pub loop-octet-preserved : goal.loop-octet-preserved
loop-octet-preserved c =
    let next : c.loop-octet.after - 1 + 1 ≡ c.loop-octet.after = omega arith in
    record {
      count = simp length-set (omega arith);
      written =
          written_more c.loop-octet.octets c.loop-octet.octet-index (c.loop-octet.after - 1) c.args.number (bit_and (c.args.number / 2 ^ (8 * (c.loop-octet.after - 1))) 255) (omega arith)
          (and_mask (c.args.number / 2 ^ (8 * (c.loop-octet.after - 1))) 8)
          (c.loop-octet.invariant.written ∙ ap (λ k. low_bits (8 * c.loop-octet.octet-index) (c.args.number / 2 ^ (8 * k))) (sym next));
    }
