use Rattle.std.proofs.Common.{◌∙◌, ◌-◌, sym, ap, length, take, drop, arith, ◌+◌}
use Rattle.std.proofs.lemmas.List.{length-drop}
use Rattle.eds_base.specs.Reading.{same}
use Rattle.eds_bits.specs.Bits.{octets_of}
use Rattle.eds_bits.specs.Reader.{bits_left}
use Rattle.eds_unpack.proofs.SameOctets.{first_differs, first_same, bits_end, octets_end}
use Rattle.eds_unpack.proofs.skim.octets_are.Goals as goal

pub returns-then-left-eq0 : goal.returns-then-left-eq0
returns-then-left-eq0 c = sym (bits_end c.loop-octet.left (bits_left c.loop-octet.ahead) c.args.octets.now c.loop-octet.octet-index c.if-left-eq0.true (omega arith)) ∙ c.loop-octet.invariant.same

pub returns-then-next_octet-from : goal.returns-then-next_octet-from
returns-then-next_octet-from c =
    sym (first_differs c.min-n.result c.loop-octet.left c.next_octet.result (bits_left c.loop-octet.ahead) c.args.octets.now c.loop-octet.octet-index c.loop-octet.invariant.enough c.if-left-eq0.false c.min-n.ensures c.next_octet.ensures.value (omega arith) (λ e. c.if-next_octet-from.true (e ∙ sym c.from.ensures)))
    ∙ c.loop-octet.invariant.same

pub loop-octet-preserved : goal.loop-octet-preserved
loop-octet-preserved c = record {
  enough = omega (arith, ap length c.next_octet.ensures.after, length-drop c.min-n.result (bits_left c.loop-octet.ahead));
  same =
      ap (λ n. same (octets_of (take (c.loop-octet.left - n) (bits_left c.next_octet.new.reader))) (drop (c.loop-octet.octet-index + 1) c.args.octets.now)) c.from-left.ensures
      ∙ ap (λ b. same (octets_of (take (c.loop-octet.left - c.min-n.result) b)) (drop (c.loop-octet.octet-index + 1) c.args.octets.now)) c.next_octet.ensures.after
      ∙ first_same c.min-n.result c.loop-octet.left c.next_octet.result (bits_left c.loop-octet.ahead) c.args.octets.now c.loop-octet.octet-index c.loop-octet.invariant.enough c.if-left-eq0.false c.min-n.ensures c.next_octet.ensures.value (omega arith) (c.if-next_octet-from.false ∙ c.from.ensures)
      ∙ c.loop-octet.invariant.same;
}

pub returns : goal.returns
returns c = sym (octets_end c.loop-octet.left (bits_left c.loop-octet.ahead) c.args.octets.now c.loop-octet.octet-index c.loop-octet.invariant.enough (omega arith)) ∙ c.loop-octet.invariant.same
