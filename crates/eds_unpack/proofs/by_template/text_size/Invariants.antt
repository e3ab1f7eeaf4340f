use Rattle.eds_unpack.proofs.TextParts.{AreAscii, IsFreeBefore}
use Rattle.eds_unpack.proofs.by_template.text_size.Given as goal

abbrev pub invariant-loop-size : goal.invariant-loop-size
invariant-loop-size l = record {
  free : IsFreeBefore l.stop l.octets l.size;
  ascii : AreAscii l.octets l.size;
}
