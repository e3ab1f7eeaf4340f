use Rattle.std.proofs.Common.{◌≡◌, ◌+◌, ◌≤◌, drop}
use Rattle.eds_unpack.specs.Tails.{limit, limited, sizes_of}
use Rattle.eds_unpack.proofs.tail.parts_size.Given as goal

abbrev pub invariant-loop-part : goal.invariant-loop-part
invariant-loop-part l = record {
  most : l.size ≤ limit;
  size : limited (l.size + sizes_of l.table (drop l.part-index l.parts)) ≡ limited (l.before + sizes_of l.table l.parts);
}
