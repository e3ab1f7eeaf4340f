use Rattle.std.proofs.Common.{refl}
use Rattle.eds_bits.specs.Reader.{bits_left}
use Rattle.eds_unpack.specs.declared.progress.Reached.{Reached}
use Rattle.eds_unpack.proofs.SegmentReads.{head_held, head_reads}
use Rattle.eds_unpack.proofs.Steps.{under_way}
use Rattle.eds_unpack.proofs.head.read_head.Goals as goal

pub returns-clause-read : goal.returns-clause-read
returns-clause-read c =
    let u : Reached = record { fields = record { values = c.put_head.new.values; parts = c.keep_first_parts.new.parts }; octets = c.args.reached.now.octets; start = c.args.reached.now.start } in
    head_reads c.args.table.now c.args.container c.in_ok-count.count c.args.reached.now u (bits_left c.args.reader.now) (bits_left c.put_head.new.reader) c.in_ok-count.ensures.put c.in_ok-keep_first_parts.ensures c.requires.begun.held c.requires.begun.begun c.put_head.ensures.moves refl refl

pub returns-clause-begun : goal.returns-clause-begun
returns-clause-begun c =
    let u : Reached = record { fields = record { values = c.put_head.new.values; parts = c.keep_first_parts.new.parts }; octets = c.args.reached.now.octets; start = c.args.reached.now.start } in
    let held = head_held c.args.table.now c.args.container c.in_ok-count.count c.args.reached.now u (bits_left c.args.reader.now) (bits_left c.put_head.new.reader) c.in_ok-count.ensures.put c.in_ok-keep_first_parts.ensures c.requires.begun.held in
    under_way c.args.reached.now u (bits_left c.args.reader.now) (bits_left c.put_head.new.reader) c.requires.begun held c.put_head.ensures.moves refl refl
