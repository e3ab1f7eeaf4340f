use Rattle.std.proofs.Common.{arith}
use Rattle.eds_unpack.proofs.EntriesSay.{scalar_more}
use Rattle.eds_unpack.proofs.room.fill.Goals as goal

pub loop-position-preserved : goal.loop-position-preserved
loop-position-preserved c =
    let so = c.loop-position.invariant in
    record {
      said = scalar_more c.args.entries.now c.loop-position.position c.in-Some.scalar c.loop-position.room.items c.push_reserved.new.self.items c.in-Some.ensures c.push_reserved.ensures.items so.said;
      long = omega (arith, c.push_reserved.ensures.len, so.long);
      room = omega (arith, c.push_reserved.ensures.capacity, so.room);
    }
