use Rattle.std.proofs.Common.{arith}
use Rattle.eds_unpack.proofs.NotedSlots.{none_noted, first_noted, first_is_there, last_noted, longer_noted}
use Rattle.eds_unpack.proofs.noted.note_field.Goals as goal

pub loop-at-init : goal.loop-at-init
loop-at-init c = none_noted c.args.notes.now c.args.container c.args.place c.args.number c.args.numbers.now c.own-at-items.result.now c.own-at-items.ensures.sound c.own-at-items.ensures.complete

pub note_path-requires : goal.note_path-requires
note_path-requires c = record {
  there = first_is_there c.args.notes.now c.args.container c.args.place c.args.number c.args.numbers.now c.loop-at.numbers c.own-at-items.result.now c.loop-at.at-index (omega arith) c.loop-at.invariant;
  room = omega arith;
}

pub loop-at-preserved : goal.loop-at-preserved
loop-at-preserved c = first_noted c.args.notes.now c.args.container c.args.place c.args.number c.args.numbers.now c.loop-at.numbers c.note_path.new.numbers c.own-at-items.result.now c.loop-at.at-index (omega arith) c.loop-at.invariant
    (record { long = c.note_path.auto.numbers; others = c.note_path.ensures.others; elsewhere = c.note_path.ensures.elsewhere; last = c.note_path.ensures.last; longer = c.note_path.ensures.longer })

pub returns : goal.returns
returns c = record {
  long = c.loop-at.invariant.long;
  others = c.loop-at.invariant.others;
  last = last_noted c.args.notes.now c.args.container c.args.place c.args.number c.args.numbers.now c.loop-at.numbers c.own-at-items.result.now c.loop-at.at-index (omega arith) c.loop-at.invariant;
  longer = longer_noted c.args.notes.now c.args.container c.args.place c.args.number c.args.numbers.now c.loop-at.numbers c.own-at-items.result.now c.loop-at.at-index (omega arith) c.loop-at.invariant;
}
