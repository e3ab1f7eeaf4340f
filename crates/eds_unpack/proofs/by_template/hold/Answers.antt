use Rattle.std.proofs.Common.{map, sym, subst, arith}
use Rattle.std.specs.List.{AllByRecursion}
use Rattle.std.proofs.lemmas.List.{drop_more, drop_all}
use Rattle.eds_types.specs.Fields.{Holds}
use Rattle.eds_unpack.specs.Courses.{fields_at}
use Rattle.eds_unpack.specs.Scalars.{plain_of}
use Rattle.eds_unpack.proofs.by_template.hold.Goals as goal

pub loop-constraint-preserved : goal.loop-constraint-preserved
loop-constraint-preserved c = λ t l h.
    let fs = fields_at c.args.places.now (map plain_of c.args.room.now) in
    c.loop-constraint.invariant t l (subst (AllByRecursion (Holds t fs)) (sym (drop_more c.args.constraints.now c.loop-constraint.constraint-index c.constraint-item.result (omega arith))) (subst (Holds t fs) c.constraint-item.is (c.if-not-holds.ensures t l), h))

pub returns : goal.returns
returns c = λ t l.
    c.loop-constraint.invariant t l (subst (AllByRecursion (Holds t (fields_at c.args.places.now (map plain_of c.args.room.now)))) (sym (drop_all c.loop-constraint.constraint-index c.args.constraints.now (omega arith))) tt)
