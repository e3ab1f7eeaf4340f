use Rattle.std.proofs.Common.{◌+◌, map, get_or, drop, sym, subst, arith}
use Rattle.std.specs.List.{AllByRecursion, flat_map}
use Rattle.std.proofs.lemmas.List.{drop_more}
use Rattle.eds_types.specs.Fields.{Holds}
use Rattle.eds_types.specs.Rows.{constraints_of, numbers_of}
use Rattle.eds_types.proofs.AllOf.{All-both}
use Rattle.eds_unpack.specs.Courses.{fields_at}
use Rattle.eds_unpack.specs.Scalars.{plain_of}
use Rattle.eds_unpack.proofs.by_template.hold_along.Goals as goal

pub loop-one-preserved : goal.loop-one-preserved
loop-one-preserved c = λ l h.
    let t = c.args.table.now in
    let P = Holds t (fields_at c.args.places.now (map plain_of c.args.room.now)) in
    let ids = c.args.containers.now in
    let i = c.loop-one.one-index in
    let one = get_or ids i (record { 0 = 0 }) in
    let here = subst (AllByRecursion P) c.constraints_of.ensures (c.if-not-hold.ensures t l) in
    c.loop-one.invariant l (subst (λ xs. AllByRecursion P (flat_map (constraints_of t) (numbers_of xs))) (sym (drop_more ids i (record { 0 = 0 }) (omega arith))) (All-both P (constraints_of t one.0) (flat_map (constraints_of t) (numbers_of (drop (i + 1) ids))) here h))
