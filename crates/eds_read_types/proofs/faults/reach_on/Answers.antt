use Rattle.eds_read_types.specs.Faults.{reaches_fault, passes_there, types_at}
use Rattle.std.proofs.Common.{◌||◌, length, subst, sym}
use Rattle.eds_graph.specs.Reaching.{mark}
use Rattle.eds_read_types.specs.Kin.{AreMarks}
use Rattle.std.specs.List.{list_any}
use Rattle.eds_read_types.proofs.FaultFacts.{next-as, next-past, reach-as, ok-weaker}
use Rattle.eds_read_types.proofs.faults.reach_on.Goals as goal

pub returns : goal.returns
returns c =
    let rows = c.args.rows.now in
    ok-weaker c.marks_near.result _ _
    (λ m h n test given past reached. reach-as rows n test m.items (h (λ k. test k || list_any (passes_there rows (reaches_fault n rows test)) (types_at rows k))
    (next-as rows n test c.args.faulty.now c.args.marks.now given past reached c.deref.result.now (subst (AreMarks (length rows) (λ k. mark c.args.faulty.now k || list_any (mark c.args.marks.now) (types_at rows k))) (sym c.deref.ensures.value) c.in_ok-next.ensures))
    (next-past rows n test c.args.faulty.now c.args.marks.now given past reached)))
    c.marks_near.ensures
