use Rattle.std.proofs.Common.{refl, arith}
use Rattle.eds_names.specs.Declarations.{declaration_at}
use Rattle.eds_names.proofs.DeclarationsLemmas.{numbered-next, counted-next}
use Rattle.eds_names.proofs.declared.declare_all.Goals as goal

pub loop-standing-preserved : goal.loop-standing-preserved
loop-standing-preserved c = record {
  declared = numbered-next (declaration_at c.args.tree.now c.args.file) c.args.standings.now c.loop-standing.standing-index _ _ c.loop-standing.counts c.declare.new.counts c.loop-standing.declared.items c.declare.new.declared.items _ (omega arith) refl c.in_ok-declare.ensures.declared c.in_ok-declare.ensures.counts c.loop-standing.invariant.declared;
  counts = counted-next (declaration_at c.args.tree.now c.args.file) c.args.standings.now c.loop-standing.standing-index _ _ c.loop-standing.counts c.declare.new.counts _ (omega arith) refl c.in_ok-declare.ensures.counts c.loop-standing.invariant.counts;
}
