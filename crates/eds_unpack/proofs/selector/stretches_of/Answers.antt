use Rattle.std.proofs.Common.{IsTrue, rules, subst, sym}
use Rattle.eds_unpack.specs.Selectors.{AreStretches, members_of}
use Rattle.eds_unpack.proofs.selector.stretches_of.Goals as goal
use Rattle.eds_unpack.proofs.selector.stretches_of.Goals.{then-low-cut+in_ok-put_stretch+else-not-branch, else-low-cut}

pub loop-cut-preserved : goal.loop-cut-preserved
loop-cut-preserved c = λ t x path hulls.
    elim c.if-low-cut.branch [
      | then-low-cut+in_ok-put_stretch+else-not-branch w ↦
          let put : IsTrue w.in_ok-put_stretch.field-0 = search rules in
          subst (AreStretches t x path (members_of c.args.hulls.now)) (sym w.stretches-is) (w.in_ok-put_stretch.ensures t x path hulls (c.loop-cut.invariant t x path hulls) put)
      | else-low-cut w ↦ subst (AreStretches t x path (members_of c.args.hulls.now)) (sym w.stretches-is) (c.loop-cut.invariant t x path hulls)
    ]
