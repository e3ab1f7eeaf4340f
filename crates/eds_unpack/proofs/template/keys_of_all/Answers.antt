use Rattle.std.proofs.Common.{sym, subst}
use Rattle.eds_unpack.specs.Templates.{AreKeys}
use Rattle.eds_unpack.proofs.Templates.{one_key_more}
use Rattle.eds_unpack.proofs.template.keys_of_all.Goals as goal

pub loop-selector-preserved : goal.loop-selector-preserved
loop-selector-preserved c = subst (AreKeys c.args.table.now) (sym c.in_ok-push.ensures.items) (one_key_more c.args.table.now c.loop-selector.each.items c.key_of.result c.loop-selector.invariant c.key_of.ensures)
