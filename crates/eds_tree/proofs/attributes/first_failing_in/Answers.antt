use Rattle.std.proofs.Common.{◌∙◌, sym, map, None}
use Rattle.eds_tree.specs.Rows.{attribute_of}
use Rattle.eds_tree.specs.Attributes.{failing}
use Rattle.eds_tree.proofs.ByteFirst.{first_from-append}
use Rattle.eds_tree.proofs.attributes.first_failing_in.Goals as goal

pub returns : goal.returns
returns g c =
    c.first_failing-2.ensures
    ∙ rw c.first_failing.ensures
    (sym (first_from-append None (failing (g.T.RowTest.fails c.args.attributes.now) (map attribute_of c.args.shape.now.required.now)) (failing (g.T.RowTest.fails c.args.attributes.now) (map attribute_of c.args.shape.now.optional.now))))
