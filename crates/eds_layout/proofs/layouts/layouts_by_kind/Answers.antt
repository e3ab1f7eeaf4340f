use Rattle.std.proofs.Common.{◌∙◌, sym}
use Rattle.eds_types.specs.Rows.{numbers_of}
use Rattle.eds_layout.specs.Layouts.{AreContainerLayouts, IsLayout}
use Rattle.eds_layout.proofs.LayoutsMade.{layouts_of, ok_weaker}
use Rattle.eds_layout.proofs.layouts.layouts_by_kind.Goals as goal

pub returns-then-is_container : goal.returns-then-is_container
returns-then-is_container c =
    ok_weaker c.container_layouts.result (AreContainerLayouts c.args.table.now (numbers_of c.family_of.result.now)) (IsLayout c.args.table.now c.args.id.0)
    (λ ls a. layouts_of c.args.table.now c.args.id.0 c.family_of.result.now ls c.family_of.ensures (sym c.is_container.ensures ∙ c.if-is_container.true) a) c.container_layouts.ensures
