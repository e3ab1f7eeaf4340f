use Rattle.std.proofs.Common.{◌∙◌, ap, List}
use Rattle.std.specs.Prelude.{◌==◌}
use Rattle.std.specs.List.{list_any}
use Rattle.eds_base.specs.declared.ids.TypeId.{TypeId}
use Rattle.eds_types.specs.Rows.{chain}
use Rattle.eds_value.proofs.Chains.{any_id}
use Rattle.eds_value.proofs.stop.is_under.Goals as goal

pub returns : goal.returns
returns c =
    c.contains.ensures.value
    ∙ ap (λ (ys : List TypeId). list_any (λ (y : TypeId). y.0 == c.args.id.0) ys) (c.as_slice.ensures.value ∙ c.chain_of.ensures)
    ∙ any_id (chain c.args.table.now c.args.container.0) c.args.id.0
