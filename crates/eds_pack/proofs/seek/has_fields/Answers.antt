use Rattle.std.proofs.Common.{◌∙◌, ap, sym}
use Rattle.std.specs.Prelude.{◌==◌, ◌&&◌, is_some}
use Rattle.std.specs.Option.{option_copied}
use Rattle.eds_types.specs.Packing.{valued}
use Rattle.eds_types.specs.Rows.{sequence}
use Rattle.eds_pack.proofs.Looking.{counted_values}
use Rattle.eds_pack.proofs.seek.has_fields.Goals as goal

pub returns-in-Some : goal.returns-in-Some
returns-in-Some c =
    ap (λ n. c.args.count == n) (c.valued_along.ensures ∙ counted_values c.args.table.now c.args.own.0 c.as_slice.result.now (c.as_slice.ensures.value ∙ c.chain_of.ensures))
    ∙ ap (λ o. is_some o && c.args.count == valued (sequence c.args.table.now c.args.own.0)) (sym (sym c.container_of.ensures ∙ ap option_copied c.in-Some.is))
