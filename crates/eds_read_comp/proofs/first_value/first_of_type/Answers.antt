use Rattle.std.proofs.Common.{◌≡◌, length, ap, arith}
use Rattle.std.specs.Prelude.{option_map}
use Rattle.eds_read_comp.proofs.Firsts.{absent}
use Rattle.eds_read_comp.proofs.first_value.first_of_type.Goals as goal

pub returns-then-id-rows-clause-none : goal.returns-then-id-rows-clause-none
returns-then-id-rows-clause-none c =
    let rows : length c.rows.result.now ≡ length c.args.table.now = ap length c.rows.ensures in
    λ v. absent c.args.table.now c.args.id.0 (option_map (λ t. t.now) c.args.initial) v (omega arith)
