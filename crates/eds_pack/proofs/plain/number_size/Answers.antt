use Rattle.std.proofs.Common.{rules, sym, refl, ◌∙◌}
use Rattle.std.proofs.lemmas.Int.{to_z-of_z}
use mir.Syntax.{w128}
use Rattle.eds_types.proofs.PlainValues.{plain_num}
use Rattle.eds_pack.proofs.Scalars.{within_by}
use Rattle.eds_pack.proofs.plain.number_size.Goals as goal

pub returns-in-Num : goal.returns-in-Num
returns-in-Num c =
    let within = within_by c.args.spans.now c.in-Num.number _ c.holds.result (to_z-of_z w128 c.in-Num.number (search rules)) c.holds.ensures in
    rw (c.in-Num.is, plain_num c.in-Num.number, sym within ∙ c.if-holds.true) refl

pub returns-in-Num-2 : goal.returns-in-Num-2
returns-in-Num-2 c =
    let within = within_by c.args.spans.now c.in-Num.number _ c.holds.result (to_z-of_z w128 c.in-Num.number (search rules)) c.holds.ensures in
    rw (c.in-Num.is, plain_num c.in-Num.number, sym within ∙ c.if-holds.false) refl
