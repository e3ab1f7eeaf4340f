use Rattle.std.proofs.Common.{pos, ◌-◌, ◌∙◌, ap, arith, length, length-drop, take, drop, rules}
use Rattle.std.proofs.lemmas.Int.{to_z-of_z}
use mir.Syntax.{w128}
use Rattle.eds_bits.specs.Bits.{bits_of}
use Rattle.eds_bits.specs.Scalars.{check_of}
use Rattle.eds_types.specs.Plain.{num}
use Rattle.eds_types.proofs.PlainValues.{plain_num}
use Rattle.eds_pack.proofs.Runs.{between_is, front_long}
use Rattle.eds_pack.proofs.told.check_value.Goals as goal

pub after-view-requires : goal.after-view-requires
after-view-requires c =
    let k = c.div_ceil.result in
    omega (arith, ap length c.new.ensures, front_long k c.args.room.now (omega (arith, c.div_ceil.ensures, c.requires.fits)), c.div_ceil.ensures, c.requires.order)

pub check_sum-requires : goal.check_sum-requires
check_sum-requires c =
    let k = c.div_ceil.result in
    omega (arith, ap length (c.after-view.ensures ∙ ap (drop c.args.start) c.new.ensures), length-drop c.args.start (bits_of (take k c.args.room.now)), front_long k c.args.room.now (omega (arith, c.div_ceil.ensures, c.requires.fits)), c.div_ceil.ensures, c.requires.order)

pub returns : goal.returns
returns c =
    plain_num _
    ∙ ap num
    (to_z-of_z w128 c.from.result (search rules) ∙ c.from.ensures
    ∙ ap pos
    (c.check_sum.ensures
    ∙ ap (λ z. check_of c.args.kind (take (c.args.at - c.args.start) z)) (c.after-view.ensures ∙ ap (drop c.args.start) c.new.ensures)
    ∙ ap (check_of c.args.kind) (between_is c.args.start c.args.at c.div_ceil.result c.args.room.now c.requires.order (omega (arith, c.div_ceil.ensures)))))
