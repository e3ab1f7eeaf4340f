use Rattle.std.proofs.Common.{◌∙◌}
use Rattle.std.proofs.lemmas.Int.{to_z-of_z}
use mir.Syntax.{w64}
use Rattle.eds_pack.proofs.LengthNumbers.{number_is, product_fits, sum_fits, tells, tells_not}
use Rattle.eds_pack.proofs.length.number_telling.Goals as goal

pub overflow_mul-factor : goal.overflow_mul-factor
overflow_mul-factor c =
    let x = c.from-offset.ensures ∙ to_z-of_z w64 c.args.c0 c.ranges.c0 in
    let y = c.from-factor.ensures ∙ to_z-of_z w64 c.args.c1 c.ranges.c1 in
    product_fits c.args.c0 c.args.c1 c.args.octets c.requires.scale c.requires.few c.from-offset.result c.from-factor.result x y _ (number_is c.args.c0 c.args.c1 c.args.octets c.requires.scale c.requires.few c.from-offset.result c.from-factor.result x y)

pub overflow_add-offset : goal.overflow_add-offset
overflow_add-offset c =
    let x = c.from-offset.ensures ∙ to_z-of_z w64 c.args.c0 c.ranges.c0 in
    let y = c.from-factor.ensures ∙ to_z-of_z w64 c.args.c1 c.ranges.c1 in
    sum_fits c.args.c0 c.args.c1 c.args.octets c.requires.scale c.requires.few c.from-offset.result c.from-factor.result x y _ (number_is c.args.c0 c.args.c1 c.args.octets c.requires.scale c.requires.few c.from-offset.result c.from-factor.result x y)

pub returns-then-offset-factor : goal.returns-then-offset-factor
returns-then-offset-factor c =
    let x = c.from-offset.ensures ∙ to_z-of_z w64 c.args.c0 c.ranges.c0 in
    let y = c.from-factor.ensures ∙ to_z-of_z w64 c.args.c1 c.ranges.c1 in
    tells c.args.c0 c.args.c1 c.args.octets c.requires.scale c.requires.few c.from-offset.result c.from-factor.result x y _ (number_is c.args.c0 c.args.c1 c.args.octets c.requires.scale c.requires.few c.from-offset.result c.from-factor.result x y) c.if-offset-factor.true

pub returns-else-offset-factor : goal.returns-else-offset-factor
returns-else-offset-factor c =
    let x = c.from-offset.ensures ∙ to_z-of_z w64 c.args.c0 c.ranges.c0 in
    let y = c.from-factor.ensures ∙ to_z-of_z w64 c.args.c1 c.ranges.c1 in
    tells_not c.args.c0 c.args.c1 c.args.octets c.requires.scale c.requires.few c.from-offset.result c.from-factor.result x y _ (number_is c.args.c0 c.args.c1 c.args.octets c.requires.scale c.requires.few c.from-offset.result c.from-factor.result x y) c.if-offset-factor.false
