use Rattle.std.proofs.Common.{◌<◌, length, map, refl, arith}
use Rattle.std.proofs.lemmas.Bool.{ltb-true}
use Rattle.std.proofs.lemmas.List.{length-map}
use Rattle.eds_types.specs.Plain.{plain}
use Rattle.eds_act.proofs.Starting.{becomes}
use Rattle.eds_act.proofs.target.is_whole.Goals as goal

pub returns-then-is_empty : goal.returns-then-is_empty
returns-then-is_empty c less t v =
    let there : c.args.target.now.variable < length c.args.variables.now = ltb-true _ _ less in
    becomes t (map plain c.args.variables.now) c.args.target.now v (c.if-is_empty.ensures.0 refl) (omega (arith, there, length-map c.args.variables.now plain))
