use Rattle.std.proofs.Common.{rules}
use Rattle.std.proofs.lemmas.Int.{to_z-of_z}
use mir.Syntax.{w128}
use Rattle.eds_types.proofs.TextValues.{within_test}
use Rattle.eds_constraints.proofs.sets.is_in.Goals as goal

pub returns : goal.returns
returns c = within_test c.args.domain.now c.args.n _ c.holds.result (to_z-of_z w128 c.args.n (search rules)) c.holds.ensures
