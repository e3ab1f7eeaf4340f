use Rattle.std.proofs.Common.{sym, ◌∙◌}
use Rattle.eds_generic.proofs.Endless.{no_cycle-ends}
use Rattle.eds_generic.proofs.resolving.resolve_face.Goals as goal

pub resolve_acyclic-requires : goal.resolve_acyclic-requires
resolve_acyclic-requires c = no_cycle-ends c.args.faces.now c.args.face.0 (sym c.in_ok-refusal.ensures ∙ c.in-None.is)
