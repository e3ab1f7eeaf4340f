use Rattle.std.proofs.Common.{[], sym, subst}
use Rattle.eds_types.specs.Spelling.{Spells}
use Rattle.eds_unpack.specs.Programs.{TypeIn}
use Rattle.eds_trials.proofs.Asked.{some_bits}
use Rattle.eds_trials.proofs.calls.packets.splits.Goals as goal

pub splits_by-requires-clause-some_bits : goal.splits_by-requires-clause-some_bits
splits_by-requires-clause-some_bits c = λ v spelled. some_bits c.empty_types.ensures c.args.table.now c.args.id.0 c.keeps_rules.ensures c.requires.known c.requires.clear c.requires.solid v (subst (λ (p : TypeIn). Spells p.table p.id v []) c.in_ok-program.ensures spelled)
