use Rattle.std.proofs.Common.{subst, sym}
use Rattle.eds_sheet.specs.Compiled.{seen_sheet}
use Rattle.eds_cmd.specs.Target.{IsKnown}
use Rattle.eds_cmd.proofs.Targets.{known_by}
use Rattle.eds_cmd.proofs.perform.do_by_type.Goals as goal

pub run_verb-requires-clause-known : goal.run_verb-requires-clause-known
run_verb-requires-clause-known c = subst IsKnown (sym c.target_of-target.ensures) (known_by (seen_sheet c.args.sheet.now) c.requires.word c.requires.readable)
