use Rattle.eds_host.proofs.Halting as proof
use Rattle.eds_host.proofs.law.halts_keep.Goals as goal

pub returns : goal.returns
returns c = record { activity = proof.halts_keep; machine = proof.actions_keep }
