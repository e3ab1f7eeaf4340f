use Rattle.eds_host.proofs.Resumed as proof
use Rattle.eds_host.proofs.law.ends_are_told_by_lines.Goals as goal

pub returns : goal.returns
returns c = record { wires = proof.wires_tie_alike; time = proof.runs_take_their_time }
