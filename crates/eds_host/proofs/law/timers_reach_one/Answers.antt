use Rattle.eds_host.proofs.Firings as proof
use Rattle.eds_host.proofs.law.timers_reach_one.Goals as goal

pub returns : goal.returns
returns c = record { machine = proof.timers_reach_one; untaken = proof.untaken_timers_pass; others = proof.others_stay }
