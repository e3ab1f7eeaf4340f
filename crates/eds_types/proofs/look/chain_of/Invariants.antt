use Rattle.eds_types.proofs.ChainSteps.{ChainSoFar}
use Rattle.eds_types.proofs.look.chain_of.Given as goal

abbrev pub invariant-loop : goal.invariant-loop
invariant-loop l = ChainSoFar l.rows l.fn.id l.at l.counter l.chain
