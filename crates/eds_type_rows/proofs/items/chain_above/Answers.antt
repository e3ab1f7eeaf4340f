use Rattle.std.proofs.Common.{rules, arith}
use Rattle.eds_type_rows.proofs.ItemFacts.{chain-end, chain-none, chain-next}
use Rattle.eds_type_rows.proofs.items.chain_above.Goals as goal

pub returns-in-None : goal.returns-in-None
returns-in-None c = chain-end c.loop-left.left c.args.bases.now c.loop-left.at c.loop-left.chain.items _ (search rules) c.loop-left.invariant

pub loop-left-preserved : goal.loop-left-preserved
loop-left-preserved c = chain-next c.loop-left.left c.args.bases.now c.loop-left.at c.in-Some.base c.loop-left.chain.items c.push-in-Some.new.self.items _ (omega arith) (search rules) c.in_ok-push-in-Some.ensures.items c.loop-left.invariant

pub returns : goal.returns
returns c = chain-none c.loop-left.left c.args.bases.now c.loop-left.at c.loop-left.chain.items _ (omega arith) c.loop-left.invariant
