use Rattle.std.proofs.Common.{◌+◌, refl, ap, sym, subst}
use Rattle.eds_types.specs.Rows.{number_of_id}
use Rattle.eds_types.proofs.ChainSteps.{ChainSoFar, chain_begins, chain_goes_on, chain_is_full}
use Rattle.eds_types.proofs.look.chain_of.Goals as goal

pub loop-init : goal.loop-init
loop-init c = subst (λ ids. ChainSoFar c.args.rows.now c.args.id c.args.id 1 ids) (sym c.of_one-chain.ensures) (chain_begins c.args.rows.now c.args.id)

pub loop-preserved : goal.loop-preserved
loop-preserved c =
    subst (λ ids. ChainSoFar c.args.rows.now c.args.id c.in-Some.base (c.loop.counter + 1) ids) (sym c.put_first.ensures)
    (chain_goes_on c.args.rows.now c.args.id c.loop.at c.in-Some.base c.loop.counter (c.loop.counter + 1) c.loop.chain c.loop-test.true refl (sym (ap number_of_id c.in-Some.ensures)) c.loop.invariant)

pub returns : goal.returns
returns c = chain_is_full c.args.rows.now c.args.id c.loop.at c.loop.counter c.loop.chain c.loop-test.false c.loop.invariant
