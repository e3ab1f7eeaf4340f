use Rattle.eds_names.proofs.Differing.{by_itself}
use Rattle.eds_names.proofs.law.from_the_root.Goals as goal

pub returns : goal.returns
returns c names node h = by_itself c.args.trees.now c.args.text.now names node h
