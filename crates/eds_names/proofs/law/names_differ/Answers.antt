use Rattle.eds_names.proofs.Differing.{differ}
use Rattle.eds_names.proofs.law.names_differ.Goals as goal

pub returns : goal.returns
returns c names h = differ c.args.trees.now names h
