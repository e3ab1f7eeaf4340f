use Rattle.eds_tree.proofs.Once.{once}
use Rattle.eds_tree.proofs.Reached.{all_reached}
use Rattle.eds_tree.proofs.law.each_element_stands_once.Goals as goal

pub returns-clause-once : goal.returns-clause-once
returns-clause-once c file octets t h = once file octets t h

pub returns-clause-all : goal.returns-clause-all
returns-clause-all c file octets t n ancestors h d = all_reached file octets t n ancestors h d
