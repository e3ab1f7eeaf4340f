use Rattle.eds_names.proofs.Surrounded.{surrounded}
use Rattle.eds_names.proofs.Own.{numbers-are, own, others}
use Rattle.eds_names.proofs.law.each_element_has_its_own_surroundings.Goals as goal

pub returns-clause-ancestors : goal.returns-clause-ancestors
returns-clause-ancestors c t = surrounded t

pub returns-clause-elements : goal.returns-clause-elements
returns-clause-elements c t = numbers-are t

pub returns-clause-own : goal.returns-clause-own
returns-clause-own c file octets t h = own file octets t h

pub returns-clause-others : goal.returns-clause-others
returns-clause-others c t n h = others t n h
