-- With room for 16 types in a chain and for 32 nested types, more room changes nothing.
use Rattle.std.proofs.Common.{arith}
use Rattle.eds_types.proofs.Tables.{IsTable}
use Rattle.eds_types.proofs.RuleFacts.{table_of}
use Rattle.eds_overlap.specs.Laws.{BoundsSuffice}
use Rattle.eds_overlap.proofs.Bounds.{chain_same, spells_to, fails_to}
use Rattle.eds_overlap.proofs.PackBounds.{same_packing, same_least, same_size}

pub bounds_suffice : BoundsSuffice
bounds_suffice t keeps = record {
  chains = λ n id enough. chain_same t is n 16 id (let l = is.low id in omega arith) (is.low id);
  spellings = λ n id enough style v b. (spells_to t is style n 32 id (is.nested id) v b, spells_to t is style 32 n id (let l = is.nested id in omega arith) v b);
  faults = λ n id enough b w. (fails_to t is n 32 id (is.nested id) b w, fails_to t is 32 n id (let l = is.nested id in omega arith) b w);
  packing = λ n id enough v w. let s = same_packing t is n 32 id (let l = is.nested id in omega arith) (is.nested id) in (s.fails v w, s.fails_back v w);
  least = λ n id enough. same_least t is n 32 id (let l = is.nested id in omega arith) (is.nested id);
  sizes = λ n id enough. same_size t is n 32 id (let l = is.nested id in omega arith) (is.nested id);
}
  where
    is : IsTable t
    is = table_of t keeps
