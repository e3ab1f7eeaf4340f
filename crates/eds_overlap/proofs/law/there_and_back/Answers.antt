use Rattle.eds_overlap.proofs.Theorems.{packed_is_read, read_is_packed}
use Rattle.eds_overlap.proofs.law.there_and_back.Goals as goal

pub returns : goal.returns
returns c = record { packed = packed_is_read; read = read_is_packed }
