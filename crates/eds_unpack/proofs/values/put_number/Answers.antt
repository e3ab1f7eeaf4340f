use Rattle.std.proofs.Common.{◌∙◌, ap, arith}
use Rattle.std.proofs.lemmas.Int.{ints}
use Rattle.eds_types.specs.Plain.{num}
use Rattle.eds_types.proofs.PlainValues.{plain_num}
use Rattle.eds_unpack.proofs.Meanings.{put_last}
use Rattle.eds_unpack.proofs.values.put_number.Goals as goal

pub returns-in-Some-clause-put : goal.returns-in-Some-clause-put
returns-in-Some-clause-put c =
    let same = c.from.ensures in
    λ value are. put_last _ _ _ _ (num c.in-Some.found) c.push_reserved.ensures.items (plain_num _ ∙ ap num (omega (arith, ints))) (c.in-Some.ensures value are)
