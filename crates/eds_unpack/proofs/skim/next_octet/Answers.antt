use Rattle.std.proofs.Common.{◌∙◌, ap, ◌*◌, ◌-◌, ◌^◌, arith}
use Rattle.std.proofs.lemmas.Nat.{shl_whole}
use Rattle.eds_unpack.proofs.skim.next_octet.Goals as goal

pub returns-in-Some-clause-value : goal.returns-in-Some-clause-value
returns-in-Some-clause-value c = shl_whole c.in-Some.number c.args.n (8 - c.args.n) 64 c.in-Some.ensures.bound (omega arith) ∙ ap (λ v. v * 2 ^ (8 - c.args.n)) c.in-Some.ensures.value
