-- The least break of several rules.
use Rattle.std.proofs.Common.{◌≡◌, List, ◌++◌, Option, sym, ◌∙◌}
use Rattle.eds_base.specs.declared.refusal.Refusal.{Refusal}
use Rattle.eds_base.specs.Refusals.{first_of, least}
use Rattle.eds_base.proofs.LeastLaws.{least-append}

pub least-joined : (xs ys : List Refusal) (a b whole : Option Refusal) → a ≡ least xs → b ≡ least ys → whole ≡ first_of a b → whole ≡ least (xs ++ ys)
least-joined xs ys a b whole h k e = e ∙ rw (h, k) (sym (least-append xs ys))
