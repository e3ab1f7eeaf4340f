use Rattle.std.proofs.Common.{◌≡◌, ℕ, ℤ, List, rules, ap, subst, ◌∙◌}
use Rattle.std.proofs.lemmas.Int.{to_z-of_z}
use mir.Syntax.{w128}
use mir.Val.{SFits}
use Rattle.eds_bits.specs.Lists.{HasOne}
use Rattle.eds_types.specs.Plain.{label}
use Rattle.eds_pack.proofs.Entries.{label_listed}
use Rattle.eds_pack.proofs.Plains.{plain_label}
use Rattle.eds_pack.proofs.defaults.least_label.Goals as goal

pub returns-in_ok-of-in-Some-label_of : goal.returns-in_ok-of-in-Some-label_of
returns-in_ok-of-in-Some-label_of c =
    let same = c.in_ok-of-in-Some-label_of.ensures in
    let l = c.in-Some-label_of.label.now in
    let n = c.in-Some.number in
    let fits : SFits w128 n = search rules in
    let is : HasOne (λ (e : List ℕ × ℤ). e ≡ (l, n)) c.args.listing.now = subst (λ x. HasOne (λ (e : List ℕ × ℤ). e ≡ (l, x)) c.args.listing.now) (to_z-of_z w128 n fits) c.in-Some-label_of.ensures in
    (n, c.in-Some.ensures, (l, plain_label c.in_ok-of-in-Some-label_of.field-0 ∙ ap label (search rules), label_listed c.args.listing.now l n c.requires.labels is))
