use Rattle.std.proofs.Common.{◌≡◌, refl, sym, ap, subst, map, ◌∙◌, rules}
use Rattle.std.specs.Int.{w128}
use Rattle.std.proofs.lemmas.Int.{to_z-of_z}
use Rattle.eds_base.specs.Spans.{Lies}
use Rattle.eds_types.specs.Choices.{fits_choice}
use Rattle.eds_types.specs.Families.{first_of}
use Rattle.eds_types.specs.Fields.{number_on}
use Rattle.eds_types.specs.Rows.{id_of, family, numbers_of}
use Rattle.eds_types.proofs.AllOf.{All-at}
use Rattle.eds_types.proofs.Candidates.{candidate_is_first}
use Rattle.eds_unpack.specs.Choices.{TellsOn}
use Rattle.eds_unpack.specs.Selectors.{AreStretches, IsStretchOf}
use Rattle.eds_unpack.proofs.Selecting.{first_in}
use Rattle.eds_unpack.proofs.choice.selected.Goals as goal

pub returns-in-Some-stretch_at : goal.returns-in-Some-stretch_at
returns-in-Some-stretch_at c = λ fs h.
    (let t = c.args.table.now in
    let x = c.args.id.0 in
    let k = c.args.known.now in
    let path = c.args.selector.now.path in
    let ids = map id_of (family t x) in
    let n = c.in-Some.number in
    let s = c.in-Some-stretch_at.stretch.now in
    let found = c.in-Some-stretch_at.ensures in
    let known = subst (λ p. TellsOn t fs k p → c.number_known.result ≡ number_on t fs p) c.as_slice.ensures (c.number_known.ensures fs) in
    let stretches = subst (AreStretches t x path ids) (sym c.as_slice-in-Some.ensures) c.requires.stretches in
    let stretch = All-at (IsStretchOf t x path ids) c.as_slice-in-Some.result.now s found.0 stretches in
    let lies = subst (Lies s.numbers) (to_z-of_z w128 n (search rules)) found.1 in
    ap (λ left. first_of (fits_choice t x fs) (numbers_of left)) c.as_slice-in-Some-stretch_at.ensures
    ∙ first_in t x fs k path c.requires.above h n (λ told. sym c.in-Some.is ∙ known told) ids s stretch lies
    ∙ candidate_is_first t x fs ids refl)

pub returns : goal.returns
returns c = λ fs h. candidate_is_first c.args.table.now c.args.id.0 fs c.family_of.result.now c.family_of.ensures
