use Rattle.std.proofs.Common.{Ok, ◌∙◌, sym, ap, rules}
use Rattle.std.proofs.lemmas.Int.{to_z-of_z}
use mir.Syntax.{w128}
use mir.Val.{SFits}
use Rattle.eds_types.specs.Plain.{num}
use Rattle.eds_types.specs.Reading.{is_within}
use Rattle.eds_types.proofs.ReadingTests.{within_is}
use Rattle.eds_unpack.proofs.Meanings.{ranged_is}
use Rattle.eds_unpack.proofs.meaning.integer_in.Goals as goal

pub returns-then-holds : goal.returns-then-holds
returns-then-holds c =
    let fits : SFits w128 c.in_ok-found.found = search rules in
    let z = to_z-of_z w128 c.in_ok-found.found fits in
    ranged_is c.args.spans.now _ c.in_ok-found.found (sym (c.in_ok-found.ensures.number c.requires)) (ap (is_within c.args.spans.now) (sym z) ∙ within_is c.args.spans.now _ c.holds.result c.holds.ensures ∙ c.if-holds.true)
    ∙ ap (λ n. Ok (num n)) (sym z)
