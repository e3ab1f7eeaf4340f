use Rattle.std.proofs.Common.{◌≡◌, ap, subst, sym, ◌∙◌, rules}
use Rattle.eds_types.specs.Reading.{number_within, is_within}
use Rattle.eds_types.proofs.ReadingTests.{within_is}
use Rattle.eds_unpack.proofs.NotedSlots.{IsFound, found_holds}
use Rattle.eds_unpack.proofs.noted.holds_noted.Goals as goal

pub returns-in-Some : goal.returns-in-Some
returns-in-Some c = λ t fs h.
    (let found = subst (λ path. IsFound c.args.notes.now c.args.numbers.now path c.number_noted.result) c.as_slice.ensures c.number_noted.ensures in
    let e = within_is c.args.constraint.now.set _ c.holds.result c.holds.ensures in
    let within : is_within c.args.constraint.now.set c.in-Some.number ≡ c.holds.result = search rules in
    sym within ∙ ap (number_within c.args.constraint.now.set) (sym c.in-Some.is) ∙ found_holds t c.args.notes.now c.args.numbers.now fs c.args.constraint.now c.number_noted.result found h)

pub returns-in-None : goal.returns-in-None
returns-in-None c = λ t fs h.
    (let found = subst (λ path. IsFound c.args.notes.now c.args.numbers.now path c.number_noted.result) c.as_slice.ensures c.number_noted.ensures in
    ap (number_within c.args.constraint.now.set) (sym c.in-None.is) ∙ found_holds t c.args.notes.now c.args.numbers.now fs c.args.constraint.now c.number_noted.result found h)
