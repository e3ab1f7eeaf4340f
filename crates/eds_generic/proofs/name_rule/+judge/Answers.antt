use Rattle.std.proofs.Common.{◌∙◌, ◌≡◌, is_some, true, false, sym, arith, rules}
use Rattle.eds_generic.proofs.Gathering.{ends-next}
use Rattle.eds_generic.proofs.Judging.{some-of, none-of, clean-there, first-here, first-under, put-clean}
use Rattle.eds_generic.proofs.name_rule.+judge.Goals as goal

pub first_in-returns-then-has-clause-first : goal.first_in-returns-then-has-clause-first
first_in-returns-then-has-clause-first g t c =
    clean-there g.R.NameRule.names c.args.faces.now c.args.types.now c.args.clean.now c.args.depth c.args.pair c.requires.clean c.requires.ends c.requires.few (search rules)

pub first_in-returns-then-depth-eq0-clause-first : goal.first_in-returns-then-depth-eq0-clause-first
first_in-returns-then-depth-eq0-clause-first g t c =
    let some = (ends-next c.args.depth c.args.faces.now c.args.pair.face.0 c.requires.ends).0 in
    absurd (omega arith)

pub first_in-returns-then-is_some-clause-first : goal.first_in-returns-then-is_some-clause-first
first_in-returns-then-is_some-clause-first g t c =
    let there : is_some c.in_ok-here.here ≡ true = search rules in
    let some = some-of c.in_ok-here.here there in
    first-here g.R.NameRule.names c.args.faces.now c.args.types.now c.args.depth c.args.pair c.in_ok-here.here some.0 c.requires.ends c.in_ok-here.ensures some.1

pub first_in-first_below-requires : goal.first_in-first_below-requires
first_in-first_below-requires g t c κs lives =
    let next = ends-next c.args.depth c.args.faces.now c.args.pair.face.0 c.requires.ends in
    (omega arith, (lives, (next.1, (omega arith, (c.requires.alike, c.requires.clean)))))

pub first_in-returns-then-is_some-2-clause-first : goal.first_in-returns-then-is_some-2-clause-first
first_in-returns-then-is_some-2-clause-first g t c =
    let none : is_some c.in_ok-here.here ≡ false = search rules in
    first-under g.R.NameRule.names c.args.faces.now c.args.types.now c.args.depth c.args.pair c.in_ok-here.here c.in_ok-under.under c.requires.ends c.in_ok-here.ensures (none-of c.in_ok-here.here none) c.in_ok-under.ensures.first

pub first_in-returns-clause-first : goal.first_in-returns-clause-first
first_in-returns-clause-first g t c =
    let none : is_some c.in_ok-here.here ≡ false = search rules in
    let nothing : is_some c.in_ok-under.under ≡ false = search rules in
    sym (none-of c.in_ok-under.under nothing) ∙ first-under g.R.NameRule.names c.args.faces.now c.args.types.now c.args.depth c.args.pair c.in_ok-here.here c.in_ok-under.under c.requires.ends c.in_ok-here.ensures (none-of c.in_ok-here.here none) c.in_ok-under.ensures.first

pub first_in-returns-clause-clean : goal.first_in-returns-clause-clean
first_in-returns-clause-clean g t c =
    let none : is_some c.in_ok-here.here ≡ false = search rules in
    let nothing : is_some c.in_ok-under.under ≡ false = search rules in
    put-clean g.R.NameRule.names c.args.faces.now c.args.types.now c.first_below.new.clean c.put.new.self c.args.depth c.args.pair c.in_ok-here.here c.in_ok-under.under c.requires.alike
    c.requires.ends c.requires.few c.in_ok-here.ensures (none-of c.in_ok-here.here none) c.in_ok-under.ensures.first (none-of c.in_ok-under.under nothing) c.in_ok-put.ensures.put c.in_ok-under.ensures.clean
