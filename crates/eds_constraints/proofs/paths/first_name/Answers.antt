use Rattle.std.proofs.Common.{arith, lit<}
use Rattle.eds_constraints.proofs.Names.{names-cut, names-whole, after-shorter}
use Rattle.eds_constraints.proofs.paths.first_name.Goals as goal

pub returns-in-Some : goal.returns-in-Some
returns-in-Some c =
    let h = c.in-Some.ensures.byte (lit< tt) (λ w o f. f) in
    record { names = rw (h.0, h.1) (names-cut c.args.text.now h.2); shorter = rw h.1 (after-shorter c.args.text.now h.2) }

pub returns-in-None : goal.returns-in-None
returns-in-None c =
    let h = c.in-None.ensures.byte (lit< tt) (λ w o f. f) in
    record { names = names-whole c.args.text.now h; shorter = omega arith }
