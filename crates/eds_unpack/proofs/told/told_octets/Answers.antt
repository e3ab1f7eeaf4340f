use Rattle.std.proofs.Common.{◌^◌, ◌≤◌, nat_abs, subst, sym, ◌∙◌}
use Rattle.std.proofs.lemmas.Int.{to_z-of_z}
use mir.Syntax.{w64}
use Rattle.eds_unpack.proofs.ToldOctets.{told_is, sum_bound}
use Rattle.eds_unpack.proofs.told.told_octets.Goals as goal

pub returns-clause-value : goal.returns-clause-value
returns-clause-value c = told_is c.args.c0 c.args.c1 c.args.number c.from.result c.from-2.result (c.from.ensures ∙ to_z-of_z w64 c.args.c0 c.ranges.c0) (c.from-2.ensures ∙ to_z-of_z w64 c.args.c1 c.ranges.c1) c.requires.offset c.requires.factor c.requires.number

pub returns-clause-bound : goal.returns-clause-bound
returns-clause-bound c = subst (λ z. nat_abs z ≤ 2 ^ 97) (sym (told_is c.args.c0 c.args.c1 c.args.number c.from.result c.from-2.result (c.from.ensures ∙ to_z-of_z w64 c.args.c0 c.ranges.c0) (c.from-2.ensures ∙ to_z-of_z w64 c.args.c1 c.ranges.c1) c.requires.offset c.requires.factor c.requires.number)) (sum_bound c.args.c0 c.args.c1 c.args.number c.requires.offset c.requires.factor c.requires.number)
