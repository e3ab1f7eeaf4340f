use Rattle.std.proofs.Common.{rules, arith, subst}
use Rattle.std.proofs.lemmas.Bool.{both_ways}
use Rattle.std.proofs.lemmas.Int.{ints, to_z-of_z}
use mir.Syntax.{w128}
use mir.Val.{SFits}
use Rattle.eds_base.specs.Spans.{IsWithin}
use Rattle.eds_base.proofs.SpansLemmas.{le_by_le_test, gt_by_le_test}
use Rattle.eds_pack.specs.Building.{LeastOf, IsListedIn}
use Rattle.eds_pack.proofs.Leasts.{lesser_kept, lesser_first, lesser_same, lesser_new}
use Rattle.eds_pack.proofs.least.lesser.Goals as goal

pub returns-then-not-holds : goal.returns-then-not-holds
returns-then-not-holds c done h =
    let n = c.args.listed.now.1 in
    let fits : SFits w128 n = search rules in
    lesser_kept done c.args.listed.now.0 n c.args.set.now c.args.least (λ w. both_ways c.holds.result c.if-not-holds.true (c.holds.ensures.1 (rw (to_z-of_z w128 n fits) w))) h

pub returns-in-None : goal.returns-in-None
returns-in-None c done h =
    let n = c.args.listed.now.1 in
    let fits : SFits w128 n = search rules in
    let within : IsWithin c.args.set.now n = subst (IsWithin c.args.set.now) (to_z-of_z w128 n fits) (c.holds.ensures.0 c.if-not-holds.false) in
    rw (to_z-of_z w128 n fits) (lesser_first done c.args.listed.now.0 n c.args.set.now within (subst (LeastOf (IsListedIn done c.args.set.now)) c.in-None.is h))

pub returns-then-best-number : goal.returns-then-best-number
returns-then-best-number c done h =
    let n = c.args.listed.now.1 in let b = c.in-Some.best in
    let fits : SFits w128 n = search rules in
    let own : SFits w128 b = search rules in
    lesser_same done c.args.listed.now.0 n c.args.set.now b (le_by_le_test b n own fits c.if-best-number.true) (subst (LeastOf (IsListedIn done c.args.set.now)) c.in-Some.is h)

pub returns-else-best-number : goal.returns-else-best-number
returns-else-best-number c done h =
    let n = c.args.listed.now.1 in let b = c.in-Some.best in
    let fits : SFits w128 n = search rules in
    let own : SFits w128 b = search rules in
    let within : IsWithin c.args.set.now n = subst (IsWithin c.args.set.now) (to_z-of_z w128 n fits) (c.holds.ensures.0 c.if-not-holds.false) in
    let lt = gt_by_le_test b n own fits c.if-best-number.false in
    rw (to_z-of_z w128 n fits) (lesser_new done c.args.listed.now.0 n c.args.set.now b (omega (arith, ints, lt)) within (subst (LeastOf (IsListedIn done c.args.set.now)) c.in-Some.is h))
