use Rattle.std.proofs.Common.{rules, ◌≡◌, ◌<◌, ap, sym, ◌∙◌, subst, get_or, length}
use Rattle.std.specs.declared.cmp.Ordering.TheVariants.{Less, Equal, Greater}
use Rattle.std.specs.List.Sorted.{IsNonDecreasingBy, IsPartitionPoint}
use Rattle.std.specs.Ordering.{ordering_index}
use Rattle.std.proofs.lemmas.Fn.{always_returns_same}
use Rattle.eds_types.specs.declared.sets.PathSet.{PathSet}
use Rattle.eds_overlap.specs.Pairs.{path_cmp, set_on}
use Rattle.eds_overlap.proofs.PathOrder.{found_at, found_nowhere, searchable}
use Rattle.eds_overlap.proofs.sets.SetsByPath.find.Goals as goal

pub returns-in-Ok : goal.returns-in-Ok
returns-in-Ok c =
    let key : PathSet → _ = λ s. path_cmp s.path c.args.path.now in
    let found = c.in-Ok.ensures.position key (always_returns_same _ (λ a r. r ≡ key a.0.now) _ (λ a r f' k. search rules)) in
    found_at c.self.inside.sets.items c.in-Ok.at c.args.path.now c.index.result.now c.self.invariant (subst (λ n. c.in-Ok.at < n) (ap length c.deref.ensures.value) c.in-Ok.ensures.bound)
    (λ d. subst (λ sets. path_cmp (get_or sets c.in-Ok.at d).path c.args.path.now ≡ Equal) c.deref.ensures.value (found d)) c.index.ensures
    ∙ ap (λ sets. set_on sets c.args.path.now) c.self.view_is

pub returns-in-Err : goal.returns-in-Err
returns-in-Err c =
    let key : PathSet → _ = λ s. path_cmp s.path c.args.path.now in
    let found = c.in-Err.ensures.position key (always_returns_same _ (λ a r. r ≡ key a.0.now) _ (λ a r f' k. search rules)) in
    let up = subst (IsNonDecreasingBy (λ s. ordering_index (key s))) (sym c.deref.ensures.value) (searchable c.self.inside.sets.items c.args.path.now c.self.invariant) in
    found_nowhere c.self.inside.sets.items c.in-Err.field-0 c.args.path.now (subst (λ sets. IsPartitionPoint (λ s. key s ≡ Less) (λ s. key s ≡ Greater) sets c.in-Err.field-0) c.deref.ensures.value (found up))
    ∙ ap (λ sets. set_on sets c.args.path.now) c.self.view_is
