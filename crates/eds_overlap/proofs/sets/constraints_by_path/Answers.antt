use Rattle.std.proofs.Common.{rules, map, ap, ◌∙◌, subst, arith}
use Rattle.std.specs.List.Sorted.{IsPermutation}
use Rattle.std.specs.Ordering.{is_lt}
use Rattle.std.proofs.lemmas.List.{take_all}
use Rattle.std.proofs.lemmas.List.Sorted.{IsPermutation-map, answers_always, ranks_by}
use Rattle.eds_overlap.specs.Pairs.{constraints_among, path_cmp}
use Rattle.eds_overlap.proofs.PathOrder.{in_order, path_total}
use Rattle.eds_overlap.proofs.sets.constraints_by_path.Goals as goal

pub returns-clause-all : goal.returns-clause-all
returns-clause-all c =
    subst (λ xs. IsPermutation xs (map (λ c. c.now) c.sort_by.new.self.items)) (c.loop-id.invariant ∙ ap (constraints_among c.args.table.now) (take_all c.loop-id.id-index c.args.ids.now (omega arith)))
    (IsPermutation-map (λ c. c.now) _ _ c.in_ok-sort_by.ensures.permutation)

pub returns-clause-order : goal.returns-clause-order
returns-clause-order c = in_order c.sort_by.new.self.items (c.in_ok-sort_by.ensures.sorted (λ a b. is_lt (path_cmp a.now.path b.now.path)) (ranks_by path_total (λ a. a.now.path)) (answers_always _ _ _ (λ f a r g h. search rules)))
