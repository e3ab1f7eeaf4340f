use Rattle.std.proofs.Common.{◌≡◌, ◌+◌, ◌*◌, true, map, drop}
use Rattle.std.specs.List.{flat_map, list_all}
use Rattle.eds_generic.specs.declared.face.Base.{Base}
use Rattle.eds_generic.specs.Pairs.{below_by, reached, ends_within}
use Rattle.eds_generic.specs.NameRules.{first, AreClean}
use Rattle.eds_generic.proofs.name_rule.+judge.Given as goal

abbrev pub decreases-first_in : goal.decreases-first_in
decreases-first_in g l = 2 * l.depth

abbrev pub decreases-first_below : goal.decreases-first_below
decreases-first_below g l = 2 * l.depth + 1

abbrev pub invariant-first_below-loop-base : goal.invariant-first_below-loop-base
invariant-first_below-loop-base g l = record {
  first : first (flat_map (g.R.NameRule.names l.faces l.types) (flat_map (reached l.depth l.faces) (map (below_by l.faces l.pair.face l.pair.types) (drop l.base-index l.base-items)))) ≡ first (flat_map (g.R.NameRule.names l.faces l.types) (flat_map (reached l.depth l.faces) (map (below_by l.faces l.pair.face l.pair.types) l.base-items)));
  ends : list_all (λ (b : Base). ends_within l.depth l.faces b.face.0) (drop l.base-index l.base-items) ≡ true;
  clean : AreClean (g.R.NameRule.names) l.faces l.types l.clean;
}
