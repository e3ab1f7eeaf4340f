use Rattle.std.proofs.Common.{◌≡◌, ◌+◌, ◌*◌, ◌≤◌, true, map, drop}
use Rattle.std.specs.List.{flat_map, list_all}
use Rattle.eds_generic.specs.declared.face.Base.{Base}
use Rattle.eds_generic.specs.Pairs.{below_by, gathered, ends_within, put_all, IsClosed}
use Rattle.eds_generic.specs.Members.{declared_count}
use Rattle.eds_generic.proofs.gather.+gather.Given as goal

abbrev pub decreases-gather : goal.decreases-gather
decreases-gather l = 2 * l.depth

abbrev pub decreases-gather_bases : goal.decreases-gather_bases
decreases-gather_bases l = 2 * l.depth + 1

abbrev pub invariant-gather_bases-loop-base : goal.invariant-gather_bases-loop-base
invariant-gather_bases-loop-base l = record {
  found : put_all l.gathered.found (flat_map (gathered l.depth l.faces) (map (below_by l.faces l.pair.face l.pair.types) (drop l.base-index l.base-items))) ≡ put_all l.initial.gathered.found (flat_map (gathered l.depth l.faces) (map (below_by l.faces l.pair.face l.pair.types) l.base-items));
  ends : list_all (λ (b : Base). ends_within l.depth l.faces b.face.0) (drop l.base-index l.base-items) ≡ true;
  closed : IsClosed l.faces l.gathered.found;
  counted : declared_count l.faces l.gathered.found ≡ l.gathered.members;
  few : l.gathered.members ≤ 1024;
}
