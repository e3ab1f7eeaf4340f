use Rattle.std.proofs.Common.{◌≡◌, ◌++◌, drop}
use Rattle.std.specs.List.{flat_map}
use Rattle.eds_names.specs.Declarations.{numbered, counted_all, declaration_at}
use Rattle.eds_names.proofs.declared.declare_all.Given as goal

abbrev pub invariant-loop-standing : goal.invariant-loop-standing
invariant-loop-standing l = record {
  declared : l.declared.items ++ numbered l.counts (flat_map (declaration_at l.tree l.file) (drop l.standing-index l.standings)) ≡ l.initial.declared.items ++ numbered l.initial.counts (flat_map (declaration_at l.tree l.file) l.standings);
  counts : counted_all l.counts (flat_map (declaration_at l.tree l.file) (drop l.standing-index l.standings)) ≡ counted_all l.initial.counts (flat_map (declaration_at l.tree l.file) l.standings);
}
