use Rattle.std.proofs.Common.{◌≡◌, None, map, drop, length, replicate}
use Rattle.eds_names.specs.Standings.{name_around, around_entry, written}
use Rattle.eds_names.specs.Around.{name_in, IsIn}
use Rattle.eds_names.proofs.AroundLemmas.{AllIn}
use Rattle.eds_names.proofs.around.around_of.Given as goal

abbrev pub invariant-loop-standing : goal.invariant-loop-standing
invariant-loop-standing l = record {
  name : name_in l.names.items l.last.position ≡ name_around l.tree l.last.in_package l.last.in_component;
  position : IsIn l.names.items l.last.position;
  table : AllIn l.names.items l.table.items;
  written : written (map (name_in l.names.items) l.table.items) (map (around_entry l.tree) (drop l.standing-index l.standings)) ≡ written (replicate (length l.tree) None) (map (around_entry l.tree) l.standings);
}
