use Rattle.std.proofs.Common.{◌≡◌, drop}
use Rattle.std.specs.List.{flat_map}
use Rattle.eds_base.specs.Refusals.{first_of, least}
use Rattle.eds_generic.specs.Clean.{AreAllClean}
use Rattle.eds_generic.specs.Uses.{use_breaks}
use Rattle.eds_generic.proofs.used.least_used.Given as goal

abbrev pub invariant-loop-used : goal.invariant-loop-used
invariant-loop-used l = record {
  found : first_of l.found (least (flat_map (use_breaks l.faces l.types) (drop l.used-index l.uses))) ≡ least (flat_map (use_breaks l.faces l.types) l.uses);
  clean : AreAllClean l.faces l.types l.clean;
}
