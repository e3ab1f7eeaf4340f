use Rattle.std.proofs.Common.{◌≡◌, ◌++◌, map, drop}
use Rattle.eds_base.specs.Refusals.{first_of, least}
use Rattle.eds_names.specs.Declarations.{numbered, declarations_from, declared_in}
use Rattle.eds_names.specs.Repeats.{repeats_from}
use Rattle.eds_names.specs.Standings.{arounds_of}
use Rattle.eds_names.proofs.space.read_files.Given as goal

abbrev pub invariant-loop-file : goal.invariant-loop-file
invariant-loop-file l = record {
  declared : l.register.declared.items ++ numbered l.register.counts (declarations_from l.file (drop l.file l.trees)) ≡ declared_in l.trees;
  arounds : l.register.arounds ++ map arounds_of (drop l.file l.trees) ≡ map arounds_of l.trees;
  found : first_of l.register.found (least (repeats_from l.file (drop l.file l.trees))) ≡ least (repeats_from 0 l.trees);
}
