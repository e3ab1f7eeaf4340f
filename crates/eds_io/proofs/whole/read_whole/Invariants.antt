use Rattle.std.proofs.Common.{◌≡◌, ◌≤◌, ◌-◌, ℕ, List, length, Some}
use Rattle.eds_io.specs.Files.{Files, file_named}
use Rattle.eds_io.proofs.Begins.{Begins}
use Rattle.eds_io.specs.Reads.{Come}
use Rattle.eds_io.proofs.whole.read_whole.Given as goal

abbrev pub invariant-loop-octets : goal.invariant-loop-octets
invariant-loop-octets g l =
    let files = g.S.Shelf.files in
    let faults = g.S.Shelf.faults in
    record {
      so_far : (told : Files) → files l.fn.shelf ≡ Some told → Begins (file_named l.name told) l.octets.items;
      came : Come g.S.Shelf.gives l.name l.fn.shelf l.octets.items l.shelf;
      size : length l.octets.items ≡ l.from;
      within : l.from ≤ l.most;
      files : files l.shelf ≡ files l.fn.shelf;
      calm : (other : List ℕ) → faults l.fn.shelf other ≤ faults l.shelf other;
    }

abbrev pub decreases-loop-octets : goal.decreases-loop-octets
decreases-loop-octets g l = l.most - l.from
