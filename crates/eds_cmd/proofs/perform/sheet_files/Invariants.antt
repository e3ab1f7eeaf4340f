use Rattle.std.proofs.Common.{◌≡◌, ℕ, ◌≤◌, ◌<◌, ◌^◌, List, take, length, sum_by, All, Some}
use Rattle.eds_io.specs.Files.{Files}
use Rattle.eds_cmd.specs.Answer.{sheet_files}
use Rattle.eds_cmd.proofs.SheetFiles.{are}
use Rattle.eds_cmd.proofs.perform.sheet_files.Given as goal

abbrev pub invariant-loop-name : goal.invariant-loop-name
invariant-loop-name g l =
    let files = g.S.Shelf.files in
    let faults = g.S.Shelf.faults in
    record {
      so_far : (told : Files) → files l.fn.shelf ≡ Some told → sheet_files told 0 (take l.name-index l.names) ≡ are l.sheets;
      all : l.before ≡ sum_by length l.sheets;
      within : l.before ≤ 16777216;
      count : length l.sheets ≡ l.name-index;
      short : All (λ sheet. length sheet < 2 ^ 32) l.sheets;
      files : files l.shelf ≡ files l.fn.shelf;
      calm : (other : List ℕ) → faults l.fn.shelf other ≤ faults l.shelf other;
    }
