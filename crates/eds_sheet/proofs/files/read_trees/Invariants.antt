use Rattle.std.proofs.Common.{◌≡◌, length, drop}
use Rattle.eds_sheet.specs.Files.{trees_from, trees_in}
use Rattle.eds_sheet.proofs.FilesLemmas.{prefixed}
use Rattle.eds_sheet.proofs.files.read_trees.Given as goal

abbrev pub invariant-loop-file : goal.invariant-loop-file
invariant-loop-file l = record {
  trees : prefixed l.trees (trees_from l.file (drop l.file l.files)) ≡ trees_in l.files;
  number : length l.trees ≡ l.file;
}
