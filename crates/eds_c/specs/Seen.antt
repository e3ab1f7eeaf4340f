-- What stands in a block, as it stands in memory.
use Rattle.std.specs.Prelude.{ℕ, List}
use Rattle.eds_io.specs.declared.files.NamedFile.{NamedFile}
use Rattle.eds_c.specs.declared.block.Field.{Field}
use Rattle.eds_c.specs.declared.block.Word.{Word}
use Rattle.eds_c.specs.declared.block.Pair.{Pair}
use Rattle.eds_c.specs.Blocks.{Got}

-- a field, a word, and a file, each with what is behind it
abbrev pub seen_field : Field → Got (List ℕ)
seen_field f = record { item = f.octets.now; rest = f.rest.now }

abbrev pub seen_text : Word → Got (List ℕ)
seen_text w = record { item = w.text.now; rest = w.rest.now }

abbrev pub seen_pair : Pair → Got NamedFile
seen_pair p = record { item = record { name = p.name.now; octets = p.octets.now }; rest = p.rest.now }
