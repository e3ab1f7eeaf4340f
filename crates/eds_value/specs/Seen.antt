-- An entry as the code has it.
use Rattle.eds_value.specs.Entries.{Entry}
use Rattle.eds_value.specs.declared.entry.Entry.{Entry as Held}

-- an entry as the code holds it
abbrev pub seen : Held → Entry
seen e = record { step = e.step; name = e.name.now; id = e.id.0; is_list = e.is_list }
