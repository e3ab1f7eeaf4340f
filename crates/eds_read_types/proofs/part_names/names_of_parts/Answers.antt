use Rattle.std.proofs.Common.{map, ap, string_bytes}
use Rattle.eds_types.specs.Rows.{container_of}
use Rattle.eds_read_types.proofs.NameSets.{all_names}
use Rattle.eds_read_types.proofs.part_names.names_of_parts.Goals as goal

pub returns : goal.returns
returns c =
    all_names (container_of c.args.rows.now c.args.id) c.entries_of.result.now c.trailers_of.result.now (map string_bytes c.new-names.result.keys) (map string_bytes c.note_parts.new.names.keys) (map string_bytes c.note_parts-2.new.names.keys)
    (ap (map string_bytes) c.new-names.ensures.empty) c.entries_of.ensures c.trailers_of.ensures c.in_ok-note_parts.ensures c.in_ok-note_parts-2.ensures
