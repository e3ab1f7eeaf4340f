use Rattle.std.proofs.Common.{map, refl, arith, string_bytes}
use Rattle.eds_type_rows.specs.Places.{own_name}
use Rattle.eds_type_rows.proofs.FaceFacts.{names-next}
use Rattle.eds_type_rows.proofs.face_reference.names_at.Goals as goal

pub loop-at-preserved : goal.loop-at-preserved
loop-at-preserved c =
    names-next (own_name c.args.trees.now) c.args.places.now c.loop-at.at-index _ _ c.own_name.result.now (map string_bytes c.loop-at.names.keys) (map string_bytes c.note_name.new.names.keys)
    (omega arith) refl c.own_name.ensures c.in_ok-note_name.ensures c.loop-at.invariant
