use Rattle.std.proofs.Common.{map, string_bytes, ap, ◌∙◌, ◌||◌}
use Rattle.eds_base.specs.Reading.{same}
use Rattle.eds_script.specs.Seen.{is_among}
use Rattle.eds_script.proofs.Among.{two-noted}
use Rattle.eds_script.proofs.wired.note_wire.Goals as goal

pub returns : goal.returns
returns c q =
    two-noted (same q c.args.wire.now.lower) (same q c.args.wire.now.upper) (is_among (map string_bytes c.args.ends.now.keys) q) _ _
    (c.in_ok-note_end.ensures q ∙ ap (λ w. same q w || is_among (map string_bytes c.args.ends.now.keys) q) c.as_str.ensures)
    (c.in_ok-note_end-2.ensures q ∙ ap (λ w. same q w || is_among (map string_bytes c.note_end.new.ends.keys) q) c.as_str-2.ensures)
