use Rattle.std.proofs.Common.{ap, ◌∙◌}
use Rattle.eds_overlap.specs.Index.{all_key, own_key, mark}
use Rattle.eds_overlap.proofs.Listing.{listed_more}
use Rattle.eds_overlap.proofs.index.place.Goals as goal

pub returns : goal.returns
returns c =
    listed_more c.args.table.now c.args.sets.now c.args.models.now c.args.id.0 c.args.places.now c.note.new.places c.note-2.new.places _ _
    (c.in_ok-all_key.ensures ∙ ap all_key c.family_of-family.ensures)
    (c.in_ok-own_key.ensures ∙ ap (own_key c.family_of-family.result) c.in_ok-mark.ensures ∙ ap (λ f. own_key f (mark c.args.table.now c.args.sets.now c.args.models.now c.args.id.0)) c.family_of-family.ensures)
    c.in_ok-note.ensures c.in_ok-note-2.ensures c.requires
