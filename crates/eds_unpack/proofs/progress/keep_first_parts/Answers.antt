use Rattle.std.proofs.Common.{◌∙◌, ◌++◌, ◌∷◌, [], ap, sym, append_assoc}
use Rattle.eds_unpack.specs.Courses.{parts_from}
use Rattle.eds_unpack.proofs.SegmentReads.{first_parts_more}
use Rattle.eds_unpack.proofs.progress.keep_first_parts.Goals as goal

pub loop-place-preserved : goal.loop-place-preserved
loop-place-preserved c =
    c.in_ok-push.ensures.items ∙ ap (λ ps. ps ++ (c.args.container, c.loop-place.place) ∷ []) c.loop-place.invariant
    ∙ append_assoc c.args.parts.now.items (parts_from c.args.container 0 c.loop-place.place) ((c.args.container, c.loop-place.place) ∷ [])
    ∙ ap (λ ps. c.args.parts.now.items ++ ps) (sym (first_parts_more c.args.container c.loop-place.place))
