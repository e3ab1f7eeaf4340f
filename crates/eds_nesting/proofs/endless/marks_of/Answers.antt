use Rattle.std.proofs.Common.{sym, ap, ◌∙◌}
use Rattle.std.specs.List.{list_any}
use Rattle.std.specs.Prelude.{List, ℕ}
use Rattle.eds_graph.specs.Ways.{is_met, all_reached, reversed}
use Rattle.eds_graph.specs.Reaching.{mark}
use Rattle.eds_nesting.specs.Families.{holding}
use Rattle.eds_nesting.proofs.EndlessMarks.{endless-marks, marked-by}
use Rattle.eds_nesting.proofs.endless.marks_of.Goals as goal

pub returns-in-len1-up : goal.returns-in-len1-up
returns-in-len1-up c =
    let rows = c.args.rows.now in
    let names = c.args.families.now in
    marked-by (λ v. v.items) c.marks_from.result (all_reached (reversed (holding rows names)) c.args.endless.now) (λ name. list_any (is_met (holding rows names) name) c.args.endless.now) c.marks_from.ensures
    (λ a. ap (λ (from : List ℕ). mark (all_reached (reversed (holding rows names)) from) a) c.requires ∙ (endless-marks rows names a ∙ ap (λ (from : List ℕ). list_any (is_met (holding rows names) a) from) (sym c.requires)))
