use Rattle.std.proofs.Common.{subst, ◌≡◌, true, ap, ◌∙◌, map, string_bytes}
use Rattle.eds_base.specs.Answering.{Answers}
use Rattle.eds_script.specs.Lines.{script_lines}
use Rattle.eds_script.specs.More.{empty_plot, tied_by}
use Rattle.eds_script.specs.Scripts.{plot_from}
use Rattle.eds_script.specs.Seen.{is_among, line_of, plot_seen}
use Rattle.eds_script.proofs.script.parse_more.Goals as goal

pub returns : goal.returns
returns c =
    let t = c.args.table.now in
    let plan = c.args.plan.now in
    let before = is_among (map string_bytes c.in_ok-wired.wired.keys) in
    let lined : map line_of c.as_slice-2.result.now ≡ script_lines c.args.octets.now = ap (map line_of) c.as_slice-2.ensures.value ∙ c.in_ok-lines.ensures in
    let wired : before ≡ tied_by c.args.wires.now = (λ i q. (c.in_ok-wired.ensures q ∙ ap (λ ws. tied_by ws q) c.as_slice.ensures) i) in
    subst (Answers plot_seen c.read_over.result)
    (ap (λ p. plot_from t plan before true c.args.now p (map line_of c.as_slice-2.result.now)) c.empty_script-script.ensures ∙ ap (plot_from t plan before true c.args.now empty_plot) lined
    ∙ ap (λ w. plot_from t plan w true c.args.now empty_plot (script_lines c.args.octets.now)) wired) c.read_over.ensures
