use Rattle.std.proofs.Common.{subst, ◌≡◌, false, ap, ◌∙◌, map, string_bytes}
use Rattle.eds_base.specs.Answering.{Answers}
use Rattle.eds_script.specs.Lines.{script_lines}
use Rattle.eds_script.specs.Meaning.{wired_in}
use Rattle.eds_script.specs.Scripts.{plot_by, plot_from}
use Rattle.eds_script.specs.Seen.{is_among, line_of, plot_seen}
use Rattle.eds_script.proofs.script.parse_script.Goals as goal

pub returns : goal.returns
returns c =
    let t = c.args.table.now in
    let plan = c.args.plan.now in
    let before = is_among (map string_bytes c.in_ok-wired.wired.keys) in
    let lined : map line_of c.as_slice-lines.result.now ≡ script_lines c.args.octets.now = ap (map line_of) c.as_slice-lines.ensures.value ∙ c.in_ok-lines.ensures in
    let begun : plot_from t plan before false 0 (plot_seen c.in_ok-script.script) (map line_of c.as_slice-lines.result.now) ≡ plot_by t plan before (map line_of c.as_slice-lines.result.now) = ap (λ p. plot_from t plan before false 0 p (map line_of c.as_slice-lines.result.now)) c.in_ok-script.ensures in
    let told : plot_by t plan before (map line_of c.as_slice-lines.result.now) ≡ plot_by t plan before (script_lines c.args.octets.now) = ap (plot_by t plan before) lined in
    let wired : before ≡ wired_in (script_lines c.args.octets.now) = (λ i q. (c.in_ok-wired.ensures q ∙ ap (λ ls. wired_in ls q) lined) i) in
    subst (Answers plot_seen c.read_over.result) (begun ∙ told ∙ ap (λ w. plot_by t plan w (script_lines c.args.octets.now)) wired) c.read_over.ensures
