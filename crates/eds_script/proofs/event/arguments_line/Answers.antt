use Rattle.std.proofs.Common.{◌≡◌, map, Ok, subst, sym, ap, ◌∙◌}
use Rattle.eds_types.specs.Plain.{plain}
use Rattle.eds_value.specs.Json.{arguments_in}
use Rattle.eds_value.specs.JsonOfValue.{arguments_text}
use Rattle.eds_value.specs.Laws.{AreOfTypes}
use Rattle.eds_script.proofs.Printing.{of-types}
use Rattle.eds_script.proofs.event.arguments_line.Goals as goal

pub args_to_json-requires : goal.args_to_json-requires
args_to_json-requires c =
    let t = c.args.table.now in
    let fs = c.args.fields.now in
    subst (AreOfTypes t fs) (sym c.in_ok-list.ensures) (of-types t fs (map plain c.args.values.now) c.requires)

pub returns-clause-reads : goal.returns-clause-reads
returns-clause-reads c bare named =
    let t = c.args.table.now in
    let fs = c.args.fields.now in
    let vs = map plain c.args.values.now in
    let text : c.in_ok-json.json ≡ arguments_text t fs vs = c.in_ok-json.ensures.text ∙ ap (arguments_text t fs) c.in_ok-list.ensures in
    ap (arguments_in t fs) (sym text) ∙ c.in_ok-json.ensures.reads_back bare named ∙ ap Ok c.in_ok-list.ensures
