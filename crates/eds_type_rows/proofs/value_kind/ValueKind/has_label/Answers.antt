use Rattle.std.proofs.Common.{sym, ◌∙◌, string_bytes}
use Rattle.eds_names.proofs.RepeatsLemmas.{among-map}
use Rattle.eds_type_rows.proofs.value_kind.ValueKind.has_label.Goals as goal

pub returns : goal.returns
returns c = c.contains.ensures ∙ sym (among-map string_bytes c.args.self.now.labels.keys c.args.text.now) ∙ c.args.self.now.labelled c.args.text.now
