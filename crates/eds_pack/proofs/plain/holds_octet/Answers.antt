use Rattle.std.proofs.Common.{◌∙◌, ap}
use Rattle.std.specs.Prelude.{◌==◌}
use Rattle.std.specs.List.{list_any}
use Rattle.eds_pack.proofs.Scalars.{any_has}
use Rattle.eds_pack.proofs.plain.holds_octet.Goals as goal

pub returns : goal.returns
returns c = c.contains.ensures.value ∙ ap (list_any (λ o. o == c.args.octet)) c.as_bytes.ensures.value ∙ any_has c.args.text.now c.args.octet
