use Rattle.std.proofs.Common.{sym, ◌∙◌, string_bytes}
use Rattle.eds_script.proofs.Among.{among-map}
use Rattle.eds_script.proofs.wired.is_held.Goals as goal

pub returns : goal.returns
returns c = c.contains.ensures ∙ sym (among-map string_bytes c.args.ends.now.keys c.args.end.now)
