use Rattle.std.proofs.Common.{sym, ◌∙◌, map, string_bytes}
use Rattle.eds_script.proofs.Among.{among-inserted, among-present}
use Rattle.eds_script.proofs.wired.note_end.Goals as goal

pub returns-then-is_held : goal.returns-then-is_held
returns-then-is_held c q = among-present (map string_bytes c.args.ends.now.keys) c.args.end.now q (sym c.is_held.ensures ∙ c.if-is_held.true)

pub returns : goal.returns
returns c q = among-inserted string_bytes c.args.ends.now.keys c.insert.new.self.keys c.in_ok-text.text c.args.end.now q c.in_ok-text.ensures.ok (sym c.is_held.ensures ∙ c.if-is_held.false) c.in_ok-_added.ensures.keys
