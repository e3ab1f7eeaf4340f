use Rattle.std.proofs.Common.{ℕ, Vec, Global, ◌++◌, ◌∷◌, [], ap, ◌∙◌}
use Rattle.std.proofs.lemmas.Str.{IsUtf8-string_bytes}
use Rattle.std.specs.Prelude.{string_bytes}
use Rattle.eds_script.proofs.TextLines.{given-line}
use Rattle.eds_script.proofs.print.line_given.Goals as goal

pub returns-clause-text : goal.returns-clause-text
returns-clause-text c =
    given-line (string_bytes c.args.front) c.push.new.self.items c.args.given.now c.push_octets.new.text.items c.from_vec.result (IsUtf8-string_bytes c.args.front) c.requires
    (c.in_ok-push.ensures.items ∙ ap (λ (v : Vec ℕ Global). v.items ++ 32 ∷ []) c.into_bytes-line.ensures.value) c.in_ok-push_octets.ensures (c.from_vec.ensures ∙ c.in_ok-push-2.ensures.items)
