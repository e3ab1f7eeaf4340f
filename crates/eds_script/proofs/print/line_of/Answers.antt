use Rattle.std.proofs.Common.{ℕ, Vec, Global, ◌++◌, ◌∷◌, [], ap, ◌∙◌}
use Rattle.std.proofs.lemmas.Str.{IsUtf8-string_bytes}
use Rattle.std.specs.Prelude.{string_bytes}
use Rattle.eds_script.proofs.TextLines.{text-line}
use Rattle.eds_script.proofs.print.line_of.Goals as goal

pub returns-clause-text : goal.returns-clause-text
returns-clause-text c =
    text-line (string_bytes c.args.front) c.from_vec.result (IsUtf8-string_bytes c.args.front)
    (c.from_vec.ensures ∙ c.in_ok-push.ensures.items ∙ ap (λ (v : Vec ℕ Global). v.items ++ 10 ∷ []) c.into_bytes-line.ensures.value)
