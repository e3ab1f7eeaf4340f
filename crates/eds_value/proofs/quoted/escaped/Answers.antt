use Rattle.std.proofs.Common.{◌≡◌, ◌++◌, List, [], ◌∷◌, ℕ, rules, ap₂, ◌∙◌}
use Rattle.json.specs.Print.{print, quoted}
use Rattle.json.specs.Token.{Token, string}
use Rattle.eds_value.proofs.Strings.{print_string}
use Rattle.eds_value.proofs.quoted.escaped.Goals as goal

pub returns : goal.returns
returns c =
    let written : c.string.new.self.tokens ≡ string c.args.text.now ∷ [] = search rules in
    let before : c.string.new.self.before ≡ [] = search rules in
    let is : c.into_inner.result.items ≡ quoted c.args.text.now =
    c.into_inner.ensures.items ∙ ap₂ (λ (b : List ℕ) (ts : List Token). b ++ print ts) before written ∙ print_string c.args.text.now in
    let string_is : Rattle.std.specs.Prelude.string_bytes c.in-Ok.string ≡ c.into_inner.result.items = search rules in
    string_is ∙ is
