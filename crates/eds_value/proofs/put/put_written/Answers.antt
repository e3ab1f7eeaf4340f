use Rattle.std.proofs.Common.{◌≡◌, ◌++◌, List, [], ℕ, rules, ap, ap₂, ◌∙◌}
use Rattle.json.specs.Print.{print}
use Rattle.json.specs.Token.{Token}
use Rattle.serde_json.proofs.Texts.{print-outline}
use Rattle.eds_types.specs.Plain.{plain}
use Rattle.eds_types.specs.Rows.{Table}
use Rattle.eds_value.specs.JsonOfValue.{json_of_value, json_text}
use Rattle.eds_value.specs.Written.{tokens_of}
use Rattle.eds_value.proofs.Sound.{value_sound}
use Rattle.eds_value.proofs.put.put_written.Goals as goal

pub write_value-requires : goal.write_value-requires
write_value-requires c = value_sound c.table.result.now (plain c.args.value.now) c.requires

pub returns : goal.returns
returns c =
    let t = c.table.result.now in
    let d = json_of_value t (plain c.args.value.now) in
    let before : c.write_value.new.out.before ≡ [] = c.in_ok-write_value.ensures.before ∙ c.in_ok-out.ensures.before in
    let written : c.write_value.new.out.tokens ≡ tokens_of d = c.in_ok-write_value.ensures.tokens ∙ ap (λ (ts : List Token). ts ++ tokens_of d) c.in_ok-out.ensures.tokens in
    let is : c.into_inner.result.items ≡ json_text c.args.layouts.now (plain c.args.value.now) =
    c.into_inner.ensures.items ∙ ap₂ (λ (b : List ℕ) (ts : List Token). b ++ print ts) before written ∙ print-outline d ∙ ap (λ (t : Table). json_text t (plain c.args.value.now)) c.table.ensures in
    let put : c.put_text.new.self ≡ c.into_inner.result.items ++ c.args.line.now = search rules in
    put ∙ ap (λ (s : List ℕ). s ++ c.args.line.now) is
