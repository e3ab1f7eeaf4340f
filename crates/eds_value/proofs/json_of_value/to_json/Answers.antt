use Rattle.std.proofs.Common.{◌≡◌, ◌≤◌, List, [], ◌++◌, ℕ, refl, ap, ap₂, ◌∙◌, arith}
use Rattle.std.proofs.lemmas.Str.{is_utf8-from_IsUtf8}
use Rattle.json.specs.Print.{print}
use Rattle.json.specs.Token.{Token}
use Rattle.serde_json.specs.Data.{depth}
use Rattle.serde_json.proofs.Texts.{print-outline}
use Rattle.eds_types.specs.Plain.{plain}
use Rattle.eds_value.specs.JsonOfValue.{json_of_value}
use Rattle.eds_value.specs.Written.{IsSound, tokens_of}
use Rattle.eds_value.proofs.ReadsBack.{reads_back, value_deep, value_held, value_read}
use Rattle.eds_value.proofs.Sound.{text_read, value_sound}
use Rattle.eds_value.proofs.json_of_value.to_json.Goals as goal

pub write_value-requires : goal.write_value-requires
write_value-requires c = value_sound c.args.table.now (plain c.args.value.now) (value_held c.args.table.now c.args.id.0 (plain c.args.value.now) c.keeps_rules.ensures c.requires.one)

pub returns-clause-text : goal.returns-clause-text
returns-clause-text c =
    let d = json_of_value c.args.table.now (plain c.args.value.now) in
    let before : c.write_value.new.out.before ≡ [] = c.in_ok-write_value.ensures.before ∙ c.in_ok-out.ensures.before in
    let written : c.write_value.new.out.tokens ≡ tokens_of d = c.in_ok-write_value.ensures.tokens ∙ ap (λ (ts : List Token). ts ++ tokens_of d) c.in_ok-out.ensures.tokens in
    c.from_vec.ensures ∙ c.into_inner.ensures.items ∙ ap₂ (λ (b : List ℕ) (ts : List Token). b ++ print ts) before written ∙ print-outline d

pub returns-clause-reads_back : goal.returns-clause-reads_back
returns-clause-reads_back c bare =
    let t = c.args.table.now in
    let id = c.args.id.0 in
    let v = plain c.args.value.now in
    let d = json_of_value t v in
    let before : c.write_value.new.out.before ≡ [] = c.in_ok-write_value.ensures.before ∙ c.in_ok-out.ensures.before in
    let written : c.write_value.new.out.tokens ≡ tokens_of d = c.in_ok-write_value.ensures.tokens ∙ ap (λ (ts : List Token). ts ++ tokens_of d) c.in_ok-out.ensures.tokens in
    let octets = print c.write_value.new.out.tokens in
    let is : c.from_vec.result ≡ octets = c.from_vec.ensures ∙ c.into_inner.ensures.items ∙ ap (λ (b : List ℕ). b ++ octets) before in
    let sound : IsSound d = value_sound t v (value_held t id v c.keeps_rules.ensures c.requires.one) in
    let flat : depth d ≤ 127 = let deep = value_deep t id v c.keeps_rules.ensures c.requires.one in omega (arith, deep) in
    rw is (value_read t id v octets d (is_utf8-from_IsUtf8 octets c.into_inner.ensures.utf8) (text_read d octets sound (c.into_inner.ensures.reads_back ∙ written) flat) refl
    (reads_back t id v c.keeps_rules.ensures bare c.requires.one))
