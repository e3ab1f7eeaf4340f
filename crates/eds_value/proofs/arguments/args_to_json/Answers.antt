use Rattle.std.proofs.Common.{◌≡◌, ◌≤◌, List, [], ◌++◌, ℕ, map, refl, sym, ap, ap₂, subst, ◌∙◌, arith}
use Rattle.std.proofs.lemmas.Str.{is_utf8-from_IsUtf8}
use Rattle.json.specs.Print.{print}
use Rattle.json.specs.Token.{Token}
use Rattle.serde_json.specs.Data.{Members, depth, no_members, object}
use Rattle.serde_json.proofs.Texts.{print-outline}
use Rattle.eds_value.specs.declared.member.Content.{Content}
use Rattle.eds_value.specs.declared.member.Member.{Member}
use Rattle.eds_value.specs.Entries.{Entry, arguments}
use Rattle.eds_value.specs.JsonOfValue.{arguments_data, json_of_value, with_values}
use Rattle.eds_value.specs.Members.{in_order, put_all}
use Rattle.eds_value.specs.Seen.{seen}
use Rattle.eds_value.specs.Written.{IsSound, tokens_of}
use Rattle.eds_value.proofs.ReadsBack.{arguments_deep, arguments_held, arguments_read_as, arguments_read_back}
use Rattle.eds_value.proofs.Sound.{arguments_sound, text_read}
use Rattle.eds_value.proofs.arguments.args_to_json.Goals as goal

pub write_object-requires : goal.write_object-requires
write_object-requires c =
    let t = c.args.table.now in
    let fs = c.args.fields.now in
    let vs = c.args.values.now in
    let entries : map seen c.as_slice-2.result.now ≡ arguments fs = ap (map seen) c.as_slice-2.ensures ∙ c.in_ok-entries.ensures ∙ ap arguments c.as_slice.ensures in
    let is : in_order t c.as_slice-4.result.now ≡ with_values (arguments fs) (map (json_of_value t) vs) no_members =
    ap (in_order t) c.as_slice-4.ensures.value ∙ c.in_ok-members-2.ensures t ∙ ap (λ (ms : List (Member Content)). put_all t ms no_members) c.as_slice-3.ensures.value ∙ c.in_ok-members.ensures t
    ∙ ap (λ (es : List Entry). with_values es (map (json_of_value t) vs) no_members) entries in
    subst (λ (ms : Members). IsSound (object ms)) (sym is) (arguments_sound t (arguments fs) vs (arguments_held t fs vs c.keeps_rules.ensures c.requires))

pub returns-clause-text : goal.returns-clause-text
returns-clause-text c =
    let t = c.args.table.now in
    let fs = c.args.fields.now in
    let vs = c.args.values.now in
    let d = arguments_data t (arguments fs) vs in
    let entries : map seen c.as_slice-2.result.now ≡ arguments fs = ap (map seen) c.as_slice-2.ensures ∙ c.in_ok-entries.ensures ∙ ap arguments c.as_slice.ensures in
    let is : in_order t c.as_slice-4.result.now ≡ with_values (arguments fs) (map (json_of_value t) vs) no_members =
    ap (in_order t) c.as_slice-4.ensures.value ∙ c.in_ok-members-2.ensures t ∙ ap (λ (ms : List (Member Content)). put_all t ms no_members) c.as_slice-3.ensures.value ∙ c.in_ok-members.ensures t
    ∙ ap (λ (es : List Entry). with_values es (map (json_of_value t) vs) no_members) entries in
    let before : c.write_object.new.out.before ≡ [] = c.in_ok-write_object.ensures.before ∙ c.in_ok-out.ensures.before in
    let written : c.write_object.new.out.tokens ≡ tokens_of d =
    c.in_ok-write_object.ensures.tokens ∙ ap₂ (λ (ts : List Token) (ms : Members). ts ++ tokens_of (object ms)) c.in_ok-out.ensures.tokens is in
    c.from_vec.ensures ∙ c.into_inner.ensures.items ∙ ap₂ (λ (b : List ℕ) (ts : List Token). b ++ print ts) before written ∙ print-outline d

pub returns-clause-reads_back : goal.returns-clause-reads_back
returns-clause-reads_back c bare named =
    let t = c.args.table.now in
    let fs = c.args.fields.now in
    let vs = c.args.values.now in
    let d = arguments_data t (arguments fs) vs in
    let entries : map seen c.as_slice-2.result.now ≡ arguments fs = ap (map seen) c.as_slice-2.ensures ∙ c.in_ok-entries.ensures ∙ ap arguments c.as_slice.ensures in
    let is : in_order t c.as_slice-4.result.now ≡ with_values (arguments fs) (map (json_of_value t) vs) no_members =
    ap (in_order t) c.as_slice-4.ensures.value ∙ c.in_ok-members-2.ensures t ∙ ap (λ (ms : List (Member Content)). put_all t ms no_members) c.as_slice-3.ensures.value ∙ c.in_ok-members.ensures t
    ∙ ap (λ (es : List Entry). with_values es (map (json_of_value t) vs) no_members) entries in
    let before : c.write_object.new.out.before ≡ [] = c.in_ok-write_object.ensures.before ∙ c.in_ok-out.ensures.before in
    let written : c.write_object.new.out.tokens ≡ tokens_of d =
    c.in_ok-write_object.ensures.tokens ∙ ap₂ (λ (ts : List Token) (ms : Members). ts ++ tokens_of (object ms)) c.in_ok-out.ensures.tokens is in
    let octets = print c.write_object.new.out.tokens in
    let octets_is : c.from_vec.result ≡ octets = c.from_vec.ensures ∙ c.into_inner.ensures.items ∙ ap (λ (b : List ℕ). b ++ octets) before in
    let sound : IsSound d = arguments_sound t (arguments fs) vs (arguments_held t fs vs c.keeps_rules.ensures c.requires) in
    let flat : depth d ≤ 127 = let deep = arguments_deep t fs vs c.keeps_rules.ensures c.requires in omega (arith, deep) in
    rw octets_is (arguments_read_as t fs vs octets d (is_utf8-from_IsUtf8 octets c.into_inner.ensures.utf8) (text_read d octets sound (c.into_inner.ensures.reads_back ∙ written) flat) refl
    (arguments_read_back t fs vs c.keeps_rules.ensures bare named c.requires))
