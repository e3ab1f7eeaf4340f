use Rattle.std.proofs.Common.{◌≡◌, ◌+◌, ◌*◌, ◌<◌, ◌≤◌, List, [], ◌∷◌, ◌++◌, codes, length, map, rules, sym, ap, ap₂, subst, ◌∙◌, arith, append_assoc}
use Rattle.std.specs.Prelude.{OnOk}
use Rattle.json.specs.Token.{Token, key}
use Rattle.serde_json.specs.Data.{Data, Members, array, no_members, object, put, string}
use Rattle.serde_json.specs.View.{items_of}
use Rattle.eds_types.specs.declared.value.Value.{Value}
use Rattle.eds_types.specs.Plain.{plain}
use Rattle.eds_value.specs.declared.member.Content.{Content}
use Rattle.eds_value.specs.declared.member.Member.{Member}
use Rattle.eds_value.specs.Entries.{entries_along}
use Rattle.eds_value.specs.JsonOfValue.{fields_data, json_of_value, type_name, with_values}
use Rattle.eds_value.specs.Members.{content_json, in_order, put_all}
use Rattle.eds_value.specs.Seen.{seen}
use Rattle.eds_value.specs.Written.{IsSound, tokens_of}
use Rattle.eds_value.proofs.Plains.{json_fields, json_items}
use Rattle.eds_value.proofs.Tokens.{item_next, item_shorter, item_sound, item_written, items_left, member_next, member_sound, members_left}
use Rattle.eds_value.proofs.write.+write.Goals as goal

pub write_items-write_value-requires : goal.write_items-write_value-requires
write_items-write_value-requires t c =
    let tb = c.args.table.now in
    let vs = c.args.values.now in
    let i = c.loop-value.value-index in
    let v = c.value-item.result in
    let whole = tokens_of (array (items_of (map (json_of_value tb) (map plain vs)))) in
    let next = item_next tb vs i v c.loop-value-test.true c.value-item.is in
    let short = item_shorter (tokens_of (json_of_value tb (plain v))) (items_left tb (i + 1) vs) (items_left tb i vs) (length whole) next c.loop-value.invariant.3 in
    let less : length (tokens_of (json_of_value tb (plain v))) + 1 ≤ length whole = short.0 in
    let smaller : 4 * length (tokens_of (json_of_value tb (plain v))) + 2 < t = omega (arith, less, c.decreases) in
    (smaller, (item_sound tb vs i v c.loop-value-test.true c.value-item.is c.loop-value.invariant.2).0)

pub write_items-loop-value-preserved : goal.write_items-loop-value-preserved
write_items-loop-value-preserved t c =
    let tb = c.args.table.now in
    let vs = c.args.values.now in
    let i = c.loop-value.value-index in
    let v = c.value-item.result in
    let d = tokens_of (json_of_value tb (plain v)) in
    let whole = tokens_of (array (items_of (map (json_of_value tb) (map plain vs)))) in
    let next = item_next tb vs i v c.loop-value-test.true c.value-item.is in (
      item_written c.loop-value.out.tokens c.write_value.new.out.tokens d (items_left tb (i + 1) vs) (items_left tb i vs) (c.args.out.now.tokens ++ whole) next c.in_ok-write_value.ensures.tokens c.loop-value.invariant.0,
      c.in_ok-write_value.ensures.before ∙ c.loop-value.invariant.1,
      (item_sound tb vs i v c.loop-value-test.true c.value-item.is c.loop-value.invariant.2).1,
      (item_shorter d (items_left tb (i + 1) vs) (items_left tb i vs) (length whole) next c.loop-value.invariant.3).1,
    )

pub write_object-write_content-requires : goal.write_object-write_content-requires
write_object-write_content-requires t c =
    let tb = c.args.table.now in
    let ms = c.args.members.now in
    let i = c.loop-member.member-index in
    let m = c.member-item.result in
    let d = tokens_of (content_json tb m.content) in
    let whole = tokens_of (object (in_order tb ms)) in
    let next = member_next tb ms i m c.loop-member-test.true c.member-item.is in
    let short = item_shorter (key m.name.now ∷ d) (members_left tb (i + 1) ms) (members_left tb i ms) (length whole) next c.loop-member.invariant.3 in
    let less : length (key m.name.now ∷ d) + 1 ≤ length whole = short.0 in
    let smaller : 4 * length d + 3 < t = omega (arith, less, c.decreases) in
    (smaller, (member_sound tb ms i m c.loop-member-test.true c.member-item.is c.loop-member.invariant.2).0)

pub write_object-loop-member-preserved : goal.write_object-loop-member-preserved
write_object-loop-member-preserved t c =
    let tb = c.args.table.now in
    let ms = c.args.members.now in
    let i = c.loop-member.member-index in
    let m = c.member-item.result in
    let d = tokens_of (content_json tb m.content) in
    let whole = tokens_of (object (in_order tb ms)) in
    let next = member_next tb ms i m c.loop-member-test.true c.member-item.is in
    let so_far = c.loop-member.out.tokens in
    let keyed : c.key.new.self.tokens ≡ so_far ++ key m.name.now ∷ [] = search rules in
    let kept : c.key.new.self.before ≡ c.loop-member.out.before = search rules in
    let written : c.write_content.new.out.tokens ≡ so_far ++ (key m.name.now ∷ d) = c.in_ok-write_content.ensures.tokens ∙ ap (λ (ts : List Token). ts ++ d) keyed ∙ append_assoc so_far (key m.name.now ∷ []) d in (
      item_written so_far c.write_content.new.out.tokens (key m.name.now ∷ d) (members_left tb (i + 1) ms) (members_left tb i ms) (c.args.out.now.tokens ++ whole) next written c.loop-member.invariant.0,
      c.in_ok-write_content.ensures.before ∙ kept ∙ c.loop-member.invariant.1,
      (member_sound tb ms i m c.loop-member-test.true c.member-item.is c.loop-member.invariant.2).1,
      (item_shorter (key m.name.now ∷ d) (members_left tb (i + 1) ms) (members_left tb i ms) (length whole) next c.loop-member.invariant.3).1,
    )

pub write_fields-write_object-requires : goal.write_fields-write_object-requires
write_fields-write_object-requires t c =
    let tb = c.args.table.now in
    let k = c.args.container.0 in
    let ds = map (json_of_value tb) (map plain c.args.values.now) in
    let entries : map seen c.as_slice.result.now ≡ entries_along tb k = ap (map seen) c.as_slice.ensures ∙ c.in_ok-entries.ensures in
    let is : in_order tb c.as_slice-3.result.now ≡ with_values (entries_along tb k) ds (put (codes "$type") (string (type_name tb k)) no_members) =
    ap (in_order tb) c.as_slice-3.ensures.value ∙ c.in_ok-members-2.ensures tb ∙ ap (λ (ms : List (Member Content)). put_all tb ms no_members) c.as_slice-2.ensures.value ∙ c.in_ok-members.ensures tb
    ∙ ap₂ (λ es name. with_values es ds (put (codes "$type") (string name) no_members)) entries c.type_name-name.ensures in
    let as_many : length (tokens_of (object (in_order tb c.as_slice-3.result.now))) ≡ length (tokens_of (fields_data (type_name tb k) (entries_along tb k) ds)) = ap (λ (ms : Members). length (tokens_of (object ms))) is in
    let smaller : 4 * length (tokens_of (object (in_order tb c.as_slice-3.result.now))) < t = omega (arith, as_many, c.decreases) in
    (smaller, subst (λ (ms : Members). IsSound (object ms)) (sym is) c.requires)

pub write_fields-returns-clause-tokens : goal.write_fields-returns-clause-tokens
write_fields-returns-clause-tokens t c =
    let tb = c.args.table.now in
    let k = c.args.container.0 in
    let ds = map (json_of_value tb) (map plain c.args.values.now) in
    let entries : map seen c.as_slice.result.now ≡ entries_along tb k = ap (map seen) c.as_slice.ensures ∙ c.in_ok-entries.ensures in
    let is : in_order tb c.as_slice-3.result.now ≡ with_values (entries_along tb k) ds (put (codes "$type") (string (type_name tb k)) no_members) =
    ap (in_order tb) c.as_slice-3.ensures.value ∙ c.in_ok-members-2.ensures tb ∙ ap (λ (ms : List (Member Content)). put_all tb ms no_members) c.as_slice-2.ensures.value ∙ c.in_ok-members.ensures tb
    ∙ ap₂ (λ es name. with_values es ds (put (codes "$type") (string name) no_members)) entries c.type_name-name.ensures in
    subst (λ (ms : Members). OnOk c.write_object.result (c.write_object.new.out.tokens ≡ c.args.out.now.tokens ++ tokens_of (object ms))) is c.write_object.ensures.tokens

pub write_value-write_items-requires : goal.write_value-write_items-requires
write_value-write_items-requires t c =
    let tb = c.args.table.now in
    let vs = c.as_slice-in-Items.result.now in
    let is : json_of_value tb (plain c.args.value.now) ≡ array (items_of (map (json_of_value tb) (map plain vs))) =
    json_items tb c.args.value.now c.in-Items.items c.in-Items.is ∙ ap (λ (xs : List Value). array (items_of (map (json_of_value tb) (map plain xs)))) (sym c.as_slice-in-Items.ensures.value) in
    let as_many : length (tokens_of (json_of_value tb (plain c.args.value.now))) ≡ length (tokens_of (array (items_of (map (json_of_value tb) (map plain vs))))) = ap (λ (d : Data). length (tokens_of d)) is in
    let smaller : 4 * length (tokens_of (array (items_of (map (json_of_value tb) (map plain vs))))) < t = omega (arith, as_many, c.decreases) in
    (smaller, subst IsSound is c.requires)

pub write_value-returns-in-Items-clause-tokens : goal.write_value-returns-in-Items-clause-tokens
write_value-returns-in-Items-clause-tokens t c =
    let tb = c.args.table.now in
    subst (λ (d : Data). OnOk c.write_items.result (c.write_items.new.out.tokens ≡ c.args.out.now.tokens ++ tokens_of d))
    (ap (λ (xs : List Value). array (items_of (map (json_of_value tb) (map plain xs)))) c.as_slice-in-Items.ensures.value ∙ sym (json_items tb c.args.value.now c.in-Items.items c.in-Items.is)) c.write_items.ensures.tokens

pub write_value-write_fields-requires : goal.write_value-write_fields-requires
write_value-write_fields-requires t c =
    let tb = c.args.table.now in
    let k = c.in-Fields.container in
    let vs = c.as_slice-in-Fields.result.now in
    let is : json_of_value tb (plain c.args.value.now) ≡ fields_data (type_name tb k.0) (entries_along tb k.0) (map (json_of_value tb) (map plain vs)) =
    json_fields tb c.args.value.now k c.in-Fields.values c.in-Fields.is ∙ ap (λ (xs : List Value). fields_data (type_name tb k.0) (entries_along tb k.0) (map (json_of_value tb) (map plain xs))) (sym c.as_slice-in-Fields.ensures.value) in
    let as_many : length (tokens_of (json_of_value tb (plain c.args.value.now))) ≡ length (tokens_of (fields_data (type_name tb k.0) (entries_along tb k.0) (map (json_of_value tb) (map plain vs)))) = ap (λ (d : Data). length (tokens_of d)) is in
    let smaller : 4 * length (tokens_of (fields_data (type_name tb k.0) (entries_along tb k.0) (map (json_of_value tb) (map plain vs)))) + 1 < t = omega (arith, as_many, c.decreases) in
    (smaller, subst IsSound is c.requires)

pub write_value-returns-in-Fields-clause-tokens : goal.write_value-returns-in-Fields-clause-tokens
write_value-returns-in-Fields-clause-tokens t c =
    let tb = c.args.table.now in
    let k = c.in-Fields.container in
    subst (λ (d : Data). OnOk c.write_fields.result (c.write_fields.new.out.tokens ≡ c.args.out.now.tokens ++ tokens_of d))
    (ap (λ (xs : List Value). fields_data (type_name tb k.0) (entries_along tb k.0) (map (json_of_value tb) (map plain xs))) c.as_slice-in-Fields.ensures.value ∙ sym (json_fields tb c.args.value.now k c.in-Fields.values c.in-Fields.is)) c.write_fields.ensures.tokens
