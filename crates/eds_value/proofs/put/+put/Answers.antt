use Rattle.std.proofs.Common.{◌≡◌, ◌+◌, ◌-◌, ◌*◌, ◌<◌, List, ℕ, ◌++◌, All, length, map, nat_lt, rules, sym, ap, subst, ◌∙◌, arith}
use Rattle.std.specs.Prelude.{OnOk}
use Rattle.std.proofs.lemmas.Bool.{le-ltb, lt-ltb}
use Rattle.std.proofs.lemmas.List.{length-map}
use Rattle.std.proofs.lemmas.List.Elements.{All-get_or, All-same}
use Rattle.serde_json.specs.Data.{Data, array}
use Rattle.serde_json.specs.View.{items_of}
use Rattle.serde_json.specs.Written.{compact_text}
use Rattle.eds_types.specs.declared.value.Value.{Value}
use Rattle.eds_types.specs.Plain.{items, plain, plains_of}
use Rattle.eds_value.specs.declared.layout.Piece.{Piece}
use Rattle.eds_value.specs.Entries.{entries_along}
use Rattle.eds_value.specs.Held.{AreHeld}
use Rattle.eds_value.specs.JsonOfValue.{fields_data, json_of_value, type_name}
use Rattle.eds_value.proofs.Plains.{json_fields, json_items}
use Rattle.eds_value.proofs.Pushed.{all_items, all_pieces, held_at, item_first, no_items, no_pieces, piece_first, plain_items, size, size_at, sizes, value_at}
use Rattle.eds_value.proofs.put.+put.Goals as goal

pub put_items-put_value-requires : goal.put_items-put_value-requires
put_items-put_value-requires t c =
    let vs = c.args.values.now in
    let i = c.loop-at.at - 1 in
    let v = c.index-values-at.result in
    let lt : i < length vs = omega (arith, c.loop-at.invariant.within) in
    let size_is = size_at vs i v lt c.index-values-at.is in
    let smaller : 2 * size (plain v) < t = omega (arith, size_is, c.decreases) in
    (smaller, held_at vs i v lt c.index-values-at.is c.requires)

pub put_items-loop-at-init : goal.put_items-loop-at-init
put_items-loop-at-init t c =
    let vs = c.args.values.now in
    record { within = omega arith; text = no_items c.args.layouts.now (nat_lt 0 (length vs)) vs (length vs) c.args.line.now c.put_text.new.self (omega arith) c.in_ok-put_text.ensures }

pub put_items-loop-at-preserved : goal.put_items-loop-at-preserved
put_items-loop-at-preserved t c =
    let vs = c.args.values.now in
    let i = c.loop-at.at - 1 in
    let lt : i < length vs = omega (arith, c.loop-at.invariant.within) in
    record {
      within = omega arith;
      text = item_first c.args.layouts.now (nat_lt 0 i) (nat_lt 0 c.loop-at.at) vs i c.loop-at.at c.index-values-at.result c.args.line.now c.loop-at.line c.put_value.new.line c.put_comma.new.self lt (omega arith) (lt-ltb 0 c.loop-at.at (omega arith)) c.index-values-at.is c.loop-at.invariant.text c.in_ok-put_value.ensures c.in_ok-put_comma.ensures;
    }

pub put_items-returns : goal.put_items-returns
put_items-returns t c =
    all_items c.args.layouts.now (nat_lt 0 c.loop-at.at) c.args.values.now c.loop-at.at c.args.line.now c.loop-at.line c.put_text-2.new.self (omega arith) (le-ltb 0 c.loop-at.at (omega arith)) c.loop-at.invariant.text c.in_ok-put_text-2.ensures

pub put_fields-put_value-requires : goal.put_fields-put_value-requires
put_fields-put_value-requires t c =
    let vs = c.args.values.now in
    let v = c.index-values-piece.result in
    let ps = c.as_slice-pieces.result.now in
    let p = c.index-pieces-at.result in
    let P : Piece → Type 0 = λ (p : Piece). p.position < length vs in
    let within : All P ps = All-same P ps c.args.layout.now.pieces.items c.as_slice-pieces.ensures.value c.requires.within in
    let lt : p.position < length vs = subst P (sym c.index-pieces-at.is) (All-get_or P ps (c.loop-at.at - 1) p (omega (arith, c.loop-at.invariant.within)) within) in
    let size_is = size_at vs p.position v lt c.index-values-piece.is in
    let smaller : 2 * size (plain v) < t = omega (arith, size_is, c.decreases) in
    (smaller, held_at vs p.position v lt c.index-values-piece.is c.requires.held)

pub put_fields-loop-at-init : goal.put_fields-loop-at-init
put_fields-loop-at-init t c =
    let ds = map (json_of_value c.args.layouts.now) (map plain c.args.values.now) in
    let ps = c.as_slice-pieces.result.now in
    let end : c.put_padded.new.self ≡ c.args.layout.now.end ++ c.args.line.now = search rules in
    record { within = omega arith; text = no_pieces ds ps (length ps) c.args.layout.now.end c.args.line.now c.put_padded.new.self (omega arith) end }

pub put_fields-loop-at-preserved : goal.put_fields-loop-at-preserved
put_fields-loop-at-preserved t c =
    let tb = c.args.layouts.now in
    let vs = c.args.values.now in
    let ds = map (json_of_value tb) (map plain vs) in
    let v = c.index-values-piece.result in
    let ps = c.as_slice-pieces.result.now in
    let i = c.loop-at.at - 1 in
    let p = c.index-pieces-at.result in
    let P : Piece → Type 0 = λ (p : Piece). p.position < length vs in
    let few : i < length ps = omega (arith, c.loop-at.invariant.within) in
    let within : All P ps = All-same P ps c.args.layout.now.pieces.items c.as_slice-pieces.ensures.value c.requires.within in
    let lt : p.position < length vs = subst P (sym c.index-pieces-at.is) (All-get_or P ps i p few within) in
    record {
      within = omega arith;
      text = piece_first ds ps i c.loop-at.at p (json_of_value tb (plain v)) c.args.layout.now.end c.args.line.now c.loop-at.line c.put_value.new.line c.put_padded-in-loop-at.new.self few (omega arith) c.index-pieces-at.is (value_at tb vs p.position v lt c.index-values-piece.is) c.loop-at.invariant.text c.in_ok-put_value.ensures c.in_ok-put_padded-2.ensures;
    }

pub put_fields-returns : goal.put_fields-returns
put_fields-returns t c =
    let ds = map (json_of_value c.args.layouts.now) (map plain c.args.values.now) in
    all_pieces ds c.as_slice-pieces.result.now c.args.layout.now.pieces.items c.loop-at.at c.args.layout.now.end c.args.line.now c.loop-at.line (omega arith) c.as_slice-pieces.ensures.value c.loop-at.invariant.text

pub put_value-put_items-requires : goal.put_value-put_items-requires
put_value-put_items-requires t c =
    let vs = c.as_slice-in-Items.result.now in
    let is = plain_items c.args.value.now c.in-Items.items vs c.in-Items.is c.as_slice-in-Items.ensures.value in
    let as_much : size (plain c.args.value.now) ≡ size (items (plains_of (map plain vs))) = ap size is in
    let smaller : 2 * sizes (plains_of (map plain vs)) + 1 < t = omega (arith, as_much, c.decreases) in
    (smaller, subst AreHeld is c.requires)

pub put_value-returns-in-Items : goal.put_value-returns-in-Items
put_value-returns-in-Items t c =
    let tb = c.args.layouts.now in
    let vs = c.as_slice-in-Items.result.now in
    subst (λ (d : Data). OnOk c.put_items.result (c.put_items.new.line ≡ compact_text d ++ c.args.line.now))
    (ap (λ (xs : List Value). array (items_of (map (json_of_value tb) (map plain xs)))) c.as_slice-in-Items.ensures.value ∙ sym (json_items tb c.args.value.now c.in-Items.items c.in-Items.is)) c.put_items.ensures

pub put_value-returns-in-Some : goal.put_value-returns-in-Some
put_value-returns-in-Some t c =
    let tb = c.args.layouts.now in
    let k = c.in-Fields.container in
    let vs = c.as_slice-in-Some.result.now in
    let ds = map (json_of_value tb) (map plain vs) in
    let long : length ds ≡ c.in-Some.layout.now.count = omega (arith, length-map vs plain, length-map (map plain vs) (json_of_value tb), c.in-Some.ensures.count, c.len.ensures, c.as_slice-in-Some.ensures.len) in
    let fields_are : fields_data (type_name tb k.0) (entries_along tb k.0) ds ≡ json_of_value tb (plain c.args.value.now) =
    ap (λ (xs : List Value). fields_data (type_name tb k.0) (entries_along tb k.0) (map (json_of_value tb) (map plain xs))) c.as_slice-in-Some.ensures.value ∙ sym (json_fields tb c.args.value.now k c.in-Fields.values c.in-Fields.is) in
    subst (λ (s : List ℕ). OnOk c.put_fields.result (c.put_fields.new.line ≡ s ++ c.args.line.now)) (c.in-Some.ensures.layout.text ds long ∙ ap compact_text fields_are) c.put_fields.ensures
