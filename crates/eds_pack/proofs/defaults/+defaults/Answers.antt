use Rattle.std.proofs.Common.{◌≡◌, true, false, ◌-◌, ◌*◌, ◌<◌, ◌≤◌, [], ◌∷◌, ◌++◌, Some, length, get_or, map, replicate, refl, sym, ap, subst, ◌∙◌, arith}
use Rattle.std.proofs.lemmas.List.{map-append}
use Rattle.std.specs.Prelude.{option_map}
use Rattle.std.specs.List.{flat_map}
use Rattle.eds_bits.specs.Style.{canonical}
use Rattle.eds_types.specs.Fields.{constraints_along, type_by, part_at}
use Rattle.eds_types.specs.Laws.{IsThere}
use Rattle.eds_types.specs.Plain.{plain, items, plains_of}
use Rattle.eds_types.specs.Rows.{address, constraints_of, sequence, chain, numbers_of}
use Rattle.eds_types.specs.Spelling.{SpellsWithin}
use Rattle.eds_pack.specs.Building.{Asked, Built, Chosen, IsFirstLabel, IsLeastLabel, ItemsHold, PartsHold, plain_items}
use Rattle.eds_pack.specs.Defaults.{DefaultsWithin, EntryDefaults, FieldsDefault, ItemsDefault, PartsDefault}
use Rattle.eds_pack.specs.Putting.{FieldsSpell}
use Rattle.eds_types.proofs.Candidates.{numbers_are}
use Rattle.eds_types.proofs.PlainValues.{plain_fields, plain_items as items_plain}
use Rattle.eds_pack.proofs.Builds.{built_least, built_none, built_within, fields_built, fields_none, items_built, items_past}
use Rattle.eds_pack.proofs.ByKinds.{label_kept, items_kept, fields_kept, label_asked, truth_asked, own_asked, none_asked}
use Rattle.eds_pack.proofs.Deeper.{least_bits}
use Rattle.eds_pack.proofs.Entries.{if_ok, if_some, own_nests, entry_free, entry_asked}
use Rattle.eds_pack.proofs.Turns.{part_in, part_stands, few_places, past_places, part_found, entry_nests, turn_goes, turn_stops, turns_end, entry_behind, entry_missing, list_behind, same_part, Behind}
use Rattle.eds_pack.proofs.defaults.+defaults.Goals as goal

-- ---- any type

pub default_within-overflow_sub-depth : goal.default_within-overflow_sub-depth
default_within-overflow_sub-depth t c = let low = c.requires.nests.rank c.keeps_rules.ensures in omega arith

pub default_within-returns-then-before-least-clause-built : goal.default_within-returns-then-before-least-clause-built
default_within-returns-then-before-least-clause-built t c =
    let table = c.args.table.now in let n = c.args.depth in let id = c.args.id.0 in
    let is : IsThere table id = record { rules = c.keeps_rules.ensures; there = c.requires.nests.known } in
    built_none (DefaultsWithin n table id) (SpellsWithin n canonical table id) c.args.left.now c.args.left.now c.min_bits-least.result c.if-before-least.true
    (λ v b s. (let l = least_bits c.least_size.ensures table n id is c.requires.few v b s in omega (arith, l, c.min_bits-least.ensures)))

pub default_within-returns-clause-takes : goal.default_within-returns-clause-takes
default_within-returns-clause-takes t c = if_some c.in_ok-value.value (omega (arith, c.min.ensures, c.if-before-least.false, c.min_bits-least.ensures))

pub default_within-returns-clause-built : goal.default_within-returns-clause-built
default_within-returns-clause-built t c =
    let table = c.args.table.now in let n = c.args.depth in let id = c.args.id.0 in
    let is : IsThere table id = record { rules = c.keeps_rules.ensures; there = c.requires.nests.known } in
    let low = c.requires.nests.rank c.keeps_rules.ensures in
    let o = option_map plain c.in_ok-value.value in
    built_least (DefaultsWithin n table id) (SpellsWithin n canonical table id) c.args.left.now c.default_of_kind.new.left c.min.result c.min_bits-least.result o c.if-before-least.false c.min.ensures
    (λ v b s. (let l = least_bits c.least_size.ensures table n id is c.requires.few v b s in omega (arith, l, c.min_bits-least.ensures)))
    (built_within table n (n - 1) id c.row.result.now (omega (arith, low)) refl c.row.ensures c.args.left.now c.default_of_kind.new.left o c.in_ok-value.ensures)

-- ---- by kind

pub default_of_kind-returns-in-Enum : goal.default_of_kind-returns-in-Enum
default_of_kind-returns-in-Enum t c =
    let D = DefaultsWithin c.args.depth c.args.table.now in let C = SpellsWithin c.args.depth canonical c.args.table.now in
    if_ok _ _ (λ o h. label_kept c.args.table.now D C c.args.id.0 c.args.kind.now c.in-Enum.field-0 c.in-Enum.listing c.in-Enum.is c.args.left.now (option_map plain o) (subst (λ xs. Chosen (IsFirstLabel xs) (option_map plain o)) c.as_slice.ensures h)) c.first_label.result c.first_label.ensures

pub default_of_kind-returns-in-Arr : goal.default_of_kind-returns-in-Arr
default_of_kind-returns-in-Arr t c =
    let D = DefaultsWithin c.args.depth c.args.table.now in let C = SpellsWithin c.args.depth canonical c.args.table.now in
    if_ok _ _ (λ o h. items_kept c.args.table.now D C c.args.id.0 c.args.kind.now c.in-Arr.item c.in-Arr.count c.in-Arr.is c.args.left.now c.default_items.new.left (option_map plain o) h) c.default_items.result c.default_items.ensures

pub default_of_kind-returns-in-Con : goal.default_of_kind-returns-in-Con
default_of_kind-returns-in-Con t c =
    let D = DefaultsWithin c.args.depth c.args.table.now in let C = SpellsWithin c.args.depth canonical c.args.table.now in
    if_ok _ _ (λ o h. fields_kept c.args.table.now D C c.args.id.0 c.args.kind.now c.in-Con.field-0 c.in-Con.is c.args.left.now c.default_fields.new.left (option_map plain o) h) c.default_fields.result c.default_fields.ensures

-- ---- items

pub default_items-returns-then-from-used : goal.default_items-returns-then-from-used
default_items-returns-then-from-used t c =
    let P = DefaultsWithin c.args.depth c.args.table.now c.args.item.0 in let S = SpellsWithin c.args.depth canonical c.args.table.now c.args.item.0 in
    let h : Built P S c.args.left.now c.default_within.new.left (Some (plain c.in-Some.value)) = subst (λ o. Built P S c.args.left.now c.default_within.new.left (option_map plain o)) c.in-Some.is c.in_ok-value.ensures.built in
    items_past P S c.args.count c.args.left.now c.default_within.new.left c.args.left.now (c.from.result * c.from-2.result) (plain c.in-Some.value) h
    (ap (λ x. x * c.from-2.result) c.from.ensures ∙ ap (λ x. (c.args.left.now - c.default_within.new.left) * x) c.from-2.ensures) (omega (arith, c.if-from-used.true, c.from-3.ensures))

pub default_items-returns : goal.default_items-returns
default_items-returns t c =
    let P = DefaultsWithin c.args.depth c.args.table.now c.args.item.0 in let S = SpellsWithin c.args.depth canonical c.args.table.now c.args.item.0 in
    let h : Built P S c.args.left.now c.default_within.new.left (Some (plain c.in-Some.value)) = subst (λ o. Built P S c.args.left.now c.default_within.new.left (option_map plain o)) c.in-Some.is c.in_ok-value.ensures.built in
    let used = c.from.result * c.from-2.result in
    let all : plain _ ≡ items (plains_of (replicate c.args.count (plain c.in-Some.value))) = items_plain c.in_ok-copies.field-0 ∙ ap (λ vs. items (plains_of vs)) c.in_ok-copies.ensures in
    subst (λ w. Built (ItemsDefault c.args.table.now (DefaultsWithin c.args.depth c.args.table.now) c.args.item.0 c.args.count) (ItemsHold S c.args.count) c.args.left.now (c.args.left.now - used) (Some w)) (sym all)
    (items_built P S c.args.count c.args.left.now c.default_within.new.left (c.args.left.now - used) used (plain c.in-Some.value) h
    (ap (λ x. x * c.from-2.result) c.from.ensures ∙ ap (λ x. (c.args.left.now - c.default_within.new.left) * x) c.from-2.ensures) (omega (arith, c.if-from-used.false, c.from-3.ensures)) refl)

-- ---- containers

pub default_fields-returns-in-Some : goal.default_fields-returns-in-Some
default_fields-returns-in-Some t c =
    let table = c.args.table.now in let id = c.args.id.0 in let D = DefaultsWithin c.args.depth table in let C = SpellsWithin c.args.depth canonical table in
    let old = c.args.left.now in let new = c.default_values.new.left in
    let h : Built (PartsDefault table D (constraints_along table id) (sequence table id)) (PartsHold C (sequence table id)) old new (Some (map plain c.in-Some.values.items)) = subst (λ o. Built (PartsDefault table D (constraints_along table id) (sequence table id)) (PartsHold C (sequence table id)) old new (option_map plain_items o)) c.in-Some.is c.in_ok-values.ensures in
    subst (λ w. Built (FieldsDefault table D id) (FieldsSpell table C id) old new (Some w)) (sym (plain_fields c.args.id c.in-Some.values))
    (fields_built table C D id (sym c.is_concrete.ensures ∙ c.if-not-is_concrete.false) old new (map plain c.in-Some.values.items) h)

pub default_fields-returns-in-None : goal.default_fields-returns-in-None
default_fields-returns-in-None t c =
    let table = c.args.table.now in let id = c.args.id.0 in let D = DefaultsWithin c.args.depth table in let C = SpellsWithin c.args.depth canonical table in
    let old = c.args.left.now in let new = c.default_values.new.left in
    fields_none table C D id old new (subst (λ o. Built (PartsDefault table D (constraints_along table id) (sequence table id)) (PartsHold C (sequence table id)) old new (option_map plain_items o)) c.in-None.is c.in_ok-values.ensures)

pub default_values-add_default-requires : goal.default_values-add_default-requires
default_values-add_default-requires t c =
    let table = c.args.table.now in let id = c.args.id.0 in let i = c.loop-place.place-index in let parts = sequence table id in let places = c.as_slice-place-items.result.now in
    let all : places ≡ map address parts = c.as_slice-place-items.ensures ∙ c.in_ok-places.ensures in
    let lt : i < length parts = few_places parts i places all (omega arith) in
    let stands : get_or places i (record { 0 = 0 }, 0) ≡ address (part_in parts i) = ap (λ xs. get_or xs i (record { 0 = 0 }, 0)) all ∙ part_stands parts i (record { 0 = 0 }, 0) lt in
    (omega arith, ((λ name x e. entry_nests table c.keeps_rules.ensures c.args.depth id i c.requires.low lt name x (ap (part_at table) (sym stands) ∙ e)), c.requires.few))

pub default_values-loop-place-preserved : goal.default_values-loop-place-preserved
default_values-loop-place-preserved t c =
    let table = c.args.table.now in let id = c.args.id.0 in let i = c.loop-place.place-index in let parts = sequence table id in let places = c.as_slice-place-items.result.now in
    let D = DefaultsWithin c.args.depth table in let C = SpellsWithin c.args.depth canonical table in
    let all : places ≡ map address parts = c.as_slice-place-items.ensures ∙ c.in_ok-places.ensures in
    let lt : i < length parts = few_places parts i places all (omega arith) in
    let stands : get_or places i (record { 0 = 0 }, 0) ≡ address (part_in parts i) = ap (λ xs. get_or xs i (record { 0 = 0 }, 0)) all ∙ part_stands parts i (record { 0 = 0 }, 0) lt in
    let ids : numbers_of c.as_slice.result.now ≡ chain table id = numbers_are c.as_slice.result.now (chain table id) (c.as_slice.ensures.value ∙ c.chain_of-chain.ensures) in
    let f = map plain c.loop-place.values.items in let g = map plain c.add_default.new.values.items in
    let done = subst (λ x. Behind table D C (flat_map (constraints_of table) (numbers_of c.as_slice.result.now)) (part_in parts i) c.loop-place.left c.add_default.new.left f g x) c.if-not-branch.false (c.in_ok-add_default.ensures (part_in parts i) (sym stands) (ap (part_at table) stands ∙ part_found table id i lt)) in
    turn_goes table D C (constraints_along table id) parts i c.args.left.now c.loop-place.left c.add_default.new.left f g lt c.loop-place.invariant
    (subst (λ ks. Behind table D C (flat_map (constraints_of table) ks) (part_in parts i) c.loop-place.left c.add_default.new.left f g true) ids done)

pub default_values-returns-then-not-branch : goal.default_values-returns-then-not-branch
default_values-returns-then-not-branch t c =
    let table = c.args.table.now in let id = c.args.id.0 in let i = c.loop-place.place-index in let parts = sequence table id in let places = c.as_slice-place-items.result.now in
    let D = DefaultsWithin c.args.depth table in let C = SpellsWithin c.args.depth canonical table in
    let all : places ≡ map address parts = c.as_slice-place-items.ensures ∙ c.in_ok-places.ensures in
    let lt : i < length parts = few_places parts i places all (omega arith) in
    let stands : get_or places i (record { 0 = 0 }, 0) ≡ address (part_in parts i) = ap (λ xs. get_or xs i (record { 0 = 0 }, 0)) all ∙ part_stands parts i (record { 0 = 0 }, 0) lt in
    let ids : numbers_of c.as_slice.result.now ≡ chain table id = numbers_are c.as_slice.result.now (chain table id) (c.as_slice.ensures.value ∙ c.chain_of-chain.ensures) in
    let f = map plain c.loop-place.values.items in let g = map plain c.add_default.new.values.items in
    let done = subst (λ x. Behind table D C (flat_map (constraints_of table) (numbers_of c.as_slice.result.now)) (part_in parts i) c.loop-place.left c.add_default.new.left f g x) c.if-not-branch.true (c.in_ok-add_default.ensures (part_in parts i) (sym stands) (ap (part_at table) stands ∙ part_found table id i lt)) in
    turn_stops table D C (constraints_along table id) parts i c.args.left.now c.loop-place.left c.add_default.new.left c.args.left.now f g lt c.loop-place.invariant
    (subst (λ ks. Behind table D C (flat_map (constraints_of table) ks) (part_in parts i) c.loop-place.left c.add_default.new.left f g false) ids done)

pub default_values-returns : goal.default_values-returns
default_values-returns t c =
    let table = c.args.table.now in let id = c.args.id.0 in let D = DefaultsWithin c.args.depth table in let C = SpellsWithin c.args.depth canonical table in
    let past : length (sequence table id) ≤ c.loop-place.place-index = past_places (sequence table id) c.loop-place.place-index c.as_slice-place-items.result.now (c.as_slice-place-items.ensures ∙ c.in_ok-places.ensures) (omega arith) in
    turns_end table D C (constraints_along table id) (sequence table id) c.loop-place.place-index c.args.left.now c.loop-place.left (map plain c.loop-place.values.items) past c.loop-place.invariant

-- ---- parts

pub add_default-default_entry-requires : goal.add_default-default_entry-requires
add_default-default_entry-requires t c =
    let at : part_at c.args.table.now c.args.place ≡ Some _ = sym c.in-Some.ensures ∙ ap Some c.in-Plain.is in
    (omega arith, (c.requires.nests c.in-Plain.field-0 c.in-Plain.id at, (c.requires.few, ap type_by at)))

pub add_default-returns-in_ok-push-in-Some-2 : goal.add_default-returns-in_ok-push-in-Some-2
add_default-returns-in_ok-push-in-Some-2 t c p is there =
    let table = c.args.table.now in let D = DefaultsWithin c.args.depth table in let C = SpellsWithin c.args.depth canonical table in
    let cs = flat_map (constraints_of table) (numbers_of c.args.chain.now) in
    let at : part_at c.args.table.now c.args.place ≡ Some _ = sym c.in-Some.ensures ∙ ap Some c.in-Plain.is in
    entry_behind table D C cs p c.in-Plain.field-0 c.in-Plain.id (same_part table p _ c.args.place there at) c.args.left.now c.default_entry.new.left (map plain c.args.values.now.items) (map plain c.push.new.self.items) (plain c.in-Some-2.value) (ap (map plain) c.in_ok-push-in-Some-2.ensures.items ∙ map-append plain c.args.values.now.items (c.in-Some-2.value ∷ []))
    (subst (λ o. Built (EntryDefaults table D cs p c.in-Plain.id.0) (C c.in-Plain.id.0) c.args.left.now c.default_entry.new.left (option_map plain o)) c.in-Some-2.is (c.in_ok-value-in-Plain.ensures p is))

pub add_default-returns-in-None-2 : goal.add_default-returns-in-None-2
add_default-returns-in-None-2 t c p is there =
    let table = c.args.table.now in let D = DefaultsWithin c.args.depth table in let C = SpellsWithin c.args.depth canonical table in
    let cs = flat_map (constraints_of table) (numbers_of c.args.chain.now) in
    let at : part_at c.args.table.now c.args.place ≡ Some _ = sym c.in-Some.ensures ∙ ap Some c.in-Plain.is in
    entry_missing table D C cs p c.in-Plain.field-0 c.in-Plain.id (same_part table p _ c.args.place there at) c.args.left.now c.default_entry.new.left (map plain c.args.values.now.items) (map plain c.args.values.now.items)
    (subst (λ o. Built (EntryDefaults table D cs p c.in-Plain.id.0) (C c.in-Plain.id.0) c.args.left.now c.default_entry.new.left (option_map plain o)) c.in-None-2.is (c.in_ok-value-in-Plain.ensures p is))

pub add_default-returns-in_ok-push-in-List : goal.add_default-returns-in_ok-push-in-List
add_default-returns-in_ok-push-in-List t c p is there =
    let table = c.args.table.now in let D = DefaultsWithin c.args.depth table in let C = SpellsWithin c.args.depth canonical table in
    let cs = flat_map (constraints_of table) (numbers_of c.args.chain.now) in
    let at : part_at c.args.table.now c.args.place ≡ Some _ = sym c.in-Some.ensures ∙ ap Some c.in-List.is in
    list_behind table D C cs p c.in-List.field-0 c.in-List.field-1 c.in-List.field-2 c.in-List.field-3 (same_part table p _ c.args.place there at) c.args.left.now (map plain c.args.values.now.items) (map plain c.push-in-List.new.self.items)
    (ap (map plain) c.in_ok-push-in-List.ensures.items ∙ map-append plain c.args.values.now.items (_ ∷ []) ∙ ap (λ v. map plain c.args.values.now.items ++ v ∷ []) (items_plain c.new.result ∙ ap (λ vs. items (plains_of (map plain vs))) c.new.ensures.items))

-- ---- entries

pub asked_default-default_within-requires : goal.asked_default-default_within-requires
asked_default-default_within-requires t c =
    (omega arith, (own_nests c.args.table.now c.args.depth c.args.id.0 c.requires.row.0 c.in-Con.field-0 c.requires.row.1 (c.requires.row.2 ∙ c.in-Con.is) c.args.asked.now c.in-Some.own.0 c.requires.nests c.in-Some.ensures, omega (arith, c.requires.few)))

pub asked_default-returns-in-Enum : goal.asked_default-returns-in-Enum
asked_default-returns-in-Enum t c =
    let D = DefaultsWithin c.args.depth c.args.table.now in let C = SpellsWithin c.args.depth canonical c.args.table.now in
    if_ok _ _ (λ o h. label_asked c.args.table.now D C c.args.id.0 c.args.kind.now (C c.args.id.0) c.args.asked.now c.in-Enum.field-0 c.in-Enum.listing c.in-Enum.is c.args.left.now (option_map plain o) (subst (λ xs. Chosen (IsLeastLabel xs c.args.asked.now) (option_map plain o)) c.as_slice.ensures h)) c.least_label.result c.least_label.ensures

pub asked_default-returns-in-Bool : goal.asked_default-returns-in-Bool
asked_default-returns-in-Bool t c =
    let D = DefaultsWithin c.args.depth c.args.table.now in let C = SpellsWithin c.args.depth canonical c.args.table.now in
    truth_asked c.args.table.now D C c.args.id.0 c.args.kind.now (C c.args.id.0) c.args.asked.now c.in-Bool.field-0 c.in-Bool.is c.args.left.now (option_map plain c.least_truth.result) c.least_truth.ensures

pub asked_default-returns-in-Some : goal.asked_default-returns-in-Some
asked_default-returns-in-Some t c =
    if_ok _ _ (λ o h. own_asked c.args.table.now c.args.depth c.args.id.0 c.args.kind.now c.requires.row.0 c.in-Con.field-0 c.requires.row.1 c.requires.row.2 c.in-Con.is c.args.asked.now c.in-Some.own.0 c.args.left.now c.default_within.new.left (option_map plain o) c.in-Some.ensures h) c.default_within.result c.default_within.ensures.built

pub asked_default-returns-in-None : goal.asked_default-returns-in-None
asked_default-returns-in-None t c = none_asked c.args.table.now c.args.depth c.args.id.0 c.args.kind.now c.requires.row.0 c.in-Con.field-0 c.requires.row.1 c.requires.row.2 c.in-Con.is c.args.asked.now c.args.left.now c.in-None.ensures

pub default_entry-returns-in-None : goal.default_entry-returns-in-None
default_entry-returns-in-None t c p is =
    let table = c.args.table.now in let D = DefaultsWithin c.args.depth table in let C = SpellsWithin c.args.depth canonical table in
    let cs = flat_map (constraints_of table) (numbers_of c.args.chain.now) in
    if_ok _ _ (λ o h. entry_free table D (C c.args.id.0) cs c.args.place p is c.args.id.0 c.args.left.now c.default_within.new.left (option_map plain o) (subst (Asked cs (c.args.place ∷ [])) c.in-None.is c.in_ok-asked_along.ensures) h) c.default_within.result c.default_within.ensures.built

pub default_entry-returns-in-Some : goal.default_entry-returns-in-Some
default_entry-returns-in-Some t c p is =
    let table = c.args.table.now in let D = DefaultsWithin c.args.depth table in let C = SpellsWithin c.args.depth canonical table in
    let cs = flat_map (constraints_of table) (numbers_of c.args.chain.now) in
    if_ok _ _ (λ o h. entry_asked table D (C c.args.id.0) cs c.args.place p is c.args.id.0 c.args.left.now c.asked_default.new.left (option_map plain o) c.in-Some.asked c.row.result.now c.row.ensures c.requires.at (subst (Asked cs (c.args.place ∷ [])) c.in-Some.is c.in_ok-asked_along.ensures) h) c.asked_default.result c.asked_default.ensures
