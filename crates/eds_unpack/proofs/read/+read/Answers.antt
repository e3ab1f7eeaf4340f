use Rattle.std.proofs.Common.{◌≡◌, ◌∙◌, ◌+◌, ◌-◌, [], ◌∷◌, ◌++◌, length, map, get_or, true, false, refl, ap, ap₂, sym, subst, Ok, Err, Some, rules, arith, drop, length-drop}
use Rattle.std.specs.List.{AllByRecursion, list_all}
use Rattle.std.proofs.lemmas.List.{drop_all, length-take, map-append}
use Rattle.std.proofs.lemmas.Result.{err_from_is_err_and}
use Rattle.eds_base.specs.declared.ids.TypeId.{TypeId}
use Rattle.eds_base.specs.declared.fault.Reason.TheVariants.{LengthDiffers, NoDerived}
use Rattle.eds_base.specs.declared.fault.Step.TheVariants as step
use Rattle.eds_types.specs.Failing.{fault_at}
use Rattle.eds_bits.specs.Reader.{bits_left}
use Rattle.eds_types.specs.Fields.{type_by, field_at}
use Rattle.eds_types.specs.Plain.{plain, fields, plains_of}
use Rattle.eds_types.specs.Reading.{read_kind, read_within, check_all}
use Rattle.eds_types.specs.Rows.{chain, entries_of, numbers_of}
use Rattle.eds_types.specs.Choices.{IsNear}
use Rattle.eds_types.proofs.Candidates.{numbers_are}
use Rattle.eds_types.proofs.PlainValues.{plain_items, plain_fields}
use Rattle.eds_unpack.specs.Courses.{fields_of, progress_of}
use Rattle.eds_unpack.specs.Entries.{IsLow, PartIsRead, LengthIsRead}
use Rattle.eds_unpack.specs.Readers.{Gives, with_path, stop_at}
use Rattle.eds_unpack.proofs.Labels.{kind_listed}
use Rattle.eds_unpack.proofs.Levels.{next_level}
use Rattle.eds_unpack.proofs.OnReads.{value_moves, items_move, pad_moves}
use Rattle.eds_unpack.proofs.Ranks.{all_at, chain_is_low, child_is_low, item_is_read}
use Rattle.eds_unpack.proofs.Reaches.{all_held}
use Rattle.eds_unpack.proofs.SegmentReads.{head_goes, head_straight, parts_behind, straight_behind}
use Rattle.eds_unpack.proofs.Steps.{stops_as, last_low, front_low, near_low, near_most, entries_low, trailers_low, under_way, told_way, begins, is_started, plain_part, list_part, fixed_part, check_part, pad_part, length_part, length_number, items_more, trailers_stop, trailers_go, trailers_done, stay_stops, stay_ends, nowhere_is, under_stops, under_goes, under_ends, chain_refused, chain_fails, chain_stops, end_stops, container_reads}
use Rattle.eds_unpack.specs.Straight.{is_straight_entry}
use Rattle.eds_unpack.proofs.StraightReads.{IsStraightSoFar, part_left, first_type, first_straight, straight_stops, straight_goes, straight_done, straight_ends, straight_fails, entries_straight}
use Rattle.eds_unpack.proofs.read.+read.Goals as goal
use Rattle.eds_unpack.proofs.read.+read.Goals.{read_under-else-loop-test, read_under-then-loop-test+in-Nowhere}

-- ---- values

pub read_value-read_row-requires : goal.read_value-read_row-requires
read_value-read_row-requires t c =
    let low = c.requires.inner.low.low in
    let k : c.args.level.now.depth ≡ c.args.level.now.depth - 1 + 1 = omega arith in
    (omega arith, (subst (λ n. IsLow c.args.level.now.table.now n c.args.id.0) k c.requires.inner.low, (c.row.ensures, (omega arith, c.requires.root))))

pub read_value-returns-clause-gives : goal.read_value-returns-clause-gives
read_value-returns-clause-gives t c =
    let low = c.requires.inner.low.low in
    let same : bits_left c.read_scalar.new.reader ≡ bits_left c.args.reader.now = search rules in
    subst (λ r. Gives (λ v. (plain v, bits_left c.read_row.new.reader)) (with_path c.read_row.new.path c.read_row.result) r) (sym (next_level c.args.level.now.depth c.args.level.now.table.now c.args.id.0 c.row.result.now (bits_left c.args.reader.now) (λ z. omega arith) c.row.ensures))
    (subst (λ b. Gives (λ v. (plain v, bits_left c.read_row.new.reader)) (with_path c.read_row.new.path c.read_row.result) (read_kind c.args.level.now.table.now (read_within (c.args.level.now.depth - 1) c.args.level.now.table.now) c.args.id.0 c.row.result.now.kind b)) same c.read_row.ensures.gives)

pub read_row-read_label-requires : goal.read_row-read_label-requires
read_row-read_label-requires t c = kind_listed c.args.row.now.kind c.in-Enum.form c.in-Enum.listing c.in-Enum.is (c.keeps_rules.ensures.kinds c.args.id.0 c.args.row.now c.requires.known)

pub read_row-read_items-requires : goal.read_row-read_items-requires
read_row-read_items-requires t c = (omega arith, (item_is_read c.args.level.now.table.now c.requires.inner.rules c.args.level.now.depth c.args.id.0 c.requires.inner.low c.args.row.now c.in-Arr.item c.in-Arr.count c.requires.known c.in-Arr.is, (c.requires.few, c.requires.root)))

-- ---- items

pub read_items-loop-id-preserved : goal.read_items-loop-id-preserved
read_items-loop-id-preserved t c =
    let k : c.in_ok-place.place ≡ c.loop-id.place + 1 = search rules in
    record {
      root = c.in-Ok.ensures.calm;
      read = items_more (read_within c.args.level.now.depth c.args.level.now.table.now c.args.id.0) c.args.count c.loop-id.place c.in_ok-place.place (map plain c.loop-id.values.items) (map plain c.push.new.self.items) (bits_left c.loop-id.reader) (plain c.in-Ok.value) (bits_left c.read_value.new.reader) _
          (ap (map plain) c.in_ok-push-in-Ok.ensures.items ∙ map-append plain c.loop-id.values.items (c.in-Ok.value ∷ [])) k (omega (arith, c.from.ensures, c.loop-id-test.true)) c.in-Ok.ensures.gives c.loop-id.invariant.read;
    }

-- ---- parts

pub read_part-read_value-requires : goal.read_part-read_value-requires
read_part-read_value-requires t c = (omega arith, (c.requires.inner.inner c.in-Plain.id.0 (ap (λ p. type_by (Some p)) c.in-Plain.is), (omega arith, c.requires.root)))

pub read_part-read_value-requires-in-Fixed : goal.read_part-read_value-requires-in-Fixed
read_part-read_value-requires-in-Fixed t c = (omega arith, (c.requires.inner.inner c.in-Fixed.id.0 (ap (λ p. type_by (Some p)) c.in-Fixed.is), (omega arith, c.requires.root)))

pub read_part-read_items-requires : goal.read_part-read_items-requires
read_part-read_items-requires t c = (omega arith, (c.requires.inner.inner c.in-List.id.0 (ap (λ p. type_by (Some p)) c.in-List.is), (c.requires.few, c.requires.root)))

pub read_part-read_value-requires-in-Length : goal.read_part-read_value-requires-in-Length
read_part-read_value-requires-in-Length t c = (omega arith, (c.requires.inner.inner c.in-Length.id.0 (ap (λ p. type_by (Some p)) c.in-Length.is), (omega arith, c.requires.root)))

pub read_part-read_value-requires-in-Check : goal.read_part-read_value-requires-in-Check
read_part-read_value-requires-in-Check t c = (omega arith, (c.requires.inner.inner c.in-Check.id.0 (ap (λ p. type_by (Some p)) c.in-Check.is), (omega arith, c.requires.root)))

pub read_part-returns-in_ok-keep_field-in-Plain-clause-gives : goal.read_part-returns-in_ok-keep_field-in-Plain-clause-gives
read_part-returns-in_ok-keep_field-in-Plain-clause-gives t c =
    let on = value_moves c.args.level.now.depth c.args.level.now.table.now c.in-Plain.id.0 (bits_left c.args.reader.now) (plain c.in_ok-value-in-Plain.value) (bits_left c.read_value.new.reader) c.in_ok-value-in-Plain.ensures.gives in
    plain_part c.args.level.now.table.now (read_within c.args.level.now.depth c.args.level.now.table.now) c.args.reached.now c.args.container.0 c.args.place c.args.part.now (bits_left c.args.reader.now) (bits_left c.read_value.new.reader) c.requires.begun.begun on c.keep_field.new.reached c.in-Plain.field-0 c.in-Plain.id (plain c.in_ok-value-in-Plain.value) c.in-Plain.is c.in_ok-value-in-Plain.ensures.gives c.in_ok-keep_field-in-Plain.ensures.fields c.keep_field.ensures.octets c.keep_field.ensures.start

pub read_part-returns-in_ok-keep_field-in-Plain-clause-begun : goal.read_part-returns-in_ok-keep_field-in-Plain-clause-begun
read_part-returns-in_ok-keep_field-in-Plain-clause-begun t c =
    let on = value_moves c.args.level.now.depth c.args.level.now.table.now c.in-Plain.id.0 (bits_left c.args.reader.now) (plain c.in_ok-value-in-Plain.value) (bits_left c.read_value.new.reader) c.in_ok-value-in-Plain.ensures.gives in
    under_way c.args.reached.now c.keep_field.new.reached (bits_left c.args.reader.now) (bits_left c.read_value.new.reader) c.requires.begun c.in_ok-keep_field-in-Plain.ensures.held on c.keep_field.ensures.octets c.keep_field.ensures.start

pub read_part-returns-in_ok-keep_field-in-List-clause-gives : goal.read_part-returns-in_ok-keep_field-in-List-clause-gives
read_part-returns-in_ok-keep_field-in-List-clause-gives t c =
    let on = items_move c.args.level.now.depth c.args.level.now.table.now c.in-List.id.0 c.count_at-count.result (bits_left c.args.reader.now) (map plain c.in_ok-items-in-List.items.items) (bits_left c.read_items.new.reader) c.in_ok-items-in-List.ensures.gives in
    list_part c.args.level.now.table.now (read_within c.args.level.now.depth c.args.level.now.table.now) c.args.reached.now c.args.container.0 c.args.place c.args.part.now (bits_left c.args.reader.now) (bits_left c.read_items.new.reader) c.requires.begun.begun on c.keep_field-in-List.new.reached c.in-List.field-0 c.in-List.id c.in-List.teller c.in-List.told c.count_at-count.result (map plain c.in_ok-items-in-List.items.items) c.in-List.is
    c.count_at-count.ensures
    c.in_ok-items-in-List.ensures.gives
    (c.in_ok-keep_field-in-List.ensures.fields ∙ ap (λ v. fields_of c.args.reached.now.fields ++ field_at c.args.container.0 c.args.place v ∷ []) (plain_items c.in_ok-items-in-List.items)) c.keep_field-in-List.ensures.octets c.keep_field-in-List.ensures.start

pub read_part-returns-in_ok-keep_field-in-List-clause-begun : goal.read_part-returns-in_ok-keep_field-in-List-clause-begun
read_part-returns-in_ok-keep_field-in-List-clause-begun t c =
    let on = items_move c.args.level.now.depth c.args.level.now.table.now c.in-List.id.0 c.count_at-count.result (bits_left c.args.reader.now) (map plain c.in_ok-items-in-List.items.items) (bits_left c.read_items.new.reader) c.in_ok-items-in-List.ensures.gives in
    under_way c.args.reached.now c.keep_field-in-List.new.reached (bits_left c.args.reader.now) (bits_left c.read_items.new.reader) c.requires.begun c.in_ok-keep_field-in-List.ensures.held on c.keep_field-in-List.ensures.octets c.keep_field-in-List.ensures.start

-- ---- containers that are read straight

pub read_straight-behind-rest-requires : goal.read_straight-behind-rest-requires
read_straight-behind-rest-requires t c =
    let few = c.in_ok-first.ensures.few in
    omega (arith, few, c.from.ensures, ap length c.entries_of-entries.ensures.value)

pub read_straight-loop-part-init : goal.read_straight-loop-part-init
read_straight-loop-part-init t c =
    let rest : c.behind-rest.result.now ≡ drop c.in_ok-first.first (entries_of c.args.level.now.table.now c.args.container.0) = c.behind-rest.ensures ∙ ap₂ (λ k ps. drop k ps) c.from.ensures c.entries_of-entries.ensures.value in
    let few = c.in_ok-first.ensures.few in
    record {
      root = c.requires.root;
      inner = subst (AllByRecursion (PartIsRead c.args.level.now.table.now c.args.level.now.depth)) (sym rest) (parts_behind (PartIsRead c.args.level.now.table.now c.args.level.now.depth) c.in_ok-first.first (entries_of c.args.level.now.table.now c.args.container.0) (entries_low c.args.level.now.table.now c.args.level.now.depth c.args.container.0 c.requires.inner));
      straight = ap (list_all (is_straight_entry c.args.level.now.table.now)) rest ∙ straight_behind c.args.level.now.table.now c.in_ok-first.first (entries_of c.args.level.now.table.now c.args.container.0) (entries_straight c.args.level.now.table.now c.args.container.0 c.requires.straight);
      few = omega (arith, few, ap length rest, length-drop c.in_ok-first.first (entries_of c.args.level.now.table.now c.args.container.0), ap length c.entries_of-entries.ensures.value, c.entries_of-entries.ensures.few);
      read = head_straight c.args.level.now.table.now c.args.level.now.depth c.args.container.0 c.in_ok-first.first (bits_left c.args.reader.now) (bits_left c.put_head.new.reader) c.behind-rest.result.now c.in_ok-values.values.items c.put_head.new.values.items c.in_ok-values.ensures.items c.requires.inner c.in_ok-first.ensures.put rest;
    }

pub read_straight-read_field-requires : goal.read_straight-read_field-requires
read_straight-read_field-requires t c =
    let first = part_left c.behind-rest.result.now c.loop-part.part-index c.part-item.result (omega arith) c.part-item.is in
    let parts = subst (AllByRecursion (PartIsRead c.args.level.now.table.now c.args.level.now.depth)) first c.loop-part.invariant.inner in
    let plain_one = first_straight c.args.level.now.table.now (drop c.loop-part.part-index c.behind-rest.result.now) _ c.part-item.result first c.loop-part.invariant.straight in
    (omega arith, (parts.0.inner c.type_of.result.0 (first_type c.args.level.now.table.now c.part-item.result c.type_of.result.0 plain_one.0 c.type_of.ensures), (c.requires.few, c.loop-part.invariant.root)))

pub read_straight-returns-in_err-value-clause-gives : goal.read_straight-returns-in_err-value-clause-gives
read_straight-returns-in_err-value-clause-gives t c =
    let p = err_from_is_err_and c.from_residual-in_err-value.result c.from_residual-in_err-value.ensures.1 in
    let first = part_left c.behind-rest.result.now c.loop-part.part-index c.part-item.result (omega arith) c.part-item.is in
    let plain_one = first_straight c.args.level.now.table.now (drop c.loop-part.part-index c.behind-rest.result.now) _ c.part-item.result first c.loop-part.invariant.straight in
    let so = subst (λ ps. IsStraightSoFar c.args.level.now.table.now (read_within c.args.level.now.depth c.args.level.now.table.now) c.args.container.0 (bits_left c.args.reader.now) c.loop-part.place ps (map plain c.loop-part.values.items) (bits_left c.loop-part.reader)) first c.loop-part.invariant.read in
    rw (p.1, p.2) (straight_fails c.args.level.now.table.now c.args.container.0 c.requires.straight (read_within c.args.level.now.depth c.args.level.now.table.now) (bits_left c.args.reader.now) _
    (straight_stops c.args.level.now.table.now (read_within c.args.level.now.depth c.args.level.now.table.now) c.args.container.0 (bits_left c.args.reader.now) c.loop-part.place c.part-item.result _ _ _ so c.type_of.result.0 plain_one.0 (first_type c.args.level.now.table.now c.part-item.result c.type_of.result.0 plain_one.0 c.type_of.ensures) _ c.in_err-value.ensures.gives))

pub read_straight-loop-part-preserved : goal.read_straight-loop-part-preserved
read_straight-loop-part-preserved t c =
    let first = part_left c.behind-rest.result.now c.loop-part.part-index c.part-item.result (omega arith) c.part-item.is in
    let parts = subst (AllByRecursion (PartIsRead c.args.level.now.table.now c.args.level.now.depth)) first c.loop-part.invariant.inner in
    let plain_one = first_straight c.args.level.now.table.now (drop c.loop-part.part-index c.behind-rest.result.now) _ c.part-item.result first c.loop-part.invariant.straight in
    let so = subst (λ ps. IsStraightSoFar c.args.level.now.table.now (read_within c.args.level.now.depth c.args.level.now.table.now) c.args.container.0 (bits_left c.args.reader.now) c.loop-part.place ps (map plain c.loop-part.values.items) (bits_left c.loop-part.reader)) first c.loop-part.invariant.read in
    record {
      root = c.in_ok-value.ensures.calm;
      inner = parts.1;
      straight = plain_one.1;
      few = omega (arith, c.loop-part.invariant.few);
      read = straight_goes c.args.level.now.table.now (read_within c.args.level.now.depth c.args.level.now.table.now) c.args.container.0 (bits_left c.args.reader.now) c.loop-part.place c.part-item.result _ (map plain c.loop-part.values.items) (bits_left c.loop-part.reader) so c.type_of.result.0 plain_one.0 (first_type c.args.level.now.table.now c.part-item.result c.type_of.result.0 plain_one.0 c.type_of.ensures) (plain c.in_ok-value.value) (map plain c.push.new.self.items) (bits_left c.read_field.new.reader)
          (ap (map plain) c.in_ok-push.ensures.items ∙ map-append plain c.loop-part.values.items (c.in_ok-value.value ∷ [])) c.in_ok-value.ensures.gives;
    }

pub read_straight-returns-clause-gives : goal.read_straight-returns-clause-gives
read_straight-returns-clause-gives t c =
    let so = c.loop-part.invariant.read in
    straight_ends c.args.level.now.table.now c.args.container.0 c.requires.straight (read_within c.args.level.now.depth c.args.level.now.table.now) (bits_left c.args.reader.now) so.s (bits_left c.loop-part.reader) so.octets
    (straight_done c.args.level.now.table.now (read_within c.args.level.now.depth c.args.level.now.table.now) c.args.container.0 (bits_left c.args.reader.now) c.loop-part.place (drop c.loop-part.part-index c.behind-rest.result.now) (map plain c.loop-part.values.items) (bits_left c.loop-part.reader) so (drop_all c.loop-part.part-index c.behind-rest.result.now (omega arith)))
    ∙ ap (λ us. Ok (fields c.args.container.0 (plains_of us), bits_left c.loop-part.reader)) so.values
    ∙ ap (λ v. Ok (v, bits_left c.loop-part.reader)) (sym (plain_fields c.args.container c.loop-part.values))

-- ---- chains

pub read_chain-check_constraints-requires-clause-near : goal.read_chain-check_constraints-requires-clause-near
read_chain-check_constraints-requires-clause-near t c =
    let low = all_at (λ (id : TypeId). IsLow c.args.level.now.table.now (c.args.level.now.depth + 1) id.0) c.args.chain.now c.loop-id.id-index (record { 0 = 0 }) (omega arith) c.requires.inner in
    subst (AllByRecursion (IsNear 32)) (sym c.constraints_of-constraints.ensures) (near_most c.args.level.now.table.now c.args.level.now.depth (get_or c.args.chain.now c.loop-id.id-index (record { 0 = 0 })).0 c.requires.few low)

pub read_chain-returns-in_err-check_constraints-clause-near : goal.read_chain-returns-in_err-check_constraints-clause-near
read_chain-returns-in_err-check_constraints-clause-near t c =
    let low = all_at (λ (id : TypeId). IsLow c.args.level.now.table.now (c.args.level.now.depth + 1) id.0) c.args.chain.now c.loop-id.id-index (record { 0 = 0 }) (omega arith) c.requires.inner in
    let most = c.in_err-check_constraints.ensures.near (c.args.level.now.depth + 1) (subst (AllByRecursion (IsNear (c.args.level.now.depth + 1))) (sym c.constraints_of-constraints.ensures) (near_low c.args.level.now.table.now c.args.level.now.depth (get_or c.args.chain.now c.loop-id.id-index (record { 0 = 0 })).0 low)) in
    omega arith

pub read_chain-read_own-requires : goal.read_chain-read_own-requires
read_chain-read_own-requires t c =
    let low = all_at (λ (id : TypeId). IsLow c.args.level.now.table.now (c.args.level.now.depth + 1) id.0) c.args.chain.now c.loop-id.id-index (record { 0 = 0 }) (omega arith) c.requires.inner in (
      omega arith,
      (low, (c.requires.few, (c.loop-id.invariant.begun, c.in_ok-check_constraints.ensures.calm))),
    )

pub read_chain-returns-in_err-check_constraints-clause-gives : goal.read_chain-returns-in_err-check_constraints-clause-gives
read_chain-returns-in_err-check_constraints-clause-gives t c =
    let p = err_from_is_err_and c.from_residual.result c.from_residual.ensures.1 in
    rw (p.1, p.2) (chain_refused c.args.level.now.table.now (read_within c.args.level.now.depth c.args.level.now.table.now) c.args.chain.now c.loop-id.id-index (record { 0 = 0 }) (progress_of c.loop-id.reached (bits_left c.loop-id.reader)) (bits_left c.loop-id.reader) _ (omega arith) c.loop-id.invariant.read (stop_at c.check_constraints.new.path c.in_err-check_constraints.field-0.0)
    (stops_as (stop_at c.check_constraints.new.path c.in_err-check_constraints.field-0.0) _ _ (ap (λ cs. check_all c.args.level.now.table.now cs (fields_of c.loop-id.reached.fields)) c.constraints_of-constraints.ensures) c.in_err-check_constraints.ensures.gives))

pub read_chain-returns-in_err-read_own-clause-gives : goal.read_chain-returns-in_err-read_own-clause-gives
read_chain-returns-in_err-read_own-clause-gives t c =
    let p = err_from_is_err_and c.from_residual-in_err-read_own.result c.from_residual-in_err-read_own.ensures.1 in
    rw (p.1, p.2) (chain_fails c.args.level.now.table.now (read_within c.args.level.now.depth c.args.level.now.table.now) c.args.chain.now c.loop-id.id-index (record { 0 = 0 }) (progress_of c.loop-id.reached (bits_left c.loop-id.reader)) (bits_left c.loop-id.reader) _ (omega arith) c.loop-id.invariant.read (stop_at c.read_own.new.path c.in_err-read_own.field-0.0)
    (sym (ap (λ cs. check_all c.args.level.now.table.now cs (fields_of c.loop-id.reached.fields)) c.constraints_of-constraints.ensures) ∙ c.in_ok-check_constraints.ensures.gives) c.in_err-read_own.ensures.gives)

pub read_own-behind-rest-requires : goal.read_own-behind-rest-requires
read_own-behind-rest-requires t c =
    let few = c.in_ok-first.ensures.few in
    omega (arith, few, c.from.ensures, ap length c.entries_of-entries.ensures.value)

pub read_own-read_parts-requires : goal.read_own-read_parts-requires
read_own-read_parts-requires t c =
    let rest = c.behind-rest.ensures ∙ ap₂ (λ k ps. drop k ps) c.from.ensures c.entries_of-entries.ensures.value in
    let few = c.in_ok-first.ensures.few in (
      omega arith,
      (
        subst (AllByRecursion (PartIsRead c.args.level.now.table.now c.args.level.now.depth)) (sym rest) (parts_behind (PartIsRead c.args.level.now.table.now c.args.level.now.depth) c.in_ok-first.first (entries_of c.args.level.now.table.now c.args.id.0) (entries_low c.args.level.now.table.now c.args.level.now.depth c.args.id.0 c.requires.inner)),
        (
          omega (arith, few, ap length rest, length-drop c.in_ok-first.first (entries_of c.args.level.now.table.now c.args.id.0), ap length c.entries_of-entries.ensures.value, c.entries_of-entries.ensures.few),
          (c.requires.few, (c.in_ok-first.ensures.begun, c.requires.root)),
        ),
      ),
    )

pub read_own-returns-clause-gives : goal.read_own-returns-clause-gives
read_own-returns-clause-gives t c =
    let rest = c.behind-rest.ensures ∙ ap₂ (λ k ps. drop k ps) c.from.ensures c.entries_of-entries.ensures.value in
    subst (λ r. Gives (λ u. (progress_of c.read_parts.new.reached (bits_left c.read_parts.new.reader), bits_left c.read_parts.new.reader)) (with_path c.read_parts.new.path c.read_parts.result) r)
    (sym (head_goes c.args.level.now.table.now c.args.level.now.depth c.args.id.0 c.in_ok-first.first (progress_of c.args.reached.now (bits_left c.args.reader.now)) (progress_of c.read_head.new.reached (bits_left c.read_head.new.reader)) (bits_left c.args.reader.now) (bits_left c.read_head.new.reader) c.behind-rest.result.now c.requires.inner rest c.in_ok-first.ensures.read))
    c.read_parts.ensures.gives

pub read_trailers-read_parts-requires : goal.read_trailers-read_parts-requires
read_trailers-read_parts-requires t c =
    let low = last_low c.args.level.now.table.now (c.args.level.now.depth + 1) c.loop-rest.rest.now (record { 0 = 0 }) (omega arith) c.loop-rest.invariant.inner in (
      omega arith,
      (
        subst (AllByRecursion (PartIsRead c.args.level.now.table.now c.args.level.now.depth)) (sym c.trailers_of.ensures.value) (trailers_low c.args.level.now.table.now c.args.level.now.depth (get_or c.loop-rest.rest.now (length c.loop-rest.rest.now - 1) (record { 0 = 0 })).0 low),
        (omega (arith, c.entries_of.ensures.few, c.trailers_of.ensures.few), (c.requires.few, (c.loop-rest.invariant.begun, c.loop-rest.invariant.root))),
      ),
    )

pub read_trailers-returns-clause-gives : goal.read_trailers-returns-clause-gives
read_trailers-returns-clause-gives t c = trailers_done c.args.level.now.table.now (read_within c.args.level.now.depth c.args.level.now.table.now) c.loop-rest.rest.now (progress_of c.loop-rest.reached (bits_left c.loop-rest.reader)) (bits_left c.loop-rest.reader) _ c.in_default.len_below c.loop-rest.invariant.read

-- ---- the choice

pub read_under-read_trailers-requires : goal.read_under-read_trailers-requires
read_under-read_trailers-requires t c = (
  omega arith,
  (
    chain_is_low c.args.level.now.table.now c.loop.invariant.low.rules (c.args.level.now.depth + 1) c.loop.at.0 c.as_slice.result.now c.loop.invariant.low.low (c.as_slice.ensures.value ∙ c.chain_of-chain.ensures),
    (omega (arith, ap length c.as_slice.ensures.value, c.as_slice.ensures.few), (c.requires.few, (c.loop.invariant.begun, c.loop.invariant.root))),
  ),
)

pub read_under-put_first-requires : goal.read_under-put_first-requires
read_under-put_first-requires t c = omega (arith, ap length c.loop.invariant.root)

pub read_under-returns-clause-near : goal.read_under-returns-clause-near
read_under-returns-clause-near t c = omega (arith, ap length c.put_first.ensures, ap length c.loop.invariant.root)

-- ---- containers

pub read_container-read_chain-requires : goal.read_container-read_chain-requires
read_container-read_chain-requires t c = (
  omega arith,
  (
    chain_is_low c.args.level.now.table.now c.requires.inner.rules (c.args.level.now.depth + 1) c.args.id.0 c.as_slice.result.now c.requires.inner.low (c.as_slice.ensures.value ∙ c.chain_of-chain.ensures),
    (c.requires.few, (begins c.in_ok-reached.reached (bits_left c.args.reader.now) c.in_ok-reached.ensures.held c.in_ok-reached.ensures.start c.in_ok-reached.ensures.octets, c.requires.root)),
  ),
)

pub read_container-returns-in_err-read_chain-clause-gives : goal.read_container-returns-in_err-read_chain-clause-gives
read_container-returns-in_err-read_chain-clause-gives t c =
    let p = err_from_is_err_and c.from_residual-in_err-read_chain.result c.from_residual-in_err-read_chain.ensures.1 in
    rw (p.1, p.2) (chain_stops c.args.level.now.table.now (read_within c.args.level.now.depth c.args.level.now.table.now) c.args.id.0 (bits_left c.args.reader.now) (numbers_of c.as_slice.result.now) (progress_of c.in_ok-reached.reached (bits_left c.args.reader.now)) (numbers_are c.as_slice.result.now (chain c.args.level.now.table.now c.args.id.0) (c.as_slice.ensures.value ∙ c.chain_of-chain.ensures)) (is_started c.in_ok-reached.reached (bits_left c.args.reader.now) c.in_ok-reached.ensures.fields c.in_ok-reached.ensures.octets c.in_ok-reached.ensures.start) (stop_at c.read_chain.new.path c.in_err-read_chain.field-0.0) c.in_err-read_chain.ensures.gives)

pub read_container-returns-clause-gives : goal.read_container-returns-clause-gives
read_container-returns-clause-gives t c =
    container_reads c.args.level.now.table.now (read_within c.args.level.now.depth c.args.level.now.table.now) c.args.id.0 (bits_left c.args.reader.now) (numbers_of c.as_slice.result.now) (progress_of c.in_ok-reached.reached (bits_left c.args.reader.now)) (numbers_are c.as_slice.result.now (chain c.args.level.now.table.now c.args.id.0) (c.as_slice.ensures.value ∙ c.chain_of-chain.ensures)) (is_started c.in_ok-reached.reached (bits_left c.args.reader.now) c.in_ok-reached.ensures.fields c.in_ok-reached.ensures.octets c.in_ok-reached.ensures.start)
    (progress_of c.read_chain.new.reached (bits_left c.read_chain.new.reader)) (progress_of c.read_under.new.reached (bits_left c.read_under.new.reader)) (bits_left c.read_chain.new.reader) (bits_left c.read_under.new.reader) c.in_ok-found.found.0 c.in_ok-read_chain.ensures.gives c.in_ok-found.ensures.gives
    ∙ ap (λ vs. Ok (fields c.in_ok-found.found.0 (plains_of vs), bits_left c.read_under.new.reader)) (all_held c.read_under.new.reached.fields c.in_ok-found.ensures.begun.held)
    ∙ ap (λ v. Ok (v, bits_left c.read_under.new.reader)) (sym (plain_fields c.in_ok-found.found c.read_under.new.reached.fields.values))

pub read_container-returns-in_err-found-clause-gives : goal.read_container-returns-in_err-found-clause-gives
read_container-returns-in_err-found-clause-gives t c =
    let p = err_from_is_err_and c.from_residual-in_err-found.result c.from_residual-in_err-found.ensures.1 in
    rw (p.1, p.2) (end_stops c.args.level.now.table.now (read_within c.args.level.now.depth c.args.level.now.table.now) c.args.id.0 (bits_left c.args.reader.now) (numbers_of c.as_slice.result.now) (progress_of c.in_ok-reached.reached (bits_left c.args.reader.now)) (numbers_are c.as_slice.result.now (chain c.args.level.now.table.now c.args.id.0) (c.as_slice.ensures.value ∙ c.chain_of-chain.ensures)) (is_started c.in_ok-reached.reached (bits_left c.args.reader.now) c.in_ok-reached.ensures.fields c.in_ok-reached.ensures.octets c.in_ok-reached.ensures.start)
    (progress_of c.read_chain.new.reached (bits_left c.read_chain.new.reader)) (bits_left c.read_chain.new.reader) (stop_at c.read_under.new.path c.in_err-found.field-0.0) c.in_ok-read_chain.ensures.gives c.in_err-found.ensures.gives)

pub read_part-keep_told-requires-clause-number : goal.read_part-keep_told-requires-clause-number
read_part-keep_told-requires-clause-number t c =
    λ n e. length_number c.args.level.now.table.now c.args.level.now.depth c.in-Length.id.0 (bits_left c.args.reader.now) (plain c.in_ok-value-in-Length.value) (bits_left c.read_value-in-Length.new.reader) n
    (c.requires.inner.inner c.in-Length.id.0 (ap (λ p. type_by (Some p)) c.in-Length.is)).low.rules (subst (LengthIsRead c.args.level.now.table.now) c.in-Length.is c.requires.inner.length).0 c.in_ok-value-in-Length.ensures.gives e

pub read_part-returns-in_ok-expect_value-in-Fixed-clause-gives : goal.read_part-returns-in_ok-expect_value-in-Fixed-clause-gives
read_part-returns-in_ok-expect_value-in-Fixed-clause-gives t c =
    let on = value_moves c.args.level.now.depth c.args.level.now.table.now c.in-Fixed.id.0 (bits_left c.args.reader.now) (plain c.in_ok-value-in-Fixed.value) (bits_left c.read_value-in-Fixed.new.reader) c.in_ok-value-in-Fixed.ensures.gives in
    fixed_part c.args.level.now.table.now (read_within c.args.level.now.depth c.args.level.now.table.now) c.args.reached.now c.args.container.0 c.args.place c.args.part.now (bits_left c.args.reader.now) (bits_left c.read_value-in-Fixed.new.reader) c.requires.begun.begun on c.in-Fixed.field-0 c.in-Fixed.id c.in-Fixed.fixed (plain c.in_ok-value-in-Fixed.value) c.in-Fixed.is c.in_ok-value-in-Fixed.ensures.gives c.in_ok-expect_value-in-Fixed.ensures.gives

pub read_part-returns-in_ok-expect_value-in-Fixed-clause-begun : goal.read_part-returns-in_ok-expect_value-in-Fixed-clause-begun
read_part-returns-in_ok-expect_value-in-Fixed-clause-begun t c =
    let on = value_moves c.args.level.now.depth c.args.level.now.table.now c.in-Fixed.id.0 (bits_left c.args.reader.now) (plain c.in_ok-value-in-Fixed.value) (bits_left c.read_value-in-Fixed.new.reader) c.in_ok-value-in-Fixed.ensures.gives in
    under_way c.args.reached.now c.args.reached.now (bits_left c.args.reader.now) (bits_left c.read_value-in-Fixed.new.reader) c.requires.begun c.requires.begun.held on refl refl

pub read_part-returns-in_ok-skip_padding-in-Pad-clause-gives : goal.read_part-returns-in_ok-skip_padding-in-Pad-clause-gives
read_part-returns-in_ok-skip_padding-in-Pad-clause-gives t c =
    let on = pad_moves c.in-Pad.bits (bits_left c.args.reader.now) (bits_left c.skip_padding.new.reader) c.in_ok-skip_padding-in-Pad.ensures.gives in
    pad_part c.args.level.now.table.now (read_within c.args.level.now.depth c.args.level.now.table.now) c.args.reached.now c.args.container.0 c.args.place c.args.part.now (bits_left c.args.reader.now) (bits_left c.skip_padding.new.reader) c.requires.begun.begun on c.in-Pad.bits c.in-Pad.is c.in_ok-skip_padding-in-Pad.ensures.gives

pub read_part-returns-in_ok-skip_padding-in-Pad-clause-begun : goal.read_part-returns-in_ok-skip_padding-in-Pad-clause-begun
read_part-returns-in_ok-skip_padding-in-Pad-clause-begun t c =
    let on = pad_moves c.in-Pad.bits (bits_left c.args.reader.now) (bits_left c.skip_padding.new.reader) c.in_ok-skip_padding-in-Pad.ensures.gives in
    under_way c.args.reached.now c.args.reached.now (bits_left c.args.reader.now) (bits_left c.skip_padding.new.reader) c.requires.begun c.requires.begun.held on refl refl

pub read_part-returns-in_ok-keep_told-in-Length-clause-gives : goal.read_part-returns-in_ok-keep_told-in-Length-clause-gives
read_part-returns-in_ok-keep_told-in-Length-clause-gives t c =
    let on = value_moves c.args.level.now.depth c.args.level.now.table.now c.in-Length.id.0 (bits_left c.args.reader.now) (plain c.in_ok-value-in-Length.value) (bits_left c.read_value-in-Length.new.reader) c.in_ok-value-in-Length.ensures.gives in
    length_part c.args.level.now.table.now (read_within c.args.level.now.depth c.args.level.now.table.now) c.args.reached.now c.args.container.0 c.args.place c.args.part.now (bits_left c.args.reader.now) (bits_left c.read_value-in-Length.new.reader) c.requires.begun.begun on c.keep_told.new.reached c.in-Length.field-0 c.in-Length.id c.in-Length.c0 c.in-Length.c1 (plain c.in_ok-value-in-Length.value) c.in-Length.is c.in_ok-value-in-Length.ensures.gives c.in_ok-keep_told-in-Length.ensures.gives c.keep_told.ensures.fields c.keep_told.ensures.start

pub read_part-returns-in_ok-keep_told-in-Length-clause-begun : goal.read_part-returns-in_ok-keep_told-in-Length-clause-begun
read_part-returns-in_ok-keep_told-in-Length-clause-begun t c =
    let on = value_moves c.args.level.now.depth c.args.level.now.table.now c.in-Length.id.0 (bits_left c.args.reader.now) (plain c.in_ok-value-in-Length.value) (bits_left c.read_value-in-Length.new.reader) c.in_ok-value-in-Length.ensures.gives in
    told_way c.args.reached.now c.keep_told.new.reached (bits_left c.args.reader.now) (bits_left c.read_value-in-Length.new.reader) c.requires.begun c.keep_told.ensures.fields on c.keep_told.ensures.start c.in_ok-keep_told-in-Length.ensures.told

pub read_part-returns-in_ok-expect_check-in-Check-clause-gives : goal.read_part-returns-in_ok-expect_check-in-Check-clause-gives
read_part-returns-in_ok-expect_check-in-Check-clause-gives t c =
    let on = value_moves c.args.level.now.depth c.args.level.now.table.now c.in-Check.id.0 (bits_left c.args.reader.now) (plain c.in_ok-value-in-Check.value) (bits_left c.read_value-in-Check.new.reader) c.in_ok-value-in-Check.ensures.gives in
    check_part c.args.level.now.table.now (read_within c.args.level.now.depth c.args.level.now.table.now) c.args.reached.now c.args.container.0 c.args.place c.args.part.now (bits_left c.args.reader.now) (bits_left c.read_value-in-Check.new.reader) c.requires.begun.begun on c.in-Check.field-0 c.in-Check.id c.in-Check.check c.in_ok-sum-in-Check.sum (plain c.in_ok-value-in-Check.value) c.in-Check.is c.in_ok-value-in-Check.ensures.gives c.in_ok-sum-in-Check.ensures c.in_ok-expect_check-in-Check.ensures.gives

pub read_part-returns-in_ok-expect_check-in-Check-clause-begun : goal.read_part-returns-in_ok-expect_check-in-Check-clause-begun
read_part-returns-in_ok-expect_check-in-Check-clause-begun t c =
    let on = value_moves c.args.level.now.depth c.args.level.now.table.now c.in-Check.id.0 (bits_left c.args.reader.now) (plain c.in_ok-value-in-Check.value) (bits_left c.read_value-in-Check.new.reader) c.in_ok-value-in-Check.ensures.gives in
    under_way c.args.reached.now c.args.reached.now (bits_left c.args.reader.now) (bits_left c.read_value-in-Check.new.reader) c.requires.begun c.requires.begun.held on refl refl

pub read_trailers-returns-in_err-read_parts-clause-gives : goal.read_trailers-returns-in_err-read_parts-clause-gives
read_trailers-returns-in_err-read_parts-clause-gives t c =
    let p = err_from_is_err_and c.from_residual.result c.from_residual.ensures.1 in
    rw (p.1, p.2) (trailers_stop c.args.level.now.table.now (read_within c.args.level.now.depth c.args.level.now.table.now) c.loop-rest.rest.now (record { 0 = 0 }) (progress_of c.loop-rest.reached (bits_left c.loop-rest.reader)) (bits_left c.loop-rest.reader) _ c.entries_of.result.now c.trailers_of.result.now (omega arith) c.entries_of.ensures.value c.trailers_of.ensures.value c.loop-rest.invariant.read (stop_at c.read_parts.new.path c.in_err-read_parts.field-0.0) c.in_err-read_parts.ensures.gives)

pub read_trailers-loop-rest-preserved : goal.read_trailers-loop-rest-preserved
read_trailers-loop-rest-preserved t c =
    record {
      root = c.in_ok-read_parts.ensures.calm;
      begun = c.in_ok-read_parts.ensures.begun;
      inner = front_low c.args.level.now.table.now (c.args.level.now.depth + 1) (length c.loop-rest.rest.now - 1) c.loop-rest.rest.now c.loop-rest.invariant.inner;
      less = omega (arith, length-take (length c.loop-rest.rest.now - 1) c.loop-rest.rest.now, c.loop-rest.invariant.less);
      read = trailers_go c.args.level.now.table.now (read_within c.args.level.now.depth c.args.level.now.table.now) c.loop-rest.rest.now (record { 0 = 0 }) (progress_of c.loop-rest.reached (bits_left c.loop-rest.reader)) (bits_left c.loop-rest.reader) _ c.entries_of.result.now c.trailers_of.result.now (omega arith) c.entries_of.ensures.value c.trailers_of.ensures.value c.loop-rest.invariant.read (progress_of c.read_parts.new.reached (bits_left c.read_parts.new.reader)) (bits_left c.read_parts.new.reader) c.in_ok-read_parts.ensures.gives;
    }

pub read_under-returns-in_err-read_trailers-in-Stay-clause-gives : goal.read_under-returns-in_err-read_trailers-in-Stay-clause-gives
read_under-returns-in_err-read_trailers-in-Stay-clause-gives t c =
    let p = err_from_is_err_and c.from_residual.result c.from_residual.ensures.1 in
    rw (p.1, p.2) (stay_stops c.args.level.now.table.now (read_within c.args.level.now.depth c.args.level.now.table.now) c.loop.counter c.loop.at.0 (omega (arith, c.loop-test.true)) (progress_of c.loop.reached (bits_left c.loop.reader)) (bits_left c.loop.reader) c.as_slice.result.now (stop_at c.read_trailers.new.path c.in_err-read_trailers-in-Stay.field-0.0) _ (c.in-Stay.ensures) (c.as_slice.ensures.value ∙ c.chain_of-chain.ensures) c.loop.invariant.read c.in_err-read_trailers-in-Stay.ensures.gives)

pub read_under-returns-then-has_told_size-clause-gives : goal.read_under-returns-then-has_told_size-clause-gives
read_under-returns-then-has_told_size-clause-gives t c =
    stay_ends c.args.level.now.table.now (read_within c.args.level.now.depth c.args.level.now.table.now) c.loop.counter c.loop.at.0 (omega (arith, c.loop-test.true)) (progress_of c.loop.reached (bits_left c.loop.reader)) (bits_left c.loop.reader) c.as_slice.result.now (progress_of c.read_trailers.new.reached (bits_left c.read_trailers.new.reader)) (bits_left c.read_trailers.new.reader) _ true (c.in-Stay.ensures) (c.as_slice.ensures.value ∙ c.chain_of-chain.ensures) c.loop.invariant.read c.in_ok-read_trailers-in-Stay.ensures.gives c.if-has_told_size.ensures

pub read_under-returns-in-Stay-clause-gives : goal.read_under-returns-in-Stay-clause-gives
read_under-returns-in-Stay-clause-gives t c =
    stay_ends c.args.level.now.table.now (read_within c.args.level.now.depth c.args.level.now.table.now) c.loop.counter c.loop.at.0 (omega (arith, c.loop-test.true)) (progress_of c.loop.reached (bits_left c.loop.reader)) (bits_left c.loop.reader) c.as_slice.result.now (progress_of c.read_trailers.new.reached (bits_left c.read_trailers.new.reader)) (bits_left c.read_trailers.new.reader) _ false (c.in-Stay.ensures) (c.as_slice.ensures.value ∙ c.chain_of-chain.ensures) c.loop.invariant.read c.in_ok-read_trailers-in-Stay.ensures.gives c.if-has_told_size.ensures
    ∙ ap (λ p. Err (fault_at LengthDiffers p)) (sym c.tell_length.ensures.value)

pub read_under-read_own-requires : goal.read_under-read_own-requires
read_under-read_own-requires t c =
    let low = child_is_low c.args.level.now.table.now c.loop.invariant.low.rules (c.args.level.now.depth + 1) c.loop.at.0 c.in-Under.child.0 (fields_of c.loop.reached.fields) c.loop.invariant.low.low (c.in-Under.ensures) in
    (omega arith, (low, (c.requires.few, (c.loop.invariant.begun, c.loop.invariant.root))))

pub read_under-returns-in_err-read_own-in-Under-clause-gives : goal.read_under-returns-in_err-read_own-in-Under-clause-gives
read_under-returns-in_err-read_own-in-Under-clause-gives t c =
    let p = err_from_is_err_and c.from_residual-in_err-read_own-in-Under.result c.from_residual-in_err-read_own-in-Under.ensures.1 in
    rw (p.1, p.2) (under_stops c.args.level.now.table.now (read_within c.args.level.now.depth c.args.level.now.table.now) c.loop.counter c.loop.at.0 (omega (arith, c.loop-test.true)) (progress_of c.loop.reached (bits_left c.loop.reader)) (bits_left c.loop.reader) c.in-Under.child.0 (stop_at c.read_own.new.path c.in_err-read_own-in-Under.field-0.0) _ (c.in-Under.ensures) c.loop.invariant.read c.in_err-read_own-in-Under.ensures.gives)

pub read_under-loop-preserved : goal.read_under-loop-preserved
read_under-loop-preserved t c =
    record {
      root = c.in_ok-read_own-in-Under.ensures.calm;
      begun = c.in_ok-read_own-in-Under.ensures.begun;
      low = child_is_low c.args.level.now.table.now c.loop.invariant.low.rules (c.args.level.now.depth + 1) c.loop.at.0 c.in-Under.child.0 (fields_of c.loop.reached.fields) c.loop.invariant.low.low (c.in-Under.ensures);
      read = under_goes c.args.level.now.table.now (read_within c.args.level.now.depth c.args.level.now.table.now) c.loop.counter c.loop.at.0 (omega (arith, c.loop-test.true)) (progress_of c.loop.reached (bits_left c.loop.reader)) (bits_left c.loop.reader) c.in-Under.child.0 (progress_of c.read_own.new.reached (bits_left c.read_own.new.reader)) (bits_left c.read_own.new.reader) _ (c.in-Under.ensures) c.loop.invariant.read c.in_ok-read_own-in-Under.ensures.gives;
    }

pub read_under-returns-clause-gives : goal.read_under-returns-clause-gives
read_under-returns-clause-gives t c =
    let path = ap (λ p. Err (fault_at NoDerived p)) (sym (c.put_first.ensures ∙ ap (λ old. step.Choice c.loop.at ∷ old) c.loop.invariant.root)) in
    elim c.loop-test.branch [
      | read_under-else-loop-test w ↦ under_ends c.args.level.now.table.now (read_within c.args.level.now.depth c.args.level.now.table.now) c.loop.counter c.loop.at.0 (progress_of c.loop.reached (bits_left c.loop.reader)) (bits_left c.loop.reader) _ (omega (arith, w.loop-test.false)) c.loop.invariant.read ∙ path
      | read_under-then-loop-test+in-Nowhere w ↦ nowhere_is c.args.level.now.table.now (read_within c.args.level.now.depth c.args.level.now.table.now) c.loop.counter c.loop.at.0 (omega (arith, w.loop-test.true)) (progress_of c.loop.reached (bits_left c.loop.reader)) (bits_left c.loop.reader) _ (w.in-Nowhere.ensures) c.loop.invariant.read ∙ path
    ]
