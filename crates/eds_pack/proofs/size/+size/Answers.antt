use Rattle.std.proofs.Common.{◌+◌, ◌-◌, ◌<◌, ◌≤◌, [], get_or, sym, ap, subst, ◌∙◌, map, drop, length, refl, arith}
use Rattle.std.specs.List.{AllByRecursion, flat_map}
use Rattle.std.proofs.lemmas.List.{length-take}
use Rattle.std.proofs.lemmas.Result.{err_from_is_err_and}
use Rattle.eds_base.specs.declared.ids.TypeId.{TypeId}
use Rattle.std.specs.Prelude.{option_map}
use Rattle.std.specs.Option.{option_copied}
use Rattle.eds_types.specs.Failing.{entry, own_stations}
use Rattle.eds_types.specs.Fields.{paired}
use Rattle.eds_types.specs.PackedSizes.{tells, packed_size_within, items_size, container_size, fields_size, stations_size}
use Rattle.eds_types.specs.Rows.{chain, constraints_of, sequence}
use Rattle.eds_types.specs.Choices.{IsNear}
use Rattle.eds_types.proofs.PlainValues.{plain_fields, plain_items}
use Rattle.eds_types.proofs.Candidates.{numbers_are}
use Rattle.eds_types.proofs.Seeking.{trailers_are}
use Rattle.eds_pack.specs.Nesting.{IsLow, PartNests}
use Rattle.eds_types.specs.Plain.{plain}
use Rattle.eds_pack.specs.Counting.{added}
use Rattle.eds_pack.specs.Seeking.{fields_of}
use Rattle.eds_pack.proofs.Looking.{one_value, values_few, values_left}
use Rattle.eds_pack.proofs.Counts.{item_next, size_next}
use Rattle.eds_pack.proofs.Nested.{array_is, array_wrong, goes_here, items_left, list_is, list_wrong, next_here, next_later, stops_here}
use Rattle.eds_types.proofs.SameValues.{list_of-plains_of}
use Rattle.eds_pack.proofs.Plains.{length_plains}
use Rattle.eds_pack.proofs.Chains.{chain_next, chain_stops, entries_stop, entries_next, entries_used, entries_count, trailers_next, trailers_stop, these_next, above_next, first_next, last_next}
use Rattle.eds_pack.proofs.OwnSizes.{all_pass, choice_stops, end_stops, first_stops, others_stop}
use Rattle.eds_pack.proofs.Spelt.{all_at, all_take}
use Rattle.eds_pack.proofs.Ranks.{chain_is_low, entries_nest, trailers_nest, constraints_near, nearer, under_low}
use Rattle.eds_pack.proofs.size.+size.Goals as goal

pub add_array-returns-then-items-count-clause-adds : goal.add_array-returns-then-items-count-clause-adds
add_array-returns-then-items-count-clause-adds t c =
    array_wrong (packed_size_within c.args.depth c.args.table.now c.args.item.0) c.args.count (plain c.args.value.now) (map plain c.in-Items.items.items) (ap plain c.in-Items.is ∙ plain_items c.in-Items.items)
    c.args.total.now c.args.path.now (λ e. c.if-items-count.true (ap length c.as_slice-items.ensures.value ∙ sym (length_plains c.in-Items.items.items) ∙ e)) c.requires.root

pub add_array-returns-clause-adds : goal.add_array-returns-clause-adds
add_array-returns-clause-adds t c =
    c.add_items.ensures.adds ∙ ap (λ xs. added c.args.total.now (items_size (packed_size_within c.args.depth c.args.table.now c.args.item.0) 0 0 (map plain xs))) c.as_slice-items.ensures.value
    ∙ ap (added c.args.total.now) (sym (array_is (packed_size_within c.args.depth c.args.table.now c.args.item.0) c.args.count (plain c.args.value.now) (map plain c.in-Items.items.items) (ap plain c.in-Items.is ∙ plain_items c.in-Items.items)
    (length_plains c.in-Items.items.items ∙ sym (ap length c.as_slice-items.ensures.value) ∙ c.if-items-count.false)))

pub add_list-returns-then-not-tells-clause-adds : goal.add_list-returns-then-not-tells-clause-adds
add_list-returns-then-not-tells-clause-adds t c =
    list_wrong c.args.table.now (packed_size_within c.args.depth c.args.table.now) [] c.args.item.0 (option_map plain (option_copied c.args.told)) (plain c.args.value.now) (map plain c.in-Items.items.items) (ap plain c.in-Items.is ∙ plain_items c.in-Items.items)
    c.args.total.now c.args.path.now (ap (tells (option_map plain (option_copied c.args.told))) (length_plains c.in-Items.items.items ∙ sym (ap length c.as_slice-items.ensures.value)) ∙ sym c.tells.ensures ∙ c.if-not-tells.true) c.requires.root

pub add_list-returns-clause-adds : goal.add_list-returns-clause-adds
add_list-returns-clause-adds t c =
    c.add_items.ensures.adds ∙ ap (λ xs. added c.args.total.now (items_size (packed_size_within c.args.depth c.args.table.now c.args.item.0) 0 0 (map plain xs))) c.as_slice-items.ensures.value
    ∙ ap (added c.args.total.now) (sym (list_is c.args.table.now (packed_size_within c.args.depth c.args.table.now) [] c.args.item.0 (option_map plain (option_copied c.args.told)) (plain c.args.value.now) (map plain c.in-Items.items.items) (ap plain c.in-Items.is ∙ plain_items c.in-Items.items)
    (ap (tells (option_map plain (option_copied c.args.told))) (length_plains c.in-Items.items.items ∙ sym (ap length c.as_slice-items.ensures.value)) ∙ sym c.tells.ensures ∙ c.if-not-tells.false)))

pub add_container-returns-in-Fields-clause-adds : goal.add_container-returns-in-Fields-clause-adds
add_container-returns-in-Fields-clause-adds t c =
    let size = packed_size_within c.args.depth c.args.table.now in
    c.add_fields.ensures.adds ∙ ap (λ xs. added c.args.total.now (fields_size c.args.table.now size c.args.id.0 c.in-Fields.own.0 (map plain xs))) c.as_slice.ensures.value
    ∙ ap (λ vs. added c.args.total.now (fields_size c.args.table.now size c.args.id.0 c.in-Fields.own.0 vs)) (sym (list_of-plains_of (map plain c.in-Fields.values.items)))
    ∙ ap (λ v. added c.args.total.now (container_size c.args.table.now size c.args.id.0 v)) (sym (ap plain c.in-Fields.is ∙ plain_fields c.in-Fields.own c.in-Fields.values))

pub add_value-overflow_sub-depth : goal.add_value-overflow_sub-depth
add_value-overflow_sub-depth t c = let low = c.requires.nests.rank c.keeps_rules.ensures in omega arith

pub add_value-returns-clause-adds : goal.add_value-returns-clause-adds
add_value-returns-clause-adds t c =
    let low = c.requires.nests.rank c.keeps_rules.ensures in
    c.add_row.ensures.adds ∙ ap (added c.args.total.now) (sym (size_next c.args.depth _ c.args.table.now c.args.id.0 c.row.result.now (plain c.args.value.now) (omega arith) refl c.row.ensures))

pub add_items-loop-i-preserved : goal.add_items-loop-i-preserved
add_items-loop-i-preserved t c =
    let size = packed_size_within c.args.depth c.args.table.now c.args.item.0 in
    let left = items_left c.args.items.now c.loop-i.i c.index-items-i.result (omega arith) c.index-items-i.is in
    record {
      rest = item_next size (plain c.index-items-i.result) (map plain (drop (c.loop-i.i + 1) c.args.items.now)) c.loop-i.total c.add_value.new.total c.loop-i.i _ c.in_default.ensures.adds (ap (λ ws. added c.loop-i.total (items_size size c.loop-i.i 0 ws)) (sym left) ∙ c.loop-i.invariant.rest);
      root = c.in_default.ensures.calm;
    }

pub add_parts-loop-i-preserved : goal.add_parts-loop-i-preserved
add_parts-loop-i-preserved t c =
    let table = c.args.fields.now.table.now in let size = packed_size_within c.args.fields.now.depth table in let k = c.args.fields.now.own.0 in let fs = fields_of table k c.args.fields.now.values.now in let f = map plain c.args.fields.now.values.now in
    let y = ((c.args.first).0).0 in let first = (c.args.first).1 in let es = c.args.parts.now in let i = c.loop-i.i in let p = c.index-parts-i.result in
    let within : i < length es = omega arith in
    let one = one_value p in
    record {
      rest = goes_here table size fs k y first es i p within c.index-parts-i.is c.loop-i.total c.add_part.new.total _
          (c.in_default.ensures.adds (record { container = y; place = first + i; part = p }) (next_here table size fs k y first es i p within c.index-parts-i.is f c.loop-i.used c.loop-i.invariant.next _ c.value_in-value.ensures)) c.loop-i.invariant.rest;
      next = next_later table size fs k y first es i p within c.index-parts-i.is f c.loop-i.used c.loop-i.invariant.next c.behind-used.result c.behind-used.ensures;
      used = omega (arith, c.behind-used.ensures, c.loop-i.invariant.used, values_left es i p within c.index-parts-i.is);
      few = omega (arith, c.behind-used.ensures, c.loop-i.invariant.few, one);
      root = c.in_default.ensures.calm;
    }

pub add_parts-returns-in-Err-clause-adds : goal.add_parts-returns-in-Err-clause-adds
add_parts-returns-in-Err-clause-adds t c =
    let table = c.args.fields.now.table.now in let size = packed_size_within c.args.fields.now.depth table in let k = c.args.fields.now.own.0 in let fs = fields_of table k c.args.fields.now.values.now in let f = map plain c.args.fields.now.values.now in
    let y = ((c.args.first).0).0 in let first = (c.args.first).1 in let es = c.args.parts.now in let i = c.loop-i.i in let p = c.index-parts-i.result in
    let within : i < length es = omega arith in
    stops_here table size fs k y first es i p within c.index-parts-i.is c.loop-i.total c.in-Err.reason c.add_part.new.path c.put_first.new.self _
    (c.in-Err.ensures.adds (record { container = y; place = first + i; part = p }) (next_here table size fs k y first es i p within c.index-parts-i.is f c.loop-i.used c.loop-i.invariant.next _ c.value_in-value.ensures)) c.loop-i.invariant.rest c.put_first.ensures

-- ---- chains

pub add_chain-check_constraints-requires-clause-near : goal.add_chain-check_constraints-requires-clause-near
add_chain-check_constraints-requires-clause-near t c =
    let table = c.args.fields.now.table.now in let n = c.args.fields.now.depth in
    let low = all_at (λ (id : TypeId). IsLow table (n + 1) id.0) c.args.chain.now c.loop-id.id-index (record { 0 = 0 }) (omega arith) c.requires.low in
    subst (AllByRecursion (IsNear 32)) (sym c.constraints_of.ensures)
    (nearer (n + 1) 32 (constraints_of table (get_or c.args.chain.now c.loop-id.id-index (record { 0 = 0 })).0) (omega (arith, c.requires.few)) (constraints_near table c.keeps_rules.ensures n (get_or c.args.chain.now c.loop-id.id-index (record { 0 = 0 })).0 (low c.keeps_rules.ensures)))

pub add_chain-returns-in_err-check_constraints-clause-adds : goal.add_chain-returns-in_err-check_constraints-clause-adds
add_chain-returns-in_err-check_constraints-clause-adds t c =
    let table = c.args.fields.now.table.now in let size = packed_size_within c.args.fields.now.depth table in let k = c.args.fields.now.own.0 in
    let p = err_from_is_err_and c.from_residual.result c.from_residual.ensures.1 in
    rw (p.1, p.2)
    (chain_stops table size (fields_of table k c.args.fields.now.values.now) k c.args.chain.now c.loop-id.id-index (record { 0 = 0 }) (omega arith) c.constraints_of.result.now c.loop-id.total _ _ c.constraints_of.ensures
    (c.in_err-check_constraints.ensures.adds size k (get_or c.args.chain.now c.loop-id.id-index (record { 0 = 0 })).0) c.loop-id.invariant.rest)

pub add_chain-returns-in_err-check_constraints-clause-near : goal.add_chain-returns-in_err-check_constraints-clause-near
add_chain-returns-in_err-check_constraints-clause-near t c =
    let table = c.args.fields.now.table.now in let n = c.args.fields.now.depth in
    let low = all_at (λ (id : TypeId). IsLow table (n + 1) id.0) c.args.chain.now c.loop-id.id-index (record { 0 = 0 }) (omega arith) c.requires.low in
    let near = c.in_err-check_constraints.ensures.near (n + 1) (subst (AllByRecursion (IsNear (n + 1))) (sym c.constraints_of.ensures) (constraints_near table c.keeps_rules.ensures n (get_or c.args.chain.now c.loop-id.id-index (record { 0 = 0 })).0 (low c.keeps_rules.ensures))) in
    omega (arith, near)

pub add_chain-add_parts-requires : goal.add_chain-add_parts-requires
add_chain-add_parts-requires t c =
    let table = c.args.fields.now.table.now in let n = c.args.fields.now.depth in let size = packed_size_within n table in let k = c.args.fields.now.own.0 in let f = map plain c.args.fields.now.values.now in
    let here = (get_or c.args.chain.now c.loop-id.id-index (record { 0 = 0 })).0 in
    let low = all_at (λ (id : TypeId). IsLow table (n + 1) id.0) c.args.chain.now c.loop-id.id-index (record { 0 = 0 }) (omega arith) c.requires.low in (
      omega arith,
      (
        subst (AllByRecursion (PartNests table n)) (sym c.entries_of.ensures.value) (entries_nest table c.keeps_rules.ensures n here low),
        (
          omega (arith, c.entries_of.ensures.few),
          (
            entries_next table size (fields_of table k c.args.fields.now.values.now) k c.args.chain.now c.loop-id.id-index (record { 0 = 0 }) (omega arith) f c.loop-id.used c.entries_of.result.now c.entries_of.ensures.value c.loop-id.invariant.next,
            (omega (arith, c.loop-id.invariant.few, c.requires.short), (c.requires.few, c.in_ok-check_constraints.ensures.calm)),
          ),
        ),
      ),
    )

pub add_chain-returns-in_err-used-clause-adds : goal.add_chain-returns-in_err-used-clause-adds
add_chain-returns-in_err-used-clause-adds t c =
    let table = c.args.fields.now.table.now in let size = packed_size_within c.args.fields.now.depth table in let k = c.args.fields.now.own.0 in
    let p = err_from_is_err_and c.from_residual-in_err-used.result c.from_residual-in_err-used.ensures.1 in
    rw (p.1, p.2)
    (entries_stop table size (fields_of table k c.args.fields.now.values.now) k c.args.chain.now c.loop-id.id-index (record { 0 = 0 }) (omega arith) c.constraints_of.result.now c.entries_of.result.now c.loop-id.total _ _ c.constraints_of.ensures c.entries_of.ensures.value
    (c.in_ok-check_constraints.ensures.adds size k (get_or c.args.chain.now c.loop-id.id-index (record { 0 = 0 })).0) c.in_err-used.ensures.adds c.loop-id.invariant.rest)

pub add_chain-loop-id-preserved : goal.add_chain-loop-id-preserved
add_chain-loop-id-preserved t c =
    let table = c.args.fields.now.table.now in let size = packed_size_within c.args.fields.now.depth table in let k = c.args.fields.now.own.0 in let fs = fields_of table k c.args.fields.now.values.now in let f = map plain c.args.fields.now.values.now in
    let ids = c.args.chain.now in let i = c.loop-id.id-index in let es = c.entries_of.result.now in
    record {
      rest = chain_next table size fs k ids i (record { 0 = 0 }) (omega arith) c.constraints_of.result.now es c.loop-id.total c.add_parts.new.total _ c.constraints_of.ensures c.entries_of.ensures.value (c.in_ok-check_constraints.ensures.adds size k (get_or ids i (record { 0 = 0 })).0) c.in_ok-used.ensures.adds c.loop-id.invariant.rest;
      next = entries_used table size fs k ids i (record { 0 = 0 }) (omega arith) f c.loop-id.used c.in_ok-used.used es c.entries_of.ensures.value c.in_ok-used.ensures.used c.loop-id.invariant.next;
      used = omega (arith, c.loop-id.invariant.used, entries_count table size fs k ids i (record { 0 = 0 }) (omega arith) c.loop-id.used c.in_ok-used.used es c.entries_of.ensures.value c.in_ok-used.ensures.used);
      few = omega (arith, c.loop-id.invariant.few, c.in_ok-used.ensures.used, values_few es, c.entries_of.ensures.few);
      root = c.in_ok-used.ensures.calm;
    }

pub add_trailers-add_parts-requires : goal.add_trailers-add_parts-requires
add_trailers-add_parts-requires t c =
    let table = c.args.fields.now.table.now in let n = c.args.fields.now.depth in let size = packed_size_within n table in let k = c.args.fields.now.own.0 in let f = map plain c.args.fields.now.values.now in
    let ids = c.loop-rest.rest.now in let last = (get_or ids (length ids - 1) (record { 0 = 0 })).0 in
    let low = all_at (λ (id : TypeId). IsLow table (n + 1) id.0) ids (length ids - 1) (record { 0 = 0 }) (omega arith) c.loop-rest.invariant.low in (
      omega arith,
      (
        subst (AllByRecursion (PartNests table n)) (sym c.trailers_of.ensures.value) (trailers_nest table c.keeps_rules.ensures n last low),
        (
          omega (arith, c.entries_of.ensures.few, c.trailers_of.ensures.few),
          (
            these_next table size (fields_of table k c.args.fields.now.values.now) k ids (record { 0 = 0 }) (omega arith) f c.loop-rest.used c.entries_of.result.now c.trailers_of.result.now c.entries_of.ensures.value c.trailers_of.ensures.value c.loop-rest.invariant.next,
            (omega (arith, c.loop-rest.invariant.few, c.requires.short, c.requires.before), (c.requires.few, c.loop-rest.invariant.root)),
          ),
        ),
      ),
    )

pub add_trailers-returns-in_err-used-clause-adds : goal.add_trailers-returns-in_err-used-clause-adds
add_trailers-returns-in_err-used-clause-adds t c =
    let table = c.args.fields.now.table.now in let size = packed_size_within c.args.fields.now.depth table in let k = c.args.fields.now.own.0 in
    let p = err_from_is_err_and c.from_residual.result c.from_residual.ensures.1 in
    rw (p.1, p.2)
    (trailers_stop table size (fields_of table k c.args.fields.now.values.now) k c.loop-rest.rest.now (record { 0 = 0 }) (omega arith) c.entries_of.result.now c.trailers_of.result.now c.loop-rest.total _ _ c.entries_of.ensures.value c.trailers_of.ensures.value c.in_err-used.ensures.adds c.loop-rest.invariant.rest)

pub add_trailers-loop-rest-preserved : goal.add_trailers-loop-rest-preserved
add_trailers-loop-rest-preserved t c =
    let table = c.args.fields.now.table.now in let n = c.args.fields.now.depth in let size = packed_size_within n table in let k = c.args.fields.now.own.0 in let fs = fields_of table k c.args.fields.now.values.now in let f = map plain c.args.fields.now.values.now in
    let ids = c.loop-rest.rest.now in let es = c.entries_of.result.now in let ts = c.trailers_of.result.now in
    let shorter = length-take (length ids - 1) ids in
    record {
      rest = trailers_next table size fs k ids (record { 0 = 0 }) (omega arith) es ts c.loop-rest.total c.add_parts.new.total _ c.entries_of.ensures.value c.trailers_of.ensures.value c.in_ok-used.ensures.adds c.loop-rest.invariant.rest;
      next = above_next table size fs k ids (record { 0 = 0 }) (omega arith) f c.loop-rest.used c.in_ok-used.used ts c.trailers_of.ensures.value c.in_ok-used.ensures.used c.loop-rest.invariant.next;
      low = all_take (λ (id : TypeId). IsLow table (n + 1) id.0) (length ids - 1) ids c.loop-rest.invariant.low;
      less = omega (arith, shorter, c.loop-rest.invariant.less);
      few = omega (arith, shorter, c.loop-rest.invariant.few, c.in_ok-used.ensures.used, values_few ts, c.trailers_of.ensures.few);
      root = c.in_ok-used.ensures.calm;
    }

-- ---- the fields of a container

pub own_size-add_chain-requires : goal.own_size-add_chain-requires
own_size-add_chain-requires t c =
    let table = c.args.fields.now.table.now in let k = c.args.fields.now.own.0 in let f = map plain c.args.fields.now.values.now in
    let is = c.as_slice.ensures.value ∙ c.chain_of-chain.ensures in
    let short : length c.as_slice.result.now ≤ 16 = omega (arith, ap length c.as_slice.ensures.value, c.as_slice.ensures.few) in
    (omega arith, (chain_is_low table (c.args.fields.now.depth + 1) k c.as_slice.result.now c.requires.low is, (short, (first_next table c.keeps_rules.ensures k f c.as_slice.result.now is, (c.requires.few, c.requires.root)))))

pub own_size-returns-in_err-used-clause-size : goal.own_size-returns-in_err-used-clause-size
own_size-returns-in_err-used-clause-size t c =
    let table = c.args.fields.now.table.now in let n = c.args.fields.now.depth in let k = c.args.fields.now.own.0 in let f = map plain c.args.fields.now.values.now in
    let p = err_from_is_err_and c.from_residual.result c.from_residual.ensures.1 in
    rw (p.1, p.2)
    (first_stops table c.keeps_rules.ensures n k c.requires.low f c.new-size.result _
    (c.in_err-used.ensures.adds ∙ ap (λ ys. added c.new-size.result (stations_size table (packed_size_within n table) (paired (sequence table k) f) k 0 (flat_map (own_stations table) ys))) (numbers_are c.as_slice.result.now (chain table k) (c.as_slice.ensures.value ∙ c.chain_of-chain.ensures))))

pub own_size-returns-in_err-check_most_derived-clause-size : goal.own_size-returns-in_err-check_most_derived-clause-size
own_size-returns-in_err-check_most_derived-clause-size t c =
    let table = c.args.fields.now.table.now in let n = c.args.fields.now.depth in let k = c.args.fields.now.own.0 in let f = map plain c.args.fields.now.values.now in
    let p = err_from_is_err_and c.from_residual-in_err-check_most_derived.result c.from_residual-in_err-check_most_derived.ensures.1 in
    rw (p.1, p.2)
    (choice_stops table c.keeps_rules.ensures n k c.requires.low f c.new-size.result c.add_chain.new.total _
    (c.in_ok-used.ensures.adds ∙ ap (λ ys. added c.new-size.result (stations_size table (packed_size_within n table) (paired (sequence table k) f) k 0 (flat_map (own_stations table) ys))) (numbers_are c.as_slice.result.now (chain table k) (c.as_slice.ensures.value ∙ c.chain_of-chain.ensures)))
    (c.in_err-check_most_derived.ensures.adds (packed_size_within n table)))

pub own_size-add_trailers-requires : goal.own_size-add_trailers-requires
own_size-add_trailers-requires t c =
    let table = c.args.fields.now.table.now in let k = c.args.fields.now.own.0 in let f = map plain c.args.fields.now.values.now in
    let is = c.as_slice.ensures.value ∙ c.chain_of-chain.ensures in
    let again = c.as_slice-2.ensures.value ∙ c.chain_of-chain.ensures in
    let short : length c.as_slice-2.result.now ≤ 16 = omega (arith, ap length c.as_slice-2.ensures.value, c.as_slice-2.ensures.few) in
    let first : length c.as_slice.result.now ≤ 16 = omega (arith, ap length c.as_slice.ensures.value, c.as_slice.ensures.few) in (
      omega arith,
      (
        chain_is_low table (c.args.fields.now.depth + 1) k c.as_slice-2.result.now c.requires.low again,
        (short, (last_next table c.keeps_rules.ensures k f c.as_slice.result.now is c.in_ok-used.used c.as_slice-2.result.now c.in_ok-used.ensures.used.0 again, (omega (arith, first, c.in_ok-used.ensures.used.1), (c.requires.few, c.in_ok-check_most_derived.ensures.calm)))),
      ),
    )

pub own_size-returns-in_err-add_trailers-clause-size : goal.own_size-returns-in_err-add_trailers-clause-size
own_size-returns-in_err-add_trailers-clause-size t c =
    let table = c.args.fields.now.table.now in let n = c.args.fields.now.depth in let k = c.args.fields.now.own.0 in let f = map plain c.args.fields.now.values.now in
    let p = err_from_is_err_and c.from_residual-in_err-add_trailers.result c.from_residual-in_err-add_trailers.ensures.1 in
    rw (p.1, p.2)
    (others_stop table c.keeps_rules.ensures n k c.requires.low f c.new-size.result c.add_chain.new.total _
    (c.in_ok-used.ensures.adds ∙ ap (λ ys. added c.new-size.result (stations_size table (packed_size_within n table) (paired (sequence table k) f) k 0 (flat_map (own_stations table) ys))) (numbers_are c.as_slice.result.now (chain table k) (c.as_slice.ensures.value ∙ c.chain_of-chain.ensures)))
    (c.in_ok-check_most_derived.ensures.adds (packed_size_within n table))
    (c.in_err-add_trailers.ensures.adds ∙ ap (λ ps. added c.add_chain.new.total (stations_size table (packed_size_within n table) (paired (sequence table k) f) k 0 (map entry ps))) (trailers_are table k c.as_slice-2.result.now (c.as_slice-2.ensures.value ∙ c.chain_of-chain.ensures))))

pub own_size-returns-clause-size : goal.own_size-returns-clause-size
own_size-returns-clause-size t c =
    let table = c.args.fields.now.table.now in let n = c.args.fields.now.depth in let k = c.args.fields.now.own.0 in let f = map plain c.args.fields.now.values.now in
    all_pass table c.keeps_rules.ensures n k c.requires.low f c.new-size.result c.add_chain.new.total c.add_trailers.new.total c.new-size.ensures
    (c.in_ok-used.ensures.adds ∙ ap (λ ys. added c.new-size.result (stations_size table (packed_size_within n table) (paired (sequence table k) f) k 0 (flat_map (own_stations table) ys))) (numbers_are c.as_slice.result.now (chain table k) (c.as_slice.ensures.value ∙ c.chain_of-chain.ensures)))
    (c.in_ok-check_most_derived.ensures.adds (packed_size_within n table))
    (c.in_ok-add_trailers.ensures.adds ∙ ap (λ ps. added c.add_chain.new.total (stations_size table (packed_size_within n table) (paired (sequence table k) f) k 0 (map entry ps))) (trailers_are table k c.as_slice-2.result.now (c.as_slice-2.ensures.value ∙ c.chain_of-chain.ensures)))
    c.in_ok-check_length.ensures.adds

pub own_size-returns-in_err-check_length-clause-size : goal.own_size-returns-in_err-check_length-clause-size
own_size-returns-in_err-check_length-clause-size t c =
    let table = c.args.fields.now.table.now in let n = c.args.fields.now.depth in let k = c.args.fields.now.own.0 in let f = map plain c.args.fields.now.values.now in
    let p = err_from_is_err_and c.from_residual-in_err-check_length.result c.from_residual-in_err-check_length.ensures.1 in
    rw (p.1, p.2)
    (end_stops table c.keeps_rules.ensures n k c.requires.low f c.new-size.result c.add_chain.new.total c.add_trailers.new.total c.new-size.ensures
    (c.in_ok-used.ensures.adds ∙ ap (λ ys. added c.new-size.result (stations_size table (packed_size_within n table) (paired (sequence table k) f) k 0 (flat_map (own_stations table) ys))) (numbers_are c.as_slice.result.now (chain table k) (c.as_slice.ensures.value ∙ c.chain_of-chain.ensures)))
    (c.in_ok-check_most_derived.ensures.adds (packed_size_within n table))
    (c.in_ok-add_trailers.ensures.adds ∙ ap (λ ps. added c.add_chain.new.total (stations_size table (packed_size_within n table) (paired (sequence table k) f) k 0 (map entry ps))) (trailers_are table k c.as_slice-2.result.now (c.as_slice-2.ensures.value ∙ c.chain_of-chain.ensures)))
    _ c.in_err-check_length.ensures.adds)

pub add_fields-own_size-requires : goal.add_fields-own_size-requires
add_fields-own_size-requires t c = (omega arith, (under_low c.args.fields.now.table.now (c.args.fields.now.depth + 1) c.args.id.0 c.args.fields.now.own.0 c.requires.low (sym c.is_under.ensures ∙ c.if-not-is_under.false), (c.requires.few, c.requires.root)))
