use Rattle.std.proofs.Common.{◌≡◌, ◌≤◌, ◌+◌, ◌*◌, [], drop, length, map, reverse}
use Rattle.std.specs.List.{AllByRecursion, flat_map}
use Rattle.eds_base.specs.declared.ids.TypeId.{TypeId}
use Rattle.eds_types.specs.Failing.{entry, own_stations}
use Rattle.eds_types.specs.Packing.{valued}
use Rattle.eds_types.specs.PackedSizes.{packed_size_within, items_size, stations_size}
use Rattle.eds_types.specs.Plain.{plain}
use Rattle.eds_types.specs.Rows.{placed_from, numbers_of}
use Rattle.eds_pack.specs.Counting.{added}
use Rattle.eds_pack.specs.Nesting.{IsLow}
use Rattle.eds_types.specs.Seeking.{entries_in_turn, trailers_in_turn}
use Rattle.eds_pack.specs.Seeking.{AreNext, fields_of, values_in}
use Rattle.eds_pack.proofs.size.+size.Given as goal

abbrev pub decreases-add_value : goal.decreases-add_value
decreases-add_value l = 16 * l.depth

abbrev pub decreases-add_items : goal.decreases-add_items
decreases-add_items l = 16 * l.depth + 1

abbrev pub decreases-add_array : goal.decreases-add_array
decreases-add_array l = 16 * l.depth + 2

abbrev pub decreases-add_list : goal.decreases-add_list
decreases-add_list l = 16 * l.depth + 2

abbrev pub decreases-add_part : goal.decreases-add_part
decreases-add_part l = 16 * l.fields.now.depth + 3

abbrev pub decreases-add_parts : goal.decreases-add_parts
decreases-add_parts l = 16 * l.fields.now.depth + 4

abbrev pub decreases-add_chain : goal.decreases-add_chain
decreases-add_chain l = 16 * l.fields.now.depth + 5

abbrev pub decreases-add_trailers : goal.decreases-add_trailers
decreases-add_trailers l = 16 * l.fields.now.depth + 5

abbrev pub decreases-own_size : goal.decreases-own_size
decreases-own_size l = 16 * l.fields.now.depth + 6

abbrev pub decreases-add_fields : goal.decreases-add_fields
decreases-add_fields l = 16 * l.fields.now.depth + 7

abbrev pub decreases-add_container : goal.decreases-add_container
decreases-add_container l = 16 * l.depth + 8

abbrev pub decreases-add_row : goal.decreases-add_row
decreases-add_row l = 16 * l.depth + 9

abbrev pub invariant-add_items-loop-i : goal.invariant-add_items-loop-i
invariant-add_items-loop-i l = record {
  rest : added l.total (items_size (packed_size_within l.depth l.table l.item.0) l.i 0 (map plain (drop l.i l.items))) ≡ added l.fn.total (items_size (packed_size_within l.depth l.table l.item.0) 0 0 (map plain l.items));
  root : l.path ≡ [];
}

abbrev pub invariant-add_parts-loop-i : goal.invariant-add_parts-loop-i
invariant-add_parts-loop-i l = record {
  rest : added l.total (stations_size l.fields.table.now (packed_size_within l.fields.depth l.fields.table.now) (fields_of l.fields.table.now l.fields.own.0 l.fields.values.now) l.fields.own.0 0 (map entry (placed_from ((l.first).0).0 ((l.first).1 + l.i) (drop l.i l.parts))))
      ≡ added l.fn.total (stations_size l.fields.table.now (packed_size_within l.fields.depth l.fields.table.now) (fields_of l.fields.table.now l.fields.own.0 l.fields.values.now) l.fields.own.0 0 (map entry (placed_from ((l.first).0).0 (l.first).1 l.parts)));
  next : AreNext (fields_of l.fields.table.now l.fields.own.0 l.fields.values.now) (map plain l.fields.values.now) l.used (placed_from ((l.first).0).0 ((l.first).1 + l.i) (drop l.i l.parts));
  used : l.used + values_in (drop l.i l.parts) ≡ l.before + values_in l.parts;
  few : l.used ≤ l.before + l.i;
  root : l.path ≡ [];
}

abbrev pub invariant-add_chain-loop-id : goal.invariant-add_chain-loop-id
invariant-add_chain-loop-id l = record {
  rest : added l.total (stations_size l.fields.table.now (packed_size_within l.fields.depth l.fields.table.now) (fields_of l.fields.table.now l.fields.own.0 l.fields.values.now) l.fields.own.0 0 (flat_map (own_stations l.fields.table.now) (numbers_of (drop l.id-index l.chain))))
      ≡ added l.fn.total (stations_size l.fields.table.now (packed_size_within l.fields.depth l.fields.table.now) (fields_of l.fields.table.now l.fields.own.0 l.fields.values.now) l.fields.own.0 0 (flat_map (own_stations l.fields.table.now) (numbers_of l.chain)));
  next : AreNext (fields_of l.fields.table.now l.fields.own.0 l.fields.values.now) (map plain l.fields.values.now) l.used (entries_in_turn l.fields.table.now (drop l.id-index l.chain));
  used : l.used + valued (entries_in_turn l.fields.table.now (drop l.id-index l.chain)) ≡ valued (entries_in_turn l.fields.table.now l.chain);
  few : l.used ≤ 32767 * l.id-index;
  root : l.path ≡ [];
}

abbrev pub invariant-add_trailers-loop-rest : goal.invariant-add_trailers-loop-rest
invariant-add_trailers-loop-rest l = record {
  rest : added l.total (stations_size l.fields.table.now (packed_size_within l.fields.depth l.fields.table.now) (fields_of l.fields.table.now l.fields.own.0 l.fields.values.now) l.fields.own.0 0 (map entry (trailers_in_turn l.fields.table.now (reverse l.rest))))
      ≡ added l.fn.total (stations_size l.fields.table.now (packed_size_within l.fields.depth l.fields.table.now) (fields_of l.fields.table.now l.fields.own.0 l.fields.values.now) l.fields.own.0 0 (map entry (trailers_in_turn l.fields.table.now (reverse l.chain))));
  next : AreNext (fields_of l.fields.table.now l.fields.own.0 l.fields.values.now) (map plain l.fields.values.now) l.used (trailers_in_turn l.fields.table.now (reverse l.rest));
  low : AllByRecursion (λ (id : TypeId). IsLow l.fields.table.now (l.fields.depth + 1) id.0) l.rest;
  less : length l.rest ≤ length l.chain;
  few : l.used + 32767 * length l.rest ≤ l.before + 32767 * length l.chain;
  root : l.path ≡ [];
}

abbrev pub decreases-add_trailers-loop-rest : goal.decreases-add_trailers-loop-rest
decreases-add_trailers-loop-rest l = length l.rest
