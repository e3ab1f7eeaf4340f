use Rattle.std.proofs.Common.{◌≡◌, ◌≤◌, ◌+◌, ◌*◌, drop, length, map, reverse}
use Rattle.std.specs.List.{AllByRecursion}
use Rattle.eds_base.specs.declared.ids.TypeId.{TypeId}
use Rattle.eds_bits.specs.Bits.{Bits}
use Rattle.eds_bits.specs.Style.{canonical}
use Rattle.eds_types.specs.Plain.{plain}
use Rattle.eds_types.specs.Spelling.{ItemsSpell, SpellsWithin}
use Rattle.eds_pack.specs.Nesting.{IsLow}
use Rattle.eds_pack.specs.Putting.{RunSpells, between, entry_parts, own_octets, trailer_parts}
use Rattle.eds_pack.specs.Seeking.{values_in}
use Rattle.eds_pack.proofs.Putting.{ItemsHalf}
use Rattle.eds_pack.proofs.Runs.{RunHalf}
use Rattle.eds_pack.proofs.write.+write.Given as goal

abbrev pub decreases-write_value : goal.decreases-write_value
decreases-write_value l = 16 * l.depth

abbrev pub decreases-write_items : goal.decreases-write_items
decreases-write_items l = 16 * l.depth + 1

abbrev pub decreases-write_list : goal.decreases-write_list
decreases-write_list l = 16 * l.depth + 2

abbrev pub decreases-write_part : goal.decreases-write_part
decreases-write_part l = 16 * l.fields.now.depth + 3

abbrev pub decreases-write_parts : goal.decreases-write_parts
decreases-write_parts l = 16 * l.fields.now.depth + 4

abbrev pub decreases-write_chain : goal.decreases-write_chain
decreases-write_chain l = 16 * l.fields.now.depth + 5

abbrev pub decreases-write_trailers : goal.decreases-write_trailers
decreases-write_trailers l = 16 * l.fields.now.depth + 5

abbrev pub decreases-write_own : goal.decreases-write_own
decreases-write_own l = 16 * l.fields.now.depth + 6

abbrev pub decreases-write_fields : goal.decreases-write_fields
decreases-write_fields l = 16 * l.depth + 7

abbrev pub decreases-write_row : goal.decreases-write_row
decreases-write_row l = 16 * l.depth + 8

abbrev pub invariant-write_items-loop-value : goal.invariant-write_items-loop-value
invariant-write_items-loop-value l =
    (b : Bits) → ItemsSpell (SpellsWithin l.depth canonical l.table l.item.0) (map plain l.items) b → l.at + length b ≤ 8 * length l.fn.room
    → ItemsHalf (SpellsWithin l.depth canonical l.table l.item.0) (map plain (drop l.value-index l.items)) b l.at l.fn.room l.room l.end

abbrev pub invariant-write_parts-loop-part : goal.invariant-write_parts-loop-part
invariant-write_parts-loop-part l = record {
  half : (b : Bits) → RunSpells l.fields.table.now (SpellsWithin l.fields.depth canonical l.fields.table.now) (own_octets l.fields.table.now l.fields.depth l.fields.own.0 (map plain l.fields.values.now)) (map plain l.fields.values.now) l.before (between l.start l.at l.fn.room) l.parts b → l.at + length b ≤ 8 * length l.fn.room
      → RunHalf l.fields.table.now (SpellsWithin l.fields.depth canonical l.fields.table.now) (own_octets l.fields.table.now l.fields.depth l.fields.own.0 (map plain l.fields.values.now)) (map plain l.fields.values.now) (between l.start l.at l.fn.room) l.used (drop l.part-index l.parts) b l.at l.fn.room l.room l.end;
  used : l.used + values_in (drop l.part-index l.parts) ≡ l.before + values_in l.parts;
  few : l.used ≤ l.before + l.part-index;
}

abbrev pub invariant-write_chain-loop-id : goal.invariant-write_chain-loop-id
invariant-write_chain-loop-id l = record {
  half : (b : Bits) → RunSpells l.fields.table.now (SpellsWithin l.fields.depth canonical l.fields.table.now) (own_octets l.fields.table.now l.fields.depth l.fields.own.0 (map plain l.fields.values.now)) (map plain l.fields.values.now) 0 (between l.start l.at l.fn.room) (entry_parts l.fields.table.now l.chain) b → l.at + length b ≤ 8 * length l.fn.room
      → RunHalf l.fields.table.now (SpellsWithin l.fields.depth canonical l.fields.table.now) (own_octets l.fields.table.now l.fields.depth l.fields.own.0 (map plain l.fields.values.now)) (map plain l.fields.values.now) (between l.start l.at l.fn.room) l.used (entry_parts l.fields.table.now (drop l.id-index l.chain)) b l.at l.fn.room l.room l.end;
  used : l.used + values_in (entry_parts l.fields.table.now (drop l.id-index l.chain)) ≡ values_in (entry_parts l.fields.table.now l.chain);
  few : l.used ≤ 32767 * l.id-index;
}

abbrev pub invariant-write_trailers-loop-rest : goal.invariant-write_trailers-loop-rest
invariant-write_trailers-loop-rest l = record {
  half : (b : Bits) → RunSpells l.fields.table.now (SpellsWithin l.fields.depth canonical l.fields.table.now) (own_octets l.fields.table.now l.fields.depth l.fields.own.0 (map plain l.fields.values.now)) (map plain l.fields.values.now) l.before (between l.start l.at l.fn.room) (trailer_parts l.fields.table.now (reverse l.chain)) b → l.at + length b ≤ 8 * length l.fn.room
      → RunHalf l.fields.table.now (SpellsWithin l.fields.depth canonical l.fields.table.now) (own_octets l.fields.table.now l.fields.depth l.fields.own.0 (map plain l.fields.values.now)) (map plain l.fields.values.now) (between l.start l.at l.fn.room) l.used (trailer_parts l.fields.table.now (reverse l.rest)) b l.at l.fn.room l.room l.end;
  low : AllByRecursion (λ (id : TypeId). IsLow l.fields.table.now (l.fields.depth + 1) id.0) l.rest;
  less : length l.rest ≤ length l.chain;
  few : l.used + 32767 * length l.rest ≤ l.before + 32767 * length l.chain;
}

abbrev pub decreases-write_trailers-loop-rest : goal.decreases-write_trailers-loop-rest
decreases-write_trailers-loop-rest l = length l.rest
