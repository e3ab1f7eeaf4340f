use Rattle.std.proofs.Common.{◌+◌, ◌-◌, ◌<◌, ◌≤◌, [], get_or, sym, ap, ap₂, subst, ◌∙◌, map, drop, take, length, reverse, refl, arith}
use Rattle.std.specs.Prelude.{option_map}
use Rattle.std.specs.Option.{option_copied}
use Rattle.std.specs.List.{AllByRecursion}
use Rattle.std.proofs.lemmas.List.{length-take}
use Rattle.eds_base.specs.declared.ids.TypeId.{TypeId}
use Rattle.eds_bits.specs.Style.{canonical}
use Rattle.std.proofs.lemmas.Int.{to_z-of_z}
use mir.Syntax.{w64}
use Rattle.eds_types.specs.PackedSizes.{told_by}
use Rattle.eds_types.specs.Plain.{plain, num, fields, items, plains_of}
use Rattle.eds_types.specs.Spelling.{ContainerSpells, ItemsSpell, KindSpells, SpellsWithin}
use Rattle.eds_pack.specs.Nesting.{IsLow, PartNests}
use Rattle.eds_pack.specs.Putting.{HasRoom, Writes, FieldsSpell, ListSpells, PartSpells, between, entry_parts, own_octets, trailer_parts}
use Rattle.eds_types.proofs.PlainValues.{plain_fields, plain_items}
use Rattle.eds_pack.specs.Seeking.{values_in}
use Rattle.eds_pack.proofs.Looking.{one_value, values_few, values_left, values_more}
use Rattle.eds_pack.proofs.Nested.{items_left}
use Rattle.eds_pack.proofs.Putting.{ItemsHalf, items_next}
use Rattle.eds_pack.proofs.Ranks.{chain_is_low, entries_nest, trailers_nest, has_low}
use Rattle.eds_pack.proofs.Runs.{RunHalf, run_begin, run_end, part_room, part_written, run_room, run_written, entries_first, trailers_first, last_half, sized, whole_half}
use Rattle.eds_pack.proofs.Spelt.{all_at, all_take, room_as, list_items, own_spells, spells_next, nests_next, part_left}
use Rattle.eds_pack.proofs.Telling.{length_room, length_writes, scale_fits}
use Rattle.eds_pack.proofs.write.+write.Goals as goal

pub write_value-overflow_sub-depth : goal.write_value-overflow_sub-depth
write_value-overflow_sub-depth t c = let low = c.requires.nests.rank c.keeps_rules.ensures in omega arith

pub write_value-write_row-requires : goal.write_value-write_row-requires
write_value-write_row-requires t c =
    let low = c.requires.nests.rank c.keeps_rules.ensures in
    let table = c.args.table.now in let v = plain c.args.value.now in (
      omega (arith, low),
      (
        c.row.ensures,
        (
          nests_next table c.args.depth _ c.args.id.0 (omega (arith, low)) refl c.requires.nests,
          (
            omega (arith, low),
            room_as (SpellsWithin c.args.depth canonical table c.args.id.0 v) (KindSpells canonical table (SpellsWithin (c.args.depth - 1) canonical table) c.args.id.0 c.row.result.now.kind v) c.args.at c.args.room.now
                (spells_next c.args.depth (c.args.depth - 1) table c.args.id.0 c.row.result.now v (omega (arith, low)) refl c.row.ensures) c.requires.room,
          ),
        ),
      ),
    )

pub write_value-returns : goal.write_value-returns
write_value-returns t c b p fits =
    let low = c.requires.nests.rank c.keeps_rules.ensures in
    c.write_row.ensures b (spells_next c.args.depth _ c.args.table.now c.args.id.0 c.row.result.now (plain c.args.value.now) (omega (arith, low)) refl c.row.ensures b p) fits

pub write_list-write_items-requires : goal.write_list-write_items-requires
write_list-write_items-requires t c =
    let E = SpellsWithin c.args.depth canonical c.args.table.now c.args.item.0 in
    let is = ap plain c.in-Items.is ∙ plain_items c.in-Items.items ∙ ap (λ xs. items (plains_of (map plain xs))) (sym c.as_slice.ensures.value) in
    (omega arith, (c.requires.nests, (c.requires.few, room_as (ListSpells E (plain c.args.value.now)) (ItemsSpell E (map plain c.as_slice.result.now)) c.args.at c.args.room.now (list_items E (plain c.args.value.now) (map plain c.as_slice.result.now) is) c.requires.room)))

pub write_list-returns : goal.write_list-returns
write_list-returns t c b p fits =
    let E = SpellsWithin c.args.depth canonical c.args.table.now c.args.item.0 in
    let is = ap plain c.in-Items.is ∙ plain_items c.in-Items.items ∙ ap (λ xs. items (plains_of (map plain xs))) (sym c.as_slice.ensures.value) in
    c.write_items.ensures b (list_items E (plain c.args.value.now) (map plain c.as_slice.result.now) is b p) fits

pub write_items-loop-value-preserved : goal.write_items-loop-value-preserved
write_items-loop-value-preserved t c b p fits =
    let E = SpellsWithin c.args.depth canonical c.args.table.now c.args.item.0 in
    let i = c.loop-value.value-index in let v = c.value-item.result in let xs = c.args.items.now in
    items_next E (plain v) (map plain (drop (i + 1) xs)) b c.args.at c.args.room.now c.loop-value.room c.loop-value.end
    (subst (λ vs. ItemsHalf E vs b c.args.at c.args.room.now c.loop-value.room c.loop-value.end) (items_left xs i v (omega arith) c.value-item.is) (c.loop-value.invariant b p fits)) fits
    c.write_value-end.new.room c.write_value-end.result c.write_value-end.ensures

-- ---- parts

pub write_part-write_value-requires-in-Length : goal.write_part-write_value-requires-in-Length
write_part-write_value-requires-in-Length t c =
    let table = c.args.fields.now.table.now in let C = SpellsWithin c.args.fields.now.depth canonical table in let f = map plain c.args.fields.now.values.now in
    let octets = own_octets table c.args.fields.now.depth c.args.fields.now.own.0 f in
    let nests = subst (PartNests table c.args.fields.now.depth) c.in-Length.is c.requires.nests in
    let small = scale_fits c.in-Length.c0 c.in-Length.c1 nests.1 in
    let h = subst (λ p. HasRoom (PartSpells table C octets (between c.args.start c.args.at c.args.room.now) p (option_map plain (option_copied c.args.value))) c.args.at c.args.room.now) c.in-Length.is c.requires.room in (
      omega arith,
      (
        nests.0,
        (
          omega (arith, c.requires.few),
          length_room table C octets c.in-Length.id c.in-Length.c0 c.in-Length.c1 nests.1 (plain c.length_value-number.result)
              (c.length_value-number.ensures ∙ ap₂ (λ a b. num (told_by a b octets)) (to_z-of_z w64 c.in-Length.c0 small.0) (to_z-of_z w64 c.in-Length.c1 small.1)) c.args.at c.args.room.now h,
        ),
      ),
    )

pub write_part-returns-in-Length : goal.write_part-returns-in-Length
write_part-returns-in-Length t c =
    let table = c.args.fields.now.table.now in let C = SpellsWithin c.args.fields.now.depth canonical table in let f = map plain c.args.fields.now.values.now in
    let octets = own_octets table c.args.fields.now.depth c.args.fields.now.own.0 f in
    let nests = subst (PartNests table c.args.fields.now.depth) c.in-Length.is c.requires.nests in
    let small = scale_fits c.in-Length.c0 c.in-Length.c1 nests.1 in
    subst (λ p. Writes (PartSpells table C octets (between c.args.start c.args.at c.args.room.now) p (option_map plain (option_copied c.args.value))) c.args.at c.args.room.now c.write_value-in-Length.new.room c.write_value-in-Length.result) (sym c.in-Length.is)
    (length_writes table C octets c.in-Length.id c.in-Length.c0 c.in-Length.c1 nests.1 (plain c.length_value-number.result)
    (c.length_value-number.ensures ∙ ap₂ (λ a b. num (told_by a b octets)) (to_z-of_z w64 c.in-Length.c0 small.0) (to_z-of_z w64 c.in-Length.c1 small.1)) c.args.at c.write_value-in-Length.result c.args.room.now c.write_value-in-Length.new.room c.write_value-in-Length.ensures)

pub write_part-returns-in-Check : goal.write_part-returns-in-Check
write_part-returns-in-Check t c =
    let table = c.args.fields.now.table.now in let C = SpellsWithin c.args.fields.now.depth canonical table in let f = map plain c.args.fields.now.values.now in
    let octets = own_octets table c.args.fields.now.depth c.args.fields.now.own.0 f in
    subst (λ p. Writes (PartSpells table C octets (between c.args.start c.args.at c.args.room.now) p (option_map plain (option_copied c.args.value))) c.args.at c.args.room.now c.write_value-in-Check.new.room c.write_value-in-Check.result) (sym c.in-Check.is)
    (subst (λ v. Writes (C c.in-Check.id.0 v) c.args.at c.args.room.now c.write_value-in-Check.new.room c.write_value-in-Check.result) c.check_value-check.ensures c.write_value-in-Check.ensures)

-- ---- parts of a container, one after the other

pub write_parts-loop-part-init : goal.write_parts-loop-part-init
write_parts-loop-part-init t c =
    let table = c.args.fields.now.table.now in let f = map plain c.args.fields.now.values.now in
    record {
      half = λ b s fits. run_begin table (SpellsWithin c.args.fields.now.depth canonical table) (own_octets table c.args.fields.now.depth c.args.fields.now.own.0 f) f (between c.args.start c.args.at c.args.room.now) c.args.before c.args.parts.now b c.args.at c.args.room.now s;
      used = refl;
      few = omega arith;
    }

pub write_parts-write_part-end-requires : goal.write_parts-write_part-end-requires
write_parts-write_part-end-requires t c =
    let table = c.args.fields.now.table.now in let n = c.args.fields.now.depth in let C = SpellsWithin n canonical table in let f = map plain c.args.fields.now.values.now in
    let octets = own_octets table n c.args.fields.now.own.0 f in
    let es = c.args.parts.now in let i = c.loop-part.part-index in let p = c.part-item.result in
    let within : i < length es = omega arith in
    let r = c.requires.room in
    let half = subst (λ ps. RunHalf table C octets f (between c.args.start c.args.at c.args.room.now) c.loop-part.used ps r.bits c.args.at c.args.room.now c.loop-part.room c.loop-part.end) (part_left es i p within c.part-item.is) (c.loop-part.invariant.half r.bits r.has r.fits) in (
      omega arith,
      (
        subst (PartNests table n) (sym c.part-item.is) (all_at (PartNests table n) es i p within c.requires.nests),
        (
          c.requires.few,
          (
            c.requires.low,
            (
              c.requires.sized,
              (
                omega (arith, c.requires.order, (half.put).1),
                part_room table C octets f c.loop-part.used (drop (i + 1) es) r.bits c.args.start c.args.at c.args.room.now c.loop-part.room c.loop-part.end c.requires.order r.fits p half _ c.value_in-value.ensures r.few,
              ),
            ),
          ),
        ),
      ),
    )

pub write_parts-loop-part-preserved : goal.write_parts-loop-part-preserved
write_parts-loop-part-preserved t c =
    let table = c.args.fields.now.table.now in let n = c.args.fields.now.depth in let C = SpellsWithin n canonical table in let f = map plain c.args.fields.now.values.now in
    let octets = own_octets table n c.args.fields.now.own.0 f in
    let es = c.args.parts.now in let i = c.loop-part.part-index in let p = c.part-item.result in
    let within : i < length es = omega arith in
    let one = one_value p in
    record {
      half = λ b s fits.
          subst (λ m. RunHalf table C octets f (between c.args.start c.args.at c.args.room.now) m (drop (i + 1) es) b c.args.at c.args.room.now c.write_part-end.new.room c.write_part-end.result) (sym c.behind-used.ensures)
          (part_written table C octets f c.loop-part.used (drop (i + 1) es) b c.args.start c.args.at c.args.room.now c.loop-part.room c.loop-part.end c.requires.order fits p
          (subst (λ ps. RunHalf table C octets f (between c.args.start c.args.at c.args.room.now) c.loop-part.used ps b c.args.at c.args.room.now c.loop-part.room c.loop-part.end) (part_left es i p within c.part-item.is) (c.loop-part.invariant.half b s fits)) _ c.value_in-value.ensures
          c.write_part-end.new.room c.write_part-end.result c.write_part-end.ensures);
      used = omega (arith, c.behind-used.ensures, c.loop-part.invariant.used, values_left es i p within c.part-item.is);
      few = omega (arith, c.behind-used.ensures, c.loop-part.invariant.few, one);
    }

-- ---- chains

pub write_chain-loop-id-init : goal.write_chain-loop-id-init
write_chain-loop-id-init t c =
    let table = c.args.fields.now.table.now in let f = map plain c.args.fields.now.values.now in
    record {
      half = λ b s fits. run_begin table (SpellsWithin c.args.fields.now.depth canonical table) (own_octets table c.args.fields.now.depth c.args.fields.now.own.0 f) f (between c.args.start c.args.at c.args.room.now) 0 (entry_parts table c.args.chain.now) b c.args.at c.args.room.now s;
      used = omega arith;
      few = omega arith;
    }

pub write_chain-write_parts-after-requires : goal.write_chain-write_parts-after-requires
write_chain-write_parts-after-requires t c =
    let table = c.args.fields.now.table.now in let n = c.args.fields.now.depth in let C = SpellsWithin n canonical table in let f = map plain c.args.fields.now.values.now in
    let octets = own_octets table n c.args.fields.now.own.0 f in
    let ids = c.args.chain.now in let i = c.loop-id.id-index in let es = c.entries_of.result.now in
    let here = (get_or ids i (record { 0 = 0 })).0 in
    let low = all_at (λ (id : TypeId). IsLow table (n + 1) id.0) ids i (record { 0 = 0 }) (omega arith) c.requires.chain in
    let r = c.requires.room in
    let half = subst (λ ps. RunHalf table C octets f (between c.args.start c.args.at c.args.room.now) c.loop-id.used ps r.bits c.args.at c.args.room.now c.loop-id.room c.loop-id.end) (entries_first table ids i (record { 0 = 0 }) es (omega arith) c.entries_of.ensures.value) (c.loop-id.invariant.half r.bits r.has r.fits) in (
      omega arith,
      (
        subst (AllByRecursion (PartNests table n)) (sym c.entries_of.ensures.value) (entries_nest table c.keeps_rules.ensures n here low),
        (
          c.requires.few,
          (
            c.requires.low,
            (
              c.requires.sized,
              (
                omega (arith, c.requires.order, (half.put).1),
                (
                  omega (arith, c.loop-id.invariant.few, c.requires.short, c.entries_of.ensures.few),
                  run_room table C octets f c.loop-id.used (entry_parts table (drop (i + 1) ids)) r.bits c.args.start c.args.at c.args.room.now c.loop-id.room c.loop-id.end c.requires.order r.fits es half r.few,
                ),
              ),
            ),
          ),
        ),
      ),
    )

pub write_chain-loop-id-preserved : goal.write_chain-loop-id-preserved
write_chain-loop-id-preserved t c =
    let table = c.args.fields.now.table.now in let n = c.args.fields.now.depth in let C = SpellsWithin n canonical table in let f = map plain c.args.fields.now.values.now in
    let octets = own_octets table n c.args.fields.now.own.0 f in
    let ids = c.args.chain.now in let i = c.loop-id.id-index in let es = c.entries_of.result.now in
    let left = entries_first table ids i (record { 0 = 0 }) es (omega arith) c.entries_of.ensures.value in
    record {
      half = λ b s fits.
          run_written table C octets f c.loop-id.used (entry_parts table (drop (i + 1) ids)) b c.args.start c.args.at c.args.room.now c.loop-id.room c.loop-id.end c.requires.order fits es
          (subst (λ ps. RunHalf table C octets f (between c.args.start c.args.at c.args.room.now) c.loop-id.used ps b c.args.at c.args.room.now c.loop-id.room c.loop-id.end) left (c.loop-id.invariant.half b s fits))
          c.write_parts-after.result.1 c.write_parts-after.ensures.used c.write_parts-after.new.room c.write_parts-after.result.0 c.write_parts-after.ensures.run;
      used = omega (arith, c.loop-id.invariant.used, c.write_parts-after.ensures.used, ap values_in left, values_more es (entry_parts table (drop (i + 1) ids)));
      few = omega (arith, c.loop-id.invariant.few, c.write_parts-after.ensures.used, values_few es, c.entries_of.ensures.few);
    }

pub write_trailers-loop-rest-init : goal.write_trailers-loop-rest-init
write_trailers-loop-rest-init t c =
    let table = c.args.fields.now.table.now in let f = map plain c.args.fields.now.values.now in
    record {
      half = λ b s fits. run_begin table (SpellsWithin c.args.fields.now.depth canonical table) (own_octets table c.args.fields.now.depth c.args.fields.now.own.0 f) f (between c.args.start c.args.at c.args.room.now) c.args.before (trailer_parts table (reverse c.args.chain.now)) b c.args.at c.args.room.now s;
      low = c.requires.chain;
      less = omega arith;
      few = omega arith;
    }

pub write_trailers-write_parts-after-requires : goal.write_trailers-write_parts-after-requires
write_trailers-write_parts-after-requires t c =
    let table = c.args.fields.now.table.now in let n = c.args.fields.now.depth in let C = SpellsWithin n canonical table in let f = map plain c.args.fields.now.values.now in
    let octets = own_octets table n c.args.fields.now.own.0 f in
    let ids = c.loop-rest.rest.now in let ts = c.trailers_of.result.now in
    let last = (get_or ids (length ids - 1) (record { 0 = 0 })).0 in
    let low = all_at (λ (id : TypeId). IsLow table (n + 1) id.0) ids (length ids - 1) (record { 0 = 0 }) (omega arith) c.loop-rest.invariant.low in
    let r = c.requires.room in
    let half = subst (λ ps. RunHalf table C octets f (between c.args.start c.args.at c.args.room.now) c.loop-rest.used ps r.bits c.args.at c.args.room.now c.loop-rest.room c.loop-rest.end) (trailers_first table ids (record { 0 = 0 }) ts (omega arith) c.trailers_of.ensures.value) (c.loop-rest.invariant.half r.bits r.has r.fits) in (
      omega arith,
      (
        subst (AllByRecursion (PartNests table n)) (sym c.trailers_of.ensures.value) (trailers_nest table c.keeps_rules.ensures n last low),
        (
          c.requires.few,
          (
            c.requires.low,
            (
              c.requires.sized,
              (
                omega (arith, c.requires.order, (half.put).1),
                (
                  omega (arith, c.loop-rest.invariant.few, c.requires.short, c.requires.before, c.trailers_of.ensures.few),
                  run_room table C octets f c.loop-rest.used (trailer_parts table (reverse (take (length ids - 1) ids))) r.bits c.args.start c.args.at c.args.room.now c.loop-rest.room c.loop-rest.end c.requires.order r.fits ts half r.few,
                ),
              ),
            ),
          ),
        ),
      ),
    )

pub write_trailers-loop-rest-preserved : goal.write_trailers-loop-rest-preserved
write_trailers-loop-rest-preserved t c =
    let table = c.args.fields.now.table.now in let n = c.args.fields.now.depth in let C = SpellsWithin n canonical table in let f = map plain c.args.fields.now.values.now in
    let octets = own_octets table n c.args.fields.now.own.0 f in
    let ids = c.loop-rest.rest.now in let ts = c.trailers_of.result.now in
    let left = trailers_first table ids (record { 0 = 0 }) ts (omega arith) c.trailers_of.ensures.value in
    let shorter = length-take (length ids - 1) ids in
    record {
      half = λ b s fits.
          run_written table C octets f c.loop-rest.used (trailer_parts table (reverse (take (length ids - 1) ids))) b c.args.start c.args.at c.args.room.now c.loop-rest.room c.loop-rest.end c.requires.order fits ts
          (subst (λ ps. RunHalf table C octets f (between c.args.start c.args.at c.args.room.now) c.loop-rest.used ps b c.args.at c.args.room.now c.loop-rest.room c.loop-rest.end) left (c.loop-rest.invariant.half b s fits))
          c.write_parts-after.result.1 c.write_parts-after.ensures.used c.write_parts-after.new.room c.write_parts-after.result.0 c.write_parts-after.ensures.run;
      low = all_take (λ (id : TypeId). IsLow table (n + 1) id.0) (length ids - 1) ids c.loop-rest.invariant.low;
      less = omega (arith, shorter, c.loop-rest.invariant.less);
      few = omega (arith, shorter, c.loop-rest.invariant.few, c.write_parts-after.ensures.used, values_few ts, c.trailers_of.ensures.few);
    }

-- ---- a whole container

pub write_own-write_chain-end-requires : goal.write_own-write_chain-end-requires
write_own-write_chain-end-requires t c =
    let table = c.args.fields.now.table.now in let n = c.args.fields.now.depth in let k = c.args.fields.now.own.0 in let f = map plain c.args.fields.now.values.now in let C = SpellsWithin n canonical table in
    let octets = own_octets table n k f in
    let r = c.requires.room in
    let is = c.as_slice.ensures.value ∙ c.chain_of-chain.ensures in
    let low = has_low table (n + 1) c.args.id.0 k c.requires.low (r.has).under in
    let ids = c.as_slice.result.now in
    let short : length ids ≤ 16 = omega (arith, ap length c.as_slice.ensures.value, c.as_slice.ensures.few) in
    let half = whole_half table c.keeps_rules.ensures n c.args.id.0 k (c.requires.low c.keeps_rules.ensures) f c.args.at c.args.room.now ids ids is is r.bits r.has r.fits in (
      omega arith,
      (
        chain_is_low table (n + 1) k ids low is,
        (
          short,
          (
            c.requires.few,
            (
              low,
              (
                sized table c.keeps_rules.ensures n c.args.id.0 k (c.requires.low c.keeps_rules.ensures) f r.bits r.has (omega (arith, r.few)),
                (omega arith, run_room table C octets f 0 (trailer_parts table (reverse ids)) r.bits c.args.at c.args.at c.args.room.now c.args.room.now c.args.at (omega arith) r.fits (entry_parts table ids) half r.few),
              ),
            ),
          ),
        ),
      ),
    )

pub write_own-write_trailers-requires : goal.write_own-write_trailers-requires
write_own-write_trailers-requires t c =
    let table = c.args.fields.now.table.now in let n = c.args.fields.now.depth in let k = c.args.fields.now.own.0 in let f = map plain c.args.fields.now.values.now in let C = SpellsWithin n canonical table in
    let octets = own_octets table n k f in
    let r = c.requires.room in
    let is = c.as_slice.ensures.value ∙ c.chain_of-chain.ensures in
    let same = c.as_slice-2.ensures.value ∙ c.chain_of-chain.ensures in
    let low = has_low table (n + 1) c.args.id.0 k c.requires.low (r.has).under in
    let ids = c.as_slice.result.now in let again = c.as_slice-2.result.now in
    let first : length ids ≤ 16 = omega (arith, ap length c.as_slice.ensures.value, c.as_slice.ensures.few) in
    let short : length again ≤ 16 = omega (arith, ap length c.as_slice-2.ensures.value, c.as_slice-2.ensures.few) in
    let half = whole_half table c.keeps_rules.ensures n c.args.id.0 k (c.requires.low c.keeps_rules.ensures) f c.args.at c.args.room.now ids again is same r.bits r.has r.fits in
    let next = run_written table C octets f 0 (trailer_parts table (reverse again)) r.bits c.args.at c.args.at c.args.room.now c.args.room.now c.args.at (omega arith) r.fits (entry_parts table ids) half c.write_chain-end.result.1 (omega (arith, c.write_chain-end.ensures.used)) c.write_chain-end.new.room c.write_chain-end.result.0 c.write_chain-end.ensures.run in (
      omega arith,
      (
        chain_is_low table (n + 1) k again low same,
        (
          short,
          (
            c.requires.few,
            (
              low,
              (
                sized table c.keeps_rules.ensures n c.args.id.0 k (c.requires.low c.keeps_rules.ensures) f r.bits r.has (omega (arith, r.few)),
                (
                  omega (arith, (next.put).1),
                  (
                    omega (arith, first, c.write_chain-end.ensures.few),
                    run_room table C octets f c.write_chain-end.result.1 [] r.bits c.args.at c.args.at c.args.room.now c.write_chain-end.new.room c.write_chain-end.result.0 (omega arith) r.fits (trailer_parts table (reverse again))
                        (last_half table C octets f (between c.args.at c.args.at c.args.room.now) c.write_chain-end.result.1 (trailer_parts table (reverse again)) r.bits c.args.at c.args.room.now c.write_chain-end.new.room c.write_chain-end.result.0 next) r.few,
                  ),
                ),
              ),
            ),
          ),
        ),
      ),
    )

pub write_own-returns : goal.write_own-returns
write_own-returns t c b p fits =
    let table = c.args.fields.now.table.now in let n = c.args.fields.now.depth in let k = c.args.fields.now.own.0 in let f = map plain c.args.fields.now.values.now in let C = SpellsWithin n canonical table in
    let octets = own_octets table n k f in
    let is = c.as_slice.ensures.value ∙ c.chain_of-chain.ensures in
    let same = c.as_slice-2.ensures.value ∙ c.chain_of-chain.ensures in
    let ids = c.as_slice.result.now in let again = c.as_slice-2.result.now in
    let front = between c.args.at c.args.at c.args.room.now in
    let half = whole_half table c.keeps_rules.ensures n c.args.id.0 k (c.requires.low c.keeps_rules.ensures) f c.args.at c.args.room.now ids again is same b p fits in
    let next = run_written table C octets f 0 (trailer_parts table (reverse again)) b c.args.at c.args.at c.args.room.now c.args.room.now c.args.at (omega arith) fits (entry_parts table ids) half c.write_chain-end.result.1 (omega (arith, c.write_chain-end.ensures.used)) c.write_chain-end.new.room c.write_chain-end.result.0 c.write_chain-end.ensures.run in
    let done = run_written table C octets f c.write_chain-end.result.1 [] b c.args.at c.args.at c.args.room.now c.write_chain-end.new.room c.write_chain-end.result.0 (omega arith) fits (trailer_parts table (reverse again))
    (last_half table C octets f front c.write_chain-end.result.1 (trailer_parts table (reverse again)) b c.args.at c.args.room.now c.write_chain-end.new.room c.write_chain-end.result.0 next)
    (c.write_chain-end.result.1 + values_in (trailer_parts table (reverse again))) refl c.write_trailers.new.room c.write_trailers.result c.write_trailers.ensures in
    run_end table C octets f front (c.write_chain-end.result.1 + values_in (trailer_parts table (reverse again))) [] b c.args.at c.args.room.now c.write_trailers.new.room c.write_trailers.result refl done

pub write_fields-write_own-requires : goal.write_fields-write_own-requires
write_fields-write_own-requires t c =
    let table = c.args.table.now in let C = SpellsWithin c.args.depth canonical table in let k = c.in-Fields.own.0 in let vs = map plain c.as_slice.result.now in let v = plain c.args.value.now in
    let is = ap plain c.in-Fields.is ∙ plain_fields c.in-Fields.own c.in-Fields.values ∙ ap (λ xs. fields k (plains_of (map plain xs))) (sym c.as_slice.ensures.value) in
    (omega arith, (c.requires.nests.rank, (c.requires.few, room_as (FieldsSpell table C c.args.id.0 v) (ContainerSpells canonical table C c.args.id.0 k vs) c.args.at c.args.room.now (own_spells table C c.args.id.0 v k vs is) c.requires.room)))

pub write_fields-returns : goal.write_fields-returns
write_fields-returns t c b p fits =
    let table = c.args.table.now in let C = SpellsWithin c.args.depth canonical table in let k = c.in-Fields.own.0 in let vs = map plain c.as_slice.result.now in let v = plain c.args.value.now in
    let is = ap plain c.in-Fields.is ∙ plain_fields c.in-Fields.own c.in-Fields.values ∙ ap (λ xs. fields k (plains_of (map plain xs))) (sym c.as_slice.ensures.value) in
    c.write_own.ensures b (own_spells table C c.args.id.0 v k vs is b p) fits
