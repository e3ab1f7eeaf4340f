use Rattle.std.proofs.Common.{◌≡◌, ◌+◌, ◌-◌, ◌≤◌, pos, nat_abs, ◌+ℤ◌, ◌*ℤ◌, true, false, [], ◌∷◌, ◌++◌, length, Some, Err, refl, sym, ap, subst, ◌∙◌, arith, rules, get_or, take, drop}
use Rattle.std.specs.Prelude.{◌^◌, IfSome, IfOk, IfErr}
use Rattle.eds_base.specs.declared.fault.Reason.TheVariants.{FixedDiffers, CheckDiffers, LengthDiffers, NoDerived}
use Rattle.eds_bits.specs.Reader.{bits_left}
use Rattle.eds_bits.specs.Scalars.{check_of}
use Rattle.eds_types.specs.Failing.{fault_at}
use Rattle.eds_types.specs.Fields.{type_by}
use Rattle.eds_types.specs.Plain.{plain, num, items, plains_of}
use Rattle.eds_types.specs.Reading.{advance, expected, judge, judged, number_in, read_items, read_part, read_within, under}
use Rattle.eds_types.specs.Spelling.{with_bits, with_value}
use Rattle.eds_unpack.specs.Entries.{placed, IsLow, PartIsRead}
use Rattle.eds_unpack.specs.Walks.{IsWalking, IsPassed, Stands}
use Rattle.eds_unpack.proofs.Levels.{next_level}
use Rattle.eds_unpack.proofs.OnReads.{items_move, value_moves, moves}
use Rattle.eds_unpack.proofs.Steps.{length_number, entries_low, items_more, under_ends, near_low, near_most, trailers_low}
use Rattle.eds_unpack.proofs.WalkParts.{check_goes, check_is, entry_goes, fixed_goes, fixed_value, follows_of, if_err, int_is_num, judged_moves, length_goes, length_is, list_count, list_goes, low_there, moved_short, next_of, none_is, on_ok, outer_none, outer_noted, outer_weak, pad_goes, part_lower, passed_moves, plain_goes, some_number, sum_expected, tail_answer, tail_outer, walking_on, walking_told}
use Rattle.std.proofs.lemmas.Result.{err_from_is_err_and}
use Rattle.std.proofs.lemmas.List.{drop_more}
use Rattle.std.proofs.lemmas.Int.{to_z-of_z}
use mir.Syntax.{w128}
use mir.Val.{SFits, of_z, to_z}
use Rattle.std.specs.List.{AllByRecursion}
use Rattle.eds_types.specs.Rows.{chain, placed_from, entries_of}
use Rattle.eds_types.proofs.Candidates.{numbers_are}
use Rattle.eds_types.proofs.ChainLaws.{itself_in}
use Rattle.eds_types.proofs.RuleFacts.{table_of}
use Rattle.eds_unpack.proofs.AskedPaths.{entries_placed, rank_of_chain, trailers_placed}
use Rattle.eds_unpack.proofs.Labels.{kind_listed}
use Rattle.eds_unpack.proofs.Ranks.{child_is_low, item_is_read}
use Rattle.eds_unpack.proofs.WalkEnds.{child_has, child_rank_back, all_asked, chosen, container_passed, fewer, items_still, keeps_both, walk_nowhere, walk_stay_compares, walk_stay_ends, walk_stay_fails, walk_under_fails, walk_under_goes}
use Rattle.eds_unpack.proofs.walk.+walk.Goals.{walk_under-else-loop-test, walk_under-then-loop-test+in-Nowhere}
use Rattle.eds_types.specs.Choices.{IsNear}
use Rattle.eds_unpack.proofs.StraightReads.{part_left}
use Rattle.eds_unpack.proofs.WalkLists.{chain_begins, chain_fault, chain_goes, chain_has, chain_rank, chain_unmet, chain_walks, keeps_none, keeps_other, keeps_then, last_has, last_item, last_rank, left_before, low_along, no_items, parts_fault, parts_goes, trailers_fault, trailers_goes, trailers_passed}
use Rattle.eds_unpack.proofs.walk.+walk.Goals as goal
use Rattle.eds_base.specs.declared.fault.Step.TheVariants as step

-- ---- values

pub walk_value-walk_row-requires : goal.walk_value-walk_row-requires
walk_value-walk_row-requires t c =
    let low = c.requires.inner.low.low in
    let k : c.args.walk.now.depth ≡ c.args.walk.now.depth - 1 + 1 = omega arith in
    (omega arith, (c.requires.notes, (c.requires.room, (subst (λ n. IsLow c.args.walk.now.table.now n c.args.id.0) k c.requires.inner.low, (c.row.ensures, (omega arith, (c.requires.short, c.requires.root)))))))

pub walk_value-returns-clause-passed : goal.walk_value-returns-clause-passed
walk_value-returns-clause-passed t c =
    let low = c.requires.inner.low.low in
    subst (λ q. IfOk c.walk_row.result (IsPassed c.args.walk.now.table.now c.args.walk.now.notes.now c.args.id.0 c.walk_row.new.numbers q (bits_left c.walk_row.new.reader))) (sym (next_level c.args.walk.now.depth c.args.walk.now.table.now c.args.id.0 c.row.result.now (bits_left c.args.reader.now) (λ z. omega arith) c.row.ensures)) c.walk_row.ensures.passed

pub walk_value-returns-clause-fault : goal.walk_value-returns-clause-fault
walk_value-returns-clause-fault t c =
    let low = c.requires.inner.low.low in
    subst (λ q. IfErr c.walk_row.result (λ r. q ≡ Err (fault_at r c.walk_row.new.path))) (sym (next_level c.args.walk.now.depth c.args.walk.now.table.now c.args.id.0 c.row.result.now (bits_left c.args.reader.now) (λ z. omega arith) c.row.ensures)) c.walk_row.ensures.fault

pub walk_row-skim_label-requires : goal.walk_row-skim_label-requires
walk_row-skim_label-requires t c =
    kind_listed c.args.row.now.kind c.in-Enum.form c.in-Enum.listing c.in-Enum.is (c.keeps_rules.ensures.kinds c.args.id.0 c.args.row.now c.requires.known)

pub walk_row-walk_items-requires : goal.walk_row-walk_items-requires
walk_row-walk_items-requires t c =
    (omega arith, (c.requires.notes, (c.requires.room, (item_is_read c.args.walk.now.table.now c.requires.inner.rules c.args.walk.now.depth c.args.id.0 c.requires.inner.low c.args.row.now c.in-Arr.item c.in-Arr.count c.requires.known c.in-Arr.is, (c.requires.few, (c.requires.short, c.requires.root))))))

-- ---- items

pub walk_items-loop-id-preserved : goal.walk_items-loop-id-preserved
walk_items-loop-id-preserved t c =
    let on = value_moves c.args.walk.now.depth c.args.walk.now.table.now c.args.id.0 (bits_left c.loop-id.reader) c.in_default.ensures.passed.value (bits_left c.walk_value.new.reader) c.in_default.ensures.passed.is in
    let less = fewer (bits_left c.loop-id.reader) (bits_left c.walk_value.new.reader) on (λ e. c.if-left.false (c.left.ensures ∙ e ∙ sym c.left-left.ensures)) in
    record {
      root = c.in_default.ensures.calm;
      outer = keeps_then c.args.walk.now.table.now c.args.walk.now.notes.now c.args.id.0 _ _ _ c.loop-id.invariant.outer c.in_default.ensures.outer;
      moved = moves (bits_left c.args.reader.now) (bits_left c.loop-id.reader) (bits_left c.walk_value.new.reader) c.loop-id.invariant.moved on;
      few = omega (arith, less, c.loop-id.invariant.few);
      read = (c.loop-id.invariant.read.0 ++ c.in_default.ensures.passed.value ∷ [], items_more (read_within c.args.walk.now.depth c.args.walk.now.table.now c.args.id.0) c.args.count c.loop-id.place (c.loop-id.place + 1) c.loop-id.invariant.read.0 _ (bits_left c.loop-id.reader) c.in_default.ensures.passed.value (bits_left c.walk_value.new.reader) _ refl refl (omega (arith, c.from.ensures, c.loop-id-test.true)) c.in_default.ensures.passed.is c.loop-id.invariant.read.1);
    }

pub walk_items-returns-then-left-clause-passed : goal.walk_items-returns-then-left-clause-passed
walk_items-returns-then-left-clause-passed t c =
    let on = value_moves c.args.walk.now.depth c.args.walk.now.table.now c.args.id.0 (bits_left c.loop-id.reader) c.in_default.ensures.passed.value (bits_left c.walk_value.new.reader) c.in_default.ensures.passed.is in
    items_still (read_within c.args.walk.now.depth c.args.walk.now.table.now c.args.id.0) c.args.count c.loop-id.place c.loop-id.invariant.read.0 (bits_left c.loop-id.reader) (bits_left c.walk_value.new.reader) c.in_default.ensures.passed.value _ c.in_default.ensures.passed.is on (sym c.left.ensures ∙ c.if-left.true ∙ c.left-left.ensures) c.loop-id.invariant.read.1

-- ---- parts

pub walk_part-keep_octets-requires-clause-number : goal.walk_part-keep_octets-requires-clause-number
walk_part-keep_octets-requires-clause-number t c = subst (λ o. IfSome o (λ n. nat_abs n ≤ 2 ^ 64)) (sym (some_number c.args.walk.now.table.now c.in-Length.id.0 c.in_ok-seen-in-Length.seen.number c.in_ok-seen-in-Length.ensures.passed.value (int_is_num c.args.walk.now.table.now c.args.walk.now.depth c.in-Length.id.0 (bits_left c.args.reader.now) c.in_ok-seen-in-Length.ensures.passed.value (bits_left c.walk_value-in-Length.new.reader) c.in_ok-seen-in-Length.ensures.passed.is (length_is c.args.walk.now.table.now c.args.part.now c.in-Length.field-0 c.in-Length.id c.in-Length.c0 c.in-Length.c1 c.in-Length.is c.requires.inner.length).0).0 c.in_ok-seen-in-Length.ensures.passed.number (int_is_num c.args.walk.now.table.now c.args.walk.now.depth c.in-Length.id.0 (bits_left c.args.reader.now) c.in_ok-seen-in-Length.ensures.passed.value (bits_left c.walk_value-in-Length.new.reader) c.in_ok-seen-in-Length.ensures.passed.is (length_is c.args.walk.now.table.now c.args.part.now c.in-Length.field-0 c.in-Length.id c.in-Length.c0 c.in-Length.c1 c.in-Length.is c.requires.inner.length).0).1)) (length_number c.args.walk.now.table.now c.args.walk.now.depth c.in-Length.id.0 (bits_left c.args.reader.now) c.in_ok-seen-in-Length.ensures.passed.value (bits_left c.walk_value-in-Length.new.reader) (int_is_num c.args.walk.now.table.now c.args.walk.now.depth c.in-Length.id.0 (bits_left c.args.reader.now) c.in_ok-seen-in-Length.ensures.passed.value (bits_left c.walk_value-in-Length.new.reader) c.in_ok-seen-in-Length.ensures.passed.is (length_is c.args.walk.now.table.now c.args.part.now c.in-Length.field-0 c.in-Length.id c.in-Length.c0 c.in-Length.c1 c.in-Length.is c.requires.inner.length).0).0 c.requires.low.rules (length_is c.args.walk.now.table.now c.args.part.now c.in-Length.field-0 c.in-Length.id c.in-Length.c0 c.in-Length.c1 c.in-Length.is c.requires.inner.length).0 c.in_ok-seen-in-Length.ensures.passed.is (ap number_in (int_is_num c.args.walk.now.table.now c.args.walk.now.depth c.in-Length.id.0 (bits_left c.args.reader.now) c.in_ok-seen-in-Length.ensures.passed.value (bits_left c.walk_value-in-Length.new.reader) c.in_ok-seen-in-Length.ensures.passed.is (length_is c.args.walk.now.table.now c.args.part.now c.in-Length.field-0 c.in-Length.id c.in-Length.c0 c.in-Length.c1 c.in-Length.is c.requires.inner.length).0).1))

pub walk_part-returns-else-is_sum-clause-fault : goal.walk_part-returns-else-is_sum-clause-fault
walk_part-returns-else-is_sum-clause-fault t c = λ done s at new told. ap (λ q. read_part c.args.walk.now.table.now (read_within c.args.walk.now.depth c.args.walk.now.table.now) s (placed c.args.container.0 c.args.place c.args.part.now) q (bits_left c.args.reader.now)) c.in-Check.is ∙ ap (λ m. advance (λ u d. with_bits s d) (bits_left c.args.reader.now) (judge (expected (num (pos m)) CheckDiffers) (read_within c.args.walk.now.depth c.args.walk.now.table.now c.in-Check.id.0 (bits_left c.args.reader.now)))) (ap (check_of c.in-Check.check) at.before ∙ sym c.sum_of-sum.ensures) ∙ ap (λ r. advance (λ u d. with_bits s d) (bits_left c.args.reader.now) (judge (expected (num (pos c.sum_of-sum.result)) CheckDiffers) r)) c.in_ok-seen-in-Check.ensures.passed.is ∙ ap (λ r. advance (λ u d. with_bits s d) (bits_left c.args.reader.now) (judged (bits_left c.walk_value-in-Check.new.reader) r)) (ap (expected (num (pos c.sum_of-sum.result)) CheckDiffers) (int_is_num c.args.walk.now.table.now c.args.walk.now.depth c.in-Check.id.0 (bits_left c.args.reader.now) c.in_ok-seen-in-Check.ensures.passed.value (bits_left c.walk_value-in-Check.new.reader) c.in_ok-seen-in-Check.ensures.passed.is (check_is c.args.walk.now.table.now c.requires.low.rules c.args.container.0 c.args.place c.args.part.now c.in-Check.field-0 c.in-Check.id c.in-Check.check c.requires.stands c.in-Check.is)).1 ∙ sum_expected c.sum_of-sum.result (int_is_num c.args.walk.now.table.now c.args.walk.now.depth c.in-Check.id.0 (bits_left c.args.reader.now) c.in_ok-seen-in-Check.ensures.passed.value (bits_left c.walk_value-in-Check.new.reader) c.in_ok-seen-in-Check.ensures.passed.is (check_is c.args.walk.now.table.now c.requires.low.rules c.args.container.0 c.args.place c.args.part.now c.in-Check.field-0 c.in-Check.id c.in-Check.check c.requires.stands c.in-Check.is)).0 c.in_ok-seen-in-Check.seen.number false (some_number c.args.walk.now.table.now c.in-Check.id.0 c.in_ok-seen-in-Check.seen.number c.in_ok-seen-in-Check.ensures.passed.value (int_is_num c.args.walk.now.table.now c.args.walk.now.depth c.in-Check.id.0 (bits_left c.args.reader.now) c.in_ok-seen-in-Check.ensures.passed.value (bits_left c.walk_value-in-Check.new.reader) c.in_ok-seen-in-Check.ensures.passed.is (check_is c.args.walk.now.table.now c.requires.low.rules c.args.container.0 c.args.place c.args.part.now c.in-Check.field-0 c.in-Check.id c.in-Check.check c.requires.stands c.in-Check.is)).0 c.in_ok-seen-in-Check.ensures.passed.number (int_is_num c.args.walk.now.table.now c.args.walk.now.depth c.in-Check.id.0 (bits_left c.args.reader.now) c.in_ok-seen-in-Check.ensures.passed.value (bits_left c.walk_value-in-Check.new.reader) c.in_ok-seen-in-Check.ensures.passed.is (check_is c.args.walk.now.table.now c.requires.low.rules c.args.container.0 c.args.place c.args.part.now c.in-Check.field-0 c.in-Check.id c.in-Check.check c.requires.stands c.in-Check.is)).1) (sym c.is_sum.ensures ∙ c.if-is_sum.false)) ∙ ap (λ q. Err (fault_at CheckDiffers q)) (sym c.in_ok-seen-in-Check.ensures.calm)

pub walk_part-returns-else-is_sum-clause-outer : goal.walk_part-returns-else-is_sum-clause-outer
walk_part-returns-else-is_sum-clause-outer t c = outer_weak c.args.walk.now.table.now c.args.walk.now.notes.now c.in-Check.id.0 c.args.container.0 _ _ (λ rs. part_lower c.args.walk.now.table.now rs c.args.container.0 c.args.place c.args.part.now c.in-Check.id.0 c.requires.stands (ap (λ p. type_by (Some p)) c.in-Check.is)) c.in_ok-seen-in-Check.ensures.outer

pub walk_part-returns-in-Fixed-clause-begun : goal.walk_part-returns-in-Fixed-clause-begun
walk_part-returns-in-Fixed-clause-begun t c = on_ok c.skim_fixed.result (λ e. walking_on c.args.walked.now (bits_left c.args.reader.now) (bits_left c.skim_fixed.new.reader) c.requires.begun (judged_moves c.args.walk.now.depth c.args.walk.now.table.now c.in-Fixed.id.0 (bits_left c.args.reader.now) (expected (plain c.in-Fixed.fixed) FixedDiffers) tt (bits_left c.skim_fixed.new.reader) (ap (judge (expected (plain c.in-Fixed.fixed) FixedDiffers)) (next_level c.args.walk.now.depth c.args.walk.now.table.now c.in-Fixed.id.0 c.row.result.now (bits_left c.args.reader.now) (low_there c.args.walk.now.table.now c.args.walk.now.depth c.in-Fixed.id.0 (c.requires.inner.inner c.in-Fixed.id.0 (ap (λ p. type_by (Some p)) c.in-Fixed.is))) c.row.ensures) ∙ e))) (c.skim_fixed.ensures.read c.args.walk.now.table.now (read_within (c.args.walk.now.depth - 1) c.args.walk.now.table.now) c.in-Fixed.id.0)

pub walk_part-returns-in-Fixed-clause-fault : goal.walk_part-returns-in-Fixed-clause-fault
walk_part-returns-in-Fixed-clause-fault t c = if_err c.skim_fixed.result (λ r e done s at new told. ap (λ q. read_part c.args.walk.now.table.now (read_within c.args.walk.now.depth c.args.walk.now.table.now) s (placed c.args.container.0 c.args.place c.args.part.now) q (bits_left c.args.reader.now)) c.in-Fixed.is ∙ ap (advance (λ u d. with_bits s d) (bits_left c.args.reader.now)) (ap (judge (expected (plain c.in-Fixed.fixed) FixedDiffers)) (next_level c.args.walk.now.depth c.args.walk.now.table.now c.in-Fixed.id.0 c.row.result.now (bits_left c.args.reader.now) (low_there c.args.walk.now.table.now c.args.walk.now.depth c.in-Fixed.id.0 (c.requires.inner.inner c.in-Fixed.id.0 (ap (λ p. type_by (Some p)) c.in-Fixed.is))) c.row.ensures) ∙ e) ∙ ap (λ q. Err (fault_at r q)) (sym c.requires.root)) (c.skim_fixed.ensures.fault c.args.walk.now.table.now (read_within (c.args.walk.now.depth - 1) c.args.walk.now.table.now) c.in-Fixed.id.0)

pub walk_part-returns-in-Fixed-clause-passed : goal.walk_part-returns-in-Fixed-clause-passed
walk_part-returns-in-Fixed-clause-passed t c = on_ok c.skim_fixed.result (λ e done s at new told. fixed_goes c.args.walk.now.table.now c.requires.low.rules c.args.walk.now.notes.now (follows_of c.args.walk.now.table.now c.requires.low.rules c.args.walk.now.notes.now c.requires.notes) (next_of c.args.walk.now.table.now c.args.walk.now.notes.now c.requires.notes) c.args.walk.now.depth c.args.walked.now c.args.numbers.now (bits_left c.args.reader.now) (bits_left c.skim_fixed.new.reader) done s c.args.container.0 c.args.place at new c.requires.begun.begun (judged_moves c.args.walk.now.depth c.args.walk.now.table.now c.in-Fixed.id.0 (bits_left c.args.reader.now) (expected (plain c.in-Fixed.fixed) FixedDiffers) tt (bits_left c.skim_fixed.new.reader) (ap (judge (expected (plain c.in-Fixed.fixed) FixedDiffers)) (next_level c.args.walk.now.depth c.args.walk.now.table.now c.in-Fixed.id.0 c.row.result.now (bits_left c.args.reader.now) (low_there c.args.walk.now.table.now c.args.walk.now.depth c.in-Fixed.id.0 (c.requires.inner.inner c.in-Fixed.id.0 (ap (λ p. type_by (Some p)) c.in-Fixed.is))) c.row.ensures) ∙ e)) c.args.part.now c.in-Fixed.field-0 c.in-Fixed.id c.in-Fixed.fixed c.args.numbers.now c.in-Fixed.is (part_lower c.args.walk.now.table.now c.requires.low.rules c.args.container.0 c.args.place c.args.part.now c.in-Fixed.id.0 c.requires.stands (ap (λ p. type_by (Some p)) c.in-Fixed.is)) (outer_none c.args.walk.now.table.now c.args.walk.now.notes.now c.in-Fixed.id.0 c.args.numbers.now) (ap (judge (expected (plain c.in-Fixed.fixed) FixedDiffers)) (next_level c.args.walk.now.depth c.args.walk.now.table.now c.in-Fixed.id.0 c.row.result.now (bits_left c.args.reader.now) (low_there c.args.walk.now.table.now c.args.walk.now.depth c.in-Fixed.id.0 (c.requires.inner.inner c.in-Fixed.id.0 (ap (λ p. type_by (Some p)) c.in-Fixed.is))) c.row.ensures) ∙ e)) (c.skim_fixed.ensures.read c.args.walk.now.table.now (read_within (c.args.walk.now.depth - 1) c.args.walk.now.table.now) c.in-Fixed.id.0)

pub walk_part-returns-in-List-clause-begun : goal.walk_part-returns-in-List-clause-begun
walk_part-returns-in-List-clause-begun t c = on_ok c.walk_items.result (λ e. walking_on c.args.walked.now (bits_left c.args.reader.now) (bits_left c.walk_items.new.reader) c.requires.begun (items_move c.args.walk.now.depth c.args.walk.now.table.now c.in-List.id.0 c.count_noted-count.result (bits_left c.args.reader.now) e.0 (bits_left c.walk_items.new.reader) e.1)) c.walk_items.ensures.passed

pub walk_part-returns-in-List-clause-fault : goal.walk_part-returns-in-List-clause-fault
walk_part-returns-in-List-clause-fault t c = if_err c.walk_items.result (λ r e done s at new told. ap (λ q. read_part c.args.walk.now.table.now (read_within c.args.walk.now.depth c.args.walk.now.table.now) s (placed c.args.container.0 c.args.place c.args.part.now) q (bits_left c.args.reader.now)) c.in-List.is ∙ ap (λ m. advance (λ us d. with_value s (placed c.args.container.0 c.args.place c.args.part.now) (items (plains_of us)) d) (bits_left c.args.reader.now) (read_items (read_within c.args.walk.now.depth c.args.walk.now.table.now c.in-List.id.0) m 0 (bits_left c.args.reader.now))) (sym (list_count c.args.walk.now.table.now c.requires.low.rules c.args.walk.now.notes.now c.requires.notes c.args.walked.now c.args.numbers.now (bits_left c.args.reader.now) done s c.args.container.0 c.args.place at c.args.part.now c.in-List.field-0 c.in-List.id c.in-List.teller c.in-List.told c.in-List.is c.requires.stands told c.count_noted-count.result (c.count_noted-count.ensures c.args.walk.now.table.now s.fields))) ∙ ap (advance (λ us d. with_value s (placed c.args.container.0 c.args.place c.args.part.now) (items (plains_of us)) d) (bits_left c.args.reader.now)) e) c.walk_items.ensures.fault

pub walk_part-returns-in-List-clause-outer : goal.walk_part-returns-in-List-clause-outer
walk_part-returns-in-List-clause-outer t c = outer_weak c.args.walk.now.table.now c.args.walk.now.notes.now c.in-List.id.0 c.args.container.0 _ _ (λ rs. part_lower c.args.walk.now.table.now rs c.args.container.0 c.args.place c.args.part.now c.in-List.id.0 c.requires.stands (ap (λ p. type_by (Some p)) c.in-List.is)) c.walk_items.ensures.outer

pub walk_part-returns-in-List-clause-passed : goal.walk_part-returns-in-List-clause-passed
walk_part-returns-in-List-clause-passed t c = on_ok c.walk_items.result (λ e done s at new told. list_goes c.args.walk.now.table.now c.requires.low.rules c.args.walk.now.notes.now (follows_of c.args.walk.now.table.now c.requires.low.rules c.args.walk.now.notes.now c.requires.notes) (next_of c.args.walk.now.table.now c.args.walk.now.notes.now c.requires.notes) c.args.walk.now.depth c.args.walked.now c.args.numbers.now (bits_left c.args.reader.now) (bits_left c.walk_items.new.reader) done s c.args.container.0 c.args.place at new c.requires.begun.begun (items_move c.args.walk.now.depth c.args.walk.now.table.now c.in-List.id.0 c.count_noted-count.result (bits_left c.args.reader.now) e.0 (bits_left c.walk_items.new.reader) e.1) c.args.part.now c.in-List.field-0 c.in-List.id c.in-List.teller c.in-List.told c.count_noted-count.result e.0 c.walk_items.new.numbers c.in-List.is c.requires.stands (part_lower c.args.walk.now.table.now c.requires.low.rules c.args.container.0 c.args.place c.args.part.now c.in-List.id.0 c.requires.stands (ap (λ p. type_by (Some p)) c.in-List.is)) c.walk_items.ensures.outer (list_count c.args.walk.now.table.now c.requires.low.rules c.args.walk.now.notes.now c.requires.notes c.args.walked.now c.args.numbers.now (bits_left c.args.reader.now) done s c.args.container.0 c.args.place at c.args.part.now c.in-List.field-0 c.in-List.id c.in-List.teller c.in-List.told c.in-List.is c.requires.stands told c.count_noted-count.result (c.count_noted-count.ensures c.args.walk.now.table.now s.fields)) e.1) c.walk_items.ensures.passed

pub walk_part-returns-in-Pad-clause-begun : goal.walk_part-returns-in-Pad-clause-begun
walk_part-returns-in-Pad-clause-begun t c = on_ok c.skim_padding.result (λ e. walking_on c.args.walked.now (bits_left c.args.reader.now) (bits_left c.skim_padding.new.reader) c.requires.begun (passed_moves c.in-Pad.bits (bits_left c.args.reader.now) (bits_left c.skim_padding.new.reader) e)) c.skim_padding.ensures.read

pub walk_part-returns-in-Pad-clause-passed : goal.walk_part-returns-in-Pad-clause-passed
walk_part-returns-in-Pad-clause-passed t c = on_ok c.skim_padding.result (λ e done s at new told. pad_goes c.args.walk.now.table.now c.requires.low.rules c.args.walk.now.notes.now (follows_of c.args.walk.now.table.now c.requires.low.rules c.args.walk.now.notes.now c.requires.notes) (next_of c.args.walk.now.table.now c.args.walk.now.notes.now c.requires.notes) c.args.walk.now.depth c.args.walked.now c.args.numbers.now (bits_left c.args.reader.now) (bits_left c.skim_padding.new.reader) done s c.args.container.0 c.args.place at new c.requires.begun.begun (passed_moves c.in-Pad.bits (bits_left c.args.reader.now) (bits_left c.skim_padding.new.reader) e) c.args.part.now c.in-Pad.bits c.in-Pad.is e) c.skim_padding.ensures.read

pub walk_part-returns-in_err-seen-in-Check-clause-outer : goal.walk_part-returns-in_err-seen-in-Check-clause-outer
walk_part-returns-in_err-seen-in-Check-clause-outer t c = outer_weak c.args.walk.now.table.now c.args.walk.now.notes.now c.in-Check.id.0 c.args.container.0 _ _ (λ rs. part_lower c.args.walk.now.table.now rs c.args.container.0 c.args.place c.args.part.now c.in-Check.id.0 c.requires.stands (ap (λ p. type_by (Some p)) c.in-Check.is)) c.in_err-seen-in-Check.ensures.outer

pub walk_part-returns-in_err-seen-in-Length-clause-outer : goal.walk_part-returns-in_err-seen-in-Length-clause-outer
walk_part-returns-in_err-seen-in-Length-clause-outer t c = outer_weak c.args.walk.now.table.now c.args.walk.now.notes.now c.in-Length.id.0 c.args.container.0 _ _ (λ rs. part_lower c.args.walk.now.table.now rs c.args.container.0 c.args.place c.args.part.now c.in-Length.id.0 c.requires.stands (ap (λ p. type_by (Some p)) c.in-Length.is)) c.in_err-seen-in-Length.ensures.outer

pub walk_part-returns-in_err-seen-in-Plain-clause-outer : goal.walk_part-returns-in_err-seen-in-Plain-clause-outer
walk_part-returns-in_err-seen-in-Plain-clause-outer t c = outer_weak c.args.walk.now.table.now c.args.walk.now.notes.now c.in-Plain.id.0 c.args.container.0 _ _ (λ rs. part_lower c.args.walk.now.table.now rs c.args.container.0 c.args.place c.args.part.now c.in-Plain.id.0 c.requires.stands (ap (λ p. type_by (Some p)) c.in-Plain.is)) c.in_err-seen-in-Plain.ensures.outer

pub walk_part-returns-in_ok-seen-in-Length-clause-begun : goal.walk_part-returns-in_ok-seen-in-Length-clause-begun
walk_part-returns-in_ok-seen-in-Length-clause-begun t c = on_ok c.keep_octets.result (λ e. walking_told c.args.walked.now c.keep_octets.new.walked (bits_left c.args.reader.now) (bits_left c.walk_value-in-Length.new.reader) c.requires.begun (value_moves c.args.walk.now.depth c.args.walk.now.table.now c.in-Length.id.0 (bits_left c.args.reader.now) c.in_ok-seen-in-Length.ensures.passed.value (bits_left c.walk_value-in-Length.new.reader) c.in_ok-seen-in-Length.ensures.passed.is) c.keep_octets.ensures.start e) c.keep_octets.ensures.few

pub walk_part-returns-in_ok-seen-in-Length-clause-outer : goal.walk_part-returns-in_ok-seen-in-Length-clause-outer
walk_part-returns-in_ok-seen-in-Length-clause-outer t c = outer_weak c.args.walk.now.table.now c.args.walk.now.notes.now c.in-Length.id.0 c.args.container.0 _ _ (λ rs. part_lower c.args.walk.now.table.now rs c.args.container.0 c.args.place c.args.part.now c.in-Length.id.0 c.requires.stands (ap (λ p. type_by (Some p)) c.in-Length.is)) c.in_ok-seen-in-Length.ensures.outer

pub walk_part-returns-in_ok-seen-in-Length-clause-passed : goal.walk_part-returns-in_ok-seen-in-Length-clause-passed
walk_part-returns-in_ok-seen-in-Length-clause-passed t c = on_ok c.keep_octets.result (λ e done s at new told. length_goes c.args.walk.now.table.now c.requires.low.rules c.args.walk.now.notes.now (follows_of c.args.walk.now.table.now c.requires.low.rules c.args.walk.now.notes.now c.requires.notes) (next_of c.args.walk.now.table.now c.args.walk.now.notes.now c.requires.notes) c.args.walk.now.depth c.args.walked.now c.args.numbers.now (bits_left c.args.reader.now) (bits_left c.walk_value-in-Length.new.reader) done s c.args.container.0 c.args.place at new c.requires.begun.begun (value_moves c.args.walk.now.depth c.args.walk.now.table.now c.in-Length.id.0 (bits_left c.args.reader.now) c.in_ok-seen-in-Length.ensures.passed.value (bits_left c.walk_value-in-Length.new.reader) c.in_ok-seen-in-Length.ensures.passed.is) c.args.part.now c.in-Length.field-0 c.in-Length.id c.in-Length.c0 c.in-Length.c1 (int_is_num c.args.walk.now.table.now c.args.walk.now.depth c.in-Length.id.0 (bits_left c.args.reader.now) c.in_ok-seen-in-Length.ensures.passed.value (bits_left c.walk_value-in-Length.new.reader) c.in_ok-seen-in-Length.ensures.passed.is (length_is c.args.walk.now.table.now c.args.part.now c.in-Length.field-0 c.in-Length.id c.in-Length.c0 c.in-Length.c1 c.in-Length.is c.requires.inner.length).0).0 c.in_ok-seen-in-Length.ensures.passed.value c.keep_octets.new.walked c.walk_value-in-Length.new.numbers c.in-Length.is (part_lower c.args.walk.now.table.now c.requires.low.rules c.args.container.0 c.args.place c.args.part.now c.in-Length.id.0 c.requires.stands (ap (λ p. type_by (Some p)) c.in-Length.is)) c.in_ok-seen-in-Length.ensures.outer c.in_ok-seen-in-Length.ensures.passed.is (int_is_num c.args.walk.now.table.now c.args.walk.now.depth c.in-Length.id.0 (bits_left c.args.reader.now) c.in_ok-seen-in-Length.ensures.passed.value (bits_left c.walk_value-in-Length.new.reader) c.in_ok-seen-in-Length.ensures.passed.is (length_is c.args.walk.now.table.now c.args.part.now c.in-Length.field-0 c.in-Length.id c.in-Length.c0 c.in-Length.c1 c.in-Length.is c.requires.inner.length).0).1 (subst (λ o. IfSome o (λ n. c.keep_octets.new.walked.octets ≡ Some (c.in-Length.c0 +ℤ (c.in-Length.c1 *ℤ n)))) (some_number c.args.walk.now.table.now c.in-Length.id.0 c.in_ok-seen-in-Length.seen.number c.in_ok-seen-in-Length.ensures.passed.value (int_is_num c.args.walk.now.table.now c.args.walk.now.depth c.in-Length.id.0 (bits_left c.args.reader.now) c.in_ok-seen-in-Length.ensures.passed.value (bits_left c.walk_value-in-Length.new.reader) c.in_ok-seen-in-Length.ensures.passed.is (length_is c.args.walk.now.table.now c.args.part.now c.in-Length.field-0 c.in-Length.id c.in-Length.c0 c.in-Length.c1 c.in-Length.is c.requires.inner.length).0).0 c.in_ok-seen-in-Length.ensures.passed.number (int_is_num c.args.walk.now.table.now c.args.walk.now.depth c.in-Length.id.0 (bits_left c.args.reader.now) c.in_ok-seen-in-Length.ensures.passed.value (bits_left c.walk_value-in-Length.new.reader) c.in_ok-seen-in-Length.ensures.passed.is (length_is c.args.walk.now.table.now c.args.part.now c.in-Length.field-0 c.in-Length.id c.in-Length.c0 c.in-Length.c1 c.in-Length.is c.requires.inner.length).0).1) e) c.keep_octets.ensures.start) c.keep_octets.ensures.told

pub walk_part-returns-in_ok-seen-in-Plain-clause-begun : goal.walk_part-returns-in_ok-seen-in-Plain-clause-begun
walk_part-returns-in_ok-seen-in-Plain-clause-begun t c = walking_on c.args.walked.now (bits_left c.args.reader.now) (bits_left c.walk_value.new.reader) c.requires.begun (value_moves c.args.walk.now.depth c.args.walk.now.table.now c.in-Plain.id.0 (bits_left c.args.reader.now) c.in_ok-seen-in-Plain.ensures.passed.value (bits_left c.walk_value.new.reader) c.in_ok-seen-in-Plain.ensures.passed.is)

pub walk_part-returns-in_ok-seen-in-Plain-clause-outer : goal.walk_part-returns-in_ok-seen-in-Plain-clause-outer
walk_part-returns-in_ok-seen-in-Plain-clause-outer t c = outer_noted c.args.walk.now.table.now c.args.walk.now.notes.now c.in-Plain.id.0 c.args.container.0 c.args.place c.in_ok-seen-in-Plain.seen.number _ _ _ (λ rs. part_lower c.args.walk.now.table.now rs c.args.container.0 c.args.place c.args.part.now c.in-Plain.id.0 c.requires.stands (ap (λ p. type_by (Some p)) c.in-Plain.is)) c.in_ok-seen-in-Plain.ensures.outer (record { long = c.note_field.ensures.long; others = c.note_field.ensures.others; last = c.note_field.ensures.last; longer = c.note_field.ensures.longer })

pub walk_part-returns-in_ok-seen-in-Plain-clause-passed : goal.walk_part-returns-in_ok-seen-in-Plain-clause-passed
walk_part-returns-in_ok-seen-in-Plain-clause-passed t c = λ done s at new told. plain_goes c.args.walk.now.table.now c.requires.low.rules c.args.walk.now.notes.now (follows_of c.args.walk.now.table.now c.requires.low.rules c.args.walk.now.notes.now c.requires.notes) (next_of c.args.walk.now.table.now c.args.walk.now.notes.now c.requires.notes) c.args.walk.now.depth c.args.walked.now c.args.numbers.now (bits_left c.args.reader.now) (bits_left c.walk_value.new.reader) done s c.args.container.0 c.args.place at new c.requires.begun.begun (value_moves c.args.walk.now.depth c.args.walk.now.table.now c.in-Plain.id.0 (bits_left c.args.reader.now) c.in_ok-seen-in-Plain.ensures.passed.value (bits_left c.walk_value.new.reader) c.in_ok-seen-in-Plain.ensures.passed.is) c.args.part.now c.in-Plain.field-0 c.in-Plain.id c.in-Plain.is c.requires.stands (part_lower c.args.walk.now.table.now c.requires.low.rules c.args.container.0 c.args.place c.args.part.now c.in-Plain.id.0 c.requires.stands (ap (λ p. type_by (Some p)) c.in-Plain.is)) c.walk_value.new.numbers c.note_field.new.numbers c.in_ok-seen-in-Plain.ensures.outer c.in_ok-seen-in-Plain.seen c.in_ok-seen-in-Plain.ensures.passed (record { long = c.note_field.ensures.long; others = c.note_field.ensures.others; last = c.note_field.ensures.last; longer = c.note_field.ensures.longer }) (λ v e i. int_is_num c.args.walk.now.table.now c.args.walk.now.depth c.in-Plain.id.0 (bits_left c.args.reader.now) v (bits_left c.walk_value.new.reader) e i)

pub walk_part-returns-then-is_sum-clause-begun : goal.walk_part-returns-then-is_sum-clause-begun
walk_part-returns-then-is_sum-clause-begun t c = walking_on c.args.walked.now (bits_left c.args.reader.now) (bits_left c.walk_value-in-Check.new.reader) c.requires.begun (value_moves c.args.walk.now.depth c.args.walk.now.table.now c.in-Check.id.0 (bits_left c.args.reader.now) c.in_ok-seen-in-Check.ensures.passed.value (bits_left c.walk_value-in-Check.new.reader) c.in_ok-seen-in-Check.ensures.passed.is)

pub walk_part-returns-then-is_sum-clause-outer : goal.walk_part-returns-then-is_sum-clause-outer
walk_part-returns-then-is_sum-clause-outer t c = outer_weak c.args.walk.now.table.now c.args.walk.now.notes.now c.in-Check.id.0 c.args.container.0 _ _ (λ rs. part_lower c.args.walk.now.table.now rs c.args.container.0 c.args.place c.args.part.now c.in-Check.id.0 c.requires.stands (ap (λ p. type_by (Some p)) c.in-Check.is)) c.in_ok-seen-in-Check.ensures.outer

pub walk_part-returns-then-is_sum-clause-passed : goal.walk_part-returns-then-is_sum-clause-passed
walk_part-returns-then-is_sum-clause-passed t c = λ done s at new told. check_goes c.args.walk.now.table.now c.requires.low.rules c.args.walk.now.notes.now (follows_of c.args.walk.now.table.now c.requires.low.rules c.args.walk.now.notes.now c.requires.notes) (next_of c.args.walk.now.table.now c.args.walk.now.notes.now c.requires.notes) c.args.walk.now.depth c.args.walked.now c.args.numbers.now (bits_left c.args.reader.now) (bits_left c.walk_value-in-Check.new.reader) done s c.args.container.0 c.args.place at new c.requires.begun.begun (value_moves c.args.walk.now.depth c.args.walk.now.table.now c.in-Check.id.0 (bits_left c.args.reader.now) c.in_ok-seen-in-Check.ensures.passed.value (bits_left c.walk_value-in-Check.new.reader) c.in_ok-seen-in-Check.ensures.passed.is) c.args.part.now c.in-Check.field-0 c.in-Check.id c.in-Check.check c.sum_of-sum.result c.in_ok-seen-in-Check.ensures.passed.value c.walk_value-in-Check.new.numbers c.in-Check.is (part_lower c.args.walk.now.table.now c.requires.low.rules c.args.container.0 c.args.place c.args.part.now c.in-Check.id.0 c.requires.stands (ap (λ p. type_by (Some p)) c.in-Check.is)) c.in_ok-seen-in-Check.ensures.outer c.sum_of-sum.ensures c.in_ok-seen-in-Check.ensures.passed.is (ap (expected (num (pos c.sum_of-sum.result)) CheckDiffers) (int_is_num c.args.walk.now.table.now c.args.walk.now.depth c.in-Check.id.0 (bits_left c.args.reader.now) c.in_ok-seen-in-Check.ensures.passed.value (bits_left c.walk_value-in-Check.new.reader) c.in_ok-seen-in-Check.ensures.passed.is (check_is c.args.walk.now.table.now c.requires.low.rules c.args.container.0 c.args.place c.args.part.now c.in-Check.field-0 c.in-Check.id c.in-Check.check c.requires.stands c.in-Check.is)).1 ∙ sum_expected c.sum_of-sum.result (int_is_num c.args.walk.now.table.now c.args.walk.now.depth c.in-Check.id.0 (bits_left c.args.reader.now) c.in_ok-seen-in-Check.ensures.passed.value (bits_left c.walk_value-in-Check.new.reader) c.in_ok-seen-in-Check.ensures.passed.is (check_is c.args.walk.now.table.now c.requires.low.rules c.args.container.0 c.args.place c.args.part.now c.in-Check.field-0 c.in-Check.id c.in-Check.check c.requires.stands c.in-Check.is)).0 c.in_ok-seen-in-Check.seen.number true (some_number c.args.walk.now.table.now c.in-Check.id.0 c.in_ok-seen-in-Check.seen.number c.in_ok-seen-in-Check.ensures.passed.value (int_is_num c.args.walk.now.table.now c.args.walk.now.depth c.in-Check.id.0 (bits_left c.args.reader.now) c.in_ok-seen-in-Check.ensures.passed.value (bits_left c.walk_value-in-Check.new.reader) c.in_ok-seen-in-Check.ensures.passed.is (check_is c.args.walk.now.table.now c.requires.low.rules c.args.container.0 c.args.place c.args.part.now c.in-Check.field-0 c.in-Check.id c.in-Check.check c.requires.stands c.in-Check.is)).0 c.in_ok-seen-in-Check.ensures.passed.number (int_is_num c.args.walk.now.table.now c.args.walk.now.depth c.in-Check.id.0 (bits_left c.args.reader.now) c.in_ok-seen-in-Check.ensures.passed.value (bits_left c.walk_value-in-Check.new.reader) c.in_ok-seen-in-Check.ensures.passed.is (check_is c.args.walk.now.table.now c.requires.low.rules c.args.container.0 c.args.place c.args.part.now c.in-Check.field-0 c.in-Check.id c.in-Check.check c.requires.stands c.in-Check.is)).1) (sym c.is_sum.ensures ∙ c.if-is_sum.true))

pub walk_part-row-requires : goal.walk_part-row-requires
walk_part-row-requires t c = (c.requires.inner.inner c.in-Fixed.id.0 (ap (λ p. type_by (Some p)) c.in-Fixed.is)).there

pub walk_part-skim_fixed-requires-clause-value : goal.walk_part-skim_fixed-requires-clause-value
walk_part-skim_fixed-requires-clause-value t c = fixed_value c.args.walk.now.table.now c.requires.low.rules c.args.container.0 c.args.place c.args.part.now c.in-Fixed.field-0 c.in-Fixed.id c.in-Fixed.fixed c.row.result.now c.requires.stands c.in-Fixed.is c.row.ensures

pub walk_part-walk_items-requires : goal.walk_part-walk_items-requires
walk_part-walk_items-requires t c = (omega arith, (c.requires.notes, (c.requires.room, (c.requires.inner.inner c.in-List.id.0 (ap (λ p. type_by (Some p)) c.in-List.is), (c.requires.few, (moved_short (bits_left c.args.walked.now.start) (bits_left c.args.reader.now) 524288 c.requires.begun.begun c.requires.short, c.requires.root))))))

pub walk_part-walk_value-requires : goal.walk_part-walk_value-requires
walk_part-walk_value-requires t c = (omega arith, (c.requires.notes, (c.requires.room, (c.requires.inner.inner c.in-Plain.id.0 (ap (λ p. type_by (Some p)) c.in-Plain.is), (omega arith, (moved_short (bits_left c.args.walked.now.start) (bits_left c.args.reader.now) 524288 c.requires.begun.begun c.requires.short, c.requires.root))))))

pub walk_part-walk_value-requires-in-Check : goal.walk_part-walk_value-requires-in-Check
walk_part-walk_value-requires-in-Check t c = (omega arith, (c.requires.notes, (c.requires.room, (c.requires.inner.inner c.in-Check.id.0 (ap (λ p. type_by (Some p)) c.in-Check.is), (omega arith, (moved_short (bits_left c.args.walked.now.start) (bits_left c.args.reader.now) 524288 c.requires.begun.begun c.requires.short, c.requires.root))))))

pub walk_part-walk_value-requires-in-Length : goal.walk_part-walk_value-requires-in-Length
walk_part-walk_value-requires-in-Length t c = (omega arith, (c.requires.notes, (c.requires.room, (c.requires.inner.inner c.in-Length.id.0 (ap (λ p. type_by (Some p)) c.in-Length.is), (omega arith, (moved_short (bits_left c.args.walked.now.start) (bits_left c.args.reader.now) 524288 c.requires.begun.begun c.requires.short, c.requires.root))))))

pub walk_entry-returns-in-Ok-clause-passed : goal.walk_entry-returns-in-Ok-clause-passed
walk_entry-returns-in-Ok-clause-passed t c = λ done s at new told. entry_goes c.args.walk.now.table.now c.args.walk.now.notes.now (read_within c.args.walk.now.depth c.args.walk.now.table.now) c.args.container.0 c.walk_part.new.walked c.walk_part.new.numbers (bits_left c.args.reader.now) (bits_left c.walk_part.new.reader) done s c.args.container.0 c.args.place c.args.part.now (sym c.open_bits.ensures ∙ none_is c.open_bits.result c.in_default.not-Some) (c.in-Ok.ensures.passed done s at new told)

pub walk_entry-returns-in-Some-clause-begun : goal.walk_entry-returns-in-Some-clause-begun
walk_entry-returns-in-Some-clause-begun t c = on_ok c.walk_tail.result (λ on. subst (λ u. IsWalking u (bits_left c.walk_tail.new.reader)) (sym c.walk_tail.ensures.same) (walking_on c.args.walked.now (bits_left c.args.reader.now) (bits_left c.walk_tail.new.reader) c.requires.begun on)) c.walk_tail.ensures.on

pub walk_entry-returns-in-Some-clause-outer : goal.walk_entry-returns-in-Some-clause-outer
walk_entry-returns-in-Some-clause-outer t c = tail_outer c.args.walk.now.table.now c.requires.low.rules c.args.walk.now.notes.now c.args.container.0 c.args.place c.args.part.now c.requires.stands c.in-Some.most (sym c.open_bits.ensures ∙ c.in-Some.is) c.args.numbers.now c.walk_tail.new.numbers c.walk_tail.result c.walk_tail.ensures.noted c.walk_tail.ensures.still

pub walk_entry-returns-in-Some-clause-passed : goal.walk_entry-returns-in-Some-clause-passed
walk_entry-returns-in-Some-clause-passed t c = tail_answer c.args.walk.now.table.now c.requires.low.rules c.args.walk.now.notes.now c.requires.notes c.args.walk.now.depth c.args.container.0 c.args.place c.args.part.now c.requires.stands c.in-Some.most (sym c.open_bits.ensures ∙ c.in-Some.is) c.args.walked.now c.walk_tail.new.walked c.args.numbers.now c.walk_tail.new.numbers (bits_left c.args.reader.now) (bits_left c.walk_tail.new.reader) c.requires.begun.begun c.walk_tail.result c.walk_tail.ensures.same c.walk_tail.ensures.on c.walk_tail.ensures.noted c.walk_tail.ensures.passed

pub walk_parts-loop-part-preserved : goal.walk_parts-loop-part-preserved
walk_parts-loop-part-preserved t c =
    let first = part_left c.args.parts.now c.loop-part.part-index c.part-item.result (omega arith) c.part-item.is in
    let parts = subst (AllByRecursion (PartIsRead c.args.walk.now.table.now c.args.walk.now.depth)) first c.loop-part.invariant.inner in
    let placed = subst (λ ps. AllByRecursion (Stands c.args.walk.now.table.now) (placed_from c.args.container.0 c.loop-part.place ps)) first c.loop-part.invariant.stands in
    record {
      root = c.in_ok-walk_entry.ensures.calm;
      outer = keeps_then c.args.walk.now.table.now c.args.walk.now.notes.now c.args.container.0 c.args.numbers.now c.loop-part.numbers c.walk_entry.new.numbers c.loop-part.invariant.outer c.in_ok-walk_entry.ensures.outer;
      start = c.in_ok-walk_entry.ensures.start ∙ c.loop-part.invariant.start;
      begun = c.in_ok-walk_entry.ensures.begun;
      many = omega (arith, c.loop-part.invariant.many);
      inner = parts.1;
      stands = placed.1;
      at = parts_goes c.args.walk.now.table.now c.args.walk.now.depth c.args.walk.now.notes.now c.args.container.0 c.args.first c.args.parts.now c.args.walked.now c.args.numbers.now (bits_left c.args.reader.now) c.loop-part.walked c.loop-part.numbers (bits_left c.loop-part.reader) c.loop-part.place c.part-item.result _ (drop c.loop-part.part-index c.args.parts.now) first c.loop-part.invariant.at c.requires.low.rules c.walk_entry.new.walked c.walk_entry.new.numbers (bits_left c.walk_entry.new.reader) c.in_ok-walk_entry.ensures.passed;
    }

pub walk_parts-returns-in_err-walk_entry-clause-fault : goal.walk_parts-returns-in_err-walk_entry-clause-fault
walk_parts-returns-in_err-walk_entry-clause-fault t c =
    let p = err_from_is_err_and c.from_residual.result c.from_residual.ensures.1 in
    let first = part_left c.args.parts.now c.loop-part.part-index c.part-item.result (omega arith) c.part-item.is in
    rw (p.1, p.2) (parts_fault c.args.walk.now.table.now c.args.walk.now.depth c.args.walk.now.notes.now c.args.container.0 c.args.first c.args.parts.now c.args.walked.now c.args.numbers.now (bits_left c.args.reader.now) c.loop-part.walked c.loop-part.numbers (bits_left c.loop-part.reader) c.loop-part.place c.part-item.result _ (drop c.loop-part.part-index c.args.parts.now) first c.loop-part.invariant.at c.requires.low.rules (fault_at c.in_err-walk_entry.field-0.0 c.walk_entry.new.path) c.in_err-walk_entry.ensures.fault)

-- ---- chains

pub walk_chain-loop-one-init : goal.walk_chain-loop-one-init
walk_chain-loop-one-init t c = record {
  root = c.requires.root;
  outer = keeps_none c.args.walk.now.table.now c.args.walk.now.notes.now c.args.id.0 c.args.numbers.now;
  start = refl;
  begun = chain_walks c.args.walk.now.table.now c.args.walk.now.depth c.args.walk.now.notes.now c.args.id.0 (bits_left c.args.reader.now) c.args.walked.now c.requires.first c.requires.told;
  at = chain_begins c.args.walk.now.table.now c.args.walk.now.depth c.args.walk.now.notes.now c.args.id.0 (bits_left c.args.reader.now) c.args.walked.now c.args.numbers.now c.args.chain.now c.requires.chain c.requires.first c.requires.told;
}

pub walk_chain-check_noted-requires-clause-near : goal.walk_chain-check_noted-requires-clause-near
walk_chain-check_noted-requires-clause-near t c =
    let first = drop_more c.args.chain.now c.loop-one.one-index (record { 0 = 0 }) (omega arith) in
    let low = low_along c.args.walk.now.table.now (c.args.walk.now.depth + 1) c.args.id.0 (get_or c.args.chain.now c.loop-one.one-index (record { 0 = 0 })).0 c.requires.low (chain_has c.args.walk.now.table.now c.args.walk.now.depth c.args.walk.now.notes.now c.args.id.0 (bits_left c.args.reader.now) c.loop-one.walked c.loop-one.numbers (bits_left c.loop-one.reader) (get_or c.args.chain.now c.loop-one.one-index (record { 0 = 0 })) _ (drop c.loop-one.one-index c.args.chain.now) first c.loop-one.invariant.at) in
    subst (AllByRecursion (IsNear 32)) (sym c.constraints_of.ensures) (near_most c.args.walk.now.table.now c.args.walk.now.depth (get_or c.args.chain.now c.loop-one.one-index (record { 0 = 0 })).0 c.requires.few low)

pub walk_chain-returns-in_err-check_noted-clause-fault : goal.walk_chain-returns-in_err-check_noted-clause-fault
walk_chain-returns-in_err-check_noted-clause-fault t c =
    let p = err_from_is_err_and c.from_residual.result c.from_residual.ensures.1 in
    let first = drop_more c.args.chain.now c.loop-one.one-index (record { 0 = 0 }) (omega arith) in
    rw (p.1, p.2) (chain_unmet c.args.walk.now.table.now c.args.walk.now.depth c.args.walk.now.notes.now c.args.id.0 (bits_left c.args.reader.now) c.loop-one.walked c.loop-one.numbers (bits_left c.loop-one.reader) (get_or c.args.chain.now c.loop-one.one-index (record { 0 = 0 })) _ (drop c.loop-one.one-index c.args.chain.now) first c.loop-one.invariant.at c.requires.low.rules c.requires.notes c.constraints_of.result.now c.constraints_of.ensures (fault_at c.in_err-check_noted.field-0.0 c.check_noted.new.path) c.in_err-check_noted.ensures.stops)

pub walk_chain-returns-in_err-check_noted-clause-near : goal.walk_chain-returns-in_err-check_noted-clause-near
walk_chain-returns-in_err-check_noted-clause-near t c =
    let first = drop_more c.args.chain.now c.loop-one.one-index (record { 0 = 0 }) (omega arith) in
    let low = low_along c.args.walk.now.table.now (c.args.walk.now.depth + 1) c.args.id.0 (get_or c.args.chain.now c.loop-one.one-index (record { 0 = 0 })).0 c.requires.low (chain_has c.args.walk.now.table.now c.args.walk.now.depth c.args.walk.now.notes.now c.args.id.0 (bits_left c.args.reader.now) c.loop-one.walked c.loop-one.numbers (bits_left c.loop-one.reader) (get_or c.args.chain.now c.loop-one.one-index (record { 0 = 0 })) _ (drop c.loop-one.one-index c.args.chain.now) first c.loop-one.invariant.at) in
    let most = c.in_err-check_noted.ensures.near (c.args.walk.now.depth + 1) (subst (AllByRecursion (IsNear (c.args.walk.now.depth + 1))) (sym c.constraints_of.ensures) (near_low c.args.walk.now.table.now c.args.walk.now.depth (get_or c.args.chain.now c.loop-one.one-index (record { 0 = 0 })).0 low)) in
    omega arith

pub walk_chain-walk_parts-requires : goal.walk_chain-walk_parts-requires
walk_chain-walk_parts-requires t c =
    let first = drop_more c.args.chain.now c.loop-one.one-index (record { 0 = 0 }) (omega arith) in
    let low = low_along c.args.walk.now.table.now (c.args.walk.now.depth + 1) c.args.id.0 (get_or c.args.chain.now c.loop-one.one-index (record { 0 = 0 })).0 c.requires.low (chain_has c.args.walk.now.table.now c.args.walk.now.depth c.args.walk.now.notes.now c.args.id.0 (bits_left c.args.reader.now) c.loop-one.walked c.loop-one.numbers (bits_left c.loop-one.reader) (get_or c.args.chain.now c.loop-one.one-index (record { 0 = 0 })) _ (drop c.loop-one.one-index c.args.chain.now) first c.loop-one.invariant.at) in (
      omega arith,
      (
        c.requires.notes,
        (
          omega (arith, c.requires.room, c.loop-one.invariant.outer.long),
          (
            low,
            (
              subst (AllByRecursion (PartIsRead c.args.walk.now.table.now c.args.walk.now.depth)) (sym c.entries_of-entries.ensures.value) (entries_low c.args.walk.now.table.now c.args.walk.now.depth (get_or c.args.chain.now c.loop-one.one-index (record { 0 = 0 })).0 low),
              (
                subst (λ ps. AllByRecursion (Stands c.args.walk.now.table.now) (placed_from (get_or c.args.chain.now c.loop-one.one-index (record { 0 = 0 })).0 0 ps)) (sym c.entries_of-entries.ensures.value) (entries_placed c.args.walk.now.table.now (get_or c.args.chain.now c.loop-one.one-index (record { 0 = 0 })).0),
                (omega (arith, c.entries_of-entries.ensures.few), (c.requires.few, (c.loop-one.invariant.begun, (subst (λ z. length (bits_left z) ≤ 524288) (sym c.loop-one.invariant.start) c.requires.short, c.in_ok-check_noted.ensures.calm)))),
              ),
            ),
          ),
        ),
      ),
    )

pub walk_chain-returns-in_err-walk_parts-clause-fault : goal.walk_chain-returns-in_err-walk_parts-clause-fault
walk_chain-returns-in_err-walk_parts-clause-fault t c =
    let p = err_from_is_err_and c.from_residual-in_err-walk_parts.result c.from_residual-in_err-walk_parts.ensures.1 in
    let first = drop_more c.args.chain.now c.loop-one.one-index (record { 0 = 0 }) (omega arith) in
    rw (p.1, p.2) (chain_fault c.args.walk.now.table.now c.args.walk.now.depth c.args.walk.now.notes.now c.args.id.0 (bits_left c.args.reader.now) c.loop-one.walked c.loop-one.numbers (bits_left c.loop-one.reader) (get_or c.args.chain.now c.loop-one.one-index (record { 0 = 0 })) _ (drop c.loop-one.one-index c.args.chain.now) first c.loop-one.invariant.at c.requires.low.rules c.requires.notes c.constraints_of.result.now c.constraints_of.ensures c.in_ok-check_noted.ensures.passes c.entries_of-entries.result.now c.entries_of-entries.ensures.value (fault_at c.in_err-walk_parts.field-0.0 c.walk_parts.new.path) c.in_err-walk_parts.ensures.fault)

pub walk_chain-returns-in_err-walk_parts-clause-outer : goal.walk_chain-returns-in_err-walk_parts-clause-outer
walk_chain-returns-in_err-walk_parts-clause-outer t c =
    let first = drop_more c.args.chain.now c.loop-one.one-index (record { 0 = 0 }) (omega arith) in
    keeps_then c.args.walk.now.table.now c.args.walk.now.notes.now c.args.id.0 c.args.numbers.now c.loop-one.numbers c.walk_parts.new.numbers c.loop-one.invariant.outer (keeps_other c.args.walk.now.table.now c.args.walk.now.notes.now (get_or c.args.chain.now c.loop-one.one-index (record { 0 = 0 })).0 c.args.id.0 c.loop-one.numbers c.walk_parts.new.numbers (chain_rank c.args.walk.now.table.now c.args.walk.now.depth c.args.walk.now.notes.now c.args.id.0 (bits_left c.args.reader.now) c.loop-one.walked c.loop-one.numbers (bits_left c.loop-one.reader) (get_or c.args.chain.now c.loop-one.one-index (record { 0 = 0 })) _ (drop c.loop-one.one-index c.args.chain.now) first c.loop-one.invariant.at) c.in_err-walk_parts.ensures.outer)

pub walk_chain-loop-one-preserved : goal.walk_chain-loop-one-preserved
walk_chain-loop-one-preserved t c =
    let first = drop_more c.args.chain.now c.loop-one.one-index (record { 0 = 0 }) (omega arith) in
    record {
      root = c.in_ok-walk_parts.ensures.calm;
      outer = keeps_then c.args.walk.now.table.now c.args.walk.now.notes.now c.args.id.0 c.args.numbers.now c.loop-one.numbers c.walk_parts.new.numbers c.loop-one.invariant.outer (keeps_other c.args.walk.now.table.now c.args.walk.now.notes.now (get_or c.args.chain.now c.loop-one.one-index (record { 0 = 0 })).0 c.args.id.0 c.loop-one.numbers c.walk_parts.new.numbers (chain_rank c.args.walk.now.table.now c.args.walk.now.depth c.args.walk.now.notes.now c.args.id.0 (bits_left c.args.reader.now) c.loop-one.walked c.loop-one.numbers (bits_left c.loop-one.reader) (get_or c.args.chain.now c.loop-one.one-index (record { 0 = 0 })) _ (drop c.loop-one.one-index c.args.chain.now) first c.loop-one.invariant.at) c.in_ok-walk_parts.ensures.outer);
      start = c.in_ok-walk_parts.ensures.start ∙ c.loop-one.invariant.start;
      begun = c.in_ok-walk_parts.ensures.begun;
      at = chain_goes c.args.walk.now.table.now c.args.walk.now.depth c.args.walk.now.notes.now c.args.id.0 (bits_left c.args.reader.now) c.loop-one.walked c.loop-one.numbers (bits_left c.loop-one.reader) (get_or c.args.chain.now c.loop-one.one-index (record { 0 = 0 })) _ (drop c.loop-one.one-index c.args.chain.now) first c.loop-one.invariant.at c.requires.low.rules c.requires.notes c.constraints_of.result.now c.constraints_of.ensures c.in_ok-check_noted.ensures.passes c.entries_of-entries.result.now c.entries_of-entries.ensures.value c.walk_parts.new.walked c.walk_parts.new.numbers (bits_left c.walk_parts.new.reader) c.in_ok-walk_parts.ensures.passed;
    }

-- ---- trailers

pub walk_trailers-loop-rest-preserved : goal.walk_trailers-loop-rest-preserved
walk_trailers-loop-rest-preserved t c =
    let last = last_item c.loop-rest.rest.now (record { 0 = 0 }) (omega (arith, c.in-len1-up.len_at_least)) in
    record {
      root = c.in_ok-walk_parts.ensures.calm;
      outer = keeps_then c.args.walk.now.table.now c.args.walk.now.notes.now c.args.id.0 c.args.numbers.now c.loop-rest.numbers c.walk_parts.new.numbers c.loop-rest.invariant.outer (keeps_other c.args.walk.now.table.now c.args.walk.now.notes.now (get_or c.loop-rest.rest.now (length c.loop-rest.rest.now - 1) (record { 0 = 0 })).0 c.args.id.0 c.loop-rest.numbers c.walk_parts.new.numbers (last_rank c.args.walk.now.table.now c.args.walk.now.depth c.args.walk.now.notes.now c.args.id.0 c.args.walked.now c.args.numbers.now (bits_left c.args.reader.now) c.loop-rest.walked c.loop-rest.numbers (bits_left c.loop-rest.reader) (get_or c.loop-rest.rest.now (length c.loop-rest.rest.now - 1) (record { 0 = 0 })) (take (length c.loop-rest.rest.now - 1) c.loop-rest.rest.now) c.loop-rest.rest.now last c.loop-rest.invariant.left) c.in_ok-walk_parts.ensures.outer);
      start = c.in_ok-walk_parts.ensures.start ∙ c.loop-rest.invariant.start;
      begun = c.in_ok-walk_parts.ensures.begun;
      left = left_before c.args.walk.now.table.now c.args.walk.now.depth c.args.walk.now.notes.now c.args.id.0 c.args.walked.now c.args.numbers.now (bits_left c.args.reader.now) c.loop-rest.walked c.loop-rest.numbers (bits_left c.loop-rest.reader) (get_or c.loop-rest.rest.now (length c.loop-rest.rest.now - 1) (record { 0 = 0 })) (take (length c.loop-rest.rest.now - 1) c.loop-rest.rest.now) c.loop-rest.rest.now last c.loop-rest.invariant.left;
      at = trailers_goes c.args.walk.now.table.now c.args.walk.now.depth c.args.walk.now.notes.now c.args.id.0 c.args.walked.now c.args.numbers.now (bits_left c.args.reader.now) c.loop-rest.walked c.loop-rest.numbers (bits_left c.loop-rest.reader) (get_or c.loop-rest.rest.now (length c.loop-rest.rest.now - 1) (record { 0 = 0 })) (take (length c.loop-rest.rest.now - 1) c.loop-rest.rest.now) c.loop-rest.rest.now last c.loop-rest.invariant.left c.loop-rest.invariant.at c.entries_of.result.now c.trailers_of-trailers.result.now c.entries_of.ensures.value c.trailers_of-trailers.ensures.value c.walk_parts.new.walked c.walk_parts.new.numbers (bits_left c.walk_parts.new.reader) c.in_ok-walk_parts.ensures.passed;
    }

pub walk_trailers-returns-clause-passed : goal.walk_trailers-returns-clause-passed
walk_trailers-returns-clause-passed t c = trailers_passed c.args.walk.now.table.now c.args.walk.now.depth c.args.walk.now.notes.now c.args.id.0 c.args.walked.now c.args.numbers.now (bits_left c.args.reader.now) c.loop-rest.walked c.loop-rest.numbers (bits_left c.loop-rest.reader) c.loop-rest.rest.now (no_items c.loop-rest.rest.now c.in_default.len_below) c.loop-rest.invariant.at

pub walk_trailers-returns-in_err-walk_parts-clause-fault : goal.walk_trailers-returns-in_err-walk_parts-clause-fault
walk_trailers-returns-in_err-walk_parts-clause-fault t c =
    let p = err_from_is_err_and c.from_residual.result c.from_residual.ensures.1 in
    let last = last_item c.loop-rest.rest.now (record { 0 = 0 }) (omega (arith, c.in-len1-up.len_at_least)) in
    rw (p.1, p.2) (trailers_fault c.args.walk.now.table.now c.args.walk.now.depth c.args.walk.now.notes.now c.args.id.0 c.args.walked.now c.args.numbers.now (bits_left c.args.reader.now) c.loop-rest.walked c.loop-rest.numbers (bits_left c.loop-rest.reader) (get_or c.loop-rest.rest.now (length c.loop-rest.rest.now - 1) (record { 0 = 0 })) (take (length c.loop-rest.rest.now - 1) c.loop-rest.rest.now) c.loop-rest.rest.now last c.loop-rest.invariant.left c.loop-rest.invariant.at c.entries_of.result.now c.trailers_of-trailers.result.now c.entries_of.ensures.value c.trailers_of-trailers.ensures.value (fault_at c.in_err-walk_parts.field-0.0 c.walk_parts.new.path) c.in_err-walk_parts.ensures.fault)

pub walk_trailers-returns-in_err-walk_parts-clause-outer : goal.walk_trailers-returns-in_err-walk_parts-clause-outer
walk_trailers-returns-in_err-walk_parts-clause-outer t c =
    let last = last_item c.loop-rest.rest.now (record { 0 = 0 }) (omega (arith, c.in-len1-up.len_at_least)) in
    keeps_then c.args.walk.now.table.now c.args.walk.now.notes.now c.args.id.0 c.args.numbers.now c.loop-rest.numbers c.walk_parts.new.numbers c.loop-rest.invariant.outer (keeps_other c.args.walk.now.table.now c.args.walk.now.notes.now (get_or c.loop-rest.rest.now (length c.loop-rest.rest.now - 1) (record { 0 = 0 })).0 c.args.id.0 c.loop-rest.numbers c.walk_parts.new.numbers (last_rank c.args.walk.now.table.now c.args.walk.now.depth c.args.walk.now.notes.now c.args.id.0 c.args.walked.now c.args.numbers.now (bits_left c.args.reader.now) c.loop-rest.walked c.loop-rest.numbers (bits_left c.loop-rest.reader) (get_or c.loop-rest.rest.now (length c.loop-rest.rest.now - 1) (record { 0 = 0 })) (take (length c.loop-rest.rest.now - 1) c.loop-rest.rest.now) c.loop-rest.rest.now last c.loop-rest.invariant.left) c.in_err-walk_parts.ensures.outer)

pub walk_trailers-walk_parts-requires : goal.walk_trailers-walk_parts-requires
walk_trailers-walk_parts-requires t c =
    let last = last_item c.loop-rest.rest.now (record { 0 = 0 }) (omega (arith, c.in-len1-up.len_at_least)) in
    let low = low_along c.args.walk.now.table.now (c.args.walk.now.depth + 1) c.args.id.0 (get_or c.loop-rest.rest.now (length c.loop-rest.rest.now - 1) (record { 0 = 0 })).0 c.requires.low (last_has c.args.walk.now.table.now c.args.walk.now.depth c.args.walk.now.notes.now c.args.id.0 c.args.walked.now c.args.numbers.now (bits_left c.args.reader.now) c.loop-rest.walked c.loop-rest.numbers (bits_left c.loop-rest.reader) (get_or c.loop-rest.rest.now (length c.loop-rest.rest.now - 1) (record { 0 = 0 })) (take (length c.loop-rest.rest.now - 1) c.loop-rest.rest.now) c.loop-rest.rest.now last c.loop-rest.invariant.left) in (
      omega arith,
      (
        c.requires.notes,
        (
          omega (arith, c.requires.room, c.loop-rest.invariant.outer.long),
          (
            low,
            (
              subst (AllByRecursion (PartIsRead c.args.walk.now.table.now c.args.walk.now.depth)) (sym c.trailers_of-trailers.ensures.value) (trailers_low c.args.walk.now.table.now c.args.walk.now.depth (get_or c.loop-rest.rest.now (length c.loop-rest.rest.now - 1) (record { 0 = 0 })).0 low),
              (
                subst (λ n. AllByRecursion (Stands c.args.walk.now.table.now) (placed_from (get_or c.loop-rest.rest.now (length c.loop-rest.rest.now - 1) (record { 0 = 0 })).0 n c.trailers_of-trailers.result.now)) (sym (ap length c.entries_of.ensures.value)) (subst (λ ps. AllByRecursion (Stands c.args.walk.now.table.now) (placed_from (get_or c.loop-rest.rest.now (length c.loop-rest.rest.now - 1) (record { 0 = 0 })).0 (length (entries_of c.args.walk.now.table.now (get_or c.loop-rest.rest.now (length c.loop-rest.rest.now - 1) (record { 0 = 0 })).0)) ps)) (sym c.trailers_of-trailers.ensures.value) (trailers_placed c.args.walk.now.table.now (get_or c.loop-rest.rest.now (length c.loop-rest.rest.now - 1) (record { 0 = 0 })).0)),
                (omega (arith, c.entries_of.ensures.few, c.trailers_of-trailers.ensures.few), (c.requires.few, (c.loop-rest.invariant.begun, (subst (λ z. length (bits_left z) ≤ 524288) (sym c.loop-rest.invariant.start) c.requires.short, c.loop-rest.invariant.root)))),
              ),
            ),
          ),
        ),
      ),
    )

-- ---- what follows the entries of a container

pub walk_under-loop-init : goal.walk_under-loop-init
walk_under-loop-init t c = record {
  root = c.requires.root;
  outer = outer_none c.args.walk.now.table.now c.args.walk.now.notes.now c.args.id.0 c.args.numbers.now;
  start = refl;
  begun = c.requires.begun;
  low = c.requires.low;
  under = itself_in c.args.walk.now.table.now (table_of c.args.walk.now.table.now c.requires.low.rules) c.args.id.0;
  at = λ s at. (s, at, refl);
}

pub walk_under-next_noted-requires-clause-asked : goal.walk_under-next_noted-requires-clause-asked
walk_under-next_noted-requires-clause-asked t c = all_asked c.args.walk.now.table.now c.requires.low.rules c.args.walk.now.notes.now c.requires.notes

pub walk_under-walk_trailers-requires : goal.walk_under-walk_trailers-requires
walk_under-walk_trailers-requires t c =
    (omega arith, (c.requires.notes, (omega (arith, c.requires.room, c.loop.invariant.outer.long), (c.loop.invariant.low, (numbers_are c.as_slice-chain.result.now (chain c.args.walk.now.table.now c.loop.at.0) (c.as_slice-chain.ensures.value ∙ c.chain_of-chain.ensures), (c.requires.few, (c.loop.invariant.begun, (subst (λ r. length (bits_left r) ≤ 524288) (sym c.loop.invariant.start) c.requires.short, c.loop.invariant.root))))))))

pub walk_under-returns-in_err-walk_trailers-in-Stay-clause-fault : goal.walk_under-returns-in_err-walk_trailers-in-Stay-clause-fault
walk_under-returns-in_err-walk_trailers-in-Stay-clause-fault t c =
    let p = err_from_is_err_and c.from_residual.result c.from_residual.ensures.1 in
    rw (p.1, p.2) (λ s at.
    (let h = c.loop.invariant.at s at in
    walk_stay_fails c.args.walk.now.table.now c.requires.low.rules c.args.walk.now.notes.now c.requires.notes (read_within c.args.walk.now.depth c.args.walk.now.table.now) c.loop.counter c.args.id.0 c.loop.at.0 c.loop.walked c.loop.numbers (bits_left c.loop.reader) c.loop.invariant.under (omega (arith, c.loop-test.true)) h.0 h.1 _ h.2 c.in-Stay.ensures _ c.in_err-walk_trailers-in-Stay.ensures.fault))

pub walk_under-returns-in_err-walk_trailers-in-Stay-clause-outer : goal.walk_under-returns-in_err-walk_trailers-in-Stay-clause-outer
walk_under-returns-in_err-walk_trailers-in-Stay-clause-outer t c =
    keeps_both c.args.walk.now.table.now c.args.walk.now.notes.now c.loop.at.0 c.args.id.0 _ _ _ (λ rs. sym (rank_of_chain c.args.walk.now.table.now rs c.loop.at.0 c.args.id.0 c.loop.invariant.under)) c.loop.invariant.outer c.in_err-walk_trailers-in-Stay.ensures.outer

pub walk_under-returns-then-is_told_size-clause-passed : goal.walk_under-returns-then-is_told_size-clause-passed
walk_under-returns-then-is_told_size-clause-passed t c = λ s at.
    let h = c.loop.invariant.at s at in
    walk_stay_ends c.args.walk.now.table.now c.requires.low.rules c.args.walk.now.notes.now c.requires.notes (read_within c.args.walk.now.depth c.args.walk.now.table.now) c.loop.counter c.args.id.0 c.loop.at.0 c.loop.walked c.loop.numbers (bits_left c.loop.reader) c.loop.invariant.under (omega (arith, c.loop-test.true)) h.0 h.1 _ h.2 c.in-Stay.ensures c.walk_trailers.new.walked c.walk_trailers.new.numbers (bits_left c.walk_trailers.new.reader) c.in_ok-walk_trailers-in-Stay.ensures.passed c.loop.at refl c.if-is_told_size.ensures

pub walk_under-returns-then-is_told_size-clause-outer : goal.walk_under-returns-then-is_told_size-clause-outer
walk_under-returns-then-is_told_size-clause-outer t c =
    keeps_both c.args.walk.now.table.now c.args.walk.now.notes.now c.loop.at.0 c.args.id.0 _ _ _ (λ rs. sym (rank_of_chain c.args.walk.now.table.now rs c.loop.at.0 c.args.id.0 c.loop.invariant.under)) c.loop.invariant.outer c.in_ok-walk_trailers-in-Stay.ensures.outer

pub walk_under-returns-in-Stay-clause-fault : goal.walk_under-returns-in-Stay-clause-fault
walk_under-returns-in-Stay-clause-fault t c = λ s at.
    let h = c.loop.invariant.at s at in
    walk_stay_compares c.args.walk.now.table.now c.requires.low.rules c.args.walk.now.notes.now c.requires.notes (read_within c.args.walk.now.depth c.args.walk.now.table.now) c.loop.counter c.args.id.0 c.loop.at.0 c.loop.walked c.loop.numbers (bits_left c.loop.reader) c.loop.invariant.under (omega (arith, c.loop-test.true)) h.0 h.1 _ h.2 c.in-Stay.ensures c.walk_trailers.new.walked c.walk_trailers.new.numbers (bits_left c.walk_trailers.new.reader) c.in_ok-walk_trailers-in-Stay.ensures.passed false c.if-is_told_size.ensures
    ∙ ap (λ p. Err (fault_at LengthDiffers p)) (sym c.tell_length.ensures.value)

pub walk_under-returns-in-Stay-clause-outer : goal.walk_under-returns-in-Stay-clause-outer
walk_under-returns-in-Stay-clause-outer t c =
    keeps_both c.args.walk.now.table.now c.args.walk.now.notes.now c.loop.at.0 c.args.id.0 _ _ _ (λ rs. sym (rank_of_chain c.args.walk.now.table.now rs c.loop.at.0 c.args.id.0 c.loop.invariant.under)) c.loop.invariant.outer c.in_ok-walk_trailers-in-Stay.ensures.outer

pub walk_under-walk_parts-requires : goal.walk_under-walk_parts-requires
walk_under-walk_parts-requires t c =
    let u = c.loop.invariant.at c.requires.at.0 c.requires.at.1 in
    let goes = chosen c.args.walk.now.table.now c.requires.low.rules c.args.walk.now.notes.now c.requires.notes (read_within c.args.walk.now.depth c.args.walk.now.table.now) c.loop.counter c.args.id.0 c.loop.at.0 c.loop.walked c.loop.numbers (bits_left c.loop.reader) (under c.in-Under.child.0) u.0 u.1 c.in-Under.ensures in
    let low = child_is_low c.args.walk.now.table.now c.loop.invariant.low.rules (c.args.walk.now.depth + 1) c.loop.at.0 c.in-Under.child.0 (u.0).fields c.loop.invariant.low.low goes in
    (omega arith, (c.requires.notes, (omega (arith, c.requires.room, c.loop.invariant.outer.long), (low, (subst (AllByRecursion (PartIsRead c.args.walk.now.table.now c.args.walk.now.depth)) (sym c.entries_of-entries.ensures.value) (entries_low c.args.walk.now.table.now c.args.walk.now.depth c.in-Under.child.0 low), (subst (λ es. AllByRecursion (Stands c.args.walk.now.table.now) (placed_from c.in-Under.child.0 0 es)) (sym c.entries_of-entries.ensures.value) (entries_placed c.args.walk.now.table.now c.in-Under.child.0), (omega (arith, c.entries_of-entries.ensures.few), (c.requires.few, (c.loop.invariant.begun, (subst (λ r. length (bits_left r) ≤ 524288) (sym c.loop.invariant.start) c.requires.short, c.loop.invariant.root))))))))))

pub walk_under-returns-in_err-walk_parts-in-Under-clause-fault : goal.walk_under-returns-in_err-walk_parts-in-Under-clause-fault
walk_under-returns-in_err-walk_parts-in-Under-clause-fault t c =
    let p = err_from_is_err_and c.from_residual-in_err-walk_parts-in-Under.result c.from_residual-in_err-walk_parts-in-Under.ensures.1 in
    rw (p.1, p.2) (λ s at.
    (let h = c.loop.invariant.at s at in
    walk_under_fails c.args.walk.now.table.now c.requires.low.rules c.args.walk.now.notes.now c.requires.notes (read_within c.args.walk.now.depth c.args.walk.now.table.now) c.loop.counter c.args.id.0 c.loop.at.0 c.loop.walked c.loop.numbers (bits_left c.loop.reader) c.loop.invariant.under (omega (arith, c.loop-test.true)) h.0 h.1 _ h.2 c.in-Under.child.0 c.in-Under.ensures c.entries_of-entries.result.now c.entries_of-entries.ensures.value _ c.in_err-walk_parts-in-Under.ensures.fault))

pub walk_under-returns-in_err-walk_parts-in-Under-clause-outer : goal.walk_under-returns-in_err-walk_parts-in-Under-clause-outer
walk_under-returns-in_err-walk_parts-in-Under-clause-outer t c =
    let u = c.loop.invariant.at c.requires.at.0 c.requires.at.1 in
    keeps_both c.args.walk.now.table.now c.args.walk.now.notes.now c.in-Under.child.0 c.args.id.0 _ _ _ (child_rank_back c.args.walk.now.table.now c.requires.low.rules c.args.walk.now.notes.now c.requires.notes (read_within c.args.walk.now.depth c.args.walk.now.table.now) c.loop.counter c.args.id.0 c.loop.at.0 c.loop.walked c.loop.numbers (bits_left c.loop.reader) c.loop.invariant.under u.0 u.1 c.in-Under.child.0 c.in-Under.ensures) c.loop.invariant.outer c.in_err-walk_parts-in-Under.ensures.outer

pub walk_under-loop-preserved : goal.walk_under-loop-preserved
walk_under-loop-preserved t c =
    let u = c.loop.invariant.at c.requires.at.0 c.requires.at.1 in
    let goes = chosen c.args.walk.now.table.now c.requires.low.rules c.args.walk.now.notes.now c.requires.notes (read_within c.args.walk.now.depth c.args.walk.now.table.now) c.loop.counter c.args.id.0 c.loop.at.0 c.loop.walked c.loop.numbers (bits_left c.loop.reader) (under c.in-Under.child.0) u.0 u.1 c.in-Under.ensures in
    record {
      root = c.in_ok-walk_parts-in-Under.ensures.calm;
      outer = keeps_both c.args.walk.now.table.now c.args.walk.now.notes.now c.in-Under.child.0 c.args.id.0 _ _ _ (child_rank_back c.args.walk.now.table.now c.requires.low.rules c.args.walk.now.notes.now c.requires.notes (read_within c.args.walk.now.depth c.args.walk.now.table.now) c.loop.counter c.args.id.0 c.loop.at.0 c.loop.walked c.loop.numbers (bits_left c.loop.reader) c.loop.invariant.under u.0 u.1 c.in-Under.child.0 c.in-Under.ensures) c.loop.invariant.outer c.in_ok-walk_parts-in-Under.ensures.outer;
      start = c.in_ok-walk_parts-in-Under.ensures.start ∙ c.loop.invariant.start;
      begun = c.in_ok-walk_parts-in-Under.ensures.begun;
      low = child_is_low c.args.walk.now.table.now c.loop.invariant.low.rules (c.args.walk.now.depth + 1) c.loop.at.0 c.in-Under.child.0 (u.0).fields c.loop.invariant.low.low goes;
      under = child_has c.args.walk.now.table.now c.requires.low.rules c.args.walk.now.notes.now c.requires.notes (read_within c.args.walk.now.depth c.args.walk.now.table.now) c.loop.counter c.args.id.0 c.loop.at.0 c.loop.walked c.loop.numbers (bits_left c.loop.reader) c.loop.invariant.under u.0 u.1 c.in-Under.child.0 c.in-Under.ensures;
      at = λ s at. (let h = c.loop.invariant.at s at in
          walk_under_goes c.args.walk.now.table.now c.requires.low.rules c.args.walk.now.notes.now c.requires.notes (read_within c.args.walk.now.depth c.args.walk.now.table.now) c.loop.counter c.args.id.0 c.loop.at.0 c.loop.walked c.loop.numbers (bits_left c.loop.reader) c.loop.invariant.under (omega (arith, c.loop-test.true)) h.0 h.1 _ h.2 c.in-Under.child.0 c.in-Under.ensures c.entries_of-entries.result.now c.entries_of-entries.ensures.value c.walk_parts.new.walked c.walk_parts.new.numbers (bits_left c.walk_parts.new.reader) c.in_ok-walk_parts-in-Under.ensures.passed);
    }

pub walk_under-returns-clause-fault : goal.walk_under-returns-clause-fault
walk_under-returns-clause-fault t c = λ s at.
    let h = c.loop.invariant.at s at in
    let path = ap (λ p. Err (fault_at NoDerived p)) (sym (c.put_first.ensures ∙ ap (λ old. step.Choice c.loop.at ∷ old) c.loop.invariant.root)) in
    elim c.loop-test.branch [
      | walk_under-else-loop-test w ↦ under_ends c.args.walk.now.table.now (read_within c.args.walk.now.depth c.args.walk.now.table.now) c.loop.counter c.loop.at.0 h.0 (bits_left c.loop.reader) _ (omega (arith, w.loop-test.false)) h.2 ∙ path
      | walk_under-then-loop-test+in-Nowhere w ↦ walk_nowhere c.args.walk.now.table.now c.requires.low.rules c.args.walk.now.notes.now c.requires.notes (read_within c.args.walk.now.depth c.args.walk.now.table.now) c.loop.counter c.args.id.0 c.loop.at.0 c.loop.walked c.loop.numbers (bits_left c.loop.reader) c.loop.invariant.under (omega (arith, w.loop-test.true)) h.0 h.1 _ h.2 w.in-Nowhere.ensures ∙ path
    ]

-- ---- containers

pub walk_container-walk_chain-requires : goal.walk_container-walk_chain-requires
walk_container-walk_chain-requires t c =
    (omega arith, (c.requires.notes, (c.requires.room, (c.requires.low, (numbers_are c.as_slice-chain.result.now (chain c.args.walk.now.table.now c.args.id.0) (c.as_slice-chain.ensures.value ∙ c.chain_of-chain.ensures), (c.requires.few, (refl, (refl, (c.requires.short, c.requires.root)))))))))

pub walk_container-walk_under-requires : goal.walk_container-walk_under-requires
walk_container-walk_under-requires t c =
    (omega arith, (c.requires.notes, (omega (arith, c.requires.room, c.in_ok-walk_chain.ensures.outer.long), (c.requires.low, (c.requires.few, (c.in_ok-walk_chain.ensures.begun, (subst (λ r. length (bits_left r) ≤ 524288) (sym c.in_ok-walk_chain.ensures.start) c.requires.short, ((c.in_ok-walk_chain.ensures.passed.state, c.in_ok-walk_chain.ensures.passed.at), c.in_ok-walk_chain.ensures.calm))))))))

pub walk_container-returns-clause-passed : goal.walk_container-returns-clause-passed
walk_container-returns-clause-passed t c =
    let fits : SFits w128 c.from.result = search rules in
    container_passed c.args.walk.now.table.now c.requires.low.rules c.args.walk.now.notes.now (read_within c.args.walk.now.depth c.args.walk.now.table.now) c.args.id.0 (bits_left c.args.reader.now) c.walk_under.new.walked c.walk_under.new.numbers (bits_left c.walk_under.new.reader) c.in_ok-walk_chain.ensures.passed.state (bits_left c.walk_chain.new.reader) (record { found = c.in_ok-found.found; number = Some (to_z w128 (of_z w128 c.from.result)) }) c.in_ok-walk_chain.ensures.passed.is (c.in_ok-found.ensures.passed c.in_ok-walk_chain.ensures.passed.state c.in_ok-walk_chain.ensures.passed.at) (ap Some (to_z-of_z w128 c.from.result fits ∙ c.from.ensures))
