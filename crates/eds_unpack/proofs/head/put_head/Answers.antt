use Rattle.std.proofs.Common.{◌+◌, ◌≤◌, length, take, drop, refl, sym, ap, subst, ◌∙◌, arith}
use Rattle.std.specs.List.{All}
use Rattle.std.proofs.lemmas.Bool.{OnFalse_at}
use Rattle.eds_bits.specs.Reader.{bits_left}
use Rattle.eds_types.specs.Rows.{Table, entries_of}
use Rattle.eds_unpack.specs.declared.segment.Operation.{Operation}
use Rattle.eds_unpack.specs.Courses.{MovesOn}
use Rattle.eds_unpack.specs.Segments.{ArePut, IsHeadOf, IsOperation}
use Rattle.eds_unpack.proofs.Meanings.{on_true}
use Rattle.eds_unpack.proofs.OnReads.{drops}
use Rattle.eds_unpack.proofs.SegmentReads.{all_are, all_within, head_put, no_head, no_more}
use Rattle.eds_unpack.proofs.head.put_head.Goals as goal

pub put_values-requires-clause-are : goal.put_values-requires-clause-are
put_values-requires-clause-are c =
    let is = subst (λ (t : Table). IsHeadOf t c.args.container.0 c.in-Some.head.now) c.requires c.in-Some.ensures in
    subst (All (IsOperation c.args.table.now)) (sym c.as_slice.ensures.value) (all_are c.args.table.now (take (length c.in-Some.head.now.operations.items) (entries_of c.args.table.now c.args.container.0)) c.in-Some.head.now is.operations)

pub put_values-requires-clause-within : goal.put_values-requires-clause-within
put_values-requires-clause-within c =
    let is = subst (λ (t : Table). IsHeadOf t c.args.container.0 c.in-Some.head.now) c.requires c.in-Some.ensures in
    subst (All (λ (o : Operation). o.at + o.bits ≤ length (bits_left c.args.reader.now))) (sym c.as_slice.ensures.value) (all_within c.args.table.now (take (length c.in-Some.head.now.operations.items) (entries_of c.args.table.now c.args.container.0)) (length (bits_left c.args.reader.now)) c.in-Some.head.now (omega arith) is.operations)

pub returns-in_default-clause-put : goal.returns-in_default-clause-put
returns-in_default-clause-put c = no_head c.args.table.now c.args.container.0 (bits_left c.args.reader.now) c.args.values.now.items c.args.values.now.items refl

pub returns-then-left-from-clause-put : goal.returns-then-left-from-clause-put
returns-then-left-from-clause-put c = no_head c.args.table.now c.args.container.0 (bits_left c.args.reader.now) c.args.values.now.items c.args.values.now.items refl

pub returns-then-not-branch-clause-put : goal.returns-then-not-branch-clause-put
returns-then-not-branch-clause-put c =
    no_head c.args.table.now c.args.container.0 (bits_left c.args.reader.now) c.args.values.now.items c.put_values.new.values.items (OnFalse_at c.if-not-branch.true c.in_ok-put_values.ensures.same)

pub returns-clause-few : goal.returns-clause-few
returns-clause-few c =
    let is = subst (λ (t : Table). IsHeadOf t c.args.container.0 c.in-Some.head.now) c.requires c.in-Some.ensures in
    omega (arith, no_more c.args.table.now c.args.container.0 c.in-Some.head.now is, c.len.ensures)

pub returns-clause-put : goal.returns-clause-put
returns-clause-put c =
    let b = bits_left c.args.reader.now in
    let is = subst (λ (t : Table). IsHeadOf t c.args.container.0 c.in-Some.head.now) c.requires c.in-Some.ensures in
    let put = subst (λ os. ArePut c.args.table.now b os c.args.values.now.items c.put_values.new.values.items) c.as_slice.ensures.value (on_true c.in_ok-put_values.field-0 c.in_ok-put_values.ensures.put c.if-not-branch.false) in
    head_put c.args.table.now c.args.container.0 c.len.result c.in-Some.head.now b (bits_left c.skip.new.self) c.args.values.now.items c.put_values.new.values.items is (omega arith) put (omega (arith, c.len.ensures)) (c.skip.ensures ∙ ap (λ n. drop n b) c.from-2.ensures)

pub returns-clause-moves : goal.returns-clause-moves
returns-clause-moves c = subst (MovesOn (bits_left c.args.reader.now)) (sym c.skip.ensures) (drops c.from-2.result (bits_left c.args.reader.now))
