use Rattle.std.proofs.Common.{rules, ◌<◌, ◌+◌, ◌++◌, ℕ, List, [], None, ◌≡◌, get_or, length, drop, true, string_bytes, sym, ap, ◌∙◌, arith, inr}
use Rattle.std.proofs.lemmas.List.{get_or_default}
use Rattle.serde_json.specs.Written.{members_text}
use Rattle.eds_value.specs.Layouts.{content_at, pieces_text}
use Rattle.eds_value.specs.Members.{in_order_by}
use Rattle.eds_value.proofs.Pieces.{Slot, slot_next}
use Rattle.eds_value.proofs.Positions.{all_have, next_has}
use Rattle.eds_value.proofs.layout.laid_out.Goals as goal

pub loop-slot-init : goal.loop-slot-init
loop-slot-init c = record { within = search rules; each = λ i h. inr h; text = search rules }

pub loop-slot-preserved : goal.loop-slot-preserved
loop-slot-preserved c =
    let slots = c.args.slots.now in
    let own = c.args.own_name.now in
    let k = c.loop-slot.slot-index in
    let none : Slot = record { name = record { ref_ptr = (0, 0); now = [] }; content = None } in
    let m = get_or slots k none in
    let lt : k < length slots = omega (arith, c.loop-slot-test.true) in
    let is : m ≡ get_or slots k m = get_or_default slots k none m lt in
    record {
      within = search rules;
      each = λ i h. next_has slots c.loop-slot.pieces.items c.push_slot.new.pieces.items k i m lt is c.in_ok-push_slot.ensures.each (c.loop-slot.invariant.each i h);
      text = λ ds.
          let rest = members_text true (in_order_by (content_at own ds) (drop (k + 1) slots)) in
          c.in_ok-push_slot.ensures.text ds rest ∙ ap (λ (s : List ℕ). pieces_text ds c.loop-slot.pieces.items ++ (string_bytes c.loop-slot.text ++ s)) (sym (slot_next own ds c.loop-slot.later slots k m lt is)) ∙ c.loop-slot.invariant.text ds;
    }

pub returns-clause-each : goal.returns-clause-each
returns-clause-each c i h = all_have c.args.slots.now c.loop-slot.pieces.items c.loop-slot.slot-index i (omega (arith, c.loop-slot-test.false)) (c.loop-slot.invariant.each i h)
