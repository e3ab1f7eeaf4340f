use Rattle.std.proofs.Common.{◌≡◌, ◌++◌, drop, length, ap, ◌∙◌, arith}
use Rattle.serde_json.specs.Data.{boolean}
use Rattle.serde_json.specs.Written.{compact_text}
use Rattle.eds_value.proofs.Lines.{text_put, word_utf8}
use Rattle.eds_value.proofs.line.Line.put_truth.Goals as goal

pub invariant_of-self-2 : goal.invariant_of-self-2
invariant_of-self-2 c =
    let p = c.put_word-self-inside in
    let room = c.with_free.new.room in
    let free = c.in_ok-end.ensures in
    let old = drop c.self.inside.start c.self.inside.room.items in
    let text = compact_text (boolean c.args.truth) in
    let value = c.as_mut_slice.ensures.value in
    let same : length p.new.room ≡ length room.items = p.ensures.size ∙ ap length value in
    let put : drop p.result p.new.room ≡ text ++ old = p.ensures.put ∙ ap (λ s. text ++ s) (ap (drop c.in_ok-end.end) value ∙ free.same) in
    text_put text old p.new.room room.items p.result room.len same (omega arith) (word_utf8 c.args.truth) c.self.invariant.1 (omega (arith, same, free.within, p.ensures.start)) put
