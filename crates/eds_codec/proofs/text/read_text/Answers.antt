use Rattle.std.proofs.Common.{◌≡◌, ℕ, Vec, Global, length, drop, sym, ap, subst, ◌∙◌, arith}
use Rattle.std.specs.Prelude.{IsUtf8, is_ok}
use Rattle.std.proofs.lemmas.Bool.{OnTrue_at}
use Rattle.std.proofs.lemmas.List.{take_at}
use Rattle.eds_bits.specs.Reader.{bits_left}
use Rattle.eds_bits.specs.Texts.{front_octets}
use Rattle.eds_codec.proofs.Texts.{Sized, sized_enough, text_front, text_utf8}
use Rattle.eds_codec.proofs.text.read_text.Goals as goal

pub returns-in_default-clause-fault : goal.returns-in_default-clause-fault
returns-in_default-clause-fault c =
    let s : Sized c.args.form (bits_left c.args.reader.now) c.in-Ok.size = record { text = c.in-Ok.ensures.text; size = c.in-Ok.ensures.size; within = c.in-Ok.ensures.within; most = c.in-Ok.ensures.most } in
    let wide : length c.as_mut_slice.result.now ≡ c.in-Ok.size = omega (arith, c.as_mut_slice.ensures.len, c.in_ok-resize.ensures.len) in
    let same : c.take_octets.new.room ≡ front_octets c.in-Ok.size (bits_left c.args.reader.now) =
    OnTrue_at (c.take_octets.ensures.enough.1 (omega (arith, sized_enough c.args.form (bits_left c.args.reader.now) c.in-Ok.size s))) c.take_octets.ensures.value ∙ ap (λ n. front_octets n (bits_left c.args.reader.now)) wide in
    let all = take_at c.take_octets.new.room (drop (length c.take_octets.new.room) c.resize.new.self.items) c.resize.new.self.len (omega (arith, c.take_octets.auto.room, c.as_mut_slice.ensures.len)) ∙ same in
    let ok = c.from_utf8.ensures.succeeds (subst IsUtf8 (sym all) (text_utf8 c.args.form (front_octets c.in-Ok.size (bits_left c.args.reader.now)) _ s.text)) in
    absurd (let k = ap is_ok c.in_default.is in cc)

pub returns-clause-text : goal.returns-clause-text
returns-clause-text c =
    let s : Sized c.args.form (bits_left c.args.reader.now) c.in-Ok.size = record { text = c.in-Ok.ensures.text; size = c.in-Ok.ensures.size; within = c.in-Ok.ensures.within; most = c.in-Ok.ensures.most } in
    let wide : length c.as_mut_slice.result.now ≡ c.in-Ok.size = omega (arith, c.as_mut_slice.ensures.len, c.in_ok-resize.ensures.len) in
    let same : c.take_octets.new.room ≡ front_octets c.in-Ok.size (bits_left c.args.reader.now) =
    OnTrue_at (c.take_octets.ensures.enough.1 (omega (arith, sized_enough c.args.form (bits_left c.args.reader.now) c.in-Ok.size s))) c.take_octets.ensures.value ∙ ap (λ n. front_octets n (bits_left c.args.reader.now)) wide in
    let all = take_at c.take_octets.new.room (drop (length c.take_octets.new.room) c.resize.new.self.items) c.resize.new.self.len (omega (arith, c.take_octets.auto.room, c.as_mut_slice.ensures.len)) ∙ same in
    text_front c.args.form (bits_left c.args.reader.now) (bits_left c.skip.new.self) c.in-Ok.size c.from.result c.from_string.result s
    (c.from_string.ensures ∙ ap (λ (v : Vec ℕ Global). v.items) c.in-Ok-from_utf8.ensures.ok ∙ all) (c.from.ensures ∙ c.bits_of_text.ensures) c.skip.ensures
