use Rattle.std.proofs.Common.{◌++◌, ◌+◌, ◌-◌, ◌∙◌, ap, arith, codes, refl, string_bytes}
use Rattle.std.proofs.lemmas.List.{append_assoc}
use Rattle.eds_cmd.specs.Demo.{back_text, front_text, packet_text, packets_text}
use Rattle.eds_cmd.proofs.Demonstrating.{packets_done, packets_next}
use Rattle.eds_cmd.proofs.demonstration.sheet_text.Goals as goal

pub loop-i-init : goal.loop-i-init
loop-i-init c = ap (λ x. x ++ packets_text 1 (c.args.n + 1 - 1)) c.in_ok-text.ensures.ok ∙ ap (λ m. front_text ++ packets_text 1 m) (omega arith)

pub loop-i-preserved : goal.loop-i-preserved
loop-i-preserved c =
    packets_next c.loop-i.i (c.loop-i.i + 1) (c.args.n + 1 - c.loop-i.i) (c.args.n + 1 - (c.loop-i.i + 1)) (string_bytes c.loop-i.text) (string_bytes c.push_str-in-loop-i.new.self) (front_text ++ packets_text 1 c.args.n)
    refl (omega (arith, c.loop-i-test.true))
    (c.in_ok-push_str-2.ensures.bytes ∙ ap (λ x. string_bytes c.push_str.new.self ++ x) (c.as_str.ensures.value ∙ c.in_ok-packet.ensures) ∙ ap (λ x. x ++ packet_text c.loop-i.i) c.in_ok-push_str.ensures.bytes
    ∙ append_assoc (string_bytes c.loop-i.text) (codes ",") (packet_text c.loop-i.i))
    c.loop-i.invariant

pub returns : goal.returns
returns c =
    c.in_ok-push_str-3.ensures.bytes
    ∙ ap (λ x. x ++ back_text) (packets_done c.loop-i.i (c.args.n + 1 - c.loop-i.i) (string_bytes c.loop-i.text) (front_text ++ packets_text 1 c.args.n) (omega (arith, c.loop-i-test.false)) c.loop-i.invariant)
    ∙ append_assoc front_text (packets_text 1 c.args.n) back_text
