use Rattle.std.proofs.Common.{◌++◌, ◌+◌, ◌-◌, ◌*◌, ◌∙◌, ap, arith, refl, string_bytes}
use Rattle.eds_cmd.specs.Demo.{demo_script}
use Rattle.eds_cmd.proofs.Demonstrating.{frames_next}
use Rattle.eds_cmd.proofs.demonstration.script_text.Goals as goal

pub loop-i-preserved : goal.loop-i-preserved
loop-i-preserved c =
    frames_next c.args.n c.loop-i.i (c.loop-i.i + 1) (10 * (c.args.n + 1) + 1 - c.loop-i.i) (10 * (c.args.n + 1) + 1 - (c.loop-i.i + 1)) (string_bytes c.loop-i.text) (string_bytes c.push_str.new.self) (demo_script c.args.n)
    refl (omega (arith, c.loop-i-test.true))
    (c.in_ok-push_str.ensures.bytes ∙ ap (λ x. string_bytes c.loop-i.text ++ x) (c.as_str.ensures.value ∙ c.in_ok-lines.ensures))
    c.loop-i.invariant
