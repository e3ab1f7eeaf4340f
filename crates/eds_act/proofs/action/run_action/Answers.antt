use Rattle.std.proofs.Common.{◌≡◌, ℕ, Bool, ap, ◌∙◌, map, arith}
use Rattle.std.proofs.lemmas.Grind.{common_steps}
use Rattle.std.specs.Prelude.{OnOk, Result, Ok, Err}
use Rattle.eds_base.specs.declared.fail.Memory.{Memory}
use Rattle.eds_types.specs.PackedSizes.{packs}
use Rattle.eds_types.specs.Plain.{Plain, plain}
use Rattle.eds_types.specs.Rows.{Table}
use Rattle.eds_act.specs.Acting.{acting, world_of}
use Rattle.eds_act.specs.Does.{World, Tells}
use Rattle.eds_act.specs.Running.{world}
use Rattle.eds_act.proofs.Telling.{packs_tell}
use Rattle.eds_act.proofs.action.run_action.Goals as goal

-- by the test of packing, where the worlds before and after are the same
left_by_test : (r : Result (Unit {0}) Memory) (t : Table) (f : (ℕ → Plain → Bool) → World → ℕ × World) (l : ℕ) (w u v : World) → u ≡ v → Tells t (packs t) → OnOk r ((packs : ℕ → Plain → Bool) → Tells t packs → (l, w) ≡ f packs u) → OnOk r (l ≡ (f (packs t) v).0)
left_by_test (Ok o) t f l w u v e tells h = ap (λ (p : ℕ × World). p.0) (h (packs t) tells) ∙ ap (λ x. (f (packs t) x).0) e
left_by_test (Err o) t f l w u v e tells h = tt

world_by_test : (r : Result (Unit {0}) Memory) (t : Table) (f : (ℕ → Plain → Bool) → World → ℕ × World) (l : ℕ) (w z u v : World) → u ≡ v → z ≡ w → Tells t (packs t) → OnOk r ((packs : ℕ → Plain → Bool) → Tells t packs → (l, w) ≡ f packs u) → OnOk r (z ≡ (f (packs t) v).1)
world_by_test (Ok o) t f l w z u v e g tells h = g ∙ ap (λ (p : ℕ × World). p.1) (h (packs t) tells) ∙ ap (λ x. (f (packs t) x).1) e
world_by_test (Err o) t f l w z u v e g tells h = tt

pub returns-clause-left : goal.returns-clause-left
returns-clause-left c =
    let before : world (record { comp = c.args.comp; variables = c.into_vec.result; waiting = c.replace-2.result; out = c.replace-3.result; left = c.args.fuel.now; numbers = c.new-4.result }) ≡ world_of c.args.comp.0 c.args.state.now c.args.out.now = grind (arith, common_steps) in
    left_by_test c.act-done.result c.args.table.now (λ p x. acting p c.args.table.now c.args.component.now c.args.machine c.args.action.now (map plain c.args.arguments.now) c.args.fuel.now x) c.act-done.new.event.left (world c.act-done.new.event) _ _ before (packs_tell c.args.table.now c.packed_sizes.ensures c.keeps_rules.ensures) c.act-done.ensures.acts

pub returns-clause-world : goal.returns-clause-world
returns-clause-world c =
    let before : world (record { comp = c.args.comp; variables = c.into_vec.result; waiting = c.replace-2.result; out = c.replace-3.result; left = c.args.fuel.now; numbers = c.new-4.result }) ≡ world_of c.args.comp.0 c.args.state.now c.args.out.now = grind (arith, common_steps) in
    let after : world_of c.args.comp.0 (record { variables = c.from_vec.result; machines = c.args.state.now.machines; outstanding = c.act-done.new.event.waiting }) c.act-done.new.event.out ≡ world c.act-done.new.event = grind (arith, common_steps) in
    world_by_test c.act-done.result c.args.table.now (λ p x. acting p c.args.table.now c.args.component.now c.args.machine c.args.action.now (map plain c.args.arguments.now) c.args.fuel.now x) c.act-done.new.event.left (world c.act-done.new.event) _ _ _ before after (packs_tell c.args.table.now c.packed_sizes.ensures c.keeps_rules.ensures) c.act-done.ensures.acts
