use Rattle.std.proofs.Common.{◌∙◌, [], map, Option, option_map, slice_get, refl, sym, ap}
use Rattle.eds_types.specs.Plain.{Plain, plain, num}
use Rattle.eds_plan.specs.Plans.{variable_types}
use Rattle.eds_act.specs.Does.{storing, targeted}
use Rattle.eds_act.specs.Running.{world}
use Rattle.eds_act.proofs.run.store_at.Goals as goal

pub returns-then-is_whole-clause-stored : goal.returns-then-is_whole-clause-stored
returns-then-is_whole-clause-stored c packs tells =
    let goes = λ (v : Option Plain). storing packs (slice_get (variable_types c.args.comp.now) c.args.target.now.variable) c.args.target.now.variable v [] (world c.args.event.now) in
    let number = option_map num c.args.number in
    ap goes
    (ap (λ vs. targeted c.args.table.now (map plain vs) c.args.target.now number) (sym c.as_slice.ensures.value)
    ∙ c.if-is_whole.ensures refl c.args.table.now number
    ∙ sym c.value_of_number-value.ensures)
    ∙ c.store.ensures.stored packs tells []
