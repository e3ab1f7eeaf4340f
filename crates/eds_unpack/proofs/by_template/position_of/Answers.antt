use Rattle.std.proofs.Common.{◌∷◌, [], get_or, take, sym, subst, arith}
use Rattle.std.specs.List.{AllByRecursion}
use Rattle.std.proofs.lemmas.List.{take_more}
use Rattle.eds_types.proofs.AllOf.{All-both}
use Rattle.eds_unpack.proofs.Templates.{IsElsewhere, value_there}
use Rattle.eds_unpack.proofs.by_template.position_of.Goals as goal

pub returns-then-is_step : goal.returns-then-is_step
returns-then-is_step c = λ vs l. value_there c.args.places.now vs c.loop-index.index (record { 0 = 0 }, 0) c.args.step l (omega arith) c.loop-index.invariant (sym c.if-is_step.ensures)

pub loop-index-preserved : goal.loop-index-preserved
loop-index-preserved c =
    let qs = c.args.places.now in
    let i = c.loop-index.index in
    subst (AllByRecursion (IsElsewhere c.args.step)) (sym (take_more qs i (record { 0 = 0 }, 0) (omega arith))) (All-both (IsElsewhere c.args.step) (take i qs) (get_or qs i (record { 0 = 0 }, 0) ∷ []) c.loop-index.invariant (sym c.if-is_step.ensures, tt))
