use Rattle.std.proofs.Common.{◌≡◌, ap, length, Some}
use Rattle.eds_type_rows.specs.Kinds.{scalar_of}
use Rattle.eds_type_rows.proofs.ItemFacts.{one-longer}
use Rattle.eds_type_rows.proofs.FixedFacts.{kinds-none, kinds-next}
use Rattle.eds_type_rows.proofs.value_kinds.value_kinds.Goals as goal

pub loop-id-init : goal.loop-id-init
loop-id-init c =
    let sheet = c.args.graph.now.sheet.now in
    (kinds-none c.new-known.result.items (λ id k. scalar_of sheet.trees.now sheet.space.now id ≡ Some k.kind) c.new-known.ensures.items, ap length c.new-known.ensures.items)

pub loop-id-preserved : goal.loop-id-preserved
loop-id-preserved c =
    let sheet = c.args.graph.now.sheet.now in (
      kinds-next c.loop-id.known.items c.push.new.self.items (λ id k. scalar_of sheet.trees.now sheet.space.now id ≡ Some k.kind) c.loop-id.id c.in_ok-kind.kind c.loop-id.invariant.1 c.in_ok-push.ensures.items c.in_ok-kind.ensures c.loop-id.invariant.0,
      one-longer c.loop-id.known.items c.push.new.self.items c.in_ok-kind.kind c.loop-id.id c.in_ok-push.ensures.items c.loop-id.invariant.1,
    )
