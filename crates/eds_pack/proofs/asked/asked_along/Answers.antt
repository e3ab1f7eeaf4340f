use Rattle.std.proofs.Common.{[], ◌∷◌, ◌++◌, get_or, take, arith, refl, subst}
use Rattle.std.specs.List.{flat_map}
use Rattle.eds_types.specs.Rows.{constraints_of, numbers_of}
use Rattle.eds_pack.specs.Building.{Asked}
use Rattle.eds_pack.proofs.Asking.{next_container, all_containers}
use Rattle.eds_pack.proofs.asked.asked_along.Goals as goal

pub loop-id-preserved : goal.loop-id-preserved
loop-id-preserved c =
    let t = c.args.table.now in let xs = c.args.chain.now in let i = c.loop-id.id-index in let path = c.args.place ∷ [] in
    let done = flat_map (constraints_of t) (numbers_of (take i xs)) in
    next_container path t xs i (get_or xs i (record { 0 = 0 })) (record { 0 = 0 }) c.in_ok-asked.asked (omega arith) refl
    (subst (λ cs. Asked (done ++ cs) path c.in_ok-asked.asked) c.constraints_of.ensures (c.in_ok-asked.ensures done c.loop-id.invariant))

pub returns : goal.returns
returns c = all_containers (c.args.place ∷ []) c.args.table.now c.args.chain.now c.loop-id.id-index c.loop-id.asked (omega arith) c.loop-id.invariant
