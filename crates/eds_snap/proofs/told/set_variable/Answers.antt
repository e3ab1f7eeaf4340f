use Rattle.std.proofs.Common.{map, Some, ap, ◌∙◌, List, Option}
use Rattle.std.specs.Prelude.{option_map}
use Rattle.eds_types.specs.Plain.{Plain, plain}
use Rattle.eds_snap.specs.Seen.{told_now}
use Rattle.eds_snap.proofs.Slots.{set-map}
use Rattle.eds_snap.specs.Entries.{Told}
use Rattle.eds_snap.proofs.told.set_variable.Goals as goal

pub returns-then-place-len : goal.returns-then-place-len
returns-then-place-len c =
    ap (λ (xs : List (Option Plain)). record { variables = xs; machines = c.args.own.now.machines; outstanding = c.args.own.now.outstanding })
    (ap (map (option_map plain)) c.set.ensures ∙ set-map (option_map plain) c.args.own.now.variables c.args.place (Some c.args.value))
