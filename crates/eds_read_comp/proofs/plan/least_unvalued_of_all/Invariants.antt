use Rattle.std.proofs.Common.{◌≡◌, drop}
use Rattle.std.specs.List.{flat_map}
use Rattle.eds_base.specs.Refusals.{first_of, least}
use Rattle.eds_names.specs.Declarations.{comps_in}
use Rattle.eds_read_comp.specs.FirstValues.{WhereTold}
use Rattle.eds_read_comp.specs.Plans.{unvalued_of}
use Rattle.eds_read_comp.proofs.plan.least_unvalued_of_all.Given as goal

abbrev pub invariant-loop-one : goal.invariant-loop-one
invariant-loop-one l =
    WhereTold l.table
    (λ firsts.
    first_of l.found (least (flat_map (unvalued_of firsts l.trees l.space) (comps_in (drop l.one-index l.one-items))))
    ≡ least (flat_map (unvalued_of firsts l.trees l.space) (comps_in l.one-items)))
