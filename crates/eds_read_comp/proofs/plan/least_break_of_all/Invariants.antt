use Rattle.std.proofs.Common.{◌≡◌, drop}
use Rattle.std.specs.List.{flat_map}
use Rattle.eds_base.specs.Refusals.{first_of, least}
use Rattle.eds_names.specs.Declarations.{comps_in}
use Rattle.eds_read_comp.specs.Plans.{breaks_of}
use Rattle.eds_read_comp.proofs.plan.least_break_of_all.Given as goal

abbrev pub invariant-loop-one : goal.invariant-loop-one
invariant-loop-one l =
    first_of l.found (least (flat_map (breaks_of l.sheet.faces.trees.now l.space l.sheet.table.now l.sheet.faces.faces.now) (comps_in (drop l.one-index l.one-items))))
    ≡ least (flat_map (breaks_of l.sheet.faces.trees.now l.space l.sheet.table.now l.sheet.faces.faces.now) (comps_in l.one-items))
