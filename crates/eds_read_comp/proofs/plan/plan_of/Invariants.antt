use Rattle.std.proofs.Common.{◌≡◌, ◌++◌, map, drop}
use Rattle.std.specs.List.{flat_map}
use Rattle.eds_names.specs.Declarations.{comps_in}
use Rattle.eds_read_comp.specs.FirstValues.{WhereTold}
use Rattle.eds_read_comp.specs.Plans.{said_component, firsts_of, component_of, firsts_at}
use Rattle.eds_read_comp.proofs.plan.plan_of.Given as goal

-- the components so far, and those to come, are all of them
abbrev pub invariant-loop-one : goal.invariant-loop-one
invariant-loop-one l =
    (map said_component l.plan ++ flat_map (component_of l.sheet.faces.trees.now l.space l.sheet.table.now l.sheet.faces.faces.now) (comps_in (drop l.one-index l.one-items))
    ≡ flat_map (component_of l.sheet.faces.trees.now l.space l.sheet.table.now l.sheet.faces.faces.now) (comps_in l.one-items))
    × WhereTold l.sheet.table.now
    (λ firsts.
    map firsts_of l.plan ++ flat_map (firsts_at firsts l.sheet.faces.trees.now l.space) (comps_in (drop l.one-index l.one-items))
    ≡ flat_map (firsts_at firsts l.sheet.faces.trees.now l.space) (comps_in l.one-items))
