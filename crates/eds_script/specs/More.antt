-- What a further text of a script has happen, which goes on from a time behind wires.
use Rattle.std.specs.Prelude.{ℕ, ◌||◌, List, [], Bool, true, Result}
use Rattle.std.specs.List.{list_any}
use Rattle.eds_base.specs.Reading.{same}
use Rattle.eds_types.specs.Rows.{Table}
use Rattle.eds_plan.specs.declared.component.ComponentPlan.{ComponentPlan}
use Rattle.eds_plan.specs.declared.run.Wire.{Wire}
use Rattle.eds_script.specs.declared.why.BadLine.{BadLine}
use Rattle.eds_script.specs.Lines.{script_lines}
use Rattle.eds_script.specs.Scripts.{Plot, plot_from}

-- an end stands in one of the wires
abbrev pub tied_by : List Wire → List ℕ → Bool
tied_by wires end = list_any (λ (w : Wire). same end w.lower || same end w.upper) wires

-- no wires, and nothing that happens
abbrev pub empty_plot : Plot
empty_plot = record { wires = []; lines = [] }

-- what a text has happen that goes on from a time behind wires, without a start and with each wire too late, or its first line
-- that means nothing, and why
abbrev pub more_of : Table → List ComponentPlan → List Wire → (time : ℕ) → List ℕ → Result Plot BadLine
more_of t plan wires time octets = plot_from t plan (tied_by wires) true time empty_plot (script_lines octets)
