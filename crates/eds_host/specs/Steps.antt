-- What the host's functions tell of a line and of its steps.
use Rattle.std.specs.Prelude.{◌≡◌, ◌≢◌, ◌<◌, ℕ, List, ◌++◌, Option, Some, None}
use Rattle.eds_plan.specs.Outs.{Report}
use Rattle.eds_host.specs.declared.handled.Handled.{Handled}
use Rattle.eds_host.specs.declared.handled.Handled.TheVariants.{Done, Storm}
use Rattle.eds_host.specs.declared.step.Step.{Step}
use Rattle.eds_host.specs.declared.step.Step.TheVariants as step
use Rattle.eds_host.specs.Systems.{World, Happening}
use Rattle.eds_host.specs.Runs.{Course}

-- what a line made of a world, with what had left the run before and after it, is this course
abbrev pub IsLine : Handled → Course → World → List Report → List Report → Type 0
IsLine Done c v o q = (c.end ≡ Some v) × (q ≡ o ++ c.outs)
IsLine Storm c v o q = (c.end ≡ None) × (q ≡ o ++ c.outs)

-- what one step made of a world: nothing was next; one more was next than may happen; or it happened
abbrev pub IsStep : Step → ℕ → Option Happening → World → World → List Report → List Report → Type 0
IsStep step.Rests more next w v o q = (next ≡ None) × (v ≡ w) × (q ≡ o)
IsStep step.Storms more next w v o q = (more ≡ 0) × (next ≢ None) × (q ≡ o)
IsStep step.Goes more next w v o q = (0 < more) × ((outs : List Report) × (next ≡ Some (record { world = v; outs = outs })) × (q ≡ o ++ outs))
