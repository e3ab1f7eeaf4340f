-- What telling the layout of a type comes to.
use Rattle.std.specs.Prelude.{◌≡◌, ℕ, List}
use Rattle.eds_layout.specs.declared.layout.TypeLayout.{TypeLayout}
use Rattle.eds_layout.specs.Laws.{TellsAll}
use Rattle.eds_layout.specs.Layouts.{IsLayout}
use Rattle.eds_layout.specs.Printed.{layouts_text}
use Rattle.eds_cmd.specs.declared.status.Status.{Status}
use Rattle.eds_cmd.specs.declared.status.Status.TheVariants as statuses
use Rattle.eds_cmd.specs.Target.{TypeIn}

-- the report is the text of the layout of the type: in every spelling of a value of it each part stands where the layout says
pub record LaysOut (type : TypeIn) (status : Status) (report : List ℕ) : Type 0 where
  pub layout : List TypeLayout
  pub is : IsLayout type.table type.id layout
  pub tells : TellsAll type.table type.id layout
  pub status_is : status ≡ statuses.Done
  pub report_is : report ≡ layouts_text type.table layout
