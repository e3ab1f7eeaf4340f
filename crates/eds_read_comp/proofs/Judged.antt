-- What is judged of the interfaces and ends that were read is what the sheet breaks.
use Rattle.std.proofs.Common.{◌≡◌, List, Option, refl, ◌∙◌}
use Rattle.eds_base.specs.declared.ids.TypeId.{TypeId}
use Rattle.eds_base.specs.declared.refusal.Refusal.{Refusal}
use Rattle.eds_base.specs.Refusals.{least}
use Rattle.eds_tree.specs.declared.tree.Node.{Node}
use Rattle.eds_names.specs.LookUp.{Names}
use Rattle.eds_types.specs.Rows.{Table}
use Rattle.eds_generic.specs.declared.face.Face.{Face}
use Rattle.eds_generic.specs.declared.used.FaceUse.{FaceUse}
use Rattle.eds_generic.specs.Reading.{faces_of}
use Rattle.eds_generic.specs.Sheets.{bases_of}
use Rattle.eds_generic.specs.Uses.{breaks_with_uses}
use Rattle.eds_read_comp.specs.Uses.{all_uses, end_breaks}

pub judged : (trees : List (List Node)) (names : Names) (table : Table) (faces : List Face) (types : List (Option TypeId)) (uses : List FaceUse) (found : Option Refusal)
    → faces ≡ faces_of trees names → types ≡ bases_of table → uses ≡ all_uses trees names → found ≡ least (breaks_with_uses faces types uses) → found ≡ least (end_breaks trees names table)
judged trees names table faces types uses found f t u e = e ∙ rw (f, t, u) refl
