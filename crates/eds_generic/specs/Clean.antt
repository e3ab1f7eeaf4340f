-- What was found clean by the rules on generic names.
use Rattle.std.specs.Prelude.{List, Option}
use Rattle.eds_base.specs.declared.ids.TypeId.{TypeId}
use Rattle.eds_generic.specs.declared.face.Face.{Face}
use Rattle.eds_generic.specs.declared.rules.Clean.{Clean}
use Rattle.eds_generic.specs.NameRules.{AreClean, unmapped_at, unknown_at, refused_at}

-- none of the rules is broken at and under what it has found clean
pub record AreAllClean (faces : List Face) (types : List (Option TypeId)) (clean : Clean) : Type 0 where
  pub unmapped : AreClean unmapped_at faces types clean.unmapped
  pub unknown : AreClean unknown_at faces types clean.unknown
  pub refused : AreClean refused_at faces types clean.refused
