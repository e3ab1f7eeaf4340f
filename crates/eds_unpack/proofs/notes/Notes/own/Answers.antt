use Rattle.std.proofs.Common.{◌≡◌, sym, subst}
use Rattle.std.specs.List.{AllByRecursion}
use Rattle.eds_bits.specs.Lists.{HasOne}
use Rattle.eds_unpack.specs.Index.{BeginsIn}
use Rattle.eds_unpack.proofs.Indexing.{positions_sound, positions_complete}
use Rattle.eds_unpack.proofs.notes.Notes.own.Goals as goal

pub returns-clause-sound : goal.returns-clause-sound
returns-clause-sound c = subst (AllByRecursion (BeginsIn c.args.self.now c.args.container)) (sym c.list_of.ensures) (positions_sound c.args.self.now c.args.container)

pub returns-clause-complete : goal.returns-clause-complete
returns-clause-complete c = λ at place rest e. subst (HasOne (λ n. n ≡ at)) (sym c.list_of.ensures) (positions_complete c.args.self.now c.args.container at place rest e)
