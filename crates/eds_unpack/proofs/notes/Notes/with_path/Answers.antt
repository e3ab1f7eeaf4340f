use Rattle.std.proofs.Common.{◌≡◌, subst}
use Rattle.std.specs.Prelude.{IfOk}
use Rattle.eds_unpack.proofs.Indexing.{found_path, new_path}
use Rattle.eds_unpack.proofs.notes.Notes.with_path.Goals as goal

pub returns-in-Some : goal.returns-in-Some
returns-in-Some c = found_path c.args.self c.args.path.now c.in-Some.field-0 c.in-Some.ensures.some

pub returns-in-None : goal.returns-in-None
returns-in-None c = subst (λ ps. IfOk c.with_new.result (λ n. n ≡ ps)) (new_path c.args.self c.args.path.now c.in-None.ensures.none) c.with_new.ensures
