use Rattle.std.proofs.Common.{◌≡◌, ◌<◌, ◌++◌, ◌∷◌, [], ℕ, List, length, get_or, set, drop, Some, ap, ◌∙◌, arith}
use Rattle.std.specs.Prelude.{slice_get}
use Rattle.std.proofs.lemmas.Option.{slice_get-get_or}
use Rattle.eds_types.specs.Rows.{id_of}
use Rattle.eds_types.proofs.LeastSizes.{take_all_written}
use Rattle.eds_unpack.proofs.Indexing.{index_put}
use Rattle.eds_unpack.proofs.notes.Notes.with_new.Goals as goal

pub invariant_of-result : goal.invariant_of-result
invariant_of-result c =
    let paths = c.self.inside.paths.items in
    let lists : List (List ℕ) = c.self.inside.own.items in
    let y : ℕ = ((get_or c.args.path.now 0 (id_of 0, 0)).0).0 in
    let few : length paths < 4294967295 = omega arith in
    let within : y < length lists = omega arith in
    let got : slice_get c.as_mut_slice.result.now y ≡ Some (get_or lists y []) = ap (λ ls. slice_get ls y) c.as_mut_slice.ensures.value ∙ slice_get-get_or lists y [] within in
    let number : c.len-at.result ≡ length paths = omega arith in
    index_put paths c.push.new.self.items lists c.put_last.new.lists _ c.args.path.now (id_of 0, 0) c.self.invariant c.in-len1-up.len_at_least few within
    (c.in_ok-push.ensures.items ∙ ap (λ p. paths ++ p ∷ []) c.in_ok-copied_path.ensures)
    (c.in_ok-put_last.ensures (get_or lists y []) got ∙ ap (λ ls. set ls y (get_or lists y [] ++ c.len-at.result ∷ [])) c.as_mut_slice.ensures.value ∙ ap (λ n. set lists y (get_or lists y [] ++ n ∷ [])) number)
    (take_all_written c.self.inside.own.len c.put_last.new.lists (drop (length c.put_last.new.lists) lists) (c.put_last.auto.lists ∙ c.as_mut_slice.ensures.len))
