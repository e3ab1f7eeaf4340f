use Rattle.std.proofs.Common.{◌≡◌, ℕ, zero, suc, List, [], ◌∷◌, map, refl, ap, ◌∙◌}
use Rattle.std.specs.Prelude.{slice_set}
use Rattle.eds_types.specs.Plain.{plain}
use Rattle.eds_types.proofs.values.Values.set.Goals as goal

map_set : {A B : Type 0} (f : A → B) (xs : List A) (i : ℕ) (x : A) → map f (slice_set xs i x) ≡ slice_set (map f xs) i (f x)
map_set f [] i x = refl
map_set f (y ∷ ys) zero x = refl
map_set f (y ∷ ys) (suc i) x = ap (λ zs. f y ∷ zs) (map_set f ys i x)

pub returns : goal.returns
returns c = map_set plain c.self.inside.inner.items c.args.i c.args.value ∙ ap (λ ys. slice_set ys c.args.i (plain c.args.value)) c.self.view_is
