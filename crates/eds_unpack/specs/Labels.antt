-- Labels and their numbers, each of which is listed once.
use Rattle.std.specs.Prelude.{◌≡◌, ℕ, ℤ, List, map, Some}
use Rattle.std.specs.List.{AllByRecursion}
use Rattle.eds_types.specs.Fields.{listed}
use Rattle.eds_types.specs.Rules.{AreDistinct}

-- each label is listed with its own number, and no number twice
pub record AreLabels (listing : List (List ℕ × ℤ)) : Type 0 where
  pub labels : AllByRecursion (λ (e : List ℕ × ℤ). listed listing e.0 ≡ Some e.1) listing
  pub numbers : AreDistinct (map (λ (e : List ℕ × ℤ). e.1) listing)
