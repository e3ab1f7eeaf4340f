-- The first in byte order of several lists.
use Rattle.std.proofs.Common.{◌≡◌, ℕ, List, [], ◌∷◌, ◌++◌, Option, None, refl, ◌∙◌}
use Rattle.eds_tree.specs.ByteOrder.{first_of, first_from, first_in_order}

pub first_from-append : (found : Option (List ℕ)) (xs ys : List (List ℕ)) → first_from found (xs ++ ys) ≡ first_from (first_from found xs) ys
first_from-append found [] ys = refl
first_from-append found (x ∷ xs) ys = first_from-append (first_of found x) xs ys

pub first_of_three : (xs ys zs : List (List ℕ)) → first_in_order (xs ++ (ys ++ zs)) ≡ first_from (first_from (first_in_order xs) ys) zs
first_of_three xs ys zs = first_from-append None xs (ys ++ zs) ∙ first_from-append (first_in_order xs) ys zs
