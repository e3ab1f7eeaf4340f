-- Lists of values that are the same, or not.
use Rattle.std.proofs.Common.{◌≡◌, ◌≢◌, suc, List, [], ◌∷◌, Bool, true, false, map, length, refl, sym, ap, ◌∙◌}
use Rattle.std.specs.Prelude.{◌&&◌}
use Rattle.std.proofs.lemmas.List.{length-map}
use Rattle.eds_types.specs.declared.value.Value.{Value}
use Rattle.eds_types.specs.Plain.{Plain, plain, plains_of}
use Rattle.eds_types.specs.Reading.{same, same_all}

lists_differ : (vs ws : List Plain) → length vs ≢ length ws → same_all (plains_of vs) (plains_of ws) ≡ false
unfolding same_all
lists_differ [] [] ne = absurd (ne refl)
lists_differ [] (w ∷ ws) ne = refl
lists_differ (v ∷ vs) [] ne = refl
lists_differ (v ∷ vs) (w ∷ ws) ne = go (same v w) (lists_differ vs ws (λ e. ne (ap suc e)))
  where
    go : (b : Bool) → same_all (plains_of vs) (plains_of ws) ≡ false → (b && same_all (plains_of vs) (plains_of ws)) ≡ false
    go true h = h
    go false h = refl

pub values_differ : (vs ws : List Value) → length vs ≢ length ws → same_all (plains_of (map plain vs)) (plains_of (map plain ws)) ≡ false
values_differ vs ws ne = lists_differ (map plain vs) (map plain ws) (λ e. ne (sym (length-map vs plain) ∙ e ∙ length-map ws plain))
