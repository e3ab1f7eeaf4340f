-- Entries of one container that have one name.
use Rattle.std.proofs.Common.{◌≡◌, ℕ, ◌+◌, ◌<◌, true, false, ◌||◌, List, [], ◌∷◌, length, drop, get_or, Option, refl, sym, ap, ◌∙◌, drop-cons, add-one}
use Rattle.eds_base.specs.declared.ids.Place.{Place}
use Rattle.eds_base.specs.declared.refusal.Refusal.{Refusal}
use Rattle.eds_base.specs.declared.rule.Rule.TheVariants.{DuplicateEntry}
use Rattle.eds_base.specs.Reading.{same}
use Rattle.eds_base.specs.Refusals.{first_of, least}
use Rattle.eds_base.proofs.LeastLaws.{first_assoc, least-append}
use Rattle.eds_tree.specs.declared.tree.Node.{Node}
use Rattle.eds_names.specs.Repeats.{is_among}
use Rattle.eds_names.proofs.RepeatsLemmas.{SameNames}
use Rattle.eds_type_rows.specs.Places.{own_name}
use Rattle.eds_read_types.specs.Breaks.{broken_with}
use Rattle.eds_read_types.specs.DuplicateEntry.{repeat_of, repeats}

pub repeat_of-present : (before : List (List ℕ)) (at : Place) (name : List ℕ) → is_among before name ≡ true → repeat_of before at name ≡ broken_with DuplicateEntry at name ∷ []
repeat_of-present before at name h = rw h refl

pub repeat_of-absent : (before : List (List ℕ)) (at : Place) (name : List ℕ) → is_among before name ≡ false → repeat_of before at name ≡ []
repeat_of-absent before at name h = rw h refl

pub repeats-same : (trees : List (List Node)) (before others : List (List ℕ)) (ats : List Place) → SameNames before others → repeats trees before ats ≡ repeats trees others ats
repeats-same trees before others [] s = refl
repeats-same trees before others (at ∷ ats) s = rw (s (own_name trees at), repeats-same trees (own_name trees at ∷ before) (own_name trees at ∷ others) ats (λ q. ap (λ b. same q (own_name trees at) || b) (s q))) refl

-- what was found, and the least of what is to come, after one name more
least-next_name : (trees : List (List Node)) (before next : List (List ℕ)) (at : Place) (ats : List Place) (found here whole : Option Refusal)
    → SameNames next (own_name trees at ∷ before) → here ≡ first_of found (least (repeat_of before at (own_name trees at))) → first_of found (least (repeats trees before (at ∷ ats))) ≡ whole
    → first_of here (least (repeats trees next ats)) ≡ whole
least-next_name trees before next at ats found here whole names now all =
    rw (now, repeats-same trees next (own_name trees at ∷ before) ats names) (first_assoc found (least (repeat_of before at (own_name trees at))) (least (repeats trees (own_name trees at ∷ before) ats)) ∙ ap (first_of found) (sym (least-append (repeat_of before at (own_name trees at)) (repeats trees (own_name trees at ∷ before) ats))) ∙ all)

pub least-next_entry : (trees : List (List Node)) (ats : List Place) (i : ℕ) (at d : Place) (name : List ℕ) (before next : List (List ℕ)) (found here whole : Option Refusal)
    → i < length ats → at ≡ get_or ats i d → name ≡ own_name trees at → SameNames next (name ∷ before) → here ≡ first_of found (least (repeat_of before at name))
    → first_of found (least (repeats trees before (drop i ats))) ≡ whole
    → first_of here (least (repeats trees next (drop (i + 1) ats))) ≡ whole
least-next_entry trees ats i at d name before next found here whole lt is k names now all =
    let opened : drop i ats ≡ at ∷ drop (i + 1) ats = drop-cons ats i d lt ∙ rw (add-one, ← is) refl in
    least-next_name trees before next at (drop (i + 1) ats) found here whole (rw (← k) names) (rw k at now) (rw opened at all)
