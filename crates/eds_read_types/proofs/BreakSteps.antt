-- The least break over all types, type by type.
use Rattle.std.proofs.Common.{◌≡◌, ℕ, ◌+◌, ◌<◌, length, drop, get_or, add-one, drop-cons, List, ◌∷◌, Option, refl, sym, ap, ◌∙◌}
use Rattle.eds_base.specs.declared.ids.Place.{Place}
use Rattle.eds_base.specs.declared.refusal.Refusal.{Refusal}
use Rattle.eds_base.specs.Refusals.{first_of, least}
use Rattle.eds_base.proofs.LeastLaws.{least-append, first_assoc}
use Rattle.eds_read_types.specs.Breaks.{breaks_over}

-- `found` stands for the types before, p is any place
pub least-next_type : (f : ℕ → Place → List Refusal) (ps : List Place) (i : ℕ) (p : Place) (found here next : Option Refusal) (whole : Option Refusal)
    → i < length ps → here ≡ least (f i (get_or ps i p)) → next ≡ first_of found here → first_of found (least (breaks_over f i (drop i ps))) ≡ whole
    → first_of next (least (breaks_over f (i + 1) (drop (i + 1) ps))) ≡ whole
least-next_type f ps i p found here next whole lt h n e =
    let opened : drop i ps ≡ get_or ps i p ∷ drop (i + 1) ps = drop-cons ps i p lt ∙ rw add-one refl in
    let this : least (breaks_over f i (drop i ps)) ≡ first_of here (least (breaks_over f (i + 1) (drop (i + 1) ps))) =
    ap (λ qs. least (breaks_over f i qs)) opened ∙ least-append (f i (get_or ps i p)) _ ∙ rw (← h) refl in
    rw n (first_assoc found here (least (breaks_over f (i + 1) (drop (i + 1) ps))) ∙ ap (first_of found) (sym this) ∙ e)
