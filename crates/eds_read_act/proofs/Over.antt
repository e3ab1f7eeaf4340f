-- What elements have by their numbers, one element after another.
use Rattle.std.proofs.Common.{◌≡◌, ℕ, ◌+◌, ◌<◌, List, ◌++◌, ◌∷◌, length, get_or, drop, drop-cons, add-one, append_assoc, Option, refl, sym, ap, ◌∙◌}
use Rattle.eds_base.specs.declared.refusal.Refusal.{Refusal}
use Rattle.eds_base.specs.Refusals.{first_of, least}
use Rattle.eds_base.proofs.LeastLaws.{least-append, first_assoc}
use Rattle.eds_read_act.specs.Activities.{over_from}

-- `found` stands for what came before, the element at i is judged next
pub least-next_over : (f : ℕ → ℕ → List Refusal) (ns : List ℕ) (i n : ℕ) (found here next : Option Refusal) (whole : Option Refusal)
    → i < length ns → here ≡ least (f i (get_or ns i n)) → next ≡ first_of found here → first_of found (least (over_from f i (drop i ns))) ≡ whole
    → first_of next (least (over_from f (i + 1) (drop (i + 1) ns))) ≡ whole
least-next_over f ns i n found here next whole lt h e w =
    let opened : drop i ns ≡ get_or ns i n ∷ drop (i + 1) ns = drop-cons ns i n lt ∙ rw add-one refl in
    let this : least (over_from f i (drop i ns)) ≡ first_of here (least (over_from f (i + 1) (drop (i + 1) ns))) =
    ap (λ ms. least (over_from f i ms)) opened ∙ least-append (f i (get_or ns i n)) _ ∙ rw (← h) refl in
    rw e (first_assoc found here (least (over_from f (i + 1) (drop (i + 1) ns))) ∙ ap (first_of found) (sym this) ∙ w)

-- `old` stands for what came before, `new` has what is next put behind it
pub next_over : {A : Type 0} (f : ℕ → ℕ → List A) (ns : List ℕ) (i n : ℕ) (old new whole : List A)
    → i < length ns → new ≡ old ++ f i (get_or ns i n) → old ++ over_from f i (drop i ns) ≡ whole → new ++ over_from f (i + 1) (drop (i + 1) ns) ≡ whole
next_over f ns i n old new whole lt e w =
    let opened : drop i ns ≡ get_or ns i n ∷ drop (i + 1) ns = drop-cons ns i n lt ∙ rw add-one refl in
    ap (λ xs. xs ++ over_from f (i + 1) (drop (i + 1) ns)) e ∙ append_assoc old (f i (get_or ns i n)) (over_from f (i + 1) (drop (i + 1) ns))
    ∙ sym (ap (λ ms. old ++ over_from f i ms) opened) ∙ w
