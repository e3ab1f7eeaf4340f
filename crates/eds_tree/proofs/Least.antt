-- The least break over a list, one element at a time.
use Rattle.std.proofs.Common.{◌≡◌, ℕ, ◌+◌, ◌<◌, List, ◌∷◌, ◌++◌, length, map, get_or, drop, Option, Some, refl, sym, ap, ◌∙◌, drop-cons, add-one}
use Rattle.std.specs.List.{flat_map}
use Rattle.std.specs.Prelude.{slice_get, option_map}
use Rattle.std.proofs.lemmas.Option.{slice_get-map, slice_get-get_or}
use Rattle.eds_base.specs.declared.refusal.Refusal.{Refusal}
use Rattle.eds_base.specs.Refusals.{first_of, least}
use Rattle.eds_base.proofs.LeastLaws.{least-append, first_assoc}
use Rattle.eds_tree.specs.declared.tree.Node.{Node}
use Rattle.eds_tree.specs.declared.link.Link.{Link}
use Rattle.eds_tree.specs.Trees.{links_of}
use Rattle.eds_tree.specs.Breaks.{Judgement, breaks_in, breaks_from}

-- `found` stands for what came before, `x` is the element at `i`
pub least-next : {X : Type 0} (f : X → List Refusal) (xs : List X) (i : ℕ) (x : X) (found here next : Option Refusal) (whole : Option Refusal)
    → i < length xs → here ≡ least (f (get_or xs i x)) → next ≡ first_of found here → first_of found (least (flat_map f (drop i xs))) ≡ whole
    → first_of next (least (flat_map f (drop (i + 1) xs))) ≡ whole
least-next f xs i x found here next whole lt h n e =
    let this : least (flat_map f (drop i xs)) ≡ first_of here (least (flat_map f (drop (i + 1) xs))) =
    ap (λ ys. least (flat_map f ys)) (drop-cons xs i x lt) ∙ least-append (f (get_or xs i x)) _ ∙ rw (add-one, ← h) refl in
    rw n (first_assoc found here (least (flat_map f (drop (i + 1) xs))) ∙ ap (first_of found) (sym this) ∙ e)

-- the same over the files of a sheet
pub least-next_file : (f : Judgement) (ts : List (List Node)) (i : ℕ) (t : List Node) (found here next : Option Refusal) (whole : Option Refusal)
    → i < length ts → t ≡ get_or ts i t → here ≡ least (breaks_in f i t) → next ≡ first_of found here → first_of found (least (breaks_from f i (drop i ts))) ≡ whole
    → first_of next (least (breaks_from f (i + 1) (drop (i + 1) ts))) ≡ whole
least-next_file f ts i t found here next whole lt at h n e =
    let opened : drop i ts ≡ t ∷ drop (i + 1) ts = drop-cons ts i t lt ∙ rw (add-one, ← at) refl in
    let this : least (breaks_from f i (drop i ts)) ≡ first_of here (least (breaks_from f (i + 1) (drop (i + 1) ts))) =
    ap (λ us. least (breaks_from f i us)) opened ∙ least-append (breaks_in f i t) _ ∙ rw (← h) refl in
    rw n (first_assoc found here (least (breaks_from f (i + 1) (drop (i + 1) ts))) ∙ ap (first_of found) (sym this) ∙ e)

-- the walk of a file stands at its place
pub walk-at : (ts : List (List Node)) (walks : List (List Link)) (i : ℕ) (t : List Node) → i < length ts → t ≡ get_or ts i t → walks ≡ map links_of ts → slice_get walks i ≡ Some (links_of t)
walk-at ts walks i t lt at w =
    ap (λ us. slice_get us i) w ∙ slice_get-map links_of ts i ∙ ap (option_map links_of) (slice_get-get_or ts i t lt ∙ ap Some (sym at))

-- the least of two lists
pub least-joined : (xs ys : List Refusal) (a b r : Option Refusal) → a ≡ least xs → b ≡ least ys → r ≡ first_of a b → r ≡ least (xs ++ ys)
least-joined xs ys a b r h k e = e ∙ rw (h, k) (sym (least-append xs ys))

-- the least of three lists
pub least-of_three : (v w x : List Refusal) (a b c p q : Option Refusal) → a ≡ least v → b ≡ least w → c ≡ least x → p ≡ first_of a b → q ≡ first_of p c → q ≡ least (v ++ w ++ x)
least-of_three v w x a b c p q ha hb hc hp hq = least-joined (v ++ w) x p c q (least-joined v w a b p ha hb hp) hc hq
