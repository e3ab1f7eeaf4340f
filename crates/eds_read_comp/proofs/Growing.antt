-- What is put behind others, one element after another.
use Rattle.std.proofs.Common.{◌≡◌, ℕ, ◌+◌, ◌<◌, true, false, List, [], ◌∷◌, ◌++◌, length, map, drop, get_or, Option, refl, sym, ap, ◌∙◌, drop-cons, add-one, append_assoc}
use Rattle.std.specs.List.{flat_map}
use Rattle.std.proofs.lemmas.List.{map-append}
use Rattle.eds_base.specs.declared.refusal.Refusal.{Refusal}
use Rattle.eds_base.specs.Refusals.{first_of, least}
use Rattle.eds_base.proofs.LeastLaws.{first_assoc, least-append}
use Rattle.eds_names.specs.declared.declared.Declared.{Declared}
use Rattle.eds_names.specs.Declarations.{comps_in, is_comp}

-- one item more, which is seen as what the next element gives
pub grown : {A B X : Type 0} (g : A → B) (f : X → B) (xs : List X) (i : ℕ) (d : X) (old new : List A) (y : A) (whole : List B) → i < length xs → new ≡ old ++ y ∷ [] → g y ≡ f (get_or xs i d)
    → map g old ++ map f (drop i xs) ≡ whole → map g new ++ map f (drop (i + 1) xs) ≡ whole
grown g f xs i d old new y whole lt e h w =
    let opened : drop i xs ≡ get_or xs i d ∷ drop (i + 1) xs = drop-cons xs i d lt ∙ rw add-one refl in
    ap (λ ns. map g ns ++ map f (drop (i + 1) xs)) e
    ∙ ap (λ ns. ns ++ map f (drop (i + 1) xs)) (map-append g old (y ∷ []))
    ∙ append_assoc (map g old) (g y ∷ []) (map f (drop (i + 1) xs))
    ∙ ap (λ z. map g old ++ z ∷ map f (drop (i + 1) xs)) h
    ∙ sym (ap (λ ms. map g old ++ map f ms) opened)
    ∙ w

-- ---- components among what is declared

-- what comes next, and the others
opened : (ds : List Declared) (i : ℕ) (x d : Declared) → i < length ds → x ≡ get_or ds i d → drop i ds ≡ x ∷ drop (i + 1) ds
opened ds i x d lt is = drop-cons ds i d lt ∙ rw (add-one, ← is) refl

-- a component comes next
comp-next : (ds : List Declared) (i : ℕ) (x d : Declared) → i < length ds → x ≡ get_or ds i d → is_comp x.item ≡ true → comps_in (drop i ds) ≡ x ∷ comps_in (drop (i + 1) ds)
comp-next ds i x d lt is comp = let o : drop i ds ≡ x ∷ drop (i + 1) ds = opened ds i x d lt is in ap comps_in o ∙ rw comp refl

-- something else comes next
pub other-next : (ds : List Declared) (i : ℕ) (x d : Declared) → i < length ds → x ≡ get_or ds i d → is_comp x.item ≡ false → comps_in (drop i ds) ≡ comps_in (drop (i + 1) ds)
other-next ds i x d lt is comp = let o : drop i ds ≡ x ∷ drop (i + 1) ds = opened ds i x d lt is in ap comps_in o ∙ rw comp refl

-- what a component gives is put behind the others
pub comp-grown : {B : Type 0} (f : Declared → List B) (ds : List Declared) (i : ℕ) (x d : Declared) (old new whole : List B) → i < length ds → x ≡ get_or ds i d → is_comp x.item ≡ true
    → new ≡ old ++ f x → old ++ flat_map f (comps_in (drop i ds)) ≡ whole → new ++ flat_map f (comps_in (drop (i + 1) ds)) ≡ whole
comp-grown f ds i x d old new whole lt is comp e w =
    ap (λ xs. xs ++ flat_map f (comps_in (drop (i + 1) ds))) e
    ∙ append_assoc old (f x) (flat_map f (comps_in (drop (i + 1) ds)))
    ∙ sym (ap (λ ms. old ++ flat_map f ms) (comp-next ds i x d lt is comp))
    ∙ w

pub other-grown : {B : Type 0} (f : Declared → List B) (ds : List Declared) (i : ℕ) (x d : Declared) (old whole : List B) → i < length ds → x ≡ get_or ds i d → is_comp x.item ≡ false
    → old ++ flat_map f (comps_in (drop i ds)) ≡ whole → old ++ flat_map f (comps_in (drop (i + 1) ds)) ≡ whole
other-grown f ds i x d old whole lt is comp w = sym (ap (λ ms. old ++ flat_map f ms) (other-next ds i x d lt is comp)) ∙ w

-- what a component breaks is judged behind the others
pub comp-judged : (f : Declared → List Refusal) (ds : List Declared) (i : ℕ) (x d : Declared) (found here next whole : Option Refusal) → i < length ds → x ≡ get_or ds i d → is_comp x.item ≡ true
    → here ≡ least (f x) → next ≡ first_of found here → first_of found (least (flat_map f (comps_in (drop i ds)))) ≡ whole
    → first_of next (least (flat_map f (comps_in (drop (i + 1) ds)))) ≡ whole
comp-judged f ds i x d found here next whole lt is comp h n w =
    let this : least (flat_map f (comps_in (drop i ds))) ≡ first_of here (least (flat_map f (comps_in (drop (i + 1) ds)))) =
    ap (λ ms. least (flat_map f ms)) (comp-next ds i x d lt is comp) ∙ least-append (f x) (flat_map f (comps_in (drop (i + 1) ds))) ∙ rw (← h) refl in
    rw n (first_assoc found here (least (flat_map f (comps_in (drop (i + 1) ds)))) ∙ ap (first_of found) (sym this) ∙ w)

pub other-judged : (f : Declared → List Refusal) (ds : List Declared) (i : ℕ) (x d : Declared) (found whole : Option Refusal) → i < length ds → x ≡ get_or ds i d → is_comp x.item ≡ false
    → first_of found (least (flat_map f (comps_in (drop i ds)))) ≡ whole → first_of found (least (flat_map f (comps_in (drop (i + 1) ds)))) ≡ whole
other-judged f ds i x d found whole lt is comp w = sym (ap (λ ms. first_of found (least (flat_map f ms))) (other-next ds i x d lt is comp)) ∙ w
