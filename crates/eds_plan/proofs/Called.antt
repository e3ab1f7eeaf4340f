-- Ends by their texts.
use Rattle.std.proofs.Common.{◌≡◌, ℕ, ◌+◌, ◌-◌, ◌<◌, ◌≤◌, length, take, drop, drop-cons, add-one, get_or, arith, Bool, true, false, List, [], ◌∷◌, ◌++◌, Option, Some, None, is_some, refl, sym, ap, ◌∙◌}
use Rattle.std.specs.Bool.{one_answer}
use Rattle.std.specs.Map.{update}
use Rattle.std.specs.Str.{bytes_eq}
use Rattle.std.proofs.lemmas.Slice.Eq.{bytes_eq-Decides}
use Rattle.eds_plan.specs.declared.run.End.{End}
use Rattle.eds_plan.specs.declared.component.ComponentPlan.{ComponentPlan}
use Rattle.std.proofs.lemmas.List.{take_all}
use Rattle.eds_types.specs.Rows.{or_else}
use Rattle.eds_plan.specs.Ends.{Called, end_called, first_called, all_ends, ends_from}

bytes_eq-sym : (x y : List ℕ) → bytes_eq x y ≡ bytes_eq y x
bytes_eq-sym x y = one_answer {P = x ≡ y} (bytes_eq x y) (bytes_eq y x) (bytes_eq-Decides x y) (λ h. sym ((bytes_eq-Decides y x).0 h), λ p. (bytes_eq-Decides y x).1 (sym p))

or_else-none : (o : Option End) → or_else o None ≡ o
or_else-none None = refl
or_else-none (Some e) = refl

none_of : (o : Option End) → is_some o ≡ false → o ≡ None
none_of None h = refl
none_of (Some e) h = cc

-- an end put under a text that nothing had
pub noted : (old new : List ℕ → Option End) (c : Called) (q : List ℕ) → new q ≡ update bytes_eq old c.0 (Some c.1) q → is_some (old c.0) ≡ false → new q ≡ or_else (old q) (end_called c q)
noted old new c q e absent = go (bytes_eq c.0 q) refl
  where
    go : (b : Bool) → bytes_eq c.0 q ≡ b → new q ≡ or_else (old q) (end_called c q)
    go true h =
        let k : c.0 ≡ q = (bytes_eq-Decides c.0 q).0 h in
        let none : old q ≡ None = ap old (sym k) ∙ none_of (old c.0) absent in
        let here : bytes_eq q c.0 ≡ true = bytes_eq-sym q c.0 ∙ h in
        e ∙ rw (h, none, here) refl
    go false h =
        let here : bytes_eq q c.0 ≡ false = bytes_eq-sym q c.0 ∙ h in
        e ∙ rw (h, here) (sym (or_else-none (old q)))

-- an end that is there stays
pub kept : (old : List ℕ → Option End) (c : Called) (q : List ℕ) → is_some (old c.0) ≡ true → old q ≡ or_else (old q) (end_called c q)
kept old c q there = go (bytes_eq q c.0) refl (old q) refl
  where
    go : (b : Bool) → bytes_eq q c.0 ≡ b → (o : Option End) → old q ≡ o → o ≡ or_else o (end_called c q)
    go true h None e = let k : q ≡ c.0 = (bytes_eq-Decides q c.0).0 h in let none : is_some (old q) ≡ true = rw (← k) at there in cc
    go true h (Some x) e = refl
    go false h None e = rw h refl
    go false h (Some x) e = refl

pub or_else_assoc : (a b c : Option End) → or_else (or_else a b) c ≡ or_else a (or_else b c)
or_else_assoc None b c = refl
or_else_assoc (Some e) b c = refl

-- the first of two lists of ends
pub first_append : (xs ys : List Called) (q : List ℕ) → first_called (xs ++ ys) q ≡ or_else (first_called xs q) (first_called ys q)
first_append [] ys q = refl
first_append (x ∷ xs) ys q = ap (or_else (end_called x q)) (first_append xs ys q) ∙ sym (or_else_assoc (end_called x q) (first_called xs q) (first_called ys q))

-- a list that isn't empty is its first item and the rest
pub opened : {A : Type 0} (xs : List A) (x d : A) → 1 ≤ length xs → x ≡ get_or xs 0 d → xs ≡ x ∷ take (length xs - 1) (drop 1 xs)
opened [] x d some is = absurd (omega arith)
opened (y ∷ ys) x d some is = rw is (ap (λ zs. y ∷ zs) (sym (take_all (length (y ∷ ys) - 1) ys (omega arith))))

-- the same of what stands from a place on
pub opened_at : {A : Type 0} (xs : List A) (i : ℕ) (x : A) → i < length xs → x ≡ get_or xs i x → drop i xs ≡ x ∷ drop (i + 1) xs
opened_at xs i x lt is = drop-cons xs i x lt ∙ rw (add-one, ← is) refl

-- the ends of one component more
pub ends-more : (q : List ℕ) (old new : Option End) (n m : ℕ) (c : ComponentPlan) (rest after : List ComponentPlan) (whole : Option End)
    → rest ≡ c ∷ after → m ≡ n + 1 → new ≡ or_else old (first_called (ends_from c.name n 0 c.ends) q)
    → or_else old (first_called (all_ends n rest) q) ≡ whole → or_else new (first_called (all_ends m after) q) ≡ whole
ends-more q old new n m c rest after whole is next e all =
    ap (λ o. or_else o (first_called (all_ends m after) q)) e
    ∙ or_else_assoc old (first_called (ends_from c.name n 0 c.ends) q) (first_called (all_ends m after) q)
    ∙ ap (or_else old) (ap (λ k. or_else (first_called (ends_from c.name n 0 c.ends) q) (first_called (all_ends k after) q)) next
    ∙ sym (first_append (ends_from c.name n 0 c.ends) (all_ends (n + 1) after) q))
    ∙ ap (λ cs. or_else old (first_called (all_ends n cs) q)) (sym is) ∙ all
