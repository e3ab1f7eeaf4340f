-- Names of transactions, each put behind the others once.
use Rattle.std.proofs.Common.{◌≡◌, ℕ, ◌+◌, Bool, true, false, cond, ◌||◌, inl, inr, List, [], ◌∷◌, ◌++◌, map, Option, Some, None, refl, sym, ap, ◌∙◌, is_some, option_to_list, codes}
use Rattle.std.specs.List.{list_any, flat_map}
use Rattle.std.specs.Prelude.{option_map}
use Rattle.std.proofs.lemmas.List.{map-append}
use Rattle.std.proofs.lemmas.Slice.Eq.{bytes_eq-Decides}
use Rattle.eds_base.specs.Reading.{same}
use Rattle.eds_bits.specs.Lists.{HasOne}
use Rattle.eds_names.specs.Positions.{place_from, place_among}
use Rattle.eds_names.specs.Repeats.{is_among}
use Rattle.eds_names.proofs.RepeatsLemmas.{among-map, names-last}
use Rattle.eds_tree.specs.declared.tree.Node.{Node}
use Rattle.eds_tree.specs.declared.link.Link.{Link}
use Rattle.eds_tree.specs.Trees.{attribute_at}
use Rattle.eds_read_act.specs.Bodies.{long, number_named}
use Rattle.eds_read_act.specs.Scopes.{links_at}
use Rattle.eds_read_act.specs.Transactions.{transaction_named, with_name, with_names, transactions_of, AllDiffer}

-- ---- one name put behind others

pub kept : (names : List (List ℕ)) (q : List ℕ) → is_among names q ≡ true → names ≡ with_name names q
kept names q there = sym (rw there refl)

pub put : {A : Type 0} (f : A → List ℕ) (old new : List A) (x : A) (q : List ℕ) → f x ≡ q → is_among (map f old) q ≡ false → new ≡ cond (list_any (λ y. same (f x) (f y)) old) old (old ++ x ∷ [])
    → map f new ≡ with_name (map f old) q
put f old new x q is absent e =
    let none : list_any (λ y. same (f x) (f y)) old ≡ false = sym (among-map f old (f x)) ∙ ap (is_among (map f old)) is ∙ absent in
    ap (map f) (e ∙ ap (λ b. cond b old (old ++ x ∷ [])) none) ∙ map-append f old (x ∷ []) ∙ ap (λ k. map f old ++ k ∷ []) is ∙ sym (rw absent refl)

-- ---- what is among them

same-self : (q : List ℕ) → same q q ≡ true
same-self q = (bytes_eq-Decides q q).1 refl

or-true : (b : Bool) → (b || true) ≡ true
or-true true = refl
or-true false = refl

stays : (names : List (List ℕ)) (x q : List ℕ) → is_among names q ≡ true → is_among (with_name names x) q ≡ true
stays names x q h = go (is_among names x) refl
  where
    go : (b : Bool) → is_among names x ≡ b → is_among (with_name names x) q ≡ true
    go true e = rw e h
    go false e = rw e (names-last names x q ∙ ap (λ b. same q x || b) h ∙ or-true (same q x))

comes : (names : List (List ℕ)) (x : List ℕ) → is_among (with_name names x) x ≡ true
comes names x = go (is_among names x) refl
  where
    go : (b : Bool) → is_among names x ≡ b → is_among (with_name names x) x ≡ true
    go true e = rw e e
    go false e = rw e (names-last names x x ∙ ap (λ b. b || is_among names x) (same-self x))

all-stay : (names more : List (List ℕ)) (q : List ℕ) → is_among names q ≡ true → is_among (with_names names more) q ≡ true
all-stay names [] q h = h
all-stay names (x ∷ xs) q h = all-stay (with_name names x) xs q (stays names x q h)

all-come : (names more : List (List ℕ)) (q : List ℕ) → HasOne (λ x. x ≡ q) more → is_among (with_names names more) q ≡ true
all-come names [] q h = absurd h
all-come names (x ∷ xs) q (inl e) = all-stay (with_name names x) xs q (ap (is_among (with_name names x)) (sym e) ∙ comes names x)
all-come names (x ∷ xs) q (inr h) = all-come (with_name names x) xs q h

-- ---- each has a number

swapped : (a b : List ℕ) → same b a ≡ false → same a b ≡ false
swapped a b e = pick (same a b) refl
  where
    pick : (c : Bool) → same a b ≡ c → same a b ≡ false
    pick true h = let is : a ≡ b = (bytes_eq-Decides a b).0 h in let both : same b a ≡ true = ap (same b) is ∙ same-self b in cc
    pick false h = h

placed : (k : ℕ) (names : List (List ℕ)) (q : List ℕ) → is_among names q ≡ true → is_some (place_from k names q) ≡ true
placed k [] q h = cc
placed k (n ∷ ns) q h = go (same n q) refl (λ later. placed (k + 1) ns q later)
  where
    go : (b : Bool) → same n q ≡ b → (is_among ns q ≡ true → is_some (place_from (k + 1) ns q) ≡ true) → is_some (place_from k (n ∷ ns) q) ≡ true
    go true e others = rw e refl
    go false e others = let other : same q n ≡ false = swapped q n e in rw e (others (rw other at h))

mapped : (o : Option ℕ) → is_some o ≡ true → is_some (option_map long o) ≡ true
mapped None h = h
mapped (Some k) h = refl

-- what one element gives is among what all give
given-in : (t : List Node) (links : List Link) (link : Link) (name : List ℕ) → HasOne (λ l. l ≡ link) links → attribute_at t link.node (codes "transaction") ≡ Some name
    → HasOne (λ x. x ≡ name) (flat_map (transaction_named t) links)
given-in t [] link name h e = absurd h
given-in t (l ∷ ls) link name (inl is) e =
    let own : transaction_named t l ≡ name ∷ [] = ap (λ (k : Link). option_to_list (attribute_at t k.node (codes "transaction"))) is ∙ ap option_to_list e in
    rw own (inl refl)
given-in t (l ∷ ls) link name (inr h) e = behind (transaction_named t l) (flat_map (transaction_named t) ls) (given-in t ls link name h e)
  where
    behind : (xs ys : List (List ℕ)) → HasOne (λ x. x ≡ name) ys → HasOne (λ x. x ≡ name) (xs ++ ys)
    behind [] ys h = h
    behind (x ∷ xs) ys h = inr (behind xs ys h)

pub each_has_a_number : (t : List Node) (n : ℕ) (link : Link) (name : List ℕ) → HasOne (λ l. l ≡ link) (links_at t n) → attribute_at t link.node (codes "transaction") ≡ Some name
    → is_some (number_named (transactions_of t n) name) ≡ true
each_has_a_number t n link name h e =
    mapped (place_among (transactions_of t n) name)
    (placed 0 (transactions_of t n) name (all-come [] (flat_map (transaction_named t) (links_at t n)) name (given-in t (links_at t n) link name h e)))

-- ---- no two have one name

apart-last : (names : List (List ℕ)) (x : List ℕ) → AllDiffer names → is_among names x ≡ false → AllDiffer (names ++ x ∷ [])
apart-last [] x d h = (refl, tt)
apart-last (n ∷ ns) x d h = (first (same x n) refl, apart-last ns x d.1 (later (same x n) refl))
  where
    later : (b : Bool) → same x n ≡ b → is_among ns x ≡ false
    later true e = let wrong : is_among (n ∷ ns) x ≡ true = rw e refl in cc
    later false e = rw e at h

    first : (b : Bool) → same x n ≡ b → is_among (ns ++ x ∷ []) n ≡ false
    first true e = let wrong : is_among (n ∷ ns) x ≡ true = rw e refl in cc
    first false e = names-last ns x n ∙ rw (turned (same n x) refl) d.0
      where
        turned : (c : Bool) → same n x ≡ c → same n x ≡ false
        turned true h = let is : n ≡ x = (bytes_eq-Decides n x).0 h in let both : same x n ≡ true = ap (same x) is ∙ same-self x in cc
        turned false h = h

one-more : (names : List (List ℕ)) (x : List ℕ) → AllDiffer names → AllDiffer (with_name names x)
one-more names x d = go (is_among names x) refl
  where
    go : (b : Bool) → is_among names x ≡ b → AllDiffer (with_name names x)
    go true e = rw e d
    go false e = rw e (apart-last names x d e)

some-more : (names more : List (List ℕ)) → AllDiffer names → AllDiffer (with_names names more)
some-more names [] d = d
some-more names (x ∷ xs) d = some-more (with_name names x) xs (one-more names x d)

pub no_name_twice : (t : List Node) (n : ℕ) → AllDiffer (transactions_of t n)
no_name_twice t n = some-more [] (flat_map (transaction_named t) (links_at t n)) tt
