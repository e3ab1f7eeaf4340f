-- The first member of which a later one has the name, found from the last one on.
use Rattle.std.proofs.Common.{◌≡◌, ℕ, ◌+◌, ◌<◌, length, get_or, drop, drop-cons, add-one, map, Bool, true, false, List, [], ◌∷◌, ◌++◌, Option, Some, None, refl, sym, ap, ◌∙◌}
use Rattle.std.specs.Prelude.{if◌then◌else◌, ◌||◌}
use Rattle.std.specs.List.{list_any}
use Rattle.eds_base.specs.Reading.{same}
use Rattle.eds_names.specs.Repeats.{is_among}
use Rattle.eds_names.proofs.LookUpLemmas.{bytes_eq-sym}
use Rattle.eds_plan.specs.declared.instance.Member.{Member}
use Rattle.eds_generic.specs.Members.{name_of, is_name_of, repeated}
use Rattle.eds_generic.specs.NameRules.{first}

drop-whole : {A : Type 0} (xs : List A) → drop (length xs) xs ≡ []
drop-whole [] = refl
drop-whole (x ∷ xs) = drop-whole xs

pub none-later : (ms : List Member) (keys : List (List ℕ)) (q : List ℕ) → keys ≡ [] → is_among keys q ≡ is_among (map name_of (drop (length ms) ms)) q
none-later ms keys q e = ap (λ ks. is_among ks q) e ∙ sym (ap (λ xs. is_among (map name_of xs) q) (drop-whole ms))

pub none-repeated : (ms : List Member) → None ≡ first (repeated (drop (length ms) ms))
none-repeated ms = sym (ap (λ xs. first (repeated xs)) (drop-whole ms))

-- a member, opened with those behind it
opened : (ms : List Member) (i j : ℕ) (m d : Member) → i < length ms → j ≡ i + 1 → m ≡ get_or ms i d → drop i ms ≡ m ∷ drop j ms
opened ms i j m d lt next is = drop-cons ms i d lt ∙ rw (next, add-one, ← is) refl

-- ---- one more

named-any : (q : List ℕ) (ms : List Member) → list_any (is_name_of q) ms ≡ is_among (map name_of ms) q
named-any q [] = refl
named-any q (m ∷ ms) = rw (bytes_eq-sym (name_of m) q, named-any q ms) refl

pub later-next : (ms : List Member) (i j : ℕ) (m d : Member) (name : List ℕ) (keys new : List (List ℕ)) → i < length ms → j ≡ i + 1 → m ≡ get_or ms i d → name ≡ name_of m
    → ((q : List ℕ) → is_among keys q ≡ is_among (map name_of (drop j ms)) q) → ((q : List ℕ) → is_among new q ≡ is_among (name ∷ keys) q)
    → (q : List ℕ) → is_among new q ≡ is_among (map name_of (drop i ms)) q
later-next ms i j m d name keys new lt next is named inv put q =
    put q ∙ ap (λ n. is_among (n ∷ keys) q) named ∙ ap (λ b. same q (name_of m) || b) (inv q) ∙ sym (ap (λ xs. is_among (map name_of xs) q) (opened ms i j m d lt next is))

first-by : (b : Bool) (name : List ℕ) (names : List (List ℕ)) → first ((if b then name ∷ [] else []) ++ names) ≡ (if b then Some name else first names)
first-by true name names = refl
first-by false name names = refl

pub repeated-next : (ms : List Member) (i j : ℕ) (m d : Member) (name : List ℕ) (keys : List (List ℕ)) (r : Bool) (old now : Option (List ℕ)) → i < length ms → j ≡ i + 1 → m ≡ get_or ms i d → name ≡ name_of m
    → ((q : List ℕ) → is_among keys q ≡ is_among (map name_of (drop j ms)) q) → r ≡ is_among keys name → old ≡ first (repeated (drop j ms)) → now ≡ (if r then Some name else old)
    → now ≡ first (repeated (drop i ms))
repeated-next ms i j m d name keys r old now lt next is named inv there found e =
    let any : r ≡ list_any (is_name_of (name_of m)) (drop j ms) = there ∙ ap (is_among keys) named ∙ inv (name_of m) ∙ sym (named-any (name_of m) (drop j ms)) in
    e ∙ ap (λ n. if r then Some n else old) named ∙ ap (λ o. if r then Some (name_of m) else o) found ∙ ap (λ b. if b then Some (name_of m) else first (repeated (drop j ms))) any
    ∙ sym (first-by (list_any (is_name_of (name_of m)) (drop j ms)) (name_of m) (repeated (drop j ms))) ∙ sym (ap (λ xs. first (repeated xs)) (opened ms i j m d lt next is))

pub repeated-all : (ms : List Member) (left : ℕ) (found : Option (List ℕ)) → left ≡ 0 → found ≡ first (repeated (drop left ms)) → found ≡ first (repeated ms)
repeated-all ms left found none e = e ∙ ap (λ n. first (repeated (drop n ms))) none
