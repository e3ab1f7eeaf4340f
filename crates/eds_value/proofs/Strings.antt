-- Texts that stand in a string of JSON as they are, and the string that a writer gives.
use Rattle.std.proofs.Common.{◌≡◌, ◌≤◌, ◌<◌, ◌+◌, ℕ, suc, zero, Bool, List, [], ◌∷◌, true, false, length, get_or, refl, sym, ap, ◌∙◌, subst, arith, append-nil, ◌⊎◌, inl, inr}
use Rattle.std.specs.Prelude.{not, ◌&&◌}
use Rattle.std.proofs.lemmas.Bool.{cases_eq, cases_lt}
use Rattle.std.proofs.lemmas.List.{get_or_default}
use Rattle.json.specs.Print.{print, print_from, quoted}
use Rattle.json.specs.Run.{is_plain, is_stop}
use Rattle.json.specs.Token.{string}
use Rattle.json.specs.Written.{PlainBetween}
use Rattle.eds_value.specs.declared.quoted.TheConstants.{STOPS}

-- ---- the table of octets that don't stand as they are

unfoldable are_same : Bool → Bool → Bool
are_same true b = b
are_same false b = not b

same_is : (a b : Bool) → are_same a b ≡ true → a ≡ b
unfolding are_same
same_is true true h = refl
same_is true false h = absurd cc
same_is false true h = absurd cc
same_is false false h = refl

both_of : (a b : Bool) → (a && b) ≡ true → (a ≡ true) × (b ≡ true)
both_of true b h = (refl, h)
both_of false b h = absurd cc

-- two predicates agree below n
unfoldable agree_below : (p q : ℕ → Bool) → ℕ → Bool
agree_below p q zero = true
agree_below p q (suc n) = are_same (p n) (q n) && agree_below p q n

agree_at : (p q : ℕ → Bool) (n : ℕ) → agree_below p q n ≡ true → (i : ℕ) → i < n → p i ≡ q i
unfolding agree_below
agree_at p q zero h i lt = absurd (omega arith)
agree_at p q (suc n) h i lt =
    let both = both_of (are_same (p n) (q n)) (agree_below p q n) h in
    elim (cases_eq i n) [ inl same ↦ rw same (same_is (p n) (q n) both.0) | inr other ↦ agree_at p q n both.1 i (omega arith) ]

table_at : (table : List Bool) (o : ℕ) → o < 256 → agree_below (λ i. get_or table i false) is_stop 256 ≡ true → get_or table o false ≡ is_stop o
table_at table o lt h = agree_at _ _ 256 h o lt

pub stop_entry : (o : ℕ) → o < 256 → get_or STOPS o false ≡ is_stop o
unfolding agree_below are_same
stop_entry o lt = table_at STOPS o lt refl

-- one more octet
pub plain_more : (d : List ℕ) (i x : ℕ) → i < length d → x ≡ get_or d i x → is_stop x ≡ false → PlainBetween d 0 i → PlainBetween d 0 (i + 1)
plain_more d i x lt is plain so_far k from below = by (cases_lt k i)
  where
    by : (k < i) ⊎ (i ≤ k) → is_plain (get_or d k 0) ≡ true
    by (inl lower) = so_far k from lower
    by (inr upper) =
        let same : i ≡ k = omega (arith, upper, below) in
        ap not (subst (λ (j : ℕ). is_stop (get_or d j 0) ≡ false) same (ap is_stop (get_or_default d i 0 x lt ∙ sym is) ∙ plain))

-- what a writer gives for one string
pub print_string : (s : List ℕ) → print (string s ∷ []) ≡ quoted s
unfolding print_from
print_string s = append-nil (quoted s)
