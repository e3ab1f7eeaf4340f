-- The text that octets show.
use Rattle.std.proofs.Common.{◌≡◌, ◌≢◌, ℕ, zero, suc, ◌+◌, ◌<◌, ◌≤◌, List, ◌++◌, length, take, drop, refl, sym, ap, ◌∙◌, arith, length-drop, eq-eqb, ne_eqb, append_assoc, take_all, ◌-◌, ◌⊎◌, inl, inr}
use Rattle.std.proofs.lemmas.Bool.{cases_order}
use Rattle.std.proofs.lemmas.Str.{utf8_valid_len_le, utf8_valid_len-IsUtf8}
use Rattle.std.specs.Str.{IsUtf8}
use Rattle.std.specs.Str.Lossy.{replacement_bytes, utf8_valid_len}
use Rattle.eds_replay.specs.Shown.{shown, shown_within}

-- the octets behind the first that begins no whole character
abbrev behind : List ℕ → List ℕ
behind octets = drop (utf8_valid_len octets + 1) octets

within_text : (k : ℕ) (bs : List ℕ) → utf8_valid_len bs ≡ length bs → shown_within k bs ≡ bs
within_text zero bs whole = refl
within_text (suc k) bs whole = rw (eq-eqb _ _ whole) refl

within_fault : (k : ℕ) (bs : List ℕ) → utf8_valid_len bs ≢ length bs → shown_within (suc k) bs ≡ take (utf8_valid_len bs) bs ++ (replacement_bytes ++ shown_within k (behind bs))
within_fault k bs faulty = rw (ne_eqb _ _ faulty) refl

shorter : (bs : List ℕ) → utf8_valid_len bs < length bs → length (behind bs) < length bs
shorter bs lt = omega (arith, length-drop (utf8_valid_len bs + 1) bs)

-- any bound from the length up gives the same text
within_any : (k j : ℕ) (bs : List ℕ) → length bs ≤ k → length bs ≤ j → shown_within k bs ≡ shown_within j bs
within_any zero j bs p q = let within = utf8_valid_len_le bs in sym (within_text j bs (omega arith))
within_any (suc k) zero bs p q = let within = utf8_valid_len_le bs in within_text (suc k) bs (omega arith)
within_any (suc k) (suc j) bs p q = go (λ less. within_any k j (behind bs) (omega arith) (omega arith)) (cases_order (utf8_valid_len bs) (length bs))
  where
    go : (length (behind bs) < length bs → shown_within k (behind bs) ≡ shown_within j (behind bs)) → (utf8_valid_len bs ≡ length bs) ⊎ ((utf8_valid_len bs < length bs) ⊎ (length bs < utf8_valid_len bs)) → shown_within (suc k) bs ≡ shown_within (suc j) bs
    go next (inl whole) = within_text (suc k) bs whole ∙ sym (within_text (suc j) bs whole)
    go next (inr (inl lt)) =
        let faulty : utf8_valid_len bs ≢ length bs = λ e. omega arith in
        within_fault k bs faulty
        ∙ ap (λ t. take (utf8_valid_len bs) bs ++ (replacement_bytes ++ t)) (next (shorter bs lt))
        ∙ sym (within_fault j bs faulty)
    go next (inr (inr gt)) = let within = utf8_valid_len_le bs in absurd (omega arith)

pub shown-whole : (bs : List ℕ) → utf8_valid_len bs ≡ length bs → shown bs ≡ bs
unfolding shown
shown-whole bs whole = within_text (length bs) bs whole

pub shown-step : (bs : List ℕ) → utf8_valid_len bs < length bs → shown bs ≡ take (utf8_valid_len bs) bs ++ (replacement_bytes ++ shown (behind bs))
unfolding shown
shown-step bs lt =
    let faulty : utf8_valid_len bs ≢ length bs = λ e. omega arith in
    let less = shorter bs lt in
    within_any (length bs) (suc (length bs)) bs (omega arith) (omega arith)
    ∙ within_fault (length bs) bs faulty
    ∙ ap (λ t. take (utf8_valid_len bs) bs ++ (replacement_bytes ++ t)) (within_any (length bs) (length (behind bs)) (behind bs) (omega arith) (omega arith))

-- one step more, of what is written behind a text
pub shown-more : (text new rest all : List ℕ) (at m : ℕ) → at ≡ utf8_valid_len rest → at < length rest → m ≡ length rest - (at + 1)
    → new ≡ (text ++ take at rest) ++ replacement_bytes → text ++ shown rest ≡ all → new ++ shown (take m (drop (at + 1) rest)) ≡ all
shown-more text new rest all at m is lt long new_is whole =
    let short : utf8_valid_len rest < length rest = omega arith in
    let after : List ℕ = drop (at + 1) rest in
    let step : shown rest ≡ take at rest ++ (replacement_bytes ++ shown after) =
    shown-step rest short ∙ ap (λ n. take n rest ++ (replacement_bytes ++ shown (drop (n + 1) rest))) (sym is)
    in
    ap (λ t. new ++ shown t) (take_all m after (let l = length-drop (at + 1) rest in omega arith))
    ∙ ap (λ t. t ++ shown after) new_is
    ∙ append_assoc (text ++ take at rest) replacement_bytes (shown after)
    ∙ append_assoc text (take at rest) (replacement_bytes ++ shown after)
    ∙ ap (λ t. text ++ t) (sym step) ∙ whole

-- the last step: what is left is UTF-8
pub shown-last : (text new rest all : List ℕ) → IsUtf8 rest → new ≡ text ++ rest → text ++ shown rest ≡ all → new ≡ all
shown-last text new rest all utf8 new_is whole = new_is ∙ ap (λ t. text ++ t) (sym (shown-whole rest (utf8_valid_len-IsUtf8 rest utf8))) ∙ whole
