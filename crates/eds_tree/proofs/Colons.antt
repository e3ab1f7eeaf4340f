-- Names behind colons.
use Rattle.std.proofs.Common.{◌≡◌, ◌≢◌, ℕ, ◌+◌, ◌-◌, ◌<◌, ◌≤◌, true, false, not, List, length, get_or, drop, sym, ap, ◌∙◌, arith}
use Rattle.std.specs.List.{suffix_len}
use Rattle.std.proofs.lemmas.Bool.Decides.{nat_tests}
use Rattle.std.proofs.lemmas.List.Sums.{suffix_len_is}
use Rattle.std.proofs.lemmas.List.{get_or-drop, length-drop}
use Rattle.std.proofs.lemmas.Str.Pattern.{NoCharPasses-char}
use Rattle.std.specs.Str.{NoCharPasses}
use Rattle.std.specs.Str.Pattern.{HasCharAt}
use Rattle.std.specs.Prelude.{◌==◌}
use Rattle.eds_tree.specs.Elements.{is_colon, local_name}

not_colon : (x : ℕ) → (x ≢ 58) → not (is_colon x) ≡ true
not_colon x h = grind (arith, nat_tests)

a_colon : (x : ℕ) → x ≡ 58 → not (is_colon x) ≡ false
a_colon x h = grind (arith, nat_tests)

-- no colon stands from n on, and one stands before n, unless n is 0
pub local_name-cut : (name : List ℕ) (n : ℕ) → n ≤ length name → ((k : ℕ) → n ≤ k → k < length name → get_or name k 0 ≢ 58) → (0 < n → get_or name (n - 1) 0 ≡ 58) → local_name name ≡ drop n name
local_name-cut name n le none one =
    let cut : suffix_len (λ x. not (is_colon x)) name ≡ length name - n =
    suffix_len_is (λ x. not (is_colon x)) name n 0 le (λ k from to. not_colon (get_or name k 0) (none k from to)) (λ some. a_colon (get_or name (n - 1) 0) (one some)) in
    let at : length name - (length name - n) ≡ n = omega arith in
    ap (λ m. drop (length name - m) name) cut ∙ ap (λ m. drop m name) at

-- what stands behind the last colon
pub local_name-behind : (name after : List ℕ) (i j : ℕ) → NoCharPasses (λ d. d == 58) (drop j name) → HasCharAt 58 name i j → after ≡ drop j name → length after + j ≡ length name → after ≡ local_name name
local_name-behind name after i j none here e l =
    let le : j ≤ length name = omega arith in
    let rest : length (drop j name) ≡ length name - j = length-drop j name in
    let follows : j ≡ i + 1 = here.ends in
    let colon : get_or name i 0 ≡ 58 = here.byte (omega arith) in
    let back : j - 1 ≡ i = omega arith in
    e ∙ sym (local_name-cut name j le
    (λ k from to h. let at : j + (k - j) ≡ k = omega arith in
    NoCharPasses-char 58 (drop j name) (k - j) none (omega arith) (omega arith) (get_or-drop j name (k - j) 0 ∙ ap (λ m. get_or name m 0) at ∙ h))
    (λ some. ap (λ m. get_or name m 0) back ∙ colon))

-- a name without a colon
pub local_name-whole : (name : List ℕ) → NoCharPasses (λ d. d == 58) name → name ≡ local_name name
local_name-whole name none =
    sym (local_name-cut name 0 (omega arith) (λ k from to. NoCharPasses-char 58 name k none (omega arith) to) (λ some. absurd (omega arith)))
