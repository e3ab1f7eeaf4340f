-- What octets show is what is read from the left.
use Rattle.std.proofs.Common.{◌≡◌, ◌≢◌, ℕ, zero, suc, ◌+◌, ◌<◌, ◌≤◌, ◌&&◌, Bool, true, false, List, [], ◌∷◌, ◌++◌, length, get_or, take, drop, take_all, length-drop, length-take, length-append, drop-cons, append_assoc, append-nil, refl, sym, ap, subst, ◌∙◌, arith, eq-eqb, ne_eqb, ◌⊎◌, inl, inr, if◌then◌else◌}
use Rattle.std.proofs.Math.Seq.{take-append_seam}
use Rattle.std.proofs.lemmas.Bool.{cases_order}
use Rattle.std.proofs.lemmas.List.{take-append-drop}
use Rattle.std.proofs.lemmas.Str.{IsUtf8-append, IsUtf8-encode, IsUtf8-from_is_utf8, IsUtf8-nil, is_utf8-from_IsUtf8, length-encode, len_utf8_bounds, utf8_valid_len_le}
use Rattle.std.specs.Char.{encode_utf8}
use Rattle.std.specs.Str.{IsUtf8, StartsWithNoChar, all_scalars, encode_utf8_all, is_utf8}
use Rattle.std.specs.Str.Lossy.{replacement_bytes, utf8_valid_len, valid_len_up_to}
use Rattle.eds_replay.specs.Shown.{IsShown, nothing, character, replaced, shown, shown_within}

-- ---- the longest front that is UTF-8

front-up-to : (bs : List ℕ) (n : ℕ) → IsUtf8 (take (valid_len_up_to bs n) bs)
front-up-to bs zero = IsUtf8-nil
front-up-to bs (suc n) = go (is_utf8 (take (suc n) bs)) refl (front-up-to bs n)
  where
    go : (b : Bool) → is_utf8 (take (suc n) bs) ≡ b → IsUtf8 (take (valid_len_up_to bs n) bs) → IsUtf8 (take (if b then suc n else valid_len_up_to bs n) bs)
    go true e h = IsUtf8-from_is_utf8 (take (suc n) bs) e
    go false e h = h

longest-up-to : (bs : List ℕ) (n m : ℕ) → valid_len_up_to bs n < m → m ≤ n → IsUtf8 (take m bs) → ⊥
longest-up-to bs zero m lt le u = omega arith
longest-up-to bs (suc n) m lt le u = go (is_utf8 (take (suc n) bs)) refl lt (longest-up-to bs n m)
  where
    go : (b : Bool) → is_utf8 (take (suc n) bs) ≡ b → (if b then suc n else valid_len_up_to bs n) < m → (valid_len_up_to bs n < m → m ≤ n → IsUtf8 (take m bs) → ⊥) → ⊥
    go true e less others = omega arith
    go false e less others = here (cases_order m (suc n))
      where
        here : (m ≡ suc n) ⊎ ((m < suc n) ⊎ (suc n < m)) → ⊥
        here (inl is) = let wrong : true ≡ false = sym (is_utf8-from_IsUtf8 (take (suc n) bs) (subst (λ k. IsUtf8 (take k bs)) is u)) ∙ e in cc
        here (inr (inl below)) = others less (omega arith) u
        here (inr (inr above)) = omega arith

front : (bs : List ℕ) → IsUtf8 (take (utf8_valid_len bs) bs)
unfolding utf8_valid_len
front bs = front-up-to bs (length bs)

longest : (bs : List ℕ) (m : ℕ) → utf8_valid_len bs < m → m ≤ length bs → IsUtf8 (take m bs) → ⊥
unfolding utf8_valid_len
longest bs m lt le u = longest-up-to bs (length bs) m lt le u

-- ---- characters in front

both : (a b : Bool) → (a && b) ≡ true → (a ≡ true) × (b ≡ true)
both true b h = (refl, h)
both false b h = cc

chars-shown : (cs rest text : List ℕ) → all_scalars cs ≡ true → IsShown rest text → IsShown (encode_utf8_all cs ++ rest) (encode_utf8_all cs ++ text)
chars-shown [] rest text valid h = h
chars-shown (c ∷ cs) rest text valid h =
    let parts = both _ _ valid in
    let here : IsShown (encode_utf8 c ++ (encode_utf8_all cs ++ rest)) (encode_utf8 c ++ (encode_utf8_all cs ++ text)) = character c parts.0 (chars-shown cs rest text parts.1 h) in
    subst (λ xs. IsShown xs ((encode_utf8 c ++ encode_utf8_all cs) ++ text)) (sym (append_assoc (encode_utf8 c) (encode_utf8_all cs) rest))
    (subst (λ ys. IsShown (encode_utf8 c ++ (encode_utf8_all cs ++ rest)) ys) (sym (append_assoc (encode_utf8 c) (encode_utf8_all cs) text)) here)

utf8-shown : (xs rest text : List ℕ) → IsUtf8 xs → IsShown rest text → IsShown (xs ++ rest) (xs ++ text)
utf8-shown xs rest text u h = subst (λ ys. IsShown (ys ++ rest) (ys ++ text)) u.1.1 (chars-shown u.0 rest text u.1.0 h)

-- ---- an octet that begins no character

no-char : (bs : List ℕ) → utf8_valid_len bs < length bs → StartsWithNoChar (drop (utf8_valid_len bs) bs)
no-char bs lt c rest s e =
    let n = utf8_valid_len bs in
    let k = length (encode_utf8 c) in
    let some : 1 ≤ k = let b = len_utf8_bounds c in let l = length-encode c in omega (arith, b.0, l) in
    let split : bs ≡ (take n bs ++ encode_utf8 c) ++ rest = sym (take-append-drop n bs) ∙ ap (λ xs. take n bs ++ xs) e ∙ sym (append_assoc (take n bs) (encode_utf8 c) rest) in
    let more = length (take n bs ++ encode_utf8 c) in
    let taken : take more bs ≡ take n bs ++ encode_utf8 c = ap (take more) split ∙ take-append_seam (take n bs ++ encode_utf8 c) rest in
    let size : more ≡ n + k = length-append (take n bs) (encode_utf8 c) ∙ ap (λ j. j + k) (let l = length-take n bs in omega arith) in
    let whole : length bs ≡ more + length rest = ap length split ∙ length-append (take n bs ++ encode_utf8 c) rest in
    longest bs more (omega arith) (omega arith) (subst IsUtf8 (sym taken) (IsUtf8-append (take n bs) (encode_utf8 c) (front bs) (IsUtf8-encode c s)))

-- ---- all

shown-within-is : (k : ℕ) (bs : List ℕ) → length bs ≤ k → IsShown bs (shown_within k bs)
shown-within-is zero [] le = nothing
shown-within-is zero (b ∷ bs) le = absurd (omega arith)
shown-within-is (suc k) bs le = go (cases_order (utf8_valid_len bs) (length bs)) (λ lt. shown-within-is k (drop (utf8_valid_len bs + 1) bs) (let l = length-drop (utf8_valid_len bs + 1) bs in omega arith))
  where
    go : (utf8_valid_len bs ≡ length bs) ⊎ ((utf8_valid_len bs < length bs) ⊎ (length bs < utf8_valid_len bs))
        → (utf8_valid_len bs < length bs → IsShown (drop (utf8_valid_len bs + 1) bs) (shown_within k (drop (utf8_valid_len bs + 1) bs)))
        → IsShown bs (shown_within (suc k) bs)
    go (inl whole) others =
        let utf8 : IsUtf8 bs = subst IsUtf8 (take_all (utf8_valid_len bs) bs (omega arith)) (front bs) in
        let all : IsShown (bs ++ []) (bs ++ []) = utf8-shown bs [] [] utf8 nothing in
        let plain : IsShown bs bs = subst (λ xs. IsShown xs xs) (append-nil bs) all in
        rw (eq-eqb _ _ whole) plain
    go (inr (inl lt)) others =
        let n = utf8_valid_len bs in
        let faulty : n ≢ length bs = λ e. omega arith in
        let rest : drop n bs ≡ get_or bs n 0 ∷ drop (n + 1) bs = drop-cons bs n 0 lt ∙ ap (λ j. get_or bs n 0 ∷ drop j bs) (let e : suc n ≡ n + 1 = omega arith in e) in
        let bad : StartsWithNoChar (get_or bs n 0 ∷ drop (n + 1) bs) = subst StartsWithNoChar rest (no-char bs lt) in
        let behind : IsShown (get_or bs n 0 ∷ drop (n + 1) bs) (replacement_bytes ++ shown_within k (drop (n + 1) bs)) = replaced (get_or bs n 0) bad (others lt) in
        let all : IsShown (take n bs ++ (get_or bs n 0 ∷ drop (n + 1) bs)) (take n bs ++ (replacement_bytes ++ shown_within k (drop (n + 1) bs))) = utf8-shown (take n bs) _ _ (front bs) behind in
        rw (ne_eqb _ _ faulty) (subst (λ xs. IsShown xs (take n bs ++ (replacement_bytes ++ shown_within k (drop (n + 1) bs)))) (ap (λ xs. take n bs ++ xs) (sym rest) ∙ take-append-drop n bs) all)
    go (inr (inr gt)) others = let within = utf8_valid_len_le bs in absurd (omega arith)

pub shown-is-exact : (octets : List ℕ) → IsShown octets (shown octets)
unfolding shown
shown-is-exact octets = shown-within-is (length octets) octets (omega arith)
