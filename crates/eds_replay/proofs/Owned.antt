-- The recordings of one line.
use Rattle.std.proofs.Common.{◌≡◌, ◌≢◌, ℕ, zero, suc, ◌+◌, ◌-◌, ◌<◌, ◌≤◌, nat_le, nat_lt, Bool, true, false, List, [], ◌∷◌, length, get_or, take, drop, take_all, not, refl, ap, subst, ◌∙◌, arith, eq-eqb, ne_eqb, ◌⊎◌, inl, inr}
use Rattle.std.specs.List.{position_or_len}
use Rattle.std.proofs.lemmas.Bool.{cases_order}
use Rattle.std.proofs.lemmas.List.Sums.{prefix_len-le-length}
use Rattle.std.proofs.lemmas.Bool.Decides.{nat_tests}
use Rattle.eds_replay.specs.declared.session.Recorded.{Recorded}
use Rattle.eds_replay.specs.Sessions.{RiseFrom, begin, end, recorded_for}

pub rise-lower : (m n : ℕ) (rs : List Recorded) → m ≤ n → RiseFrom n rs → RiseFrom m rs
rise-lower m n [] le h = tt
rise-lower m n (r ∷ rs) le h = (omega (arith, h.0), h.1)

pub rise-drop : (k n : ℕ) (rs : List Recorded) → RiseFrom n rs → RiseFrom n (drop k rs)
rise-drop zero n rs h = h
rise-drop (suc k) n [] h = tt
rise-drop (suc k) n (r ∷ rs) h = rise-drop k n rs (rise-lower n r.owner rs h.0 h.1)

-- none belongs to a line before the first of them
none-before : (line n : ℕ) (rs : List Recorded) → RiseFrom n rs → line < n → recorded_for line rs ≡ []
none-before line n [] h lt = refl
none-before line n (r ∷ rs) h lt =
    let other : r.owner ≢ line = λ e. omega (arith, h.0) in
    rw (ne_eqb r.owner line other) (none-before line r.owner rs h.1 (omega (arith, h.0)))

pub test-le : (m n : ℕ) → m ≤ n → nat_le m n ≡ true
test-le m n le = grind (arith, nat_tests)

pub test-gt : (m n : ℕ) → n < m → nat_le m n ≡ false
test-gt m n lt = grind (arith, nat_tests)

pub test-lt : (m n : ℕ) → m < n → nat_lt m n ≡ true
test-lt m n lt = grind (arith, nat_tests)

pub test-ge : (m n : ℕ) → n ≤ m → nat_lt m n ≡ false
test-ge m n le = grind (arith, nat_tests)

-- they begin at the front where the first of all belongs to that line or a later one
begin-front : (line n : ℕ) (rs : List Recorded) → RiseFrom n rs → line ≤ n → begin line rs ≡ 0
begin-front line n [] h le = refl
begin-front line n (r ∷ rs) h le = rw (test-le line r.owner (omega (arith, h.0))) refl

pub begin-end : (line : ℕ) (rs : List Recorded) → begin line rs ≤ end line rs
begin-end line [] = omega arith
begin-end line (r ∷ rs) = go (cases_order r.owner line) (begin-end line rs)
  where
    go : (r.owner ≡ line) ⊎ ((r.owner < line) ⊎ (line < r.owner)) → begin line rs ≤ end line rs → begin line (r ∷ rs) ≤ end line (r ∷ rs)
    go (inl e) le = rw (test-le line r.owner (omega arith)) (omega arith)
    go (inr (inl lt)) le = rw (test-gt line r.owner lt, test-ge line r.owner (omega arith)) (omega arith)
    go (inr (inr gt)) le = rw (test-le line r.owner (omega arith)) (omega arith)

-- those of a line stand between its begin and its end
pub own-all : (line n : ℕ) (rs : List Recorded) → RiseFrom n rs → recorded_for line rs ≡ take (end line rs - begin line rs) (drop (begin line rs) rs)
own-all line n [] h = refl
own-all line n (r ∷ rs) h = go (cases_order r.owner line) (own-all line r.owner rs h.1)
  where
    go : (r.owner ≡ line) ⊎ ((r.owner < line) ⊎ (line < r.owner)) → recorded_for line rs ≡ take (end line rs - begin line rs) (drop (begin line rs) rs)
        → recorded_for line (r ∷ rs) ≡ take (end line (r ∷ rs) - begin line (r ∷ rs)) (drop (begin line (r ∷ rs)) (r ∷ rs))
    go (inl e) others =
        let front : begin line rs ≡ 0 = begin-front line r.owner rs h.1 (omega arith) in
        let rest : recorded_for line rs ≡ take (end line rs) rs = others ∙ ap (λ k. take (end line rs - k) (drop k rs)) front ∙ ap (λ k. take k rs) (let k : end line rs - 0 ≡ end line rs = omega arith in k) in
        let count : 1 + end line rs - 0 ≡ suc (end line rs) = omega arith in
        rw (eq-eqb r.owner line e, test-le line r.owner (omega arith), test-ge line r.owner (omega arith), count) (ap (λ (xs : List Recorded). r ∷ xs) rest)
    go (inr (inl lt)) others =
        let other : r.owner ≢ line = λ e. omega arith in
        let size : 1 + end line rs - (1 + begin line rs) ≡ end line rs - begin line rs = omega arith in
        let more : 1 + begin line rs ≡ suc (begin line rs) = omega arith in
        rw (ne_eqb r.owner line other, test-gt line r.owner lt, test-ge line r.owner (omega arith), size, more) others
    go (inr (inr gt)) others =
        let other : r.owner ≢ line = λ e. omega arith in
        rw (ne_eqb r.owner line other, test-le line r.owner (omega arith), test-lt line r.owner gt) (none-before line r.owner rs h.1 gt)

-- those of a later line stand behind the end
pub own-later : (line later : ℕ) (rs : List Recorded) → line < later → recorded_for later rs ≡ recorded_for later (drop (end line rs) rs)
own-later line later [] lt = refl
own-later line later (r ∷ rs) lt = go (cases_order line r.owner) (own-later line later rs lt)
  where
    step : r.owner ≤ line → recorded_for later rs ≡ recorded_for later (drop (end line rs) rs) → recorded_for later (r ∷ rs) ≡ recorded_for later (drop (end line (r ∷ rs)) (r ∷ rs))
    step le others =
        let other : r.owner ≢ later = λ e. omega arith in
        let more : 1 + end line rs ≡ suc (end line rs) = omega arith in
        rw (test-ge line r.owner le, ne_eqb r.owner later other, more) others

    go : (line ≡ r.owner) ⊎ ((line < r.owner) ⊎ (r.owner < line)) → recorded_for later rs ≡ recorded_for later (drop (end line rs) rs)
        → recorded_for later (r ∷ rs) ≡ recorded_for later (drop (end line (r ∷ rs)) (r ∷ rs))
    go (inl e) others = step (omega arith) others
    go (inr (inl lt)) others = rw (test-lt line r.owner lt) refl
    go (inr (inr gt)) others = step (omega arith) others

-- ---- the loops over recordings

pub place-more : {X : Type 0} (p : X → Bool) (rest : List X) (x : X) (n m next all : ℕ) → 1 ≤ length rest → x ≡ get_or rest 0 x → m ≡ length rest - 1 → p x ≡ false → next ≡ n + 1
    → n + position_or_len p rest ≡ all → next + position_or_len p (take m (drop 1 rest)) ≡ all
place-more p [] x n m next all some is count nope next_is h = absurd (omega arith)
place-more {X} p (y ∷ rest) x n m next all some is count nope next_is h =
    let none : p y ≡ false = subst (λ (z : X). p z ≡ false) is nope in
    let here : n + (1 + position_or_len p rest) ≡ all = rw none at h in
    let whole : take m rest ≡ rest = take_all m rest (omega arith) in
    rw whole (omega arith)

place-found : {X : Type 0} (p : X → Bool) (rest : List X) (x : X) (n all : ℕ) → 1 ≤ length rest → x ≡ get_or rest 0 x → p x ≡ true → n + position_or_len p rest ≡ all → n ≡ all
place-found p [] x n all some is yep h = absurd (omega arith)
place-found {X} p (y ∷ rest) x n all some is yep h =
    let found : p y ≡ true = subst (λ (z : X). p z ≡ true) is yep in
    let here : n + 0 ≡ all = rw found at h in
    omega arith

pub place-none : {X : Type 0} (p : X → Bool) (rest : List X) (n all : ℕ) → length rest < 1 → n + position_or_len p rest ≡ all → n ≡ all
place-none p [] n all none h = omega arith
place-none p (y ∷ rest) n all none h = absurd (omega arith)

pub begin-more : (line : ℕ) (rest : List Recorded) (x : Recorded) (n m next all : ℕ) → 1 ≤ length rest → x ≡ get_or rest 0 x → m ≡ length rest - 1 → x.owner < line → next ≡ n + 1
    → n + begin line rest ≡ all → next + begin line (take m (drop 1 rest)) ≡ all
begin-more line rest x n m next all some is count lt next_is h = place-more (λ (r : Recorded). nat_le line r.owner) rest x n m next all some is count (test-gt line x.owner lt) next_is h

pub end-more : (line : ℕ) (rest : List Recorded) (x : Recorded) (n m next all : ℕ) → 1 ≤ length rest → x ≡ get_or rest 0 x → m ≡ length rest - 1 → x.owner ≤ line → next ≡ n + 1
    → n + end line rest ≡ all → next + end line (take m (drop 1 rest)) ≡ all
end-more line rest x n m next all some is count le next_is h = place-more (λ (r : Recorded). nat_lt line r.owner) rest x n m next all some is count (test-ge line x.owner le) next_is h

pub begin-found : (line : ℕ) (rest : List Recorded) (x : Recorded) (n all : ℕ) → 1 ≤ length rest → x ≡ get_or rest 0 x → line ≤ x.owner → n + begin line rest ≡ all → n ≡ all
begin-found line rest x n all some is le h = place-found (λ (r : Recorded). nat_le line r.owner) rest x n all some is (test-le line x.owner le) h

pub end-found : (line : ℕ) (rest : List Recorded) (x : Recorded) (n all : ℕ) → 1 ≤ length rest → x ≡ get_or rest 0 x → line < x.owner → n + end line rest ≡ all → n ≡ all
end-found line rest x n all some is lt h = place-found (λ (r : Recorded). nat_lt line r.owner) rest x n all some is (test-lt line x.owner lt) h

pub end-within : (line : ℕ) (rs : List Recorded) → end line rs ≤ length rs
end-within line rs = prefix_len-le-length (λ (r : Recorded). not (nat_lt line r.owner)) rs

pub length-more : {X : Type 0} (rest : List X) (n m next all : ℕ) → 1 ≤ length rest → m ≡ length rest - 1 → next ≡ n + 1 → n + length rest ≡ all → next + length (take m (drop 1 rest)) ≡ all
length-more [] n m next all some count next_is h = absurd (omega arith)
length-more (x ∷ rest) n m next all some count next_is h = rw (take_all m rest (omega arith)) (omega arith)
