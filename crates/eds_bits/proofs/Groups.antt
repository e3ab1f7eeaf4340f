-- Groups of bits: the digits and the octets of a number.
use Rattle.std.proofs.Common.{◌≡◌, ℕ, zero, suc, ◌+◌, ◌-◌, ◌*◌, ◌/◌, ◌%◌, ◌^◌, ◌<◌, ◌≤◌, List, [], ◌∷◌, ◌++◌, length, map, take, drop, reverse, refl, sym, ap, ◌∙◌, subst, arith}
use Rattle.std.specs.List.{flat_map}
use Rattle.std.specs.Int.{w64, swap_bytes}
use Rattle.std.proofs.lemmas.Nat.{shr-shr, div-mul-add, mod-mul-add}
use Rattle.std.proofs.lemmas.List.{take_at, reverse-append, reverse-reverse, length-reverse, map-append}
use Rattle.std.proofs.lemmas.List.Folds.{flat_map-map}
use Rattle.std.proofs.Math.Seq.{drop-append_seam}
use Rattle.std.proofs.Math.Nat.{mul-add-div, div-eq_of_lt, mod-mod, mod-eq_of_lt}
use Rattle.eds_bits.specs.Bits.{Bits, low_bits, unsigned_of, first_pieces, pieces}
use Rattle.eds_bits.specs.Encodings.{ordered}
use Rattle.eds_bits.specs.declared.forms.ByteOrder.TheVariants.{Little}
use Rattle.eds_bits.proofs.BitLaws.{length-low, unsigned-low, low_same, low-append}

-- the m lowest groups of k bits of a number, the highest first
abbrev pub groups : ℕ → ℕ → ℕ → List ℕ
groups k zero x = []
groups k (suc m) x = x / 2 ^ (k * m) % 2 ^ k ∷ groups k m x

pub length-groups : (k m x : ℕ) → length (groups k m x) ≡ m
length-groups k zero x = refl
length-groups k (suc m) x = ap suc (length-groups k m x)

low-mod : (k y : ℕ) → low_bits k (y % 2 ^ k) ≡ low_bits k y
low-mod k y = low_same k (y % 2 ^ k) y (mod-mod y (2 ^ k))

drop_at : (xs ys : Bits) (n : ℕ) → length xs ≡ n → drop n (xs ++ ys) ≡ ys
drop_at xs ys n e = rw (← e) (drop-append_seam xs ys)

first_pieces-low : (k m x : ℕ) → first_pieces m k (low_bits (k * m) x) ≡ map (low_bits k) (groups k m x)
unfolding first_pieces
first_pieces-low k zero x = refl
first_pieces-low k (suc m) x =
    let high = low_bits k (x / 2 ^ (k * m)) in
    let low = low_bits (k * m) x in
    let e : k * suc m ≡ k + k * m = omega arith in
    let all : low_bits (k * suc m) x ≡ high ++ low = ap (λ n. low_bits n x) e ∙ low-append k (k * m) x in
    let front : take k (high ++ low) ≡ high = take_at high low k (length-low k (x / 2 ^ (k * m))) in
    let rest : drop k (high ++ low) ≡ low = drop_at high low k (length-low k (x / 2 ^ (k * m))) in
    rw (all, front, rest, low-mod k (x / 2 ^ (k * m)), first_pieces-low k m x) refl

-- the pieces of the bits of a number are the bits of its groups
pub pieces-low : (k m x : ℕ) → 0 < k → pieces k (low_bits (k * m) x) ≡ map (low_bits k) (groups k m x)
pieces-low k m x h =
    let count : (k * m + (k - 1)) / k ≡ m = mul-add-div h m (k - 1) ∙ ap (λ q. m + q) (div-eq_of_lt (omega arith)) ∙ omega arith in
    rw (length-low (k * m) x, count) (first_pieces-low k m x)

unsigned_groups : (k m x : ℕ) → map unsigned_of (map (low_bits k) (groups k m x)) ≡ groups k m x
unsigned_groups k zero x = refl
unsigned_groups k (suc m) x =
    rw (unsigned-low k (x / 2 ^ (k * m) % 2 ^ k), mod-mod (x / 2 ^ (k * m)) (2 ^ k), unsigned_groups k m x) refl

-- the numbers of the pieces are the groups
pub numbers_of_pieces : (k m x : ℕ) → 0 < k → map unsigned_of (pieces k (low_bits (k * m) x)) ≡ groups k m x
numbers_of_pieces k m x h = ap (map unsigned_of) (pieces-low k m x h) ∙ unsigned_groups k m x

-- higher groups do not count
pub groups_same : (k m x y : ℕ) → 0 < k → x % 2 ^ (k * m) ≡ y % 2 ^ (k * m) → groups k m x ≡ groups k m y
groups_same k m x y h e =
    sym (numbers_of_pieces k m x h) ∙ ap (λ bs. map unsigned_of (pieces k bs)) (low_same (k * m) x y e) ∙ numbers_of_pieces k m y h

-- one more group in front
pub groups_push : (k m a y : ℕ) → 0 < k → a < 2 ^ k → y < 2 ^ (k * m) → groups k (suc m) (a * 2 ^ (k * m) + y) ≡ a ∷ groups k m y
groups_push k m a y h ha hy =
    let head : (a * 2 ^ (k * m) + y) / 2 ^ (k * m) % 2 ^ k ≡ a = ap (λ q. q % 2 ^ k) (div-mul-add a (2 ^ (k * m)) y hy) ∙ mod-eq_of_lt ha in
    let tail : groups k m (a * 2 ^ (k * m) + y) ≡ groups k m y =
    groups_same k m (a * 2 ^ (k * m) + y) y h (mod-mul-add a (2 ^ (k * m)) y hy ∙ sym (mod-eq_of_lt hy)) in
    rw (head, tail) refl

-- ---- octets in reverse

joined_groups : (k m x : ℕ) → flat_map (low_bits k) (groups k m x) ≡ low_bits (k * m) x
unfolding low_bits
joined_groups k zero x = let e : k * 0 ≡ 0 = omega arith in rw e refl
joined_groups k (suc m) x =
    let e : k * suc m ≡ k + k * m = omega arith in
    rw (low-mod k (x / 2 ^ (k * m)), joined_groups k m x, e, low-append k (k * m) x) refl

-- the groups above a place, and those below it
groups-append : (k m j x : ℕ) → groups k m (x / 2 ^ (k * j)) ++ groups k j x ≡ groups k (m + j) x
groups-append k zero j x = ap (λ n. groups k n x) (omega arith)
groups-append k (suc m) j x =
    let e : suc m + j ≡ suc (m + j) = omega arith in
    let p : k * j + k * m ≡ k * (m + j) = omega arith in
    rw (e, shr-shr x (k * j) (k * m), p, groups-append k m j x) refl

eight_groups : (a b c d e f g h : ℕ) → a < 256 → b < 256 → c < 256 → d < 256 → e < 256 → f < 256 → g < 256 → h < 256
    → groups 8 8 (a * 2 ^ 56 + (b * 2 ^ 48 + (c * 2 ^ 40 + (d * 2 ^ 32 + (e * 2 ^ 24 + (f * 2 ^ 16 + (g * 2 ^ 8 + (h * 2 ^ 0 + 0)))))))) ≡ a ∷ b ∷ c ∷ d ∷ e ∷ f ∷ g ∷ h ∷ []
eight_groups a b c d e f g h la lb lc ld le lf lg lh =
    let z : ℕ = 0 in
    let y1 = h * 2 ^ 0 + z in
    let y2 = g * 2 ^ 8 + y1 in
    let y3 = f * 2 ^ 16 + y2 in
    let y4 = e * 2 ^ 24 + y3 in
    let y5 = d * 2 ^ 32 + y4 in
    let y6 = c * 2 ^ 40 + y5 in
    let y7 = b * 2 ^ 48 + y6 in
    groups_push 8 7 a y7 (omega arith) la (omega arith) ∙ ap (λ t. a ∷ t) (
    groups_push 8 6 b y6 (omega arith) lb (omega arith) ∙ ap (λ t. b ∷ t) (
    groups_push 8 5 c y5 (omega arith) lc (omega arith) ∙ ap (λ t. c ∷ t) (
    groups_push 8 4 d y4 (omega arith) ld (omega arith) ∙ ap (λ t. d ∷ t) (
    groups_push 8 3 e y3 (omega arith) le (omega arith) ∙ ap (λ t. e ∷ t) (
    groups_push 8 2 f y2 (omega arith) lf (omega arith) ∙ ap (λ t. f ∷ t) (
    groups_push 8 1 g y1 (omega arith) lg (omega arith) ∙ ap (λ t. g ∷ t) (
    groups_push 8 0 h z (omega arith) lh (omega arith))))))))

swapped_groups : (x : ℕ) → groups 8 8 (swap_bytes w64 x) ≡ reverse (groups 8 8 x)
swapped_groups x =
    let b0 = x / 2 ^ 0 % 256 in
    let b1 = x / 2 ^ 8 % 256 in
    let b2 = x / 2 ^ 16 % 256 in
    let b3 = x / 2 ^ 24 % 256 in
    let b4 = x / 2 ^ 32 % 256 in
    let b5 = x / 2 ^ 40 % 256 in
    let b6 = x / 2 ^ 48 % 256 in
    let b7 = x / 2 ^ 56 % 256 in
    let sum : swap_bytes w64 x ≡ b0 * 2 ^ 56 + (b1 * 2 ^ 48 + (b2 * 2 ^ 40 + (b3 * 2 ^ 32 + (b4 * 2 ^ 24 + (b5 * 2 ^ 16 + (b6 * 2 ^ 8 + (b7 * 2 ^ 0 + 0))))))) = omega arith in
    ap (groups 8 8) sum ∙ eight_groups b0 b1 b2 b3 b4 b5 b6 b7 (omega arith) (omega arith) (omega arith) (omega arith) (omega arith) (omega arith) (omega arith) (omega arith)

map-reverse : (f : ℕ → Bits) (xs : List ℕ) → map f (reverse xs) ≡ reverse (map f xs)
map-reverse f [] = refl
map-reverse f (x ∷ xs) =
    ap (map f) (reverse-append (x ∷ []) xs) ∙ map-append f (reverse xs) (x ∷ []) ∙ ap (λ t. t ++ f x ∷ []) (map-reverse f xs) ∙ sym (reverse-append (f x ∷ []) (map f xs))

append_same : (a b c d : List ℕ) → length a ≡ length c → a ++ b ≡ c ++ d → a ≡ c
append_same a b c d l e =
    sym (take_at a b (length a) refl) ∙ ap (take (length a)) e ∙ take_at c d (length a) (sym l)

-- the upper m octets of all in reverse are the lower m in reverse
groups-swapped : (m j x : ℕ) → m + j ≡ 8 → groups 8 m (swap_bytes w64 x / 2 ^ (8 * j)) ≡ reverse (groups 8 m x)
groups-swapped m j x e =
    let y = swap_bytes w64 x in
    let front = groups 8 m (y / 2 ^ (8 * j)) in
    let octets = groups 8 m x in
    let others = groups 8 j (x / 2 ^ (8 * m)) in
    let left : front ++ groups 8 j y ≡ reverse (groups 8 8 x) = groups-append 8 m j y ∙ ap (λ n. groups 8 n y) e ∙ swapped_groups x in
    let turned : j + m ≡ 8 = omega arith in
    let split : groups 8 8 x ≡ others ++ octets = sym (groups-append 8 j m x ∙ ap (λ n. groups 8 n x) turned) in
    let right : reverse (groups 8 8 x) ≡ reverse octets ++ reverse others = ap reverse split ∙ reverse-append others octets in
    append_same front (groups 8 j y) (reverse octets) (reverse others) (length-groups 8 m (y / 2 ^ (8 * j)) ∙ sym (length-reverse octets ∙ length-groups 8 m x)) (left ∙ right)

little-low : (m x : ℕ) → ordered Little (low_bits (8 * m) x) ≡ flat_map (low_bits 8) (reverse (groups 8 m x))
little-low m x =
    let octets = groups 8 m x in
    let pieced : reverse (pieces 8 (low_bits (8 * m) x)) ≡ map (low_bits 8) (reverse octets) = ap reverse (pieces-low 8 m x (omega arith)) ∙ sym (map-reverse (low_bits 8) octets) in
    ap (flat_map (λ o. o)) pieced ∙ flat_map-map (λ o. o) (low_bits 8) (reverse octets)

eight_parts : (n : ℕ) → n % 8 ≡ 0 → n ≤ 64 → (m : ℕ) × (j : ℕ) × (n ≡ 8 * m) × (64 - n ≡ 8 * j) × (m + j ≡ 8)
eight_parts n h l = (n / 8, 8 - n / 8, omega arith, omega arith, omega arith)

-- whole octets in reverse: those of the number with all its octets in reverse, from the highest on
pub little-swapped : (n x : ℕ) → n % 8 ≡ 0 → n ≤ 64 → low_bits n (swap_bytes w64 x / 2 ^ (64 - n)) ≡ ordered Little (low_bits n x)
little-swapped n x h l =
    let p = eight_parts n h l in
    let m = p.0 in
    let j = p.1 in
    let whole : low_bits (8 * m) (swap_bytes w64 x / 2 ^ (8 * j)) ≡ ordered Little (low_bits (8 * m) x) =
    sym (joined_groups 8 m (swap_bytes w64 x / 2 ^ (8 * j))) ∙ ap (flat_map (low_bits 8)) (groups-swapped m j x p.4) ∙ sym (little-low m x) in
    rw (p.3) (subst (λ k. low_bits k (swap_bytes w64 x / 2 ^ (8 * j)) ≡ ordered Little (low_bits k x)) (sym p.2) whole)

-- twice in reverse
pub little-little : (n x : ℕ) → n % 8 ≡ 0 → n ≤ 64 → ordered Little (ordered Little (low_bits n x)) ≡ low_bits n x
little-little n x h l =
    let p = eight_parts n h l in
    let m = p.0 in
    let y = swap_bytes w64 x / 2 ^ (8 * p.1) in
    let once : ordered Little (low_bits (8 * m) x) ≡ low_bits (8 * m) y =
    little-low m x ∙ ap (flat_map (low_bits 8)) (sym (groups-swapped m p.1 x p.4)) ∙ joined_groups 8 m y in
    let back : reverse (groups 8 m y) ≡ groups 8 m x = ap reverse (groups-swapped m p.1 x p.4) ∙ reverse-reverse (groups 8 m x) in
    let twice : ordered Little (ordered Little (low_bits (8 * m) x)) ≡ low_bits (8 * m) x =
    ap (ordered Little) once ∙ little-low m y ∙ ap (flat_map (low_bits 8)) back ∙ joined_groups 8 m x in
    subst (λ k. ordered Little (ordered Little (low_bits k x)) ≡ low_bits k x) (sym p.2) twice

-- bits whose groups are the same
pub low_from_groups : (k m x y : ℕ) → groups k m x ≡ groups k m y → low_bits (k * m) x ≡ low_bits (k * m) y
low_from_groups k m x y e = sym (joined_groups k m x) ∙ ap (flat_map (low_bits k)) e ∙ joined_groups k m y
