-- A head, a space, and what stands behind them.
use Rattle.std.proofs.Common.{◌≡◌, ℕ, suc, ◌+◌, ◌-◌, ◌<◌, true, false, List, [], ◌∷◌, ◌++◌, length, get_or, take, drop, take_all, length-drop, drop-cons, append_assoc, sym, ap, ◌∙◌, arith}
use Rattle.std.proofs.Math.Seq.{take-append_seam}
use Rattle.std.proofs.lemmas.List.{append_cancel_left, take-append-drop}
use Rattle.std.proofs.lemmas.Slice.Eq.{bytes_eq-Decides}
use Rattle.std.specs.Str.{bytes_eq}

pub no-head : (head text h : List ℕ) → false ≡ bytes_eq (take (length head) text) head → text ≡ (head ++ 32 ∷ []) ++ h → ⊥
no-head head text h other is =
    let front : take (length head) text ≡ head = ap (take (length head)) (is ∙ append_assoc head (32 ∷ []) h) ∙ take-append_seam head (32 ∷ h) in
    let same : bytes_eq (take (length head) text) head ≡ true = (bytes_eq-Decides (take (length head) text) head).1 front in
    let wrong : false ≡ true = other ∙ same in
    cc

pub head-there : (head text : List ℕ) (n : ℕ) → true ≡ bytes_eq (take (length head) text) head → get_or text (length head) 0 ≡ 32 → length head < length text → n ≡ length text - (length head + 1)
    → text ≡ (head ++ 32 ∷ []) ++ take n (drop (length head + 1) text)
head-there head text n same space long count =
    let front : take (length head) text ≡ head = (bytes_eq-Decides (take (length head) text) head).0 (sym same) in
    let rest : List ℕ = drop (length head + 1) text in
    let whole : take n rest ≡ rest = take_all n rest (let l = length-drop (length head + 1) text in omega arith) in
    let more : length head + 1 ≡ suc (length head) = omega arith in
    sym (take-append-drop (length head) text)
    ∙ ap (λ xs. xs ++ drop (length head) text) front
    ∙ ap (λ xs. head ++ xs) (drop-cons text (length head) 0 long ∙ ap (λ x. x ∷ drop (suc (length head)) text) space ∙ ap (λ k. 32 ∷ drop k text) (sym more) ∙ ap (λ xs. 32 ∷ xs) (sym whole))
    ∙ sym (append_assoc head (32 ∷ []) (take n rest))

-- what stands behind a head is one text
pub one-behind : (head h k : List ℕ) → (head ++ 32 ∷ []) ++ h ≡ (head ++ 32 ∷ []) ++ k → h ≡ k
one-behind head h k e = append_cancel_left (head ++ 32 ∷ []) h k e
