-- The text at the end of a room, onto which more is put first.
use mir.Val.{bool_byte}
use Rattle.std.specs.Fmt.{decimal, signed_decimal}
use Rattle.std.specs.Int.Signed.{lt_z}
use Rattle.std.proofs.Common.{◌-◌, ◌+◌, ◌≡◌, ℕ, zero, suc, ◌≤◌, ℤ, pos, negsuc, nat_abs, Bool, true, false, codes, set, List, [], ◌∷◌, ◌++◌, length, take, drop, IsAscii, IsUtf8, refl, sym, ap, subst, ◌∙◌, arith, append_assoc, append-nil}
use Rattle.std.proofs.lemmas.List.{drop-append-le, drop-drop, drop-set, drop-set-lt, drop_all, take_all}
use Rattle.std.proofs.lemmas.Bool.{le-ltb}
use Rattle.json.proofs.Printed.Utf8.{IsUtf8-are_ascii}
use Rattle.serde_json.specs.Data.{boolean}
use Rattle.serde_json.specs.Written.{compact_text}
use Rattle.std.proofs.lemmas.Str.{IsUtf8-append, IsUtf8-from_ascii}

-- a slice of a whole list, written back
written_back : (new items : List ℕ) (len : ℕ) → length new ≡ length items → len ≡ length items → take len (new ++ drop (length new) items) ≡ new
written_back new items len same all =
    let none : new ++ drop (length new) items ≡ new = ap (λ s. new ++ s) (drop_all (length new) items (omega arith)) ∙ append-nil new in
    ap (take len) none ∙ take_all len new (omega arith)

-- what a room holds from a place on is UTF-8
abbrev pub IsTextFrom : (start : ℕ) (room : List ℕ) → Type 0
IsTextFrom start room = (start ≤ length room) × IsUtf8 (drop start room)

-- so it is where a text is put before one
pub text_put : (text old new items : List ℕ) (start len : ℕ) → length new ≡ length items → len ≡ length items → IsUtf8 text → IsUtf8 old → start ≤ length new → drop start new ≡ text ++ old
    → IsTextFrom start (take len (new ++ drop (length new) items))
text_put text old new items start len same all first later within put =
    subst (IsTextFrom start) (sym (written_back new items len same all)) (within, subst IsUtf8 (sym put) (IsUtf8-append text old first later))

-- of a block that was put, only its last octets
pub block_put : (block room new : List ℕ) (end start size : ℕ) → length block ≡ 16 → size ≤ 16 → start + length block ≡ end → drop start new ≡ block ++ drop end room → drop (end - size) new ≡ drop (16 - size) block ++ drop end room
block_put block room new end start size whole few starts put =
    let from : start + (16 - size) ≡ end - size = omega (arith, whole) in
    ap (λ n. drop n new) (sym from) ∙ sym (drop-drop (16 - size) start new) ∙ ap (drop (16 - size)) put ∙ drop-append-le (16 - size) block (drop end room) (omega (arith, whole))

-- ---- signs

pub sign_few : (n : ℕ) (b : Bool) → n ≡ bool_byte b → n ≤ 1
sign_few n true is = omega (arith, is)
sign_few n false is = omega (arith, is)

-- a sign before the digits of a number counts where it is below 0
pub sign_put : (z : ℤ) (start : ℕ) (room rest : List ℕ) → 1 ≤ start → start ≤ length room → drop start room ≡ decimal (nat_abs z) ++ rest → drop (start - bool_byte (lt_z z (pos 0))) (set room (start - 1) 45) ≡ signed_decimal z ++ rest
sign_put (pos n) start room rest some within put =
    let same : start - 0 ≡ start = omega arith in
    ap (λ b. drop (start - bool_byte b) (set room (start - 1) 45)) (le-ltb n 0 (omega arith)) ∙ ap (λ k. drop k (set room (start - 1) 45)) same ∙ drop-set-lt start room (start - 1) 45 (omega arith) ∙ put
sign_put (negsuc n) start room rest some within put =
    let back : start - 1 + 1 ≡ start = omega arith in
    drop-set room (start - 1) 45 (omega arith) ∙ ap (λ k. 45 ∷ drop k room) back ∙ ap (λ s. 45 ∷ s) put

-- ---- truth values

pub word_utf8 : (b : Bool) → IsUtf8 (compact_text (boolean b))
word_utf8 true = IsUtf8-are_ascii (codes "true") refl
word_utf8 false = IsUtf8-are_ascii (codes "false") refl

-- ---- between quotation marks

quote_ascii : IsAscii (34 ∷ [])
quote_ascii zero = omega arith
quote_ascii (suc i) = omega arith

pub marked_utf8 : (own : List ℕ) → IsUtf8 own → IsUtf8 (34 ∷ (own ++ 34 ∷ []))
marked_utf8 own h =
    let quote = IsUtf8-from_ascii (34 ∷ []) quote_ascii in
    IsUtf8-append (34 ∷ []) (own ++ 34 ∷ []) quote (IsUtf8-append own (34 ∷ []) h quote)

pub marked_text : (own old : List ℕ) → (34 ∷ (own ++ 34 ∷ [])) ++ old ≡ 34 ∷ (own ++ 34 ∷ old)
marked_text own old = ap (λ s. 34 ∷ s) (append_assoc own (34 ∷ []) old)
