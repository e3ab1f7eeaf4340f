-- Texts that come block by block, and the places of their termination octet.
use Rattle.std.proofs.Common.{◌≡◌, ℕ, ◌+◌, ◌-◌, ◌*◌, ◌<◌, ◌≤◌, Bool, true, false, List, [], ◌++◌, length, get_or, take, drop, replicate, Option, Some, None, refl, sym, ap, subst, ◌∙◌, append_assoc, inl, inr, arith}
use Rattle.std.specs.Prelude.{IsTrue, IsAscii, ◌↔◌, ◌⊎◌, nat_lt, unwrap_or}
use Rattle.std.specs.Bool.{MatchBool}
use Rattle.std.specs.Str.{IsNotAscii}
use Rattle.std.proofs.lemmas.Bool.{eq-eqb, eqb-true, ltb-true, ltb-false}
use Rattle.std.proofs.lemmas.List.{take_at, drop_at, take_all, take-take, drop-take, drop-drop, take-append-drop, take-append-le, drop-replicate, length-take, length-drop, length-replicate, append-nil}
use Rattle.std.proofs.Math.Seq.{take-add}
use Rattle.std.proofs.lemmas.Str.{IsAscii-take, IsAscii-drop, IsAscii-append}
use Rattle.memchr.specs.Find.{IsFirstByte, is_byte}
use Rattle.simdutf8.proofs.StepsLemmas.{IsUtf8-append_ascii, IsAscii-replicate}
use Rattle.eds_bits.specs.Bits.{Bits}
use Rattle.eds_bits.specs.Lists.{Has}
use Rattle.eds_bits.specs.Scalars.{before_stop, IsCoded}
use Rattle.eds_bits.specs.Texts.{front_octets}
use Rattle.eds_bits.proofs.TextLaws.{length-front_octets, take-front_octets, drop-front_octets, before_first, before_none, before_is, before-append, before-take}
use Rattle.eds_codec.specs.declared.coding.Coding.{Coding}
use Rattle.eds_codec.specs.declared.coding.Coding.TheVariants.{Ascii}
use Rattle.eds_codec.specs.Coding.{HasSeen}

-- ---- ASCII

pub ascii_front : (xs ys : List ℕ) → IsAscii (xs ++ ys) → IsAscii xs
ascii_front xs ys h = subst IsAscii (take_at xs ys (length xs) refl) (IsAscii-take (xs ++ ys) (length xs) h)

pub ascii_end : (xs ys : List ℕ) → IsAscii (xs ++ ys) → IsAscii ys
ascii_end xs ys h = subst IsAscii (drop_at xs ys (length xs) refl) (IsAscii-drop (xs ++ ys) (length xs) h)

-- what a test of octets says
pub ascii_told : (b : Bool) (xs : List ℕ) → MatchBool b (IsAscii xs) (IsNotAscii xs) → IsTrue b ↔ IsAscii xs
ascii_told true xs h = (λ t. h, λ a. refl)
ascii_told false xs h = (λ t. absurd cc, λ a. absurd (let k = a h.0 in omega (arith, h.1)))

-- one block more
pub plain_seen : (coding : Coding) (plain next : Bool) (block : List ℕ) → coding ≡ Ascii plain → (IsTrue next → IsTrue plain × IsAscii block) → (IsTrue plain → IsAscii block → IsTrue next)
    → (ascii : Bool) (seen : List ℕ) → HasSeen ascii coding seen → HasSeen ascii (Ascii next) (seen ++ block)
plain_seen coding plain next block is told tells true seen h =
    let old : IsTrue plain ↔ IsAscii seen = subst (λ x. HasSeen true x seen) is h in
    (λ t. IsAscii-append seen block (old.0 (told t).0) (told t).1, λ a. tells (old.1 (ascii_front seen block a)) (ascii_end seen block a))
plain_seen coding plain next block is told tells false seen h = absurd (subst (λ x. HasSeen false x seen) is h)

-- ---- a search

-- the place that a search for the termination octet gives is the number of octets before it
pub first_place : (stop : ℕ) (os : List ℕ) (r : Option ℕ) (k : ℕ) → IsFirstByte (is_byte stop) os r → k ≡ unwrap_or r (length os) → k ≡ length (before_stop stop os)
first_place stop os None k h e = e ∙ ap length (sym (before_none stop os (λ i l is. h i (omega arith) l (eq-eqb (get_or os i 0) stop is))))
first_place stop os (Some j) k h e =
    e ∙ sym (before_first stop os j (h.0).high (eqb-true (get_or os j 0) stop h.1) (λ i l is. (h.0).before i (omega arith) l (eq-eqb (get_or os i 0) stop is)))

-- octets that are searched where they stand
pub coded_front : (stop : ℕ) (ascii coded : Bool) (os xs : List ℕ) (size : ℕ) → xs ≡ os → size ≡ length (before_stop stop os) → (IsTrue coded ↔ IsCoded ascii (take size os)) → IsTrue coded ↔ IsCoded ascii (before_stop stop xs)
coded_front stop ascii coded os xs size same is told =
    let e : take size os ≡ before_stop stop xs = ap (λ k. take k os) is ∙ sym (before_is stop os).front ∙ ap (before_stop stop) (sym same) in
    (λ t. subst (IsCoded ascii) e (told.0 t), λ k. told.1 (subst (IsCoded ascii) (sym e) k))

-- ---- zeros behind a text

pub coded_zeros : (ascii : Bool) (xs : List ℕ) (z : ℕ) → IsCoded ascii (xs ++ replicate z 0) ↔ IsCoded ascii xs
coded_zeros true xs z = (λ h. ascii_front xs (replicate z 0) h, λ h. IsAscii-append xs (replicate z 0) h (IsAscii-replicate z 0 (omega arith)))
coded_zeros false xs z = IsUtf8-append_ascii xs (replicate z 0) (IsAscii-replicate z 0 (omega arith))

-- ---- one block

pub block_octets : (n : ℕ) (room : List ℕ) (bs : Bits) → 8 * n ≤ length bs → n ≤ 64 → room ≡ front_octets (length {A = ℕ} (take n (replicate 64 0))) bs → room ≡ front_octets n bs
block_octets n room bs h few is =
    let zeros : List ℕ = replicate 64 0 in
    let size : length (take n zeros) ≡ n = omega (arith, length-take n zeros, length-replicate {A = ℕ} 64 0) in
    is ∙ ap (λ k. front_octets k bs) size

pub block_taken : (n : ℕ) (room rest : List ℕ) (bs : Bits) → 8 * n ≤ length bs → room ≡ front_octets n bs → take n (room ++ rest) ≡ front_octets n bs
block_taken n room rest bs h is = take_at room rest n (ap length is ∙ length-front_octets n bs h) ∙ is

-- the octets before the termination octet, copied into zeros
pub block_text : (stop n size : ℕ) (room rest copied : List ℕ) (bs : Bits) → 8 * n ≤ length bs → room ≡ front_octets n bs → size ≡ length (before_stop stop (front_octets n bs)) → copied ≡ take size (room ++ rest)
    → copied ++ drop size (replicate 64 0) ≡ before_stop stop (front_octets n bs) ++ replicate (64 - size) 0
block_text stop n size room rest copied bs h is e copy =
    let os : List ℕ = front_octets n bs in
    let before = before_is stop os in
    let within : size ≤ length os = omega (arith, before.short) in
    let text : copied ≡ before_stop stop os =
    copy ∙ ap (λ r. take size (r ++ rest)) is ∙ take-append-le size os rest within ∙ ap (λ k. take k os) e ∙ sym before.front in
    rw (text, drop-replicate {X = ℕ} size 64 0) refl

-- ---- block by block

-- the octets so far, of those that are searched: they are a front of the text, and what is left of it stands at the
-- front of what is left to be searched; the coding has seen them, and zeros behind the last block
pub record Scanned (stop : ℕ) (ascii : Bool) (most : ℕ) (bs rest : Bits) (coding : Coding) (size left : ℕ) : Type 0 where
  pub few : size + left ≤ most
  pub text : before_stop stop (front_octets most bs) ≡ take size (front_octets most bs) ++ before_stop stop (take left (drop size (front_octets most bs)))
  pub zeros : ℕ
  pub seen : HasSeen ascii coding (take size (front_octets most bs) ++ replicate zeros 0)
  pub whole : 0 < left → zeros ≡ 0
  pub here : 0 < left → rest ≡ drop (8 * size) bs
  pub all : 0 < left → size + left ≡ most

pub scan_start : (stop : ℕ) (ascii : Bool) (most : ℕ) (bs : Bits) (coding : Coding) → 8 * most ≤ length bs → HasSeen ascii coding [] → Scanned stop ascii most bs bs coding 0 most
scan_start stop ascii most bs coding h seen = record {
  few = omega arith;
  text = ap (before_stop stop) (sym (take_all most (front_octets most bs) (omega (arith, length-front_octets most bs h))));
  zeros = 0;
  seen = seen;
  whole = λ l. refl;
  here = λ l. refl;
  all = λ l. omega arith;
}

-- the octets of the next block
next_octets : (size n most : ℕ) (bs rest : Bits) → 8 * most ≤ length bs → size + n ≤ most → rest ≡ drop (8 * size) bs → front_octets n rest ≡ take n (drop size (front_octets most bs))
next_octets size n most bs rest h few e =
    ap (front_octets n) e ∙ drop-front_octets size n bs (omega arith) ∙ ap (drop size) (take-front_octets (size + n) most bs few h) ∙ drop-take size n (front_octets most bs)

-- what a block with the termination octet says of the text, and one without
text_ends : (stop n b : ℕ) (w : List ℕ) → b ≡ length (before_stop stop (take n w)) → n ≤ length w → b < n → before_stop stop w ≡ take b w
text_ends stop n b w e h short =
    let before = before_is stop (take n w) in
    let size : length (take n w) ≡ n = omega (arith, length-take n w) in
    before-take stop n w (omega arith) ∙ before.front ∙ ap (λ k. take k (take n w)) (sym e) ∙ take-take b n w (omega arith)

text_goes_on : (stop n b : ℕ) (w : List ℕ) → b ≡ length (before_stop stop (take n w)) → n ≤ length w → n ≤ b → before_stop stop w ≡ take n w ++ before_stop stop (drop n w)
text_goes_on stop n b w e h long =
    let before = before_is stop (take n w) in
    let size : length (take n w) ≡ n = omega (arith, length-take n w) in
    let all : before_stop stop (take n w) ≡ take n w = before.front ∙ take_all (length (before_stop stop (take n w))) (take n w) (omega arith) in
    ap (before_stop stop) (sym (take-append-drop n w)) ∙ before-append stop (take n w) (drop n w) (λ has. before.free (subst (λ r. Has r stop) (sym all) has))

pub scan_step : (stop : ℕ) (ascii : Bool) (most : ℕ) (bs rest next : Bits) (coding after : Coding) (size left n b more : ℕ) (block : List ℕ) → 8 * most ≤ length bs
    → Scanned stop ascii most bs rest coding size left → 0 < left → n ≤ left → (n < left → n ≡ 64)
    → b ≡ length (before_stop stop (front_octets n rest)) → block ≡ before_stop stop (front_octets n rest) ++ replicate (64 - b) 0 → next ≡ drop (8 * n) rest
    → ((seen : List ℕ) → HasSeen ascii coding seen → HasSeen ascii after (seen ++ block))
    → (b < n → more ≡ 0) → (n ≤ b → more + n ≡ left) → Scanned stop ascii most bs next after (size + b) more
scan_step stop ascii most bs rest next coding after size left n b more block h s some few big eb eblock enext step stopped goes =
    let os : List ℕ = front_octets most bs in
    let w : List ℕ = drop size os in
    let same = next_octets size n most bs rest h (omega (arith, s.few)) (s.here some) in
    let counted : length os ≡ most = length-front_octets most bs h in
    let lw : length w ≡ left = omega (arith, length-drop size os, s.all some) in
    let is : b ≡ length (before_stop stop (take n w)) = eb ∙ ap (λ r. length (before_stop stop r)) same in
    let before = before_is stop (take n w) in
    let lt : length (take n w) ≡ n = omega (arith, length-take n w) in
    let within : b ≤ n = omega (arith, before.short) in
    let front : before_stop stop (take n w) ≡ take b w = before.front ∙ ap (λ k. take k (take n w)) (sym is) ∙ take-take b n w within in
    let joined : take size os ++ take b w ≡ take (size + b) os = sym (take-add size b os) in
    let old : before_stop stop os ≡ take size os ++ before_stop stop w = s.text ∙ ap (λ r. take size os ++ before_stop stop r) (take_all left w (omega arith)) in
    let none : take size os ++ replicate s.zeros 0 ≡ take size os = ap (λ k. take size os ++ replicate k 0) (s.whole some) ∙ append-nil (take size os) in
    let seen : HasSeen ascii after (take (size + b) os ++ replicate (64 - b) 0) =
    subst (HasSeen ascii after)
    (ap (λ r. r ++ block) none ∙ ap (λ r. take size os ++ r) (eblock ∙ ap (λ r. before_stop stop r ++ replicate (64 - b) 0) same ∙ ap (λ r. r ++ replicate (64 - b) 0) front)
    ∙ sym (append_assoc (take size os) (take b w) (replicate (64 - b) 0)) ∙ ap (λ r. r ++ replicate (64 - b) 0) joined)
    (step (take size os ++ replicate s.zeros 0) s.seen) in
    record {
      few = step_few size left n b more most s.few few within stopped goes;
      text = old ∙ step_text stop n b more (size + b) left (take size os) os w is (omega arith) joined (sym (drop-drop b size os)) (omega (arith, length-drop (size + b) os)) within lw stopped goes;
      zeros = 64 - b;
      seen = seen;
      whole = λ l. step_zeros left n b more big within stopped goes l;
      here = λ l. enext ∙ ap (drop (8 * n)) (s.here some) ∙ drop-drop (8 * n) (8 * size) bs ∙ ap (λ k. drop k bs) (step_place size left n b more within stopped goes l);
      all = λ l. step_all size left n b more most (s.all some) within stopped goes l;
    }
  where
    split : (b n : ℕ) → (b < n) ⊎ (n ≤ b)
    split b n = go (nat_lt b n) refl
      where
        go : (t : Bool) → nat_lt b n ≡ t → (b < n) ⊎ (n ≤ b)
        go true e = inl (ltb-true b n e)
        go false e = inr (ltb-false b n e)

    step_few : (size left n b more most : ℕ) → size + left ≤ most → n ≤ left → b ≤ n → (b < n → more ≡ 0) → (n ≤ b → more + n ≡ left) → size + b + more ≤ most
    step_few size left n b more most s few within stopped goes = elim (split b n) [ inl l ↦ omega (arith, stopped l) | inr l ↦ omega (arith, goes l) ]

    step_zeros : (left n b more : ℕ) → (n < left → n ≡ 64) → b ≤ n → (b < n → more ≡ 0) → (n ≤ b → more + n ≡ left) → 0 < more → 64 - b ≡ 0
    step_zeros left n b more big within stopped goes l =
        elim (split b n) [ inl k ↦ absurd (let z = stopped k in omega arith) | inr k ↦ (let z = goes k in let f : n < left = omega arith in let e = big f in omega arith) ]

    step_place : (size left n b more : ℕ) → b ≤ n → (b < n → more ≡ 0) → (n ≤ b → more + n ≡ left) → 0 < more → 8 * size + 8 * n ≡ 8 * (size + b)
    step_place size left n b more within stopped goes l = elim (split b n) [ inl k ↦ absurd (let z = stopped k in omega arith) | inr k ↦ omega arith ]

    step_all : (size left n b more most : ℕ) → size + left ≡ most → b ≤ n → (b < n → more ≡ 0) → (n ≤ b → more + n ≡ left) → 0 < more → size + b + more ≡ most
    step_all size left n b more most s within stopped goes l = elim (split b n) [ inl k ↦ absurd (let z = stopped k in omega arith) | inr k ↦ (let z = goes k in omega arith) ]

    step_text : (stop n b more to left : ℕ) (done os w : List ℕ) → b ≡ length (before_stop stop (take n w)) → n ≤ length w → done ++ take b w ≡ take to os → drop to os ≡ drop b w → length (drop to os) ≤ length w - b → b ≤ n → length w ≡ left
        → (b < n → more ≡ 0) → (n ≤ b → more + n ≡ left) → done ++ before_stop stop w ≡ take to os ++ before_stop stop (take more (drop to os))
    step_text stop n b more to left done os w is h joined rest l within e stopped goes =
        elim (split b n) [
          | inl k ↦ (
              ap (λ r. done ++ r) (text_ends stop n b w is h k) ∙ joined ∙ sym (append-nil (take to os)) ∙ ap (λ m. take to os ++ before_stop stop (take m (drop to os))) (sym (stopped k)))
          | inr k ↦ (
              let same : n ≡ b = omega arith in
              let z = goes k in
              ap (λ r. done ++ r) (text_goes_on stop n b w is h k) ∙ sym (append_assoc done (take n w) (before_stop stop (drop n w)))
              ∙ ap (λ m. (done ++ take m w) ++ before_stop stop (drop n w)) same ∙ ap (λ r. r ++ before_stop stop (drop n w)) joined
              ∙ ap (λ m. take to os ++ before_stop stop (drop m w)) same ∙ ap (λ r. take to os ++ before_stop stop r) (sym rest ∙ sym (take_all more (drop to os) (omega arith))))
        ]

-- the end of the search
pub scan_size : (stop : ℕ) (ascii : Bool) (most : ℕ) (bs rest : Bits) (coding : Coding) (size left : ℕ) → 8 * most ≤ length bs → Scanned stop ascii most bs rest coding size left → left ≡ 0 → before_stop stop (front_octets most bs) ≡ take size (front_octets most bs)
scan_size stop ascii most bs rest coding size left h s none =
    s.text ∙ ap (λ k. take size (front_octets most bs) ++ before_stop stop (take k (drop size (front_octets most bs)))) none ∙ append-nil (take size (front_octets most bs))

pub scan_count : (stop : ℕ) (ascii : Bool) (most : ℕ) (bs rest : Bits) (coding : Coding) (size left : ℕ) → 8 * most ≤ length bs → Scanned stop ascii most bs rest coding size left → left ≡ 0 → size ≡ length (before_stop stop (front_octets most bs))
scan_count stop ascii most bs rest coding size left h s none =
    omega (arith, s.few, ap length (scan_size stop ascii most bs rest coding size left h s none), length-take size (front_octets most bs), length-front_octets most bs h)

pub scan_coded : (stop : ℕ) (ascii : Bool) (most : ℕ) (bs rest : Bits) (coding : Coding) (size left : ℕ) (coded : Bool) → 8 * most ≤ length bs → Scanned stop ascii most bs rest coding size left → left ≡ 0
    → ((seen : List ℕ) → HasSeen ascii coding seen → (IsTrue coded ↔ IsCoded ascii seen)) → IsTrue coded ↔ IsCoded ascii (before_stop stop (front_octets most bs))
scan_coded stop ascii most bs rest coding size left coded h s none told =
    let os : List ℕ = front_octets most bs in
    let end = scan_size stop ascii most bs rest coding size left h s none in
    let t = told (take size os ++ replicate s.zeros 0) s.seen in
    let z = coded_zeros ascii (take size os) s.zeros in
    (λ y. subst (IsCoded ascii) (sym end) (z.0 (t.0 y)), λ k. t.1 (z.1 (subst (IsCoded ascii) end k)))
