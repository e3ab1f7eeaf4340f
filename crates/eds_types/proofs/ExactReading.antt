-- Reading that is exactly what is spelled and what fails, and how such readings are put together.
use Rattle.eds_base.specs.declared.fault.Fault.{Fault}
use Rattle.std.proofs.Common.{◌≡◌, ℕ, zero, suc, ◌+◌, ◌-◌, ◌<◌, ◌≤◌, Bool, true, false, cond, List, [], ◌∷◌, ◌++◌, length, take, drop, Result, Ok, Err, refl, sym, ap, subst, ◌∙◌, append_assoc, arith, ◌⊎◌, inl, inr}
use Rattle.std.specs.Prelude.{nat_lt}
use Rattle.std.proofs.lemmas.Bool.{ltb-true, ltb-false, lt-ltb, le-ltb}
use Rattle.std.proofs.lemmas.List.{length-append, take-append-drop, length-take}
use Rattle.std.proofs.Math.Seq.{drop-append_seam}
use Rattle.eds_base.specs.declared.fault.Step.{Step}
use Rattle.eds_base.specs.declared.fault.Step.TheVariants as step
use Rattle.eds_base.specs.declared.fault.Reason.TheVariants.{Short}
use Rattle.eds_bits.specs.Bits.{Bits}
use Rattle.eds_types.specs.Failing.{fault_behind, fault_here, ItemFails}
use Rattle.eds_types.specs.Plain.{Plain}
use Rattle.eds_types.specs.Reading.{Read, ◌>>=◌, inside, judged, judge, front, advance, read_bits, read_items}
use Rattle.eds_types.specs.Spelling.{ItemsSpell}

-- the bits begin with some that have P, and go on with the rest
pub record Front (P : Bits → Type 0) (b rest : Bits) : Type 0 where
  pub front : Bits
  pub is : b ≡ front ++ rest
  pub has : P front

-- the answer is one that the definitions give
abbrev pub Is : {A : Type 0} → (A → Bits → Type 0) → (Bits → Fault → Type 0) → Bits → Read A → Type 0
Is P F b (Ok x) = Front (P x.0) b x.1
Is P F b (Err g) = F b g

-- reading gives it, and whatever the definitions give is read
pub record Exact {A : Type 0} (read : Bits → Read A) (P : A → Bits → Type 0) (F : Bits → Fault → Type 0) : Type 0 where
  pub from : (b : Bits) → Is P F b (read b)
  pub to : (b : Bits) (r : Read A) → Is P F b r → read b ≡ r

abbrev pub done : {A : Type 0} → A → Result A Fault
done x = Ok x

abbrev pub failed : (A : Type 0) → Fault → Result A Fault
failed A g = Err g

pub ok_is : {A : Type 0} (x y : A) → done x ≡ done y → x ≡ y
ok_is x y e = cc

pub err_is : (A : Type 0) (g k : Fault) → failed A g ≡ failed A k → g ≡ k
err_is A g k e = cc

pub same_ok : {A : Type 0} (r : Result A Fault) (x y : A) → r ≡ Ok x → r ≡ Ok y → x ≡ y
same_ok r x y e h = let p : done x ≡ done y = sym e ∙ h in cc

pub ok_err : {A : Type 0} (r : Result A Fault) (x : A) (g : Fault) → r ≡ Ok x → r ≡ Err g → ⊥
ok_err {A} r x g e h = let p : done x ≡ failed A g = sym e ∙ h in absurd cc

pub regroup : (b c d e f : Bits) → b ≡ c ++ d → d ≡ e ++ f → b ≡ (c ++ e) ++ f
regroup b c d e f p q = p ∙ ap (λ x. c ++ x) q ∙ sym (append_assoc c e f)

take_front : (c rest : Bits) → take (length c) (c ++ rest) ≡ c
take_front [] rest = refl
take_front (x ∷ c) rest = ap (λ y. x ∷ y) (take_front c rest)

pub front_is : (b c rest : Bits) → b ≡ c ++ rest → front b rest ≡ c
front_is b c rest e =
    let n : length b - length rest ≡ length c = omega (arith, ap length e, length-append c rest) in
    ap (λ m. take m b) n ∙ ap (take (length c)) e ∙ take_front c rest

-- with the same meaning in other words
pub exact_as : {A : Type 0} (read : Bits → Read A) (P Q : A → Bits → Type 0) (F G : Bits → Fault → Type 0) → Exact read P F
    → ((x : A) (c : Bits) → P x c → Q x c) → ((x : A) (c : Bits) → Q x c → P x c) → ((b : Bits) (g : Fault) → F b g → G b g) → ((b : Bits) (g : Fault) → G b g → F b g) → Exact read Q G
exact_as {A} read P Q F G s pq qp fg gf = record { from = λ b. there b (read b) (s.from b); to = λ b r h. s.to b r (back b r h) }
  where
    there : (b : Bits) (r : Read A) → Is P F b r → Is Q G b r
    there b (Ok x) h = record { front = h.front; is = h.is; has = pq x.0 h.front h.has }
    there b (Err g) h = fg b g h

    back : (b : Bits) (r : Read A) → Is Q G b r → Is P F b r
    back b (Ok x) h = record { front = h.front; is = h.is; has = qp x.0 h.front h.has }
    back b (Err g) h = gf b g h

-- ---- so many bits

abbrev pub IsBits : ℕ → Bits → Bits → Type 0
IsBits n x c = (x ≡ c) × (length c ≡ n)

abbrev pub IsShort : ℕ → Bits → Fault → Type 0
IsShort n b g = (length b < n) × (g ≡ fault_here Short)

bits_by : ℕ → Bits → Bool → Read Bits
bits_by n b s = cond s (Err (fault_here Short)) (Ok (take n b, drop n b))

pub bits_exact : (n : ℕ) → Exact (read_bits n) (IsBits n) (IsShort n)
unfolding bits_by
bits_exact n = record { from = λ b. go b (nat_lt (length b) n) refl; to = λ b r h. back b r h }
  where
    go : (b : Bits) (s : Bool) → nat_lt (length b) n ≡ s → Is (IsBits n) (IsShort n) b (bits_by n b s)
    go b true e = (ltb-true (length b) n e, refl)
    go b false e = record { front = take n b; is = sym (take-append-drop n b); has = (refl, omega (arith, length-take n b, ltb-false (length b) n e)) }

    back : (b : Bits) (r : Read Bits) → Is (IsBits n) (IsShort n) b r → read_bits n b ≡ r
    back b (Err g) h = ap (bits_by n b) (lt-ltb (length b) n h.0) ∙ ap (failed (Bits × Bits)) (sym h.1)
    back b (Ok x) h =
        let len = h.has.1 in
        let enough : n ≤ length b = omega (arith, ap length h.is, length-append h.front x.1) in
        let one : take n b ≡ x.0 = ap (λ m. take m b) (sym len) ∙ ap (take (length h.front)) h.is ∙ take_front h.front x.1 ∙ sym h.has.0 in
        let two : drop n b ≡ x.1 = ap (λ m. drop m b) (sym len) ∙ ap (drop (length h.front)) h.is ∙ drop-append_seam h.front x.1 in
        ap (bits_by n b) (le-ltb (length b) n enough) ∙ ap (λ y. done (y, drop n b)) one ∙ ap (λ y. done (x.0, y)) two

-- ---- what is read and then judged

pub record Judged {A B : Type 0} (P : A → Bits → Type 0) (j : A → Result B Fault) (y : B) (c : Bits) : Type 0 where
  pub x : A
  pub read : P x c
  pub is : j x ≡ Ok y

pub record Refused {A B : Type 0} (P : A → Bits → Type 0) (j : A → Result B Fault) (b : Bits) (g : Fault) : Type 0 where
  pub x : A
  pub c : Bits
  pub rest : Bits
  pub bits : b ≡ c ++ rest
  pub read : P x c
  pub is : j x ≡ Err g

abbrev pub JudgeFails : {A B : Type 0} → (A → Bits → Type 0) → (A → Result B Fault) → (Bits → Fault → Type 0) → Bits → Fault → Type 0
JudgeFails P j F b g = F b g ⊎ Refused P j b g

pub judge_exact : {A B : Type 0} (read : Bits → Read A) (P : A → Bits → Type 0) (F : Bits → Fault → Type 0) (j : A → Result B Fault) → Exact read P F → Exact (λ b. judge j (read b)) (Judged P j) (JudgeFails P j F)
judge_exact {A} {B} read P F j s = record { from = λ b. there b (read b) (s.from b); to = back }
  where
    there_by : (b : Bits) (x : A × Bits) → Front (P x.0) b x.1 → (r : Result B Fault) → j x.0 ≡ r → Is (Judged P j) (JudgeFails P j F) b (judged x.1 r)
    there_by b x h (Ok y) e = record { front = h.front; is = h.is; has = record { x = x.0; read = h.has; is = e } }
    there_by b x h (Err g) e = inr (record { x = x.0; c = h.front; rest = x.1; bits = h.is; read = h.has; is = e })

    there : (b : Bits) (r : Read A) → Is P F b r → Is (Judged P j) (JudgeFails P j F) b (judge j r)
    there b (Ok x) h = there_by b x h (j x.0) refl
    there b (Err g) h = inl h

    back : (b : Bits) (r : Read B) → Is (Judged P j) (JudgeFails P j F) b r → judge j (read b) ≡ r
    back b (Ok y) h = ap (judge j) (s.to b (Ok (h.has.x, y.1)) (record { front = h.front; is = h.is; has = h.has.read })) ∙ ap (judged y.1) h.has.is
    back b (Err g) (inl h) = ap (judge j) (s.to b (Err g) h)
    back b (Err g) (inr h) = ap (judge j) (s.to b (Ok (h.x, h.rest)) (record { front = h.c; is = h.bits; has = h.read })) ∙ ap (judged h.rest) h.is

-- ---- what is read and put to use

pub record Moved {A B : Type 0} (P : A → Bits → Type 0) (f : A → Bits → B) (y : B) (c : Bits) : Type 0 where
  pub x : A
  pub read : P x c
  pub is : y ≡ f x c

pub advance_exact : {A B : Type 0} (read : Bits → Read A) (P : A → Bits → Type 0) (F : Bits → Fault → Type 0) (f : A → Bits → B) → Exact read P F → Exact (λ b. advance f b (read b)) (Moved P f) F
advance_exact {A} {B} read P F f s = record { from = λ b. there b (read b) (s.from b); to = back }
  where
    there : (b : Bits) (r : Read A) → Is P F b r → Is (Moved P f) F b (advance f b r)
    there b (Ok x) h = record { front = h.front; is = h.is; has = record { x = x.0; read = h.has; is = ap (f x.0) (front_is b h.front x.1 h.is) } }
    there b (Err g) h = h

    back : (b : Bits) (r : Read B) → Is (Moved P f) F b r → advance f b (read b) ≡ r
    back b (Ok y) h =
        ap (advance f b) (s.to b (Ok (h.has.x, y.1)) (record { front = h.front; is = h.is; has = h.has.read }))
        ∙ ap (λ c. done (f h.has.x c, y.1)) (front_is b h.front y.1 h.is) ∙ ap (λ z. done (z, y.1)) (sym h.has.is)
    back b (Err g) h = ap (advance f b) (s.to b (Err g) h)

-- ---- what is read inside a step

pub inside_exact : {A : Type 0} (st : Step) (read : Bits → Read A) (P : A → Bits → Type 0) (F : Bits → Fault → Type 0) → Exact read P F → Exact (λ b. inside st (read b)) P (λ b g. (w : Fault) × F b w × (g ≡ fault_behind st w))
inside_exact {A} st read P F s = record { from = λ b. there b (read b) (s.from b); to = back }
  where
    there : (b : Bits) (r : Read A) → Is P F b r → Is P (λ b g. (w : Fault) × F b w × (g ≡ fault_behind st w)) b (inside st r)
    there b (Ok x) h = h
    there b (Err g) h = (g, h, refl)

    back : (b : Bits) (r : Read A) → Is P (λ b g. (w : Fault) × F b w × (g ≡ fault_behind st w)) b r → inside st (read b) ≡ r
    back b (Ok x) h = ap (inside st) (s.to b (Ok x) h)
    back b (Err g) h = ap (inside st) (s.to b (Err h.0) h.1) ∙ ap (failed (A × Bits)) (sym h.2)

-- ---- items

pub record Items (SpellsInner : Plain → Bits → Type 0) (n : ℕ) (vs : List Plain) (c : Bits) : Type 0 where
  pub count : length vs ≡ n
  pub spelled : ItemsSpell SpellsInner vs c

-- the items from the j-th on
record ItemsFail (SpellsInner : Plain → Bits → Type 0) (FailsInner : Bits → Fault → Type 0) (n j : ℕ) (b : Bits) (g : Fault) : Type 0 where
  before : List Plain
  few : length before < n
  c : Bits
  d : Bits
  bits : b ≡ c ++ d
  spelled : ItemsSpell SpellsInner before c
  why : Fault
  fails : FailsInner d why
  is : g ≡ fault_behind (step.Item (j + length before)) why

module _ (read : Bits → Read Plain) (SpellsInner : Plain → Bits → Type 0) (FailsInner : Bits → Fault → Type 0) (s : Exact read SpellsInner FailsInner) where
  then_by : Plain → Read (List Plain) → Read (List Plain)
  then_by v r = r >>= λ vs. Ok (v ∷ vs.0, vs.1)

  put_first : (n j : ℕ) (b : Bits) (x : Plain × Bits) → Front (SpellsInner x.0) b x.1 → (r : Read (List Plain)) → Is (Items SpellsInner n) (ItemsFail SpellsInner FailsInner n (j + 1)) x.1 r → Is (Items SpellsInner (suc n)) (ItemsFail SpellsInner FailsInner (suc n) j) b (then_by x.0 r)
  unfolding then_by
  put_first n j b x h (Ok vs) k = record { front = h.front ++ k.front; is = regroup b h.front x.1 k.front vs.1 h.is k.is; has = record { count = ap suc k.has.count; spelled = (h.front, k.front, refl, h.has, k.has.spelled) } }
  put_first n j b x h (Err g) k =
      let m : j + 1 + length k.before ≡ j + length (x.0 ∷ k.before) = omega arith in let small = k.few in
      record { before = x.0 ∷ k.before; few = omega arith; c = h.front ++ k.c; d = k.d; bits = regroup b h.front x.1 k.c k.d h.is k.bits; spelled = (h.front, k.c, refl, h.has, k.spelled); why = k.why; fails = k.fails; is = k.is ∙ ap (λ i. fault_behind (step.Item i) k.why) m }

  items_from : (n j : ℕ) (b : Bits) → Is (Items SpellsInner n) (ItemsFail SpellsInner FailsInner n j) b (read_items read n j b)
  unfolding read_items then_by
  items_from zero j b = record { front = []; is = refl; has = record { count = refl; spelled = refl } }
  items_from (suc n) j b = go (read b) (s.from b) (λ d. items_from n (j + 1) d)
    where
      go : (r : Read Plain) → Is SpellsInner FailsInner b r → ((d : Bits) → Is (Items SpellsInner n) (ItemsFail SpellsInner FailsInner n (j + 1)) d (read_items read n (j + 1) d)) → Is (Items SpellsInner (suc n)) (ItemsFail SpellsInner FailsInner (suc n) j) b (inside (step.Item j) r >>= λ v. read_items read n (j + 1) v.1 >>= λ vs. Ok (v.0 ∷ vs.0, vs.1))
      go (Ok x) h ih = put_first n j b x h (read_items read n (j + 1) x.1) (ih x.1)
      go (Err g) h ih = let z : j ≡ j + 0 = omega arith in record { before = []; few = omega arith; c = []; d = b; bits = refl; spelled = refl; why = g; fails = h; is = ap (λ m. fault_behind (step.Item m) g) z }

  items_to : (vs : List Plain) (j : ℕ) (b rest : Bits) → ItemsSpell SpellsInner vs b → read_items read (length vs) j (b ++ rest) ≡ Ok (vs, rest)
  unfolding read_items
  items_to [] j b rest h = rw h refl
  items_to (v ∷ vs) j b rest h =
      let e : b ++ rest ≡ h.0 ++ (h.1 ++ rest) = ap (λ x. x ++ rest) h.2 ∙ append_assoc h.0 h.1 rest in
      let one = s.to (b ++ rest) (Ok (v, h.1 ++ rest)) (record { front = h.0; is = e; has = h.3 }) in
      let others = items_to vs (j + 1) h.1 rest h.4 in
      rw (one, others) refl

  items_stop : (before : List Plain) (n j : ℕ) (b c d : Bits) (g : Fault) → length before < n → b ≡ c ++ d → ItemsSpell SpellsInner before c → FailsInner d g → read_items read n j b ≡ Err (fault_behind (step.Item (j + length before)) g)
  unfolding read_items
  items_stop [] zero j b c d g lt e h k = absurd (omega arith)
  items_stop (v ∷ vs) zero j b c d g lt e h k = absurd (omega arith)
  items_stop [] (suc n) j b c d g lt e h k =
      let same : b ≡ d = e ∙ ap (λ x. x ++ d) h in
      let z : j ≡ j + 0 = omega arith in
      rw (s.to b (Err g) (subst (λ x. FailsInner x g) (sym same) k)) (ap (λ m. failed (List Plain × Bits) (fault_behind (step.Item m) g)) z)
  items_stop (v ∷ vs) (suc n) j b c d g lt e h k =
      let e' : b ≡ h.0 ++ (h.1 ++ d) = e ∙ ap (λ x. x ++ d) h.2 ∙ append_assoc h.0 h.1 d in
      let m : j + 1 + length vs ≡ j + length (v ∷ vs) = omega arith in
      let one = s.to b (Ok (v, h.1 ++ d)) (record { front = h.0; is = e'; has = h.3 }) in
      let rest = items_stop vs n (j + 1) (h.1 ++ d) h.1 d g (omega arith) refl h.4 k in
      rw (one, rest) (ap (λ i. failed (List Plain × Bits) (fault_behind (step.Item i) g)) m)

  pub items_exact : (n : ℕ) → Exact (read_items read n 0) (Items SpellsInner n) (ItemFails SpellsInner FailsInner n)
  items_exact n = record { from = λ b. there b (read_items read n 0 b) (items_from n 0 b); to = back }
    where
      there : (b : Bits) (r : Read (List Plain)) → Is (Items SpellsInner n) (ItemsFail SpellsInner FailsInner n 0) b r → Is (Items SpellsInner n) (ItemFails SpellsInner FailsInner n) b r
      there b (Ok x) h = h
      there b (Err g) h =
          let z : 0 + length h.before ≡ length h.before = omega arith in
          record { before = h.before; few = h.few; c = h.c; d = h.d; bits = h.bits; spelled = h.spelled; why = h.why; fails = h.fails; is = h.is ∙ ap (λ k. fault_behind (step.Item k) h.why) z }

      back : (b : Bits) (r : Read (List Plain)) → Is (Items SpellsInner n) (ItemFails SpellsInner FailsInner n) b r → read_items read n 0 b ≡ r
      back b (Ok x) h = ap (λ m. read_items read m 0 b) (sym h.has.count) ∙ ap (read_items read (length x.0) 0) h.is ∙ items_to x.0 0 h.front x.1 h.has.spelled
      back b (Err g) h =
          let z : 0 + length h.before ≡ length h.before = omega arith in
          items_stop h.before n 0 b h.c h.d h.why h.few h.bits h.spelled h.fails ∙ ap (λ i. failed (List Plain × Bits) (fault_behind (step.Item i) h.why)) z ∙ ap (failed (List Plain × Bits)) (sym h.is)
