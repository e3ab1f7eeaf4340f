-- A search with marks finds what is reached.
use Rattle.std.proofs.Common.{◌≡◌, ℕ, zero, suc, ◌<◌, ◌≤◌, ◌+◌, length, map, set, replicate, get_or, Bool, true, false, List, [], ◌∷◌, refl, sym, ap, ◌∙◌, subst, arith, inl, inr, ◌⊎◌}
use Rattle.std.specs.List.{range_with_len}
use Rattle.eds_graph.specs.Search.{Has}
use Rattle.eds_graph.specs.Stacks.{pushed}
use Rattle.eds_graph.specs.Reaching.{mark, IsNoted, Reaching, unmarked}
use Rattle.eds_graph.specs.Ways.{children, is_met, is_reached, all_reached}
use Rattle.eds_graph.proofs.Tests.{same-or, alike, no-both, any-has, has-any}
use Rattle.eds_graph.proofs.Leading.{no-children, met-itself, met-leads, met-or, met-on, leads-step, leads-all}
use Rattle.eds_graph.proofs.Searching.{pushed-has, has-old, has-pushed, pushed-length}

mark-set : (marks : List Bool) (a : ℕ) → a < length marks → mark (set marks a true) a ≡ true
mark-set [] a h = absurd (omega arith)
mark-set (m ∷ ms) zero h = refl
mark-set (m ∷ ms) (suc a) h = mark-set ms a (omega arith)

mark-other : (marks : List Bool) (a b : ℕ) → (a ≡ b → ⊥) → mark (set marks a true) b ≡ mark marks b
mark-other [] a b h = refl
mark-other (m ∷ ms) zero zero h = absurd (h refl)
mark-other (m ∷ ms) zero (suc b) h = refl
mark-other (m ∷ ms) (suc a) zero h = refl
mark-other (m ∷ ms) (suc a) (suc b) h = mark-other ms a b (λ e. h (ap suc e))

marks-length : (marks : List Bool) (a : ℕ) → length (set marks a true) ≡ length marks
marks-length [] a = refl
marks-length (m ∷ ms) zero = refl
marks-length (m ∷ ms) (suc a) = ap suc (marks-length ms a)

pub not-marked : (marks : List Bool) (a : ℕ) → a < length marks → get_or marks a false ≡ false → mark marks a ≡ false
not-marked [] a h e = refl
not-marked (m ∷ ms) zero h e = e
not-marked (m ∷ ms) (suc a) h e = not-marked ms a (omega arith) e

pub fewer-unmarked : (g : List (List ℕ)) (marks : List Bool) (a : ℕ) → length marks ≡ length g → a < length marks → mark marks a ≡ false → suc (length (children g a)) + unmarked g (set marks a true) ≡ unmarked g marks
fewer-unmarked g [] a long h e = absurd (omega arith)
fewer-unmarked [] (m ∷ ms) a long h e = absurd (omega arith)
fewer-unmarked (l ∷ g) (true ∷ ms) zero long h e = cc
fewer-unmarked (l ∷ g) (false ∷ ms) zero long h e = refl
fewer-unmarked (l ∷ g) (true ∷ ms) (suc a) long h e = fewer-unmarked g ms a (omega arith) (omega arith) e
fewer-unmarked (l ∷ g) (false ∷ ms) (suc a) long h e = let rest = fewer-unmarked g ms a (omega arith) (omega arith) e in omega arith

module _ (g : List (List ℕ)) (from : List ℕ) where
  reached-given : (a : ℕ) → Has from a → is_reached g from a ≡ true
  reached-given a h = any-has (λ b. is_met g b a) from a h (met-itself g a)

  reached-child : (a b : ℕ) → is_reached g from a ≡ true → Has (children g a) b → is_reached g from b ≡ true
  reached-child a b e k =
      let p = has-any (λ c. is_met g c a) from e in
      any-has (λ c. is_met g c b) from p.one p.there (met-leads g p.one b (met-on g p.one a b (met-or g p.one a p.test) (leads-step g a b k)))

  pub reach-mark : (marks : List Bool) (waiting : List ℕ) (next : ℕ) → Reaching g from marks (next ∷ waiting) → next < length marks → Reaching g from (set marks next true) (pushed (children g next) waiting)
  reach-mark marks waiting next h lt = record {
    long = marks-length marks next ∙ h.long;
    marked = λ a e. marked a e (same-or next a);
    waits = λ a k. elim (pushed-has (children g next) waiting a k) [ inl c ↦ reached-child next a (h.waits next (inl refl)) c | inr w ↦ h.waits a (inr w) ];
    given = λ a k. noted a (h.given a k);
    closed = λ a b e k. closed a b e k (same-or next a);
  }
    where
      marked : (a : ℕ) → mark (set marks next true) a ≡ true → (next ≡ a) ⊎ (next ≡ a → ⊥) → is_reached g from a ≡ true
      marked a e (inl s) = h.waits a (inl s)
      marked a e (inr d) = h.marked a (sym (mark-other marks next a d) ∙ e)

      noted : (a : ℕ) → IsNoted marks (next ∷ waiting) a → IsNoted (set marks next true) (pushed (children g next) waiting) a
      noted a (inl m) = inl (elim (same-or next a) [ inl s ↦ subst (λ n. mark (set marks next true) n ≡ true) s (mark-set marks next lt) | inr d ↦ mark-other marks next a d ∙ m ])
      noted a (inr (inl (inl s))) = inl (subst (λ n. mark (set marks next true) n ≡ true) s (mark-set marks next lt))
      noted a (inr (inl (inr w))) = inr (inl (has-old (children g next) waiting a w))
      noted a (inr (inr le)) = inr (inr (let same_length = marks-length marks next in omega arith))

      closed : (a b : ℕ) → mark (set marks next true) a ≡ true → Has (children g a) b → (next ≡ a) ⊎ (next ≡ a → ⊥) → IsNoted (set marks next true) (pushed (children g next) waiting) b
      closed a b e k (inl s) = inr (inl (has-pushed (children g next) waiting b (subst (λ n. Has (children g n) b) (sym s) k)))
      closed a b e k (inr d) = noted b (h.closed a b (sym (mark-other marks next a d) ∙ e) k)

  none-marked : (n a : ℕ) → mark (replicate n false) a ≡ false
  none-marked zero a = refl
  none-marked (suc n) zero = refl
  none-marked (suc n) (suc a) = none-marked n a

  length-none : (n : ℕ) → length (replicate n false) ≡ n
  length-none zero = refl
  length-none (suc n) = ap suc (length-none n)

  pub reach-none : (n : ℕ) (marks : List Bool) (waiting : List ℕ) → n ≡ length g → marks ≡ replicate n false → waiting ≡ pushed from [] → Reaching g from marks waiting
  reach-none n marks waiting sized none is = record {
    long = ap length none ∙ length-none n ∙ sized;
    marked = λ a e. absurd (no-both (mark marks a) e (not-yet a));
    waits = λ a k. elim (pushed-has from [] a (subst (λ ws. Has ws a) is k)) [ inl t ↦ reached-given a t | inr t ↦ absurd t ];
    given = λ a k. inr (inl (subst (λ ws. Has ws a) (sym is) (has-pushed from [] a k)));
    closed = λ a b e k. absurd (no-both (mark marks a) e (not-yet a));
  }
    where
      not-yet : (a : ℕ) → mark marks a ≡ false
      not-yet a = ap (λ ms. mark ms a) none ∙ none-marked n a

  abbrev IsFound : List Bool → ℕ → Type 0
  IsFound marks a = (mark marks a ≡ true) ⊎ (length marks ≤ a)

  none-has : (xs : List ℕ) (b : ℕ) → xs ≡ [] → Has xs b → ⊥
  none-has [] b e h = h
  none-has (x ∷ xs) b e h = cc

  found : (marks : List Bool) (a : ℕ) → IsNoted marks [] a → IsFound marks a
  found marks a (inl m) = inl m
  found marks a (inr (inl w)) = absurd w
  found marks a (inr (inr le)) = inr le

  found-on : (marks : List Bool) → Reaching g from marks [] → (a c : ℕ) → IsFound marks a → Has (children g a) c → IsFound marks c
  found-on marks h a c (inl m) k = found marks c (h.closed a c m k)
  found-on marks h a c (inr le) k = absurd (none-has (children g a) c (no-children g a (let long = h.long in omega arith)) k)

  -- at the end what is reached is marked
  mark-is : (marks : List Bool) → Reaching g from marks [] → (a : ℕ) → a < length marks → mark marks a ≡ is_reached g from a
  mark-is marks h a lt = alike (mark marks a) (is_reached g from a) (λ e. h.marked a e) (λ e.
      let p = has-any (λ c. is_met g c a) from e in
      let start = found marks p.one (h.given p.one p.there) in
      go (elim (met-or g p.one a p.test) [ inl s ↦ subst (IsFound marks) s start | inr l ↦ leads-all g (IsFound marks) (found-on marks h) p.one a start l ]))
    where
      go : IsFound marks a → mark marks a ≡ true
      go (inl m) = m
      go (inr le) = absurd (omega arith)

  marks-from : (f : ℕ → Bool) (k : ℕ) (marks : List Bool) → ((i : ℕ) → i < length marks → mark marks i ≡ f (k + i)) → marks ≡ map f (range_with_len k (length marks))
  marks-from f k [] h = refl
  marks-from f k (m ∷ ms) h =
      let first : m ≡ f k = h 0 (omega arith) ∙ ap f (omega arith) in
      let rest : ms ≡ map f (range_with_len (k + 1) (length ms)) = marks-from f (k + 1) ms (λ i lt. h (suc i) (omega arith) ∙ ap f (omega arith)) in
      ap (λ b. b ∷ ms) first ∙ ap (λ bs. f k ∷ bs) rest

  pub reach-all : (marks : List Bool) (waiting : List ℕ) → waiting ≡ [] → Reaching g from marks waiting → marks ≡ all_reached g from
  reach-all marks waiting none h =
      let done = subst (Reaching g from marks) none h in
      marks-from (is_reached g from) 0 marks (λ i lt. let at : 0 + i ≡ i = omega arith in mark-is marks done i lt ∙ ap (is_reached g from) (sym at)) ∙ ap (λ n. map (is_reached g from) (range_with_len 0 n)) h.long

  pub reach-fewer : (marks : List Bool) (waiting after : List ℕ) (next : ℕ) → Reaching g from marks (next ∷ waiting) → next < length marks → mark marks next ≡ false → after ≡ pushed (children g next) waiting
      → length after + unmarked g (set marks next true) ≤ length waiting + unmarked g marks
  reach-fewer marks waiting after next h lt e is =
      let fewer = fewer-unmarked g marks next h.long lt e in
      let more : length after ≡ length (children g next) + length waiting = ap length is ∙ pushed-length (children g next) waiting in
      omega arith
