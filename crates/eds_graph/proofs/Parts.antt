-- What the search keeps true, after each of its steps.
use Rattle.std.proofs.Common.{◌≡◌, ℕ, ◌<◌, ◌≤◌, ◌+◌, ◌++◌, length, Bool, true, false, List, [], ◌∷◌, refl, sym, ap, ◌∙◌, subst, arith, inl, inr, ◌⊎◌}
use Rattle.std.proofs.lemmas.List.{length-append, append_assoc}
use Rattle.eds_graph.specs.declared.course.Course.{Course}
use Rattle.eds_graph.specs.declared.course.Course.TheVariants.{OnCircle}
use Rattle.eds_graph.specs.declared.search.State.{State}
use Rattle.eds_graph.specs.declared.search.State.TheVariants.{New, Open, Done}
use Rattle.eds_graph.specs.Search.{Has, At, Segment, IsSegment, IsSeen, AreSegments, AreOpen, IsSound, state, is_done, members_of, waiting_of, course_of_top}
use Rattle.eds_graph.specs.Ways.{children, leads, is_met, course}
use Rattle.eds_graph.proofs.Tests.{has-left, has-right, has-either, has-any, same-or, not-true, no-both}
use Rattle.eds_graph.proofs.Leading.{leads-is, leads-step, leads-on, leads-met, met-or, leads-all}
use Rattle.eds_graph.proofs.Heights.{course-after}

-- ---- places

pub at-has : (xs : List ℕ) (p a : ℕ) → At xs p a → Has xs a
at-has [] p a h = absurd h
at-has (x ∷ xs) p a (inl e) = inl e.1
at-has (x ∷ xs) p a (inr h) = inr (at-has xs p a h)

pub at-less : (xs : List ℕ) (p a : ℕ) → At xs p a → p < length xs
at-less [] p a h = absurd h
at-less (x ∷ xs) p a (inl e) = let same = e.0 in omega arith
at-less (x ∷ xs) p a (inr h) = let rest = at-less xs p a h in omega arith

pub record Placed (xs : List ℕ) (a : ℕ) : Type 0 where
  pub place : ℕ
  pub there : At xs place a

pub has-at : (xs : List ℕ) (a : ℕ) → Has xs a → Placed xs a
has-at [] a h = absurd h
has-at (x ∷ xs) a (inl e) = record { place = length xs; there = inl (refl, e) }
has-at (x ∷ xs) a (inr h) = let p = has-at xs a h in record { place = p.place; there = inr p.there }

pub at-either : (xs ys : List ℕ) (p a : ℕ) → At (xs ++ ys) p a → (Has xs a × (length ys ≤ p)) ⊎ At ys p a
at-either [] ys p a h = inr h
at-either (x ∷ xs) ys p a (inl e) = let long = length-append xs ys in let same = e.0 in inl (inl e.1, omega arith)
at-either (x ∷ xs) ys p a (inr h) = elim (at-either xs ys p a h) [ inl l ↦ inl (inr l.0, l.1) | inr r ↦ inr r ]

pub record Some (xs : List ℕ) : Type 0 where
  pub one : ℕ
  pub there : Has xs one

some-one : (xs : List ℕ) → 0 < length xs → Some xs
some-one [] h = absurd (omega arith)
some-one (x ∷ xs) h = record { one = x; there = inl refl }

has-some : (xs : List ℕ) (a : ℕ) → Has xs a → 0 < length xs
has-some [] a h = absurd h
has-some (x ∷ xs) a h = omega arith

none-there : (xs : List ℕ) (a : ℕ) → xs ≡ [] → Has xs a → ⊥
none-there [] a e h = h
none-there (x ∷ xs) a e h = cc

-- ---- states

open-not-done : (s : State) (p : ℕ) → s ≡ Open p → is_done s ≡ true → ⊥
open-not-done s p e d = let wrong : false ≡ true = sym (ap is_done e) ∙ d in cc

new-not-done : (s : State) → s ≡ New → is_done s ≡ true → ⊥
new-not-done s e d = let wrong : false ≡ true = sym (ap is_done e) ∙ d in cc

done-is : (s : State) (c : Course) → s ≡ Done c → is_done s ≡ true
done-is s c e = ap is_done e

place_in : State → ℕ
place_in New = 0
place_in (Open p) = p
place_in (Done c) = 0

same-place : (p q : ℕ) → Open p ≡ Open q → p ≡ q
unfolding place_in
same-place p q e = ap place_in e

course_if : State → Course
course_if New = OnCircle
course_if (Open p) = OnCircle
course_if (Done c) = c

same-course : (c d : Course) → Done c ≡ Done d → c ≡ d
unfolding course_if
same-course c d e = ap course_if e

record Course-of (s : State) : Type 0 where
  course : Course
  is : s ≡ Done course

done-course : (s : State) → is_done s ≡ true → Course-of s
done-course New e = cc
done-course (Open p) e = cc
done-course (Done c) e = record { course = c; is = refl }

-- ---- segments under other states and other numbers above

module _ (g : List (List ℕ)) (old new : List State) where
  abbrev AreKept : Type 0
  AreKept = (c : ℕ) → is_done (state old c) ≡ true → is_done (state new c) ≡ true

  abbrev AreAbove : List ℕ → List ℕ → Type 0
  AreAbove above after = (c : ℕ) → Has above c → Has after c ⊎ (is_done (state new c) ≡ true)

  segment-on : (above after : List ℕ) (s : Segment) (below : List Segment) → AreKept → AreAbove above after → IsSegment g old above s below → IsSegment g new after s below
  segment-on above after s below kept more h = record {
    strong = h.strong;
    ring = h.ring;
    alone = h.alone;
    under = h.under;
    next = h.next;
    seen = λ a b m c. go b (h.seen a b m c);
    some = h.some;
  }
    where
      go : (b : ℕ) → IsSeen g old above s b → IsSeen g new after s b
      go b (inl d) = inl (kept b d)
      go b (inr (inl w)) = inr (inl w)
      go b (inr (inr (inl m))) = inr (inr (inl m))
      go b (inr (inr (inr u))) = elim (more b u) [ inl t ↦ inr (inr (inr t)) | inr d ↦ inl d ]

  pub segments-on : (above after : List ℕ) (path : List Segment) → AreKept → AreAbove above after → AreSegments g old above path → AreSegments g new after path
  segments-on above after [] kept more h = tt
  segments-on above after (s ∷ below) kept more h =
      (segment-on above after s below kept more h.0, segments-on (s.members ++ above) (s.members ++ after) below kept (λ c k. go c (has-either s.members above c k)) h.1)
    where
      go : (c : ℕ) → Has s.members c ⊎ Has above c → Has (s.members ++ after) c ⊎ (is_done (state new c) ≡ true)
      go c (inl m) = inl (has-left s.members after c m)
      go c (inr u) = elim (more c u) [ inl t ↦ inl (has-right s.members after c t) | inr d ↦ inr d ]

abbrev pub seg : List ℕ → List ℕ → Bool → Segment
seg m w r = record { members = m; waiting = w; circle = r }

module _ (g : List (List ℕ)) (st : List State) where
  -- all open numbers lead to what waits for the topmost segment
  pub all-lead : (s : Segment) (below : List Segment) → IsSegment g st [] s below → (c : ℕ) → Has s.waiting c → (a : ℕ) → Has (s.members ++ members_of below) a → leads g a c ≡ true
  all-lead s below h c w a m = go (has-either s.members (members_of below) a m) h.some
    where
      go : Has s.members a ⊎ Has (members_of below) a → (members_of below ≡ []) ⊎ (0 < length s.members) → leads g a c ≡ true
      go (inl k) t = h.next a c k w
      go (inr k) (inl none) = absurd (none-there (members_of below) a none k)
      go (inr k) (inr t) = let y = some-one s.members t in leads-on g a y.one c (h.under a y.one k y.there) (h.next y.one c y.there w)

  -- ---- a number that is done

  pub pass-sound : (m ws : List ℕ) (r : Bool) (c : ℕ) (below : List Segment) → IsSound g st (seg m (c ∷ ws) r ∷ below) → is_done (state st c) ≡ true → IsSound g st (seg m ws r ∷ below)
  pass-sound m ws r c below h d = record {
    long = h.long;
    are_open = h.are_open;
    segments = (
      record {
        strong = h.segments.0.strong;
        ring = h.segments.0.ring;
        alone = h.segments.0.alone;
        under = h.segments.0.under;
        next = λ a b k w. h.segments.0.next a b k (inr w);
        seen = λ a b k e. go b (h.segments.0.seen a b k e);
        some = h.segments.0.some;
      },
      h.segments.1,
    );
    right = h.right;
    closed = h.closed;
    new = λ a e. waits a e (h.new a e);
  }
    where
      go : (b : ℕ) → IsSeen g st [] (seg m (c ∷ ws) r) b → IsSeen g st [] (seg m ws r) b
      go b (inl e) = inl e
      go b (inr (inl (inl e))) = inl (subst (λ n. is_done (state st n) ≡ true) e d)
      go b (inr (inl (inr w))) = inr (inl w)
      go b (inr (inr k)) = inr (inr k)

      waits : (a : ℕ) → state st a ≡ New → (c ≡ a) ⊎ Has (ws ++ waiting_of below) a → Has (ws ++ waiting_of below) a
      waits a e (inl s) = absurd (new-not-done (state st a) e (subst (λ n. is_done (state st n) ≡ true) s d))
      waits a e (inr w) = w

  -- ---- a number of the topmost segment

  pub turn-sound : (m ws : List ℕ) (r : Bool) (c p : ℕ) (below : List Segment) → IsSound g st (seg m (c ∷ ws) r ∷ below) → state st c ≡ Open p → length (members_of below) ≤ p → IsSound g st (seg m ws true ∷ below)
  turn-sound m ws r c p below h o le = record {
    long = h.long;
    are_open = h.are_open;
    segments = (
      record {
        strong = h.segments.0.strong;
        ring = λ _ a k. leads-met g a c a (h.segments.0.next a c k (inl refl)) (h.segments.0.strong c a own k);
        alone = λ e a b k l. absurd (let wrong : true ≡ false = e in cc);
        under = h.segments.0.under;
        next = λ a b k w. h.segments.0.next a b k (inr w);
        seen = λ a b k e. go b (h.segments.0.seen a b k e);
        some = h.segments.0.some;
      },
      h.segments.1,
    );
    right = h.right;
    closed = h.closed;
    new = λ a e. waits a e (h.new a e);
  }
    where
      own : Has m c
      own = elim (at-either m (members_of below) p c (h.are_open.back p c o)) [ inl l ↦ l.0 | inr t ↦ absurd (let less = at-less (members_of below) p c t in omega arith) ]

      go : (b : ℕ) → IsSeen g st [] (seg m (c ∷ ws) r) b → IsSeen g st [] (seg m ws true) b
      go b (inl e) = inl e
      go b (inr (inl (inl e))) = inr (inr (inl (subst (λ n. Has m n) e own, refl)))
      go b (inr (inl (inr w))) = inr (inl w)
      go b (inr (inr (inl k))) = inr (inr (inl (k.0, refl)))
      go b (inr (inr (inr u))) = absurd u

      waits : (a : ℕ) → state st a ≡ New → (c ≡ a) ⊎ Has (ws ++ waiting_of below) a → Has (ws ++ waiting_of below) a
      waits a e (inl s) = let wrong : New ≡ Open p = sym e ∙ subst (λ n. state st n ≡ Open p) s o in cc
      waits a e (inr w) = w

  -- ---- a number below the topmost segment

  module _ (m ws n vs : List ℕ) (r q : Bool) (c p : ℕ) (below : List Segment) (h : IsSound g st (seg m (c ∷ ws) r ∷ seg n vs q ∷ below)) (o : state st c ≡ Open p) (lt : p < length (n ++ members_of below)) where
    under-c : Has (n ++ members_of below) c
    under-c = elim (at-either m (n ++ members_of below) p c (h.are_open.back p c o)) [ inl l ↦ absurd (let le = l.1 in omega arith) | inr t ↦ at-has (n ++ members_of below) p c t ]

    upper : Some m
    upper = elim h.segments.0.some [ inl none ↦ absurd (none-there (n ++ members_of below) c none under-c) | inr t ↦ some-one m t ]

    lower : Some n
    lower = elim h.segments.1.0.some [
      | inl none ↦ elim (has-either n (members_of below) c under-c) [ inl k ↦ record { one = c; there = k } | inr k ↦ absurd (none-there (members_of below) c none k) ]
      | inr t ↦ some-one n t
    ]

    from-c : (y : ℕ) → Has n y → (c ≡ y) ⊎ (leads g c y ≡ true)
    from-c y k = elim (has-either n (members_of below) c under-c) [ inl l ↦ h.segments.1.0.strong c y l k | inr l ↦ inr (h.segments.1.0.under c y l k) ]

    to-c : (x : ℕ) → Has m x → leads g x c ≡ true
    to-c x k = h.segments.0.next x c k (inl refl)

    down : (x y : ℕ) → Has m x → Has n y → leads g x y ≡ true
    down x y k l = leads-met g x c y (to-c x k) (from-c y l)

    up : (y x : ℕ) → Has n y → Has m x → leads g y x ≡ true
    up y x l k = h.segments.0.under y x (has-left n (members_of below) y l) k

    strong-both : (a b : ℕ) → Has m a ⊎ Has n a → Has m b ⊎ Has n b → (a ≡ b) ⊎ (leads g a b ≡ true)
    strong-both a b (inl k) (inl l) = h.segments.0.strong a b k l
    strong-both a b (inl k) (inr l) = inr (down a b k l)
    strong-both a b (inr k) (inl l) = inr (up a b k l)
    strong-both a b (inr k) (inr l) = h.segments.1.0.strong a b k l

    ring-both : (a : ℕ) → Has m a ⊎ Has n a → leads g a a ≡ true
    ring-both a (inl k) = leads-on g a c a (to-c a k) (h.segments.0.under c a under-c k)
    ring-both a (inr k) = leads-on g a upper.one a (up a upper.one k upper.there) (down upper.one a upper.there k)

    next-both : (a b : ℕ) → Has m a ⊎ Has n a → Has (c ∷ ws) b ⊎ Has vs b → leads g a b ≡ true
    next-both a b (inl k) (inl w) = h.segments.0.next a b k w
    next-both a b (inl k) (inr w) = leads-on g a lower.one b (down a lower.one k lower.there) (h.segments.1.0.next lower.one b lower.there w)
    next-both a b (inr k) (inl w) = leads-on g a upper.one b (up a upper.one k upper.there) (h.segments.0.next upper.one b upper.there w)
    next-both a b (inr k) (inr w) = h.segments.1.0.next a b k w

    under-both : (a b : ℕ) → Has (members_of below) a → Has m b ⊎ Has n b → leads g a b ≡ true
    under-both a b k (inl l) = h.segments.0.under a b (has-right n (members_of below) a k) l
    under-both a b k (inr l) = h.segments.1.0.under a b k l

    abbrev both : Segment
    both = seg (m ++ n) ((c ∷ ws) ++ vs) true

    seen-upper : (b : ℕ) → IsSeen g st [] (seg m (c ∷ ws) r) b → IsSeen g st [] both b
    seen-upper b (inl d) = inl d
    seen-upper b (inr (inl w)) = inr (inl (has-left (c ∷ ws) vs b w))
    seen-upper b (inr (inr (inl k))) = inr (inr (inl (has-left m n b k.0, refl)))
    seen-upper b (inr (inr (inr u))) = absurd u

    seen-lower : (b : ℕ) → IsSeen g st (m ++ []) (seg n vs q) b → IsSeen g st [] both b
    seen-lower b (inl d) = inl d
    seen-lower b (inr (inl w)) = inr (inl (has-right (c ∷ ws) vs b w))
    seen-lower b (inr (inr (inl k))) = inr (inr (inl (has-right m n b k.0, refl)))
    seen-lower b (inr (inr (inr u))) = elim (has-either m [] b u) [ inl k ↦ inr (inr (inl (has-left m n b k, refl))) | inr k ↦ absurd k ]

    seen-both : (a b : ℕ) → Has m a ⊎ Has n a → Has (children g a) b → IsSeen g st [] both b
    seen-both a b (inl k) e = seen-upper b (h.segments.0.seen a b k e)
    seen-both a b (inr k) e = seen-lower b (h.segments.1.0.seen a b k e)

    above-both : (b : ℕ) → Has (n ++ (m ++ [])) b → Has ((m ++ n) ++ []) b ⊎ (is_done (state st b) ≡ true)
    above-both b k = inl (has-left (m ++ n) [] b (elim (has-either n (m ++ []) b k) [
      | inl l ↦ has-right m n b l
      | inr l ↦ elim (has-either m [] b l) [ inl u ↦ has-left m n b u | inr u ↦ absurd u ]
    ]))

    pub merge-sound : IsSound g st (both ∷ below)
    merge-sound = record {
      long = h.long;
      are_open = subst (AreOpen st) (sym (append_assoc m n (members_of below))) h.are_open;
      segments = (
        record {
          strong = λ a b k l. strong-both a b (has-either m n a k) (has-either m n b l);
          ring = λ _ a k. ring-both a (has-either m n a k);
          alone = λ e a b k l. absurd (let wrong : true ≡ false = e in cc);
          under = λ a b k l. under-both a b k (has-either m n b l);
          next = λ a b k w. next-both a b (has-either m n a k) (has-either (c ∷ ws) vs b w);
          seen = λ a b k e. seen-both a b (has-either m n a k) e;
          some = inr (has-some (m ++ n) upper.one (has-left m n upper.one upper.there));
        },
        segments-on g st st (n ++ (m ++ [])) ((m ++ n) ++ []) below (λ b d. d) above-both h.segments.1.1,
      );
      right = h.right;
      closed = h.closed;
      new = λ a e. subst (λ w. Has w a) (sym (append_assoc (c ∷ ws) vs (waiting_of below))) (h.new a e);
    }

-- ---- a new number

module _ (g : List (List ℕ)) (st after : List State) where
  pub open-sound : (s : Segment) (below : List Segment) (c : ℕ) (kids : List ℕ)
      → IsSound g st (s ∷ below) → Has s.waiting c → state st c ≡ New
      → state after c ≡ Open (length (members_of (s ∷ below))) → ((a : ℕ) → (c ≡ a → ⊥) → state after a ≡ state st a) → length after ≡ length g
      → ((b : ℕ) → Has (children g c) b → Has kids b) → ((b : ℕ) → Has kids b → Has (children g c) b)
      → IsSound g after (seg (c ∷ []) kids false ∷ s ∷ below)
  open-sound s below c kids h w n o other long to from = record {
    long = long;
    are_open = record { there = λ p a k. there p a k; back = λ p a e. back p a e (same-or c a) };
    segments = (
      record {
        strong = λ a b k l. inl (only a k ∙ sym (only b l));
        ring = λ e a k. absurd (let wrong : false ≡ true = e in cc);
        alone = λ e a b k l. only a k ∙ sym (only b l);
        under = λ a b k l. subst (λ x. leads g a x ≡ true) (sym (only b l)) (all-lead g st s below h.segments.0 c w a k);
        next = λ a b k l. subst (λ x. leads g x b ≡ true) (sym (only a k)) (leads-step g c b (from b l));
        seen = λ a b k e. inr (inl (to b (subst (λ x. Has (children g x) b) (only a k) e)));
        some = inr (omega arith);
      },
      segments-on g st after [] ((c ∷ []) ++ []) (s ∷ below) kept (λ b k. absurd k) h.segments,
    );
    right = λ a k e. right a k e (same-or c a);
    closed = λ a k e b l. closed a k e b l (same-or c a);
    new = λ a e. new a e (same-or c a);
  }
    where
      only : (a : ℕ) → Has (c ∷ []) a → a ≡ c
      only a (inl e) = sym e
      only a (inr k) = absurd k

      kept : (b : ℕ) → is_done (state st b) ≡ true → is_done (state after b) ≡ true
      kept b d = elim (same-or c b) [ inl e ↦ absurd (new-not-done (state st b) (subst (λ x. state st x ≡ New) e n) d) | inr e ↦ ap is_done (other b e) ∙ d ]

      there : (p a : ℕ) → At (c ∷ members_of (s ∷ below)) p a → state after a ≡ Open p
      there p a (inl e) = subst (λ x. state after x ≡ Open p) e.1 (o ∙ ap Open (sym e.0))
      there p a (inr k) = other a (λ e. let was = h.are_open.there p a k in let wrong : New ≡ Open p = sym (subst (λ x. state st x ≡ New) e n) ∙ was in cc) ∙ h.are_open.there p a k

      back : (p a : ℕ) → state after a ≡ Open p → (c ≡ a) ⊎ (c ≡ a → ⊥) → At (c ∷ members_of (s ∷ below)) p a
      back p a e (inl k) = inl (same-place p (length (members_of (s ∷ below))) (sym e ∙ subst (λ x. state after x ≡ Open (length (members_of (s ∷ below)))) k o), k)
      back p a e (inr k) = inr (h.are_open.back p a (sym (other a k) ∙ e))

      opened : (a : ℕ) (k : Course) → state after a ≡ Done k → c ≡ a → ⊥
      opened a k e i = let wrong : Open (length (members_of (s ∷ below))) ≡ Done k = sym (subst (λ x. state after x ≡ Open (length (members_of (s ∷ below)))) i o) ∙ e in cc

      right : (a : ℕ) (k : Course) → state after a ≡ Done k → (c ≡ a) ⊎ (c ≡ a → ⊥) → k ≡ course g a
      right a k e (inl i) = absurd (opened a k e i)
      right a k e (inr d) = h.right a k (sym (other a d) ∙ e)

      closed : (a : ℕ) (k : Course) → state after a ≡ Done k → (b : ℕ) → Has (children g a) b → (c ≡ a) ⊎ (c ≡ a → ⊥) → is_done (state after b) ≡ true
      closed a k e b l (inl i) = absurd (opened a k e i)
      closed a k e b l (inr d) = kept b (h.closed a k (sym (other a d) ∙ e) b l)

      new : (a : ℕ) → state after a ≡ New → (c ≡ a) ⊎ (c ≡ a → ⊥) → Has (kids ++ waiting_of (s ∷ below)) a
      new a e (inl k) = let wrong : Open (length (members_of (s ∷ below))) ≡ New = sym (subst (λ x. state after x ≡ Open (length (members_of (s ∷ below)))) k o) ∙ e in cc
      new a e (inr d) = has-right kids (waiting_of (s ∷ below)) a (h.new a (sym (other a d) ∙ e))

  -- ---- a segment for which nothing waits

  module _ (m : List ℕ) (r : Bool) (below : List Segment) (h : IsSound g st (seg m [] r ∷ below)) where
    child-done : (a b : ℕ) → r ≡ false → Has m a → Has (children g a) b → is_done (state st b) ≡ true
    child-done a b e k l = go (h.segments.0.seen a b k l)
      where
        go : IsSeen g st [] (seg m [] r) b → is_done (state st b) ≡ true
        go (inl d) = d
        go (inr (inl w)) = absurd w
        go (inr (inr (inl t))) = absurd (no-both r t.1 e)
        go (inr (inr (inr u))) = absurd u

    is-open : (a : ℕ) → Has m a → is_done (state st a) ≡ true → ⊥
    is-open a k d = let p = has-at (m ++ members_of below) a (has-left m (members_of below) a k) in open-not-done (state st a) p.place (h.are_open.there p.place a p.there) d

    done-on : (a c : ℕ) → is_done (state st a) ≡ true → Has (children g a) c → is_done (state st c) ≡ true
    done-on a c d k = let s = done-course (state st a) d in h.closed a s.course s.is c k

    not-round : (a : ℕ) → r ≡ false → Has m a → leads g a a ≡ false
    not-round a e k = not-true (leads g a a) (λ t.
        let p = has-any (λ c. is_met g c a) (children g a) (sym (leads-is g a a) ∙ t) in
        let d = child-done a p.one e k p.there in
        is-open a k (elim (met-or g p.one a p.test) [ inl s ↦ subst (λ n. is_done (state st n) ≡ true) s d | inr l ↦ leads-all g (λ n. is_done (state st n) ≡ true) done-on p.one a d l ]))

    known : (a : ℕ) → r ≡ false → Has m a → (b : ℕ) → Has (children g a) b → state st b ≡ Done (course g b)
    known a e k b l = let s = done-course (state st b) (child-done a b e k l) in s.is ∙ ap Done (h.right b s.course s.is)

    -- its numbers have the course that is found
    pub right-course : (a : ℕ) → Has m a → course_of_top g st (m ++ members_of below) r ≡ course g a
    right-course a k = go r refl m refl k
      where
        go : (t : Bool) → r ≡ t → (n : List ℕ) → m ≡ n → Has n a → course_of_top g st (n ++ members_of below) t ≡ course g a
        go true e n s l = let on : leads g a a ≡ true = h.segments.0.ring e a (subst (λ x. Has x a) (sym s) l) in sym (rw on refl)
        go false e [] s l = absurd l
        go false e (x ∷ xs) s l =
            let first : Has m x = subst (λ y. Has y x) (sym s) (inl refl) in
            let one : x ≡ a = h.segments.0.alone e x a first (subst (λ y. Has y a) (sym s) l) in
            course-after g st x (not-round x e first) (known x e first) ∙ ap (course g) one

    pub finish-sound : (k : Course) → ((a : ℕ) → Has m a → state after a ≡ Done k) → ((a : ℕ) → (state after a ≡ state st a) ⊎ Has m a) → AreOpen after (members_of below) → length after ≡ length g
        → ((a : ℕ) → Has m a → k ≡ course g a) → IsSound g after below
    finish-sound k here other are_open long good = record {
      long = long;
      are_open = are_open;
      segments = segments-on g st after (m ++ []) [] below kept (λ b l. elim (has-either m [] b l) [ inl t ↦ inr (done-is (state after b) k (here b t)) | inr t ↦ absurd t ]) h.segments.1;
      right = λ a c e. right a c e (other a);
      closed = λ a c e b l. closed a c e b l (other a);
      new = λ a e. new a e (other a);
    }
      where
        kept : (b : ℕ) → is_done (state st b) ≡ true → is_done (state after b) ≡ true
        kept b d = elim (other b) [ inl e ↦ ap is_done e ∙ d | inr t ↦ done-is (state after b) k (here b t) ]

        right : (a : ℕ) (c : Course) → state after a ≡ Done c → (state after a ≡ state st a) ⊎ Has m a → c ≡ course g a
        right a c e (inl s) = h.right a c (sym s ∙ e)
        right a c e (inr t) = same-course c k (sym e ∙ here a t) ∙ good a t

        child : (a b : ℕ) → Has m a → IsSeen g st [] (seg m [] r) b → is_done (state after b) ≡ true
        child a b t (inl d) = kept b d
        child a b t (inr (inl w)) = absurd w
        child a b t (inr (inr (inl l))) = done-is (state after b) k (here b l.0)
        child a b t (inr (inr (inr u))) = absurd u

        closed : (a : ℕ) (c : Course) → state after a ≡ Done c → (b : ℕ) → Has (children g a) b → (state after a ≡ state st a) ⊎ Has m a → is_done (state after b) ≡ true
        closed a c e b l (inl s) = kept b (h.closed a c (sym s ∙ e) b l)
        closed a c e b l (inr t) = child a b t (h.segments.0.seen a b t l)

        new : (a : ℕ) → state after a ≡ New → (state after a ≡ state st a) ⊎ Has m a → Has (waiting_of below) a
        new a e (inl s) = h.new a (sym s ∙ e)
        new a e (inr t) = let wrong : Done k ≡ New = sym (here a t) ∙ e in cc
