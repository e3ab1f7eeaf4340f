-- The search over its stacks.
use Rattle.std.proofs.Common.{◌≡◌, ℕ, zero, suc, ◌<◌, ◌≤◌, ◌+◌, ◌-◌, ◌++◌, length, map, set, replicate, Bool, true, false, List, [], ◌∷◌, Option, Some, None, refl, sym, ap, ◌∙◌, subst, arith, inl, inr, ◌⊎◌}
use Rattle.std.specs.Prelude.{IfSome, IfNone}
use Rattle.std.specs.List.{range_with_len}
use Rattle.std.proofs.lemmas.List.{length-append, append_assoc, append-nil}
use Rattle.eds_graph.specs.declared.course.Course.{Course}
use Rattle.eds_graph.specs.declared.course.Course.TheVariants.{Ends}
use Rattle.eds_graph.specs.declared.search.Part.{Part}
use Rattle.eds_graph.specs.declared.search.State.{State}
use Rattle.eds_graph.specs.declared.search.State.TheVariants.{New, Open, Done}
use Rattle.eds_graph.specs.Stacks.{top, pushed, with_top}
use Rattle.eds_graph.specs.Search.{Has, At, Segment, AreOpen, IsSound, Sound, Closes, Starts, IsWaiting, IsUnder, state, is_done, course_in, members_of, waiting_of, part_of, parts_of, course_of_top, fresh, left_over}
use Rattle.eds_graph.specs.Ways.{children, reaches_circle, course, all_courses}
use Rattle.eds_graph.proofs.Tests.{has-left, has-right, has-either, same-or, split}
use Rattle.std.specs.List.{list_any}
use Rattle.eds_graph.proofs.Leading.{no-children, leads-past}
use Rattle.eds_graph.proofs.Circles.{reaches-is}
use Rattle.eds_graph.proofs.Heights.{height-past, course-ends}
use Rattle.eds_graph.proofs.Parts.{seg, at-less, pass-sound, turn-sound, merge-sound, open-sound, finish-sound, right-course}

-- ---- one state more

pub state-set : (st : List State) (a : ℕ) (s : State) → a < length st → state (set st a s) a ≡ s
state-set [] a s h = absurd (omega arith)
state-set (x ∷ xs) zero s h = refl
state-set (x ∷ xs) (suc a) s h = state-set xs a s (omega arith)

pub state-other : (st : List State) (a b : ℕ) (s : State) → (a ≡ b → ⊥) → state (set st a s) b ≡ state st b
state-other [] a b s h = refl
state-other (x ∷ xs) zero zero s h = absurd (h refl)
state-other (x ∷ xs) zero (suc b) s h = refl
state-other (x ∷ xs) (suc a) zero s h = refl
state-other (x ∷ xs) (suc a) (suc b) s h = state-other xs a b s (λ e. h (ap suc e))

pub length-set : (st : List State) (a : ℕ) (s : State) → length (set st a s) ≡ length st
length-set [] a s = refl
length-set (x ∷ xs) zero s = refl
length-set (x ∷ xs) (suc a) s = ap suc (length-set xs a s)

pub state-past : (st : List State) (a : ℕ) → length st ≤ a → state st a ≡ Done (Ends 1)
state-past [] a h = refl
state-past (x ∷ xs) zero h = absurd (omega arith)
state-past (x ∷ xs) (suc a) h = state-past xs a (omega arith)

pub not-past : (st : List State) (a : ℕ) → is_done (state st a) ≡ false → a < length st
not-past st a e = elim (split a (length st)) [ inl lt ↦ lt | inr le ↦ let wrong : true ≡ false = sym (ap is_done (state-past st a le)) ∙ e in cc ]

-- ---- what is left to do

pub fresh-open : (g : List (List ℕ)) (st : List State) (a p : ℕ) → length st ≡ length g → a < length st → state st a ≡ New → (2 + length (children g a)) + fresh g (set st a (Open p)) ≡ fresh g st
fresh-open g [] a p long h e = absurd (omega arith)
fresh-open [] (x ∷ st) a p long h e = absurd (omega arith)
fresh-open (l ∷ g) (New ∷ st) zero p long h e = refl
fresh-open (l ∷ g) (Open q ∷ st) zero p long h e = cc
fresh-open (l ∷ g) (Done c ∷ st) zero p long h e = cc
fresh-open (l ∷ g) (New ∷ st) (suc a) p long h e = let rest = fresh-open g st a p (omega arith) (omega arith) e in omega arith
fresh-open (l ∷ g) (Open q ∷ st) (suc a) p long h e = fresh-open g st a p (omega arith) (omega arith) e
fresh-open (l ∷ g) (Done c ∷ st) (suc a) p long h e = fresh-open g st a p (omega arith) (omega arith) e

pub fresh-done : (g : List (List ℕ)) (st : List State) (a p : ℕ) (c : Course) → state st a ≡ Open p → fresh g (set st a (Done c)) ≡ fresh g st
fresh-done g [] a p c e = refl
fresh-done [] (x ∷ st) a p c e = refl
fresh-done (l ∷ g) (New ∷ st) zero p c e = cc
fresh-done (l ∷ g) (Open q ∷ st) zero p c e = refl
fresh-done (l ∷ g) (Done d ∷ st) zero p c e = cc
fresh-done (l ∷ g) (New ∷ st) (suc a) p c e = ap (λ n. (2 + length l) + n) (fresh-done g st a p c e)
fresh-done (l ∷ g) (Open q ∷ st) (suc a) p c e = fresh-done g st a p c e
fresh-done (l ∷ g) (Done d ∷ st) (suc a) p c e = fresh-done g st a p c e

-- ---- closing

place_of : State → ℕ
place_of New = 0
place_of (Open p) = p
place_of (Done c) = 0

places-same : (p q : ℕ) → Open p ≡ Open q → p ≡ q
unfolding place_of
places-same p q e = ap place_of e

pub top-state : (st : List State) (xs rest : List ℕ) (a : ℕ) → AreOpen st xs → xs ≡ a ∷ rest → state st a ≡ Open (length rest)
top-state st xs rest a h e = h.there (length rest) a (subst (λ ys. At ys (length rest) a) (sym e) (inl (refl, refl)))

pub open-within : (st : List State) (a p : ℕ) → state st a ≡ Open p → a < length st
open-within st a p e = not-past st a (ap is_done e)

pub closes-one : (c : Course) (st after : List State) (xs rest : List ℕ) (a : ℕ) → AreOpen st xs → xs ≡ a ∷ rest → after ≡ set st a (Done c) → Closes c st xs after rest
closes-one c st after xs rest a h e f =
    let was = top-state st xs rest a h e in
    let lt = open-within st a (length rest) was in
    let is : state after a ≡ Done c = ap (λ s. state s a) f ∙ state-set st a (Done c) lt in
    record {
      taken = a ∷ [];
      split = e;
      are_open = record { there = λ p b k. there was p b k (same-or a b); back = λ p b k. back is p b k (same-or a b) };
      here = λ b k. elim k [ inl s ↦ subst (λ n. state after n ≡ Done c) s is | inr n ↦ absurd n ];
      other = λ b. elim (same-or a b) [ inl s ↦ inr (inl s) | inr d ↦ inl (other b d) ];
      long = ap length f ∙ length-set st a (Done c);
      as_new = λ g. ap (fresh g) f ∙ fresh-done g st a (length rest) c was;
    }
  where
    other : (b : ℕ) → (a ≡ b → ⊥) → state after b ≡ state st b
    other b d = ap (λ s. state s b) f ∙ state-other st a b (Done c) d

    there : state st a ≡ Open (length rest) → (p b : ℕ) → At rest p b → (a ≡ b) ⊎ (a ≡ b → ⊥) → state after b ≡ Open p
    there was p b k (inl s) =
        let less = at-less rest p b k in
        let one = h.there p b (subst (λ ys. At ys p b) (sym e) (inr k)) in
        let same_place = places-same p (length rest) (sym one ∙ subst (λ n. state st n ≡ Open (length rest)) s was) in
        absurd (omega arith)
    there was p b k (inr d) = other b d ∙ h.there p b (subst (λ ys. At ys p b) (sym e) (inr k))

    back : state after a ≡ Done c → (p b : ℕ) → state after b ≡ Open p → (a ≡ b) ⊎ (a ≡ b → ⊥) → At rest p b
    back is p b k (inl s) = let wrong : Done c ≡ Open p = sym (subst (λ n. state after n ≡ Done c) s is) ∙ k in cc
    back is p b k (inr d) = elim (subst (λ ys. At ys p b) e (h.back p b (sym (other b d) ∙ k))) [ inl s ↦ absurd (d s.1) | inr t ↦ t ]

pub closes-none : (c : Course) (st : List State) (xs : List ℕ) → AreOpen st xs → Closes c st xs st xs
closes-none c st xs h = record {
  taken = [];
  split = refl;
  are_open = h;
  here = λ a k. absurd k;
  other = λ a. inl refl;
  long = refl;
  as_new = λ g. refl;
}

pub closes-on : (c : Course) (st mid after : List State) (xs ys zs : List ℕ) → Closes c st xs mid ys → Closes c mid ys after zs → Closes c st xs after zs
closes-on c st mid after xs ys zs p q = record {
  taken = p.taken ++ q.taken;
  split = p.split ∙ ap (λ l. p.taken ++ l) q.split ∙ sym (append_assoc p.taken q.taken zs);
  are_open = q.are_open;
  here = λ a k. here a (has-either p.taken q.taken a k);
  other = λ a. elim (q.other a) [
    | inl e ↦ elim (p.other a) [ inl f ↦ inl (e ∙ f) | inr k ↦ inr (has-left p.taken q.taken a k) ]
    | inr k ↦ inr (has-right p.taken q.taken a k)
  ];
  long = q.long ∙ p.long;
  as_new = λ g. q.as_new g ∙ p.as_new g;
}
  where
    here : (a : ℕ) → Has p.taken a ⊎ Has q.taken a → state after a ≡ Done c
    here a (inl k) = elim (q.other a) [ inl e ↦ e ∙ p.here a k | inr l ↦ q.here a l ]
    here a (inr k) = q.here a k

-- ---- the topmost part

-- the topmost segment, for which a number waits
pub record Waits (g : List (List ℕ)) (st : List State) (numbers waiting : List ℕ) (parts : List Part) (next : ℕ) : Type 0 where
  pub mine : List ℕ
  pub rest : List ℕ
  pub ring : Bool
  pub below : List Segment
  pub members : numbers ≡ mine ++ members_of below
  pub waits : waiting ≡ next ∷ (rest ++ waiting_of below)
  pub cut : parts ≡ part_of (seg mine (next ∷ rest) ring) below ∷ parts_of below
  pub sound : IsSound g st (seg mine (next ∷ rest) ring ∷ below)

pub waits-of : (g : List (List ℕ)) (st : List State) (numbers waiting : List ℕ) (parts : List Part) (next : ℕ) → Sound g st numbers waiting parts → IsWaiting waiting parts next → Waits g st numbers waiting parts next
waits-of g st numbers waiting parts next s w = go s.path s.members s.waits s.cut s.sound (subst (λ ps. IsWaiting (waiting_of s.path) ps next) s.cut (subst (λ ws. IsWaiting ws parts next) s.waits w))
  where
    none : (left : List ℕ) (p : Part) (ps : List Part) → p.waiting ≡ length left → IsWaiting left (p ∷ ps) next → ⊥
    none [] p ps e k = k
    none (x ∷ xs) p ps e k = let le = k.1 in omega arith

    from : (m ws : List ℕ) (r : Bool) (below : List Segment) → numbers ≡ m ++ members_of below → waiting ≡ ws ++ waiting_of below → parts ≡ part_of (seg m ws r) below ∷ parts_of below
        → IsSound g st (seg m ws r ∷ below) → IsWaiting (ws ++ waiting_of below) (part_of (seg m ws r) below ∷ parts_of below) next → Waits g st numbers waiting parts next
    from m [] r below e f c h k = absurd (none (waiting_of below) (part_of (seg m [] r) below) (parts_of below) refl k)
    from m (x ∷ ws) r below e f c h k = record {
      mine = m;
      rest = ws;
      ring = r;
      below = below;
      members = e;
      waits = f ∙ ap (λ y. y ∷ (ws ++ waiting_of below)) k.0;
      cut = c;
      sound = subst (λ y. IsSound g st (seg m (y ∷ ws) r ∷ below)) k.0 h;
    }

    go : (path : List Segment) → numbers ≡ members_of path → waiting ≡ waiting_of path → parts ≡ parts_of path → IsSound g st path → IsWaiting (waiting_of path) (parts_of path) next → Waits g st numbers waiting parts next
    go [] e f c h k = absurd k
    go (t ∷ below) e f c h k = from t.members t.waiting t.circle below e f c h k

-- ---- the steps

tail-same : (xs ys : List ℕ) (x y : ℕ) → x ∷ xs ≡ y ∷ ys → xs ≡ ys
tail-same xs ys x y e = cc

pub pass-step : (g : List (List ℕ)) (st : List State) (numbers waiting after : List ℕ) (parts : List Part) (next : ℕ) → Sound g st numbers waiting parts → IsWaiting waiting parts next → is_done (state st next) ≡ true
    → waiting ≡ next ∷ after → Sound g st numbers after parts
pass-step g st numbers waiting after parts next s w d e =
    let t = waits-of g st numbers waiting parts next s w in
    record {
      path = seg t.mine t.rest t.ring ∷ t.below;
      members = t.members;
      waits = tail-same after (t.rest ++ waiting_of t.below) next next (sym e ∙ t.waits);
      cut = t.cut;
      sound = pass-sound g st t.mine t.rest t.ring next t.below t.sound d;
    }

part-first : (p q : Part) (ps qs : List Part) → p ∷ ps ≡ q ∷ qs → p ≡ q
part-first p q ps qs e = cc

part-rest : (p q : Part) (ps qs : List Part) → p ∷ ps ≡ q ∷ qs → ps ≡ qs
part-rest p q ps qs e = cc

some-same : (p q : Part) → Some p ≡ Some q → p ≡ q
some-same p q e = cc

pub turn-step : (g : List (List ℕ)) (st : List State) (numbers waiting after : List ℕ) (parts parts_after : List Part) (part : Part) (next at : ℕ)
    → Sound g st numbers waiting parts → IsWaiting waiting parts next → top parts ≡ Some part → state st next ≡ Open at → part.first ≤ at
    → waiting ≡ next ∷ after → parts_after ≡ with_top (record { first = part.first; waiting = part.waiting; circle = true }) parts → Sound g st numbers after parts_after
turn-step g st numbers waiting after parts parts_after part next at s w p o le e f =
    let t = waits-of g st numbers waiting parts next s w in
    let is : part_of (seg t.mine (next ∷ t.rest) t.ring) t.below ≡ part = some-same _ part (sym (ap top t.cut) ∙ p) in
    let low : length (members_of t.below) ≡ part.first = ap (λ (q : Part). q.first) is in
    record {
      path = seg t.mine t.rest true ∷ t.below;
      members = t.members;
      waits = tail-same after (t.rest ++ waiting_of t.below) next next (sym e ∙ t.waits);
      cut = f ∙ ap (with_top (record { first = part.first; waiting = part.waiting; circle = true })) t.cut ∙ ap (λ (q : Part). record { first = q.first; waiting = q.waiting; circle = true } ∷ parts_of t.below) (sym is);
      sound = turn-sound g st t.mine t.rest t.ring next at t.below t.sound o (omega arith);
    }

pub merge-step : (g : List (List ℕ)) (st : List State) (numbers waiting : List ℕ) (parts parts_mid parts_after : List Part) (upper lower : Part) (next at : ℕ)
    → Sound g st numbers waiting parts → IsWaiting waiting parts next → state st next ≡ Open at → IsUnder at parts
    → parts ≡ upper ∷ parts_mid → top parts_mid ≡ Some lower → parts_after ≡ with_top (record { first = lower.first; waiting = lower.waiting; circle = true }) parts_mid → Sound g st numbers waiting parts_after
merge-step g st numbers waiting parts parts_mid parts_after upper lower next at s w o u e p f =
    let t = waits-of g st numbers waiting parts next s w in
    let mid : parts_mid ≡ parts_of t.below = part-rest upper _ parts_mid (parts_of t.below) (sym e ∙ t.cut) in
    go t.mine t.rest t.ring t.below t.members t.waits t.sound (f ∙ ap (with_top (record { first = lower.first; waiting = lower.waiting; circle = true })) mid) (sym (ap top mid) ∙ p) (subst (IsUnder at) t.cut u)
  where
    go : (m ws : List ℕ) (r : Bool) (below : List Segment) → numbers ≡ m ++ members_of below → waiting ≡ next ∷ (ws ++ waiting_of below) → IsSound g st (seg m (next ∷ ws) r ∷ below)
        → parts_after ≡ with_top (record { first = lower.first; waiting = lower.waiting; circle = true }) (parts_of below) → top (parts_of below) ≡ Some lower → at < length (members_of below) → Sound g st numbers waiting parts_after
    go m ws r [] k l h q d lt = absurd (omega arith)
    go m ws r (n ∷ below) k l h q d lt =
        let is : part_of n below ≡ lower = some-same _ lower d in
        record {
          path = seg (m ++ n.members) ((next ∷ ws) ++ n.waiting) true ∷ below;
          members = k ∙ sym (append_assoc m n.members (members_of below));
          waits = l ∙ sym (append_assoc (next ∷ ws) n.waiting (waiting_of below));
          cut = q ∙ ap (λ (y : Part). record { first = y.first; waiting = y.waiting; circle = true } ∷ parts_of below) (sym is);
          sound = merge-sound g st m ws n.members n.waiting r n.circle next at below h o lt;
        }

pub merge-none : (g : List (List ℕ)) (st : List State) (numbers waiting : List ℕ) (parts parts_mid : List Part) (upper : Part) (next at : ℕ)
    → Sound g st numbers waiting parts → IsWaiting waiting parts next → IsUnder at parts → parts ≡ upper ∷ parts_mid → top parts_mid ≡ None → ⊥
merge-none g st numbers waiting parts parts_mid upper next at s w u e p =
    let t = waits-of g st numbers waiting parts next s w in
    let mid : parts_mid ≡ parts_of t.below = part-rest upper _ parts_mid (parts_of t.below) (sym e ∙ t.cut) in
    go t.mine t.rest t.ring t.below (sym (ap top mid) ∙ p) (subst (IsUnder at) t.cut u)
  where
    go : (m ws : List ℕ) (r : Bool) (below : List Segment) → top (parts_of below) ≡ None → at < length (members_of below) → ⊥
    go m ws r [] k lt = omega arith
    go m ws r (n ∷ below) k lt = cc

-- ---- a new number

pub pushed-has : (xs ys : List ℕ) (a : ℕ) → Has (pushed xs ys) a → Has xs a ⊎ Has ys a
pushed-has [] ys a h = inr h
pushed-has (x ∷ xs) ys a h = elim (pushed-has xs (x ∷ ys) a h) [ inl l ↦ inl (inr l) | inr r ↦ elim r [ inl e ↦ inl (inl e) | inr s ↦ inr s ] ]

pub has-old : (xs ys : List ℕ) (a : ℕ) → Has ys a → Has (pushed xs ys) a
has-old [] ys a h = h
has-old (x ∷ xs) ys a h = has-old xs (x ∷ ys) a (inr h)

pub has-pushed : (xs ys : List ℕ) (a : ℕ) → Has xs a → Has (pushed xs ys) a
has-pushed [] ys a h = absurd h
has-pushed (x ∷ xs) ys a (inl e) = has-old xs (x ∷ ys) a (inl e)
has-pushed (x ∷ xs) ys a (inr h) = has-pushed xs (x ∷ ys) a h

pushed-append : (xs ys zs : List ℕ) → pushed xs (ys ++ zs) ≡ pushed xs ys ++ zs
pushed-append [] ys zs = refl
pushed-append (x ∷ xs) ys zs = pushed-append xs (x ∷ ys) zs

pub pushed-length : (xs ys : List ℕ) → length (pushed xs ys) ≡ length xs + length ys
pushed-length [] ys = omega arith
pushed-length (x ∷ xs) ys = let rest = pushed-length xs (x ∷ ys) in omega arith

pub open-step : (g : List (List ℕ)) (st after : List State) (numbers numbers_after waiting waiting_after : List ℕ) (parts parts_after : List Part) (part : Part) (next : ℕ)
    → Sound g st numbers waiting parts → IsWaiting waiting parts next → state st next ≡ New
    → part ≡ record { first = length numbers; waiting = length waiting; circle = false } → after ≡ set st next (Open (length numbers)) → numbers_after ≡ next ∷ numbers → waiting_after ≡ pushed (children g next) waiting → parts_after ≡ part ∷ parts
    → Sound g after numbers_after waiting_after parts_after
open-step g st after numbers numbers_after waiting waiting_after parts parts_after part next s w n pe f ne we qe =
    let t = waits-of g st numbers waiting parts next s w in
    let top_segment = seg t.mine (next ∷ t.rest) t.ring in
    let lt = not-past st next (ap is_done n) in
    let count : length numbers ≡ length (members_of (top_segment ∷ t.below)) = ap length t.members in
    record {
      path = seg (next ∷ []) (pushed (children g next) []) false ∷ top_segment ∷ t.below;
      members = ne ∙ ap (λ ys. next ∷ ys) t.members;
      waits = we ∙ pushed-append (children g next) [] waiting ∙ ap (λ ys. pushed (children g next) [] ++ ys) t.waits;
      cut = qe ∙ ap (λ p. p ∷ parts) (pe ∙ ap (λ k. record { first = k; waiting = length waiting; circle = false }) count ∙ ap (λ ys. record { first = length (members_of (top_segment ∷ t.below)); waiting = length ys; circle = false }) t.waits)
          ∙ ap (λ ps. record { first = length (members_of (top_segment ∷ t.below)); waiting = length (waiting_of (top_segment ∷ t.below)); circle = false } ∷ ps) t.cut;
      sound = open-sound g st after top_segment t.below next (pushed (children g next) []) t.sound (inl refl) n
          (ap (λ x. state x next) f ∙ state-set st next (Open (length numbers)) lt ∙ ap Open count)
          (λ a d. ap (λ x. state x a) f ∙ state-other st next a (Open (length numbers)) d)
          (ap length f ∙ length-set st next (Open (length numbers)) ∙ s.sound.long)
          (λ b k. has-pushed (children g next) [] b k)
          (λ b k. elim (pushed-has (children g next) [] b k) [ inl l ↦ l | inr l ↦ absurd l ]);
    }

pub open-smaller : (g : List (List ℕ)) (st after : List State) (numbers waiting waiting_after : List ℕ) (parts parts_after : List Part) (part : Part) (next p : ℕ)
    → Sound g st numbers waiting parts → state st next ≡ New → after ≡ set st next (Open p) → waiting_after ≡ pushed (children g next) waiting → parts_after ≡ part ∷ parts
    → left_over g after waiting_after parts_after < left_over g st waiting parts
open-smaller g st after numbers waiting waiting_after parts parts_after part next p s n f we qe =
    let less = fresh-open g st next p s.sound.long (not-past st next (ap is_done n)) n in
    let now : fresh g after ≡ fresh g (set st next (Open p)) = ap (fresh g) f in
    let more : length waiting_after ≡ length (children g next) + length waiting = ap length we ∙ pushed-length (children g next) waiting in
    let one : length parts_after ≡ suc (length parts) = ap length qe in
    omega arith

-- ---- a part for which nothing waits

append-same : (xs ys us vs : List ℕ) → xs ++ ys ≡ us ++ vs → length ys ≡ length vs → (xs ≡ us) × (ys ≡ vs)
append-same [] ys [] vs e l = (refl, e)
append-same [] ys (u ∷ us) vs e l = let long : length ys ≡ length (u ∷ (us ++ vs)) = ap length e in let more = length-append us vs in absurd (omega arith)
append-same (x ∷ xs) ys [] vs e l = let long : length (x ∷ (xs ++ ys)) ≡ length vs = ap length e in let more = length-append xs ys in absurd (omega arith)
append-same (x ∷ xs) ys (u ∷ us) vs e l =
    let rest = append-same xs ys us vs (tail-same (xs ++ ys) (us ++ vs) x u e) l in
    let one = head-same (xs ++ ys) (us ++ vs) x u e in
    (ap (λ y. y ∷ xs) one ∙ ap (λ zs. u ∷ zs) rest.0, rest.1)
  where
    head-same : (cs ds : List ℕ) (a b : ℕ) → a ∷ cs ≡ b ∷ ds → a ≡ b
    head-same cs ds a b k = cc

pub finish-step : (g : List (List ℕ)) (st after : List State) (numbers numbers_after waiting : List ℕ) (parts parts_after : List Part) (part closed : Part) (k : Course)
    → Sound g st numbers waiting parts → top parts ≡ Some part → length waiting ≤ part.waiting
    → k ≡ course_of_top g st numbers part.circle → Closes k st numbers after numbers_after → length numbers_after ≡ part.first → parts ≡ closed ∷ parts_after
    → Sound g after numbers_after waiting parts_after
finish-step g st after numbers numbers_after waiting parts parts_after part closed k s p le ke c low e = go s.path s.members s.waits s.cut s.sound
  where
    from : (m ws : List ℕ) (r : Bool) (below : List Segment) → numbers ≡ m ++ members_of below → waiting ≡ ws ++ waiting_of below → parts ≡ part_of (seg m ws r) below ∷ parts_of below
        → IsSound g st (seg m ws r ∷ below) → Sound g after numbers_after waiting parts_after
    from m [] r below me we ce h =
        let is : part_of (seg m [] r) below ≡ part = some-same _ part (sym (ap top ce) ∙ p) in
        let sized : length (members_of below) ≡ part.first = ap (λ (q : Part). q.first) is in
        let ring : r ≡ part.circle = ap (λ (q : Part). q.circle) is in
        let both = append-same c.taken numbers_after m (members_of below) (sym c.split ∙ me) (low ∙ sym sized) in
        let found : k ≡ course_of_top g st (m ++ members_of below) r = ke ∙ ap (course_of_top g st numbers) (sym ring) ∙ ap (λ ns. course_of_top g st ns r) me in
        record {
          path = below;
          members = both.1;
          waits = we;
          cut = part-rest closed _ parts_after (parts_of below) (sym e ∙ ce);
          sound = finish-sound g st after m r below h k
              (λ a t. c.here a (subst (λ ns. Has ns a) (sym both.0) t))
              (λ a. elim (c.other a) [ inl t ↦ inl t | inr t ↦ inr (subst (λ ns. Has ns a) both.0 t) ])
              (subst (AreOpen after) both.1 c.are_open) (c.long ∙ h.long)
              (λ a t. found ∙ right-course g st after m r below h a t);
        }
    from m (x ∷ ws) r below me we ce h =
        let is : part_of (seg m (x ∷ ws) r) below ≡ part = some-same _ part (sym (ap top ce) ∙ p) in
        let sized : length (waiting_of below) ≡ part.waiting = ap (λ (q : Part). q.waiting) is in
        let long : length waiting ≡ suc (length (ws ++ waiting_of below)) = ap length we in
        let more = length-append ws (waiting_of below) in
        absurd (omega arith)

    go : (path : List Segment) → numbers ≡ members_of path → waiting ≡ waiting_of path → parts ≡ parts_of path → IsSound g st path → Sound g after numbers_after waiting parts_after
    go [] me we ce h = let wrong : None ≡ Some part = sym (ap top ce) ∙ p in cc
    go (t ∷ below) me we ce h = from t.members t.waiting t.circle below me we ce h

-- the topmost part lies within the open numbers
pub part-low : (g : List (List ℕ)) (st : List State) (numbers waiting : List ℕ) (parts : List Part) (part : Part) → Sound g st numbers waiting parts → top parts ≡ Some part → part.first ≤ length numbers
part-low g st numbers waiting parts part s p = go s.path s.members s.cut
  where
    go : (path : List Segment) → numbers ≡ members_of path → parts ≡ parts_of path → part.first ≤ length numbers
    go [] me ce = let wrong : None ≡ Some part = sym (ap top ce) ∙ p in cc
    go (t ∷ below) me ce =
        let is : part_of t below ≡ part = some-same _ part (sym (ap top ce) ∙ p) in
        let sized : length (members_of below) ≡ part.first = ap (λ (q : Part). q.first) is in
        let long : length numbers ≡ length (t.members ++ members_of below) = ap length me in
        let more = length-append t.members (members_of below) in
        omega arith

-- a number waits for the topmost part
pub waiting-top : (waiting : List ℕ) (parts : List Part) (part : Part) (next : ℕ) → top waiting ≡ Some next → top parts ≡ Some part → part.waiting < length waiting → IsWaiting waiting parts next
waiting-top [] parts part next w p lt = cc
waiting-top (x ∷ ws) [] part next w p lt = cc
waiting-top (x ∷ ws) (q ∷ ps) part next w p lt =
    let same_part = some-same q part p in
    let low : q.waiting ≡ part.waiting = ap (λ (y : Part). y.waiting) same_part in
    (first x next w, omega arith)
  where
    first : (a b : ℕ) → Some a ≡ Some b → a ≡ b
    first a b e = cc

pub no-waiting : (waiting : List ℕ) (n : ℕ) → top waiting ≡ None → n < length waiting → ⊥
no-waiting [] n e lt = omega arith
no-waiting (x ∷ ws) n e lt = cc

pub under-top : (parts : List Part) (part : Part) (at : ℕ) → top parts ≡ Some part → at < part.first → IsUnder at parts
under-top [] part at p lt = cc
under-top (q ∷ ps) part at p lt = let low : q.first ≡ part.first = ap (λ (y : Part). y.first) (some-same q part p) in omega arith

-- ---- what was taken from the top

pub popped : {A : Type 0} (r : Option A) (old new : List A) (x : A) → top old ≡ Some x → IfSome r (λ y. old ≡ y ∷ new) → IfNone r (old ≡ []) → old ≡ x ∷ new
popped None old new x e f n = let wrong : None ≡ Some x = sym (ap top n) ∙ e in cc
popped (Some y) old new x e f n = let same_top : Some y ≡ Some x = sym (ap top f) ∙ e in cc

pub waiting-is : (waiting : List ℕ) (parts : List Part) (next : ℕ) → IsWaiting waiting parts next → top waiting ≡ Some next
waiting-is [] parts next w = absurd w
waiting-is (x ∷ ws) [] next w = absurd w
waiting-is (x ∷ ws) (p ∷ ps) next w = ap Some w.0

-- ---- the begin

state-new : (n a : ℕ) → (state (replicate n New) a ≡ New) ⊎ ((state (replicate n New) a ≡ Done (Ends 1)) × (n ≤ a))
state-new zero a = inr (refl, omega arith)
state-new (suc n) zero = inl refl
state-new (suc n) (suc a) = elim (state-new n a) [ inl e ↦ inl e | inr e ↦ inr (e.0, let le = e.1 in omega arith) ]

new-within : (n a : ℕ) → state (replicate n New) a ≡ New → a < n
new-within zero a e = cc
new-within (suc n) zero e = omega arith
new-within (suc n) (suc a) e = let less = new-within n a e in omega arith

length-new : (n : ℕ) → length (replicate n New) ≡ n
length-new zero = refl
length-new (suc n) = ap suc (length-new n)

course-past : (g : List (List ℕ)) (a : ℕ) → length g ≤ a → course g a ≡ Ends 1
course-past g a le = course-ends g [] a (reaches-is g a (leads-past g a a le) ∙ ap (list_any (reaches_circle g)) (no-children g a le)) ∙ ap Ends (height-past g a le)

none-has : (xs : List ℕ) (b : ℕ) → xs ≡ [] → Has xs b → ⊥
none-has [] b e h = h
none-has (x ∷ xs) b e h = cc

pub start-sound : (g : List (List ℕ)) (n : ℕ) (st : List State) (numbers waiting : List ℕ) (parts : List Part) → n ≡ length g → Starts n st numbers waiting parts → Sound g st numbers waiting parts
start-sound g n st numbers waiting parts sized h = record {
  path = seg [] waiting false ∷ [];
  members = h.1;
  waits = sym (append-nil waiting);
  cut = h.3;
  sound = subst (λ xs. IsSound g xs (seg [] waiting false ∷ [])) (sym h.0) (record {
    long = length-new n ∙ sized;
    are_open = record { there = λ p a k. absurd k; back = λ p a e. absurd (no-open a p e) };
    segments = (
      record {
        strong = λ a b k l. absurd k;
        ring = λ e a k. absurd k;
        alone = λ e a b k l. absurd k;
        under = λ a b k l. absurd k;
        next = λ a b k l. absurd k;
        seen = λ a b k l. absurd k;
        some = inl refl;
      },
      tt,
    );
    right = λ a c e. let p = past a c e in done-same c (Ends 1) (sym e ∙ p.0) ∙ sym (course-past g a (let le = p.1 in omega arith));
    closed = λ a c e b k. let p = past a c e in absurd (none-has (children g a) b (no-children g a (let le = p.1 in omega arith)) k);
    new = λ a e. has-left waiting [] a (h.2 a (new-within n a e));
  });
}
  where
    no-open : (a p : ℕ) → state (replicate n New) a ≡ Open p → ⊥
    no-open a p e = elim (state-new n a) [ inl k ↦ let wrong : New ≡ Open p = sym k ∙ e in cc | inr k ↦ let wrong : Done (Ends 1) ≡ Open p = sym k.0 ∙ e in cc ]

    past : (a : ℕ) (c : Course) → state (replicate n New) a ≡ Done c → (state (replicate n New) a ≡ Done (Ends 1)) × (n ≤ a)
    past a c e = elim (state-new n a) [ inl k ↦ let wrong : New ≡ Done c = sym k ∙ e in cc | inr k ↦ k ]

    done-same : (c d : Course) → Done c ≡ Done d → c ≡ d
    done-same c d e = ap course_in e

-- ---- the end

known-from : (f : ℕ → Course) (k : ℕ) (st : List State) → ((i : ℕ) → i < length st → state st i ≡ Done (f (k + i))) → map course_in st ≡ map f (range_with_len k (length st))
known-from f k [] h = refl
known-from f k (x ∷ xs) h =
    let first : course_in x ≡ f k = ap course_in (h 0 (omega arith)) ∙ ap f (omega arith) in
    let rest : map course_in xs ≡ map f (range_with_len (k + 1) (length xs)) = known-from f (k + 1) xs (λ i lt. h (suc i) (omega arith) ∙ ap (λ j. Done (f j)) (omega arith)) in
    ap (λ c. c ∷ map course_in xs) first ∙ ap (λ cs. f k ∷ cs) rest

pub all-known : (g : List (List ℕ)) (st : List State) (numbers waiting : List ℕ) (parts : List Part) → Sound g st numbers waiting parts → top parts ≡ None → map course_in st ≡ all_courses g
all-known g st numbers waiting parts s e = go s.path s.cut s.sound
  where
    done : IsSound g st [] → (a : ℕ) (x : State) → state st a ≡ x → state st a ≡ Done (course g a)
    done h a New k = absurd (h.new a k)
    done h a (Open p) k = absurd (h.are_open.back p a k)
    done h a (Done c) k = k ∙ ap Done (h.right a c k)

    go : (path : List Segment) → parts ≡ parts_of path → IsSound g st path → map course_in st ≡ all_courses g
    go [] c h = known-from (course g) 0 st (λ i lt. let at : 0 + i ≡ i = omega arith in done h i (state st i) refl ∙ ap (λ j. Done (course g j)) (sym at)) ∙ ap (λ n. map (course g) (range_with_len 0 n)) h.long
    go (t ∷ below) c h = let wrong : Some (part_of t below) ≡ None = sym (ap top c) ∙ e in cc

pub record Upper (parts : List Part) : Type 0 where
  pub upper : Part
  pub is : top parts ≡ Some upper

pub under-is : (at : ℕ) (parts : List Part) → IsUnder at parts → Upper parts
under-is at [] u = absurd u
under-is at (p ∷ ps) u = record { upper = p; is = refl }
