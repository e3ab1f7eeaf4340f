-- Members that were sorted are those that were put in one after another.
use Rattle.std.proofs.Common.{◌≡◌, ℕ, zero, suc, ◌+◌, ◌<◌, ◌≤◌, List, [], ◌∷◌, length, Bool, true, false, cond, ◌&&◌, bytes_eq, Ordering, Less, Equal, Greater, nat_cmp, Option, Some, None, slice_index_or, refl, sym, ap, ap₂, subst, ◌∙◌, arith}
use Rattle.std.proofs.lemmas.Cmp.{nat_list_cmp_total, tied_itself}
use Rattle.std.proofs.lemmas.List.Sorted.{Contains-permutation, sum_by-IsPermutation}
use Rattle.std.proofs.lemmas.List.Sums.{sum_by-cons}
use Rattle.std.proofs.lemmas.Map.Text.{is_eq-slice_cmp}
use Rattle.std.proofs.lemmas.Slice.Eq.{bytes_eq-Decides}
use Rattle.std.specs.List.{Contains, sum_by}
use Rattle.std.specs.List.Sorted.{IsPermutation}
use Rattle.std.specs.Cmp.Lexicographic.{slice_cmp}
use Rattle.std.specs.Ordering.{is_eq, is_lt}
use Rattle.serde_json.specs.Data.{Data, Members, no_members, member, put}
use Rattle.serde_json.specs.Find.{get_member}
use Rattle.serde_json.proofs.Views.{get_member-put, get_member-put_other}
use Rattle.eds_value.specs.declared.member.Member.{Member}
use Rattle.eds_value.specs.Members.{ascends, in_order_by, is_below, put_all_by}
use Rattle.eds_value.specs.Written.{Ascend, IsUnder}
use Rattle.eds_value.proofs.Sound.{less_after, put_ascend, puts, puts_same, under_all}

-- ---- members in order are known by what stands at each name

none_some : {A : Type 0} (x : A) → ◌≡◌ {A = Option A} None (Some x) → ⊥
none_some x e = cc

abbrev the : {A : Type 0} → A → Option A → A
the d None = d
the d (Some x) = x

here : (k : List ℕ) (d : Data) (ms : Members) → get_member k (member k d ms) ≡ Some d
here k d ms = rw (tied_itself nat_list_cmp_total k) refl

past : (q k : List ℕ) (d : Data) (ms : Members) → slice_cmp nat_cmp q k ≡ Greater → get_member q (member k d ms) ≡ get_member q ms
past q k d ms is = rw is refl

before : (q k : List ℕ) (d : Data) (ms : Members) → slice_cmp nat_cmp q k ≡ Less → get_member q (member k d ms) ≡ get_member q ms
before q k d ms is = rw is refl

under_none : (q : List ℕ) (ms : Members) → IsUnder q ms → get_member q ms ≡ None
under_none q no_members u = refl
under_none q (member l e ms) u = before q l e ms u.0 ∙ under_none q ms u.1

same_name : (k l : List ℕ) → slice_cmp nat_cmp k l ≡ Equal → k ≡ l
same_name k l is = (bytes_eq-Decides k l).0 (sym (is_eq-slice_cmp k l) ∙ ap is_eq is)

later_at : (o : Ordering) (q k : List ℕ) (d e : Data) (ms ns : Members) → slice_cmp nat_cmp q k ≡ o → IsUnder k ms → IsUnder k ns
    → get_member q (member k d ms) ≡ get_member q (member k e ns) → get_member q ms ≡ get_member q ns
later_at Less q k d e ms ns is u v h = under_none q ms (under_all q k ms is u) ∙ sym (under_none q ns (under_all q k ns is v))
later_at Equal q k d e ms ns is u v h = subst (λ (w : List ℕ). get_member w ms ≡ get_member w ns) (sym (same_name q k is)) (under_none k ms u ∙ sym (under_none k ns v))
later_at Greater q k d e ms ns is u v h = sym (past q k d ms is) ∙ h ∙ past q k e ns is

aligned : (k : List ℕ) (d e : Data) (ms ns : Members) → (((q : List ℕ) → get_member q ms ≡ get_member q ns) → ms ≡ ns) → IsUnder k ms
    → Ascend (member k e ns) → ((q : List ℕ) → get_member q (member k d ms) ≡ get_member q (member k e ns)) → member k d ms ≡ member k e ns
aligned k d e ms ns rest u b h =
    let first : d ≡ e = ap (the d) (sym (here k d ms) ∙ h k ∙ here k e ns) in
    ap₂ (member k) first (rest (λ q. later_at (slice_cmp nat_cmp q k) q k d e ms ns refl u b.0 (h q)))

same_by : (o : Ordering) (k l : List ℕ) (d e : Data) (ms ns : Members) → slice_cmp nat_cmp k l ≡ o → (((q : List ℕ) → get_member q ms ≡ get_member q ns) → ms ≡ ns)
    → Ascend (member k d ms) → Ascend (member l e ns) → ((q : List ℕ) → get_member q (member k d ms) ≡ get_member q (member l e ns)) → member k d ms ≡ member l e ns
same_by Less k l d e ms ns is rest a b h = absurd (none_some d (sym (under_none k (member l e ns) (is, under_all k l ns is b.0)) ∙ sym (h k) ∙ here k d ms))
same_by Equal k l d e ms ns is rest a b h =
    subst (λ (w : List ℕ). Ascend (member w e ns) → ((q : List ℕ) → get_member q (member k d ms) ≡ get_member q (member w e ns)) → member k d ms ≡ member w e ns) (same_name k l is)
    (aligned k d e ms ns rest a.0) b h
same_by Greater k l d e ms ns is rest a b h =
    let less = less_after k l is in
    absurd (none_some e (sym (under_none l (member k d ms) (less, under_all l k ms less a.0)) ∙ h l ∙ here l e ns))

same_members : (ms ns : Members) → Ascend ms → Ascend ns → ((q : List ℕ) → get_member q ms ≡ get_member q ns) → ms ≡ ns
same_members no_members no_members a b h = refl
same_members no_members (member l e ns) a b h = absurd (none_some e (h l ∙ here l e ns))
same_members (member k d ms) no_members a b h = absurd (none_some d (sym (h k) ∙ here k d ms))
same_members (member k d ms) (member l e ns) a b h = same_by (slice_cmp nat_cmp k l) k l d e ms ns refl (same_members ms ns a.1 b.1) a b h

-- ---- how often a name stands

abbrev has : {C : Type 0} → List ℕ → Member C → ℕ
has q m = cond (bytes_eq q m.name.now) 1 0

abbrev count : {C : Type 0} → List ℕ → List (Member C) → ℕ
count q [] = 0
count q (m ∷ ms) = has q m + count q ms

count_sum : {C : Type 0} (q : List ℕ) (ms : List (Member C)) → sum_by (has q) ms ≡ count q ms
count_sum q [] = refl
count_sum q (m ∷ ms) = sum_by-cons (has q) m ms ∙ ap (λ n. has q m + n) (count_sum q ms)

count_permuted : {C : Type 0} (q : List ℕ) (xs ys : List (Member C)) → IsPermutation xs ys → count q ys ≡ count q xs
count_permuted q xs ys p = sym (count_sum q ys) ∙ sum_by-IsPermutation (has q) xs ys p ∙ count_sum q xs

has_one : {C : Type 0} (q : List ℕ) (m : Member C) → q ≡ m.name.now → has q m ≡ 1
has_one q m same = ap (λ b. cond b 1 0) ((bytes_eq-Decides q m.name.now).1 same)

absent : {C : Type 0} (f : C → Data) (q : List ℕ) (ms : List (Member C)) (found : Members) → count q ms ≡ 0 → get_member q (put_all_by f ms found) ≡ get_member q found
absent f q [] found h = refl
absent f q (m ∷ ms) found h =
    absent f q ms (put m.name.now (f m.content) found) (omega arith)
    ∙ get_member-put_other q m.name.now (f m.content) found (λ same. let one = has_one q m same in omega (arith, one, h))

stands : {C : Type 0} (f : C → Data) (q : List ℕ) (ms : List (Member C)) (found : Members) (m : Member C) → m.name.now ≡ q → (k : ℕ) → k < length ms → slice_index_or ms k m ≡ m → count q ms ≤ 1
    → get_member q (put_all_by f ms found) ≡ Some (f m.content)
stands f q [] found m is k lt at few = absurd (omega arith)
stands {C = C} f q (x ∷ ms) found m is zero lt at few =
    let same : x.name.now ≡ q = ap (λ (y : Member C). y.name.now) at ∙ is in
    let one = has_one q x (sym same) in
    let c = f x.content in
    absent f q ms (put x.name.now c found) (omega (arith, one, few)) ∙ ap (λ (w : List ℕ). get_member w (put x.name.now c found)) (sym same) ∙ get_member-put x.name.now c found
    ∙ ap (λ (y : Member C). Some (f y.content)) at
stands f q (x ∷ ms) found m is (suc k) lt at few = stands f q ms (put x.name.now (f x.content) found) m is k (omega arith) at (omega (arith, few))

present_by : {C : Type 0} (b : Bool) (q : List ℕ) (m : Member C) (ms : List (Member C)) → bytes_eq q m.name.now ≡ b → 0 < has q m + count q ms → (0 < count q ms → (n : Member C) × (n.name.now ≡ q) × Contains ms n)
    → (n : Member C) × (n.name.now ≡ q) × Contains (m ∷ ms) n
present_by true q m ms e h later = (m, sym ((bytes_eq-Decides q m.name.now).0 e), (0, omega arith, refl))
present_by false q m ms e h later =
    let no_here : has q m ≡ 0 = ap (λ b. cond b 1 0) e in
    let rest = later (omega (arith, no_here, h)) in
    let at = rest.2 in
    let below = at.1 in
    (rest.0, rest.1, (suc at.0, omega (arith, below), at.2))

present : {C : Type 0} (q : List ℕ) (ms : List (Member C)) → 0 < count q ms → (m : Member C) × (m.name.now ≡ q) × Contains ms m
present q [] h = absurd (omega arith)
present q (m ∷ ms) h = present_by (bytes_eq q m.name.now) q m ms refl h (present q ms)

same_found : {C : Type 0} (f : C → Data) (xs ys : List (Member C)) → IsPermutation xs ys → ((q : List ℕ) → count q ys ≤ 1) → (q : List ℕ) → get_member q (put_all_by f xs no_members) ≡ get_member q (put_all_by f ys no_members)
same_found f xs ys p few q = by (count q xs) refl
  where
    by : (n : ℕ) → count q xs ≡ n → get_member q (put_all_by f xs no_members) ≡ get_member q (put_all_by f ys no_members)
    by zero e = absent f q xs no_members e ∙ sym (absent f q ys no_members (count_permuted q xs ys p ∙ e))
    by (suc n) e =
        let m = present q xs (omega (arith, e)) in
        let c = Contains-permutation xs ys m.0 p m.2 in
        let once = few q in
        let as_often = count_permuted q xs ys p in
        stands f q xs no_members m.0 m.1 (m.2).0 (m.2).1 (m.2).2 (omega (arith, once, as_often)) ∙ sym (stands f q ys no_members m.0 m.1 c.0 c.1 c.2 once)

-- ---- members whose names ascend

and_left : (a b : Bool) → (a && b) ≡ true → a ≡ true
and_left true b h = refl
and_left false b h = absurd cc

and_right : (a b : Bool) → (a && b) ≡ true → b ≡ true
and_right true b h = h
and_right false b h = absurd cc

is_less : (o : Ordering) → is_lt o ≡ true → o ≡ Less
is_less Less h = refl
is_less Equal h = absurd cc
is_less Greater h = absurd cc

under_from : {C : Type 0} (f : C → Data) (name : List ℕ) (ms : List (Member C)) → is_below name ms ≡ true → Ascend (in_order_by f ms) → IsUnder name (in_order_by f ms)
under_from f name [] h a = tt
under_from f name (m ∷ ms) h a =
    let less = is_less (slice_cmp nat_cmp name m.name.now) h in
    (less, under_all name m.name.now (in_order_by f ms) less a.0)

ascend_from : {C : Type 0} (f : C → Data) (ms : List (Member C)) → ascends ms ≡ true → Ascend (in_order_by f ms)
ascend_from f [] h = tt
ascend_from f (m ∷ ms) h =
    let rest = ascend_from f ms (and_right (is_below m.name.now ms) (ascends ms) h) in
    (under_from f m.name.now ms (and_left (is_below m.name.now ms) (ascends ms) h) rest, rest)

under_absent : {C : Type 0} (f : C → Data) (k : List ℕ) (ms : List (Member C)) → IsUnder k (in_order_by f ms) → count k ms ≡ 0
under_absent f k [] u = refl
under_absent f k (m ∷ ms) u =
    let other : bytes_eq k m.name.now ≡ false = sym (is_eq-slice_cmp k m.name.now) ∙ ap is_eq u.0 in
    let no_here : has k m ≡ 0 = ap (λ b. cond b 1 0) other in
    let later = under_absent f k ms u.1 in
    omega (arith, no_here, later)

once_by : {C : Type 0} (b : Bool) (f : C → Data) (q : List ℕ) (m : Member C) (ms : List (Member C)) → bytes_eq q m.name.now ≡ b → IsUnder m.name.now (in_order_by f ms) → count q ms ≤ 1 → has q m + count q ms ≤ 1
once_by true f q m ms e u later =
    let one : has q m ≡ 1 = ap (λ b. cond b 1 0) e in
    let no_more = subst (λ (w : List ℕ). count w ms ≡ 0) (sym ((bytes_eq-Decides q m.name.now).0 e)) (under_absent f m.name.now ms u) in
    omega (arith, one, no_more)
once_by false f q m ms e u later =
    let no_here : has q m ≡ 0 = ap (λ b. cond b 1 0) e in
    omega (arith, no_here, later)

at_most_once : {C : Type 0} (f : C → Data) (q : List ℕ) (ms : List (Member C)) → Ascend (in_order_by f ms) → count q ms ≤ 1
at_most_once f q [] a = omega arith
at_most_once f q (m ∷ ms) a = once_by (bytes_eq q m.name.now) f q m ms refl a.0 (at_most_once f q ms a.1)

put_all_puts : {C : Type 0} (f : C → Data) (ms : List (Member C)) (found : Members) → put_all_by f ms found ≡ puts (in_order_by f ms) found
put_all_puts f [] found = refl
put_all_puts f (m ∷ ms) found = put_all_puts f ms (put m.name.now (f m.content) found)

put_all_ascend : {C : Type 0} (f : C → Data) (ms : List (Member C)) (found : Members) → Ascend found → Ascend (put_all_by f ms found)
put_all_ascend f [] found a = a
put_all_ascend f (m ∷ ms) found a = put_all_ascend f ms (put m.name.now (f m.content) found) (put_ascend m.name.now (f m.content) found a)

-- sorted members, of which each name ascends, are those that were put in
pub sorted_put : {C : Type 0} (f : C → Data) (xs ys : List (Member C)) → IsPermutation xs ys → ascends ys ≡ true → in_order_by f ys ≡ put_all_by f xs no_members
sorted_put f xs ys p h =
    let a = ascend_from f ys h in
    let same = same_members (put_all_by f xs no_members) (put_all_by f ys no_members) (put_all_ascend f xs no_members tt) (put_all_ascend f ys no_members tt) (same_found f xs ys p (λ q. at_most_once f q ys a)) in
    sym (same ∙ put_all_puts f ys no_members ∙ puts_same (in_order_by f ys) a)
