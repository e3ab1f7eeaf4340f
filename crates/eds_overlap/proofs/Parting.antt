-- Where two chains part.
use Rattle.std.proofs.Common.{◌≡◌, ℕ, zero, suc, ◌+◌, ◌-◌, ◌<◌, ◌≤◌, Bool, true, false, cond, List, [], ◌∷◌, ◌++◌, length, map, get_or, take, refl, sym, ap, subst, ◌∙◌, append_assoc, arith}
use Rattle.std.specs.Prelude.{◌==◌, ◌≢◌, ◌↔◌, ◌&&◌, nat_lt, IsTrue}
use Rattle.std.proofs.lemmas.Bool.{eqb-true, eq-eqb, ne_eqb, both_ways}
use Rattle.std.proofs.lemmas.List.{take_more, length-map, length-append, map-append}
use Rattle.eds_base.specs.declared.ids.TypeId.{TypeId}
use Rattle.eds_bits.specs.Lists.{Has}
use Rattle.eds_types.specs.Rows.{Table, id_of, chain, list_has, entries_of, numbers_of}
use Rattle.eds_types.specs.Fields.{StartsInEntries}
use Rattle.eds_types.specs.Reading.{starts_above}
use Rattle.eds_types.specs.declared.row.Part.{Part}
use Rattle.eds_types.specs.Rules.{KeepsRules}
use Rattle.eds_types.proofs.ChainLaws.{chain_end, under_is}
use Rattle.eds_types.proofs.ReadingTests.{has_from, has_in, starts_from, starts_in}
use Rattle.eds_types.proofs.RuleFacts.{table_of}
use Rattle.eds_overlap.specs.Pairs.{shared, ArePartedAt, has_used, Named, IsReadThrough}

-- two lists go on differently after n items
record Split (one other : List TypeId) (n : ℕ) : Type 0 where
  left : TypeId
  right : TypeId
  more : List TypeId
  others : List TypeId
  to_one : one ≡ take n one ++ left ∷ more
  to_other : other ≡ take n one ++ right ∷ others
  differ : left.0 ≢ right.0

same_number : (x y : TypeId) → x.0 ≡ y.0 → x ≡ y
same_number x y e = ap id_of e

split_at : (one other : List TypeId) (n : ℕ) → shared one other ≡ n → n < length one → n < length other → Split one other n
split_at [] other n e l k = absurd (omega arith)
split_at (x ∷ one) [] n e l k = absurd (omega arith)
split_at (x ∷ one) (y ∷ other) n e l k = go (x.0 == y.0) refl e (split_at one other (shared one other) refl)
  where
    go : (b : Bool) → (x.0 == y.0) ≡ b → cond b (suc (shared one other)) 0 ≡ n → (shared one other < length one → shared one other < length other → Split one other (shared one other)) → Split (x ∷ one) (y ∷ other) n
    go true h e ih =
        let s = ih (omega arith) (omega arith) in
        let same : y ≡ x = same_number y x (sym (eqb-true x.0 y.0 h)) in
        subst (Split (x ∷ one) (y ∷ other)) e (record {
          left = s.left;
          right = s.right;
          more = s.more;
          others = s.others;
          to_one = ap (λ r. x ∷ r) s.to_one;
          to_other = ap (λ r. r ∷ other) same ∙ ap (λ r. x ∷ r) s.to_other;
          differ = s.differ;
        })
    go false h e ih = subst (Split (x ∷ one) (y ∷ other)) e (record { left = x; right = y; more = one; others = other; to_one = refl; to_other = refl; differ = λ q. both_ways (x.0 == y.0) h (eq-eqb x.0 y.0 q) })

pub shared_is : (front : List TypeId) (left right : TypeId) (more others : List TypeId) → left.0 ≢ right.0 → shared (front ++ left ∷ more) (front ++ right ∷ others) ≡ length front
shared_is [] left right more others ne = ap (λ b. cond b (suc (shared more others)) 0) (ne_eqb left.0 right.0 ne)
shared_is (x ∷ front) left right more others ne = ap (λ b. cond b (suc (shared (front ++ left ∷ more) (front ++ right ∷ others))) 0) (eq-eqb x.0 x.0 refl) ∙ ap suc (shared_is front left right more others ne)

numbers_back : (xs : List ℕ) → numbers_of (map id_of xs) ≡ xs
numbers_back [] = refl
numbers_back (x ∷ xs) = ap (λ r. x ∷ r) (numbers_back xs)

pub numbers_are : (t : Table) (k : ℕ) (ids : List TypeId) → ids ≡ map id_of (chain t k) → numbers_of ids ≡ chain t k
numbers_are t k ids e = ap numbers_of e ∙ numbers_back (chain t k)

module _ (t : Table) (keeps : KeepsRules t) where
  pub parted : (k l n : ℕ) (ids others : List TypeId) (x : TypeId) → ids ≡ map id_of (chain t k) → others ≡ map id_of (chain t l) → n ≡ shared ids others → 1 ≤ n → n < length ids → n < length others → x ≡ get_or ids (n - 1) x → ArePartedAt t x.0 k l
  parted k l n ids others x e f is some few less at =
      let s = split_at ids others n (sym is) few less in
      let n_is : n ≡ (n - 1) + 1 = omega arith in
      let before : List ℕ = numbers_of (take (n - 1) ids) in
      let front : take n ids ≡ take (n - 1) ids ++ x ∷ [] = ap (λ m. take m ids) n_is ∙ take_more ids (n - 1) x (omega arith) ∙ ap (λ y. take (n - 1) ids ++ y ∷ []) (sym at) in
      let front_is : numbers_of (take n ids) ≡ before ++ x.0 ∷ [] = ap numbers_of front ∙ map-append (λ (id : TypeId). id.0) (take (n - 1) ids) (x ∷ []) in
      let to_k : chain t k ≡ (before ++ x.0 ∷ []) ++ s.left.0 ∷ numbers_of s.more =
      sym (numbers_are t k ids e) ∙ ap numbers_of s.to_one ∙ map-append (λ (id : TypeId). id.0) (take n ids) (s.left ∷ s.more) ∙ ap (λ r. r ++ s.left.0 ∷ numbers_of s.more) front_is in
      let to_l : chain t l ≡ (before ++ x.0 ∷ []) ++ s.right.0 ∷ numbers_of s.others =
      sym (numbers_are t l others f) ∙ ap numbers_of s.to_other ∙ map-append (λ (id : TypeId). id.0) (take n ids) (s.right ∷ s.others) ∙ ap (λ r. r ++ s.right.0 ∷ numbers_of s.others) front_is in
      let up = under_is t (table_of t keeps) x.0 k before (s.left.0 ∷ numbers_of s.more) (to_k ∙ append_assoc before (x.0 ∷ []) (s.left.0 ∷ numbers_of s.more)) in
      record {
        one = s.left.0;
        other = s.right.0;
        differ = s.differ;
        to_first = (numbers_of s.more, up.1);
        to_second = (numbers_of s.others, to_l ∙ ap (λ r. r ++ s.right.0 ∷ numbers_of s.others) (sym up.0));
      }

  pub not_parted : (k l n : ℕ) (ids others : List TypeId) → ids ≡ map id_of (chain t k) → others ≡ map id_of (chain t l) → n ≡ shared ids others → (1 ≤ n → n < length ids → n < length others → ⊥) → (x : ℕ) → ArePartedAt t x k l → ⊥
  not_parted k l n ids others e f is no_place x p =
      let front : List TypeId = map id_of (chain t x) in
      let to_ids : ids ≡ front ++ id_of p.one ∷ map id_of (p.to_first).0 = e ∙ ap (map id_of) (p.to_first).1 ∙ map-append id_of (chain t x) (p.one ∷ (p.to_first).0) in
      let to_others : others ≡ front ++ id_of p.other ∷ map id_of (p.to_second).0 = f ∙ ap (map id_of) (p.to_second).1 ∙ map-append id_of (chain t x) (p.other ∷ (p.to_second).0) in
      let n_is : n ≡ length front = is ∙ ap (λ r. shared r others) to_ids ∙ ap (shared (front ++ id_of p.one ∷ map id_of (p.to_first).0)) to_others ∙ shared_is front (id_of p.one) (id_of p.other) (map id_of (p.to_first).0) (map id_of (p.to_second).0) p.differ in
      let end = chain_end t (table_of t keeps) x in
      let long : length (chain t x) ≡ length end.0 + 1 = ap length end.1 ∙ length-append end.0 (x ∷ []) in
      let all : length front ≡ length (chain t x) = length-map (chain t x) id_of in
      let one_long : length ids ≡ length front + suc (length (map id_of (p.to_first).0)) = ap length to_ids ∙ length-append front (id_of p.one ∷ map id_of (p.to_first).0) in
      let other_long : length others ≡ length front + suc (length (map id_of (p.to_second).0)) = ap length to_others ∙ length-append front (id_of p.other ∷ map id_of (p.to_second).0) in
      no_place (omega arith) (omega arith) (omega arith)

-- ---- used types

named_has : (used : List TypeId) (u : ℕ) → Has (numbers_of used) u → Has used (id_of u)
named_has [] u h = absurd (none h.before h.is)
  where
    none : (b : List ℕ) → [] ≡ b ++ u ∷ h.after → ⊥
    none [] e = cc
    none (x ∷ b) e = cc
named_has (x ∷ used) u h = go h.before h.is (named_has used u)
  where
    go : (b : List ℕ) → x.0 ∷ numbers_of used ≡ b ++ u ∷ h.after → (Has (numbers_of used) u → Has used (id_of u)) → Has (x ∷ used) (id_of u)
    go [] e ih = let p : x.0 ≡ u = cc in record { before = []; after = used; is = ap (λ y. y ∷ used) (same_number x (id_of u) p) }
    go (y ∷ b) e ih =
        let q : numbers_of used ≡ b ++ u ∷ h.after = cc in
        let k = ih (record { before = b; after = h.after; is = q }) in
        record { before = x ∷ k.before; after = k.after; is = ap (λ r. x ∷ r) k.is }

has_named : (used : List TypeId) (u : ℕ) → Has used (id_of u) → Has (numbers_of used) u
has_named used u h = record { before = numbers_of h.before; after = numbers_of h.after; is = ap numbers_of h.is ∙ map-append (λ (id : TypeId). id.0) h.before (id_of u ∷ h.after) }

later : (x u : ℕ) (xs : List ℕ) → Has xs u → Has (x ∷ xs) u
later x u xs h = record { before = x ∷ h.before; after = h.after; is = ap (λ r. x ∷ r) h.is }

used_from : (used ids : List TypeId) → has_used used ids ≡ true → (u : ℕ) × Named used u × Has (numbers_of ids) u
used_from used [] e = absurd cc
used_from used (x ∷ ids) e = go (list_has (numbers_of used) x.0) refl e (used_from used ids)
  where
    go : (b : Bool) → list_has (numbers_of used) x.0 ≡ b → cond b true (has_used used ids) ≡ true → (has_used used ids ≡ true → (u : ℕ) × Named used u × Has (numbers_of ids) u) → (u : ℕ) × Named used u × Has (x.0 ∷ numbers_of ids) u
    go true h e ih = (x.0, named_has used x.0 (has_from (numbers_of used) x.0 h), record { before = []; after = numbers_of ids; is = refl })
    go false h e ih = let k = ih e in (k.0, k.1, later x.0 k.0 (numbers_of ids) k.2)

or_true : (b : Bool) → cond b true true ≡ true
or_true true = refl
or_true false = refl

used_in : (used ids : List TypeId) (u : ℕ) → Named used u → (b a : List ℕ) → numbers_of ids ≡ b ++ u ∷ a → has_used used ids ≡ true
used_in used [] u n [] a e = absurd cc
used_in used [] u n (y ∷ b) a e = absurd cc
used_in used (x ∷ ids) u n [] a e =
    let p : u ≡ x.0 = cc in
    let h = has_named used u n in
    ap (λ c. cond c true (has_used used ids)) (ap (list_has (numbers_of used)) (sym p) ∙ has_in (numbers_of used) u h.before h.after h.is)
used_in used (x ∷ ids) u n (y ∷ b) a e =
    let q : numbers_of ids ≡ b ++ u ∷ a = cc in
    ap (λ c. cond (list_has (numbers_of used) x.0) true c) (used_in used ids u n b a q) ∙ or_true (list_has (numbers_of used) x.0)

pub read_through : (t : Table) (x : ℕ) (used ids : List TypeId) (b : Bool) → ids ≡ map id_of (chain t x) → b ≡ has_used used ids → IsTrue b ↔ IsReadThrough t (Named used) x
read_through t x used ids b e is = (
  λ h. let k = used_from used ids (sym is ∙ h) in (k.0, k.1, subst (λ xs. Has xs k.0) (numbers_are t x ids e) k.2),
  λ h. let k = subst (λ xs. Has xs h.0) (sym (numbers_are t x ids e)) h.2 in is ∙ used_in used ids h.0 h.1 k.before k.after k.is,
)

-- ---- the start of a path

pub starts_then : (t : Table) (x : ℕ) (ids : List TypeId) (path : List (TypeId × ℕ)) (d : TypeId × ℕ) (entries : List Part) (b : Bool) → 1 ≤ length path → ids ≡ map id_of (chain t x)
    → b ≡ list_has (numbers_of ids) ((get_or path 0 d).0).0 → b ≡ true → entries ≡ entries_of t ((get_or path 0 d).0).0 → nat_lt (get_or path 0 d).1 (length entries) ≡ starts_above t x path
starts_then t x ids [] d entries b l e is hit own = absurd (omega arith)
starts_then t x ids (p ∷ path) d entries b l e is hit own =
    let h : list_has (chain t x) (p.0).0 ≡ true = ap (λ xs. list_has xs (p.0).0) (sym (numbers_are t x ids e)) ∙ sym is ∙ hit in
    ap (λ es. nat_lt p.1 (length es)) own ∙ sym (ap (λ c. c && nat_lt p.1 (length (entries_of t (p.0).0))) h)

pub starts_else : (t : Table) (x : ℕ) (ids : List TypeId) (path : List (TypeId × ℕ)) (d : TypeId × ℕ) (b : Bool) → 1 ≤ length path → ids ≡ map id_of (chain t x)
    → b ≡ list_has (numbers_of ids) ((get_or path 0 d).0).0 → b ≡ false → b ≡ starts_above t x path
starts_else t x ids [] d b l e is miss = absurd (omega arith)
starts_else t x ids (p ∷ path) d b l e is miss =
    let h : list_has (chain t x) (p.0).0 ≡ false = ap (λ xs. list_has xs (p.0).0) (sym (numbers_are t x ids e)) ∙ sym is ∙ miss in
    miss ∙ sym (ap (λ c. c && nat_lt p.1 (length (entries_of t (p.0).0))) h)

pub starts_yes : (t : Table) (x : ℕ) (path : List (TypeId × ℕ)) (b : Bool) → b ≡ starts_above t x path → b ≡ true → StartsInEntries t x path
starts_yes t x path b is hit = starts_from t x path (sym is ∙ hit)

pub starts_no : (t : Table) (x : ℕ) (path : List (TypeId × ℕ)) (b : Bool) → b ≡ starts_above t x path → b ≡ false → StartsInEntries t x path → ⊥
starts_no t x path b is miss h = both_ways b miss (is ∙ starts_in t x path h)

pub got : {A : Type 0} (xs : List A) (i : ℕ) (d : A) → i < length xs → get_or xs i d ≡ get_or xs i (get_or xs i d)
got [] i d l = absurd (omega arith)
got (x ∷ xs) zero d l = refl
got (x ∷ xs) (suc i) d l = got xs i d (omega arith)
