-- Numbers that are gathered under the texts of their paths.
use Rattle.std.proofs.Common.{◌≡◌, ℕ, ℤ, Bool, true, false, cond, List, [], ◌∷◌, ◌++◌, map, Option, Some, None, refl, sym, ap, subst, ◌∙◌, append_assoc}
use Rattle.std.specs.Prelude.{insert, unwrap_or, String, string_bytes}
use Rattle.std.specs.BTreeMap.{insert_entry}
use Rattle.std.specs.Cmp.Lexicographic.{slice_cmp}
use Rattle.std.specs.declared.alloc.Global.{Global}
use Rattle.std.specs.declared.cmp.Ordering.{Ordering}
use Rattle.std.specs.declared.cmp.Ordering.TheVariants.{Less, Equal, Greater}
use Rattle.std.specs.List.{AllByRecursion}
use Rattle.std.specs.List.Sorted.{IsStrictlySortedBy}
use Rattle.std.specs.Map.{lookup, remove_entry}
use Rattle.std.specs.Ordering.{is_eq, is_le, nat_cmp, ordering_reverse}
use Rattle.std.specs.String.{string_cmp}
use Rattle.std.proofs.lemmas.Bool.{both_ways}
use Rattle.std.proofs.lemmas.Cmp.{nat_list_cmp_total, tied_itself}
use Rattle.std.proofs.lemmas.Map.Text.{is_eq-slice_cmp}
use Rattle.std.proofs.lemmas.Slice.Eq.{bytes_eq-Decides}
use Rattle.eds_types.proofs.AllOf.{All-weaker, All-both}
use Rattle.eds_types.specs.Reading.{starts_above}
use Rattle.eds_types.specs.Rows.{Table}
use Rattle.eds_overlap.specs.declared.common.Common.{Common}
use Rattle.eds_overlap.specs.Common.{texts_of, is_on, put_in_order, with_path, all_under, numbers_under, AreUnderTexts}
use Rattle.eds_overlap.specs.Pairs.{Steps, same_path}
use Rattle.eds_overlap.specs.PathTexts.{path_text, count_up_to}
use Rattle.eds_overlap.proofs.Solutions.{same_is}

-- the text comes before each key
abbrev IsAhead : List ℕ → List (String Global × List Common) → Type 0
IsAhead text es = AllByRecursion (λ (e : String Global × List Common). slice_cmp nat_cmp text (string_bytes e.0) ≡ Less) es

equal_texts : (a b : List ℕ) → slice_cmp nat_cmp a b ≡ Equal → a ≡ b
equal_texts a b e = (bytes_eq-Decides a b).0 (sym (is_eq-slice_cmp a b) ∙ ap is_eq e)

-- the first key comes before the others
rising_first : (e : String Global × List Common) (es : List (String Global × List Common)) → IsStrictlySortedBy string_cmp (map (λ (x : String Global × List Common). x.0) (e ∷ es)) → IsAhead (string_bytes e.0) es
unfolding IsStrictlySortedBy
rising_first e es up = go es up.0
  where
    go : (some : List (String Global × List Common)) → AllByRecursion (λ k. string_cmp e.0 k ≡ Less) (map (λ (x : String Global × List Common). x.0) some) → IsAhead (string_bytes e.0) some
    go [] h = tt
    go (x ∷ some) h = (h.0, go some h.1)

rising_rest : (e : String Global × List Common) (es : List (String Global × List Common)) → IsStrictlySortedBy string_cmp (map (λ (x : String Global × List Common). x.0) (e ∷ es)) → IsStrictlySortedBy string_cmp (map (λ (x : String Global × List Common). x.0) es)
unfolding IsStrictlySortedBy
rising_rest e es up = up.1

pub none_rise : IsStrictlySortedBy string_cmp (map (λ (x : String Global × List Common). x.0) [])
unfolding IsStrictlySortedBy
none_rise = tt

ahead_all : (text : List ℕ) (e : String Global × List Common) (es : List (String Global × List Common)) → slice_cmp nat_cmp text (string_bytes e.0) ≡ Less → IsAhead (string_bytes e.0) es → IsAhead text es
ahead_all text e es less h = All-weaker (λ (x : String Global × List Common). slice_cmp nat_cmp (string_bytes e.0) (string_bytes x.0) ≡ Less) (λ (x : String Global × List Common). slice_cmp nat_cmp text (string_bytes x.0) ≡ Less) (λ x l. nat_list_cmp_total.trans text (string_bytes e.0) (string_bytes x.0) less l) es h

ahead_same : (text : List ℕ) (e : String Global × List Common) (es : List (String Global × List Common)) → slice_cmp nat_cmp text (string_bytes e.0) ≡ Equal → IsAhead (string_bytes e.0) es → IsAhead text es
ahead_same text e es same h = subst (λ b. IsAhead b es) (sym (equal_texts text (string_bytes e.0) same)) h

-- ---- before all keys

module _ (text : List ℕ) where
  nothing_removed : (es : List (String Global × List Common)) → IsAhead text es → remove_entry (λ k. is_eq (slice_cmp nat_cmp text (string_bytes k))) es ≡ es
  nothing_removed [] h = refl
  nothing_removed (e ∷ es) h = rw h.0 (ap (λ r. e ∷ r) (nothing_removed es h.1))

  nothing_found : (es : List (String Global × List Common)) → IsAhead text es → lookup (λ k. is_eq (slice_cmp nat_cmp text (string_bytes k))) es ≡ None
  nothing_found [] h = refl
  nothing_found (e ∷ es) h = rw h.0 (nothing_found es h.1)

  inserted_first : (k : String Global) (v : List Common) (es : List (String Global × List Common)) → string_bytes k ≡ text → IsAhead text es → insert_entry string_cmp es k v ≡ (k, v) ∷ es
  inserted_first k v [] e h = refl
  inserted_first k v (x ∷ es) e h =
      let less : string_cmp k x.0 ≡ Less = ap (λ b. slice_cmp nat_cmp b (string_bytes x.0)) e ∙ h.0 in
      rw less refl

module _ (t : Table) (text : List ℕ) where
  -- no text under such keys comes as early
  none_up_to : (es : List (String Global × List Common)) → IsAhead text es → AllByRecursion (λ (e : String Global × List Common). AllByRecursion (λ (c : Common). path_text t c.path ≡ string_bytes e.0) e.1) es → count_up_to (texts_of t (all_under es)) text ≡ 0
  none_up_to [] h own = refl
  none_up_to (e ∷ es) h own = go e.1 own.0 (none_up_to es h.1 own.1)
    where
      go : (some : List Common) → AllByRecursion (λ (c : Common). path_text t c.path ≡ string_bytes e.0) some → count_up_to (texts_of t (all_under es)) text ≡ 0 → count_up_to (texts_of t (some ++ all_under es)) text ≡ 0
      go [] a rest = rest
      go (c ∷ some) a rest =
          let later : slice_cmp nat_cmp (path_text t c.path) text ≡ Greater = ap (λ b. slice_cmp nat_cmp b text) a.0 ∙ nat_list_cmp_total.antisymm (string_bytes e.0) text ∙ ap ordering_reverse h.0 in
          rw later refl

  -- a number goes past those whose texts come as early
  past : (d : Common) (xs rest : List Common) → AllByRecursion (λ (c : Common). is_le (slice_cmp nat_cmp (path_text t c.path) text) ≡ true) xs
      → insert (xs ++ rest) (count_up_to (texts_of t (xs ++ rest)) text) d ≡ xs ++ insert rest (count_up_to (texts_of t rest) text) d
  past d [] rest h = refl
  past d (c ∷ xs) rest h = rw h.0 (ap (λ r. c ∷ r) (past d xs rest h.1))

  -- a number put under its text
  put_is : (k : String Global) (c : Common) (es : List (String Global × List Common)) → string_bytes k ≡ text → AreUnderTexts t es
      → all_under (insert_entry string_cmp (remove_entry (λ q. is_eq (slice_cmp nat_cmp text (string_bytes q))) es) k (numbers_under es text ++ c ∷ [])) ≡ insert (all_under es) (count_up_to (texts_of t (all_under es)) text) c
  put_is k c [] e h = refl
  put_is k c (x ∷ es) e h = go (slice_cmp nat_cmp text (string_bytes x.0)) refl (put_is k c es e (record { rise = rising_rest x es h.rise; own = (h.own).1 }))
    where
      first : IsAhead (string_bytes x.0) es
      first = rising_first x es h.rise

      early : (o : Ordering) → slice_cmp nat_cmp text (string_bytes x.0) ≡ o → is_le (ordering_reverse o) ≡ true → AllByRecursion (λ (d : Common). is_le (slice_cmp nat_cmp (path_text t d.path) text) ≡ true) x.1
      early o q le =
          All-weaker (λ (d : Common). path_text t d.path ≡ string_bytes x.0) (λ (d : Common). is_le (slice_cmp nat_cmp (path_text t d.path) text) ≡ true)
          (λ d p. ap (λ b. is_le (slice_cmp nat_cmp b text)) p ∙ ap is_le (nat_list_cmp_total.antisymm (string_bytes x.0) text ∙ ap ordering_reverse q) ∙ le) x.1 (h.own).0

      go : (o : Ordering) → slice_cmp nat_cmp text (string_bytes x.0) ≡ o
          → all_under (insert_entry string_cmp (remove_entry (λ q. is_eq (slice_cmp nat_cmp text (string_bytes q))) es) k (numbers_under es text ++ c ∷ [])) ≡ insert (all_under es) (count_up_to (texts_of t (all_under es)) text) c
          → all_under (insert_entry string_cmp (remove_entry (λ q. is_eq (slice_cmp nat_cmp text (string_bytes q))) (x ∷ es)) k (numbers_under (x ∷ es) text ++ c ∷ [])) ≡ insert (all_under (x ∷ es)) (count_up_to (texts_of t (all_under (x ∷ es))) text) c
      go Less q rest =
          let ahead : IsAhead text (x ∷ es) = (q, ahead_all text x es q first) in
          ap (λ r. all_under (insert_entry string_cmp r k (numbers_under (x ∷ es) text ++ c ∷ []))) (nothing_removed text (x ∷ es) ahead)
          ∙ ap (λ o. all_under (insert_entry string_cmp (x ∷ es) k (unwrap_or o [] ++ c ∷ []))) (nothing_found text (x ∷ es) ahead)
          ∙ ap all_under (inserted_first text k (c ∷ []) (x ∷ es) e ahead)
          ∙ ap (λ n. insert (all_under (x ∷ es)) n c) (sym (none_up_to (x ∷ es) ahead h.own))
      go Equal q rest =
          let ahead : IsAhead text es = ahead_same text x es q first in
          rw q
          (ap all_under (inserted_first text k (x.1 ++ c ∷ []) es e ahead)
          ∙ append_assoc x.1 (c ∷ []) (all_under es)
          ∙ ap (λ n. x.1 ++ insert (all_under es) n c) (sym (none_up_to es ahead (h.own).1))
          ∙ sym (past c x.1 (all_under es) (early Equal q refl)))
      go Greater q rest =
          let greater : string_cmp k x.0 ≡ Greater = ap (λ b. slice_cmp nat_cmp b (string_bytes x.0)) e ∙ q in
          rw q (rw greater (ap (λ r. x.1 ++ r) rest ∙ sym (past c x.1 (all_under es) (early Greater q refl))))

-- ---- what stays

module _ (P : String Global → List Common → Type 0) where
  still_all : (test : String Global → Bool) (es : List (String Global × List Common)) → AllByRecursion (λ (e : String Global × List Common). P e.0 e.1) es → AllByRecursion (λ (e : String Global × List Common). P e.0 e.1) (remove_entry test es)
  still_all test [] h = tt
  still_all test (e ∷ es) h = go (test e.0) (still_all test es h.1)
    where
      go : (b : Bool) → AllByRecursion (λ (x : String Global × List Common). P x.0 x.1) (remove_entry test es) → AllByRecursion (λ (x : String Global × List Common). P x.0 x.1) (cond b es (e ∷ remove_entry test es))
      go true rest = h.1
      go false rest = (h.0, rest)

  with_one : (k : String Global) (v : List Common) (es : List (String Global × List Common)) → ((q : String Global) → string_bytes k ≡ string_bytes q → P q v) → AllByRecursion (λ (e : String Global × List Common). P e.0 e.1) es
      → AllByRecursion (λ (e : String Global × List Common). P e.0 e.1) (insert_entry string_cmp es k v)
  with_one k v [] g h = (g k refl, tt)
  with_one k v (e ∷ es) g h = go (string_cmp k e.0) refl (with_one k v es g h.1)
    where
      go : (o : Ordering) → string_cmp k e.0 ≡ o → AllByRecursion (λ (x : String Global × List Common). P x.0 x.1) (insert_entry string_cmp es k v) → AllByRecursion (λ (x : String Global × List Common). P x.0 x.1) (insert_entry string_cmp (e ∷ es) k v)
      go Less q rest = rw q (g k refl, h)
      go Equal q rest = rw q (g e.0 (equal_texts (string_bytes k) (string_bytes e.0) q), h.1)
      go Greater q rest = rw q (h.0, rest)

module _ (t : Table) (text : List ℕ) where
  under_text : (es : List (String Global × List Common)) → AllByRecursion (λ (e : String Global × List Common). AllByRecursion (λ (c : Common). path_text t c.path ≡ string_bytes e.0) e.1) es → AllByRecursion (λ (c : Common). path_text t c.path ≡ text) (numbers_under es text)
  under_text [] h = tt
  under_text (e ∷ es) h = go (slice_cmp nat_cmp text (string_bytes e.0)) refl (under_text es h.1)
    where
      go : (o : Ordering) → slice_cmp nat_cmp text (string_bytes e.0) ≡ o → AllByRecursion (λ (c : Common). path_text t c.path ≡ text) (numbers_under es text) → AllByRecursion (λ (c : Common). path_text t c.path ≡ text) (numbers_under (e ∷ es) text)
      go Less q rest = rw q rest
      go Equal q rest = rw q (subst (λ b. AllByRecursion (λ (c : Common). path_text t c.path ≡ b) e.1) (sym (equal_texts text (string_bytes e.0) q)) h.0)
      go Greater q rest = rw q rest

  pub own_put : (k : String Global) (c : Common) (es : List (String Global × List Common)) → string_bytes k ≡ text → path_text t c.path ≡ text → AreUnderTexts t es
      → AllByRecursion (λ (e : String Global × List Common). AllByRecursion (λ (d : Common). path_text t d.path ≡ string_bytes e.0) e.1) (insert_entry string_cmp (remove_entry (λ q. is_eq (slice_cmp nat_cmp text (string_bytes q))) es) k (numbers_under es text ++ c ∷ []))
  own_put k c es e p h =
      with_one (λ q some. AllByRecursion (λ (d : Common). path_text t d.path ≡ string_bytes q) some) k (numbers_under es text ++ c ∷ []) (remove_entry (λ q. is_eq (slice_cmp nat_cmp text (string_bytes q))) es)
      (λ q same. subst (λ b. AllByRecursion (λ (d : Common). path_text t d.path ≡ b) (numbers_under es text ++ c ∷ [])) (sym e ∙ same) (All-both (λ (d : Common). path_text t d.path ≡ text) (numbers_under es text) (c ∷ []) (under_text es h.own) (p, tt)))
      (still_all (λ q some. AllByRecursion (λ (d : Common). path_text t d.path ≡ string_bytes q) some) (λ q. is_eq (slice_cmp nat_cmp text (string_bytes q))) es h.own)

  pub put_under : (k : String Global) (c : Common) (es : List (String Global × List Common)) → string_bytes k ≡ text → path_text t c.path ≡ text → AreUnderTexts t es
      → all_under (insert_entry string_cmp (remove_entry (λ q. is_eq (slice_cmp nat_cmp text (string_bytes q))) es) k (numbers_under es text ++ c ∷ [])) ≡ put_in_order t (all_under es) c
  put_under k c es e p h = put_is t text k c es e h ∙ ap (λ b. insert (all_under es) (count_up_to (texts_of t (all_under es)) b) c) (sym p)

-- ---- where a path is

on_both : (xs ys : List Common) (path : Steps) → is_on xs path ≡ false → is_on (xs ++ ys) path ≡ is_on ys path
on_both [] ys path e = refl
on_both (x ∷ xs) ys path e = go (same_path x.path path) e (on_both xs ys path)
  where
    go : (b : Bool) → cond b true (is_on xs path) ≡ false → (is_on xs path ≡ false → is_on (xs ++ ys) path ≡ is_on ys path) → cond b true (is_on (xs ++ ys) path) ≡ is_on ys path
    go true f rest = absurd cc
    go false f rest = rest f

on_first : (xs ys : List Common) (path : Steps) → is_on ys path ≡ false → is_on (xs ++ ys) path ≡ is_on xs path
on_first [] ys path e = e
on_first (x ∷ xs) ys path e = ap (λ r. cond (same_path x.path path) true r) (on_first xs ys path e)

module _ (t : Table) (path : Steps) where
  off : (text : List ℕ) (xs : List Common) → (path_text t path ≡ text → ⊥) → AllByRecursion (λ (c : Common). path_text t c.path ≡ text) xs → is_on xs path ≡ false
  off text [] ne h = refl
  off text (x ∷ xs) ne h = go (same_path x.path path) refl (off text xs ne h.1)
    where
      go : (b : Bool) → same_path x.path path ≡ b → is_on xs path ≡ false → cond b true (is_on xs path) ≡ false
      go true q rest = absurd (ne (ap (path_text t) (sym (same_is x.path path q)) ∙ h.0))
      go false q rest = rest

  other : (text : List ℕ) (o : Ordering) → slice_cmp nat_cmp (path_text t path) text ≡ o → is_eq o ≡ false → path_text t path ≡ text → ⊥
  other text o q ne e = both_ways (is_eq o) ne (ap is_eq (sym q ∙ ap (slice_cmp nat_cmp (path_text t path)) (sym e) ∙ tied_itself nat_list_cmp_total (path_text t path)))

  off_all : (es : List (String Global × List Common)) → IsAhead (path_text t path) es → AllByRecursion (λ (e : String Global × List Common). AllByRecursion (λ (c : Common). path_text t c.path ≡ string_bytes e.0) e.1) es → is_on (all_under es) path ≡ false
  off_all [] h own = refl
  off_all (e ∷ es) h own = on_both e.1 (all_under es) path (off (string_bytes e.0) e.1 (other (string_bytes e.0) Less h.0 refl) own.0) ∙ off_all es h.1 own.1

  -- a path is among all numbers exactly where it is among those under its text
  pub on_under : (es : List (String Global × List Common)) → AreUnderTexts t es → is_on (numbers_under es (path_text t path)) path ≡ is_on (all_under es) path
  on_under [] h = refl
  on_under (e ∷ es) h = go (slice_cmp nat_cmp (path_text t path) (string_bytes e.0)) refl (on_under es (record { rise = rising_rest e es h.rise; own = (h.own).1 }))
    where
      apart : (o : Ordering) → slice_cmp nat_cmp (path_text t path) (string_bytes e.0) ≡ o → is_eq o ≡ false → is_on (numbers_under es (path_text t path)) path ≡ is_on (all_under es) path → is_on (numbers_under es (path_text t path)) path ≡ is_on (all_under (e ∷ es)) path
      apart o q ne rest = rest ∙ sym (on_both e.1 (all_under es) path (off (string_bytes e.0) e.1 (other (string_bytes e.0) o q ne) (h.own).0))

      go : (o : Ordering) → slice_cmp nat_cmp (path_text t path) (string_bytes e.0) ≡ o → is_on (numbers_under es (path_text t path)) path ≡ is_on (all_under es) path → is_on (numbers_under (e ∷ es) (path_text t path)) path ≡ is_on (all_under (e ∷ es)) path
      go Less q rest = rw q (apart Less q refl rest)
      go Equal q rest = rw q (sym (on_first e.1 (all_under es) path (off_all es (ahead_same (path_text t path) e es q (rising_first e es h.rise)) (h.own).1)))
      go Greater q rest = rw q (apart Greater q refl rest)

-- ---- what the code says

-- the entries after a number was put
pub entries_put : (text : List ℕ) (k : String Global) (c : Common) (es mid new : List (String Global × List Common)) (some more : List Common) → mid ≡ remove_entry (λ q. is_eq (slice_cmp nat_cmp text (string_bytes q))) es → some ≡ numbers_under es text → more ≡ some ++ c ∷ [] → new ≡ insert_entry string_cmp mid k more
    → new ≡ insert_entry string_cmp (remove_entry (λ q. is_eq (slice_cmp nat_cmp text (string_bytes q))) es) k (numbers_under es text ++ c ∷ [])
entries_put text k c es mid new some more m s p n = n ∙ ap (λ xs. insert_entry string_cmp xs k more) m ∙ ap (λ xs. insert_entry string_cmp (remove_entry (λ q. is_eq (slice_cmp nat_cmp text (string_bytes q))) es) k xs) (p ∙ ap (λ xs. xs ++ c ∷ []) s)

pub with_there : (t : Table) (x : ℕ) (least : Steps → Option ℤ) (common : List Common) (path : Steps) → starts_above t x path ≡ true → is_on common path ≡ true → common ≡ with_path t x least common path
with_there t x least common path s o = rw (s, o) refl

pub with_new : (t : Table) (x : ℕ) (least : Steps → Option ℤ) (common : List Common) (path : Steps) (n : ℤ) → starts_above t x path ≡ true → is_on common path ≡ false → least path ≡ Some n → put_in_order t common (record { path = path; number = n }) ≡ with_path t x least common path
with_new t x least common path n s o l = rw (s, o, l) refl
