-- Containers that are listed apart don't overlap.
use Rattle.std.proofs.Common.{◌≡◌, ℕ, zero, suc, ◌+◌, ◌<◌, ◌≤◌, ℤ, Bool, true, false, cond, List, [], ◌∷◌, ◌++◌, length, map, get_or, take, Option, Some, None, refl, sym, ap, subst, ◌∙◌, arith, inl, inr}
use Rattle.std.specs.Prelude.{◌≢◌, ◌⊎◌, slice_get, is_some, IfSome, IfNone, IsTrue, bytes_eq}
use Rattle.std.specs.Ordering.{int_eq}
use Rattle.std.proofs.lemmas.Bool.{both_ways, cases_lt}
use Rattle.std.proofs.lemmas.Bool.Decides.{Decides-int_eq}
use Rattle.std.proofs.lemmas.List.{take_all, take_more}
use Rattle.std.proofs.lemmas.Slice.Eq.{bytes_eq-Decides}
use Rattle.eds_base.specs.declared.ids.TypeId.{TypeId}
use Rattle.eds_bits.specs.Lists.{HasOne}
use Rattle.eds_types.specs.declared.sets.PathSet.{PathSet}
use Rattle.eds_types.specs.Overlap.{Overlapping}
use Rattle.eds_types.specs.Rows.{Table, id_of, chain, is_concrete}
use Rattle.eds_types.specs.Rules.{KeepsRules}
use Rattle.eds_types.proofs.ChainLaws.{chain_end}
use Rattle.eds_types.proofs.RuleFacts.{table_of}
use Rattle.eds_overlap.specs.declared.find.Pair.{Pair}
use Rattle.eds_overlap.specs.Index.{first_or, family, sets_of, model_of, mark, marks_on, Places, listed, all_key, free_key, held_key, own_key, IsListed, AreListed, MayMeetBy, MayMeet, IsReached, OverlapsWith, AreMetWith}
use Rattle.eds_overlap.specs.Pairs.{AllSets, Named, IsFirstWith, IsFirstPair}
use Rattle.eds_overlap.proofs.Meeting.{first_is_first}
use Rattle.eds_overlap.proofs.ToldApart.{parts_of, parts_apart}

-- ---- families

head_is : (f rest : List ℕ) (x : ℕ) (d e : TypeId) → first_or (map id_of ((f ++ x ∷ []) ++ rest)) d ≡ first_or (map id_of (f ++ x ∷ [])) e
head_is [] rest x d e = refl
head_is (y ∷ f) rest x d e = refl

module _ (t : Table) (keeps : KeepsRules t) where
  of_base : (x k : ℕ) (rest : List ℕ) → chain t k ≡ chain t x ++ rest → family t k ≡ family t x
  of_base x k rest e =
      let end = chain_end t (table_of t keeps) x in
      ap (λ ids. first_or (map id_of ids) (id_of k)) (e ∙ ap (λ ids. ids ++ rest) end.1) ∙ head_is end.0 rest x (id_of k) (id_of x) ∙ ap (λ ids. first_or (map id_of ids) (id_of x)) (sym end.1)

  -- containers that overlap are of one family
  one_family : (Used : ℕ → Type 0) (x k l : ℕ) → Overlapping t Used x k l → family t k ≡ family t l
  one_family Used x k l o = of_base x k (o.one ∷ (o.to_first).0) (o.to_first).1 ∙ sym (of_base x l (o.other ∷ (o.to_second).0) (o.to_second).1)

-- ---- marks

same_or_not : (ns ms : List ℤ) → (ns ≡ ms) ⊎ (ns ≢ ms)
same_or_not [] [] = inl refl
same_or_not [] (m ∷ ms) = inr (λ e. cc)
same_or_not (n ∷ ns) [] = inr (λ e. cc)
same_or_not (n ∷ ns) (m ∷ ms) = go (int_eq n m) refl (same_or_not ns ms)
  where
    go : (b : Bool) → int_eq n m ≡ b → (ns ≡ ms) ⊎ (ns ≢ ms) → ((n ∷ ns) ≡ (m ∷ ms)) ⊎ ((n ∷ ns) ≢ (m ∷ ms))
    go true h (inl e) = let first : n ≡ m = (Decides-int_eq n m).0 h in inl cc
    go true h (inr ne) = inr (λ e. ne cc)
    go false h rest = inr (λ e. let first : n ≡ m = cc in both_ways (int_eq n m) h ((Decides-int_eq n m).1 first))

there_is : (sets : List (List PathSet)) (k : ℕ) → k < length sets → slice_get sets k ≡ Some (sets_of sets k)
there_is [] k h = absurd (omega arith)
there_is (s ∷ sets) zero h = refl
there_is (s ∷ sets) (suc k) h = there_is sets k (omega arith)

module _ (t : Table) (keeps : KeepsRules t) (Used : ℕ → Type 0) (sets : List (List PathSet)) (models : List TypeId) (all : AllSets t sets) where
  -- of one family, other numbers tell apart
  told_apart : (k l : ℕ) (ms ns : List ℤ) → k < length t → l < length t → family t k ≡ family t l → mark t sets models k ≡ Some ms → mark t sets models l ≡ Some ns → ms ≢ ns → (x : ℕ) → Overlapping t Used x k l → ⊥
  told_apart k l ms ns fewer few same e f ne =
      let ours = sets_of sets k in
      let theirs = sets_of sets l in
      let model = sets_of sets (model_of models (family t l)).0 in
      parts_apart t keeps Used k l ours theirs
      (all.each k ours (there_is sets k (let n = all.size in omega (arith, n, fewer)))) (all.each l theirs (there_is sets l (let n = all.size in omega (arith, n, few))))
      (parts_of model ours theirs ms ns (ap (λ g. marks_on (sets_of sets (model_of models g).0) ours) (sym same) ∙ e) f ne)

  -- ---- all that may overlap stand in the lists

  listed_near : (places : Places) (l : ℕ) (near others : List TypeId) → l < length t → AreListed t sets models (length t) places → MayMeet t sets models places l near others
      → (x k : ℕ) → k < length t → Overlapping t Used x k l → HasOne (λ id. id ≡ id_of k) near ⊎ HasOne (λ id. id ≡ id_of k) others
  listed_near places l near others few are meet x k fewer o = by_mark (mark t sets models l) refl meet
    where
      same : family t k ≡ family t l
      same = one_family t keeps Used x k l o

      at : (key : List ℕ) (ids : List TypeId) → ids ≡ listed places key → IsListed places key k → HasOne (λ id. id ≡ id_of k) ids
      at key ids e h = subst (HasOne (λ id. id ≡ id_of k)) (sym e) h

      by_both : (ns : List ℤ) → mark t sets models l ≡ Some ns → (near ≡ listed places (held_key (family t l) ns)) × (others ≡ listed places (free_key (family t l)))
          → (m : Option (List ℤ)) → mark t sets models k ≡ m → IsListed places (own_key (family t l) m) k → HasOne (λ id. id ≡ id_of k) near ⊎ HasOne (λ id. id ≡ id_of k) others
      by_both ns e lists None f h = inr (at (free_key (family t l)) others lists.1 h)
      by_both ns e lists (Some ms) f h =
          elim (same_or_not ms ns) [
            | inl q ↦ inl (at (held_key (family t l) ns) near lists.0 (subst (λ xs. IsListed places (held_key (family t l) xs) k) q h))
            | inr ne ↦ absurd (told_apart k l ms ns fewer few same f e ne x o)
          ]

      by_mark : (m : Option (List ℤ)) → mark t sets models l ≡ m → MayMeetBy t places l m near others → HasOne (λ id. id ≡ id_of k) near ⊎ HasOne (λ id. id ≡ id_of k) others
      by_mark None e lists = inl (at (all_key (family t l)) near lists.0 (subst (λ f. IsListed places (all_key f) k) same (are.all k fewer o.first)))
      by_mark (Some ns) e lists = by_both ns e lists (mark t sets models k) refl (subst (λ f. IsListed places (own_key f (mark t sets models k)) k) same (are.own k fewer o.first))

-- ---- what was found

module _ (t : Table) (Used : ℕ → Type 0) (l : ℕ) where
  pub met_none : (old : Option Pair) → AreMetWith t Used l [] old old
  met_none old = record { sound = λ h. h; kept = λ k h. h; met = λ k h. absurd h }

  one_either : (P : TypeId → Type 0) (xs ys : List TypeId) → HasOne P (xs ++ ys) → HasOne P xs ⊎ HasOne P ys
  one_either P [] ys h = inr h
  one_either P (x ∷ xs) ys (inl h) = inl (inl h)
  one_either P (x ∷ xs) ys (inr h) = elim (one_either P xs ys h) [ inl k ↦ inl (inr k) | inr k ↦ inr k ]

  met_both : (xs ys : List TypeId) (old mid new : Option Pair) → AreMetWith t Used l xs old mid → AreMetWith t Used l ys mid new → AreMetWith t Used l (xs ++ ys) old new
  met_both xs ys old mid new a b = record {
    sound = λ h. b.sound (a.sound h);
    kept = λ k h. b.kept k (a.kept k h);
    met = λ k h less x o. elim (one_either (λ id. id ≡ id_of k) xs ys h) [ inl m ↦ b.kept k (a.met k m less x o) | inr m ↦ b.met k m less x o ];
  }

  -- one type more
  pub met_next : (ids : List TypeId) (i : ℕ) (d : TypeId) (old mid new : Option Pair) → i < length ids → AreMetWith t Used l (take i ids) old mid → AreMetWith t Used l (get_or ids i d ∷ []) mid new → AreMetWith t Used l (take (i + 1) ids) old new
  met_next ids i d old mid new few h a = subst (λ xs. AreMetWith t Used l xs old new) (sym (take_more ids i d few)) (met_both (take i ids) (get_or ids i d ∷ []) old mid new h a)

  pub met_end : (ids : List TypeId) (i : ℕ) (old new : Option Pair) → length ids ≤ i → AreMetWith t Used l (take i ids) old new → AreMetWith t Used l ids old new
  met_end ids i old new few h = subst (λ xs. AreMetWith t Used l xs old new) (take_all i ids few) h

  same_id : (first : TypeId) (k : ℕ) → HasOne (λ id. id ≡ id_of k) (first ∷ []) → first.0 ≡ k
  same_id first k (inl h) = ap (λ (i : TypeId). i.0) h
  same_id first k (inr h) = absurd h

  -- it doesn't come before l, or what was found comes before it
  pub met_late : (first : TypeId) (best : Option Pair) → l ≤ first.0 → AreMetWith t Used l (first ∷ []) best best
  met_late first best late = record { sound = λ h. h; kept = λ k h. h; met = λ k h less x o. absurd (let e = same_id first k h in omega (arith, e, late, less)) }

  pub met_reached : (first : TypeId) (best : Option Pair) → IsReached best first.0 → AreMetWith t Used l (first ∷ []) best best
  met_reached first best r = record { sound = λ h. h; kept = λ k h. h; met = λ k h less x o. subst (IsReached best) (same_id first k h) r }

  pub met_apart : (first : TypeId) (best : Option Pair) → ((x : ℕ) → Overlapping t Used x first.0 l → ⊥) → AreMetWith t Used l (first ∷ []) best best
  met_apart first best apart = record { sound = λ h. h; kept = λ k h. h; met = λ k h less x o. absurd (apart x (subst (λ i. Overlapping t Used x i l) (sym (same_id first k h)) o)) }

  pub met_found : (p : Pair) (best : Option Pair) → p.second ≡ id_of l → p.first.0 < l → Overlapping t Used p.ancestor.0 p.first.0 l → ((k : ℕ) → IsReached best k → p.first.0 ≤ k) → AreMetWith t Used l (p.first ∷ []) best (Some p)
  met_found p best at less o later = record { sound = λ h. (at, less, o); kept = later; met = λ k h before x over. let e = same_id p.first k h in omega (arith, e) }

  -- the first of all that overlap with l
  first_found : (near others : List TypeId) (mid best : Option Pair) → ((x k : ℕ) → k < l → Overlapping t Used x k l → HasOne (λ id. id ≡ id_of k) near ⊎ HasOne (λ id. id ≡ id_of k) others)
      → AreMetWith t Used l near None mid → AreMetWith t Used l others mid best → OverlapsWith t Used l best × ((x k : ℕ) → k < l → Overlapping t Used x k l → IsReached best k)
  first_found near others mid best in_lists a b = (b.sound (a.sound tt), λ x k less o. elim (in_lists x k less o) [ inl h ↦ b.kept k (a.met k h less x o) | inr h ↦ b.met k h less x o ])

  pub first_some : (best : Option Pair) (second : TypeId) → second.0 ≡ l → OverlapsWith t Used l best → ((x k : ℕ) → k < l → Overlapping t Used x k l → IsReached best k) → IfSome best (λ p. (p.second ≡ second) × IsFirstWith t Used p.ancestor.0 p.first.0 second.0)
  first_some None second is sound reached = tt
  first_some (Some p) second is sound reached = (
    sound.0 ∙ ap id_of (sym is),
    subst (IsFirstWith t Used p.ancestor.0 p.first.0) (sym is) (record {
      overlapping = sound.2;
      in_order = sound.1;
      least = λ y i less o. let below = sound.1 in let r = reached y i (omega (arith, below, less)) o in absurd (omega (arith, r, less));
    }),
  )

  pub first_none : (best : Option Pair) → ((x k : ℕ) → k < l → Overlapping t Used x k l → IsReached best k) → IfNone best ((x k : ℕ) → k < l → Overlapping t Used x k l → ⊥)
  first_none None reached = reached
  first_none (Some p) reached = tt

-- what was found of all lists is the first that overlaps with l
pub all_found : (t : Table) (keeps : KeepsRules t) (used : List TypeId) (sets : List (List PathSet)) (models : List TypeId) (places : Places) (l : ℕ) (near others : List TypeId) (mid best : Option Pair) → AllSets t sets → AreListed t sets models (length t) places → l < length t
    → MayMeet t sets models places l near others → AreMetWith t (Named used) l near None mid → AreMetWith t (Named used) l others mid best
    → OverlapsWith t (Named used) l best × ((x k : ℕ) → k < l → Overlapping t (Named used) x k l → IsReached best k)
all_found t keeps used sets models places l near others mid best all are few meet a b =
    first_found t (Named used) l near others mid best (λ x k less o. listed_near t keeps (Named used) sets models all places l near others few are meet x k (omega (arith, less, few)) o) a b

-- ---- what an answer says, where it is known

pub at_none : {A : Type 0} (P : Type 0) (o : Option A) → IfNone o P → o ≡ None → P
at_none P None h e = h
at_none P (Some x) h e = absurd cc

pub at_some : {A : Type 0} (P : A → Type 0) (o : Option A) (x : A) → IfSome o P → o ≡ Some x → P x
at_some P None x h e = absurd cc
at_some P (Some y) x h e = let same : y ≡ x = cc in subst P same h

pub where_none : {A : Type 0} (P : Type 0) (o : Option A) → is_some o ≡ false → IfNone o P → P
where_none P None e h = h
where_none P (Some x) e h = absurd cc

-- the first that overlaps with l is in the first pair, where none before l overlaps
pub first_of_pair : (t : Table) (Used : ℕ → Type 0) (l : ℕ) (o : Option Pair) → ((x i j : ℕ) → i < j → j < l → Overlapping t Used x i j → ⊥) → IfSome o (λ p. (p.second ≡ id_of l) × IsFirstWith t Used p.ancestor.0 p.first.0 l)
    → IfSome o (λ p. IsFirstPair t Used p.ancestor.0 p.first.0 p.second.0)
first_of_pair t Used l None before h = tt
first_of_pair t Used l (Some p) before h = subst (λ (y : TypeId). IsFirstPair t Used p.ancestor.0 p.first.0 y.0) (sym h.0) (first_is_first t Used p.ancestor.0 p.first.0 l h.1 before)

-- ---- a type more in the lists

module _ (t : Table) (sets : List (List PathSet)) (models : List TypeId) where
  abbrev Noted : Places → Places → List ℕ → TypeId → Type 0
  Noted old new key id = (q : List ℕ) → listed new q ≡ cond (bytes_eq q key) (listed old q ++ id ∷ []) (listed old q)

  in_front : (P : TypeId → Type 0) (xs ys : List TypeId) → HasOne P xs → HasOne P (xs ++ ys)
  in_front P [] ys h = absurd h
  in_front P (x ∷ xs) ys (inl h) = inl h
  in_front P (x ∷ xs) ys (inr h) = inr (in_front P xs ys h)

  at_end : (xs : List TypeId) (k : ℕ) → HasOne (λ i. i ≡ id_of k) (xs ++ id_of k ∷ [])
  at_end [] k = inl refl
  at_end (x ∷ xs) k = inr (at_end xs k)

  kept_listed : (old new : Places) (key : List ℕ) (id : TypeId) → Noted old new key id → (q : List ℕ) (k : ℕ) → IsListed old q k → IsListed new q k
  kept_listed old new key id n q k h = subst (HasOne (λ i. i ≡ id_of k)) (sym (n q)) (go (bytes_eq q key))
    where
      go : (b : Bool) → HasOne (λ i. i ≡ id_of k) (cond b (listed old q ++ id ∷ []) (listed old q))
      go true = in_front (λ i. i ≡ id_of k) (listed old q) (id ∷ []) h
      go false = h

  now_listed : (old new : Places) (key : List ℕ) (k : ℕ) → Noted old new key (id_of k) → IsListed new key k
  now_listed old new key k n = subst (HasOne (λ i. i ≡ id_of k)) (sym (n key ∙ ap (λ b. cond b (listed old key ++ id_of k ∷ []) (listed old key)) ((bytes_eq-Decides key key).1 refl))) (at_end (listed old key) k)

  pub listed_skip : (n : ℕ) (old : Places) → is_concrete t n ≡ false → AreListed t sets models n old → AreListed t sets models (n + 1) old
  listed_skip n old off a = record { all = λ k h c. a.all k (below k h c) c; own = λ k h c. a.own k (below k h c) c }
    where
      below : (k : ℕ) → k < n + 1 → IsTrue (is_concrete t k) → k < n
      below k h c = elim (cases_lt k n) [ inl m ↦ m | inr m ↦ let e : k ≡ n = omega (arith, h, m) in absurd (both_ways (is_concrete t n) off (subst (λ i. is_concrete t i ≡ true) e c)) ]

  pub listed_more : (n : ℕ) (old mid new : Places) (first second : List ℕ) → first ≡ all_key (family t n) → second ≡ own_key (family t n) (mark t sets models n) → Noted old mid first (id_of n) → Noted mid new second (id_of n)
      → AreListed t sets models n old → AreListed t sets models (n + 1) new
  listed_more n old mid new first second e f one two a = record {
    all = λ k h c. elim (cases_lt k n) [
      | inl m ↦ stays k (all_key (family t k)) (a.all k m c)
      | inr m ↦ let s : n ≡ k = omega (arith, h, m) in subst (λ i. IsListed new (all_key (family t i)) i) s (subst (λ key. IsListed new key n) e (kept_listed mid new second (id_of n) two first n (now_listed old mid first n one)))
    ];
    own = λ k h c. elim (cases_lt k n) [
      | inl m ↦ stays k (own_key (family t k) (mark t sets models k)) (a.own k m c)
      | inr m ↦ let s : n ≡ k = omega (arith, h, m) in subst (λ i. IsListed new (own_key (family t i) (mark t sets models i)) i) s (subst (λ key. IsListed new key n) f (now_listed mid new second n two))
    ];
  }
    where
      stays : (k : ℕ) (key : List ℕ) → IsListed old key k → IsListed new key k
      stays k key h = kept_listed mid new second (id_of n) two key k (kept_listed old mid first (id_of n) one key k h)

  pub none_listed : (places : Places) → AreListed t sets models 0 places
  none_listed places = record { all = λ k h c. absurd (omega arith); own = λ k h c. absurd (omega arith) }
