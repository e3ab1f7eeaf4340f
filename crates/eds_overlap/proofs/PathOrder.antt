-- The order of paths, in which sets are found.
use Rattle.std.proofs.Common.{◌≡◌, ℕ, zero, ◌+◌, suc, ◌<◌, ◌≤◌, Bool, true, false, List, [], ◌∷◌, ◌++◌, length, map, get_or, take, Some, None, refl, sym, ap, subst, ◌∙◌, arith, Bor, leb, leb-true, leb-false}
use Rattle.std.proofs.lemmas.Bool.Decides.{nat_tests}
use Rattle.std.specs.Cmp.{IsTotalOrder}
use Rattle.std.specs.declared.cmp.Ordering.{Ordering}
use Rattle.std.specs.declared.cmp.Ordering.TheVariants.{Less, Equal, Greater}
use Rattle.std.specs.List.{AllByRecursion}
use Rattle.std.specs.List.Sorted.{IsSortedBy, IsNonDecreasingBy, IsPartitionPoint}
use Rattle.std.specs.Ordering.{is_eq, is_lt, ordering_index, ordering_reverse}
use Rattle.std.proofs.lemmas.Cmp.{tied_itself, nat_cmp_total, on_total, then_total, same_from_slice_cmp}
use Rattle.std.proofs.lemmas.List.Sorted.{searchable_from_sorted, sorted_far, ranks_by}
use Rattle.std.specs.Cmp.Lexicographic.{lists_total}
use Rattle.eds_base.specs.declared.ids.TypeId.{TypeId}
use Rattle.eds_types.specs.declared.row.Constraint.{Constraint}
use Rattle.eds_types.specs.declared.sets.PathSet.{PathSet}
use Rattle.eds_types.proofs.AllOf.{All-both}
use Rattle.eds_overlap.proofs.Solutions.{same_is}
use Rattle.eds_overlap.specs.Pairs.{Steps, AreRising, AreByPath, IsBehind, same_path, set_on, step_cmp, path_cmp}

step_total : IsTotalOrder step_cmp
step_total = then_total (on_total (λ (p : TypeId × ℕ). (p.0).0) nat_cmp_total) (on_total (λ (p : TypeId × ℕ). p.1) nat_cmp_total)

pub path_total : IsTotalOrder path_cmp
path_total = lists_total step_total

-- paths that stand at one place of the order are one
pub path_equal : (p q : Steps) → is_eq (path_cmp p q) ≡ same_path p q
path_equal p q = same_from_slice_cmp step_cmp is_eq same_path refl (λ _ _. refl) (λ _ _. refl) (λ x y xs ys o h. grind (arith, nat_tests)) p q (path_cmp p q) refl

pub not_less_itself : (p : Steps) → path_cmp p p ≡ Less → ⊥
not_less_itself p h = let e = sym h ∙ tied_itself path_total p in absurd cc

-- ---- sets in order

-- the set of a path among rising ones
pub on_at : (sets : List PathSet) (at : ℕ) (d : PathSet) (path : Steps) → AreRising (map (λ (r : PathSet). r.path) sets) → at < length sets → (get_or sets at d).path ≡ path → set_on sets path ≡ Some (get_or sets at d).set
on_at [] at d path up l e = absurd (omega arith)
on_at (s ∷ sets) zero d path up l e = rw (sym (path_equal s.path path) ∙ ap is_eq (ap (path_cmp s.path) (sym e) ∙ tied_itself path_total s.path)) refl
on_at (s ∷ sets) (suc at) d path up l e =
    let less : path_cmp s.path path ≡ Less = ap (path_cmp s.path) (sym e) ∙ later sets at d up.0 (omega arith) in
    rw (sym (path_equal s.path path) ∙ ap is_eq less) (on_at sets at d path up.1 (omega arith) e)
  where
    later : (some : List PathSet) (i : ℕ) (d : PathSet) → AllByRecursion (λ q. path_cmp s.path q ≡ Less) (map (λ (r : PathSet). r.path) some) → i < length some → path_cmp s.path (get_or some i d).path ≡ Less
    later [] i d a l = absurd (omega arith)
    later (r ∷ some) zero d a l = a.0
    later (r ∷ some) (suc i) d a l = later some i d a.1 (omega arith)

-- none where none is on it
pub on_nowhere : (sets : List PathSet) (path : Steps) → ((k : ℕ) (d : PathSet) → k < length sets → is_eq (path_cmp (get_or sets k d).path path) ≡ false) → set_on sets path ≡ None
on_nowhere [] path h = refl
on_nowhere (s ∷ sets) path h = rw (sym (path_equal s.path path) ∙ h 0 s (omega arith)) (on_nowhere sets path (λ k d l. h (suc k) d (omega arith)))

reversed : (p q : Steps) → path_cmp p q ≡ Less → is_lt (path_cmp q p) ≡ false
reversed p q h = ap is_lt (path_total.antisymm q p ∙ ap ordering_reverse h)

sorted_sets : (sets : List PathSet) → AreRising (map (λ (r : PathSet). r.path) sets) → IsSortedBy (λ (r s : PathSet). is_lt (path_cmp r.path s.path)) sets
sorted_sets [] up k d z l = absurd (omega arith)
sorted_sets (s ∷ []) up k d z l = absurd (omega arith)
sorted_sets (s ∷ r ∷ sets) up zero d z l = reversed s.path r.path (up.0).0
sorted_sets (s ∷ r ∷ sets) up (suc k) d z l = let e : suc k + 1 ≡ suc (k + 1) = omega arith in rw e (sorted_sets (r ∷ sets) up.1 k d (omega arith) (omega arith))

-- rising sets can be searched by halves
pub searchable : (sets : List PathSet) (path : Steps) → AreRising (map (λ (r : PathSet). r.path) sets) → IsNonDecreasingBy (λ (s : PathSet). ordering_index (path_cmp s.path path)) sets
searchable sets path up = searchable_from_sorted path_total (λ (s : PathSet). s.path) sets path (sorted_sets sets up)

-- what a search by halves finds
pub found_at : (sets : List PathSet) (at : ℕ) (path : Steps) (x : PathSet) → AreRising (map (λ (r : PathSet). r.path) sets) → at < length sets → ((d : PathSet) → path_cmp (get_or sets at d).path path ≡ Equal) → x ≡ get_or sets at x → Some x.set ≡ set_on sets path
found_at sets at path x up l e is = ap (λ (s : PathSet). Some s.set) is ∙ sym (on_at sets at x path up l (same_is (get_or sets at x).path path (sym (path_equal (get_or sets at x).path path) ∙ ap is_eq (e x))))

-- and what it doesn't find
pub found_nowhere : (sets : List PathSet) (at : ℕ) (path : Steps) → IsPartitionPoint (λ (s : PathSet). path_cmp s.path path ≡ Less) (λ (s : PathSet). path_cmp s.path path ≡ Greater) sets at → None ≡ set_on sets path
found_nowhere sets at path h = sym (on_nowhere sets path (λ k d l. go k d l (leb at k) refl))
  where
    go : (k : ℕ) (d : PathSet) → k < length sets → (b : Bool) → leb at k ≡ b → is_eq (path_cmp (get_or sets k d).path path) ≡ false
    go k d l true e = ap is_eq (h.1 k d (omega (arith, leb-true at k e)) l)
    go k d l false e = ap is_eq (h.0 k d (omega arith) (omega (arith, leb-false at k e)))

-- ---- paths in order

-- of two paths that differ the one that isn't behind is before
pub before : (p q : Steps) → is_lt (path_cmp q p) ≡ false → (p ≡ q → ⊥) → path_cmp p q ≡ Less
before p q h ne = go (path_cmp p q) refl
  where
    go : (o : Ordering) → path_cmp p q ≡ o → path_cmp p q ≡ Less
    go Less e = e
    go Equal e = absurd (ne (same_is p q (sym (path_equal p q) ∙ ap is_eq e)))
    go Greater e = let less = sym h ∙ ap is_lt (path_total.antisymm q p ∙ ap ordering_reverse e) in absurd cc

-- one more path behind all others
pub rising_more : (ps : List Steps) (q : Steps) → AreRising ps → AllByRecursion (λ p. path_cmp p q ≡ Less) ps → AreRising (ps ++ q ∷ [])
rising_more [] q up less = (tt, tt)
rising_more (p ∷ ps) q up less = (All-both (λ r. path_cmp p r ≡ Less) ps (q ∷ []) up.0 (less.0, tt), rising_more ps q up.1 less.1)

-- ---- constraints in order

-- a constraint is behind those ahead of it
pub behind_at : (cs : List Constraint) (i : ℕ) (c : Constraint) → AreByPath cs → i < length cs → c ≡ get_or cs i c → IsBehind (take i cs) c
behind_at [] i c up l e = absurd (omega arith)
behind_at (x ∷ cs) zero c up l e = tt
behind_at (x ∷ cs) (suc i) c up l e = (subst (λ d. is_lt (path_cmp d.path x.path) ≡ false) (sym e) (at cs i up.0 (omega arith)), behind_at cs i c up.1 (omega arith) e)
  where
    at : (some : List Constraint) (k : ℕ) → AllByRecursion (λ (d : Constraint). is_lt (path_cmp d.path x.path) ≡ false) some → k < length some → is_lt (path_cmp (get_or some k c).path x.path) ≡ false
    at [] k a l = absurd (omega arith)
    at (y ∷ some) zero a l = a.0
    at (y ∷ some) (suc k) a l = at some k a.1 (omega arith)

pub in_order : (xs : List (Bor Constraint)) → IsSortedBy (λ (a b : Bor Constraint). is_lt (path_cmp a.now.path b.now.path)) xs → AreByPath (map (λ (c : Bor Constraint). c.now) xs)
in_order xs up = go xs (sorted_far (λ (a b : Bor Constraint). is_lt (path_cmp a.now.path b.now.path)) (ranks_by path_total (λ (a : Bor Constraint). a.now.path)) xs up)
  where
    all : (x : Bor Constraint) (ys : List (Bor Constraint)) → ((k : ℕ) (d : Bor Constraint) → k < length ys → is_lt (path_cmp (get_or ys k d).now.path x.now.path) ≡ false) → AllByRecursion (λ (d : Constraint). is_lt (path_cmp d.path x.now.path) ≡ false) (map (λ (c : Bor Constraint). c.now) ys)
    all x [] h = tt
    all x (y ∷ ys) h = (h 0 y (omega arith), all x ys (λ k d l. h (suc k) d (omega arith)))

    go : (ys : List (Bor Constraint)) → ((i j : ℕ) (d : Bor Constraint) → i ≤ j → j < length ys → is_lt (path_cmp (get_or ys j d).now.path (get_or ys i d).now.path) ≡ false) → AreByPath (map (λ (c : Bor Constraint). c.now) ys)
    go [] h = tt
    go (y ∷ ys) h = (all y ys (λ k d l. h 0 (suc k) d (omega arith) (omega arith)), go ys (λ i j d a b. h (suc i) (suc j) d (omega arith) (omega arith)))
