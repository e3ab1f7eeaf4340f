-- Where no interface that is met is its own base, all ways up end.
use Rattle.std.proofs.Common.{◌≡◌, ℕ, zero, suc, ◌+◌, ◌≤◌, ◌&&◌, ◌||◌, ◌++◌, length, Bool, true, false, List, [], ◌∷◌, None, refl, sym, ap, ◌∙◌, arith}
use Rattle.std.specs.Prelude.{nat_lt}
use Rattle.std.specs.List.{list_any, list_all, range_with_len}
use Rattle.eds_base.specs.declared.ids.Place.{Place}
use Rattle.eds_base.specs.Refusals.{least}
use Rattle.eds_graph.specs.Ways.{children, reaches_circle, is_circle_met, is_met, is_on_circle, has_way, tall, largest, larger}
use Rattle.eds_graph.proofs.Depth.{ways-end}
use Rattle.eds_generic.specs.declared.face.Base.{Base}
use Rattle.eds_generic.specs.declared.face.Face.{Face}
use Rattle.eds_generic.specs.Faces.{bases}
use Rattle.eds_generic.specs.Pairs.{ends_within, most}
use Rattle.eds_generic.specs.Every.{over_from, own_cycle_at, own_cycles}
use Rattle.eds_generic.specs.Cycles.{base_numbers, graph_of, is_own_base, cycle_if, cycle_at, cycles_from, breaks_cycle}
use Rattle.eds_generic.proofs.NameBreaks.{least-none}
use Rattle.eds_generic.proofs.Once.{and-both}
use Rattle.eds_generic.proofs.Cycling.{graph-length}

-- ---- how long ways are

larger-most : (m a b : ℕ) → a ≤ m → b ≤ m → larger a b ≤ m
larger-most m a b h k = go (nat_lt a b) refl
  where
    go : (t : Bool) → nat_lt a b ≡ t → larger a b ≤ m
    go true e = rw e k
    go false e = rw e h

largest-most : (m : ℕ) (f : ℕ → ℕ) → ((a : ℕ) → f a ≤ m) → (cs : List ℕ) → largest f cs ≤ m
largest-most m f h [] = omega arith
largest-most m f h (c ∷ cs) = larger-most m (f c) (largest f cs) (h c) (largest-most m f h cs)

tall-most : (n : ℕ) (g : List (List ℕ)) (a : ℕ) → tall n g a ≤ n
unfolding tall
tall-most zero g a = omega arith
tall-most (suc n) g a = let rest = largest-most n (tall n g) (λ c. tall-most n g c) (children g a) in omega arith

-- ---- ways end where no way is so long

bases-children : (faces : List Face) (f : ℕ) → children (graph_of faces) f ≡ base_numbers (bases faces f)
bases-children [] f = refl
bases-children (x ∷ xs) zero = refl
bases-children (x ∷ xs) (suc f) = bases-children xs f

neither : (a b : Bool) → (a || b) ≡ false → (a ≡ false) × (b ≡ false)
neither true b e = cc
neither false b e = (refl, e)

all-end : (way ends : ℕ → Bool) → ((g : ℕ) → way g ≡ false → ends g ≡ true) → (bs : List Base) → list_any way (base_numbers bs) ≡ false → list_all (λ (b : Base). ends b.face.0) bs ≡ true
all-end way ends h [] e = refl
all-end way ends h (b ∷ bs) e =
    let both = neither (way b.face.0) (list_any way (base_numbers bs)) e in
    and-both (ends b.face.0) (list_all (λ (b : Base). ends b.face.0) bs) (h b.face.0 both.0) (all-end way ends h bs both.1)

ends-no_way : (n : ℕ) (faces : List Face) (f : ℕ) → has_way n (graph_of faces) f ≡ false → ends_within n faces f ≡ true
unfolding has_way ends_within
ends-no_way zero faces f e = cc
ends-no_way (suc n) faces f e = all-end (has_way n (graph_of faces)) (ends_within n faces) (λ g h. ends-no_way n faces g h) (bases faces f) (ap (list_any (has_way n (graph_of faces))) (sym (bases-children faces f)) ∙ e)

ends-no_circle : (faces : List Face) (f : ℕ) → reaches_circle (graph_of faces) f ≡ false → ends_within (most faces) faces f ≡ true
ends-no_circle faces f e =
    let long = graph-length faces in
    let high = tall-most (suc (suc (length (graph_of faces)))) (graph_of faces) f in
    ends-no_way (most faces) faces f (ways-end (graph_of faces) f (most faces) e (omega arith))

-- ---- no break

append-none : {A : Type 0} (xs ys : List A) → xs ++ ys ≡ [] → (xs ≡ []) × (ys ≡ [])
append-none [] ys h = (refl, h)
append-none (x ∷ xs) ys h = cc

where-none : (b : Bool) (at : Place) → cycle_if b at ≡ [] → b ≡ false
where-none false at e = refl
where-none true at e = cc

cycles-none : (faces : List Face) (f g : ℕ) (xs : List Face) → cycles_from faces f g xs ≡ [] → list_any (is_circle_met (graph_of faces) f) (range_with_len g (length xs)) ≡ false
cycles-none faces f g [] e = refl
cycles-none faces f g (x ∷ xs) e =
    let both = append-none (cycle_at faces f g x.place) (cycles_from faces f (g + 1) xs) e in
    rw (where-none (is_circle_met (graph_of faces) f g) x.place both.0) (cycles-none faces f (g + 1) xs both.1)

pub no_cycle-ends : (faces : List Face) (f : ℕ) → least (breaks_cycle faces f) ≡ None → ends_within (most faces) faces f ≡ true
no_cycle-ends faces f e =
    ends-no_circle faces f (ap (λ n. list_any (is_circle_met (graph_of faces) f) (range_with_len 0 n)) (graph-length faces) ∙ cycles-none faces f 0 faces (least-none (breaks_cycle faces f) e))

and-no : (a b : Bool) → b ≡ false → (a && b) ≡ false
and-no true b e = e
and-no false b e = refl

own-none : (faces : List Face) (f g : ℕ) (xs : List Face) → over_from (own_cycle_at faces) g xs ≡ [] → list_any (is_circle_met (graph_of faces) f) (range_with_len g (length xs)) ≡ false
own-none faces f g [] e = refl
own-none faces f g (x ∷ xs) e =
    let both = append-none (own_cycle_at faces g x) (over_from (own_cycle_at faces) (g + 1) xs) e in
    rw (and-no (is_met (graph_of faces) f g) (is_on_circle (graph_of faces) g) (where-none (is_own_base faces g) x.place both.0)) (own-none faces f (g + 1) xs both.1)

pub no_own-ends : (faces : List Face) → least (own_cycles faces) ≡ None → (f : ℕ) → ends_within (most faces) faces f ≡ true
no_own-ends faces e f =
    ends-no_circle faces f (ap (λ n. list_any (is_circle_met (graph_of faces) f) (range_with_len 0 n)) (graph-length faces) ∙ own-none faces f 0 faces (least-none (own_cycles faces) e))
