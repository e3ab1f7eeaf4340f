-- The text of layouts, made while it isn't too long.
use Rattle.std.proofs.Common.{◌≡◌, ℕ, ◌+◌, ◌<◌, ◌≤◌, true, false, List, [], ◌∷◌, ◌++◌, length, map, take, get_or, Option, refl, sym, ap, subst, ◌∙◌, arith, append-nil, append_assoc, ◌⊎◌, inl, inr}
use Rattle.std.specs.Prelude.{is_some}
use Rattle.std.specs.List.{AllByRecursion, flat_map}
use Rattle.eds_base.specs.Spans.{Rises}
use Rattle.eds_types.specs.declared.sets.PathSet.{PathSet}
use Rattle.eds_types.specs.Fields.{constraints_along}
use Rattle.eds_overlap.specs.Pairs.{AreSets}
use Rattle.eds_layout.specs.PartRows.{bits_of, rows_of}
use Rattle.std.proofs.lemmas.Grind.{flat_map-append}
use Rattle.std.proofs.lemmas.List.{map-append, length-append, take_more, take_all}
use Rattle.eds_base.specs.declared.ids.TypeId.{TypeId}
use Rattle.eds_types.specs.Rows.{Table, id_of, numbers_of, family, container_of}
use Rattle.eds_types.proofs.LeastSizes.{numbers_back}
use Rattle.eds_layout.specs.declared.layout.TypeLayout.{TypeLayout}
use Rattle.eds_layout.specs.Layouts.{AreContainerLayouts, IsLayoutBy, plain_layout}
use Rattle.eds_layout.specs.Printed.{head_text, row_text, sets_text, layout_text, layouts_text}
use Rattle.eds_layout.specs.Reports.{IsUpTo, IsReportOf, IsReport, GoesOn, layout_with}
use Rattle.eds_layout.proofs.LayoutsMade.{one_more}

-- the text so far is that of layouts of the containers, or too long already, and they have no shorter one
pub record Front (t : Table) (ks : List ℕ) (most : ℕ) (text : List ℕ) : Type 0 where
  pub layouts : List TypeLayout
  pub are : AreContainerLayouts t ks layouts
  pub is : (text ≡ layouts_text t layouts) ⊎ ((most < length text) × (length text ≤ length (layouts_text t layouts)))

module _ (t : Table) (most : ℕ) where
  pub front_begin : (ids : List TypeId) (text : List ℕ) → text ≡ [] → Front t (numbers_of (take 0 ids)) most text
  front_begin ids text e = record { layouts = []; are = tt; is = inl e }

  one_front : (ks : List ℕ) (k : ℕ) (old new : List ℕ) → Front t ks most old → GoesOn t k most old new → Front t (ks ++ k ∷ []) most new
  one_front ks k old new f g = record { layouts = f.layouts ++ g.0 ∷ []; are = one_more t ks f.layouts k g.0 f.are g.1; is = go f.is g.2 }
    where
      whole : layouts_text t (f.layouts ++ g.0 ∷ []) ≡ layouts_text t f.layouts ++ layout_text t g.0
      whole = flat_map-append (layout_text t) f.layouts (g.0 ∷ []) ∙ ap (λ z. layouts_text t f.layouts ++ z) (append-nil (layout_text t g.0))

      longer : length (layouts_text t f.layouts) ≤ length (layouts_text t (f.layouts ++ g.0 ∷ []))
      longer = let e = ap length whole in let l = length-append (layouts_text t f.layouts) (layout_text t g.0) in omega arith

      go : ((old ≡ layouts_text t f.layouts) ⊎ ((most < length old) × (length old ≤ length (layouts_text t f.layouts)))) → (((length old ≤ most) × (new ≡ old ++ layout_text t g.0)) ⊎ ((most < length old) × (new ≡ old)))
          → (new ≡ layouts_text t (f.layouts ++ g.0 ∷ [])) ⊎ ((most < length new) × (length new ≤ length (layouts_text t (f.layouts ++ g.0 ∷ []))))
      go (inl e) (inl h) = inl (h.1 ∙ ap (λ z. z ++ layout_text t g.0) e ∙ sym whole)
      go (inl e) (inr h) = let n = ap length h.1 in let m = ap length e in let lt = h.0 in inr (omega arith, omega (arith, longer))
      go (inr k) (inl h) = let a = k.0 in let b = h.0 in absurd (omega arith)
      go (inr k) (inr h) = let n = ap length h.1 in let a = k.0 in let b = k.1 in inr (omega arith, omega (arith, longer))

  pub front_more : (ids : List TypeId) (i : ℕ) (old new : List ℕ) → i < length ids → Front t (numbers_of (take i ids)) most old → GoesOn t (get_or ids i (id_of 0)).0 most old new → Front t (numbers_of (take (i + 1) ids)) most new
  front_more ids i old new lt f g =
      let more : numbers_of (take (i + 1) ids) ≡ numbers_of (take i ids) ++ (get_or ids i (id_of 0)).0 ∷ [] = ap numbers_of (take_more ids i (id_of 0) lt) ∙ map-append (λ (id : TypeId). id.0) (take i ids) (get_or ids i (id_of 0) ∷ []) in
      subst (λ ks. Front t ks most new) (sym more) (one_front (numbers_of (take i ids)) (get_or ids i (id_of 0)).0 old new f g)

  front_all : (ids : List TypeId) (i : ℕ) (text : List ℕ) → length ids ≤ i → Front t (numbers_of (take i ids)) most text → Front t (numbers_of ids) most text
  front_all ids i text le f = subst (λ l. Front t (numbers_of l) most text) (take_all i ids le) f

  pub front_end : (ids : List TypeId) (i : ℕ) (text : List ℕ) → length ids ≤ i → Front t (numbers_of (take i ids)) most text → IsReportOf t (numbers_of ids) most text
  front_end ids i text end f = let g = front_all ids i text end f in (g.layouts, g.are, go g.layouts g.is)
    where
      go : (ls : List TypeLayout) → ((text ≡ layouts_text t ls) ⊎ ((most < length text) × (length text ≤ length (layouts_text t ls)))) → IsUpTo most (layouts_text t ls) text
      go ls (inl e) = inl e
      go ls (inr k) = let a = k.0 in let b = k.1 in inr (omega arith, a)

  -- of a family
  pub report_of : (id : ℕ) (ids : List TypeId) (report : List ℕ) → ids ≡ map id_of (family t id) → is_some (container_of t id) ≡ true → IsReportOf t (numbers_of ids) most report → IsReport t id most report
  report_of id ids report e some h = (h.0, subst (λ b. IsLayoutBy t b id h.0) (sym some) (subst (λ ks. AreContainerLayouts t ks h.0) (ap numbers_of e ∙ numbers_back (family t id)) h.1), h.2)

  pub plain_report : (id : ℕ) (report : List ℕ) → is_some (container_of t id) ≡ false → report ≡ layouts_text t (plain_layout t id ∷ []) → IsReport t id most report
  plain_report id report none h = (plain_layout t id ∷ [], subst (λ b. IsLayoutBy t b id (plain_layout t id ∷ [])) (sym none) refl, inl h)

-- what the sets of a container make of a text
pub goes_on : (t : Table) (k most : ℕ) (old new : List ℕ) (some sets : List PathSet) → AreSets t (constraints_along t k) sets → some ≡ sets → AllByRecursion (λ (s : PathSet). Rises s.set) some
    → (((length old ≤ most) × (new ≡ old ++ layout_text t (layout_with t k sets))) ⊎ ((most < length old) × (new ≡ old))) → GoesOn t k most old new
goes_on t k most old new some sets are e rise h = (layout_with t k sets, record { id = refl; bits = refl; rows = refl; sets = are; rise = subst (AllByRecursion (λ (s : PathSet). Rises s.set)) e rise }, h)

-- head, parts and sets behind a text
pub with_sets : (t : Table) (k : ℕ) (old head one two new : List ℕ) (bits : Option ℕ) (sets : List PathSet) → head ≡ head_text t (id_of k) bits → bits ≡ bits_of t k → one ≡ old ++ head → two ≡ one ++ flat_map (row_text t) (rows_of t k) → new ≡ two ++ sets_text t sets → new ≡ old ++ layout_text t (layout_with t k sets)
with_sets t k old head one two new bits sets h b e f g =
    let top : head ≡ head_text t (id_of k) (bits_of t k) = h ∙ ap (head_text t (id_of k)) b in
    g ∙ ap (λ z. z ++ sets_text t sets) (f ∙ ap (λ z. z ++ flat_map (row_text t) (rows_of t k)) (e ∙ ap (λ z. old ++ z) top))
    ∙ ap (λ z. z ++ sets_text t sets) (append_assoc old (head_text t (id_of k) (bits_of t k)) (flat_map (row_text t) (rows_of t k))) ∙ append_assoc old (head_text t (id_of k) (bits_of t k) ++ flat_map (row_text t) (rows_of t k)) (sets_text t sets)
