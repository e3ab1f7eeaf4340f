-- Sizes of arrays, lists and containers by their values.
use Rattle.std.proofs.Common.{◌≡◌, ℕ, ◌+◌, ◌<◌, Bool, true, false, cond, List, [], ◌∷◌, ◌==◌, length, map, drop, get_or, Option, Some, Ok, Err, sym, ap, subst, ◌∙◌, arith}
use Rattle.std.proofs.lemmas.Bool.{eq-eqb, eqb-true, false_from_ne_true}
use Rattle.std.proofs.lemmas.List.{drop_more}
use Rattle.eds_base.specs.declared.fault.Step.{Step}
use Rattle.eds_base.specs.declared.fault.Step.TheVariants as step
use Rattle.eds_types.specs.declared.reason.PackReason.{PackReason}
use Rattle.eds_types.specs.declared.reason.PackReason.TheVariants as reason
use Rattle.eds_types.specs.declared.row.Part.{Part}
use Rattle.eds_types.specs.Failing.{entry}
use Rattle.std.specs.Prelude.{slice_get, IsTrue}
use Rattle.eds_types.specs.declared.value.Value.{Value}
use Rattle.eds_types.specs.Fields.{Field, has_value, value_at}
use Rattle.eds_types.specs.Packing.{pack_fault_at, pack_fault_here}
use Rattle.eds_types.specs.PackedSizes.{Size, array_size, items_size, list_size, tells, packed_part_size, stations_size}
use Rattle.eds_types.specs.Plain.{Plain, items, plain, plains_of}
use Rattle.eds_types.specs.Rows.{Table, Placed, id_of, placed_from}
use Rattle.eds_pack.specs.Counting.{added, found}
use Rattle.eds_pack.proofs.Counts.{Counted, entry_next, entry_stops}
use Rattle.eds_pack.specs.Seeking.{AreNext, values_in}
use Rattle.eds_types.proofs.SameValues.{list_of-plains_of}

module _ (size : Plain → Size) (n : ℕ) (v : Plain) (vs : List Plain) (is : v ≡ items (plains_of vs)) where
  pub array_is : length vs ≡ n → array_size size n v ≡ items_size size 0 0 vs
  array_is e =
      ap (array_size size n) is ∙ ap (λ ws. cond (length ws == n) (items_size size 0 0 ws) (Err (pack_fault_here reason.WrongSize))) (list_of-plains_of vs)
      ∙ ap (λ b. cond b (items_size size 0 0 vs) (Err (pack_fault_here reason.WrongSize))) (eq-eqb (length vs) n e)

  pub array_wrong : (total : ℕ) (path : List Step) → (length vs ≡ n → ⊥) → path ≡ [] → ◌≡◌ {A = Counted} (Err (pack_fault_at reason.WrongSize path)) (added total (array_size size n v))
  array_wrong total path ne root =
      ap (λ (p : List Step). Err (pack_fault_at reason.WrongSize p)) root
      ∙ sym (ap (added total) (ap (array_size size n) is ∙ ap (λ ws. cond (length ws == n) (items_size size 0 0 ws) (Err (pack_fault_here reason.WrongSize))) (list_of-plains_of vs)
      ∙ ap (λ b. cond b (items_size size 0 0 vs) (Err (pack_fault_here reason.WrongSize))) (false_from_ne_true (length vs == n) (λ e. ne (eqb-true (length vs) n e)))))

module _ (t : Table) (size : ℕ → Plain → Size) (fs : List Field) (item : ℕ) (told : Option Plain) (v : Plain) (vs : List Plain) (is : v ≡ items (plains_of vs)) where
  list_by : (b : Bool) → tells told (length vs) ≡ b → list_size t size fs item told (Some v) ≡ cond b (items_size (size item) 0 0 vs) (Err (pack_fault_here reason.CountWrong))
  list_by b e =
      ap (λ w. list_size t size fs item told (Some w)) is
      ∙ ap (λ ws. cond (tells told (length ws)) (items_size (size item) 0 0 ws) (Err (pack_fault_here reason.CountWrong))) (list_of-plains_of vs)
      ∙ ap (λ c. cond c (items_size (size item) 0 0 vs) (Err (pack_fault_here reason.CountWrong))) e

  pub list_is : tells told (length vs) ≡ true → list_size t size fs item told (Some v) ≡ items_size (size item) 0 0 vs
  list_is e = list_by true e

  pub list_wrong : (total : ℕ) (path : List Step) → tells told (length vs) ≡ false → path ≡ [] → ◌≡◌ {A = Counted} (Err (pack_fault_at reason.CountWrong path)) (added total (list_size t size fs item told (Some v)))
  list_wrong total path e root = ap (λ (p : List Step). Err (pack_fault_at reason.CountWrong p)) root ∙ sym (ap (added total) (list_by false e))

-- ---- parts of a container, of which the first has a given place

module _ (t : Table) (size : ℕ → Plain → Size) (fs : List Field) (k y first : ℕ) (es : List Part) (i : ℕ) (p : Part) (within : i < length es) (is : p ≡ get_or es i p) where
  abbrev here_it : Placed
  here_it = record { container = y; place = first + i; part = p }

  left : placed_from y (first + i) (drop i es) ≡ here_it ∷ placed_from y (first + (i + 1)) (drop (i + 1) es)
  left =
      ap (placed_from y (first + i)) (drop_more es i p within ∙ ap (λ (q : Part). q ∷ drop (i + 1) es) (sym is))
      ∙ ap (λ j. here_it ∷ placed_from y j (drop (i + 1) es)) (omega arith)

  abbrev Rest : List Placed → Size
  Rest ps = stations_size t size fs k 0 (map entry ps)

  pub goes_here : (total new : ℕ) (whole : Size) → ◌≡◌ {A = Counted} (Ok new) (added total (packed_part_size t size fs here_it p)) → added total (Rest (placed_from y (first + i) (drop i es))) ≡ whole → added new (Rest (placed_from y (first + (i + 1)) (drop (i + 1) es))) ≡ whole
  goes_here total new whole e inv = entry_next t size fs k here_it (placed_from y (first + (i + 1)) (drop (i + 1) es)) total new whole e (ap (λ ps. added total (Rest ps)) (sym left) ∙ inv)

  pub stops_here : (total : ℕ) (r : PackReason) (path new : List Step) (whole : Size) → ◌≡◌ {A = Counted} (Err (pack_fault_at r path)) (added total (packed_part_size t size fs here_it p)) → added total (Rest (placed_from y (first + i) (drop i es))) ≡ whole → new ≡ step.Part (id_of y) (first + i) ∷ path → ◌≡◌ {A = Counted} (Err (pack_fault_at r new)) whole
  stops_here total r path new whole e inv put =
      ap (λ (q : List Step). Err (pack_fault_at r q)) put ∙ entry_stops t size fs k here_it (placed_from y (first + (i + 1)) (drop (i + 1) es)) total r path whole e (ap (λ ps. added total (Rest ps)) (sym left) ∙ inv)

  module _ (f : List Plain) (used : ℕ) (next : AreNext fs f used (placed_from y (first + i) (drop i es))) where
    -- the value of the part is the next one
    pub next_here : (v : Option Plain) → v ≡ slice_get f used → IsTrue (has_value p) → value_at fs y (first + i) ≡ v
    next_here v found has = (subst (AreNext fs f used) left next).0 has ∙ sym found

    pub next_later : (more : ℕ) → more ≡ used + values_in (p ∷ []) → AreNext fs f more (placed_from y (first + (i + 1)) (drop (i + 1) es))
    next_later more count = subst (λ n. AreNext fs f n (placed_from y (first + (i + 1)) (drop (i + 1) es))) (sym count) (subst (AreNext fs f used) left next).1

-- the items of a list from one on
pub items_left : (xs : List Value) (i : ℕ) (v : Value) → i < length xs → v ≡ get_or xs i v → map plain (drop i xs) ≡ plain v ∷ map plain (drop (i + 1) xs)
items_left xs i v within is = ap (map plain) (drop_more xs i v within ∙ ap (λ (w : Value). w ∷ drop (i + 1) xs) (sym is))
