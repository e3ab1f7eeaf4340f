-- Reading is exact, for each type that is there, nested less than n deep and clear.
use Rattle.std.proofs.Common.{◌≡◌, ℕ, zero, suc, ◌<◌, List, [], length, reverse, Option, Some, None, true, false, refl, sym, ap, subst, ◌∙◌, arith}
use Rattle.std.specs.Prelude.{slice_get, ℤ}
use Rattle.std.specs.List.{AllByRecursion, flat_map}
use Rattle.eds_types.specs.declared.row.TypeRow.{TypeRow}
use Rattle.eds_types.specs.declared.row.Kind.{Kind}
use Rattle.eds_types.specs.declared.row.Kind.TheVariants as kind
use Rattle.eds_types.specs.declared.row.Container.{Container}
use Rattle.eds_bits.specs.Bits.{Bits}
use Rattle.eds_bits.specs.Lists.{Has, HasOne}
use Rattle.eds_bits.specs.Style.{any}
use Rattle.eds_overlap.proofs.Choices.{one_child}
use Rattle.eds_overlap.proofs.ContainerReading.{container_exact}
use Rattle.eds_overlap.proofs.Course.{Good, Family}
use Rattle.eds_overlap.proofs.Taken.{Keeping, Kept, Agreeing}
use Rattle.eds_types.proofs.ExactReading.{Exact, exact_as}
use Rattle.eds_types.proofs.FieldTypes.{IsPlaced, Fits, part_keeps, sequence_placed}
use Rattle.eds_types.proofs.ScalarReading.{size_of, int_exact, enum_exact, bool_exact, bin_exact, array_exact}
use Rattle.eds_types.proofs.TextReading.{text_exact}
use Rattle.eds_types.proofs.Ranks.{Lower, sequence_lower, row_there}
use Rattle.eds_types.specs.Failing.{KindFails, FailsWithin}
use Rattle.eds_types.specs.Fields.{type_by, IsAtOrUnder}
use Rattle.eds_types.specs.Overlap.{Reaches, ReachesByKind, IsClear}
use Rattle.eds_types.specs.Overlap.Reaches.{step}
use Rattle.eds_types.specs.Plain.{Plain, num}
use Rattle.eds_types.specs.Reading.{read_kind, read_row, read_within}
use Rattle.eds_types.specs.Rows.{Table, chain, Placed, placed_entries, placed_trailers, sequence}
use Rattle.eds_types.specs.Spelling.{started, KindSpells, SpellsWithin}
use Rattle.eds_types.specs.Sizes.{open_by, open_in, open_of}
use Rattle.eds_types.proofs.TableFacts.{Facts}
use Rattle.eds_types.proofs.TailSizes.{open_to, open_from, all_entries}
use Rattle.eds_types.proofs.Tables.{IsTable, IsItemType, IsIntRow, IsIntKind, IsOneLabel}
use Rattle.eds_types.proofs.AllOf.{All-weaker, All-front, All-back, All-pair, All-has, All-unflat, one_of}

module _ (t : Table) (is : IsTable t) (can : Facts t) where
  -- what is clear, is clear further down
  widen : (id x : ℕ) → ((z : ℕ) → Reaches t x z → Reaches t id z) → open_of t x ≡ None → IsClear t id → IsClear t x
  widen id x w closed c = record { not_open = closed; apart = λ y k l o. c.apart y k l (record { first = o.first; second = o.second; one = o.one; other = o.other; differ = o.differ; to_first = o.to_first; to_second = o.to_second; used = ((o.used).0, w (o.used).0 (o.used).1, (o.used).2); common = o.common }) }

  pub clear_below : (id x : ℕ) (row : TypeRow) → slice_get t id ≡ Some row → ReachesByKind t id row.kind x → open_of t x ≡ None → IsClear t id → IsClear t x
  clear_below id x row e r closed c = widen id x (λ z q. step row e r q) closed c

  -- the type is there, nested less than n deep, and clear
  pub record Right (n id : ℕ) : Type 0 where
    pub rank : is.rank id < n
    pub there : id < length t
    pub clear : IsClear t id

  abbrev pub ExactWithin : ℕ → ℕ → Type 0
  ExactWithin n id = Exact (read_within n t id) (SpellsWithin n any t id) (FailsWithin n t id)

  numbers_of : (n x : ℕ) → IsIntRow (slice_get t x) → (v : Plain) (c : Bits) → SpellsWithin n any t x v c → (r : ℤ) × (v ≡ num r)
  unfolding SpellsWithin
  numbers_of zero x h v c s = absurd s
  numbers_of (suc n) x h v c s = go (s.0).kind (subst IsIntRow s.1 h) s.2
    where
      go : (k : Kind) → IsIntKind k → KindSpells any t (SpellsWithin n any t) x k v c → (r : ℤ) × (v ≡ num r)
      go (kind.Int form spans) i s = (s.0, s.1)
      go (kind.Enum form listing) i s = absurd i
      go (kind.Bool form) i s = absurd i
      go (kind.Str form) i s = absurd i
      go (kind.Bin m free) i s = absurd i
      go (kind.Arr item m) i s = absurd i
      go (kind.Con con) i s = absurd i

  module _ (n : ℕ) (ih : (x : ℕ) → Right n x → ExactWithin n x) (id : ℕ) (row : TypeRow) (here : slice_get t id ≡ Some row) (low : is.rank id < suc n) (clear : IsClear t id) (con : Container) (is_con : row.kind ≡ kind.Con con) where
    reaches : (x : ℕ) → ((k : ℕ) × IsAtOrUnder t id k × HasOne (λ p. type_by (Some p.part) ≡ Some x) (sequence t k)) → ReachesByKind t id row.kind x
    reaches x h = subst (λ k. ReachesByKind t id k x) (sym is_con) h

    good_part : (k : ℕ) → IsAtOrUnder t id k → (p : Placed) → Has (sequence t k) p → Lower t is id p → IsPlaced t p → Keeping t (read_within n t) (SpellsWithin n any t) (FailsWithin n t) id (Fits t n) p
    good_part k u p h l pl = record {
      good = record {
        type = λ c x e. let low_x = (l.lower x e).0 in ih x (record { rank = omega arith; there = (l.lower x e).1; clear = clear_below id x row here (reaches x (k, u, subst (HasOne (λ p. type_by (Some p.part) ≡ Some x)) (sym h.is) (one_of (λ (p : Placed). type_by (Some p.part) ≡ Some x) h.before p h.after e))) (l.free x e ∙ c) clear });
        tail = λ m x c e. let low_x = (l.lower x e).0 in record { to = open_to t n x m (l.free x e ∙ c); from = open_from t n x m (omega arith) (l.free x e ∙ c) };
        numbers = λ _ x e i. numbers_of n x i;
        length_is_int = l.length_is_int;
      };
      keeps = λ s v c i q. part_keeps t n s p p.part v c pl i q;
    }

    all_good : (k : ℕ) → IsAtOrUnder t id k → AllByRecursion (Keeping t (read_within n t) (SpellsWithin n any t) (FailsWithin n t) id (Fits t n)) (sequence t k)
    all_good k u =
        All-weaker (λ p. Has (sequence t k) p × (Lower t is id p × IsPlaced t p)) (Keeping t (read_within n t) (SpellsWithin n any t) (FailsWithin n t) id (Fits t n)) (λ p h. good_part k u p h.0 h.1.0 h.1.1) (sequence t k)
        (All-pair (Has (sequence t k)) (λ p. Lower t is id p × IsPlaced t p) (sequence t k) (All-has [] (sequence t k)) (All-pair (Lower t is id) (IsPlaced t) (sequence t k) (sequence_lower t is id k u) (sequence_placed t k)))

    kept_all : Kept t (read_within n t) (SpellsWithin n any t) (FailsWithin n t) id (Fits t n)
    kept_all = record {
      entries = λ k u. All-unflat (Keeping t (read_within n t) (SpellsWithin n any t) (FailsWithin n t) id (Fits t n)) (placed_entries t) (chain t k) (All-front (Keeping t (read_within n t) (SpellsWithin n any t) (FailsWithin n t) id (Fits t n)) (flat_map (placed_entries t) (chain t k)) (flat_map (placed_trailers t) (reverse (chain t k))) (all_good k u));
      trailers = λ k u. All-back (Keeping t (read_within n t) (SpellsWithin n any t) (FailsWithin n t) id (Fits t n)) (flat_map (placed_entries t) (chain t k)) (flat_map (placed_trailers t) (reverse (chain t k))) (all_good k u);
    }

    family_all : Family t (SpellsWithin n any t) (FailsWithin n t) (read_within n t) id
    family_all = record {
      entries = λ k u. All-weaker (λ y. AllByRecursion (Keeping t (read_within n t) (SpellsWithin n any t) (FailsWithin n t) id (Fits t n)) (placed_entries t y)) (λ y. AllByRecursion (Good t (SpellsWithin n any t) (FailsWithin n t) (read_within n t)) (placed_entries t y)) (λ y h. only_good (placed_entries t y) h) (chain t k) (kept_all.entries k u);
      trailers = λ k u. only_good (flat_map (placed_trailers t) (reverse (chain t k))) (kept_all.trailers k u);
    }
      where
        only_good : (ps : List Placed) → AllByRecursion (Keeping t (read_within n t) (SpellsWithin n any t) (FailsWithin n t) id (Fits t n)) ps → AllByRecursion (Good t (SpellsWithin n any t) (FailsWithin n t) (read_within n t)) ps
        only_good ps h = All-weaker (Keeping t (read_within n t) (SpellsWithin n any t) (FailsWithin n t) id (Fits t n)) (Good t (SpellsWithin n any t) (FailsWithin n t) (read_within n t)) (λ p k. k.good) ps h

    agrees_all : Agreeing t (read_within n t) (SpellsWithin n any t) (FailsWithin n t) id (Fits t n)
    agrees_all = record { start = tt; agree = λ y k l one other more rest s u i ek el ck cl. one_child t id clear n y k l one other more rest s u i ek el ck cl }

  module _ (n : ℕ) (ih : (x : ℕ) → Right n x → ExactWithin n x) (id : ℕ) (row : TypeRow) (here : slice_get t id ≡ Some row) (low : is.rank id < suc n) (clear : IsClear t id) where
    some_none : {A : Type 0} (m : ℕ) → ◌≡◌ {A = Option ℕ} (Some m) None → A
    some_none m e = absurd cc

    kind_exact : (k : Kind) → row.kind ≡ k → IsItemType t is.rank id k → IsOneLabel k → Exact (read_kind t (read_within n t) id k) (KindSpells any t (SpellsWithin n any t) id k) (KindFails t (SpellsWithin n any t) (FailsWithin n t) id k)
    kind_exact (kind.Int form spans) e i o = int_exact t (read_within n t) (SpellsWithin n any t) (FailsWithin n t) id form spans
    kind_exact (kind.Enum form listing) e i o = enum_exact t (read_within n t) (SpellsWithin n any t) (FailsWithin n t) id form listing o
    kind_exact (kind.Bool form) e i o = bool_exact t (read_within n t) (SpellsWithin n any t) (FailsWithin n t) id form
    kind_exact (kind.Str form) e i o = text_exact t (read_within n t) (SpellsWithin n any t) (FailsWithin n t) id form.length form.fixed form.ascii form.stop (size_of form)
    kind_exact (kind.Bin size false) e i o = bin_exact t (read_within n t) (SpellsWithin n any t) (FailsWithin n t) id size
    kind_exact (kind.Bin size true) e i o = some_none size (sym (ap open_by e) ∙ ap open_in (sym here) ∙ clear.not_open)
    kind_exact (kind.Arr item size) e i o = array_exact t (read_within n t) (SpellsWithin n any t) (FailsWithin n t) id item size (ih item.0 (record { rank = let l = i.0 in omega arith; there = i.1; clear = clear_below id item.0 row here (subst (λ k. ReachesByKind t id k item.0) (sym e) refl) i.2 clear }))
    kind_exact (kind.Con con) e i o = container_exact t is (read_within n t) (SpellsWithin n any t) (FailsWithin n t) id (family_all n ih id row here low clear con e) (Fits t n) (kept_all n ih id row here low clear con e) (agrees_all n ih id row here low clear con e) (λ k fs b sp. all_entries t n [] (sequence t k) started (sp.end) b (can.tails k) (can.once k) (λ x. absurd x) sp.size sp.parts) con

    row_exact : Exact (λ b. read_row t (read_within n t) id (slice_get t id) b) (λ v c. (row : TypeRow) × (slice_get t id ≡ Some row) × KindSpells any t (SpellsWithin n any t) id row.kind v c) (λ b g. (row : TypeRow) × (slice_get t id ≡ Some row) × KindFails t (SpellsWithin n any t) (FailsWithin n t) id row.kind b g)
    row_exact = subst (λ o. Exact (λ b. read_row t (read_within n t) id o b) (λ v c. (row : TypeRow) × (slice_get t id ≡ Some row) × KindSpells any t (SpellsWithin n any t) id row.kind v c) (λ b g. (row : TypeRow) × (slice_get t id ≡ Some row) × KindFails t (SpellsWithin n any t) (FailsWithin n t) id row.kind b g)) (sym here)
        (exact_as (read_kind t (read_within n t) id row.kind) (KindSpells any t (SpellsWithin n any t) id row.kind) _ (KindFails t (SpellsWithin n any t) (FailsWithin n t) id row.kind) _ (kind_exact row.kind refl (is.items id row here) (is.one_label id row here))
        (λ v c h. (row, here, h)) (λ v c h. subst (λ (r : TypeRow). KindSpells any t (SpellsWithin n any t) id r.kind v c) (same_row h.0 h.1) h.2)
        (λ b g h. (row, here, h)) (λ b g h. subst (λ (r : TypeRow). KindFails t (SpellsWithin n any t) (FailsWithin n t) id r.kind b g) (same_row h.0 h.1) h.2))
      where
        same_row : (r : TypeRow) → slice_get t id ≡ Some r → r ≡ row
        same_row r e = let q : ◌≡◌ {A = Option TypeRow} (Some r) (Some row) = sym e ∙ here in cc

  pub exact : (n id : ℕ) → Right n id → ExactWithin n id
  unfolding read_within SpellsWithin FailsWithin
  exact zero id h = let l = h.rank in absurd (omega arith)
  exact (suc n) id h = let r = row_there t is id h.there in row_exact n (exact n) id r.0 r.1 h.rank h.clear
