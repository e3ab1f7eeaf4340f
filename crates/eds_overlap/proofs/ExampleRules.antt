-- The table of the examples keeps the rules, and no two of its containers overlap.
use Rattle.std.proofs.Common.{◌≡◌, ℕ, suc, ◌-◌, ◌^◌, ◌<◌, ◌≤◌, ℤ, pos, Bool, true, false, List, [], ◌∷◌, ◌++◌, length, map, Option, Some, None, refl, sym, ap, subst, ◌∙◌, arith, ◌⊎◌, inl, inr, lit<, lit≤, rules}
use Rattle.std.specs.Prelude.{nat_le, ◌≤ℤ◌, ◌&&◌, ◌||◌, ◌==◌, not, codes, slice_get, slice_index, IsTrue}
use Rattle.std.specs.List.{AllByRecursion, list_all}
use Rattle.std.proofs.lemmas.Bool.{and_parts, cases_lt, eqb-true, eq-eqb, ne_eqb}
use Rattle.std.proofs.lemmas.Int.{ints}
use Rattle.std.proofs.lemmas.Nat.{pow_pos}
use Rattle.std.proofs.lemmas.Option.{slice_get_past}
use Rattle.eds_base.specs.declared.ids.TypeId.{TypeId}
use Rattle.eds_base.specs.declared.spans.Span.{Span}
use Rattle.eds_base.specs.Spans.{IsWithin}
use Rattle.eds_bits.specs.declared.forms.CheckKind.TheVariants.{Checksum, Crc16Ccitt}
use Rattle.eds_bits.specs.IntForms.{HasNumber}
use Rattle.eds_bits.specs.Lists.{Has, HasOne}
use Rattle.eds_types.specs.declared.row.Constraint.{Constraint}
use Rattle.eds_types.specs.declared.row.TypeRow.{TypeRow}
use Rattle.eds_types.specs.declared.row.Kind.TheVariants as kind
use Rattle.eds_types.specs.declared.row.Part.TheVariants as part
use Rattle.eds_types.specs.declared.value.Value.{Num, the_lemmas}
use Rattle.eds_types.specs.Fields.{IsAtOrUnder, StartsInEntries, constraints_along}
use Rattle.eds_types.specs.Overlap.{IsSolution, IsConstrained, Overlapping, Reaches, IsClear}
use Rattle.eds_types.specs.Plain.{plain, num}
use Rattle.eds_types.specs.Rows.{id_of, base_in, base_of, container_in, constraints_in, constraints_of, is_concrete, chain, chain_within, list_has, derived, own_parts, sequence, Placed}
use Rattle.eds_types.specs.Rules.{IsHollow, IsCounted, IsScale, HoldsCheck, IsTypeSet, TailKeeps, KindKeeps, HasKind, DerivesFrom, ItemsNest, PartKeeps, ConstraintKeeps, KeepsRules}
use Rattle.eds_types.specs.Sizes.{open_of, size_within}
use Rattle.eds_types.proofs.Tables.{IsTable}
use Rattle.eds_types.proofs.AllOf.{All-at, All-both, All-front, All-back}
use Rattle.eds_types.proofs.ByRows.{AllFrom, by_row, chain_past, derived-le, none_hollow, not_hollow}
use Rattle.eds_types.proofs.ChainLaws.{child_is}
use Rattle.eds_types.proofs.ReadingTests.{has_in}
use Rattle.eds_types.proofs.RuleFacts.{table_of}
use Rattle.eds_overlap.specs.Example.{example, flags, unsigned_form, any_number, mode_path, kind_path}
use Rattle.eds_overlap.proofs.Concrete.{each_number, below, below_is, index_small, in_list, by_base, bases_pass, past_own, texts_distinct, numbers_distinct, all_nested, Nests, parts_nested, sequence_passes, sequences_keep}

infixr 20 ◌⊗◌
◌⊗◌ : {A B : Type 0} → A → B → A × B
a ⊗ b = (a, b)

-- how many types there are
abbrev count : ℕ
count = 35

-- ---- kinds

pub any_domain : (n : ℕ) (some : nat_le 1 n ≡ true) (few : nat_le n 64 ≡ true) → KindKeeps (any_number n some few)
any_domain n some few = record {
  some = (pos 0, inl (omega (arith, ints), omega (arith, ints, pow_pos n)));
  of_form = λ m w. whole m w;
}
  where
    whole : (m : ℤ) → IsWithin (record { low = pos 0; high = pos (2 ^ n - 1) } ∷ []) m → HasNumber (unsigned_form n some few) m
    whole m (inl h) = record { from_least = h.0; to_greatest = h.1 }
    whole m (inr h) = absurd h

flags_listing : KindKeeps (kind.Enum (unsigned_form 2 refl refl) flags)
flags_listing = record {
  some = lit≤ tt;
  named = lit≤ tt ⊗ lit≤ tt ⊗ lit≤ tt ⊗ lit≤ tt ⊗ tt;
  labels = texts_distinct (map (λ e. e.0) flags) refl;
  numbers = numbers_distinct (map (λ e. e.1) flags) refl;
  of_form = small (pos 0) (omega (arith, ints)) (omega (arith, ints)) ⊗ small (pos 1) (omega (arith, ints)) (omega (arith, ints)) ⊗ small (pos 2) (omega (arith, ints)) (omega (arith, ints)) ⊗ small (pos 3) (omega (arith, ints)) (omega (arith, ints)) ⊗ tt;
}
  where
    small : (n : ℤ) → pos 0 ≤ℤ n → n ≤ℤ pos 3 → HasNumber (unsigned_form 2 refl refl) n
    small n l h = record { from_least = l; to_greatest = h }

few : (a b : ℕ) → a ≤ 7 → b ≤ 7 → (a ≤ 32767) × (b ≤ 32767)
few a b h k = (omega arith, omega arith)

kinds : AllFrom (λ id row. KindKeeps row.kind) 0 example
kinds =
    any_domain 3 refl refl ⊗ tt ⊗ any_domain 11 refl refl ⊗ any_domain 14 refl refl ⊗ any_domain 16 refl refl ⊗ flags_listing
    ⊗ few 7 0 (lit≤ tt) (lit≤ tt) ⊗ few 1 0 (lit≤ tt) (lit≤ tt)
    ⊗ any_domain 8 refl refl ⊗ tt ⊗ few 1 1 (lit≤ tt) (lit≤ tt) ⊗ few 1 1 (lit≤ tt) (lit≤ tt) ⊗ few 1 1 (lit≤ tt) (lit≤ tt)
    ⊗ any_domain 4 refl refl ⊗ few 2 0 (lit≤ tt) (lit≤ tt) ⊗ few 1 0 (lit≤ tt) (lit≤ tt) ⊗ few 0 0 (lit≤ tt) (lit≤ tt) ⊗ few 0 0 (lit≤ tt) (lit≤ tt)
    ⊗ (lit≤ tt, lit≤ tt, (λ e. (8, refl))) ⊗ few 3 1 (lit≤ tt) (lit≤ tt) ⊗ few 3 1 (lit≤ tt) (lit≤ tt)
    ⊗ tt ⊗ (lit≤ tt, lit≤ tt, (λ e. absurd (let q : false ≡ true = e in cc))) ⊗ (lit≤ tt, lit≤ tt)
    ⊗ few 1 0 (lit≤ tt) (lit≤ tt) ⊗ few 1 0 (lit≤ tt) (lit≤ tt) ⊗ few 1 0 (lit≤ tt) (lit≤ tt)
    ⊗ few 5 1 (lit≤ tt) (lit≤ tt) ⊗ few 0 0 (lit≤ tt) (lit≤ tt) ⊗ few 0 0 (lit≤ tt) (lit≤ tt)
    ⊗ few 1 0 (lit≤ tt) (lit≤ tt) ⊗ few 0 0 (lit≤ tt) (lit≤ tt) ⊗ any_domain 32 refl refl ⊗ few 2 0 (lit≤ tt) (lit≤ tt) ⊗ few 2 0 (lit≤ tt) (lit≤ tt)
    ⊗ tt

-- ---- bases

-- how many bases a type has
abbrev levels : List ℕ
levels = 0 ∷ 0 ∷ 0 ∷ 0 ∷ 0 ∷ 0 ∷ 0 ∷ 1 ∷ 0 ∷ 0 ∷ 0 ∷ 0 ∷ 1 ∷ 0 ∷ 0 ∷ 0 ∷ 1 ∷ 1 ∷ 0 ∷ 0 ∷ 0 ∷ 0 ∷ 0 ∷ 0 ∷ 0 ∷ 1 ∷ 1 ∷ 0 ∷ 1 ∷ 1 ∷ 0 ∷ 1 ∷ 0 ∷ 0 ∷ 0 ∷ []

-- how deep types are nested in one
abbrev ranks : List ℕ
ranks = 0 ∷ 0 ∷ 0 ∷ 0 ∷ 0 ∷ 0 ∷ 1 ∷ 1 ∷ 0 ∷ 0 ∷ 1 ∷ 1 ∷ 1 ∷ 0 ∷ 1 ∷ 1 ∷ 1 ∷ 1 ∷ 0 ∷ 1 ∷ 1 ∷ 0 ∷ 0 ∷ 1 ∷ 2 ∷ 2 ∷ 2 ∷ 3 ∷ 3 ∷ 3 ∷ 1 ∷ 1 ∷ 0 ∷ 1 ∷ 1 ∷ []

abbrev level_of : ℕ → ℕ
level_of id = slice_index levels id

abbrev pub rank_of : ℕ → ℕ
rank_of id = slice_index ranks id

abbrev row_or : TypeRow → Option TypeRow → TypeRow
row_or r None = r
row_or r (Some row) = row

-- the row of this number
abbrev pub row : ℕ → TypeRow
row k = row_or (record { name = []; base = None; kind = any_number 8 refl refl }) (slice_get example k)

abbrev HasBase : ℕ → TypeRow → Type 0
HasBase id row = (base : ℕ) → base_of example id ≡ Some base → HasKind example base (DerivesFrom row.kind)

none_base : (A : Type 0) (b : ℕ) → ◌≡◌ {A = Option ℕ} None (Some b) → A
none_base A b e = absurd cc

some_base : (P : ℕ → Type 0) (a b : ℕ) → ◌≡◌ {A = Option ℕ} (Some a) (Some b) → P a → P b
some_base P a b e h = let q : a ≡ b = cc in subst P q h

some_none : (A : Type 0) (b : ℕ) → ◌≡◌ {A = Option ℕ} (Some b) None → A
some_none A b e = absurd cc

-- the container k derives from the container b
up : (k b : ℕ) (P : ℕ → Type 0) → P b → (base : ℕ) → ◌≡◌ {A = Option ℕ} (Some b) (Some base) → P base
up k b P h base e = some_base P b base e h

bases : AllFrom HasBase 0 example
bases =
    (λ b e. none_base _ b e) ⊗ (λ b e. none_base _ b e) ⊗ (λ b e. none_base _ b e) ⊗ (λ b e. none_base _ b e) ⊗ (λ b e. none_base _ b e) ⊗ (λ b e. none_base _ b e)
    ⊗ (λ b e. none_base _ b e) ⊗ up 7 6 (λ b. HasKind example b (DerivesFrom (row 7).kind)) (row 6, refl, tt) ⊗ (λ b e. none_base _ b e) ⊗ (λ b e. none_base _ b e)
    ⊗ (λ b e. none_base _ b e) ⊗ (λ b e. none_base _ b e) ⊗ up 12 11 (λ b. HasKind example b (DerivesFrom (row 12).kind)) (row 11, refl, tt) ⊗ (λ b e. none_base _ b e)
    ⊗ (λ b e. none_base _ b e) ⊗ (λ b e. none_base _ b e) ⊗ up 16 15 (λ b. HasKind example b (DerivesFrom (row 16).kind)) (row 15, refl, tt) ⊗ up 17 15 (λ b. HasKind example b (DerivesFrom (row 17).kind)) (row 15, refl, tt)
    ⊗ (λ b e. none_base _ b e) ⊗ (λ b e. none_base _ b e) ⊗ (λ b e. none_base _ b e) ⊗ (λ b e. none_base _ b e) ⊗ (λ b e. none_base _ b e) ⊗ (λ b e. none_base _ b e)
    ⊗ (λ b e. none_base _ b e) ⊗ up 25 24 (λ b. HasKind example b (DerivesFrom (row 25).kind)) (row 24, refl, tt) ⊗ up 26 24 (λ b. HasKind example b (DerivesFrom (row 26).kind)) (row 24, refl, tt)
    ⊗ (λ b e. none_base _ b e) ⊗ up 28 27 (λ b. HasKind example b (DerivesFrom (row 28).kind)) (row 27, refl, tt) ⊗ up 29 27 (λ b. HasKind example b (DerivesFrom (row 29).kind)) (row 27, refl, tt)
    ⊗ (λ b e. none_base _ b e) ⊗ up 31 30 (λ b. HasKind example b (DerivesFrom (row 31).kind)) (row 30, refl, tt) ⊗ (λ b e. none_base _ b e) ⊗ (λ b e. none_base _ b e)
    ⊗ (λ b e. none_base _ b e)
    ⊗ tt

no_base : (k base : ℕ) → slice_get example k ≡ None → base_of example k ≡ Some base → ⊥
no_base k base e h = none_base ⊥ base (sym (ap base_in e) ∙ h)

has_bases : (id base : ℕ) (r : TypeRow) → slice_get example id ≡ Some r → base_of example id ≡ Some base → HasKind example base (DerivesFrom r.kind)
has_bases id base r e h = by_row HasBase example bases id r e base h

base_levels : (id base : ℕ) → base_of example id ≡ Some base → level_of id ≡ suc (level_of base)
base_levels id base h = eqb-true (level_of id) (suc (level_of base)) (bases_pass example (λ i b. level_of i == suc (level_of b)) refl id base h)

base_ranks : (id base : ℕ) → base_of example id ≡ Some base → rank_of id ≡ rank_of base
base_ranks id base h = eqb-true (rank_of id) (rank_of base) (bases_pass example (λ i b. rank_of i == rank_of b) refl id base h)

-- ---- parts

-- of each type that is there, by a test of all
on_parts : (P : Placed → Type 0) → ((k : ℕ) → k < count → AllByRecursion P (own_parts example k)) → (y : ℕ) → AllByRecursion P (own_parts example y)
on_parts P h y = elim (cases_lt y count) [ inl l ↦ h y l | inr l ↦ subst (AllByRecursion P) (sym (past_own example y (slice_get_past example y l))) tt ]

all_nest : below (λ k. all_nested example rank_of k (own_parts example k)) count ≡ true
all_nest = refl

nests : (y : ℕ) → AllByRecursion (Nests example rank_of y) (own_parts example y)
nests y = elim (cases_lt y count) [
  | inl l ↦ parts_nested example rank_of y (own_parts example y) (below_is (λ k. all_nested example rank_of k (own_parts example k)) count y all_nest l)
  | inr l ↦ subst (AllByRecursion (Nests example rank_of y)) (sym (past_own example y (slice_get_past example y l))) tt
]

-- the types of entries and items, which have bits
abbrev solids : List ℕ
solids = 0 ∷ 1 ∷ 2 ∷ 3 ∷ 4 ∷ 5 ∷ 8 ∷ 9 ∷ 13 ∷ 18 ∷ 21 ∷ 22 ∷ 23 ∷ 24 ∷ []

all_solid : list_all (none_hollow example) solids ≡ true
unfolding chain_within
all_solid = refl

solid : (id : ℕ) → list_has solids id ≡ true → IsHollow example id → ⊥
solid id e = not_hollow example id (in_list (none_hollow example) solids id all_solid e)

items : AllFrom (λ id r. ItemsNest example rank_of id r.kind) 0 example
items =
    tt ⊗ tt ⊗ tt ⊗ tt ⊗ tt ⊗ tt ⊗ tt ⊗ tt ⊗ tt ⊗ tt ⊗ tt ⊗ tt ⊗ tt ⊗ tt ⊗ tt ⊗ tt ⊗ tt ⊗ tt ⊗ tt ⊗ tt ⊗ tt ⊗ tt ⊗ tt
    ⊗ ((lit< tt, lit< tt), solid 13 refl, refl)
    ⊗ tt ⊗ tt ⊗ tt ⊗ tt ⊗ tt ⊗ tt ⊗ tt ⊗ tt ⊗ tt ⊗ tt ⊗ tt
    ⊗ tt

abbrev Keep : Placed → Type 0
Keep p = PartKeeps example p p.part

scale : (c0 n : ℕ) → c0 ≤ 8 → pos 1 ≤ℤ pos n → pos n ≤ℤ pos 8 → IsScale (pos c0) (pos n)
scale c0 n small lo hi = record { rises = lo; factor = omega (arith, ints); offset = omega arith }

crc_check : HoldsCheck Crc16Ccitt (unsigned_form 16 refl refl) (record { low = pos 0; high = pos 65535 } ∷ [])
crc_check = record { encoding = refl; size = refl; all = λ n h. inl (h.from_least, h.to_greatest) }

sum_check : HoldsCheck Checksum (unsigned_form 8 refl refl) (record { low = pos 0; high = pos 255 } ∷ [])
sum_check = record { encoding = refl; size = refl; all = λ n h. inl (h.from_least, h.to_greatest) }

counted : IsCounted example (record { container = 14; place = 1; part = part.List (codes "Items") (id_of 13) (id_of 14) 0 }) 14 0
unfolding chain_within
counted = record { name = codes "Count"; id = id_of 8; before = record { before = []; between = []; after = []; is = refl }; counts = (row 8, refl, natural) }
  where
    natural : (n : ℤ) → IsWithin (record { low = pos 0; high = pos 255 } ∷ []) n → pos 0 ≤ℤ n
    natural n (inl h) = h.0
    natural n (inr h) = absurd h

-- nothing derives from these
abbrev pub lasts : List ℕ
lasts = 16 ∷ 17 ∷ 19 ∷ 20 ∷ 25 ∷ 26 ∷ 28 ∷ 29 ∷ 33 ∷ 34 ∷ []

all_alone : below (λ k. list_all (λ s. not (list_has (chain example k) s) || k == s) lasts) count ≡ true
unfolding chain_within
all_alone = refl

or_second : (p q : Bool) → p ≡ false → (p || q) ≡ true → q ≡ true
or_second p q e h = sym (ap (λ z. z || q) e) ∙ h

alone : (s k : ℕ) → list_has lasts s ≡ true → k < count → Has (chain example k) s → k ≡ s
alone s k i l h =
    let test = in_list (λ s. not (list_has (chain example k) s) || k == s) lasts s (below_is (λ k. list_all (λ s. not (list_has (chain example k) s) || k == s) lasts) count k all_alone l) i in
    eqb-true k s (or_second (not (list_has (chain example k) s)) (k == s) (ap not (has_in (chain example k) s h.before h.after h.is)) test)

pub last_of : (s : ℕ) → list_has lasts s ≡ true → (k : ℕ) → IsAtOrUnder example s k → k ≡ s
last_of s i k h = elim (cases_lt k count) [
  | inl l ↦ alone s k i l h
  | inr l ↦ sym (All-at (λ z. z ≡ k) (chain example k) s h (subst (AllByRecursion (λ z. z ≡ k)) (sym (chain_past example k (slice_get_past example k l))) (refl, tt)))
]

abbrev the_tail : ℕ → Placed
the_tail k = record { container = k; place = 2; part = part.Plain (codes "Data") (id_of 18) }

abbrev before_tail : ℕ → ℤ → List Placed
before_tail k factor = record { container = k; place = 0; part = part.Plain (codes "Id") (id_of 8) } ∷ record { container = k; place = 1; part = part.Length (codes "Len") (id_of 8) (pos 0) factor } ∷ []

tail_keeps : TailKeeps example (the_tail 19)
unfolding chain_within size_within
tail_keeps = record { before = before_tail 19 (pos 1); last = refl; not_derived = last_of 19 refl; told = inr (inl refl); sized = (refl, tt) }

pairs_keep : TailKeeps example (the_tail 20)
unfolding chain_within size_within
pairs_keep = record { before = before_tail 20 (pos 2); last = refl; not_derived = last_of 20 refl; told = inr (inl refl); sized = (refl, tt) }

pub mark : plain (Num (pos 90)) ≡ num (pos 90)
mark = search (rules, the_lemmas)

keep : (y : ℕ) → AllByRecursion Keep (own_parts example y)
keep y = each_number (λ y. AllByRecursion Keep (own_parts example y)) example rows (λ k e. subst (AllByRecursion Keep) (sym (past_own example k e)) tt) y
  where
    rows : AllFrom (λ y r. AllByRecursion Keep (own_parts example y)) 0 example
    rows =
        tt ⊗ tt ⊗ tt ⊗ tt ⊗ tt ⊗ tt
        ⊗ ((solid 0 refl, tt) ⊗ (solid 1 refl, tt) ⊗ (solid 1 refl, tt) ⊗ (solid 2 refl, tt) ⊗ (solid 5 refl, tt) ⊗ (solid 3 refl, tt) ⊗ ((row 4, refl, tt), scale 7 1 (lit≤ tt) (record { le = tt }) (record { le = tt })) ⊗ tt)
        ⊗ ((solid 4 refl, tt) ⊗ tt)
        ⊗ tt ⊗ tt
        ⊗ ((solid 9 refl, tt) ⊗ ((row 4, refl, crc_check), refl) ⊗ tt)
        ⊗ ((solid 8 refl, tt) ⊗ (solid 8 refl, tt) ⊗ tt)
        ⊗ ((solid 8 refl, tt) ⊗ (solid 8 refl, tt) ⊗ tt)
        ⊗ tt
        ⊗ ((solid 8 refl, tt) ⊗ (solid 13 refl, refl, counted) ⊗ tt)
        ⊗ ((solid 8 refl, tt) ⊗ tt) ⊗ tt ⊗ tt
        ⊗ tt
        ⊗ ((solid 8 refl, tt) ⊗ ((row 8, refl, tt), scale 0 1 (lit≤ tt) (record { le = tt }) (record { le = tt })) ⊗ (solid 18 refl, tail_keeps) ⊗ ((row 8, refl, sum_check), refl) ⊗ tt)
        ⊗ ((solid 8 refl, tt) ⊗ ((row 8, refl, tt), scale 0 2 (lit≤ tt) (record { le = tt }) (record { le = tt })) ⊗ (solid 18 refl, pairs_keep) ⊗ ((row 8, refl, sum_check), refl) ⊗ tt)
        ⊗ tt ⊗ tt ⊗ tt
        ⊗ ((solid 13 refl, tt) ⊗ tt) ⊗ ((solid 13 refl, tt) ⊗ tt) ⊗ ((solid 23 refl, tt) ⊗ tt)
        ⊗ ((solid 24 refl, tt) ⊗ ((row 8, refl, (pos 90, mark, inl (omega (arith, ints), omega (arith, ints)))), refl) ⊗ (lit≤ tt, lit≤ tt) ⊗ (solid 21 refl, tt) ⊗ (solid 22 refl, tt) ⊗ (solid 8 refl, tt) ⊗ tt)
        ⊗ tt ⊗ tt
        ⊗ ((solid 8 refl, tt) ⊗ tt) ⊗ tt
        ⊗ tt
        ⊗ (((row 8, refl, tt), scale 0 1 (lit≤ tt) (record { le = tt }) (record { le = tt })) ⊗ (lit≤ tt, lit≤ tt) ⊗ tt)
        ⊗ (((row 32, refl, tt), scale 0 1 (lit≤ tt) (record { le = tt }) (record { le = tt })) ⊗ (lit≤ tt, lit≤ tt) ⊗ tt)
        ⊗ tt

-- ---- sequences and constraints

all_sequences : below (λ k. sequence_passes (sequence example k)) count ≡ true
unfolding chain_within
all_sequences = refl

root_constraints : (k : ℕ) → base_of example k ≡ None → constraints_of example k ≡ []
root_constraints k h = each_number (λ k. base_of example k ≡ None → constraints_of example k ≡ []) example rows (λ k e _. ap (λ o. constraints_in (container_in o)) e) k h
  where
    derives : {A : Type 0} {b : ℕ} → ◌≡◌ {A = Option ℕ} (Some b) None → A
    derives e = absurd cc

    root : {A : Type 0} {x : A} {B : Type 0} → B → x ≡ x
    root e = refl

    rows : AllFrom (λ k r. base_of example k ≡ None → constraints_of example k ≡ []) 0 example
    rows =
        root ⊗ root ⊗ root ⊗ root ⊗ root ⊗ root ⊗ root ⊗ derives ⊗ root ⊗ root ⊗ root ⊗ root ⊗ derives ⊗ root ⊗ root ⊗ root ⊗ derives ⊗ derives
        ⊗ root ⊗ root ⊗ root ⊗ root ⊗ root ⊗ root ⊗ root ⊗ derives ⊗ derives ⊗ root ⊗ derives ⊗ derives ⊗ root ⊗ derives ⊗ root ⊗ root ⊗ root
        ⊗ tt

abbrev path_to : ℕ → ℕ → List (TypeId × ℕ)
path_to y i = (id_of y, i) ∷ []

abbrev on : List (TypeId × ℕ) → Bool → ℕ → ℕ → Constraint
on path on_kind low high = record { path = path; set = record { low = pos low; high = pos high } ∷ []; on_kind = on_kind }

-- the number lies in the interval from low to high
lies : (n low high : ℕ) → low ≤ n → n ≤ high → IsWithin (record { low = pos low; high = pos high } ∷ []) (pos n)
lies n low high l h = inl (omega (arith, ints), omega (arith, ints))

of_hk : ConstraintKeeps example 6 7 (on (path_to 6 3) false 291 291)
unfolding chain_within
of_hk = record {
  starts = (record { before = []; after = []; is = refl }, lit< tt);
  follows = (codes "Apid", id_of 2, refl);
  target = 2;
  leads = refl;
  speaks = (row 2, refl, tt);
  can_hold = (pos 291, record { domain = lies 291 0 _ (lit≤ tt) (lit≤ tt); constraints = ((λ e. lies 291 291 291 (lit≤ tt) (lit≤ tt)), tt) });
}

of_low : ConstraintKeeps example 15 16 (on (path_to 15 0) false 0 10)
unfolding chain_within
of_low = record {
  starts = (record { before = []; after = []; is = refl }, lit< tt);
  follows = (codes "K", id_of 8, refl);
  target = 8;
  leads = refl;
  speaks = (row 8, refl, tt);
  can_hold = (pos 5, record { domain = lies 5 0 _ (lit≤ tt) (lit≤ tt); constraints = ((λ e. lies 5 0 10 (lit≤ tt) (lit≤ tt)), tt) });
}

of_high : ConstraintKeeps example 15 17 (on (path_to 15 0) false 11 20)
unfolding chain_within
of_high = record {
  starts = (record { before = []; after = []; is = refl }, lit< tt);
  follows = (codes "K", id_of 8, refl);
  target = 8;
  leads = refl;
  speaks = (row 8, refl, tt);
  can_hold = (pos 15, record { domain = lies 15 0 _ (lit≤ tt) (lit≤ tt); constraints = ((λ e. lies 15 11 20 (lit≤ tt) (lit≤ tt)), tt) });
}

of_idle : ConstraintKeeps example 24 25 (on (path_to 24 0) false 1 1)
unfolding chain_within
of_idle = record {
  starts = (record { before = []; after = []; is = refl }, lit< tt);
  follows = (codes "Kind", id_of 13, refl);
  target = 13;
  leads = refl;
  speaks = (row 13, refl, tt);
  can_hold = (pos 1, record { domain = lies 1 0 _ (lit≤ tt) (lit≤ tt); constraints = ((λ e. lies 1 1 1 (lit≤ tt) (lit≤ tt)), tt) });
}

of_busy : ConstraintKeeps example 24 26 (on (path_to 24 0) false 2 2)
unfolding chain_within
of_busy = record {
  starts = (record { before = []; after = []; is = refl }, lit< tt);
  follows = (codes "Kind", id_of 13, refl);
  target = 13;
  leads = refl;
  speaks = (row 13, refl, tt);
  can_hold = (pos 2, record { domain = lies 2 0 _ (lit≤ tt) (lit≤ tt); constraints = ((λ e. lies 2 2 2 (lit≤ tt) (lit≤ tt)), tt) });
}

of_one : ConstraintKeeps example 30 31 (on (path_to 30 0) false 1 1)
unfolding chain_within
of_one = record {
  starts = (record { before = []; after = []; is = refl }, lit< tt);
  follows = (codes "K", id_of 8, refl);
  target = 8;
  leads = refl;
  speaks = (row 8, refl, tt);
  can_hold = (pos 1, record { domain = lies 1 0 _ (lit≤ tt) (lit≤ tt); constraints = ((λ e. lies 1 1 1 (lit≤ tt) (lit≤ tt)), tt) });
}

of_idle_number : ConstraintKeeps example 27 28 (on kind_path false 1 1)
unfolding chain_within
of_idle_number = record {
  starts = (record { before = []; after = []; is = refl }, lit< tt);
  follows = (codes "Mode", id_of 24, refl, refl, record { before = []; after = []; is = refl }, (codes "Kind", id_of 13, refl));
  target = 13;
  leads = refl;
  speaks = (row 13, refl, tt);
  can_hold = (pos 1, record { domain = lies 1 0 _ (lit≤ tt) (lit≤ tt); constraints = (λ e. absurd cc) ⊗ (λ e. lies 1 1 1 (lit≤ tt) (lit≤ tt)) ⊗ tt });
}

of_busy_number : ConstraintKeeps example 27 29 (on kind_path false 2 2)
unfolding chain_within
of_busy_number = record {
  starts = (record { before = []; after = []; is = refl }, lit< tt);
  follows = (codes "Mode", id_of 24, refl, refl, record { before = []; after = []; is = refl }, (codes "Kind", id_of 13, refl));
  target = 13;
  leads = refl;
  speaks = (row 13, refl, tt);
  can_hold = (pos 2, record { domain = lies 2 0 _ (lit≤ tt) (lit≤ tt); constraints = ((λ e. lies 2 2 2 (lit≤ tt) (lit≤ tt)), tt) });
}

-- the idle containers alone
idle_set : IsTypeSet example 24 (record { low = pos 25; high = pos 25 } ∷ [])
unfolding chain_within
idle_set = record { kept = 25; under = record { before = []; after = 25 ∷ []; is = refl }; ids = ids; all = λ k c u. subst (λ z. IsWithin (record { low = pos 25; high = pos 25 } ∷ []) (pos z)) (sym (last_of 25 refl k u)) (lies 25 25 25 (lit≤ tt) (lit≤ tt)) }
  where
    ids : (n : ℤ) → IsWithin (record { low = pos 25; high = pos 25 } ∷ []) n → (k : ℕ) × (n ≡ pos k) × IsTrue (is_concrete example k) × IsAtOrUnder example 25 k
    ids n (inl h) = (25, (let a = h.0 in let b = h.1 in omega (arith, ints)), refl, record { before = 24 ∷ []; after = []; is = refl })
    ids n (inr h) = absurd h

of_idle_type : ConstraintKeeps example 27 28 (on mode_path true 25 25)
unfolding chain_within
of_idle_type = record {
  starts = (record { before = []; after = []; is = refl }, lit< tt);
  follows = (codes "Mode", id_of 24, refl);
  target = 24;
  leads = refl;
  speaks = (refl, idle_set);
  can_hold = (pos 25, record { domain = (25, refl, refl, record { before = []; after = 25 ∷ []; is = refl }); constraints = (λ e. lies 25 25 25 (lit≤ tt) (lit≤ tt)) ⊗ (λ e. absurd cc) ⊗ tt });
}

abbrev Constrained : ℕ → TypeRow → Type 0
Constrained k r = (base : ℕ) → base_of example k ≡ Some base → AllByRecursion (ConstraintKeeps example base k) (constraints_of example k)

abbrev At : ℕ → ℕ → Type 0
At k b = AllByRecursion (ConstraintKeeps example b k) (constraints_of example k)

constrained : AllFrom Constrained 0 example
constrained =
    (λ b e. tt) ⊗ (λ b e. tt) ⊗ (λ b e. tt) ⊗ (λ b e. tt) ⊗ (λ b e. tt) ⊗ (λ b e. tt) ⊗ (λ b e. tt) ⊗ up 7 6 (At 7) (of_hk, tt) ⊗ (λ b e. tt) ⊗ (λ b e. tt) ⊗ (λ b e. tt) ⊗ (λ b e. tt) ⊗ (λ b e. tt) ⊗ (λ b e. tt) ⊗ (λ b e. tt) ⊗ (λ b e. tt)
    ⊗ up 16 15 (At 16) (of_low, tt) ⊗ up 17 15 (At 17) (of_high, tt) ⊗ (λ b e. tt) ⊗ (λ b e. tt) ⊗ (λ b e. tt) ⊗ (λ b e. tt) ⊗ (λ b e. tt) ⊗ (λ b e. tt) ⊗ (λ b e. tt)
    ⊗ up 25 24 (At 25) (of_idle, tt) ⊗ up 26 24 (At 26) (of_busy, tt) ⊗ (λ b e. tt) ⊗ up 28 27 (At 28) (of_idle_type ⊗ of_idle_number ⊗ tt) ⊗ up 29 27 (At 29) (of_busy_number, tt)
    ⊗ (λ b e. tt) ⊗ up 31 30 (At 31) (of_one, tt) ⊗ (λ b e. tt) ⊗ (λ b e. tt) ⊗ (λ b e. tt)
    ⊗ tt

constraints_keep : (k base : ℕ) → base_of example k ≡ Some base → AllByRecursion (ConstraintKeeps example base k) (constraints_of example k)
constraints_keep k base h = each_number (λ k. (base : ℕ) → base_of example k ≡ Some base → AllByRecursion (ConstraintKeeps example base k) (constraints_of example k)) example constrained (λ k e b q. absurd (no_base k b e q)) k base h

-- ---- the rules

pub keeps_rules : KeepsRules example
keeps_rules = record {
  few = lit≤ tt;
  names = texts_distinct (map (λ (r : TypeRow). r.name) example) refl;
  kinds = λ id r e. by_row (λ id r. KindKeeps r.kind) example kinds id r e;
  bases = λ id base r e h. has_bases id base r e h;
  level = level_of;
  chains = λ id. index_small levels 16 refl refl id;
  base_level = base_levels;
  family = λ id _. small id;
  rank = rank_of;
  nesting = λ id. index_small ranks 32 refl refl id;
  base_rank = base_ranks;
  parts_nest = nests;
  items_nest = λ id r e. by_row (λ id r. ItemsNest example rank_of id r.kind) example items id r e;
  parts = keep;
  sequences = sequences_keep example all_sequences;
  root_constraints = root_constraints;
  constraints = constraints_keep;
}
  where
    small : (id : ℕ) → length (derived example id) ≤ 512
    small id = let l : length (derived example id) ≤ count = derived-le example id in omega arith

-- ---- overlap

-- two containers with one base, in their order
abbrev siblings : ℕ → ℕ → Bool
siblings a b = (a == 16 && b == 17) || ((a == 25 && b == 26) || (a == 28 && b == 29))

abbrev same_base : ℕ → ℕ → Bool
same_base a b = by_base (λ x. by_base (λ y. not (x == y && not (a == b)) || (siblings a b || siblings b a)) (base_of example b)) (base_of example a)

all_siblings : below (λ a. below (same_base a) count) count ≡ true
all_siblings = refl

in_table : (a x : ℕ) → base_of example a ≡ Some x → a < count
in_table a x h = elim (cases_lt a count) [ inl l ↦ l | inr l ↦ absurd (no_base a x (slice_get_past example a l) h) ]

-- two different containers with one base are such
are_siblings : (a b x : ℕ) → (a ≡ b → ⊥) → base_of example a ≡ Some x → base_of example b ≡ Some x → (siblings a b || siblings b a) ≡ true
are_siblings a b x ne ha hb =
    let both = below_is (same_base a) count b (below_is (λ a. below (same_base a) count) count a all_siblings (in_table a x ha)) (in_table b x hb) in
    let at_a : by_base (λ y. not (x == y && not (a == b)) || (siblings a b || siblings b a)) (base_of example b) ≡ true = sym (ap (by_base (λ x. by_base (λ y. not (x == y && not (a == b)) || (siblings a b || siblings b a)) (base_of example b))) ha) ∙ both in
    let at_b : (not (x == x && not (a == b)) || (siblings a b || siblings b a)) ≡ true = sym (ap (by_base (λ y. not (x == y && not (a == b)) || (siblings a b || siblings b a))) hb) ∙ at_a in
    or_second (not (x == x && not (a == b))) (siblings a b || siblings b a) (ap not (ap (λ z. z && not (a == b)) (eq-eqb x x refl) ∙ ap not (ne_eqb a b ne))) at_b

-- a path from x on which no number is in the sets of both containers
record Parted (x a b : ℕ) : Type 0 where
  path : List (TypeId × ℕ)
  starts : StartsInEntries example x path
  asked : IsConstrained (constraints_along example a ++ constraints_along example b) path
  nothing : (n : ℤ) → IsSolution example (constraints_along example a ++ constraints_along example b) path n → ⊥

module _ (P : Constraint → Type 0) where
  at_front : (ys : List Constraint) → HasOne P ys → HasOne P (ys ++ [])
  at_front [] h = h
  at_front (y ∷ ys) (inl h) = inl h
  at_front (y ∷ ys) (inr h) = inr (at_front ys h)

  put : (ys : List Constraint) (x : Constraint) (xs : List Constraint) → P x → HasOne P (ys ++ x ∷ xs)
  put [] x xs h = inl h
  put (y ∷ ys) x xs h = inr (put ys x xs h)

  widen : (ys : List Constraint) (x : Constraint) (xs : List Constraint) → HasOne P (ys ++ xs) → HasOne P (ys ++ x ∷ xs)
  widen [] x xs h = inr h
  widen (y ∷ ys) x xs (inl h) = inl h
  widen (y ∷ ys) x xs (inr h) = inr (widen ys x xs h)

  one_each : (xs ys : List Constraint) → HasOne P (xs ++ ys) → HasOne P (ys ++ xs)
  one_each [] ys h = at_front ys h
  one_each (x ∷ xs) ys (inl h) = put ys x xs h
  one_each (x ∷ xs) ys (inr h) = widen ys x xs (one_each xs ys h)

turned : (x a b : ℕ) → Parted x a b → Parted x b a
turned x a b p = record {
  path = p.path;
  starts = p.starts;
  asked = one_each (λ c. c.path ≡ p.path) (constraints_along example a) (constraints_along example b) p.asked;
  nothing = λ n s. p.nothing n (record { domain = s.domain; constraints = All-both (P n) (constraints_along example a) (constraints_along example b) (All-back (P n) (constraints_along example b) (constraints_along example a) s.constraints) (All-front (P n) (constraints_along example b) (constraints_along example a) s.constraints) });
}
  where
    P : ℤ → Constraint → Type 0
    P n c = c.path ≡ p.path → IsWithin c.set n

abbrev numbers : ℕ → ℕ → List Span
numbers low high = record { low = pos low; high = pos high } ∷ []

-- no number is in both sets
apart_sets : (a b c d : ℕ) → b < c → (n : ℤ) → IsWithin (numbers a b) n → IsWithin (numbers c d) n → ⊥
apart_sets a b c d l n (inl h) (inl k) = let q = h.1 in let r = k.0 in omega (arith, ints)
apart_sets a b c d l n (inl h) (inr k) = k
apart_sets a b c d l n (inr h) k = h

keys : Parted 15 16 17
unfolding chain_within
keys = record { path = path_to 15 0; starts = (record { before = []; after = []; is = refl }, lit< tt); asked = inl refl; nothing = λ n s. apart_sets 0 10 11 20 (lit< tt) n ((s.constraints).0 refl) ((s.constraints).1.0 refl) }

modes : Parted 24 25 26
unfolding chain_within
modes = record { path = path_to 24 0; starts = (record { before = []; after = []; is = refl }, lit< tt); asked = inl refl; nothing = λ n s. apart_sets 1 1 2 2 (lit< tt) n ((s.constraints).0 refl) ((s.constraints).1.0 refl) }

mode_frames : Parted 27 28 29
unfolding chain_within
mode_frames = record { path = kind_path; starts = (record { before = []; after = []; is = refl }, lit< tt); asked = inr (inl refl); nothing = λ n s. apart_sets 1 1 2 2 (lit< tt) n ((s.constraints).1.0 refl) ((s.constraints).1.1.0 refl) }

some_is : (a b : ℕ) → Some a ≡ Some b → a ≡ b
some_is a b e = cc

or_cases : (p q : Bool) → (p || q) ≡ true → (p ≡ true) ⊎ (q ≡ true)
or_cases true q e = inl refl
or_cases false q e = inr e

parted : (a b x : ℕ) → base_of example a ≡ Some x → siblings a b ≡ true → Parted x a b × ((list_has lasts a ≡ true) × (list_has lasts b ≡ true))
parted a b x base e = elim (or_cases (a == 16 && b == 17) ((a == 25 && b == 26) || (a == 28 && b == 29)) e) [
  | inl h ↦ at 16 17 15 keys refl refl refl h
  | inr h ↦ elim (or_cases (a == 25 && b == 26) (a == 28 && b == 29) h) [ inl h ↦ at 25 26 24 modes refl refl refl h | inr h ↦ at 28 29 27 mode_frames refl refl refl h ]
]
  where
    at : (c d y : ℕ) → Parted y c d → base_of example c ≡ Some y → list_has lasts c ≡ true → list_has lasts d ≡ true → (a == c && b == d) ≡ true → Parted x a b × ((list_has lasts a ≡ true) × (list_has lasts b ≡ true))
    at c d y p up i j h =
        let q = and_parts (a == c) (b == d) h in
        let ea : c ≡ a = sym (eqb-true a c q.0) in
        let eb : d ≡ b = sym (eqb-true b d q.1) in
        let ex : y ≡ x = some_is y x (sym up ∙ ap (base_of example) ea ∙ base) in
        (subst (λ z. Parted z a b) ex (subst (λ z. Parted y z b) ea (subst (λ z. Parted y c z) eb p)), (subst (λ z. list_has lasts z ≡ true) ea i, subst (λ z. list_has lasts z ≡ true) eb j))

apart : (id x k l : ℕ) → Overlapping example (Reaches example id) x k l → ⊥
apart id x k l o = elim (or_cases (siblings o.one o.other) (siblings o.other o.one) (are_siblings o.one o.other x o.differ first second)) [
  | inl e ↦ (let p = parted o.one o.other x first e in meets p.0 p.1.0 p.1.1)
  | inr e ↦ (let p = parted o.other o.one x second e in meets (turned x o.other o.one p.0) p.1.1 p.1.0)
]
  where
    is : IsTable example
    is = table_of example keeps_rules

    first : base_of example o.one ≡ Some x
    first = (child_is example is x o.one k (o.to_first).0 (o.to_first).1).1

    second : base_of example o.other ≡ Some x
    second = (child_is example is x o.other l (o.to_second).0 (o.to_second).1).1

    meets : Parted x o.one o.other → list_has lasts o.one ≡ true → list_has lasts o.other ≡ true → ⊥
    meets p i j =
        let ek : o.one ≡ k = sym (last_of o.one i k (record { before = chain example x; after = (o.to_first).0; is = (o.to_first).1 })) in
        let el : o.other ≡ l = sym (last_of o.other j l (record { before = chain example x; after = (o.to_second).0; is = (o.to_second).1 })) in
        let q = subst (λ z. Parted x z l) ek (subst (λ z. Parted x o.one z) el p) in
        let m = o.common q.path q.starts q.asked in
        q.nothing m.0 m.1

pub clear : (id : ℕ) → open_of example id ≡ None → IsClear example id
clear id closed = record { not_open = closed; apart = apart id }
