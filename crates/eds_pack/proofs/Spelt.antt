-- The canonical bits of a value, taken apart by the kind of its type.
use Rattle.std.proofs.Common.{◌≡◌, ℕ, zero, suc, ◌+◌, ◌-◌, ◌<◌, ◌≤◌, List, [], ◌∷◌, drop, take, length, get_or, Option, Some, sym, ap, subst, ◌∙◌, arith}
use Rattle.std.specs.Prelude.{slice_get}
use Rattle.std.specs.List.{AllByRecursion}
use Rattle.eds_bits.specs.Bits.{Bits}
use Rattle.eds_bits.specs.Style.{canonical}
use Rattle.std.proofs.lemmas.List.{drop_more}
use Rattle.eds_types.specs.declared.row.Part.{Part}
use Rattle.eds_types.specs.declared.row.TypeRow.{TypeRow}
use Rattle.eds_types.specs.Plain.{Plain, items, fields, list_of, plains_of}
use Rattle.eds_types.specs.Rows.{Table}
use Rattle.eds_types.specs.Spelling.{ItemsSpell, KindSpells, ContainerSpells, SpellsWithin}
use Rattle.eds_pack.specs.Nesting.{Nests}
use Rattle.eds_pack.specs.Putting.{HasRoom, FieldsSpell, ListSpells}
use Rattle.eds_types.proofs.SameValues.{list_of-plains_of}

-- what holds of all elements holds of the one at a place
pub all_at : {A : Type 0} (P : A → Type 0) (xs : List A) (i : ℕ) (d : A) → i < length xs → AllByRecursion P xs → P (get_or xs i d)
all_at P [] i d lt h = absurd (omega arith)
all_at P (x ∷ xs) zero d lt h = h.0
all_at P (x ∷ xs) (suc i) d lt h = all_at P xs i d (omega arith) h.1

pub all_take : {A : Type 0} (P : A → Type 0) (n : ℕ) (xs : List A) → AllByRecursion P xs → AllByRecursion P (take n xs)
all_take P zero xs h = tt
all_take P (suc n) [] h = tt
all_take P (suc n) (x ∷ xs) h = (h.0, all_take P n xs h.1)

-- room for bits of one kind is room for those of another
pub room_as : (P Q : Bits → Type 0) (at : ℕ) (room : List ℕ) → ((b : Bits) → P b → Q b) → HasRoom P at room → HasRoom Q at room
room_as P Q at room g h = record { bits = h.bits; has = g h.bits h.has; fits = h.fits; few = h.few }

pub list_items : (E : Plain → Bits → Type 0) (v : Plain) (vs : List Plain) → v ≡ items (plains_of vs) → (b : Bits) → ListSpells E v b → ItemsSpell E vs b
list_items E v vs is b h =
    let same : items (plains_of vs) ≡ items h.0 = sym is ∙ h.1 in
    let ws : plains_of vs ≡ h.0 = cc in
    subst (λ xs. ItemsSpell E xs b) (sym (ap list_of ws) ∙ list_of-plains_of vs) h.2

pub own_spells : (t : Table) (C : ℕ → Plain → Bits → Type 0) (s : ℕ) (v : Plain) (k : ℕ) (vs : List Plain) → v ≡ fields k (plains_of vs) → (b : Bits) → FieldsSpell t C s v b → ContainerSpells canonical t C s k vs b
own_spells t C s v k vs is b h =
    let same : fields k (plains_of vs) ≡ fields h.0 h.1 = sym is ∙ h.2 in
    let own : k ≡ h.0 = cc in
    let ws : plains_of vs ≡ h.1 = cc in
    subst (λ x. ContainerSpells canonical t C s x vs b) (sym own) (subst (λ xs. ContainerSpells canonical t C s h.0 xs b) (sym (ap list_of ws) ∙ list_of-plains_of vs) h.3)

pub spells_next : (n m : ℕ) (t : Table) (id : ℕ) (row : TypeRow) (v : Plain) → 1 ≤ n → m ≡ n - 1 → slice_get t id ≡ Some row → (b : Bits) → SpellsWithin n canonical t id v b → KindSpells canonical t (SpellsWithin m canonical t) id row.kind v b
unfolding SpellsWithin
spells_next zero m t id row v some e there b h = absurd h
spells_next (suc n) m t id row v some e there b h =
    let same : m ≡ n = omega (arith, e) in
    let o : ◌≡◌ {A = Option TypeRow} (Some h.0) (Some row) = sym h.1 ∙ there in
    let r : h.0 ≡ row = cc in
    rw same (subst (λ x. KindSpells canonical t (SpellsWithin n canonical t) id x.kind v b) r h.2)

pub nests_next : (t : Table) (n m id : ℕ) → 1 ≤ n → m ≡ n - 1 → Nests t n id → Nests t (m + 1) id
nests_next t n m id some e h = subst (λ k. Nests t k id) (omega (arith, e, some)) h

pub part_left : (es : List Part) (i : ℕ) (p : Part) → i < length es → p ≡ get_or es i p → drop i es ≡ p ∷ drop (i + 1) es
part_left es i p within is = drop_more es i p within ∙ ap (λ (q : Part). q ∷ drop (i + 1) es) (sym is)
