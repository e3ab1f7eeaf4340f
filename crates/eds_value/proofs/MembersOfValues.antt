-- The members of the JSON of a container's fields.
use Rattle.std.proofs.Common.{◌≡◌, ℕ, suc, ◌+◌, List, [], ◌∷◌, length, map, true, Ordering, Less, Equal, Greater, nat_cmp, Some, None, refl, sym, ap, ◌∙◌, arith}
use Rattle.std.specs.List.{AllByRecursion}
use Rattle.std.specs.Cmp.Lexicographic.{slice_cmp}
use Rattle.std.specs.Ordering.{match_ordering}
use Rattle.serde_json.specs.Data.{Data, object, Members, no_members, member, put}
use Rattle.serde_json.specs.Events.{members_len}
use Rattle.serde_json.specs.Find.{get_member}
use Rattle.serde_json.proofs.Views.{get_member-put, get_member-put_other}
use Rattle.eds_bits.specs.Lists.{Has}
use Rattle.eds_types.specs.Rules.{AreDistinct}
use Rattle.eds_value.specs.Entries.{Entry}
use Rattle.eds_value.specs.JsonOfValue.{with_values}
use Rattle.eds_value.specs.ValueOfJson.{has_each}

-- ---- names

-- no entry has this name
abbrev pub Lacks : List ℕ → List Entry → Type 0
Lacks name es = AllByRecursion (λ (e : Entry). e.name ≡ name → ⊥) es

-- names differ
abbrev pub Differ : List Entry → Type 0
Differ [] = Unit {0}
Differ (e ∷ es) = Lacks e.name es × Differ es

lacks_from : (name : List ℕ) (es : List Entry) → (Has (map (λ (e : Entry). e.name) es) name → ⊥) → Lacks name es
lacks_from name [] h = tt
lacks_from name (e ∷ es) h = (
  (λ same. h (record { before = []; after = map (λ (e : Entry). e.name) es; is = ap (λ (n : List ℕ). n ∷ map (λ (e : Entry). e.name) es) same })),
  lacks_from name es (λ has. h (record { before = e.name ∷ has.before; after = has.after; is = ap (λ (l : List (List ℕ)). e.name ∷ l) has.is })),
)

pub differ_from : (es : List Entry) → AreDistinct (map (λ (e : Entry). e.name) es) → Differ es
differ_from [] h = tt
differ_from (e ∷ es) h = (lacks_from e.name es h.0, differ_from es h.1)

-- ---- what stands at a name

-- a member for each entry and its value
abbrev pub Stand : Members → List Entry → List Data → Type 0
Stand ms [] ds = Unit {0}
Stand ms (e ∷ es) [] = ⊥
Stand ms (e ∷ es) (d ∷ ds) = (get_member e.name ms ≡ Some d) × Stand ms es ds

-- another name keeps its member
pub kept : (q : List ℕ) (es : List Entry) (ds : List Data) (ms : Members) → Lacks q es → get_member q (with_values es ds ms) ≡ get_member q ms
kept q [] ds ms h = refl
kept q (e ∷ es) [] ms h = refl
kept q (e ∷ es) (d ∷ ds) ms h = kept q es ds (put e.name d ms) h.1 ∙ get_member-put_other q e.name d ms (λ same. h.0 (sym same))

pub stand : (es : List Entry) (ds : List Data) (ms : Members) → Differ es → length ds ≡ length es → Stand (with_values es ds ms) es ds
stand [] ds ms h l = tt
stand (e ∷ es) [] ms h l = absurd (omega arith)
stand (e ∷ es) (d ∷ ds) ms h l =
    (kept e.name es ds (put e.name d ms) h.0 ∙ get_member-put e.name d ms, stand es ds (put e.name d ms) h.1 (omega arith))

-- each entry has one
pub each : (ms : Members) (es : List Entry) (ds : List Data) → Stand ms es ds → has_each (object ms) es ≡ true
each ms [] ds h = refl
each ms (e ∷ es) [] h = absurd h
each ms (e ∷ es) (d ∷ ds) h = rw (h.0, each ms es ds h.1) refl

-- ---- how many there are

len_by : (o : Ordering) (k l : List ℕ) (d e : Data) (ms : Members) → match_ordering o (get_member k ms) (Some e) (get_member k ms) ≡ None
    → (get_member k ms ≡ None → members_len (put k d ms) ≡ suc (members_len ms))
    → members_len (match_ordering o (member k d (member l e ms)) (member l d ms) (member l e (put k d ms))) ≡ suc (suc (members_len ms))
len_by Less k l d e ms none later = refl
len_by Equal k l d e ms none later = absurd cc
len_by Greater k l d e ms none later = ap suc (later none)

members_len-put : (k : List ℕ) (d : Data) (ms : Members) → get_member k ms ≡ None → members_len (put k d ms) ≡ suc (members_len ms)
members_len-put k d no_members h = refl
members_len-put k d (member l e ms) h = len_by (slice_cmp nat_cmp k l) k l d e ms h (members_len-put k d ms)

-- no entry has a member yet
abbrev pub NoneStand : Members → List Entry → Type 0
NoneStand ms es = AllByRecursion (λ (e : Entry). get_member e.name ms ≡ None) es

still_none : (name : List ℕ) (d : Data) (ms : Members) (es : List Entry) → Lacks name es → NoneStand ms es → NoneStand (put name d ms) es
still_none name d ms [] h n = tt
still_none name d ms (e ∷ es) h n = (get_member-put_other e.name name d ms h.0 ∙ n.0, still_none name d ms es h.1 n.1)

pub members_len-values : (es : List Entry) (ds : List Data) (ms : Members) → Differ es → length ds ≡ length es → NoneStand ms es → members_len (with_values es ds ms) ≡ length es + members_len ms
members_len-values [] ds ms h l n = omega arith
members_len-values (e ∷ es) [] ms h l n = absurd (omega arith)
members_len-values (e ∷ es) (d ∷ ds) ms h l n =
    let later = members_len-values es ds (put e.name d ms) h.1 (omega arith) (still_none e.name d ms es h.0 n.1) in
    let one = members_len-put e.name d ms n.0 in
    omega (arith, later, one)
