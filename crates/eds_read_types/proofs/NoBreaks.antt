-- What a sheet that breaks no rule on types has.
use Rattle.std.proofs.Common.{◌≡◌, ℕ, ◌<◌, Bool, true, false, ◌||◌, List, [], ◌∷◌, length, map, filter, Option, Some, None, refl, sym, ap, ◌∙◌, subst, slice_get, is_some, option_map}
use Rattle.std.specs.Prelude.{IfSome}
use Rattle.std.proofs.lemmas.Option.{slice_get_within}
use Rattle.std.proofs.lemmas.List.{length-map}
use Rattle.eds_base.specs.declared.ids.Place.{Place}
use Rattle.eds_base.specs.declared.ids.TypeId.{TypeId}
use Rattle.eds_base.specs.declared.refusal.Refusal.{Refusal}
use Rattle.eds_base.specs.declared.rule.Rule.TheVariants.{DuplicateEntry}
use Rattle.eds_base.specs.Reading.{same}
use Rattle.eds_base.specs.Refusals.{first_of, least}
use Rattle.eds_tree.specs.declared.tree.Node.{Node}
use Rattle.eds_names.specs.declared.declared.Item.{Item}
use Rattle.eds_names.specs.declared.declared.Item.TheVariants as item
use Rattle.eds_names.specs.declared.declared.Declared.{Declared}
use Rattle.eds_names.specs.Repeats.{is_among}
use Rattle.eds_names.specs.LookUp.{Names, AreApart, NamesDiffer, look_up}
use Rattle.std.proofs.lemmas.Slice.Eq.{bytes_eq-Decides}
use Rattle.eds_names.proofs.LookUpLemmas.{bytes_eq-sym}
use Rattle.eds_type_rows.specs.Places.{own_name, is_type, types, type_places, word_place}
use Rattle.eds_read_types.specs.declared.reference_row.Wanted.TheVariants.{AnyType}
use Rattle.eds_read_types.specs.Breaks.{broken_with}
use Rattle.eds_read_types.specs.References.{judged_text}
use Rattle.eds_type_rows.specs.ReadTypes.{word_type}
use Rattle.eds_read_types.specs.Unresolved.{unresolved_by, unresolved_at}
use Rattle.eds_read_types.specs.WrongKind.{kind_by, wrong_kind_by, wrong_kind_at}
use Rattle.eds_read_types.specs.DuplicateEntry.{repeat_of, repeats}
use Rattle.eds_type_rows.proofs.ListFacts.{append-none}

-- ---- no least, no breaks

pub least-none : (rs : List Refusal) → least rs ≡ None → rs ≡ []
least-none [] h = refl
least-none (r ∷ rs) h = go (least rs) h
  where
    go : (o : Option Refusal) → first_of (Some r) o ≡ None → r ∷ rs ≡ []
    go None k = cc
    go (Some q) k = cc

-- ---- the TYPE word

-- a word that finds a type has its number
abbrev pub IsKnown : List (List Node) → Names → Option (List ℕ) → Type 0
IsKnown trees names word = IfSome (word_type trees names word) (λ id. id.0 < length (types names)) × (is_some (word_type trees names word) ≡ is_some word)

pub known : (trees : List (List Node)) (names : Names) (word : Option (List ℕ)) → judged_text (unresolved_at trees names) (word_place trees) AnyType word ≡ [] → judged_text (wrong_kind_at trees names) (word_place trees) AnyType word ≡ [] → IsKnown trees names word
known trees names None h k = (tt, refl)
known trees names (Some text) h k = go (look_up names (word_place trees) text) refl h k
  where
    at : Place
    at = word_place trees

    sort : (id : TypeId) (o : Option Place) → slice_get (type_places names) id.0 ≡ o → kind_by trees at text AnyType o ≡ [] → id.0 < length (types names)
    sort id None e l = cc
    sort id (Some p) e l = subst (λ n. id.0 < n) (length-map (types names) (λ d. d.place)) (slice_get_within (type_places names) id.0 p e)

    go : (o : Option Item) → look_up names at text ≡ o → unresolved_by at text o ≡ [] → wrong_kind_by trees names at text AnyType o ≡ [] → IsKnown trees names (Some text)
    go None e u w = cc
    go (Some (item.Sort id)) e u w = rw e (sort id (slice_get (type_places names) id.0) refl w, refl)
    go (Some (item.Face id)) e u w = cc
    go (Some (item.Comp id)) e u w = cc

-- ---- the names of rows

neither : (a b : Bool) → (a || b) ≡ false → (a ≡ false) × (b ≡ false)
neither true b e = cc
neither false b e = (refl, e)

-- what is not among names is not among some of them
none-among : (ds : List Declared) (name : List ℕ) → is_among (map (λ d. d.name) ds) name ≡ false → is_among (map (λ d. d.name) (filter is_type ds)) name ≡ false
none-among [] name h = refl
none-among (d ∷ ds) name h =
    let parts = neither (same name d.name) (is_among (map (λ d. d.name) ds) name) h in
    go (is_type d) refl parts.0 (none-among ds name parts.1)
  where
    go : (b : Bool) → is_type d ≡ b → same name d.name ≡ false → is_among (map (λ d. d.name) (filter is_type ds)) name ≡ false → is_among (map (λ d. d.name) (filter is_type (d ∷ ds))) name ≡ false
    go true e other below = rw e (rw other below)
    go false e other below = rw e below

pub types-apart : (ds : List Declared) → NamesDiffer ds → AreApart (map (λ d. d.name) (filter is_type ds))
types-apart [] h = tt
types-apart (d ∷ ds) h = go (is_type d) refl (types-apart ds h.1)
  where
    go : (b : Bool) → is_type d ≡ b → AreApart (map (λ d. d.name) (filter is_type ds)) → AreApart (map (λ d. d.name) (filter is_type (d ∷ ds)))
    go true e below = rw e (none-among ds d.name h.0, below)
    go false e below = rw e below

-- ---- the names of entries

-- some names are not among others
abbrev pub NoneAmong : List (List ℕ) → List (List ℕ) → Type 0
NoneAmong before [] = Unit {0}
NoneAmong before (name ∷ names) = (is_among before name ≡ false) × NoneAmong before names

repeat_of-none : (before : List (List ℕ)) (at : Place) (name : List ℕ) → repeat_of before at name ≡ [] → is_among before name ≡ false
repeat_of-none before at name h = go (is_among before name) refl
  where
    go : (b : Bool) → is_among before name ≡ b → is_among before name ≡ false
    go false e = e
    go true e = let some : broken_with DuplicateEntry at name ∷ [] ≡ [] = sym (rw e refl) ∙ h in cc

fewer : (name : List ℕ) (before names : List (List ℕ)) → NoneAmong (name ∷ before) names → NoneAmong before names
fewer name before [] k = tt
fewer name before (m ∷ ms) k = ((neither (same m name) (is_among before m) k.0).1, fewer name before ms k.1)

not_among : (name : List ℕ) (before names : List (List ℕ)) → NoneAmong (name ∷ before) names → is_among names name ≡ false
not_among name before [] k = refl
not_among name before (m ∷ ms) k = let other : same name m ≡ false = bytes_eq-sym name m ∙ (neither (same m name) (is_among before m) k.0).0 in rw other (not_among name before ms k.1)

pub no_repeats : (trees : List (List Node)) (before : List (List ℕ)) (ats : List Place) → repeats trees before ats ≡ [] → NoneAmong before (map (own_name trees) ats) × AreApart (map (own_name trees) ats)
no_repeats trees before [] h = (tt, tt)
no_repeats trees before (at ∷ ats) h =
    let name = own_name trees at in
    let parts = append-none (repeat_of before at name) (repeats trees (name ∷ before) ats) h in
    let rest = no_repeats trees (name ∷ before) ats parts.1 in
    ((repeat_of-none before at name parts.0, fewer name before (map (own_name trees) ats) rest.0), (not_among name before (map (own_name trees) ats) rest.0, rest.1))

-- a name of these is none of the others
pub none_at : (before names : List (List ℕ)) (x : List ℕ) → NoneAmong before names → is_among names x ≡ true → is_among before x ≡ false
none_at before [] x k h = absurd cc
none_at before (name ∷ names) x k h = go (λ later. none_at before names x k.1 later) (same x name) refl h
  where
    go : (is_among names x ≡ true → is_among before x ≡ false) → (b : Bool) → same x name ≡ b → (b || is_among names x) ≡ true → is_among before x ≡ false
    go rest true e g = let is : x ≡ name = (bytes_eq-Decides x name).0 e in ap (is_among before) is ∙ k.0
    go rest false e g = rest g

-- ---- what an answer has

pub same_presence : {A B : Type 0} (f : A → B) (o : Option A) → is_some (option_map f o) ≡ is_some o
same_presence f None = refl
same_presence f (Some x) = refl
