-- The JSON of a value is read as that value.
use Rattle.std.proofs.Common.{◌≡◌, ℕ, zero, suc, ◌+◌, ◌*◌, ◌<◌, ◌≤◌, ◌&&◌, ℤ, pos, negsuc, List, [], ◌∷◌, length, map, codes, Bool, true, false, is_some, Option, Some, None, Result, Ok, All, refl, sym, ap, subst, ◌∙◌, arith, lit<, lit≤}
use Rattle.std.specs.Prelude.{slice_get, option_map}
use Rattle.std.proofs.lemmas.Bool.{and_from, eq-eqb, false_from_ne_true}
use Rattle.std.proofs.lemmas.List.{length-map}
use Rattle.std.proofs.lemmas.List.Elements.{All-head, All-tail}
use Rattle.std.specs.List.{AllByRecursion}
use Rattle.std.specs.Result.{result_ok}
use Rattle.std.specs.Str.{is_utf8}
use Rattle.hex.specs.Hex.{IsBytes, encode_lower}
use Rattle.hex.proofs.HexLemmas.{decode_of-encode_lower}
use Rattle.serde_json.specs.Data.{Data, string, object, Members, no_members, put, depth}
use Rattle.serde_json.specs.Events.{members_len}
use Rattle.serde_json.specs.Find.{as_integer, get_member, of_integer}
use Rattle.serde_json.specs.Read.{read}
use Rattle.serde_json.specs.View.{items_of}
use Rattle.serde_json.proofs.Views.{get_member-put, get_member-put_other}
use Rattle.eds_base.specs.Answering.{◌>>=◌, or_stop}
use Rattle.eds_base.specs.Reading as reading
use Rattle.eds_base.specs.Reading.{only, same}
use Rattle.eds_base.specs.declared.ids.TypeId.{TypeId}
use Rattle.eds_base.specs.declared.fault.Step.{Step}
use Rattle.eds_bits.specs.Bits.{Bits, octets_of}
use Rattle.eds_bits.proofs.OctetLaws.{length-octets_of, octets_of_below}
use Rattle.eds_bits.specs.Lists.{Has}
use Rattle.eds_bits.specs.Style.{canonical}
use Rattle.eds_types.specs.declared.row.TypeRow.{TypeRow}
use Rattle.eds_types.specs.declared.row.Container.{Container}
use Rattle.eds_types.specs.declared.row.Kind.{Kind}
use Rattle.eds_types.specs.declared.row.Kind.TheVariants as kind
use Rattle.eds_types.specs.PackedSizes.{has_bits, is_filled}
use Rattle.eds_types.specs.Plain.{Plain, num, label, truth, text, bits, items, fields, Plains, none, more, list_of, plains_of}
use Rattle.eds_types.specs.Rows.{Table, container_of, container_in, concrete_in, is_concrete, sequence}
use Rattle.eds_types.specs.Rules.{AreDistinct, KeepsRules, KindKeeps}
use Rattle.eds_types.specs.Spelling.{BinHas, ContainerSpells, KindSpells, SpellsWithin, started}
use Rattle.eds_types.proofs.FieldTypes.{sequence_placed}
use Rattle.eds_types.proofs.PackedSizes.{filled_true, has_true}
use Rattle.eds_types.proofs.SameValues.{plains_of-list_of, same_text-is, text_same}
use Rattle.eds_value.specs.Entries.{Entry, arguments, entries_along}
use Rattle.eds_value.specs.Held.{AreHeld, AllHeld}
use Rattle.eds_value.specs.Json.{arguments_in, value_in}
use Rattle.eds_value.specs.JsonOfValue.{arguments_data, json_of_value, json_of_all, type_name, name_in, with_values}
use Rattle.eds_value.specs.Laws.{AreNamed, AreOfTypes, ArgumentsReadBack, HasNoTypeEntry, IsOfType, ReadsBack}
use Rattle.eds_value.specs.ValueOfJson.{Shaped, arguments_of_json, behind_entry, members_for, binary_by, binary_in, bits_for, container_for, container_named, fields_in, has_members, is_container, items_from, member_value, member_values, named_from, value_by, value_in_row, value_of_json, value_within}
use Rattle.eds_value.proofs.Depths.{AreWithin, items_deep, values_depth}
use Rattle.eds_value.proofs.EntryValues.{IsFine, IsFineAs, AreValues, length-values, differ_from, items_fine, parts_add}
use Rattle.eds_value.proofs.HeldNumbers.{number_held}
use Rattle.eds_value.proofs.MembersOfValues.{Differ, Lacks, NoneStand, Stand, differ_from as names_differ, each, kept, members_len-values, stand}
use Rattle.eds_value.proofs.WithValues.{all_mapped}

-- ---- numbers and bits

integer_of : (n : ℤ) → as_integer (of_integer n) ≡ Some n
integer_of (pos n) = refl
integer_of (negsuc n) = refl

bytes : (o : List ℕ) → All (λ x. x < 256) o → IsBytes o
bytes [] h i = lit< tt
bytes (x ∷ o) h zero = All-head (λ x. x < 256) x o h
bytes (x ∷ o) h (suc i) = bytes o (All-tail (λ x. x < 256) x o h) i

bits_there : (n : ℕ) (free : Bool) (b : Bits) → BinHas n free (length b) → bits_for n free (octets_of b) ≡ length b
bits_there n false b h = sym h
bits_there n true b h = let e = (h.1).1 in omega (arith, length-octets_of b, e)

binary_read : (n : ℕ) (free : Bool) (b : Bits) → BinHas n free (length b) → binary_in n free (string (encode_lower (octets_of b))) ≡ Some (bits (length b) (octets_of b))
binary_read n free b h =
    ap (λ r. reading.◌>>=◌ (result_ok r) (binary_by n free)) (decode_of-encode_lower (octets_of b) (bytes (octets_of b) (octets_of_below b)))
    ∙ ap (λ m. only (has_bits n free m && is_filled m (octets_of b)) (bits m (octets_of b))) (bits_there n free b h)
    ∙ ap (λ x. only x (bits (length b) (octets_of b))) (and_from (has_bits n free (length b)) (is_filled (length b) (octets_of b)) (has_true n free (length b) h) (filled_true (length b) (octets_of b) (b, refl, refl)))

-- ---- values in values

behind_ok : (s : Option Step) (v : Plain) → behind_entry s (Ok v) ≡ Ok v
behind_ok None v = refl
behind_ok (Some s) v = refl

module _ (t : Table) (n : ℕ) (bare : HasNoTypeEntry t) (m : ℕ) (le : n ≤ m) where
  abbrev V : ℕ → Data → Shaped Plain
  V = value_within m t

  items_read : (id j : ℕ) (vs : List Plain) → AllByRecursion (IsFine t n id) vs → items_from t V id j (items_of (map (json_of_value t) vs)) ≡ Ok vs
  items_read id j [] h = refl
  items_read id j (v ∷ vs) h = rw ((h.0).reads bare m le, items_read id (j + 1) vs h.1) refl

  entry_read : (ms : Members) (e : Entry) (v : Plain) (list : Bool) → e.is_list ≡ list → IsFineAs t n list e.id v → get_member e.name ms ≡ Some (json_of_value t v) → member_value t V (object ms) e ≡ Ok v
  entry_read ms e v false is h g = rw (g, is) (ap (behind_entry e.step) (h.reads bare m le) ∙ behind_ok e.step v)
  entry_read ms e v true is h g =
      rw (g, is, h.1, all_mapped t h.0) (ap (λ (r : Shaped (List Plain)). behind_entry e.step (r >>= λ vs. Ok (items (plains_of vs)))) (items_read e.id 0 (list_of h.0) h.2) ∙ behind_ok e.step (items (plains_of (list_of h.0))) ∙ ap (λ ws. Ok (items ws)) (plains_of-list_of h.0))

  members_read : (ms : Members) (es : List Entry) (vs : List Plain) → AreValues t n es vs → Stand ms es (map (json_of_value t) vs) → member_values t V (object ms) es ≡ Ok vs
  members_read ms [] [] h s = refl
  members_read ms [] (v ∷ vs) h s = absurd h
  members_read ms (e ∷ es) [] h s = absurd h
  members_read ms (e ∷ es) (v ∷ vs) h s = rw (entry_read ms e v e.is_list refl h.0 s.0, members_read ms es vs h.1 s.1) refl

-- ---- the container

differs : (row other : TypeRow) (rows : List TypeRow) (k : ℕ) → (Has (map (λ (row : TypeRow). row.name) rows) other.name → ⊥) → slice_get rows k ≡ Some row → same other.name row.name ≡ false
differs row other rows k h e = false_from_ne_true (same other.name row.name) (λ s. h (subst (Has (map (λ (row : TypeRow). row.name) rows)) (sym (same_text-is other.name row.name s)) (at rows k e)))
  where
    at : (rows : List TypeRow) (k : ℕ) → slice_get rows k ≡ Some row → Has (map (λ (row : TypeRow). row.name) rows) row.name
    at [] k e = absurd cc
    at (r ∷ rows) zero e = let q : r ≡ row = cc in record { before = []; after = map (λ (row : TypeRow). row.name) rows; is = ap (λ (x : TypeRow). x.name ∷ map (λ (row : TypeRow). row.name) rows) q }
    at (r ∷ rows) (suc k) e = let h = at rows k e in record { before = r.name ∷ h.before; after = h.after; is = ap (λ (l : List (List ℕ)). r.name ∷ l) h.is }

and_false : (a b : Bool) → b ≡ false → (a && b) ≡ false
and_false true b h = h
and_false false b h = refl

pub named_at : (rows : List TypeRow) (k i : ℕ) (row : TypeRow) → AreDistinct (map (λ (row : TypeRow). row.name) rows) → slice_get rows k ≡ Some row → is_container row ≡ true → named_from row.name rows i ≡ Some (i + k)
named_at [] k i row d e c = absurd cc
named_at (r ∷ rows) zero i row d e c =
    let q : r ≡ row = cc in
    let here : (is_container r && same r.name row.name) ≡ true = rw (q, c) (text_same row.name) in
    let at : i ≡ i + 0 = omega arith in
    rw here (ap (λ (n : ℕ). Some n) at)
named_at (r ∷ rows) (suc k) i row d e c =
    let past : (is_container r && same r.name row.name) ≡ false = and_false (is_container r) _ (differs row r rows k d.0 e) in
    let at : (i + 1) + k ≡ i + suc k = omega arith in
    rw past (named_at rows k (i + 1) row d.1 e c ∙ ap (λ (n : ℕ). Some n) at)

-- ---- fields

concrete_row : (t : Table) (k : ℕ) → is_concrete t k ≡ true → (row : TypeRow) × (c : Container) × (slice_get t k ≡ Some row) × (container_in (Some row) ≡ Some c)
concrete_row t k h = go (slice_get t k) refl h
  where
    con : (row : TypeRow) (o : Option Container) → slice_get t k ≡ Some row → container_in (Some row) ≡ o → concrete_in o ≡ true → (row : TypeRow) × (c : Container) × (slice_get t k ≡ Some row) × (container_in (Some row) ≡ Some c)
    con row None e f h = absurd cc
    con row (Some c) e f h = (row, c, e, f)

    go : (o : Option TypeRow) → slice_get t k ≡ o → concrete_in (container_in o) ≡ true → (row : TypeRow) × (c : Container) × (slice_get t k ≡ Some row) × (container_in (Some row) ≡ Some c)
    go None e h = absurd cc
    go (Some row) e h = con row (container_in (Some row)) e refl h

pub concrete_container : (t : Table) (k : ℕ) → is_concrete t k ≡ true → (c : Container) × (container_of t k ≡ Some c)
concrete_container t k h = let con = concrete_row t k h in (con.1, ap container_in con.2 ∙ con.3)

-- the container is there, its entries have different names, and the values are theirs
pub record HasValues (t : Table) (n k : ℕ) (vs : List Plain) : Type 0 where
  pub row : TypeRow
  pub is : slice_get t k ≡ Some row
  pub container : is_container row ≡ true
  pub differ : Differ (entries_along t k)
  pub values : AreValues t n (entries_along t k) vs

values_of_container : (t : Table) (n s k : ℕ) (f : List Plain) (b : Bits) → KeepsRules t → ((id : ℕ) (v : Plain) (b : Bits) → SpellsWithin n canonical t id v b → IsFine t n id v) → ContainerSpells canonical t (SpellsWithin n canonical t) s k f b → HasValues t n k f
values_of_container t n s k f b rules fine h =
    let con = concrete_row t k h.concrete in
    let vs = parts_add t n fine (sequence t k) started h.end b (sequence_placed t k) h.parts in
    record {
      row = con.0;
      is = con.2;
      container = ap is_some con.3;
      differ = differ_from t (sequence t k) (sequence_placed t k) (rules.sequences k).names;
      values = subst (AreValues t n (entries_along t k)) (sym (h.values ∙ vs.1)) vs.2;
    }

none_stand : (d : Data) (es : List Entry) → Lacks (codes "$type") es → NoneStand (put (codes "$type") d no_members) es
none_stand d [] h = tt
none_stand d (e ∷ es) h = (get_member-put_other e.name (codes "$type") d no_members h.0, none_stand d es h.1)

module _ (t : Table) (rules : KeepsRules t) (n k : ℕ) (vs : List Plain) (h : HasValues t n k vs) (bare : HasNoTypeEntry t) where
  abbrev ds : List Data
  ds = map (json_of_value t) vs

  abbrev first : Members
  first = put (codes "$type") (string (type_name t k)) no_members

  abbrev all : Members
  all = with_values (entries_along t k) ds first

  many : length ds ≡ length (entries_along t k)
  many = length-map vs (json_of_value t) ∙ length-values t n (entries_along t k) vs h.values

  type_member : get_member (codes "$type") all ≡ Some (string (type_name t k))
  type_member = kept (codes "$type") (entries_along t k) ds first (bare k) ∙ get_member-put (codes "$type") (string (type_name t k)) no_members

  stands : Stand all (entries_along t k) ds
  stands = stand (entries_along t k) ds first h.differ many

  count : members_len all ≡ length (entries_along t k) + 1
  count = members_len-values (entries_along t k) ds first h.differ many (none_stand (string (type_name t k)) (entries_along t k) (bare k))

  whole_object : has_members (members_for (object all) (entries_along t k)) (object all) (entries_along t k) ≡ true
  unfolding has_members
  whole_object = rw (type_member, each all (entries_along t k) ds stands) (ap (λ (b : Bool). b && true) (eq-eqb (members_len all) (length (entries_along t k) + 1) count))

  named_container : (id : ℕ) → container_named t id (object all) ≡ Some k
  named_container id =
      let at : 0 + k ≡ k = omega arith in
      rw type_member (ap (λ (word : List ℕ). named_from word t 0) (ap name_in h.is) ∙ named_at t k 0 h.row rules.names h.is h.container ∙ ap (λ (n : ℕ). Some n) at)

  container : (id : ℕ) → container_for t id (object all) ≡ Some k
  unfolding container_for
  container id = rw (named_container id, whole_object) refl

  fields_read : (m : ℕ) → n ≤ m → (id : ℕ) → fields_in t (value_within m t) id (object all) ≡ Ok (fields k (plains_of vs))
  unfolding fields_in
  fields_read m le id = rw (container id, members_read t n bare m le all (entries_along t k) vs h.values stands) refl

-- ---- what is held, and how deep it is

held_all : (t : Table) (n id : ℕ) (vs : Plains) → AllByRecursion (IsFine t n id) (list_of vs) → AllHeld vs
held_all t n id none h = tt
held_all t n id (more v vs) h = ((h.0).held, held_all t n id vs h.1)

deep_all : (t : Table) (n id : ℕ) (vs : Plains) → AllByRecursion (IsFine t n id) (list_of vs) → AreWithin (2 * n) (json_of_all t vs)
deep_all t n id none h = tt
deep_all t n id (more v vs) h = ((h.0).deep, deep_all t n id vs h.1)

held_by : (t : Table) (n : ℕ) (list : Bool) (id : ℕ) (v : Plain) → IsFineAs t n list id v → AreHeld v
held_by t n false id v h = h.held
held_by t n true id v h = subst AreHeld (sym h.1) (held_all t n id h.0 h.2)

deep_by : (t : Table) (n : ℕ) (list : Bool) (id : ℕ) (v : Plain) → IsFineAs t n list id v → depth (json_of_value t v) ≤ 2 * n + 1
deep_by t n false id v h = let d = h.deep in omega arith
deep_by t n true id v h = subst (λ w. depth (json_of_value t w) ≤ 2 * n + 1) (sym h.1) (let d = items_deep (2 * n) (json_of_all t h.0) (deep_all t n id h.0 h.2) in omega arith)

held_fields : (t : Table) (n : ℕ) (es : List Entry) (vs : Plains) → AreValues t n es (list_of vs) → AllHeld vs
held_fields t n [] none h = tt
held_fields t n [] (more v vs) h = absurd h
held_fields t n (e ∷ es) none h = tt
held_fields t n (e ∷ es) (more v vs) h = (held_by t n e.is_list e.id v h.0, held_fields t n es vs h.1)

deep_fields : (t : Table) (n : ℕ) (es : List Entry) (vs : Plains) → AreValues t n es (list_of vs) → AreWithin (2 * n + 1) (json_of_all t vs)
deep_fields t n [] none h = tt
deep_fields t n [] (more v vs) h = absurd h
deep_fields t n (e ∷ es) none h = tt
deep_fields t n (e ∷ es) (more v vs) h = (deep_by t n e.is_list e.id v h.0, deep_fields t n es vs h.1)

-- ---- any type

-- what is known of a value of a kind
record IsFineKind (t : Table) (n id : ℕ) (k : Kind) (v : Plain) : Type 0 where
  reads : HasNoTypeEntry t → (m : ℕ) → n ≤ m → value_by t (value_within m t) id k (json_of_value t v) ≡ Ok v
  held : AreHeld v
  deep : depth (json_of_value t v) ≤ 2 * n + 2

module _ (t : Table) (rules : KeepsRules t) (n : ℕ) (fine : (id : ℕ) (v : Plain) (b : Bits) → SpellsWithin n canonical t id v b → IsFine t n id v) (id : ℕ) where
  abbrev C : ℕ → Plain → Bits → Type 0
  C = SpellsWithin n canonical t

  as_is : (k : Kind) (v w : Plain) → v ≡ w → IsFineKind t n id k w → IsFineKind t n id k v
  as_is k v w e h = subst (IsFineKind t n id k) (sym e) h

  fields_fine : (c : Container) (k : ℕ) (f : Plains) (b : Bits) → ContainerSpells canonical t C id k (list_of f) b → IsFineKind t n id (kind.Con c) (fields k f)
  fields_fine c k f b h =
      let has = values_of_container t n id k (list_of f) b rules fine h in
      record {
        reads = λ bare m le. ap (λ ds. fields_in t (value_within m t) id (object (with_values (entries_along t k) ds (put (codes "$type") (string (type_name t k)) no_members)))) (all_mapped t f) ∙ fields_read t rules n k (list_of f) has bare m le id ∙ ap (λ (fs : Plains). Ok (fields k fs)) (plains_of-list_of f);
        held = held_fields t n (entries_along t k) f has.values;
        deep = (let d = values_depth (2 * n + 1) (entries_along t k) (json_of_all t f) (put (codes "$type") (string (type_name t k)) no_members) (deep_fields t n (entries_along t k) f has.values) (omega arith) in omega arith);
      }

  items_kind : (item : TypeId) (c : ℕ) (vs : Plains) → AllByRecursion (IsFine t n item.0) (list_of vs) → IsFineKind t n id (kind.Arr item c) (items vs)
  items_kind item c vs h = record {
    reads = λ bare m le. ap (λ ds. items_from t (value_within m t) item.0 0 (items_of ds) >>= λ ws. Ok (items (plains_of ws))) (all_mapped t vs) ∙ ap (λ (r : Shaped (List Plain)). r >>= λ ws. Ok (items (plains_of ws))) (items_read t n bare m le item.0 0 (list_of vs) h) ∙ ap (λ ws. Ok (items ws)) (plains_of-list_of vs);
    held = held_all t n item.0 vs h;
    deep = (let d = items_deep (2 * n) (json_of_all t vs) (deep_all t n item.0 vs h) in omega arith);
  }

  kind_fine : (k : Kind) (v : Plain) (b : Bits) → KindKeeps k → KindSpells canonical t C id k v b → IsFineKind t n id k v
  kind_fine (kind.Int form spans) v b keeps h = as_is (kind.Int form spans) v (num h.0) h.1 (record { reads = λ bare m le. ap (λ o. or_stop [] (option_map num o)) (integer_of h.0); held = number_held form h.0 (keeps.of_form h.0 h.2); deep = omega arith })
  kind_fine (kind.Enum form listing) v b keeps h = as_is (kind.Enum form listing) v (label h.0) h.2 (record { reads = λ bare m le. refl; held = tt; deep = omega arith })
  kind_fine (kind.Bool form) v b keeps h = as_is (kind.Bool form) v (truth h.0) h.1 (record { reads = λ bare m le. refl; held = tt; deep = omega arith })
  kind_fine (kind.Str form) v b keeps h = as_is (kind.Str form) v (text h.0) h.1 (record { reads = λ bare m le. refl; held = tt; deep = omega arith })
  kind_fine (kind.Bin c free) v b keeps h = as_is (kind.Bin c free) v (bits (length b) (octets_of b)) h.1 (record { reads = λ bare m le. ap (or_stop []) (binary_read c free b h.0); held = tt; deep = omega arith })
  kind_fine (kind.Arr item c) v b keeps h = as_is (kind.Arr item c) v (items h.0) h.1 (items_kind item c h.0 (items_fine t n fine item.0 (list_of h.0) b h.3))
  kind_fine (kind.Con c) v b keeps h = as_is (kind.Con c) v (fields h.0 h.1) h.2 (fields_fine c h.0 h.1 b h.3)

-- a value of the row's kind, where more may be nested
row_read : (t : Table) (n m id : ℕ) (row : TypeRow) (v : Plain) → slice_get t id ≡ Some row → suc n ≤ m
    → ((m : ℕ) → n ≤ m → value_by t (value_within m t) id row.kind (json_of_value t v) ≡ Ok v) → value_within m t id (json_of_value t v) ≡ Ok v
unfolding value_within
row_read t n zero id row v is le reads = absurd (omega arith)
row_read t n (suc m) id row v is le reads = ap (λ (o : Option TypeRow). value_in_row t (value_within m t) id o (json_of_value t v)) is ∙ reads m (omega arith)

all_fine : (t : Table) → KeepsRules t → (n id : ℕ) (v : Plain) (b : Bits) → SpellsWithin n canonical t id v b → IsFine t n id v
unfolding SpellsWithin value_within
all_fine t rules zero id v b h = absurd h
all_fine t rules (suc n) id v b h =
    let k = kind_fine t rules n (all_fine t rules n) id (h.0).kind v b (rules.kinds id h.0 h.1) h.2 in
    record {
      reads = λ bare m le. row_read t n m id h.0 v h.1 le (k.reads bare);
      held = k.held;
      deep = (let d = k.deep in omega arith);
    }

pub reads_back : ReadsBack
reads_back t id v rules bare value = (all_fine t rules 32 id v value.0 value.1).reads bare 128 (lit≤ tt)

-- a value of a type has only numbers that JSON holds
pub value_held : (t : Table) (id : ℕ) (v : Plain) → KeepsRules t → IsOfType t id v → AreHeld v
value_held t id v rules value = (all_fine t rules 32 id v value.0 value.1).held

-- its JSON nests no deeper than is read
pub value_deep : (t : Table) (id : ℕ) (v : Plain) → KeepsRules t → IsOfType t id v → depth (json_of_value t v) ≤ 64
value_deep t id v rules value = let d = (all_fine t rules 32 id v value.0 value.1).deep in omega arith

-- the value of a text that is read as this JSON
pub value_read : (t : Table) (id : ℕ) (v : Plain) (octets : List ℕ) (d : Data) → is_utf8 octets ≡ true → read octets ≡ Some d → d ≡ json_of_value t v → ◌≡◌ {A = Result Plain (List Step)} (value_of_json t id (json_of_value t v)) (Ok v) → value_in t id octets ≡ Ok v
value_read t id v octets d valid reads is back = rw (valid, reads, is, back) refl

-- ---- arguments

-- the values are those of the arguments
arguments_fine : (t : Table) → KeepsRules t → (fs : List (List ℕ × TypeId)) (vs : List Plain) → AreOfTypes t fs vs → AreValues t 32 (arguments fs) vs
arguments_fine t rules [] [] h = tt
arguments_fine t rules [] (v ∷ vs) h = absurd h
arguments_fine t rules (f ∷ gs) [] h = absurd h
arguments_fine t rules (f ∷ gs) (v ∷ vs) h = (all_fine t rules 32 f.1.0 v (h.0).0 (h.0).1, arguments_fine t rules gs vs h.1)

names_of : (fs : List (List ℕ × TypeId)) → map (λ (e : Entry). e.name) (arguments fs) ≡ map (λ f. f.0) fs
names_of [] = refl
names_of (f ∷ gs) = ap (λ (l : List (List ℕ)). f.0 ∷ l) (names_of gs)

none_stand_yet : (es : List Entry) → NoneStand no_members es
none_stand_yet [] = tt
none_stand_yet (e ∷ es) = (refl, none_stand_yet es)

module _ (t : Table) (rules : KeepsRules t) (fs : List (List ℕ × TypeId)) (vs : List Plain) (named : AreNamed fs) (h : AreOfTypes t fs vs) where
  abbrev declared : List Entry
  declared = arguments fs

  abbrev js : List Data
  js = map (json_of_value t) vs

  abbrev whole : Members
  whole = with_values declared js no_members

  values : AreValues t 32 declared vs
  values = arguments_fine t rules fs vs h

  differ : Differ declared
  differ = names_differ declared (subst AreDistinct (sym (names_of fs)) named)

  as_many : length js ≡ length declared
  as_many = length-map vs (json_of_value t) ∙ length-values t 32 declared vs values

  stand_there : Stand whole declared js
  stand_there = stand declared js no_members differ as_many

  len : members_len whole ≡ length declared
  len = members_len-values declared js no_members differ as_many (none_stand_yet declared) ∙ (let e : length declared + 0 ≡ length declared = omega arith in e)

  whole_arguments : has_members (length declared) (object whole) declared ≡ true
  unfolding has_members
  whole_arguments = rw (each whole declared js stand_there) (ap (λ (b : Bool). b && true) (eq-eqb (members_len whole) (length declared) len))

  arguments_read : HasNoTypeEntry t → arguments_of_json t declared (arguments_data t declared vs) ≡ Ok vs
  unfolding arguments_of_json
  arguments_read bare = rw whole_arguments (members_read t 32 bare 128 (lit≤ tt) whole declared vs values stand_there)

pub arguments_read_back : ArgumentsReadBack
arguments_read_back t fs vs rules bare named h = arguments_read t rules fs vs named h bare

-- what is said of one value holds of each
held_values : (t : Table) (es : List Entry) (vs : List Plain) → AreValues t 32 es vs → AllByRecursion AreHeld vs
held_values t [] [] h = tt
held_values t [] (v ∷ vs) h = absurd h
held_values t (e ∷ es) [] h = absurd h
held_values t (e ∷ es) (v ∷ vs) h = (held_by t 32 e.is_list e.id v h.0, held_values t es vs h.1)

deep_values : (t : Table) (es : List Entry) (vs : List Plain) → AreValues t 32 es vs → AreWithin 65 (map (json_of_value t) vs)
deep_values t [] [] h = tt
deep_values t [] (v ∷ vs) h = absurd h
deep_values t (e ∷ es) [] h = absurd h
deep_values t (e ∷ es) (v ∷ vs) h = (deep_by t 32 e.is_list e.id v h.0, deep_values t es vs h.1)

pub arguments_held : (t : Table) (fs : List (List ℕ × TypeId)) (vs : List Plain) → KeepsRules t → AreOfTypes t fs vs → AllByRecursion AreHeld vs
arguments_held t fs vs rules h = held_values t (arguments fs) vs (arguments_fine t rules fs vs h)

pub arguments_deep : (t : Table) (fs : List (List ℕ × TypeId)) (vs : List Plain) → KeepsRules t → AreOfTypes t fs vs → depth (arguments_data t (arguments fs) vs) ≤ 66
arguments_deep t fs vs rules h =
    let d = values_depth 65 (arguments fs) (map (json_of_value t) vs) no_members (deep_values t (arguments fs) vs (arguments_fine t rules fs vs h)) (omega arith) in omega arith

pub arguments_read_as : (t : Table) (fs : List (List ℕ × TypeId)) (vs : List Plain) (octets : List ℕ) (d : Data) → is_utf8 octets ≡ true → read octets ≡ Some d → d ≡ arguments_data t (arguments fs) vs → ◌≡◌ {A = Result (List Plain) (List Step)} (arguments_of_json t (arguments fs) (arguments_data t (arguments fs) vs)) (Ok vs) → arguments_in t fs octets ≡ Ok vs
arguments_read_as t fs vs octets d valid reads is back = rw (valid, reads, is, back) refl
