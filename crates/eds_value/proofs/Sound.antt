-- The JSON of values is sound, and sound JSON is read as it was written.
use Rattle.std.proofs.Common.{◌≡◌, ℕ, suc, max, ◌≤◌, List, [], ◌∷◌, map, codes, Ordering, Less, Equal, Greater, nat_cmp, Option, Some, option_map, option_and_then, pos, negsuc, refl, sym, ap, ap₂, ◌∙◌, arith, append-nil}
use Rattle.std.proofs.lemmas.Cmp.{nat_list_cmp_total}
use Rattle.std.proofs.lemmas.Int.{ints}
use Rattle.std.specs.List.{AllByRecursion}
use Rattle.std.specs.Cmp.Lexicographic.{slice_cmp}
use Rattle.std.specs.Ordering.{match_ordering, ordering_reverse}
use Rattle.json.specs.Token.{Token}
use Rattle.json.specs.Lex.{tokens}
use Rattle.json.specs.Json as json
use Rattle.json.specs.Tree as tree
use Rattle.json.proofs.Printed.Trees.{value-json_tokens}
use Rattle.serde_json.specs.Data.{Num, unsigned, negative, float, Data, null, boolean, number, string, array, object, Items, no_items, item, Members, no_members, member, put, depth, items_depth, members_depth}
use Rattle.serde_json.specs.Read.{number_of, of_json, of_items, of_members, read, max_depth}
use Rattle.serde_json.specs.View.{items_of}
use Rattle.serde_json.specs.Written.{number_text, outline, items_outline, members_outline}
use Rattle.serde_json.proofs.Numbers.{number_of-decimal, number_of-negative}
use Rattle.eds_types.specs.Plain.{Plain, num, label, truth, text, bits, items, fields, Plains, none, more}
use Rattle.eds_types.specs.Rows.{Table}
use Rattle.eds_value.specs.Entries.{Entry, entries_along}
use Rattle.eds_value.specs.Held.{AreHeld, AllHeld}
use Rattle.eds_value.specs.JsonOfValue.{arguments_data, json_of_all, json_of_value, type_name, with_values}
use Rattle.eds_value.specs.Written.{Ascend, AreSound, HoldSound, IsSound, IsUnder, IsWhole, tokens_of}

-- ---- names in order

pub less_after : (k l : List ℕ) → slice_cmp nat_cmp k l ≡ Greater → slice_cmp nat_cmp l k ≡ Less
less_after k l h = nat_list_cmp_total.antisymm l k ∙ ap ordering_reverse h

greater_after : (k l : List ℕ) → slice_cmp nat_cmp k l ≡ Less → slice_cmp nat_cmp l k ≡ Greater
greater_after k l h = nat_list_cmp_total.antisymm l k ∙ ap ordering_reverse h

pub under_all : (k l : List ℕ) (ms : Members) → slice_cmp nat_cmp k l ≡ Less → IsUnder l ms → IsUnder k ms
under_all k l no_members h u = tt
under_all k l (member m d ms) h u = (nat_list_cmp_total.trans k l m h u.0, under_all k l ms h u.1)

chosen_under : (o : Ordering) (q : List ℕ) (a b c : Members) → IsUnder q a → IsUnder q b → IsUnder q c → IsUnder q (match_ordering o a b c)
chosen_under Less q a b c x y z = x
chosen_under Equal q a b c x y z = y
chosen_under Greater q a b c x y z = z

put_under : (q k : List ℕ) (d : Data) (ms : Members) → slice_cmp nat_cmp q k ≡ Less → IsUnder q ms → IsUnder q (put k d ms)
put_under q k d no_members h u = (h, tt)
put_under q k d (member l e ms) h u =
    chosen_under (slice_cmp nat_cmp k l) q (member k d (member l e ms)) (member l d ms) (member l e (put k d ms)) (h, u) u (u.0, put_under q k d ms h u.1)

chosen_ascend : (o : Ordering) (k l : List ℕ) (d e : Data) (ms : Members) → slice_cmp nat_cmp k l ≡ o → Ascend (member l e ms) → Ascend (put k d ms)
    → Ascend (match_ordering o (member k d (member l e ms)) (member l d ms) (member l e (put k d ms)))
chosen_ascend Less k l d e ms is a later = ((is, under_all k l ms is a.0), a)
chosen_ascend Equal k l d e ms is a later = a
chosen_ascend Greater k l d e ms is a later = (put_under l k d ms (less_after k l is) a.0, later)

pub put_ascend : (k : List ℕ) (d : Data) (ms : Members) → Ascend ms → Ascend (put k d ms)
put_ascend k d no_members a = (tt, tt)
put_ascend k d (member l e ms) a = chosen_ascend (slice_cmp nat_cmp k l) k l d e ms refl a (put_ascend k d ms a.1)

-- ---- sound JSON

chosen_hold : (o : Ordering) (a b c : Members) → HoldSound a → HoldSound b → HoldSound c → HoldSound (match_ordering o a b c)
chosen_hold Less a b c x y z = x
chosen_hold Equal a b c x y z = y
chosen_hold Greater a b c x y z = z

put_hold : (k : List ℕ) (d : Data) (ms : Members) → IsSound d → HoldSound ms → HoldSound (put k d ms)
put_hold k d no_members h s = (h, tt)
put_hold k d (member l e ms) h s = chosen_hold (slice_cmp nat_cmp k l) (member k d (member l e ms)) (member l d ms) (member l e (put k d ms)) (h, s) (h, s.1) (s.0, put_hold k d ms h s.1)

with_sound : (es : List Entry) (ds : List Data) (ms : Members) → AllByRecursion IsSound ds → IsSound (object ms) → IsSound (object (with_values es ds ms))
with_sound [] ds ms h s = s
with_sound (e ∷ es) [] ms h s = s
with_sound (e ∷ es) (d ∷ ds) ms h s = with_sound es ds (put e.name d ms) h.1 (put_ascend e.name d ms s.0, put_hold e.name d ms h.0 s.1)

items_sound : (ds : List Data) → AllByRecursion IsSound ds → AreSound (items_of ds)
items_sound [] h = tt
items_sound (d ∷ ds) h = (h.0, items_sound ds h.1)

mutual
  -- the JSON of a value whose numbers JSON holds
  pub value_sound : (t : Table) (v : Plain) → AreHeld v → IsSound (json_of_value t v)
  value_sound t (num (pos n)) h = let p = h.1 in omega (arith, ints)
  value_sound t (num (negsuc n)) h = let p = h.0 in omega (arith, ints)
  value_sound t (label l) h = tt
  value_sound t (truth b) h = tt
  value_sound t (text s) h = tt
  value_sound t (bits n o) h = tt
  value_sound t (items vs) h = items_sound (json_of_all t vs) (all_sound t vs h)
  value_sound t (fields k vs) h = with_sound (entries_along t k) (json_of_all t vs) (put (codes "$type") (string (type_name t k)) no_members) (all_sound t vs h) ((tt, tt), (tt, tt))

  all_sound : (t : Table) (vs : Plains) → AllHeld vs → AllByRecursion IsSound (json_of_all t vs)
  all_sound t none h = tt
  all_sound t (more v vs) h = (value_sound t v h.0, all_sound t vs h.1)

values_sound : (t : Table) (vs : List Plain) → AllByRecursion AreHeld vs → AllByRecursion IsSound (map (json_of_value t) vs)
values_sound t [] h = tt
values_sound t (v ∷ vs) h = (value_sound t v h.0, values_sound t vs h.1)

pub arguments_sound : (t : Table) (es : List Entry) (vs : List Plain) → AllByRecursion AreHeld vs → IsSound (arguments_data t es vs)
arguments_sound t es vs h = with_sound es (map (json_of_value t) vs) no_members (values_sound t vs h) (tt, tt)

-- ---- members put in one after another

abbrev pub puts : Members → Members → Members
puts no_members found = found
puts (member k d ms) found = puts ms (put k d found)

put_past : (l k : List ℕ) (e d : Data) (found : Members) → slice_cmp nat_cmp l k ≡ Greater → put l e (member k d found) ≡ member k d (put l e found)
put_past l k e d found is = rw is refl

puts_first : (k : List ℕ) (d : Data) (ms found : Members) → IsUnder k ms → puts ms (member k d found) ≡ member k d (puts ms found)
puts_first k d no_members found u = refl
puts_first k d (member l e ms) found u = ap (puts ms) (put_past l k e d found (greater_after k l u.0)) ∙ puts_first k d ms (put l e found) u.1

-- in order they stay as they are
pub puts_same : (ms : Members) → Ascend ms → puts ms no_members ≡ ms
puts_same no_members a = refl
puts_same (member k d ms) a = puts_first k d ms no_members a.0 ∙ ap (member k d) (puts_same ms a.1)

-- ---- read as written

number_read : (n : Num) → IsWhole n → number_of (number_text n) ≡ Some n
number_read (unsigned n) h = number_of-decimal n h
number_read (negative (pos n)) h = absurd h
number_read (negative (negsuc n)) h = number_of-negative n h
number_read (float x) h = absurd h

mutual
  sound_read : (d : Data) → IsSound d → of_json (outline d) ≡ Some d
  sound_read null h = refl
  sound_read (boolean b) h = refl
  sound_read (number n) h = ap (option_map number) (number_read n h)
  sound_read (string s) h = refl
  sound_read (array ds) h = ap (option_map array) (items_read ds h)
  sound_read (object ms) h = ap (option_map object) (members_read ms no_members h.1 ∙ ap (λ (ns : Members). Some ns) (puts_same ms h.0))

  items_read : (ds : Items) → AreSound ds → of_items (items_outline ds) ≡ Some ds
  items_read no_items h = refl
  items_read (item d ds) h = rw (sound_read d h.0, items_read ds h.1) refl

  members_read : (ms found : Members) → HoldSound ms → of_members (members_outline ms) found ≡ Some (puts ms found)
  members_read no_members found h = refl
  members_read (member k d ms) found h = rw (sound_read d h.0) (members_read ms (put k d found) h.1)

mutual
  outline_depth : (d : Data) → tree.depth (outline d) ≡ depth d
  outline_depth null = refl
  outline_depth (boolean b) = refl
  outline_depth (number n) = refl
  outline_depth (string s) = refl
  outline_depth (array ds) = ap suc (items_outline_depth ds)
  outline_depth (object ms) = ap suc (members_outline_depth ms)

  items_outline_depth : (ds : Items) → tree.items_depth (items_outline ds) ≡ items_depth ds
  items_outline_depth no_items = refl
  items_outline_depth (item d ds) = ap₂ max (outline_depth d) (items_outline_depth ds)

  members_outline_depth : (ms : Members) → tree.members_depth (members_outline ms) ≡ members_depth ms
  members_outline_depth no_members = refl
  members_outline_depth (member k d ms) = ap₂ max (outline_depth d) (members_outline_depth ms)

pub text_read : (d : Data) (octets : List ℕ) → IsSound d → tokens octets ≡ tokens_of d → depth d ≤ 127 → read octets ≡ Some d
text_read d octets h is flat =
    let same = outline_depth d in
    ap (λ (r : Option (json.Json × List Token)). option_and_then of_json (option_and_then (λ p. json.if_last p.0 p.1) r))
    (ap (json.value max_depth) (is ∙ sym (append-nil (tokens_of d))) ∙ value-json_tokens (outline d) max_depth [] (omega (arith, same, flat)))
    ∙ sound_read d h
