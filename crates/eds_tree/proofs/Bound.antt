-- A text holds no more arrays than it has octets.
use Rattle.std.proofs.Common.{◌≡◌, ℕ, zero, suc, ◌+◌, ◌*◌, ◌≤◌, List, [], ◌∷◌, length, Bool, true, false, Option, Some, None, option_map, option_and_then, refl, ap, subst, arith}
use Rattle.std.specs.Prelude.{⊤}
use Rattle.json.specs.Token.{Token}
use Rattle.json.specs.Token as token
use Rattle.json.specs.Lex.{Lexeme, token, comma, colon, Class, quote, backslash, operator, space, other, Mode, between, in_word, in_string, in_escape, lex_byte, class, lex, Place, fresh, after_value, after_comma, after_key, begins_colon, may_begin, may_close, if_allowed, place_token, punctuate, tokens}
use Rattle.json.specs.Json as json
use Rattle.json.specs.Json.{Parse, parse_map, after_end_array, read_key, items_step, members_step, items, members, if_last, value_with, value}
use Rattle.json.proofs.Grammar.{after_end_array-shorter, read_key-shorter}
use Rattle.serde_json.specs.Data.{Data, Num, number, array, object, Items, item, Members, no_members}
use Rattle.serde_json.specs.Read.{of_json, of_items, of_members, number_of, read, max_depth}
use Rattle.eds_tree.specs.Elements.{size, items_size}

-- ---- no more lexemes than octets, and one token more at most

lex_byte-length : (m : Mode) (c : Class) (x : ℕ) (xs : List ℕ) (k : Mode → List Lexeme) (n : ℕ) → ((next : Mode) → length (k next) ≤ n) → length (lex_byte m c x xs k) ≤ n + 1
lex_byte-length between quote x xs k n h = omega (arith, h in_string)
lex_byte-length between backslash x xs k n h = omega (arith, h in_word)
lex_byte-length between operator x xs k n h = omega (arith, h between)
lex_byte-length between space x xs k n h = omega (arith, h between)
lex_byte-length between other x xs k n h = omega (arith, h in_word)
lex_byte-length in_word quote x xs k n h = omega (arith, h in_word)
lex_byte-length in_word backslash x xs k n h = omega (arith, h in_word)
lex_byte-length in_word operator x xs k n h = omega (arith, h between)
lex_byte-length in_word space x xs k n h = omega (arith, h between)
lex_byte-length in_word other x xs k n h = omega (arith, h in_word)
lex_byte-length in_string quote x xs k n h = omega (arith, h between)
lex_byte-length in_string backslash x xs k n h = omega (arith, h in_escape)
lex_byte-length in_string operator x xs k n h = omega (arith, h in_string)
lex_byte-length in_string space x xs k n h = omega (arith, h in_string)
lex_byte-length in_string other x xs k n h = omega (arith, h in_string)
lex_byte-length in_escape c x xs k n h = omega (arith, h in_string)

length-lex : (xs : List ℕ) (m : Mode) → length (lex m xs) ≤ length xs
unfolding lex
length-lex [] m = omega arith
length-lex (x ∷ xs) m = omega (arith, lex_byte-length m (class x) x xs (λ next. lex next xs) (length xs) (length-lex xs))

if_allowed-length : (b : Bool) (t : Token) (k : Place → List Token) (next : Place) (n : ℕ) → ((p : Place) → length (k p) ≤ n) → length (if_allowed b t k next) ≤ n + 1
if_allowed-length true t k next n h = omega (arith, h next)
if_allowed-length false t k next n h = omega arith

place_token-length : (p : Place) (t : Token) (b : Bool) (k : Place → List Token) (n : ℕ) → ((q : Place) → length (k q) ≤ n) → length (place_token p t b k) ≤ n + 1
place_token-length p token.begin_object b k n h = if_allowed-length (may_begin p) token.begin_object k fresh n h
place_token-length p token.end_object b k n h = if_allowed-length (may_close p) token.end_object k after_value n h
place_token-length p token.begin_array b k n h = if_allowed-length (may_begin p) token.begin_array k fresh n h
place_token-length p token.end_array b k n h = if_allowed-length (may_close p) token.end_array k after_value n h
place_token-length p (token.key s) b k n h = omega arith
place_token-length p (token.string s) true k n h = if_allowed-length (may_begin p) (token.key s) k after_key n h
place_token-length p (token.string s) false k n h = if_allowed-length (may_begin p) (token.string s) k after_value n h
place_token-length p (token.number s) b k n h = if_allowed-length (may_begin p) (token.number s) k after_value n h
place_token-length p (token.boolean c) b k n h = if_allowed-length (may_begin p) (token.boolean c) k after_value n h
place_token-length p token.null b k n h = if_allowed-length (may_begin p) token.null k after_value n h
place_token-length p token.bad b k n h = omega arith

length-punctuate : (ls : List Lexeme) (p : Place) → length (punctuate p ls) ≤ length ls + 1
unfolding punctuate
length-punctuate [] fresh = omega arith
length-punctuate [] after_value = omega arith
length-punctuate [] after_comma = omega arith
length-punctuate [] after_key = omega arith
length-punctuate (token t ∷ ls) fresh = omega (arith, place_token-length fresh t (begins_colon ls) (λ next. punctuate next ls) (length ls + 1) (length-punctuate ls))
length-punctuate (token t ∷ ls) after_value = omega (arith, place_token-length after_value t (begins_colon ls) (λ next. punctuate next ls) (length ls + 1) (length-punctuate ls))
length-punctuate (token t ∷ ls) after_comma = omega (arith, place_token-length after_comma t (begins_colon ls) (λ next. punctuate next ls) (length ls + 1) (length-punctuate ls))
length-punctuate (token t ∷ ls) after_key = omega (arith, place_token-length after_key t (begins_colon ls) (λ next. punctuate next ls) (length ls + 1) (length-punctuate ls))
length-punctuate (comma ∷ ls) fresh = omega arith
length-punctuate (comma ∷ ls) after_value = omega (arith, length-punctuate ls after_comma)
length-punctuate (comma ∷ ls) after_comma = omega arith
length-punctuate (comma ∷ ls) after_key = omega arith
length-punctuate (colon ∷ ls) fresh = omega arith
length-punctuate (colon ∷ ls) after_value = omega arith
length-punctuate (colon ∷ ls) after_comma = omega arith
length-punctuate (colon ∷ ls) after_key = omega (arith, length-punctuate ls fresh)

length-tokens : (text : List ℕ) → length (tokens text) ≤ length text + 1
length-tokens text = omega (arith, length-punctuate (lex between text) fresh, length-lex text between)

-- ---- an array takes two tokens

abbrev mutual
  arrays : json.Json → ℕ
  arrays json.null = 0
  arrays (json.boolean b) = 0
  arrays (json.number s) = 0
  arrays (json.string s) = 0
  arrays (json.array js) = suc (items_arrays js)
  arrays (json.object ms) = 0

  items_arrays : json.Items → ℕ
  items_arrays json.no_items = 0
  items_arrays (json.item j js) = arrays j + items_arrays js

-- Of n tokens some were taken for a value, two for each array in it.
abbrev Takes : ℕ → Option (json.Json × List Token) → Type 0
Takes n None = ⊤
Takes n (Some p) = 2 * arrays p.0 + length p.1 ≤ n

-- The same for the items of an array and the bracket behind them.
abbrev TakesItems : ℕ → Option (json.Items × List Token) → Type 0
TakesItems n None = ⊤
TakesItems n (Some p) = 2 * items_arrays p.0 + length p.1 + 1 ≤ n

abbrev TakesMembers : ℕ → Option (json.Members × List Token) → Type 0
TakesMembers n None = ⊤
TakesMembers n (Some p) = length p.1 ≤ n

abbrev TakesAll : Parse json.Json → Type 0
TakesAll p = (ts : List Token) → Takes (length ts) (p ts)

more-items : (j : json.Json) (r : List Token) (n : ℕ) (o : Option (json.Items × List Token)) → 2 * arrays j + length r ≤ n → TakesItems (length r) o → TakesItems n (parse_map (json.item j) o)
more-items j r n None h k = tt
more-items j r n (Some p) h k = omega (arith, h, k)

item-takes : (more : Parse json.Items) → ((ts : List Token) → TakesItems (length ts) (more ts)) → (n : ℕ) (o : Option (json.Json × List Token)) → Takes n o
    → TakesItems n (option_and_then (λ p. parse_map (json.item p.0) (more p.1)) o)
item-takes more m n None h = tt
item-takes more m n (Some p) h = more-items p.0 p.1 n (more p.1) h (m p.1)

items_step-takes : (p : Parse json.Json) → TakesAll p → (more : Parse json.Items) → ((ts : List Token) → TakesItems (length ts) (more ts)) → (ts : List Token) (o : Option (List Token))
    → after_end_array ts ≡ o → TakesItems (length ts) (items_step p more ts o)
items_step-takes p h more m ts (Some rest) e = omega (arith, after_end_array-shorter ts rest e)
items_step-takes p h more m ts None e = item-takes more m (length ts) (p ts) (h ts)

items-takes : (p : Parse json.Json) → TakesAll p → (n : ℕ) (ts : List Token) → TakesItems (length ts) (items p n ts)
unfolding items
items-takes p h zero ts = tt
items-takes p h (suc n) ts = items_step-takes p h (items p n) (items-takes p h n) ts (after_end_array ts) refl

more-members : (k : List ℕ) (j : json.Json) (r : List Token) (n : ℕ) (o : Option (json.Members × List Token)) → length r ≤ n → TakesMembers (length r) o → TakesMembers n (parse_map (json.member k j) o)
more-members k j r n None h t = tt
more-members k j r n (Some p) h t = omega (arith, h, t)

member-takes : (more : Parse json.Members) → ((ts : List Token) → TakesMembers (length ts) (more ts)) → (k : List ℕ) (n : ℕ) (o : Option (json.Json × List Token)) → Takes n o
    → TakesMembers n (option_and_then (λ p. parse_map (json.member k p.0) (more p.1)) o)
member-takes more m k n None h = tt
member-takes more m k n (Some p) h = more-members k p.0 p.1 n (more p.1) (omega (arith, h)) (m p.1)

members_step-takes : (p : Parse json.Json) → TakesAll p → (more : Parse json.Members) → ((ts : List Token) → TakesMembers (length ts) (more ts)) → (k : Option (List ℕ)) (ts : List Token)
    → TakesMembers (length ts) (members_step p more k ts)
members_step-takes p h more m None ts = omega arith
members_step-takes p h more m (Some k) ts = member-takes more m k (length ts) (p ts) (h ts)

fewer : (n m : ℕ) (o : Option (json.Members × List Token)) → n ≤ m → TakesMembers n o → TakesMembers m o
fewer n m None h k = tt
fewer n m (Some p) h k = omega (arith, h, k)

after_key-takes : (p : Parse json.Json) → TakesAll p → (more : Parse json.Members) → ((ts : List Token) → TakesMembers (length ts) (more ts)) → (ts : List Token) (o : Option (Option (List ℕ) × List Token))
    → read_key ts ≡ o → TakesMembers (length ts) (option_and_then (λ q. members_step p more q.0 q.1) o)
after_key-takes p h more m ts None e = tt
after_key-takes p h more m ts (Some q) e =
    let shorter : length q.1 ≤ length ts = omega (arith, read_key-shorter ts q.0 q.1 e) in
    fewer (length q.1) (length ts) (members_step p more q.0 q.1) shorter (members_step-takes p h more m q.0 q.1)

members-takes : (p : Parse json.Json) → TakesAll p → (n : ℕ) (ts : List Token) → TakesMembers (length ts) (members p n ts)
unfolding members
members-takes p h zero ts = tt
members-takes p h (suc n) ts = after_key-takes p h (members p n) (members-takes p h n) ts (read_key ts) refl

of_array : (n : ℕ) (o : Option (json.Items × List Token)) → TakesItems n o → Takes (suc n) (parse_map json.array o)
of_array n None h = tt
of_array n (Some p) h = omega (arith, h)

of_object : (n : ℕ) (o : Option (json.Members × List Token)) → TakesMembers n o → Takes (suc n) (parse_map json.object o)
of_object n None h = tt
of_object n (Some p) h = omega (arith, h)

value_with-takes : (a : Parse json.Items) (o : Parse json.Members) → ((ts : List Token) → TakesItems (length ts) (a ts)) → ((ts : List Token) → TakesMembers (length ts) (o ts)) → TakesAll (value_with a o)
value_with-takes a o h k [] = tt
value_with-takes a o h k (token.begin_object ∷ ts) = of_object (length ts) (o ts) (k ts)
value_with-takes a o h k (token.end_object ∷ ts) = tt
value_with-takes a o h k (token.begin_array ∷ ts) = of_array (length ts) (a ts) (h ts)
value_with-takes a o h k (token.end_array ∷ ts) = tt
value_with-takes a o h k (token.key s ∷ ts) = tt
value_with-takes a o h k (token.string s ∷ ts) = omega arith
value_with-takes a o h k (token.number s ∷ ts) = omega arith
value_with-takes a o h k (token.boolean b ∷ ts) = omega arith
value_with-takes a o h k (token.null ∷ ts) = omega arith
value_with-takes a o h k (token.bad ∷ ts) = tt

value-takes : (depth : ℕ) → TakesAll (value depth)
unfolding value
value-takes zero = value_with-takes (λ ts. None) (λ ts. None) (λ ts. tt) (λ ts. tt)
value-takes (suc depth) =
    value_with-takes (λ ts. items (value depth) (length ts) ts) (λ ts. members (value depth) (length ts) ts)
    (λ ts. items-takes (value depth) (value-takes depth) (length ts) ts) (λ ts. members-takes (value depth) (value-takes depth) (length ts) ts)

-- ---- data have as many arrays as the value that they come from

abbrev Counts : ℕ → Option Data → Type 0
Counts n None = ⊤
Counts n (Some d) = size d ≡ n

abbrev CountsItems : ℕ → Option Items → Type 0
CountsItems n None = ⊤
CountsItems n (Some ds) = items_size ds ≡ n

of_number : (o : Option Num) → Counts 0 (option_map number o)
of_number None = tt
of_number (Some n) = refl

of_found : (o : Option Members) → Counts 0 (option_map object o)
of_found None = tt
of_found (Some ms) = refl

in_array : (n : ℕ) (o : Option Items) → CountsItems n o → Counts (suc n) (option_map array o)
in_array n None h = tt
in_array n (Some ds) h = ap suc h

one_more : (n m : ℕ) (o : Option Data) (p : Option Items) → Counts n o → CountsItems m p → CountsItems (n + m) (option_and_then (λ d. option_map (item d) p) o)
one_more n m None p h k = tt
one_more n m (Some d) None h k = tt
one_more n m (Some d) (Some ds) h k = omega (arith, h, k)

mutual
  of_json-counts : (j : json.Json) → Counts (arrays j) (of_json j)
  of_json-counts json.null = refl
  of_json-counts (json.boolean b) = refl
  of_json-counts (json.number s) = of_number (number_of s)
  of_json-counts (json.string s) = refl
  of_json-counts (json.array js) = in_array (items_arrays js) (of_items js) (of_items-counts js)
  of_json-counts (json.object ms) = of_found (of_members ms no_members)

  of_items-counts : (js : json.Items) → CountsItems (items_arrays js) (of_items js)
  of_items-counts json.no_items = refl
  of_items-counts (json.item j js) = one_more (arrays j) (items_arrays js) (of_json j) (of_items js) (of_json-counts j) (of_items-counts js)

-- ---- the bound

abbrev Within : ℕ → Option Data → Type 0
Within n None = ⊤
Within n (Some d) = size d ≤ n

counted_within : (n m : ℕ) (o : Option Data) → 2 * n ≤ m + 1 → Counts n o → Within m o
counted_within n m None h k = tt
counted_within n m (Some d) h k = omega (arith, h, k)

if_last-within : (m : ℕ) (j : json.Json) (ts : List Token) → 2 * arrays j + length ts ≤ m + 1 → Within m (option_and_then of_json (if_last j ts))
if_last-within m j [] h = counted_within (arrays j) m (of_json j) (omega (arith, h)) (of_json-counts j)
if_last-within m j (t ∷ ts) h = tt

read-within : (m : ℕ) (o : Option (json.Json × List Token)) (n : ℕ) → Takes n o → n ≤ m + 1 → Within m (option_and_then of_json (option_and_then (λ p. if_last p.0 p.1) o))
read-within m None n h k = tt
read-within m (Some p) n h k = if_last-within m p.0 p.1 (omega (arith, h, k))

-- the data of a text have at most as many arrays as the text has octets
pub size-read : (text : List ℕ) (d : Data) → read text ≡ Some d → size d ≤ length text
size-read text d e =
    let all : Within (length text) (read text) = read-within (length text) (value max_depth (tokens text)) (length (tokens text)) (value-takes max_depth (tokens text)) (length-tokens text) in
    subst (λ (o : Option Data). Within (length text) o) e all
