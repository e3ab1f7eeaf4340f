-- The tokens of items and members, one after another.
use Rattle.std.proofs.Common.{◌≡◌, ℕ, ◌+◌, ◌<◌, ◌≤◌, List, [], ◌∷◌, ◌++◌, drop, length, map, get_or, sym, ap, ◌∙◌, subst, arith, append_assoc, length-append}
use Rattle.std.proofs.lemmas.List.{drop_all}
use Rattle.json.specs.Token.{Token, key, end_array, end_object}
use Rattle.json.specs.Tree.{items_tokens, members_tokens}
use Rattle.serde_json.specs.View.{items_of}
use Rattle.serde_json.specs.Written.{items_outline, members_outline}
use Rattle.eds_types.specs.declared.value.Value.{Value}
use Rattle.eds_types.specs.Plain.{plain}
use Rattle.eds_types.specs.Rows.{Table}
use Rattle.eds_value.specs.declared.member.Content.{Content}
use Rattle.eds_value.specs.declared.member.Member.{Member}
use Rattle.eds_value.specs.JsonOfValue.{json_of_value}
use Rattle.eds_value.specs.Members.{content_json, in_order}
use Rattle.eds_value.specs.Written.{AreSound, HoldSound, IsSound, tokens_of}
use Rattle.eds_value.proofs.Steps.{drop_one}

-- the tokens of the values from the one at i on, with the closing bracket
abbrev pub items_left : Table → ℕ → List Value → List Token
items_left t i vs = items_tokens (items_outline (items_of (map (json_of_value t) (map plain (drop i vs)))))

-- the same of members
abbrev pub members_left : Table → ℕ → List (Member Content) → List Token
members_left t i ms = members_tokens (members_outline (in_order t (drop i ms)))

-- ---- items

pub item_next : (t : Table) (vs : List Value) (i : ℕ) (v : Value) → i < length vs → v ≡ get_or vs i v → items_left t i vs ≡ tokens_of (json_of_value t (plain v)) ++ items_left t (i + 1) vs
item_next t vs i v lt is = ap (λ (ws : List Value). items_tokens (items_outline (items_of (map (json_of_value t) (map plain ws))))) (drop_one vs i v lt is)

pub item_sound : (t : Table) (vs : List Value) (i : ℕ) (v : Value) → i < length vs → v ≡ get_or vs i v → AreSound (items_of (map (json_of_value t) (map plain (drop i vs))))
    → IsSound (json_of_value t (plain v)) × AreSound (items_of (map (json_of_value t) (map plain (drop (i + 1) vs))))
item_sound t vs i v lt is h = subst (λ (ws : List Value). AreSound (items_of (map (json_of_value t) (map plain ws)))) (drop_one vs i v lt is) h

pub item_written : (a b : List Token) (d next left whole : List Token) → left ≡ d ++ next → b ≡ a ++ d → a ++ left ≡ whole → b ++ next ≡ whole
item_written a b d next left whole is written so_far = rw written (append_assoc a d next ∙ ap (λ ts. a ++ ts) (sym is) ∙ so_far)

pub item_shorter : (d next left : List Token) (n : ℕ) → left ≡ d ++ next → length left + 1 ≤ n → (length d + 1 ≤ n) × (length next + 1 ≤ n)
item_shorter d next left n is h = let l = ap length is in let s = length-append d next in (omega (arith, l, s, h), omega (arith, l, s, h))

pub items_over : (t : Table) (vs : List Value) (i : ℕ) → length vs ≤ i → items_left t i vs ≡ end_array ∷ []
items_over t vs i over = ap (λ (ws : List Value). items_tokens (items_outline (items_of (map (json_of_value t) (map plain ws))))) (drop_all i vs over)

-- ---- members

pub member_next : (t : Table) (ms : List (Member Content)) (i : ℕ) (m : Member Content) → i < length ms → m ≡ get_or ms i m
    → members_left t i ms ≡ (key m.name.now ∷ tokens_of (content_json t m.content)) ++ members_left t (i + 1) ms
member_next t ms i m lt is = ap (λ (ns : List (Member Content)). members_tokens (members_outline (in_order t ns))) (drop_one ms i m lt is)

pub member_sound : (t : Table) (ms : List (Member Content)) (i : ℕ) (m : Member Content) → i < length ms → m ≡ get_or ms i m → HoldSound (in_order t (drop i ms))
    → IsSound (content_json t m.content) × HoldSound (in_order t (drop (i + 1) ms))
member_sound t ms i m lt is h = subst (λ (ns : List (Member Content)). HoldSound (in_order t ns)) (drop_one ms i m lt is) h

pub members_over : (t : Table) (ms : List (Member Content)) (i : ℕ) → length ms ≤ i → members_left t i ms ≡ end_object ∷ []
members_over t ms i over = ap (λ (ns : List (Member Content)). members_tokens (members_outline (in_order t ns))) (drop_all i ms over)
