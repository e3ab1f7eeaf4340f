-- No line feed stands in the text of JSON, and the text is read as it was written.
use Rattle.std.proofs.Common.{◌≡◌, ◌<◌, ◌+◌, ◌/◌, ◌%◌, ◌^◌, ℕ, suc, Bool, true, false, cond, ◌==◌, List, [], ◌∷◌, ◌++◌, pos, negsuc, refl, sym, ap, ◌∙◌, arith}
use Rattle.std.specs.Prelude.{decimal, nat_lt}
use Rattle.std.specs.Char.{digit_char}
use Rattle.std.proofs.lemmas.Bool.Decides.{nat_tests}
use Rattle.std.proofs.lemmas.Fmt.{decimal_by_steps}
use Rattle.std.proofs.lemmas.List.Folds.{list_any-append}
use Rattle.std.proofs.lemmas.Str.{is_utf8-from_IsUtf8}
use Rattle.json.specs.Lex.{tokens}
use Rattle.json.specs.Print.{IsNumber, escape, escape_byte, escape_letter, quoted}
use Rattle.json.specs.Tree as tree
use Rattle.json.proofs.Printed.Decimals.{IsNumber-decimal, IsNumber-signed_decimal}
use Rattle.json.proofs.Printed.Tokens.{tokens-print}
use Rattle.json.proofs.Printed.Trees.{ArePrintable-json_tokens}
use Rattle.serde_json.specs.Data.{Num, unsigned, negative, float, Data, null, boolean, number, string, array, object, Items, no_items, item, Members, no_members, member}
use Rattle.serde_json.specs.Written.{comma_if, compact_text, items_outline, items_text, members_outline, members_text, number_text, outline}
use Rattle.serde_json.proofs.Texts.{print-outline}
use Rattle.eds_value.specs.JsonOfValue.{json_of_value, json_text}
use Rattle.eds_value.specs.Laws.{IsOneLine, TextsAreOneLine, TextsReadBack}
use Rattle.eds_value.specs.Written.{AreSound, HoldSound, IsSound, IsWhole, tokens_of}
use Rattle.eds_value.proofs.ReadsBack.{reads_back, value_deep, value_held, value_read}
use Rattle.eds_value.proofs.Sound.{text_read, value_sound}

-- ---- lines

put : (c : ℕ) (cs : List ℕ) → (c == 10) ≡ false → IsOneLine cs → IsOneLine (c ∷ cs)
put c cs e h = rw (e, h) refl

join : (cs ds : List ℕ) → IsOneLine cs → IsOneLine ds → IsOneLine (cs ++ ds)
join cs ds h k = list_any-append (λ octet. octet == 10) cs ds ∙ rw (h, k) refl

choose : (b : Bool) (cs ds : List ℕ) → IsOneLine cs → (b ≡ false → IsOneLine ds) → IsOneLine (cond b cs ds)
choose true cs ds h k = h
choose false cs ds h k = k refl

-- ---- strings

letter_other : (x : ℕ) → (escape_letter x == 10) ≡ false
letter_other x = grind (arith, nat_tests)

digit_other : (d : ℕ) → (digit_char d == 10) ≡ false
digit_other d = grind (arith, nat_tests)

high_other : (x : ℕ) → nat_lt x 32 ≡ false → (x == 10) ≡ false
high_other x e = grind (arith, nat_tests)

byte_one : (x : ℕ) → IsOneLine (escape_byte x)
unfolding escape_byte
byte_one x =
    choose (nat_lt 0 (escape_letter x)) _ _ (put 92 (escape_letter x ∷ []) refl (put (escape_letter x) [] (letter_other x) refl))
    (λ _. choose (nat_lt x 32) _ _
    (join (92 ∷ 117 ∷ 48 ∷ 48 ∷ []) (digit_char (x / 16) ∷ digit_char (x % 16) ∷ []) refl
    (put (digit_char (x / 16)) (digit_char (x % 16) ∷ []) (digit_other (x / 16)) (put (digit_char (x % 16)) [] (digit_other (x % 16)) refl)))
    (λ e. put x [] (high_other x e) refl))

escaped_one : (s : List ℕ) → IsOneLine (escape s)
escaped_one [] = refl
escaped_one (x ∷ xs) = join (escape_byte x) (escape xs) (byte_one x) (escaped_one xs)

quoted_one : (s : List ℕ) → IsOneLine (quoted s)
quoted_one s = put 34 (escape s ++ 34 ∷ []) refl (join (escape s) (34 ∷ []) (escaped_one s) refl)

-- ---- numbers

digit_at : (n : ℕ) → (48 + n == 10) ≡ false
digit_at n = grind (arith, nat_tests)

decimal_one : (n : ℕ) → n < 2 ^ 64 → IsOneLine (decimal n)
decimal_one n h =
    decimal_by_steps (λ n ds. IsOneLine ds) (λ n _. put (48 + n) [] (digit_at n) refl) (λ n ds _ so_far. join ds ((48 + n % 10) ∷ []) so_far (put (48 + n % 10) [] (digit_at (n % 10)) refl)) n h

number_one : (n : Num) → IsWhole n → IsOneLine (number_text n)
number_one (unsigned n) h = decimal_one n h
number_one (negative (pos n)) h = absurd h
number_one (negative (negsuc n)) h = put 45 (decimal (suc n)) refl (decimal_one (suc n) (omega (arith, h)))
number_one (float x) h = absurd h

-- ---- values

comma_one : (later : Bool) → IsOneLine (comma_if later)
comma_one true = refl
comma_one false = refl

mutual
  text_one : (d : Data) → IsSound d → IsOneLine (compact_text d)
  text_one null h = refl
  text_one (boolean true) h = refl
  text_one (boolean false) h = refl
  text_one (number n) h = number_one n h
  text_one (string s) h = quoted_one s
  text_one (array ds) h = put 91 (items_text false ds) refl (items_one false ds h)
  text_one (object ms) h = put 123 (members_text false ms) refl (members_one false ms h.1)

  items_one : (later : Bool) (ds : Items) → AreSound ds → IsOneLine (items_text later ds)
  items_one later no_items h = refl
  items_one later (item d ds) h = join (comma_if later) (compact_text d ++ items_text true ds) (comma_one later) (join (compact_text d) (items_text true ds) (text_one d h.0) (items_one true ds h.1))

  members_one : (later : Bool) (ms : Members) → HoldSound ms → IsOneLine (members_text later ms)
  members_one later no_members h = refl
  members_one later (member k d ms) h =
      let rest = join (compact_text d) (members_text true ms) (text_one d h.0) (members_one true ms h.1) in
      join (comma_if later) (quoted k ++ 58 ∷ (compact_text d ++ members_text true ms)) (comma_one later)
      (join (quoted k) (58 ∷ (compact_text d ++ members_text true ms)) (quoted_one k) (put 58 (compact_text d ++ members_text true ms) refl rest))

pub texts_one : TextsAreOneLine
texts_one t id v rules value = text_one (json_of_value t v) (value_sound t v (value_held t id v rules value))

-- ---- read again

number_written : (n : Num) → IsWhole n → IsNumber (number_text n)
number_written (unsigned n) h = IsNumber-decimal n h
number_written (negative (pos n)) h = absurd h
number_written (negative (negsuc n)) h = IsNumber-signed_decimal (negsuc n) (omega (arith, h))
number_written (float x) h = absurd h

mutual
  has_numbers : (d : Data) → IsSound d → tree.HasNumbers (outline d)
  has_numbers null h = tt
  has_numbers (boolean b) h = tt
  has_numbers (number n) h = number_written n h
  has_numbers (string s) h = tt
  has_numbers (array ds) h = items_have ds h
  has_numbers (object ms) h = members_have ms h.1

  items_have : (ds : Items) → AreSound ds → tree.ItemsHaveNumbers (items_outline ds)
  items_have no_items h = tt
  items_have (item d ds) h = (has_numbers d h.0, items_have ds h.1)

  members_have : (ms : Members) → HoldSound ms → tree.MembersHaveNumbers (members_outline ms)
  members_have no_members h = tt
  members_have (member k d ms) h = (has_numbers d h.0, members_have ms h.1)

pub texts_back : TextsReadBack
texts_back t id v rules bare value utf8 =
    let d = json_of_value t v in
    let octets = json_text t v in
    let sound : IsSound d = value_sound t v (value_held t id v rules value) in
    let written : tokens octets ≡ tokens_of d = ap tokens (sym (print-outline d)) ∙ tokens-print (tokens_of d) (ArePrintable-json_tokens (outline d) (has_numbers d sound)) in
    let deep = value_deep t id v rules value in
    value_read t id v octets d (is_utf8-from_IsUtf8 octets utf8) (text_read d octets sound written (omega (arith, deep))) refl (reads_back t id v rules bare value)
