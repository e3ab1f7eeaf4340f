-- Forms of the same parts are one form.
use Rattle.std.proofs.Common.{◌≡◌, ℕ, ◌%◌, ◌≤◌, ◌↔◌, ◌==◌, Bool, true, false, Option, Some, None, refl, sym, ap, ap₂, ◌∙◌, subst, nat_le}
use Rattle.std.specs.Prelude.{IsSome, IfSome}
use Rattle.std.proofs.Math.Bridge.{le_prop}
use Rattle.std.proofs.Math.Nat.{ℕ_set}
use Rattle.std.proofs.lemmas.Bool.{and_from, le-leb, eq-eqb}
use Rattle.eds_bits.specs.declared.forms.Encoding.{Encoding}
use Rattle.eds_bits.specs.declared.forms.ByteOrder.{ByteOrder}
use Rattle.eds_bits.specs.declared.forms.IntForm.{IntForm}
use Rattle.eds_bits.specs.declared.forms.BoolForm.{BoolForm}
use Rattle.eds_bits.specs.declared.forms.TextForm.{TextForm}
use Rattle.eds_bits.specs.Encodings.{IsForm, digit_bits, order_bits}
use Rattle.eds_type_rows.specs.Sizes.{is_size, are_whole, go_together, is_form, some_bits, few_bits}
use Rattle.eds_type_rows.specs.TextForms.{is_length, is_text, text_form_if, text_form}
use Rattle.eds_type_rows.specs.Forms.{form_if, int_form, bool_form_if, bool_form}

-- ---- integers

form_prop : (bits : ℕ) (encoding : Encoding) (order : ByteOrder) → IsProp (IsForm bits encoding order)
form_prop bits encoding order = hlevel (le_prop, ℕ_set)

size-is : (bits : ℕ) → 1 ≤ bits → bits ≤ 64 → is_size bits ≡ true
size-is bits some few = and_from (nat_le 1 bits) (nat_le bits 64) (le-leb 1 bits some) (le-leb bits 64 few)

together : (bits : ℕ) (encoding : Encoding) (order : ByteOrder) → IsForm bits encoding order → go_together bits encoding order ≡ true
together bits encoding order h =
    and_from (is_size bits) (are_whole bits encoding order) (size-is bits h.some h.few)
    (and_from (bits % digit_bits encoding == 0) (bits % order_bits order == 0) (eq-eqb _ 0 h.whole_digits) (eq-eqb _ 0 h.whole_octets))

abbrev form_with : (bits : ℕ) (encoding : Encoding) (order : ByteOrder) → IsForm bits encoding order → IntForm
form_with bits encoding order valid = record { bits = bits; encoding = encoding; order = order; valid = valid }

same_form : (f : IntForm) (bits : ℕ) (encoding : Encoding) (order : ByteOrder) (valid : IsForm bits encoding order) → f.bits ≡ bits → f.encoding ≡ encoding → f.order ≡ order → f ≡ form_with bits encoding order valid
same_form f bits encoding order valid b e o =
    let one : (v : IsForm f.bits f.encoding f.order) → f ≡ form_with f.bits f.encoding f.order v = λ v. ap (form_with f.bits f.encoding f.order) (form_prop f.bits f.encoding f.order f.valid v) in
    let two : (v : IsForm bits f.encoding f.order) → f ≡ form_with bits f.encoding f.order v = subst (λ x. (v : IsForm x f.encoding f.order) → f ≡ form_with x f.encoding f.order v) b one in
    let three : (v : IsForm bits encoding f.order) → f ≡ form_with bits encoding f.order v = subst (λ x. (v : IsForm bits x f.order) → f ≡ form_with bits x f.order v) e two in
    subst (λ x. (v : IsForm bits encoding x) → f ≡ form_with bits encoding x v) o three valid

form_found : (f : IntForm) (bits : ℕ) (encoding : Encoding) (order : ByteOrder) → f.bits ≡ bits → f.encoding ≡ encoding → f.order ≡ order → go_together bits encoding order ≡ true → Some f ≡ int_form bits encoding order
form_found f bits encoding order b e o fits = go (go_together bits encoding order) refl
  where
    go : (t : Bool) (h : go_together bits encoding order ≡ t) → Some f ≡ form_if bits encoding order t h
    go true h = ap Some (same_form f bits encoding order (is_form bits encoding order h) b e o)
    go false h = absurd (let no : true ≡ false = sym fits ∙ h in cc)

form_missing : (bits : ℕ) (encoding : Encoding) (order : ByteOrder) → (IsForm bits encoding order → ⊥) → None ≡ int_form bits encoding order
form_missing bits encoding order none = go (go_together bits encoding order) refl
  where
    go : (t : Bool) (h : go_together bits encoding order ≡ t) → None ≡ form_if bits encoding order t h
    go true h = absurd (none (is_form bits encoding order h))
    go false h = refl

-- what is made of the parts is the form of the parts
pub int_form-is : (r : Option IntForm) (bits : ℕ) (encoding : Encoding) (order : ByteOrder) → (IsSome r ↔ IsForm bits encoding order)
    → IfSome r (λ f. f.bits ≡ bits) → IfSome r (λ f. f.encoding ≡ encoding) → IfSome r (λ f. f.order ≡ order) → r ≡ int_form bits encoding order
int_form-is None bits encoding order some b e o = form_missing bits encoding order (λ h. let no : false ≡ true = some.1 h in cc)
int_form-is (Some f) bits encoding order some b e o = form_found f bits encoding order b e o (together bits encoding order (some.0 refl))

-- ---- truth values

abbrev bool_with : (bits : ℕ) (zero_is_false : Bool) → 1 ≤ bits → bits ≤ 64 → BoolForm
bool_with bits zero_is_false some few = record { bits = bits; zero_is_false = zero_is_false; some = some; few = few }

same_bool : (bits : ℕ) (zero_is_false : Bool) (some more : 1 ≤ bits) (few fewer : bits ≤ 64) → bool_with bits zero_is_false some few ≡ bool_with bits zero_is_false more fewer
same_bool bits zero_is_false some more few fewer = ap₂ (bool_with bits zero_is_false) (le_prop some more) (le_prop few fewer)

pub bool_form-is : (bits : ℕ) (zero_is_false : Bool) (some : 1 ≤ bits) (few : bits ≤ 64) → Some (bool_with bits zero_is_false some few) ≡ bool_form bits zero_is_false
bool_form-is bits zero_is_false some few = go (is_size bits) refl
  where
    go : (t : Bool) (h : is_size bits ≡ t) → Some (bool_with bits zero_is_false some few) ≡ bool_form_if bits zero_is_false t h
    go true h = ap Some (same_bool bits zero_is_false some (some_bits bits h) few (few_bits bits h))
    go false h = absurd (let no : true ≡ false = sym (size-is bits some few) ∙ h in cc)

-- ---- strings

abbrev text_with : (octets stop : ℕ) (fixed ascii : Bool) → 1 ≤ octets → octets ≤ 65536 → stop ≤ 127 → TextForm
text_with octets stop fixed ascii some few plain = record { length = octets; fixed = fixed; ascii = ascii; stop = stop; some = some; few = few; plain = plain }

same_text : (octets stop : ℕ) (fixed ascii : Bool) (some more : 1 ≤ octets) (few fewer : octets ≤ 65536) (plain plainer : stop ≤ 127) → text_with octets stop fixed ascii some few plain ≡ text_with octets stop fixed ascii more fewer plainer
same_text octets stop fixed ascii some more few fewer plain plainer =
    ap₂ (λ s f. text_with octets stop fixed ascii s f plain) (le_prop some more) (le_prop few fewer) ∙ ap (text_with octets stop fixed ascii more fewer) (le_prop plain plainer)

pub text_form-is : (octets stop : ℕ) (fixed ascii : Bool) (some : 1 ≤ octets) (few : octets ≤ 65536) (plain : stop ≤ 127) → Some (text_with octets stop fixed ascii some few plain) ≡ text_form octets stop fixed ascii
unfolding text_form
text_form-is octets stop fixed ascii some few plain = go (is_text octets stop) refl
  where
    fits : is_text octets stop ≡ true
    fits = and_from (is_length octets) (nat_le stop 127) (and_from (nat_le 1 octets) (nat_le octets 65536) (le-leb 1 octets some) (le-leb octets 65536 few)) (le-leb stop 127 plain)

    go : (t : Bool) (h : is_text octets stop ≡ t) → Some (text_with octets stop fixed ascii some few plain) ≡ text_form_if octets stop fixed ascii t h
    go true h = ap Some (same_text octets stop fixed ascii some _ few _ plain _)
    go false h = absurd (let no : true ≡ false = sym fits ∙ h in cc)
