-- The texts between the values of a container's object.
use Rattle.std.proofs.Common.{◌≡◌, ◌<◌, ◌≤◌, ◌+◌, ℕ, zero, suc, List, [], ◌∷◌, ◌++◌, Bool, true, length, map, drop, get_or, Option, Some, refl, sym, ap, ap₂, ◌∙◌, subst, arith, append_assoc, ◌⊎◌, inl, inr}
use Rattle.std.specs.Prelude.{IfSome, slice_get}
use Rattle.std.proofs.lemmas.List.{drop_all, drop_more}
use Rattle.json.specs.Print.{quoted}
use Rattle.serde_json.specs.Data.{Data, Members, no_members, null, put}
use Rattle.serde_json.specs.Written.{comma_if, compact_text, members_text}
use Rattle.eds_types.specs.Rows.{Table}
use Rattle.eds_value.specs.declared.entry.Entry.{Entry as Held}
use Rattle.eds_value.specs.declared.layout.Layout.{Layout}
use Rattle.eds_value.specs.declared.layout.Piece.{Piece}
use Rattle.eds_value.specs.declared.member.Member.{Member}
use Rattle.eds_value.specs.JsonOfValue.{with_values}
use Rattle.eds_value.specs.Layouts.{AreLayouts, IsLayoutOf, content_at, pieces_text}
use Rattle.eds_value.specs.Members.{in_order_by, put_all_by}
use Rattle.eds_value.specs.Seen.{seen}
use Rattle.eds_value.proofs.Steps.{drop_one}
use Rattle.eds_value.proofs.WithValues.{put_all-more, with_values-put}

-- a name of a container's object, with the position of its value
abbrev pub Slot : Type 0
Slot = Member (Option ℕ)

-- ---- names, one entry after another

-- one more entry's name
pub slot_put : (name : List ℕ) (ds : List Data) (es : List Held) (i : ℕ) (e : Held) (slots new : List Slot) (m : Slot) (whole : Members) → i < length es → length ds ≡ length es
    → new ≡ slots ++ m ∷ [] → m.name.now ≡ (get_or es i e).name.now → m.content ≡ Some i
    → with_values (map seen (drop i es)) (drop i ds) (put_all_by (content_at name ds) slots no_members) ≡ whole
    → with_values (map seen (drop (i + 1) es)) (drop (i + 1) ds) (put_all_by (content_at name ds) new no_members) ≡ whole
slot_put name ds es i e slots new m whole lt long pushed named placed so_far =
    let f = content_at name ds in
    let found = put_all_by f slots no_members in
    let d = get_or ds i null in
    let put_in : put_all_by f new no_members ≡ put (seen (get_or es i e)).name d found =
    ap (λ (ns : List Slot). put_all_by f ns no_members) pushed ∙ put_all-more f slots m no_members ∙ ap₂ (λ (n : List ℕ) (x : Data). put n x found) named (ap f placed) in
    with_values-put (map seen (drop i es)) (seen (get_or es i e)) (map seen (drop (i + 1) es)) (drop i ds) d (drop (i + 1) ds) found (put_all_by f new no_members)
    (ap (map seen) (drop_more es i e lt)) (drop_more ds i null (omega (arith, lt, long))) put_in ∙ so_far

-- ---- pieces

-- one more piece
pub pieces_text-more : (ds : List Data) (ps : List Piece) (p : Piece) → pieces_text ds (ps ++ p ∷ []) ≡ pieces_text ds ps ++ (p.text ++ (compact_text (get_or ds p.position null) ++ []))
pieces_text-more ds [] p = refl
pieces_text-more ds (q ∷ ps) p =
    ap (λ (s : List ℕ). q.text ++ (compact_text (get_or ds q.position null) ++ s)) (pieces_text-more ds ps p)
    ∙ sym (append_assoc q.text (compact_text (get_or ds q.position null) ++ pieces_text ds ps) _ ∙ ap (λ (s : List ℕ). q.text ++ s) (append_assoc (compact_text (get_or ds q.position null)) (pieces_text ds ps) _))

-- where the text becomes a piece
pub piece_put : (ds : List Data) (ps new : List Piece) (p : Piece) (rest : List ℕ) → new ≡ ps ++ p ∷ []
    → pieces_text ds new ++ ([] ++ rest) ≡ pieces_text ds ps ++ (p.text ++ (compact_text (get_or ds p.position null) ++ rest))
piece_put ds ps new p rest is =
    let value = compact_text (get_or ds p.position null) in
    ap (λ (qs : List Piece). pieces_text ds qs ++ rest) is ∙ ap (λ (s : List ℕ). s ++ rest) (pieces_text-more ds ps p)
    ∙ append_assoc (pieces_text ds ps) (p.text ++ (value ++ [])) rest
    ∙ ap (λ (s : List ℕ). pieces_text ds ps ++ s) (append_assoc p.text (value ++ []) rest ∙ ap (λ (s : List ℕ). p.text ++ s) (append_assoc value [] rest))

-- what is put last in three steps
pub three_put : (old a b c first second third : List ℕ) → first ≡ old ++ a → second ≡ first ++ b → third ≡ second ++ c → third ≡ old ++ (a ++ (b ++ c))
three_put old a b c first second third x y z = z ∙ ap (λ (s : List ℕ). s ++ c) (y ∙ ap (λ (s : List ℕ). s ++ b) x) ∙ append_assoc (old ++ a) b c ∙ append_assoc old a (b ++ c)

-- a name and its value, put last
pub joined : (a text old comma name value content rest : List ℕ) → text ≡ old ++ (comma ++ (name ++ 58 ∷ [])) → value ≡ content
    → a ++ (text ++ (value ++ rest)) ≡ a ++ (old ++ (comma ++ (name ++ 58 ∷ (content ++ rest))))
joined a text old comma name value content rest is at = ap₂ (λ (s v : List ℕ). a ++ (s ++ (v ++ rest))) is at ∙ simp append_assoc

-- the next member
pub slot_next : (name : List ℕ) (ds : List Data) (later : Bool) (slots : List Slot) (i : ℕ) (m : Slot) → i < length slots → m ≡ get_or slots i m
    → members_text later (in_order_by (content_at name ds) (drop i slots))
    ≡ comma_if later ++ (quoted m.name.now ++ 58 ∷ (compact_text (content_at name ds m.content) ++ members_text true (in_order_by (content_at name ds) (drop (i + 1) slots))))
slot_next name ds later slots i m lt is = ap (λ (ms : List Slot). members_text later (in_order_by (content_at name ds) ms)) (drop_one slots i m lt is)

-- no further member
pub slots_over : (name : List ℕ) (ds : List Data) (later : Bool) (slots : List Slot) (i : ℕ) → length slots ≤ i → members_text later (in_order_by (content_at name ds) (drop i slots)) ≡ 125 ∷ []
slots_over name ds later slots i over = ap (λ (ms : List Slot). members_text later (in_order_by (content_at name ds) ms)) (drop_all i slots over)

-- ---- layouts

last_place : {A : Type 0} (xs : List A) (x y : A) (i : ℕ) → slice_get (xs ++ x ∷ []) i ≡ Some y → (slice_get xs i ≡ Some y) ⊎ ((i ≡ length xs) × (x ≡ y))
last_place [] x y zero e = inr (refl, cc)
last_place [] x y (suc i) e = absurd cc
last_place (z ∷ xs) x y zero e = inl e
last_place (z ∷ xs) x y (suc i) e = elim (last_place xs x y i e) [ inl h ↦ inl h | inr h ↦ inr (ap suc h.0, h.1) ]

-- the next type's layout, if it has one
pub layouts_more : (t : Table) (each : List (Option Layout)) (o : Option Layout) (n : ℕ) → AreLayouts t each → length each ≡ n → IfSome o (IsLayoutOf t n) → AreLayouts t (each ++ o ∷ [])
layouts_more t each o n are long is = λ id l e. elim (last_place each o (Some l) id e) [
  | inl h ↦ are id l h
  | inr h ↦ subst (λ k. IsLayoutOf t k l) (sym (h.0 ∙ long)) (subst (λ o. IfSome o (IsLayoutOf t n)) h.1 is)
]
