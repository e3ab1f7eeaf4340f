-- Lines of bases, and the elements of sequences, put together one by one.
use Rattle.std.proofs.Common.{◌≡◌, ℕ, zero, suc, ◌+◌, ◌-◌, ◌<◌, ◌≤◌, List, [], ◌∷◌, ◌++◌, length, take, drop, get_or, Option, Some, None, refl, sym, ap, ◌∙◌, append_assoc, arith, drop-cons, add-one}
use Rattle.std.proofs.lemmas.List.{append-nil, length-append}
use Rattle.eds_base.specs.declared.ids.Place.{Place}
use Rattle.eds_base.specs.declared.ids.TypeId.{TypeId}
use Rattle.eds_type_rows.specs.declared.seat.Seat.{Seat}
use Rattle.eds_type_rows.specs.Bases.{base_at, bases_within}
use Rattle.eds_type_rows.specs.Seats.{seats_from}
use Rattle.eds_type_rows.proofs.BaseSteps.{bases-end, bases-next, bases-none}

-- ---- lines of bases

pub line_end : (bases : List (Option TypeId)) (left at : ℕ) (line whole : List ℕ) → base_at bases at ≡ None → line ++ bases_within left bases at ≡ whole → line ≡ whole
line_end bases left at line whole e h = sym (append-nil line) ∙ ap (λ bs. line ++ bs) (sym (bases-end left bases at e)) ∙ h

pub line_zero : (bases : List (Option TypeId)) (left at : ℕ) (line whole : List ℕ) → left ≡ 0 → line ++ bases_within left bases at ≡ whole → line ≡ whole
line_zero bases left at line whole e h = sym (append-nil line) ∙ ap (λ bs. line ++ bs) (sym (bases-none left bases at e)) ∙ h

pub line_next : (bases : List (Option TypeId)) (left at : ℕ) (base : TypeId) (line now whole : List ℕ) → 0 < left → base_at bases at ≡ Some base → now ≡ line ++ base.0 ∷ [] → line ++ bases_within left bases at ≡ whole → now ++ bases_within (left - 1) bases base.0 ≡ whole
line_next bases left at base line now whole some e put h =
    rw put (append_assoc line (base.0 ∷ []) (bases_within (left - 1) bases base.0) ∙ ap (λ bs. line ++ bs) (sym (bases-next left bases at base some e)) ∙ h)

-- ---- seats

pub seats_next : (y i end : ℕ) (parts : List Place) (d : Place) (old now whole : List Seat) → i < end → end ≤ length parts → now ≡ old ++ record { container = y; place = i; at = get_or parts i d } ∷ []
    → old ++ seats_from y i (take (end - i) (drop i parts)) ≡ whole → now ++ seats_from y (i + 1) (take (end - (i + 1)) (drop (i + 1) parts)) ≡ whole
seats_next y i end parts d old now whole lt le put h =
    let opened : drop i parts ≡ get_or parts i d ∷ drop (i + 1) parts = drop-cons parts i d (omega arith) ∙ rw add-one refl in
    let left : end - i ≡ suc (end - (i + 1)) = omega arith in
    let first : seats_from y i (take (end - i) (drop i parts)) ≡ record { container = y; place = i; at = get_or parts i d } ∷ seats_from y (i + 1) (take (end - (i + 1)) (drop (i + 1) parts)) = ap (λ n. seats_from y i (take n (drop i parts))) left ∙ ap (λ ps. seats_from y i (take (suc (end - (i + 1))) ps)) opened in
    rw put (append_assoc old (record { container = y; place = i; at = get_or parts i d } ∷ []) (seats_from y (i + 1) (take (end - (i + 1)) (drop (i + 1) parts))) ∙ ap (λ ss. old ++ ss) (sym first) ∙ h)

pub seats_end : (y i end : ℕ) (parts : List Place) (old whole : List Seat) → end ≤ i → old ++ seats_from y i (take (end - i) (drop i parts)) ≡ whole → old ≡ whole
seats_end y i end parts old whole le h =
    let none : end - i ≡ 0 = omega arith in
    sym (append-nil old) ∙ ap (λ n. old ++ seats_from y i (take n (drop i parts))) (sym none) ∙ h

take-all : {A : Type 0} (xs : List A) (n : ℕ) → length xs ≤ n → take n xs ≡ xs
take-all [] zero h = refl
take-all [] (suc n) h = refl
take-all (x ∷ xs) zero h = absurd (omega arith)
take-all (x ∷ xs) (suc n) h = ap (λ ys. x ∷ ys) (take-all xs n (omega (arith, h)))

drop-front : {A : Type 0} (xs ys : List A) → drop (length xs) (xs ++ ys) ≡ ys
drop-front [] ys = refl
drop-front (x ∷ xs) ys = drop-front xs ys

-- all of some elements
pub all_seats : (y : ℕ) (parts : List Place) → seats_from y 0 (take (length parts - 0) (drop 0 parts)) ≡ seats_from y 0 parts
all_seats y parts = ap (seats_from y 0) (take-all parts (length parts - 0) (omega arith))

-- those behind the entries
pub back_seats : (y : ℕ) (entries trailers : List Place) → seats_from y (length entries) (take (length (entries ++ trailers) - length entries) (drop (length entries) (entries ++ trailers))) ≡ seats_from y (length entries) trailers
back_seats y entries trailers =
    let len = length-append entries trailers in
    ap (λ ps. seats_from y (length entries) (take (length (entries ++ trailers) - length entries) ps)) (drop-front entries trailers)
    ∙ ap (seats_from y (length entries)) (take-all trailers (length (entries ++ trailers) - length entries) (omega (arith, len)))
