-- What texts of values admit.
use Rattle.std.proofs.Common.{◌≡◌, ℕ, zero, suc, ◌+◌, ℤ, ◌≤ℤ◌, length, List, [], ◌∷◌, Bool, true, false, Some, refl, sym, ap, subst, ◌∙◌, arith}
use Rattle.std.specs.Prelude.{Result, Ok, Err, IfOk, slice_get, map}
use Rattle.std.specs.List.{AllByRecursion, range_with_len}
use Rattle.eds_base.specs.declared.spans.Span.{Span}
use Rattle.eds_base.specs.Reading.{same}
use Rattle.eds_base.specs.Spans.{bottom, top}
use Rattle.eds_bits.specs.declared.forms.IntForm.{IntForm}
use Rattle.eds_types.specs.declared.row.Kind.{Kind}
use Rattle.eds_types.specs.declared.row.Kind.TheVariants as kind
use Rattle.eds_types.specs.Fields.{listed}
use Rattle.eds_types.specs.Reading.{is_within}
use Rattle.eds_types.specs.Rows.{Table, numbers}
use Rattle.eds_constraints.specs.ConstrainedRows.{IsSmallLabel, IsReadKind}
use Rattle.eds_constraints.specs.Sets.{one_number, number_within, concrete_under}

pub within_then : {E : Type 0} (domain : List Span) (n : ℤ) (r : Result (List Span) E) → is_within domain n ≡ true → IfOk r (λ s. s ≡ one_number n) → IfOk r (λ s. s ≡ number_within domain n)
within_then domain n (Ok s) is e = rw is e
within_then domain n (Err x) is e = tt

pub within_else : (domain : List Span) (n : ℤ) (s : List Span) → is_within domain n ≡ false → s ≡ [] → s ≡ number_within domain n
within_else domain n s is e = rw is e

-- the number of a label is one that a set may hold
listed_number : (listing : List (List ℕ × ℤ)) (label : List ℕ) (n : ℤ) → AllByRecursion IsSmallLabel listing → listed listing label ≡ Some n → (bottom ≤ℤ n) × (n ≤ℤ top)
listed_number [] label n all e = absurd cc
listed_number (x ∷ xs) label n all e = go (same x.0 label) refl (listed_number xs label n all.1)
  where
    go : (b : Bool) → same x.0 label ≡ b → (listed xs label ≡ Some n → (bottom ≤ℤ n) × (n ≤ℤ top)) → (bottom ≤ℤ n) × (n ≤ℤ top)
    go true h more = let f : Some x.1 ≡ Some n = rw h at e in let g : x.1 ≡ n = cc in subst (λ m. (bottom ≤ℤ m) × (m ≤ℤ top)) g all.0
    go false h more = more (rw h at e)

pub label_bounds : (form : IntForm) (listing : List (List ℕ × ℤ)) (label : List ℕ) (n : ℤ) (k : Kind) → k ≡ kind.Enum form listing → IsReadKind k → listed listing label ≡ Some n → (bottom ≤ℤ n) × (n ≤ℤ top)
label_bounds form listing label n k is keeps e = listed_number listing label n (subst IsReadKind is keeps) e

-- a set among those of all types
range_at : (f : ℕ → List Span) (a n i : ℕ) (s : List Span) → slice_get (map f (range_with_len a n)) i ≡ Some s → s ≡ f (a + i)
range_at f a zero i s e = absurd cc
range_at f a (suc n) zero s e = let g : Some (f a) ≡ Some s = e in let h : f a ≡ s = cc in sym h ∙ ap f (omega arith)
range_at f a (suc n) (suc i) s e = range_at f (a + 1) n i s e ∙ ap f (omega arith)

no_more : (n : ℕ) → 0 + n ≡ n
no_more n = omega arith

pub kept_is : {E : Type 0} (t : Table) (sets : List (List Span)) (id : ℕ) (s : List Span) (r : Result (List Span) E) → sets ≡ map (concrete_under t) (numbers t) → Some s ≡ slice_get sets id → IfOk r (λ c. c ≡ s) → IfOk r (λ c. c ≡ concrete_under t id)
kept_is t sets id s (Ok c) is at e = e ∙ range_at (concrete_under t) 0 (length t) id s (ap (λ l. slice_get l id) (sym is) ∙ sym at) ∙ ap (concrete_under t) (no_more id)
kept_is t sets id s (Err x) is at e = tt
