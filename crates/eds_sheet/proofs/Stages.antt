-- The least break, where some rules are judged before others.
use Rattle.std.proofs.Common.{◌≡◌, Bool, true, false, List, [], ◌∷◌, Option, Some, None, Result, Ok, Err, refl}
use Rattle.std.specs.Prelude.{IfSome}
use Rattle.std.specs.List.{AllByRecursion}
use Rattle.eds_base.specs.declared.refusal.Refusal.{Refusal}
use Rattle.eds_base.specs.Answering.{◌>>=◌}
use Rattle.eds_base.specs.Refusals.{comes_before, earlier, first_of, least}
use Rattle.eds_read_types.specs.Judging.{judged_first}

-- ---- the least of some breaks

pub earlier-is : (P : Refusal → Type 0) (a b : Refusal) → P a → P b → P (earlier a b)
earlier-is P a b p q = go (comes_before b a) refl
  where
    go : (before : Bool) → comes_before b a ≡ before → P (earlier a b)
    go true e = rw e q
    go false e = rw e p

first-is : (P : Refusal → Type 0) (a : Refusal) (o : Option Refusal) → P a → IfSome o P → IfSome (first_of (Some a) o) P
first-is P a None p q = p
first-is P a (Some b) p q = earlier-is P a b p q

-- what holds of each break holds of the least
pub least-is : (P : Refusal → Type 0) (xs : List Refusal) → AllByRecursion P xs → IfSome (least xs) P
least-is P [] h = tt
least-is P (x ∷ xs) h = first-is P x (least xs) h.0 (least-is P xs h.1)

-- ---- one stage after another

-- the first of two, where it is there
abbrev pub or_then : Option Refusal → Option Refusal → Option Refusal
or_then None other = other
or_then (Some r) other = Some r

first-there : (x : Refusal) (a b : Option Refusal) → first_of (Some x) a ≡ or_then (first_of (Some x) a) b
first-there x None b = refl
first-there x (Some y) b = refl

pub least-judged_first : (xs ys : List Refusal) → least (judged_first xs ys) ≡ or_then (least xs) (least ys)
least-judged_first [] ys = refl
least-judged_first (x ∷ xs) ys = first-there x (least xs) (least ys)

-- ---- stops

-- why there is no answer
abbrev pub stop_of : {A : Type 0} → Result A Refusal → Option Refusal
stop_of (Ok x) = None
stop_of (Err r) = Some r

pub stop_of-Err : {A : Type 0} (a : Result A Refusal) (r : Refusal) → stop_of a ≡ Some r → a ≡ Err r
stop_of-Err (Ok x) r e = absurd (cc)
stop_of-Err (Err q) r e = let same : q ≡ r = cc in rw same refl

-- one step and then another, which stops as it is told
pub stop_of-then : {A B : Type 0} (a : Result A Refusal) (f : A → Result B Refusal) (o : Option Refusal) → ((x : A) → a ≡ Ok x → stop_of (f x) ≡ o) → stop_of (a >>= f) ≡ or_then (stop_of a) o
stop_of-then (Ok x) f o h = h x refl
stop_of-then (Err r) f o h = refl

-- where two steps give an answer, the first gives one too, and the second gives it from that
pub answered : {A B : Type 0} (a : Result A Refusal) (f : A → Result B Refusal) (b : B) → (a >>= f) ≡ Ok b → (x : A) × (a ≡ Ok x) × (f x ≡ Ok b)
answered (Ok x) f b h = (x, refl, h)
answered (Err r) f b h = absurd cc

-- the first of three, where it is there
pub or_then-assoc : (a b c : Option Refusal) → or_then (or_then a b) c ≡ or_then a (or_then b c)
or_then-assoc None b c = refl
or_then-assoc (Some r) b c = refl
