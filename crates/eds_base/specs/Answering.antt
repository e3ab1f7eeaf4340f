-- What a function gives that answers a value or a named stop, where memory may run out.
use Rattle.std.specs.Prelude.{◌≡◌, Option, Some, None, Result, Ok, Err, ⊤}
use Rattle.eds_base.specs.declared.fail.Fail.{Fail}
use Rattle.eds_base.specs.declared.fail.Fail.TheVariants.{Named, Memory}

-- one step after another, while nothing stops
infixl 10 ◌>>=◌
abbrev pub ◌>>=◌ : {A B S : Type 0} → Result A S → (A → Result B S) → Result B S
(Ok x) >>= f = f x
(Err s) >>= f = Err s

-- what is there, or a stop
abbrev pub or_stop : {A S : Type 0} → S → Option A → Result A S
or_stop s None = Err s
or_stop s (Some x) = Ok x

-- a call that stopped with a cause has this answer
abbrev pub StopsAs : {Y S : Type 0} → Fail S → Result Y S → Type 0
StopsAs (Named s) answer = answer ≡ Err s
StopsAs Memory answer = ⊤

-- What a function returned, seen by view, is the answer, unless memory ran out.
abbrev pub Answers : {X Y S : Type 0} → (X → Y) → Result X (Fail S) → Result Y S → Type 0
Answers view (Ok x) answer = answer ≡ Ok (view x)
Answers view (Err e) answer = StopsAs e answer
