-- One step after another, each of which may stop.
use Rattle.std.proofs.Common.{◌≡◌, Bool, true, false, Option, Some, None, Result, Ok, Err, refl, ap}
use Rattle.eds_base.specs.Answering.{◌>>=◌, or_stop}
use Rattle.eds_script.specs.Stops.{unless_stop}

-- what was there before the next step
pub bound : {A B E : Type 0} (r : Result A E) (f : A → Result B E) (x : B) → (r >>= f) ≡ Ok x → (a : A) × (r ≡ Ok a) × (f a ≡ Ok x)
bound (Ok a) f x h = (a, refl, h)
bound (Err e) f x h = cc

-- what was there and didn't stop
pub there : {A E : Type 0} (s : E) (o : Option A) (a : A) → or_stop s o ≡ Ok a → o ≡ Some a
there s None a h = cc
there s (Some b) a h = let is : b ≡ a = cc in ap Some is

-- a test that let it go on
pub tested : {W : Type 0} (w : W) (b : Bool) (a : Bool) → unless_stop w b ≡ Ok a → b ≡ true
tested w true a h = refl
tested w false a h = cc

-- one answer is one value
pub inside : {A E : Type 0} (x y : A) → ◌≡◌ {A = Result A E} (Ok x) (Ok y) → x ≡ y
inside x y e = cc
