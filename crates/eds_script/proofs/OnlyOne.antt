-- The only argument that goes a way.
use Rattle.std.proofs.Common.{◌≡◌, ℕ, ◌-◌, ◌≤◌, Bool, true, false, List, [], ◌∷◌, length, get_or, take, drop, take_all, Option, Some, None, refl, sym, ap, subst, ◌∙◌, arith}
use Rattle.eds_base.specs.declared.ids.TypeId.{TypeId}
use Rattle.eds_plan.specs.Carried.{carried_fields, goes}
use Rattle.eds_plan.specs.declared.component.Level.TheVariants.{Subnetwork}
use Rattle.eds_plan.specs.declared.instance.Argument.{Argument}
use Rattle.eds_plan.specs.declared.run.Way.{Way}
use Rattle.eds_script.specs.Events.{frame_type}
use Rattle.eds_script.specs.Frames.{some_carried}

two : (way : Way) (f : List ℕ × TypeId) (xs : List Argument) → some_carried way xs ≡ true → frame_type Subnetwork (f ∷ carried_fields way xs) ≡ None
two way f [] some = cc
two way f (y ∷ ys) some = go (goes way y.mode) refl (two way f ys)
  where
    go : (b : Bool) → goes way y.mode ≡ b → (some_carried way ys ≡ true → frame_type Subnetwork (f ∷ carried_fields way ys) ≡ None) → frame_type Subnetwork (f ∷ carried_fields way (y ∷ ys)) ≡ None
    go true e others = rw e refl
    go false e others = rw e (others (rw e at some))

one : (way : Way) (f : List ℕ × TypeId) (xs : List Argument) → some_carried way xs ≡ false → frame_type Subnetwork (f ∷ carried_fields way xs) ≡ Some f.1
one way f [] none = refl
one way f (y ∷ ys) none = go (goes way y.mode) refl (one way f ys)
  where
    go : (b : Bool) → goes way y.mode ≡ b → (some_carried way ys ≡ false → frame_type Subnetwork (f ∷ carried_fields way ys) ≡ Some f.1) → frame_type Subnetwork (f ∷ carried_fields way (y ∷ ys)) ≡ Some f.1
    go true e others = let h : true ≡ false = rw e at none in cc
    go false e others = rw e (others (rw e at none))

module _ (way : Way) (rest : List Argument) (n : ℕ) (count : n ≡ length rest - 1) (some : 1 ≤ length rest) where
  split : (a : Argument) → a ≡ get_or rest 0 a → rest ≡ a ∷ take n (drop 1 rest)
  split a is = go rest count some is
    where
      go : (xs : List Argument) → n ≡ length xs - 1 → 1 ≤ length xs → a ≡ get_or xs 0 a → xs ≡ a ∷ take n (drop 1 xs)
      go [] k le e = absurd (omega arith)
      go (x ∷ xs) k le e = ap (λ (y : Argument). y ∷ xs) (sym e) ∙ ap (λ (ys : List Argument). a ∷ ys) (sym (take_all n xs (omega arith)))

  fields-split : (a : Argument) → a ≡ get_or rest 0 a → goes way a.mode ≡ true → carried_fields way rest ≡ (a.name, a.id) ∷ carried_fields way (take n (drop 1 rest))
  fields-split a is yep = ap (carried_fields way) (split a is) ∙ rw yep refl

  pub none-only : (a : Argument) → a ≡ get_or rest 0 a → goes way a.mode ≡ true → some_carried way (take n (drop 1 rest)) ≡ true → None ≡ frame_type Subnetwork (carried_fields way rest)
  none-only a is yep more = sym (ap (frame_type Subnetwork) (fields-split a is yep) ∙ two way (a.name, a.id) (take n (drop 1 rest)) more)

  pub some-only : (a : Argument) → a ≡ get_or rest 0 a → goes way a.mode ≡ true → some_carried way (take n (drop 1 rest)) ≡ false → Some a.id ≡ frame_type Subnetwork (carried_fields way rest)
  some-only a is yep none = sym (ap (frame_type Subnetwork) (fields-split a is yep) ∙ one way (a.name, a.id) (take n (drop 1 rest)) none)
