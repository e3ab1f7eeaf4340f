-- Components start one after another.
use Rattle.std.proofs.Common.{◌≡◌, ℕ, zero, suc, ◌+◌, ◌-◌, ◌<◌, List, [], ◌∷◌, ◌++◌, Option, Some, None, refl, sym, ap, subst, ◌∙◌, append_assoc, append-nil, arith, length, take, inl, inr}
use Rattle.std.specs.Prelude.{slice_set, slice_get, ◌⊎◌}
use Rattle.eds_types.specs.Rows.{Table}
use Rattle.eds_plan.specs.declared.component.ComponentPlan.{ComponentPlan}
use Rattle.eds_plan.specs.Outs.{Report, Signal}
use Rattle.eds_plan.specs.States.{StateNow}
use Rattle.eds_host.specs.Machines.{IsStateOf, waits_of}
use Rattle.eds_host.specs.Mirrors.{dues_of}
use Rattle.eds_host.specs.Plans.{AreBegun, AreStates, NoneBefore}
use Rattle.eds_host.specs.Laws.{NotBefore}
use Rattle.eds_host.specs.Runs.{begun, all_fresh, all_start, happening, nothing}
use Rattle.eds_host.specs.Settings.{world}
use Rattle.eds_host.specs.Systems.{System, World, Happening, leaving}
use Rattle.eds_host.proofs.Tied.{dues_length, dues_more, set_last}

pub last_or : {A : Type 0} (xs : List A) (i : ℕ) (s x : A) → slice_get (xs ++ s ∷ []) i ≡ Some x → ((i ≡ length xs) × (s ≡ x)) ⊎ (slice_get xs i ≡ Some x)
last_or [] zero s x e = inl (refl, cc)
last_or [] (suc i) s x e = absurd cc
last_or (y ∷ ys) zero s x e = inr e
last_or (y ∷ ys) (suc i) s x e = elim (last_or ys i s x e) [ inl h ↦ inl (ap suc h.0, h.1) | inr h ↦ inr h ]

pub begun_more : (t : Table) (plan : List ComponentPlan) (xs : List StateNow) (s : StateNow) (n : ℕ) → length xs ≡ n → AreBegun t plan xs → IsStateOf t plan n 0 s → NotBefore 1 (waits_of plan n s) → AreBegun t plan (xs ++ s ∷ [])
begun_more t plan xs s n e h k b i x g = elim (last_or xs i s x g) [
  | inl q ↦ subst (λ m. IsStateOf t plan m 0 x × NotBefore 1 (waits_of plan m x)) (sym (q.0 ∙ e)) (subst (λ (y : StateNow). IsStateOf t plan n 0 y × NotBefore 1 (waits_of plan n y)) q.1 (k, b))
  | inr q ↦ h i x q
]

-- the list of moments, with one more
pub tied_more : (sys : System) (ds es gs : List (Option (ℕ × ℕ))) (xs ys : List StateNow) (s : StateNow) (n : ℕ) (d : Option (ℕ × ℕ)) → length xs ≡ n → ds ≡ dues_of sys 0 xs → es ≡ ds ++ None ∷ [] → gs ≡ slice_set es n d → d ≡ sys.waits n s → ys ≡ xs ++ s ∷ [] → gs ≡ dues_of sys 0 ys
tied_more sys ds es gs xs ys s n d e t p u w z =
    let len : length ds ≡ n = ap length t ∙ dues_length sys 0 xs ∙ e in
    u ∙ ap (λ q. slice_set q n d) p ∙ ap (λ m. slice_set (ds ++ None ∷ []) m d) (sym len) ∙ set_last ds None d
    ∙ ap (λ q. q ++ d ∷ []) t ∙ ap (λ q. dues_of sys 0 xs ++ q ∷ []) (w ∙ ap (λ m. sys.waits m s) (sym e)) ∙ sym (dues_more sys xs s) ∙ ap (dues_of sys 0) (sym z)

pub start_next : (sys : System) (i n : ℕ) (h k z : Happening) → i < n → all_start sys i (n - i) h ≡ z → k ≡ begun sys i (sys.starts i) h → all_start sys (i + 1) (n - (i + 1)) k ≡ z
start_next sys i n h k z lt e p =
    let one : n - i ≡ suc (n - (i + 1)) = omega arith in
    ap (all_start sys (i + 1) (n - (i + 1))) p ∙ ap (λ m. all_start sys i m h) (sym one) ∙ e

-- what leaves in the course of it stands behind what left before
start_behind : (sys : System) (n i : ℕ) (w : World) (o q : List Report) → all_start sys i n (happening w (o ++ q)) ≡ happening (all_start sys i n (happening w q)).world (o ++ (all_start sys i n (happening w q)).outs)
start_behind sys zero i w o q = refl
start_behind sys (suc n) i w o q =
    let r = sys.starts i in
    ap (λ x. all_start sys (i + 1) n (happening (begun sys i r (happening w q)).world x)) (append_assoc o q (leaving sys.tied w.now i r.sends))
    ∙ start_behind sys n (i + 1) (begun sys i r (happening w q)).world o (q ++ leaving sys.tied w.now i r.sends)

module _ (sys : System) (n : ℕ) (q : List Signal) (v : World) (o r : List Report) (e : q ≡ []) (h : happening v r ≡ all_start sys 0 n (happening (world 0 [] q) o)) where
  whole : happening v r ≡ happening (all_start sys 0 n (happening nothing [])).world (o ++ (all_start sys 0 n (happening nothing [])).outs)
  whole = h ∙ ap (λ p. all_start sys 0 n (happening (world 0 [] p) o)) e ∙ ap (λ x. all_start sys 0 n (happening nothing x)) (sym (append-nil o)) ∙ start_behind sys n 0 nothing o []

  pub begun_world : v ≡ (all_start sys 0 n (happening nothing [])).world
  begun_world = ap (λ (k : Happening). k.world) whole

  pub begun_outs : r ≡ o ++ (all_start sys 0 n (happening nothing [])).outs
  begun_outs = ap (λ (k : Happening). k.outs) whole

pub begun_states : (t : Table) (plan : List ComponentPlan) (xs : List StateNow) → length xs ≡ length plan → AreBegun t plan xs → AreStates t plan 0 xs
begun_states t plan xs e h = record { all = e; each = λ i s g. (h i s g).0 }

pub begun_before : (t : Table) (plan : List ComponentPlan) (xs : List StateNow) → AreBegun t plan xs → NoneBefore plan 1 xs
begun_before t plan xs h i s g = (h i s g).1

-- one more component before it starts
pub fresh_next : (f : ℕ → StateNow) (i n : ℕ) (xs ys : List StateNow) (s : StateNow) (all : List StateNow) → i < n → xs ++ all_fresh f i (n - i) ≡ all → s ≡ f i → ys ≡ xs ++ s ∷ [] → ys ++ all_fresh f (i + 1) (n - (i + 1)) ≡ all
fresh_next f i n xs ys s all lt e is more =
    let one : n - i ≡ suc (n - (i + 1)) = omega arith in
    ap (λ zs. zs ++ all_fresh f (i + 1) (n - (i + 1))) (more ∙ ap (λ x. xs ++ x ∷ []) is)
    ∙ append_assoc xs (f i ∷ []) (all_fresh f (i + 1) (n - (i + 1)))
    ∙ ap (λ m. xs ++ all_fresh f i m) (sym one) ∙ e

pub fresh_length : (f : ℕ → StateNow) (i n : ℕ) → length (all_fresh f i n) ≡ n
fresh_length f i zero = refl
fresh_length f i (suc n) = ap suc (fresh_length f (i + 1) n)

-- ---- states that are given

-- one more of some states
pub take_more : (xs : List StateNow) (i : ℕ) (s : StateNow) → slice_get xs i ≡ Some s → take (i + 1) xs ≡ take i xs ++ s ∷ []
take_more [] i s e = absurd cc
take_more (x ∷ xs) zero s e = cc
take_more (x ∷ xs) (suc i) s e = let next : suc i + 1 ≡ suc (i + 1) = omega arith in ap (λ n. take n (x ∷ xs)) next ∙ ap (λ ys. x ∷ ys) (take_more xs i s e)

pub take_length : (xs : List StateNow) (i : ℕ) → i < length xs → length (take i xs) ≡ i
take_length [] i lt = absurd (omega (arith, lt))
take_length (x ∷ xs) zero lt = refl
take_length (x ∷ xs) (suc i) lt = ap suc (take_length xs i (omega (arith, lt)))

pub take_all : (xs : List StateNow) (i : ℕ) → i ≡ length xs → take i xs ≡ xs
take_all [] zero e = refl
take_all [] (suc i) e = refl
take_all (x ∷ xs) zero e = absurd (omega (arith, e))
take_all (x ∷ xs) (suc i) e = ap (λ ys. x ∷ ys) (take_all xs i (omega (arith, e)))
