-- Recordings beside what left a run, one after another.
use Rattle.std.proofs.Common.{◌≡◌, ℕ, ◌+◌, ◌<◌, ◌≤◌, ◌-◌, List, [], ◌∷◌, length, get_or, take, drop, take_all, map, Option, Some, None, refl, sym, ap, subst, arith, inl, inr}
use Rattle.std.specs.List.{AllByRecursion}
use Rattle.eds_types.specs.Rows.{Table}
use Rattle.eds_plan.specs.Outs.{Report, report}
use Rattle.eds_plan.specs.declared.component.ComponentPlan.{ComponentPlan}
use Rattle.eds_plan.specs.declared.run.Out.{Out}
use Rattle.eds_replay.specs.declared.differs.Differs.{Differs}
use Rattle.eds_replay.specs.declared.session.Recorded.{Recorded}
use Rattle.eds_replay.specs.Agreement.{Agrees}
use Rattle.eds_script.specs.Fitting.{FitsPlan}
use Rattle.eds_replay.specs.Differences.{AllAgree, AreDifferent, IsFirstDifference}
use Rattle.eds_replay.specs.Pairs.{AreCompared, LeavesFirst}

module _ (t : Table) (plan : List ComponentPlan) (owner : ℕ) where
  -- the first recording differs
  pub differs-here : (xs : List Recorded) (r : Report) (d : Differs) (x : Recorded) (rs : List Report) → 1 ≤ length xs → x ≡ get_or xs 0 x → AreDifferent t plan x r d → IsFirstDifference t plan owner xs (r ∷ rs) d
  differs-here [] r d x rs some is h = absurd (omega arith)
  differs-here (y ∷ xs) r d x rs some is h = inl (subst (λ (z : Recorded). AreDifferent t plan z r d) is h)

  -- the first recording agrees
  pub agrees-here : (xs : List Recorded) (r : Report) (x : Recorded) (m n : ℕ) → 1 ≤ length xs → x ≡ get_or xs 0 x → n ≡ length xs - 1 → Agrees t plan x.text r m
      → (y : Recorded) × (xs ≡ y ∷ take n (drop 1 xs)) × Agrees t plan y.text r m
  agrees-here [] r x m n some is count h = absurd (omega arith)
  agrees-here (y ∷ xs) r x m n some is count h = (y, ap (λ (ys : List Recorded). y ∷ ys) (sym (take_all n xs (omega arith))), subst (λ (z : Recorded). Agrees t plan z.text r m) is h)

  -- So far some agree, of which so many are spelled otherwise: where the others agree, all do, and the first difference of the others
  -- is that of all.
  pub record SoFarAgree (xs : List Recorded) (rs : List Report) (agreed otherwise : ℕ) (left : List Recorded) (rest : List Report) : Type 0 where
    pub agree : (k : ℕ) → AllAgree t plan left rest k → AllAgree t plan xs rs (otherwise + k)
    pub differ : (d : Differs) → IsFirstDifference t plan owner left rest d → IsFirstDifference t plan owner xs rs d
    pub count : agreed + length rest ≡ length rs
    pub fit : AllByRecursion (FitsPlan t plan) rest

  pub none-yet : (xs : List Recorded) (rs : List Report) → AllByRecursion (FitsPlan t plan) rs → SoFarAgree xs rs 0 0 xs rs
  none-yet xs rs fit = record {
    agree = λ k h. subst (λ n. AllAgree t plan xs rs n) (let e : k ≡ 0 + k = omega arith in e) h;
    differ = λ d h. h;
    count = omega arith;
    fit = fit;
  }

  pub one-more : (xs : List Recorded) (rs : List Report) (agreed otherwise next later m : ℕ) (left others : List Recorded) (r : Report) (rest after : List Report) (x : Recorded)
      → left ≡ x ∷ others → rest ≡ r ∷ after → Agrees t plan x.text r m → next ≡ agreed + 1 → later ≡ otherwise + m
      → SoFarAgree xs rs agreed otherwise left rest → SoFarAgree xs rs next later others after
  one-more xs rs agreed otherwise next later m left others r rest after x left_is rest_is agrees next_is later_is s =
      let whole : SoFarAgree xs rs agreed otherwise (x ∷ others) (r ∷ after) = subst (λ (l : List Recorded). SoFarAgree xs rs agreed otherwise l (r ∷ after)) left_is (subst (λ (q : List Report). SoFarAgree xs rs agreed otherwise left q) rest_is s) in
      record {
        agree = λ k h. subst (λ n. AllAgree t plan xs rs n) (let e : otherwise + (m + k) ≡ later + k = omega arith in e) (whole.agree (m + k) (m, k, agrees, h, refl));
        differ = λ d h. whole.differ d (inr (m, agrees, h));
        count = let c : agreed + length (r ∷ after) ≡ length rs = whole.count in omega arith;
        fit = whole.fit.1;
      }

  -- nothing more left the run
  pub all-seen : (xs : List Recorded) (rs : List Report) (agreed otherwise : ℕ) (left : List Recorded) (d : Option Differs)
      → LeavesFirst left d → SoFarAgree xs rs agreed otherwise left [] → AreCompared t plan owner xs rs agreed otherwise d
  all-seen xs rs agreed otherwise [] None h s = (subst (λ n. AllAgree t plan xs rs n) (let e : otherwise + 0 ≡ otherwise = omega arith in e) (s.agree 0 refl), let c : agreed + length {A = Report} [] ≡ length rs = s.count in omega arith)
  all-seen xs rs agreed otherwise [] (Some d) h s = absurd h
  all-seen xs rs agreed otherwise (x ∷ left) None h s = absurd h
  all-seen xs rs agreed otherwise (x ∷ left) (Some d) h s = s.differ d h

  -- ---- the same over what leaves a run

  pub one-event-more : (xs : List Recorded) (rs : List Report) (agreed otherwise next later m n : ℕ) (left others : List Recorded) (event : Out) (rest : List Out)
      → 1 ≤ length rest → event ≡ get_or rest 0 event → n ≡ length rest - 1
      → (x : Recorded) × (left ≡ x ∷ others) × Agrees t plan x.text (report event) m
      → next ≡ agreed + 1 → later ≡ otherwise + m
      → SoFarAgree xs rs agreed otherwise left (map report rest) → SoFarAgree xs rs next later others (map report (take n (drop 1 rest)))
  one-event-more xs rs agreed otherwise next later m n left others event [] some is count first next_is later_is s = absurd (omega arith)
  one-event-more xs rs agreed otherwise next later m n left others event (e ∷ rest) some is count first next_is later_is s =
      let all : take n rest ≡ rest = take_all n rest (omega arith) in
      subst (λ (es : List Out). SoFarAgree xs rs next later others (map report es)) (sym all)
      (one-more xs rs agreed otherwise next later m left others (report e) (map report (e ∷ rest)) (map report rest) first.0 first.1 refl
      (subst (λ (o : Out). Agrees t plan first.0.text (report o) m) is first.2) next_is later_is s)

  pub all-events-seen : (xs : List Recorded) (rs : List Report) (agreed otherwise : ℕ) (left : List Recorded) (rest : List Out) (d : Option Differs)
      → length rest < 1 → LeavesFirst left d → SoFarAgree xs rs agreed otherwise left (map report rest) → AreCompared t plan owner xs rs agreed otherwise d
  all-events-seen xs rs agreed otherwise left [] d none h s = all-seen xs rs agreed otherwise left d h s
  all-events-seen xs rs agreed otherwise left (e ∷ rest) d none h s = absurd (omega arith)
