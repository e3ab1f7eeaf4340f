-- One line of a judge.
use Rattle.std.proofs.Common.{◌≡◌, ℕ, ◌+◌, ◌-◌, ◌<◌, ◌≤◌, List, length, take, drop, take_all, length-drop, Option, Some, None, sym, ap, subst, ◌∙◌, arith}
use Rattle.std.proofs.lemmas.List.{drop-drop}
use Rattle.eds_types.specs.Rows.{Table}
use Rattle.eds_plan.specs.Outs.{Report}
use Rattle.eds_plan.specs.declared.component.ComponentPlan.{ComponentPlan}
use Rattle.eds_replay.specs.declared.differs.Differs.{Differs}
use Rattle.eds_replay.specs.declared.session.Recorded.{Recorded}
use Rattle.eds_replay.specs.Differences.{AllAgree, IsFirstDifference}
use Rattle.eds_replay.specs.Judges.{AreBehind, IsLater, JudgeNow, Judged}
use Rattle.eds_replay.specs.Pairs.{AreCompared}
use Rattle.eds_replay.specs.Sessions.{RiseFrom, end, recorded_for}
use Rattle.eds_replay.proofs.Owned.{own-later, rise-drop}

-- the recordings from a place on, as they are lent
pub rest-is : (all : List Recorded) (place n : ℕ) → n ≡ length all - place → take n (drop place all) ≡ drop place all
rest-is all place n is = take_all n (drop place all) (let l = length-drop place all in omega arith)

pub rise-rest : (all lent : List Recorded) (place n : ℕ) → lent ≡ all → n ≡ length lent - place → RiseFrom 0 all → RiseFrom 0 (take n (drop place lent))
rise-rest all lent place n is count h = subst (RiseFrom 0) (sym (rest-is lent place n count)) (rise-drop place 0 lent (subst (RiseFrom 0) (sym is) h))

later-still : (last : Option ℕ) (line next : ℕ) → line < next → IsLater last line → IsLater last next
later-still None line next lt h = tt
later-still (Some l) line next lt h = omega (arith, h)

-- the recordings of a later line stand behind those of this one
pub behind-more : (last : Option ℕ) (all lent : List Recorded) (place seen line n : ℕ) → IsLater last line → AreBehind last place all
    → lent ≡ all → n ≡ length lent - place → seen ≡ end line (take n (drop place lent))
    → (next : ℕ) → line < next → recorded_for next all ≡ recorded_for next (drop (place + seen) all)
behind-more last all lent place seen line n later behind is count seen_is next lt =
    let rest : take n (drop place lent) ≡ drop place all = rest-is lent place n count ∙ ap (λ (rs : List Recorded). drop place rs) is in
    let place_is : seen ≡ end line (drop place all) = seen_is ∙ ap (end line) rest in
    behind next (later-still last line next lt later)
    ∙ own-later line next (drop place all) lt
    ∙ ap (λ k. recorded_for next (drop k (drop place all))) (sym place_is)
    ∙ ap (recorded_for next) (drop-drop seen place all)

pub within-more : (all lent : List Recorded) (place seen n : ℕ) → place ≤ length all → lent ≡ all → n ≡ length lent - place → seen ≤ length (take n (drop place lent)) → place + seen ≤ length all
within-more all lent place seen n le is count within =
    let size : length (take n (drop place lent)) ≡ length all - place = ap length (rest-is lent place n count ∙ ap (λ (rs : List Recorded). drop place rs) is) ∙ length-drop place all in
    omega arith

-- those of this line are all of them
pub own-here : (last : Option ℕ) (all lent own : List Recorded) (place line n : ℕ) → IsLater last line → AreBehind last place all
    → lent ≡ all → n ≡ length lent - place → own ≡ recorded_for line (take n (drop place lent)) → own ≡ recorded_for line all
own-here last all lent own place line n later behind is count own_is =
    own_is ∙ ap (recorded_for line) (rest-is lent place n count ∙ ap (λ (rs : List Recorded). drop place rs) is) ∙ sym (behind line later)

pub judged-by : (t : Table) (plan : List ComponentPlan) (line : ℕ) (own : List Recorded) (rs : List Report) (j k : JudgeNow) (agreed otherwise : ℕ) (d : Option Differs)
    → own ≡ recorded_for line j.recorded → AreCompared t plan line own rs agreed otherwise d → k.agreed ≡ j.agreed + agreed → k.otherwise ≡ j.otherwise + otherwise
    → Judged t plan line rs j k d
judged-by t plan line own rs j k agreed otherwise None own_is h agreed_is otherwise_is = record {
  more = otherwise;
  all = subst (λ (xs : List Recorded). AllAgree t plan xs rs otherwise) own_is h.0;
  agreed = agreed_is ∙ ap (λ n. j.agreed + n) h.1;
  otherwise = otherwise_is;
}
judged-by t plan line own rs j k agreed otherwise (Some d) own_is h agreed_is otherwise_is = subst (λ (xs : List Recorded). IsFirstDifference t plan line xs rs d) own_is h
