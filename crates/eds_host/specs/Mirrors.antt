-- The moments for which components wait: a list by components, and a map in their order that has the same.
use Rattle.std.specs.Prelude.{◌≡◌, ◌+◌, ℕ, List, [], ◌∷◌, if◌then◌else◌, ◌==◌, Option, Some, None, unwrap_or, slice_get}
use Rattle.std.specs.Ordering.{nat_cmp, ordering_then}
use Rattle.std.specs.declared.cmp.Ordering.{Ordering}
use Rattle.std.specs.BTreeMap.{BTreeMap, get}
use Rattle.eds_host.specs.declared.due.Due.{Due}
use Rattle.eds_host.specs.declared.due.When.{When}
use Rattle.eds_plan.specs.States.{StateNow}
use Rattle.eds_host.specs.Systems.{System, due_at, first_of}

-- by moment, and then by component
abbrev pub when_cmp : When → When → Ordering
when_cmp a b = ordering_then (nat_cmp a.moment b.moment) (nat_cmp a.comp b.comp)

-- the machine of the first moment for which a component waits, where that is this moment
abbrev pub machine_at : ℕ → Option (ℕ × ℕ) → Option ℕ
machine_at t None = None
machine_at t (Some d) = if d.0 == t then Some d.1 else None

-- the machine that has this moment as the first of its component
abbrev pub machine_of : List (Option (ℕ × ℕ)) → When → Option ℕ
machine_of ds q = machine_at q.moment (unwrap_or (slice_get ds q.comp) None)

-- the map has what the list has
abbrev pub Mirrors : BTreeMap When ℕ → List (Option (ℕ × ℕ)) → Type 0
Mirrors m ds = (q : When) → get when_cmp m q ≡ machine_of ds q

-- the least of these moments, and the first component that waits for it; the first of them has this number
abbrev pub first_in : ℕ → List (Option (ℕ × ℕ)) → Option Due
first_in comp [] = None
first_in comp (d ∷ ds) = first_of (due_at comp d) (first_in (comp + 1) ds)

-- the moments for which components in these states wait, the first of them being this one
abbrev pub dues_of : System → ℕ → List StateNow → List (Option (ℕ × ℕ))
dues_of sys comp [] = []
dues_of sys comp (s ∷ states) = sys.waits comp s ∷ dues_of sys (comp + 1) states
