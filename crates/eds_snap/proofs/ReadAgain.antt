-- The text of a snapshot is read as that snapshot.
use Rattle.std.proofs.Common.{cond, ◌≡◌, ◌≤◌, ◌<◌, ◌+◌, ◌^◌, ℕ, zero, suc, List, [], ◌∷◌, ◌++◌, length, take, drop, get_or, map, codes, Bool, true, false, not, ◌&&◌, ◌||◌, Option, Some, None, option_map, slice_get, Result, Ok, Err, refl, sym, ap, subst, inl, inr, ◌∙◌, append-nil, arith}
use Rattle.std.specs.Prelude.{◌⊎◌, ◌==◌, decimal, nat_le, nat_lt, slice_set, unwrap_or}
use Rattle.std.specs.List.{AllByRecursion, list_any}
use Rattle.std.specs.Str.{IsUtf8}
use Rattle.std.proofs.lemmas.Bool.{eqb-true}
use Rattle.std.proofs.lemmas.Bool.Decides.{nat_tests}
use Rattle.std.proofs.lemmas.List.{append_assoc}
use Rattle.std.proofs.lemmas.Str.{IsCharBoundary-after_ascii, IsCharBoundary-before_ascii, IsUtf8-drop, IsUtf8-take}
use Rattle.eds_base.specs.Answering.{◌>>=◌, or_stop}
use Rattle.eds_bits.specs.Lists.{Has}
use Rattle.eds_types.specs.PackedSizes.{packs}
use Rattle.eds_types.specs.Plain.{Plain}
use Rattle.eds_types.specs.Rows.{Table}
use Rattle.eds_types.specs.Rules.{AreDistinct}
use Rattle.eds_value.specs.Json.{value_in}
use Rattle.eds_value.specs.JsonOfValue.{json_text}
use Rattle.eds_act.specs.Does.{Conforms}
use Rattle.eds_act.specs.Does as act
use Rattle.eds_plan.specs.Ends.{end_text}
use Rattle.eds_plan.specs.Plans.{component_at, machine_at}
use Rattle.eds_plan.specs.declared.component.ComponentPlan.{ComponentPlan}
use Rattle.eds_plan.specs.declared.component.EndPlan.{EndPlan}
use Rattle.eds_plan.specs.declared.component.VarPlan.{VarPlan}
use Rattle.eds_plan.specs.declared.instance.Member.{Member}
use Rattle.eds_plan.specs.declared.machine.Machine.{Machine}
use Rattle.eds_plan.specs.declared.machine.State.{State}
use Rattle.eds_plan.specs.declared.run.MachineState.{MachineState}
use Rattle.eds_plan.specs.declared.run.Outstanding.{Outstanding}
use Rattle.eds_plan.specs.declared.run.Wire.{Wire}
use Rattle.eds_snap.specs.declared.stage.Stage.{Stage}
use Rattle.eds_snap.specs.declared.stage.Stage.TheVariants.{First, Time, Wires, States}
use Rattle.eds_snap.specs.declared.why.BadSnap.{BadSnap}
use Rattle.eds_snap.specs.declared.why.SnapWhy.{SnapWhy}
use Rattle.eds_snap.specs.declared.why.SnapWhy.TheVariants as why
use Rattle.eds_snap.specs.Laws.{AreUnderWay, IsStateBy, IsUnderWay, MayBeReadAgain, StandsAt, TiesWords, wires_from}
use Rattle.eds_snap.specs.Lines.{snap_lines}
use Rattle.eds_snap.specs.Readings.{Reading, SnapNow, machines_told, put, read_line, read_lines, snap_of, snap_read, state_told, states_told, unread, values_told, with_machine, with_variable, with_wait}
use Rattle.eds_snap.specs.Stops.{at_line}
use Rattle.eds_snap.specs.Texts.{snap_text}
use Rattle.eds_snap.specs.Words.{Saying, begins, ends, ties, stands, holds, waits, form}
use Rattle.eds_snap.specs.Written.{AreOneLine, IsRest, LinesSay, TextsAreLines, TextsHaveLines, all_words, component_words, each_pair, ended_from, ended_line, machine_words, snap_words, spaced, text_of_lines, time_words, variable_words, wait_words, wire_words}
use Rattle.eds_snap.proofs.Gone.{both_true, component_is, here, machine_of}
use Rattle.eds_snap.proofs.Named.{AllNamed, ComponentNamed, IsName, end-is, machine-placed, member-is, state-named, transaction-is, variable-placed, wait-placed}
use Rattle.eds_snap.proofs.Telling.{AllTell, Goes, IsOpen, Leads, Tells, all-join, filled, get-behind, goes-by, heard, leads-join, leads-one, none-told, set-behind, tell-join, tell-none, tell-one}
use Rattle.eds_snap.proofs.Wording.{digits-word, lines-say}
use Rattle.eds_plan.specs.Names.{name_of_member}
use Rattle.eds_plan.specs.States.{StateNow}
use Rattle.eds_script.specs.Fitting.{HaveValues, IsValueOf}
use Rattle.eds_script.specs.Lines.{is_feed}
use Rattle.eds_script.specs.Names.{end_name, member_name, state_name, transaction_name}
use Rattle.eds_script.specs.Numbers.{number_of}
use Rattle.eds_script.specs.Pairs.{AllPaired}
use Rattle.eds_script.specs.Stops.{unless_stop}
use Rattle.eds_script.specs.Words.{is_space}
use Rattle.eds_snap.specs.Entries.{Entry, Told, blank, entry_of, in_time, is_due, is_told, machine_entry, machine_is, nothing, nothing_is, or_why, stands_at, time_entry, time_is, told_of, type_of, variable_entry, variable_is, wait_entry, wait_is, wire_is}
use Rattle.eds_snap.specs.Order.{is_whole, state_order}
use Rattle.eds_snap.specs.Places.{MachinePlace, VariablePlace, WaitPlace, machine_place, state_named, variable_place, wait_place}
use Rattle.eds_snap.proofs.Values.{conforms-by}

-- ---- one step after another

some-then : {A B S : Type 0} (w : S) (o : Option A) (f : A → Result B S) (x : A) → o ≡ Some x → (or_stop w o >>= f) ≡ f x
some-then w o f x e = ap (λ y. or_stop w y >>= f) e

test-then : {B : Type 0} (w : SnapWhy) (b : Bool) (f : Bool → Result B SnapWhy) → b ≡ true → (unless_stop w b >>= f) ≡ f true
test-then w b f e = ap (λ y. unless_stop w y >>= f) e

le-is : (a b : ℕ) → a ≤ b → nat_le a b ≡ true
le-is a b h = grind (arith, nat_tests)

lt-is : (a b : ℕ) → a < b → nat_lt a b ≡ true
lt-is a b h = grind (arith, nat_tests)

-- ---- texts without a line feed

no-feed : (a b : List ℕ) → list_any is_feed a ≡ false → list_any is_feed b ≡ false → list_any is_feed (spaced a b) ≡ false
no-feed [] b h k = k
no-feed (c ∷ cs) b h k = go (is_feed c) h (λ e. no-feed cs b e k)
  where
    go : (x : Bool) → (x || list_any is_feed cs) ≡ false → (list_any is_feed cs ≡ false → list_any is_feed (spaced cs b) ≡ false) → (x || list_any is_feed (spaced cs b)) ≡ false
    go true e others = cc
    go false e others = others e

-- ---- UTF-8

take-front : (a b : List ℕ) → take (length a) (a ++ b) ≡ a
take-front [] b = refl
take-front (c ∷ cs) b = ap (λ xs. c ∷ xs) (take-front cs b)

drop-front : (a b : List ℕ) (c n : ℕ) → n ≡ suc (length a) → drop n (a ++ c ∷ b) ≡ b
drop-front [] b c n e = ap (λ k. drop k (c ∷ b)) e
drop-front (x ∷ xs) b c n e = ap (λ k. drop k ((x ∷ xs) ++ c ∷ b)) e ∙ drop-front xs b c (suc (length xs)) refl

there-at : (a b : List ℕ) (c : ℕ) → get_or (a ++ c ∷ b) (length a) 0 ≡ c
there-at [] b c = refl
there-at (x ∷ xs) b c = there-at xs b c

longer-text : (a b : List ℕ) (c : ℕ) → length a < length (a ++ c ∷ b)
longer-text [] b c = omega arith
longer-text (x ∷ xs) b c = let k = longer-text xs b c in omega (arith, k)

-- what stands before an ASCII octet, and behind it
utf8-before : (a : List ℕ) (c : ℕ) (b : List ℕ) → c < 128 → IsUtf8 (a ++ c ∷ b) → IsUtf8 a
utf8-before a c b small u = subst IsUtf8 (take-front a (c ∷ b)) (IsUtf8-take (a ++ c ∷ b) (length a) u (IsCharBoundary-before_ascii (a ++ c ∷ b) (length a) (longer-text a b c) (let e = there-at a b c in omega (arith, e, small))))

utf8-behind : (a : List ℕ) (c : ℕ) (b : List ℕ) → c < 128 → IsUtf8 (a ++ c ∷ b) → IsUtf8 b
utf8-behind a c b small u =
    subst IsUtf8 (drop-front a b c (length a + 1) (omega arith))
    (IsUtf8-drop (a ++ c ∷ b) (length a + 1) u (IsCharBoundary-after_ascii (a ++ c ∷ b) (length a) u (longer-text a b c) (let e = there-at a b c in omega (arith, e, small))))

-- lines of a text that is UTF-8
lines-utf8 : (ls : List (List ℕ)) → IsUtf8 (text_of_lines ls) → AllByRecursion IsUtf8 ls
lines-utf8 [] u = tt
lines-utf8 (l ∷ ls) u =
    let one : IsUtf8 (l ++ 10 ∷ text_of_lines ls) = subst IsUtf8 (append_assoc l (10 ∷ []) (text_of_lines ls)) u in
    (utf8-before l 10 (text_of_lines ls) (omega arith) one, lines-utf8 ls (utf8-behind l 10 (text_of_lines ls) (omega arith) one))

all-front : {A : Type 0} (P : A → Type 0) (xs ys : List A) → AllByRecursion P (xs ++ ys) → AllByRecursion P xs
all-front P [] ys h = tt
all-front P (x ∷ xs) ys h = (h.0, all-front P xs ys h.1)

all-back : {A : Type 0} (P : A → Type 0) (xs ys : List A) → AllByRecursion P (xs ++ ys) → AllByRecursion P ys
all-back P [] ys h = h
all-back P (x ∷ xs) ys h = all-back P xs ys h.1

-- ---- transactions

-- what a list has with one item more
has-more : {A : Type 0} (xs : List A) (y x : A) → Has (xs ++ y ∷ []) x → Has xs x ⊎ (y ≡ x)
has-more [] y x h = inr (only h.before h.after h.is)
  where
    only : (before after : List _) → y ∷ [] ≡ before ++ x ∷ after → y ≡ x
    only [] after e = cc
    only (b ∷ []) after e = cc
    only (b ∷ c ∷ before) after e = cc
has-more (z ∷ xs) y x h = go h.before h.after h.is (has-more xs y x)
  where
    go : (before after : List _) → z ∷ (xs ++ y ∷ []) ≡ before ++ x ∷ after → (Has (xs ++ y ∷ []) x → Has xs x ⊎ (y ≡ x)) → Has (z ∷ xs) x ⊎ (y ≡ x)
    go [] after e others = let same : z ≡ x = cc in inl (record { before = []; after = xs; is = ap (λ u. u ∷ xs) same })
    go (b ∷ before) after e others =
        let rest : xs ++ y ∷ [] ≡ before ++ x ∷ after = cc in
        elim (others (record { before = before; after = after; is = rest })) [
          | inl k ↦ inl (record { before = z ∷ k.before; after = k.after; is = ap (λ us. z ∷ us) k.is })
          | inr k ↦ inr k
        ]

-- transactions that none before them is
abbrev AreNew : List Outstanding → List Outstanding → Type 0
AreNew before qs = AllByRecursion (λ q. Has before q → ⊥) qs

has-later : (before : List Outstanding) (q : Outstanding) (all qs : List Outstanding) → ((r : Outstanding) → Has qs r → Has all r) → (Has all q → ⊥) → AreNew before qs → AreNew (before ++ q ∷ []) qs
has-later before q all [] up never h = tt
has-later before q all (r ∷ rs) up never h = (
  λ k. elim (has-more before q r k) [
    | inl x ↦ h.0 x
    | inr same ↦ never (subst (Has all) (sym same) (up r (record { before = []; after = rs; is = refl })))
  ],
  has-later before q all rs (λ u k. up u (record { before = r ∷ k.before; after = k.after; is = ap (λ us. r ∷ us) k.is })) never h.1,
)

-- a list that waits for a transaction has it
none-waits : (qs : List Outstanding) (q : Outstanding) → (Has qs q → ⊥) → act.waits qs q.face q.member q.name ≡ false
none-waits [] q never = refl
none-waits (r ∷ rs) q never = go (r.face == q.face && (r.member == q.member && r.name == q.name)) refl (none-waits rs q (λ k. never (record { before = r ∷ k.before; after = k.after; is = ap (λ us. r ∷ us) k.is })))
  where
    same-one : (r.face == q.face && (r.member == q.member && r.name == q.name)) ≡ true → r ≡ q
    same-one e =
        let one = both_true (r.face == q.face) (r.member == q.member && r.name == q.name) e in
        let two = both_true (r.member == q.member) (r.name == q.name) one.1 in
        ap (λ n. record { face = n; member = r.member; name = r.name }) (eqb-true r.face q.face one.0)
        ∙ ap (λ n. record { face = q.face; member = n; name = r.name }) (eqb-true r.member q.member two.0)
        ∙ ap (λ n. record { face = q.face; member = q.member; name = n }) (eqb-true r.name q.name two.1)

    go : (b : Bool) → (r.face == q.face && (r.member == q.member && r.name == q.name)) ≡ b → act.waits rs q.face q.member q.name ≡ false → act.waits (r ∷ rs) q.face q.member q.name ≡ false
    go true e others = absurd (never (record { before = []; after = rs; is = ap (λ u. u ∷ rs) (same-one e) }))
    go false e others = rw e others

-- ---- what is printed of a component

-- all was told of a component
abbrev full : StateNow → Told
full s = record { variables = map Some s.variables; machines = map Some s.machines; outstanding = s.outstanding }

-- the JSON of values is UTF-8, where their lines are
with-utf8 : (t : Table) (component : List ℕ) (xs : List VarPlan) (vs : List Plain) → HaveValues t xs vs → AllByRecursion IsUtf8 (each_pair (variable_words t component) xs vs) → AllPaired (λ (x : VarPlan) (v : Plain). Conforms t x.id.0 v × IsUtf8 (json_text t v)) xs vs
with-utf8 t component [] [] h u = tt
with-utf8 t component [] (v ∷ vs) h u = absurd h
with-utf8 t component (x ∷ xs) [] h u = absurd h
with-utf8 t component (x ∷ xs) (v ∷ vs) h u =
    let rest = utf8-behind (codes "var") 32 (spaced component (spaced x.name (json_text t v))) (omega arith) u.0 in
    let named = utf8-behind component 32 (spaced x.name (json_text t v)) (omega arith) rest in
    ((conforms-by t x.id.0 v h.0, utf8-behind x.name 32 (json_text t v) (omega arith) named), with-utf8 t component xs vs h.1 u.1)

module _ (t : Table) (plan : List ComponentPlan)
    (packed : (id : ℕ) (v : Plain) → Conforms t id v → packs t id v ≡ true)
    (json : (id : ℕ) (v : Plain) → Conforms t id v → IsUtf8 (json_text t v) → IsRest (json_text t v) × (value_in t id (json_text t v) ≡ Ok v))
    (now : ℕ) (early : now < 2 ^ 63) (wires : List Wire) where
  module _ (front rest : List Told) (c : ComponentPlan) (there : slice_get plan (length front) ≡ Some c) (named : ComponentNamed plan (length front) c) where
    -- what was told of this component, among others
    abbrev among : Told → List Told
    among x = front ++ x ∷ rest

    own : component_at plan (length front) ≡ c
    own = component_is plan (length front) c there

    told-is : (x : Told) → told_of (among x) (length front) ≡ x
    told-is x = ap (λ o. unwrap_or o nothing) (get-behind front rest x)

    -- what a line tells of the component is put there
    put-there : (x : Told) (f : Told → Told) → slice_set (among x) (length front) (f (told_of (among x) (length front))) ≡ among (f x)
    put-there x f = set-behind front rest x (f (told_of (among x) (length front))) ∙ ap (λ y. among (f y)) (told-is x)

    tells-by : (text : List ℕ) (x : Told) (f : Told → Told) (s : Saying) → list_any is_feed text ≡ false → ((n : ℕ) → form (ended_line n text) ≡ Ok s)
        → ((n : ℕ) (stage : Stage) → IsOpen t plan now wires stage → Goes t plan (heard t plan now wires stage (among x)) n text (heard t plan now wires States (slice_set (among x) (length front) (f (told_of (among x) (length front))))))
        → Tells t plan now wires text (among x) (among (f x))
    tells-by text x f s line said goes = record {
      line = line;
      goes = λ n stage o. subst (λ told. Goes t plan (heard t plan now wires stage (among x)) n text (heard t plan now wires States told)) (put-there x f) (goes n stage o);
    }

    -- ---- machines

    machine-entered : (x : Told) (before behind : List (Option MachineState)) (m : Machine) (s : MachineState) → x.machines ≡ before ++ None ∷ behind → slice_get c.machines (length before) ≡ Some m → state_named m (state_name m s.at) ≡ Some s.at → StandsAt now m s
        → machine_entry t plan now (among x) c.name m.name (state_name m s.at) (decimal s.entered) (decimal s.passed) ≡ Ok (machine_is (length front) (length before) s)
    unfolding machine_entry
    machine-entered x before behind m s slots e named_state k =
        let h : s.passed ≤ now = k.passed in
        let g : s.entered ≤ s.passed = k.entered in
        let there-is : machine_at (component_at plan (length front)) (length before) ≡ m = ap (λ (d : ComponentPlan). machine_at d (length before)) own ∙ machine_of c (length before) m e in
        some-then why.Number (number_of (decimal s.entered)) _ s.entered (lines-say.number s.entered (omega (arith, early, h, g)))
        ∙ some-then why.Number (number_of (decimal s.passed)) _ s.passed (lines-say.number s.passed (omega (arith, early, h)))
        ∙ some-then why.Name (machine_place plan c.name m.name (state_name m s.at)) _ (record { comp = length front; machine = length before; at = s.at }) (machine-placed plan (length front) c there named (length before) m s.at (state_name m s.at) e named_state)
        ∙ test-then why.Twice (not (is_told (told_of (among x) (length front)).machines (length before))) _
        (ap (λ (y : Told). not (is_told y.machines (length before))) (told-is x) ∙ ap (λ ms. not (is_told ms (length before))) slots ∙ ap not (none-told before behind))
        ∙ test-then why.Time (in_time now s) _ (ap (λ b. b && nat_le s.passed now) (le-is s.entered s.passed g) ∙ le-is s.passed now h)
        ∙ test-then why.Due (not (is_due now s (machine_at (component_at plan (length front)) (length before)))) _ (ap (λ (j : Machine). not (is_due now s j)) there-is ∙ ap not k.later)

    machine-tells : (x : Told) (before behind : List (Option MachineState)) (m : Machine) (s : MachineState) → slice_get c.machines (length before) ≡ Some m → StandsAt now m s
        → Tells t plan now wires (machine_words c.name m s) (among (record x { machines = before ++ None ∷ behind })) (among (record x { machines = before ++ Some s ∷ behind }))
    machine-tells x before behind m s e k =
        let h : s.passed ≤ now = k.passed in
        let g : s.entered ≤ s.passed = k.entered in
        let st = here m.states s.at k.at in
        let machine = named.machines (length before) m e in
        let state : IsName (state_name m s.at) (state_named m (state_name m s.at)) s.at = state-named m s.at st.0 st.1 (machine.states s.at st.0 st.1) in
        let entered = digits-word s.entered (omega (arith, early, h, g)) in
        let passed = digits-word s.passed (omega (arith, early, h)) in
        let times : List ℕ = spaced (decimal s.entered) (decimal s.passed) in
        let old : Told = record x { machines = before ++ None ∷ behind } in
        let said = λ (n : ℕ). lines-say.machine n s.entered s.passed c.name m.name (state_name m s.at) named.name.word machine.name.word state.word (omega (arith, early, h, g)) (omega (arith, early, h)) in
        let slots = set-behind before behind None (Some s) in
        subst (λ ms. Tells t plan now wires (machine_words c.name m s) (among old) (among (record x { machines = ms }))) slots
        (tells-by (machine_words c.name m s) old (with_machine (length before) s) (stands c.name m.name (state_name m s.at) (decimal s.entered) (decimal s.passed))
        (no-feed (codes "machine") (spaced c.name (spaced m.name (spaced (state_name m s.at) times))) refl
        (no-feed c.name (spaced m.name (spaced (state_name m s.at) times)) named.name.word.feed
        (no-feed m.name (spaced (state_name m s.at) times) machine.name.word.feed (no-feed (state_name m s.at) times state.word.feed (no-feed (decimal s.entered) (decimal s.passed) entered.feed passed.feed)))))
        said
        (λ n stage o. goes-by t plan (heard t plan now wires stage (among old)) n (machine_words c.name m s) (stands c.name m.name (state_name m s.at) (decimal s.entered) (decimal s.passed)) States (machine_is (length front) (length before) s) (said n) o
        (machine-entered old before behind m s refl e state.at k)))

    -- ---- variables

    variable-entered : (x : Told) (before behind : List (Option Plain)) (y : VarPlan) (v : Plain) → x.variables ≡ before ++ None ∷ behind → slice_get c.variables (length before) ≡ Some y → Conforms t y.id.0 v → IsUtf8 (json_text t v)
        → variable_entry t plan now (among x) c.name y.name (json_text t v) ≡ Ok (variable_is (length front) (length before) v)
    unfolding variable_entry
    variable-entered x before behind y v slots e k u =
        let type-is : type_of (slice_get (component_at plan (length front)).variables (length before)) ≡ y.id.0 = ap (λ (d : ComponentPlan). type_of (slice_get d.variables (length before))) own ∙ ap type_of e in
        some-then why.Name (variable_place plan c.name y.name) _ (record { comp = length front; variable = length before }) (variable-placed plan (length front) c there named (length before) y e)
        ∙ test-then why.Twice (not (is_told (told_of (among x) (length front)).variables (length before))) _
        (ap (λ (z : Told). not (is_told z.variables (length before))) (told-is x) ∙ ap (λ os. not (is_told os (length before))) slots ∙ ap not (none-told before behind))
        ∙ ap (λ id. (or_why (value_in t id (json_text t v)) >>= λ u. unless_stop why.Value (packs t id u) >>= λ ok. Ok u) >>= λ u. Ok (variable_is (length front) (length before) u)) type-is
        ∙ ap (λ r. (or_why r >>= λ u. unless_stop why.Value (packs t y.id.0 u) >>= λ ok. Ok u) >>= λ u. Ok (variable_is (length front) (length before) u)) (json y.id.0 v k u).1
        ∙ ap (λ b. (unless_stop why.Value b >>= λ ok. Ok v) >>= λ u. Ok (variable_is (length front) (length before) u)) (packed y.id.0 v k)

    variable-tells : (x : Told) (before behind : List (Option Plain)) (y : VarPlan) (v : Plain) → slice_get c.variables (length before) ≡ Some y → Conforms t y.id.0 v → IsUtf8 (json_text t v)
        → Tells t plan now wires (variable_words t c.name y v) (among (record x { variables = before ++ None ∷ behind })) (among (record x { variables = before ++ Some v ∷ behind }))
    variable-tells x before behind y v e k u =
        let name = named.variables (length before) y e in
        let text = (json y.id.0 v k u).0 in
        let old : Told = record x { variables = before ++ None ∷ behind } in
        let said = λ (n : ℕ). lines-say.variable n c.name y.name (json_text t v) named.name.word name.word text in
        let slots = set-behind before behind None (Some v) in
        subst (λ os. Tells t plan now wires (variable_words t c.name y v) (among old) (among (record x { variables = os }))) slots
        (tells-by (variable_words t c.name y v) old (with_variable (length before) v) (holds c.name y.name (json_text t v))
        (no-feed (codes "var") (spaced c.name (spaced y.name (json_text t v))) refl (no-feed c.name (spaced y.name (json_text t v)) named.name.word.feed (no-feed y.name (json_text t v) name.word.feed text.feed)))
        said
        (λ n stage o. goes-by t plan (heard t plan now wires stage (among old)) n (variable_words t c.name y v) (holds c.name y.name (json_text t v)) States (variable_is (length front) (length before) v) (said n) o
        (variable-entered old before behind y v refl e k u)))

    -- ---- transactions

    wait-entered : (x : Told) (q : Outstanding) (e : EndPlan) (m : Member) (n : List ℕ) → slice_get c.ends q.face ≡ Some e → slice_get e.instance.members q.member ≡ Some m → slice_get c.transactions q.name ≡ Some n → (Has x.outstanding q → ⊥)
        → wait_entry t plan now (among x) (end_text c.name e.name) (name_of_member m) n ≡ Ok (wait_is (length front) q)
    unfolding wait_entry
    wait-entered x q e m n at_end at_member at_name never =
        some-then why.Name (wait_place plan (end_text c.name e.name) (name_of_member m) n) _ (record { comp = length front; waiting = q }) (wait-placed plan (length front) c there named q e m n at_end at_member at_name)
        ∙ test-then why.Twice (not (act.waits (told_of (among x) (length front)).outstanding q.face q.member q.name)) _
        (ap (λ (z : Told). not (act.waits z.outstanding q.face q.member q.name)) (told-is x) ∙ ap not (none-waits x.outstanding q never))

    wait-tells : (x : Told) (before : List Outstanding) (q : Outstanding) → IsUnderWay c q → (Has before q → ⊥)
        → Tells t plan now wires (wait_words c q) (among (record x { outstanding = before })) (among (record x { outstanding = before ++ q ∷ [] }))
    wait-tells x before q k never =
        let m = here k.end.instance.members q.member k.member in
        let n = here c.transactions q.name k.name in
        let end = named.ends q.face k.end k.there in
        let member = end.members q.member m.0 m.1 in
        let name = named.transactions q.name n.0 n.1 in
        let old : Told = record x { outstanding = before } in
        let words : List ℕ = spaced (codes "wait") (spaced (end_text c.name k.end.name) (spaced (name_of_member m.0) n.0)) in
        let is : words ≡ wait_words c q =
        ap (λ w. spaced (codes "wait") (spaced (end_text c.name w) (spaced (name_of_member m.0) n.0))) (sym (end-is c q.face k.end k.there))
        ∙ ap (λ w. spaced (codes "wait") (spaced (end_text c.name (end_name c q.face)) (spaced w n.0))) (sym (member-is c q.face q.member k.end m.0 k.there m.1))
        ∙ ap (λ w. spaced (codes "wait") (spaced (end_text c.name (end_name c q.face)) (spaced (member_name (slice_get c.ends q.face) q.member) w))) (sym (transaction-is c q.name n.0 n.1)) in
        let said = λ (i : ℕ). lines-say.transaction i (end_text c.name k.end.name) (name_of_member m.0) n.0 end.word member.word name.word in
        subst (λ w. Tells t plan now wires w (among old) (among (record x { outstanding = before ++ q ∷ [] }))) is
        (tells-by words old (with_wait q) (waits (end_text c.name k.end.name) (name_of_member m.0) n.0)
        (no-feed (codes "wait") (spaced (end_text c.name k.end.name) (spaced (name_of_member m.0) n.0)) refl (no-feed (end_text c.name k.end.name) (spaced (name_of_member m.0) n.0) end.word.feed (no-feed (name_of_member m.0) n.0 member.word.feed name.word.feed)))
        said
        (λ i stage o. goes-by t plan (heard t plan now wires stage (among old)) i words (waits (end_text c.name k.end.name) (name_of_member m.0) n.0) States (wait_is (length front) q) (said i) o
        (wait-entered old q k.end m.0 n.0 k.there m.1 n.1 never)))

    waits-tell : (x : Told) (before qs : List Outstanding) → AllByRecursion (IsUnderWay c) qs → AreNew before qs → AreDistinct qs
        → AllTell t plan now wires (map (wait_words c) qs) (among (record x { outstanding = before })) (among (record x { outstanding = before ++ qs }))
    waits-tell x before [] h new once = subst (λ os. AllTell t plan now wires [] (among (record x { outstanding = before })) (among (record x { outstanding = os }))) (sym (append-nil before)) (tell-none t plan now wires (among (record x { outstanding = before })))
    waits-tell x before (q ∷ qs) h new once =
        let on = waits-tell x (before ++ q ∷ []) qs h.1 (has-later before q qs qs (λ r k. k) once.0 new.1) once.1 in
        tell-one t plan now wires (wait_words c q) (map (wait_words c) qs) (among (record x { outstanding = before })) (among (record x { outstanding = before ++ q ∷ [] })) (among (record x { outstanding = before ++ q ∷ qs }))
        (wait-tells x before q h.0 new.0)
        (subst (λ os. AllTell t plan now wires (map (wait_words c) qs) (among (record x { outstanding = before ++ q ∷ [] })) (among (record x { outstanding = os }))) (append_assoc before (q ∷ []) qs) on)

    -- ---- all lines of a component

    none-had : (qs : List Outstanding) → AreNew [] qs
    none-had [] = tt
    none-had (q ∷ qs) = (λ k. empty k.before k.after k.is, none-had qs)
      where
        empty : (before after : List Outstanding) → [] ≡ before ++ q ∷ after → ⊥
        empty [] after e = cc
        empty (b ∷ before) after e = cc

    pub component-tells : (s : StateNow) → IsStateBy t now c s → AreUnderWay c s.outstanding → AllByRecursion IsUtf8 (component_words t c s) → AllTell t plan now wires (component_words t c s) (among (blank c)) (among (full s))
    component-tells s h k u =
        let slots : Told = record { variables = map (λ x. None) c.variables; machines = map Some s.machines; outstanding = [] } in
        let held : Told = record { variables = map Some s.variables; machines = map Some s.machines; outstanding = [] } in
        tell-join t plan now wires (each_pair (machine_words c.name) c.machines s.machines) _ (among (blank c)) (among slots) (among (full s))
        (filled t plan now wires (machine_words c.name) (StandsAt now) c.machines (λ ms. among (record (blank c) { machines = ms })) (λ before behind m x e g. machine-tells (blank c) before behind m x e g) s.machines h.machines)
        (tell-join t plan now wires (each_pair (variable_words t c.name) c.variables s.variables) _ (among slots) (among held) (among (full s))
        (filled t plan now wires (variable_words t c.name) (λ (y : VarPlan) (v : Plain). Conforms t y.id.0 v × IsUtf8 (json_text t v)) c.variables (λ os. among (record slots { variables = os })) (λ before behind y v e g. variable-tells slots before behind y v e g.0 g.1) s.variables (with-utf8 t c.name c.variables s.variables h.values (all-front IsUtf8 (each_pair (variable_words t c.name) c.variables s.variables) (map (wait_words c) s.outstanding) (all-back IsUtf8 (each_pair (machine_words c.name) c.machines s.machines) _ u))))
        (waits-tell held [] s.outstanding k.there (none-had s.outstanding) k.once))

  -- ---- all components

  components-tell : (i : ℕ) (front : List Told) (cs : List ComponentPlan) (ss : List StateNow) → AllNamed plan → i ≡ length front → ((k : ℕ) → slice_get cs k ≡ slice_get plan (i + k)) → AllPaired (IsStateBy t now) cs ss → AllPaired (λ (c : ComponentPlan) (s : StateNow). AreUnderWay c s.outstanding) cs ss → AllByRecursion IsUtf8 (all_words t cs ss)
      → AllTell t plan now wires (all_words t cs ss) (front ++ map blank cs) (front ++ map full ss)
  components-tell i front [] [] names e there h k u = tell-none t plan now wires (front ++ [])
  components-tell i front [] (s ∷ ss) names e there h k u = absurd h
  components-tell i front (c ∷ cs) [] names e there h k u = absurd h
  components-tell i front (c ∷ cs) (s ∷ ss) names e there h k u =
      let at : slice_get plan (length front) ≡ Some c = let z : i + 0 ≡ length front = omega (arith, e) in ap (slice_get plan) (sym z) ∙ sym (there 0) in
      let next : i + 1 ≡ length (front ++ full s ∷ []) = longer front (full s) i e in
      let on = components-tell (i + 1) (front ++ full s ∷ []) cs ss names next (λ j. there (suc j) ∙ ap (slice_get plan) (let q : i + suc j ≡ (i + 1) + j = omega arith in q)) h.1 k.1 (all-back IsUtf8 (component_words t c s) (all_words t cs ss) u) in
      tell-join t plan now wires (component_words t c s) (all_words t cs ss) (front ++ blank c ∷ map blank cs) (front ++ full s ∷ map blank cs) (front ++ full s ∷ map full ss)
      (component-tells front (map blank cs) c at (names (length front) c at) s h.0 k.0 (all-front IsUtf8 (component_words t c s) (all_words t cs ss) u))
      (subst (λ xs. AllTell t plan now wires (all_words t cs ss) xs (front ++ full s ∷ map full ss)) (append_assoc front (full s ∷ []) (map blank cs))
      (subst (λ xs. AllTell t plan now wires (all_words t cs ss) ((front ++ full s ∷ []) ++ map blank cs) xs) (append_assoc front (full s ∷ []) (map full ss)) on))
    where
      longer : {A : Type 0} (xs : List A) (x : A) (n : ℕ) → n ≡ length xs → n + 1 ≡ length (xs ++ x ∷ [])
      longer [] x n e = omega (arith, e)
      longer (y ∷ ys) x n e = let z = longer ys x (length ys) refl in omega (arith, e, z)

-- ---- what was told is the state

values-are : (xs : List VarPlan) (vs : List Plain) (P : VarPlan → Plain → Type 0) → AllPaired P xs vs → values_told xs (map Some vs) ≡ vs
values-are [] [] P h = refl
values-are [] (v ∷ vs) P h = absurd h
values-are (x ∷ xs) [] P h = absurd h
values-are (x ∷ xs) (v ∷ vs) P h = ap (λ us. v ∷ us) (values-are xs vs P h.1)

machines-are : (now : ℕ) (ms : List Machine) (ss : List MachineState) (P : Machine → MachineState → Type 0) → AllPaired P ms ss → machines_told now ms (map Some ss) ≡ ss
machines-are now [] [] P h = refl
machines-are now [] (s ∷ ss) P h = absurd h
machines-are now (m ∷ ms) [] P h = absurd h
machines-are now (m ∷ ms) (s ∷ ss) P h = ap (λ us. s ∷ us) (machines-are now ms ss P h.1)

states-are : (t : Table) (now : ℕ) (plan : List ComponentPlan) (ss : List StateNow) → AllPaired (IsStateBy t now) plan ss → states_told now plan (map full ss) ≡ ss
states-are t now [] [] h = refl
states-are t now [] (s ∷ ss) h = absurd h
states-are t now (c ∷ plan) [] h = absurd h
states-are t now (c ∷ plan) (s ∷ ss) h =
    ap (λ x. x ∷ states_told now plan (map full ss)) (one s (values-are c.variables s.variables (λ (x : VarPlan) (v : Plain). IsValueOf t x.id.0 v) h.0.values) (machines-are now c.machines s.machines (StandsAt now) h.0.machines))
    ∙ ap (λ xs. s ∷ xs) (states-are t now plan ss h.1)
  where
    one : (s : StateNow) → values_told c.variables (map Some s.variables) ≡ s.variables → machines_told now c.machines (map Some s.machines) ≡ s.machines → state_told now c (full s) ≡ s
    one s e f = ap (λ vs. record { variables = vs; machines = machines_told now c.machines (map Some s.machines); outstanding = s.outstanding }) e ∙ ap (λ ms. record { variables = s.variables; machines = ms; outstanding = s.outstanding }) f

-- ---- wires

module _ (t : Table) (plan : List ComponentPlan) (now : ℕ) (told : List Told) where
  -- what was read
  abbrev tied : Stage → List Wire → Reading
  tied stage ws = record { stage = stage; now = now; wires = ws; told = told }

  wire-goes : (n : ℕ) (before : List Wire) (w : Wire) → TiesWords w → Goes t plan (tied Wires before) n (wire_words w) (tied Wires (before ++ record { line = n; lower = w.lower; upper = w.upper } ∷ []))
  wire-goes n before w h = goes-by t plan (tied Wires before) n (wire_words w) (ties w.lower w.upper) Wires (wire_is w.lower w.upper) (lines-say.wire n w.lower w.upper h.lower h.upper) refl refl

  wires-lead : (n : ℕ) (before ws : List Wire) → AllByRecursion TiesWords ws → Leads t plan (tied Wires before) n (map wire_words ws) (tied Wires (before ++ wires_from n ws))
  wires-lead n before [] h = ap (λ xs. Ok (tied Wires xs)) (sym (append-nil before))
  wires-lead n before (w ∷ ws) h =
      let put_one : Wire = record { line = n; lower = w.lower; upper = w.upper } in
      leads-one t plan (tied Wires before) (tied Wires (before ++ put_one ∷ [])) (tied Wires (before ++ put_one ∷ wires_from (n + 1) ws)) n (wire_words w) (map wire_words ws) (wire-goes n before w h.0)
      (subst (λ xs. Leads t plan (tied Wires (before ++ put_one ∷ [])) (n + 1) (map wire_words ws) (tied Wires xs)) (append_assoc before (put_one ∷ []) (wires_from (n + 1) ws)) (wires-lead (n + 1) (before ++ put_one ∷ []) ws h.1))

one-lines : (ws : List Wire) → AllByRecursion TiesWords ws → AreOneLine (map wire_words ws)
one-lines [] h = tt
one-lines (w ∷ ws) h = (no-feed (codes "wire") (spaced w.lower w.upper) refl (no-feed w.lower w.upper h.0.lower.feed h.0.upper.feed), one-lines ws h.1)

-- ---- the whole text

module _ (t : Table) (plan : List ComponentPlan)
    (packed : (id : ℕ) (v : Plain) → Conforms t id v → packs t id v ≡ true)
    (json : (id : ℕ) (v : Plain) → Conforms t id v → IsUtf8 (json_text t v) → IsRest (json_text t v) × (value_in t id (json_text t v) ≡ Ok v))
    (names : AllNamed plan) (s : SnapNow) (whole : MayBeReadAgain t plan s) (utf8 : AllByRecursion IsUtf8 (snap_words t plan s)) where
  -- what was read before the components
  abbrev timed : Reading
  timed = record { stage = Wires; now = s.now; wires = []; told = map blank plan }

  states : AllTell t plan s.now (wires_from 3 s.wires) (all_words t plan s.states) (map blank plan) (map full s.states)
  states = components-tell t plan packed json s.now whole.goes_on.early (wires_from 3 s.wires) 0 [] plan s.states names refl (λ k. let z : k ≡ 0 + k = omega arith in ap (slice_get plan) z) whole.goes_on.states whole.under_way (all-back IsUtf8 (map wire_words s.wires) (all_words t plan s.states) utf8.1.1)

  first-goes : Goes t plan (unread plan) 1 (spaced (codes "snapshot") (codes "1")) (record (unread plan) { stage = Time })
  first-goes = goes-by t plan (unread plan) 1 (spaced (codes "snapshot") (codes "1")) begins Time nothing_is (lines-say.first 1) refl refl

  time-goes : Goes t plan (record (unread plan) { stage = Time }) 2 (time_words s.now) timed
  time-goes = goes-by t plan (record (unread plan) { stage = Time }) 2 (time_words s.now) (ends (decimal s.now)) Wires (time_is s.now) (lines-say.time 2 s.now whole.goes_on.early) refl
      (some-then why.Number (number_of (decimal s.now)) _ s.now (lines-say.number s.now whole.goes_on.early) ∙ test-then why.Time (nat_lt s.now (2 ^ 63)) _ (lt-is s.now (2 ^ 63) whole.goes_on.early))

  one-line : AreOneLine (snap_words t plan s)
  one-line = (
    refl,
    (
      no-feed (codes "end") (decimal s.now) refl (digits-word s.now whole.goes_on.early).feed,
      all-join (λ (l : List ℕ). list_any is_feed l ≡ false) (map wire_words s.wires) (all_words t plan s.states) (one-lines s.wires whole.wires) states.lines,
    ),
  )

  abbrev told-all : Stage → Reading
  told-all last = heard t plan s.now (wires_from 3 s.wires) last (map full s.states)

  all-lead : (last : Stage) × IsOpen t plan s.now (wires_from 3 s.wires) last × Leads t plan (unread plan) 1 (snap_words t plan s) (told-all last)
  all-lead =
      let rest = states.leads (3 + length (map wire_words s.wires)) Wires refl in (
        rest.0,
        rest.1,
        leads-one t plan (unread plan) (record (unread plan) { stage = Time }) (told-all rest.0) 1 (spaced (codes "snapshot") (codes "1")) (time_words s.now ∷ (map wire_words s.wires ++ all_words t plan s.states)) first-goes
            (leads-one t plan (record (unread plan) { stage = Time }) timed (told-all rest.0) 2 (time_words s.now) (map wire_words s.wires ++ all_words t plan s.states) time-goes
            (leads-join t plan (map wire_words s.wires) (all_words t plan s.states) timed (tied t plan s.now (map blank plan) Wires (wires_from 3 s.wires)) (told-all rest.0) 3
            (wires-lead t plan s.now (map blank plan) 3 [] s.wires whole.wires) rest.2)),
      )

  is-whole : (last : Stage) → state_order last ≡ Some States → is_whole last ≡ true
  is-whole First e = cc
  is-whole Time e = cc
  is-whole Wires e = refl
  is-whole States e = refl

  pub read-again : TextsHaveLines → TextsAreLines → snap_of t plan (snap_text t plan s) ≡ Ok (record s { wires = wires_from 3 s.wires })
  read-again have are =
      let lines : snap_lines (snap_text t plan s) ≡ ended_from 1 (snap_words t plan s) = ap snap_lines (are t plan s) ∙ have (snap_words t plan s) one-line in
      let all = all-lead in
      ap (λ ls. read_lines t plan (unread plan) ls >>= λ r. snap_read plan (length ls + 1) r) lines
      ∙ ap (λ x. x >>= λ r. snap_read plan (length (ended_from 1 (snap_words t plan s)) + 1) r) all.2
      ∙ ap (λ b. cond b (Ok (record { now = s.now; wires = wires_from 3 s.wires; states = states_told s.now plan (map full s.states) })) (Err (record { line = length (ended_from 1 (snap_words t plan s)) + 1; why = why.Words }))) (is-whole all.0 all.1)
      ∙ ap (λ ss. Ok (record { now = s.now; wires = wires_from 3 s.wires; states = ss })) (states-are t s.now plan s.states whole.goes_on.states)

pub texts-read : (t : Table) (plan : List ComponentPlan)
    → ((id : ℕ) (v : Plain) → Conforms t id v → packs t id v ≡ true)
    → ((id : ℕ) (v : Plain) → Conforms t id v → IsUtf8 (json_text t v) → IsRest (json_text t v) × (value_in t id (json_text t v) ≡ Ok v))
    → AllNamed plan → (s : SnapNow) → MayBeReadAgain t plan s → TextsHaveLines → TextsAreLines → IsUtf8 (snap_text t plan s) → snap_of t plan (snap_text t plan s) ≡ Ok (record s { wires = wires_from 3 s.wires })
texts-read t plan packed json names s whole have are utf8 = read-again t plan packed json names s whole (lines-utf8 (snap_words t plan s) (subst IsUtf8 (are t plan s) utf8)) have are
