-- Lines of which each tells one thing, read one after another.
use Rattle.std.proofs.Common.{◌≡◌, ◌+◌, ℕ, zero, suc, List, [], ◌∷◌, ◌++◌, length, map, Bool, false, Option, Some, None, slice_get, Result, Ok, Err, refl, sym, ap, subst, ◌∙◌, append-nil, arith}
use Rattle.std.specs.Prelude.{slice_set}
use Rattle.std.specs.List.{AllByRecursion, list_any}
use Rattle.std.proofs.lemmas.List.{append_assoc}
use Rattle.eds_base.specs.Answering.{◌>>=◌, or_stop}
use Rattle.eds_types.specs.Rows.{Table}
use Rattle.eds_plan.specs.declared.component.ComponentPlan.{ComponentPlan}
use Rattle.eds_plan.specs.declared.run.Wire.{Wire}
use Rattle.eds_snap.specs.declared.stage.Stage.{Stage}
use Rattle.eds_snap.specs.declared.stage.Stage.TheVariants.{States}
use Rattle.eds_snap.specs.declared.why.BadSnap.{BadSnap}
use Rattle.eds_snap.specs.declared.why.SnapWhy.TheVariants as why
use Rattle.eds_snap.specs.Readings.{Reading, put, read_line, read_lines}
use Rattle.eds_snap.specs.Stops.{at_line}
use Rattle.eds_snap.specs.Words.{Saying, form}
use Rattle.eds_snap.specs.Written.{AreOneLine, each_pair, ended_from, ended_line}
use Rattle.eds_script.specs.Lines.{is_feed}
use Rattle.eds_script.specs.Pairs.{AllPaired}
use Rattle.eds_snap.specs.Entries.{Entry, Told, entry_of, is_told}
use Rattle.eds_snap.specs.Order.{in_order, state_order}

pub all-join : {A : Type 0} (P : A → Type 0) (xs ys : List A) → AllByRecursion P xs → AllByRecursion P ys → AllByRecursion P (xs ++ ys)
all-join P [] ys h k = k
all-join P (x ∷ xs) ys h k = (h.0, all-join P xs ys h.1 k)

module _ (t : Table) (plan : List ComponentPlan) where
  -- ---- lines

  -- lines lead from one reading to another
  abbrev pub Leads : Reading → ℕ → List (List ℕ) → Reading → Type 0
  Leads r n ls q = read_lines t plan r (ended_from n ls) ≡ Ok q

  -- one line leads on
  abbrev pub Goes : Reading → ℕ → List ℕ → Reading → Type 0
  Goes r n l q = read_line t plan r (ended_line n l) ≡ Ok q

  pub leads-one : (r p q : Reading) (n : ℕ) (l : List ℕ) (ls : List (List ℕ)) → Goes r n l p → Leads p (n + 1) ls q → Leads r n (l ∷ ls) q
  leads-one r p q n l ls e h = ap (λ x. at_line n x >>= λ u. read_lines t plan u (ended_from (n + 1) ls)) e ∙ h

  -- lines behind lines
  pub leads-join : (xs ys : List (List ℕ)) (r p q : Reading) (n : ℕ) → Leads r n xs p → Leads p (n + length xs) ys q → Leads r n (xs ++ ys) q
  leads-join [] ys r p q n h k =
      let same : r ≡ p = inside r p h in
      let at : n + 0 ≡ n = omega arith in
      subst (λ m. Leads r m ys q) at (subst (λ x. Leads x (n + 0) ys q) (sym same) k)
    where
      inside : (x y : Reading) → ◌≡◌ {A = Result Reading BadSnap} (Ok x) (Ok y) → x ≡ y
      inside x y e = cc
  leads-join (x ∷ xs) ys r p q n h k = go (at_line n (read_line t plan r (ended_line n x))) h (λ u a b. leads-join xs ys u p q (n + 1) a b)
    where
      counts : (n + 1) + length xs ≡ n + length (x ∷ xs)
      counts = omega arith

      go : (o : Result Reading BadSnap) → (o >>= λ u. read_lines t plan u (ended_from (n + 1) xs)) ≡ Ok p → ((u : Reading) → Leads u (n + 1) xs p → Leads p ((n + 1) + length xs) ys q → Leads u (n + 1) (xs ++ ys) q)
          → (o >>= λ u. read_lines t plan u (ended_from (n + 1) (xs ++ ys))) ≡ Ok q
      go (Ok u) a on = on u a (subst (λ m. Leads p m ys q) (sym counts) k)
      go (Err b) a on = cc

  -- a line that stands in order, and what it tells
  pub goes-by : (r : Reading) (n : ℕ) (text : List ℕ) (s : Saying) (stage : Stage) (e : Entry)
      → form (ended_line n text) ≡ Ok s → in_order r.stage s ≡ Some stage → entry_of t plan r.now r.told s ≡ Ok e → Goes r n text (put n e (record r { stage = stage }))
  goes-by r n text s stage e f o g =
      ap (λ x. x >>= λ s'. or_stop why.Words (in_order r.stage s') >>= λ st. entry_of t plan r.now r.told s' >>= λ e'. Ok (put n e' (record r { stage = st }))) f
      ∙ ap (λ x. or_stop why.Words x >>= λ st. entry_of t plan r.now r.told s >>= λ e'. Ok (put n e' (record r { stage = st }))) o
      ∙ ap (λ x. x >>= λ e'. Ok (put n e' (record r { stage = stage }))) g

  -- ---- lines of components, behind a time and wires

  module _ (now : ℕ) (wires : List Wire) where
    -- what was read
    abbrev pub heard : Stage → List Told → Reading
    heard stage told = record { stage = stage; now = now; wires = wires; told = told }

    -- lines of components may come
    abbrev pub IsOpen : Stage → Type 0
    IsOpen stage = state_order stage ≡ Some States

    -- a line tells of components what is there then
    pub record Tells (text : List ℕ) (before after : List Told) : Type 0 where
      pub line : list_any is_feed text ≡ false
      pub goes : (n : ℕ) (stage : Stage) → IsOpen stage → Goes (heard stage before) n text (heard States after)

    -- and lines do
    pub record AllTell (ls : List (List ℕ)) (before after : List Told) : Type 0 where
      pub lines : AreOneLine ls
      pub leads : (n : ℕ) (stage : Stage) → IsOpen stage → (last : Stage) × IsOpen last × Leads (heard stage before) n ls (heard last after)

    pub tell-none : (told : List Told) → AllTell [] told told
    tell-none told = record { lines = tt; leads = λ n stage o. (stage, o, refl) }

    pub tell-one : (text : List ℕ) (ls : List (List ℕ)) (a b c : List Told) → Tells text a b → AllTell ls b c → AllTell (text ∷ ls) a c
    tell-one text ls a b c h k = record {
      lines = (h.line, k.lines);
      leads = λ n stage o. let rest = k.leads (n + 1) States refl in (rest.0, rest.1, leads-one (heard stage a) (heard States b) (heard rest.0 c) n text ls (h.goes n stage o) rest.2);
    }

    pub tell-join : (xs ys : List (List ℕ)) (a b c : List Told) → AllTell xs a b → AllTell ys b c → AllTell (xs ++ ys) a c
    tell-join xs ys a b c h k = record {
      lines = all-join (λ (l : List ℕ). list_any is_feed l ≡ false) xs ys h.lines k.lines;
      leads = λ n stage o. let first = h.leads n stage o in let rest = k.leads (n + length xs) first.0 first.1 in
          (rest.0, rest.1, leads-join xs ys (heard stage a) (heard first.0 b) (heard rest.0 c) n first.2 rest.2);
    }

    -- ---- slots that are filled one after another

    module _ {P V : Type 0} (words : P → V → List ℕ) (Good : P → V → Type 0) (all : List P) (at : List (Option V) → List Told)
        (one : (front behind : List (Option V)) (p : P) (v : V) → slice_get all (length front) ≡ Some p → Good p v → Tells (words p v) (at (front ++ None ∷ behind)) (at (front ++ Some v ∷ behind))) where
      filled-from : (i : ℕ) (front : List (Option V)) (ps : List P) (vs : List V) → i ≡ length front → ((k : ℕ) → slice_get ps k ≡ slice_get all (i + k)) → AllPaired Good ps vs
          → AllTell (each_pair words ps vs) (at (front ++ map (λ p. None) ps)) (at (front ++ map Some vs))
      filled-from i front [] [] e there h = tell-none (at (front ++ []))
      filled-from i front [] (v ∷ vs) e there h = absurd h
      filled-from i front (p ∷ ps) [] e there h = absurd h
      filled-from i front (p ∷ ps) (v ∷ vs) e there h =
          let here : slice_get all (length front) ≡ Some p = let z : i + 0 ≡ length front = omega (arith, e) in ap (slice_get all) (sym z) ∙ sym (there 0) in
          let next : i + 1 ≡ length (front ++ Some v ∷ []) = longer front (Some v) i e in
          let on = filled-from (i + 1) (front ++ Some v ∷ []) ps vs next (λ k. there (suc k) ∙ ap (slice_get all) (let q : i + suc k ≡ (i + 1) + k = omega arith in q)) h.1 in
          tell-one (words p v) (each_pair words ps vs) (at (front ++ None ∷ map (λ p. None) ps)) (at (front ++ Some v ∷ map (λ p. None) ps)) (at (front ++ Some v ∷ map Some vs))
          (one front (map (λ p. None) ps) p v here h.0)
          (subst (λ xs. AllTell (each_pair words ps vs) (at xs) (at (front ++ Some v ∷ map Some vs))) (append_assoc front (Some v ∷ []) (map (λ p. None) ps))
          (subst (λ xs. AllTell (each_pair words ps vs) (at ((front ++ Some v ∷ []) ++ map (λ p. None) ps)) (at xs)) (append_assoc front (Some v ∷ []) (map Some vs)) on))
        where
          longer : {A : Type 0} (xs : List A) (x : A) (n : ℕ) → n ≡ length xs → n + 1 ≡ length (xs ++ x ∷ [])
          longer [] x n e = omega (arith, e)
          longer (y ∷ ys) x n e = let k = longer ys x (length ys) refl in omega (arith, e, k)

      pub filled : (vs : List V) → AllPaired Good all vs → AllTell (each_pair words all vs) (at (map (λ p. None) all)) (at (map Some vs))
      filled vs h = filled-from 0 [] all vs refl (λ k. let z : k ≡ 0 + k = omega arith in ap (slice_get all) z) h

-- ---- one place of a list

pub get-behind : {A : Type 0} (front rest : List A) (x : A) → slice_get (front ++ x ∷ rest) (length front) ≡ Some x
get-behind [] rest x = refl
get-behind (y ∷ front) rest x = get-behind front rest x

pub set-behind : {A : Type 0} (front rest : List A) (x y : A) → slice_set (front ++ x ∷ rest) (length front) y ≡ front ++ y ∷ rest
set-behind [] rest x y = refl
set-behind (z ∷ front) rest x y = ap (λ xs. z ∷ xs) (set-behind front rest x y)

pub none-told : {A : Type 0} (front rest : List (Option A)) → is_told (front ++ None ∷ rest) (length front) ≡ false
none-told [] rest = refl
none-told (x ∷ front) rest = none-told front rest
