-- A component that passes the tests fits.
use Rattle.std.proofs.Common.{◌≡◌, ◌≢◌, ◌≤◌, ◌<◌, ◌+◌, ◌-◌, ◌⊎◌, inl, inr, ℕ, zero, suc, ℤ, pos, List, [], ◌∷◌, ◌++◌, ◌^◌, length, map, Bool, true, false, not, ◌&&◌, ◌||◌, nat_lt, nat_le, if◌then◌else◌, Option, Some, None, slice_get, refl, sym, ap, subst, ◌∙◌, arith}
use Rattle.std.specs.List.{AllByRecursion}
use Rattle.std.specs.Ordering.{int_eq}
use Rattle.std.proofs.lemmas.Bool.{eqb-true}
use Rattle.std.proofs.lemmas.Bool.Decides.{nat_tests, Decides-int_eq}
use Rattle.eds_base.specs.Reading.{◌>>=◌, only}
use Rattle.eds_base.specs.declared.ids.TypeId.{TypeId}
use Rattle.eds_types.specs.declared.row.Kind.{Kind}
use Rattle.eds_types.specs.declared.row.Kind.TheVariants as kind
use Rattle.eds_types.specs.declared.row.Part.{Part}
use Rattle.eds_types.specs.declared.row.Part.TheVariants as part
use Rattle.eds_types.specs.declared.row.TypeRow.{TypeRow}
use Rattle.eds_types.specs.Fields.{part_at, IsAtOrUnder}
use Rattle.eds_types.specs.PackedSizes.{packs}
use Rattle.eds_types.specs.Plain.{Plain, plain, num, label, truth, text, bits, items, fields}
use Rattle.eds_types.specs.Rows.{Table, chain, list_has}
use Rattle.eds_types.specs.Rules.{KeepsRules}
use Rattle.eds_types.proofs.PackedLaws.{sizes_are_exact}
use Rattle.eds_types.proofs.ReadingTests.{has_from}
use Rattle.eds_plan.specs.declared.activity.Action.{Action}
use Rattle.eds_plan.specs.declared.activity.Activity.{Activity}
use Rattle.eds_plan.specs.declared.activity.Guard.{Guard}
use Rattle.eds_plan.specs.declared.activity.MathItem.{MathItem}
use Rattle.eds_plan.specs.declared.activity.MathItem.TheVariants as math
use Rattle.eds_plan.specs.declared.activity.Op.{Op}
use Rattle.eds_plan.specs.declared.activity.Op.TheVariants as op
use Rattle.eds_plan.specs.declared.activity.Operand.{Operand}
use Rattle.eds_plan.specs.declared.activity.Operand.TheVariants as source
use Rattle.eds_plan.specs.declared.activity.Relation.TheVariants as relation
use Rattle.eds_plan.specs.declared.component.ComponentPlan.{ComponentPlan}
use Rattle.eds_plan.specs.declared.component.EndPlan.{EndPlan}
use Rattle.eds_plan.specs.declared.component.MapPlan.{MapPlan}
use Rattle.eds_plan.specs.declared.component.VarPlan.{VarPlan}
use Rattle.eds_plan.specs.declared.instance.Argument.{Argument}
use Rattle.eds_plan.specs.declared.instance.Member.{Member}
use Rattle.eds_plan.specs.declared.instance.Member.TheVariants as member
use Rattle.eds_plan.specs.declared.machine.Machine.{Machine}
use Rattle.eds_plan.specs.declared.machine.State.{State}
use Rattle.eds_plan.specs.declared.machine.Transition.{Transition}
use Rattle.eds_plan.specs.declared.machine.Trigger.{Trigger}
use Rattle.eds_plan.specs.declared.machine.Trigger.TheVariants as trigger
use Rattle.eds_plan.specs.declared.run.Way.{Way}
use Rattle.eds_plan.specs.declared.run.Way.TheVariants.{Down, Up}
use Rattle.eds_plan.specs.Carried.{OpFits, goes, arriving, leaving, carried, carried_of}
use Rattle.eds_plan.specs.Fitting.{LeadsFrom, AreAlike, FitTogether, IsNumeric, CarriesAt, IsNumbered, HasType, OperandFits, OperandsFit, IsNumberValue, IsNumber, BothFit, ConditionFits, ConditionsFit, LeavesOne, StatementFits, StatementsFit, Brings, ActionFits, GuardFits, StateFits, TransitionFits, MachineFits, MemberKnown, MapFits, TakesArguments, ComponentFits}
use Rattle.eds_plan.specs.Plans.{argument_types, variable_types}
use Rattle.eds_plan.specs.Statements.{Condition, condition, Conditions, compare, every, some, none, more, Stmt, Stmts, assign, calculate, choose, iterate, call, send_command, send_parameter, done, next, stmts, stmts_of}
use Rattle.eds_fits.specs.Fitting.{Conforms}
use Rattle.eds_fits.specs.Deciding.{kind_in, kind_of, is_numeric, are_alike, both_alike, fit_together, value_fits, entry_of, led, is_all, is_number_type, type_fits, is_number_value, variable_type, argument_type, operand_type, operand_fits, first_taken, fields_taken, arguments_taken, is_number, fit_by, both_fit, condition_fits, conditions_fit, leaves_one, value_sent, nothing_sent, sent_by, called_fits, is_numbered, with_end, member_in, member_of, rank_of, assigned_fits, command_member_sent, parameter_member_sent, statement_fits, statements_fit, carried_ids, brought_by, command_brought, parameter_brought, brought, action_fits, guard_fits, state_fits, states_fit, inner_fits, transition_fits, transitions_fit, machine_fits, machines_fit, fields_known, activities_known, arguments_known, member_known, members_known, ends_known, variables_fit, of_one_type, maps_fit, argument_ids, bodies_fit, component_fits}

both : (a b : Bool) → (a && b) ≡ true → (a ≡ true) × (b ≡ true)
both true b e = (refl, e)
both false b e = cc

less : (m n : ℕ) → nat_lt m n ≡ true → m < n
less m n e = grind (arith, nat_tests)

at-most : (m n : ℕ) → nat_le m n ≡ true → m ≤ n
at-most m n e = grind (arith, nat_tests)

-- an item of a list after a map
mapped : {A B : Type 0} (f : A → B) (xs : List A) (i : ℕ) (x : A) → slice_get xs i ≡ Some x → slice_get (map f xs) i ≡ Some (f x)
mapped f [] i x e = cc
mapped f (y ∷ ys) zero x e = let is : y ≡ x = cc in ap (λ z. Some (f z)) is
mapped f (y ∷ ys) (suc i) x e = mapped f ys i x e

-- ---- types

numeric : (k : Kind) → is_numeric (Some k) ≡ true → IsNumeric k
numeric (kind.Int f s) e = tt
numeric (kind.Bool f) e = cc
numeric (kind.Str f) e = cc
numeric (kind.Bin m tail) e = cc
numeric (kind.Enum f l) e = cc
numeric (kind.Arr i m) e = cc
numeric (kind.Con c) e = cc

module _ (t : Table) where
  under : (a b : ℕ) → (list_has (chain t b) a || list_has (chain t a) b) ≡ true → IsAtOrUnder t a b ⊎ IsAtOrUnder t b a
  under a b e = go (list_has (chain t b) a) refl e
    where
      go : (x : Bool) → list_has (chain t b) a ≡ x → (x || list_has (chain t a) b) ≡ true → IsAtOrUnder t a b ⊎ IsAtOrUnder t b a
      go true h e = inl (has_from (chain t b) a h)
      go false h e = inr (has_from (chain t a) b e)

  alike : (a : ℕ) (k : Kind) (b : ℕ) (l : Kind) → are_alike t a k b l ≡ true → AreAlike t a k b l
  alike a (kind.Int f s) b (kind.Int g u) e = tt
  alike a (kind.Bool f) b (kind.Bool g) e = tt
  alike a (kind.Str f) b (kind.Str g) e = tt
  alike a (kind.Bin m tail) b (kind.Bin n free) e = tt
  alike a (kind.Enum f l) b (kind.Enum g m) e = eqb-true a b e
  alike a (kind.Arr i m) b (kind.Arr j n) e = eqb-true a b e
  alike a (kind.Con c) b (kind.Con d) e = under a b e
  alike a k b l e = absurd cc

  fit : (a b : ℕ) → fit_together t a b ≡ true → FitTogether t a b
  fit a b e = go (slice_get t a) (slice_get t b) refl refl e
    where
      go : (o p : Option TypeRow) → slice_get t a ≡ o → slice_get t b ≡ p → both_alike t a (kind_in o) b (kind_in p) ≡ true → FitTogether t a b
      go None p i j e = cc
      go (Some r) None i j e = cc
      go (Some r) (Some q) i j e = record { one = r; other = q; one_is = i; other_is = j; alike = alike a r.kind b q.kind e }

  number-type : (id : ℕ) → is_numeric (kind_of t id) ≡ true → (row : TypeRow) × (slice_get t id ≡ Some row) × IsNumeric row.kind
  number-type id e = go (slice_get t id) refl e
    where
      go : (o : Option TypeRow) → slice_get t id ≡ o → is_numeric (kind_in o) ≡ true → (row : TypeRow) × (slice_get t id ≡ Some row) × IsNumeric row.kind
      go None i e = cc
      go (Some r) i e = (r, i, numeric r.kind e)

  -- ---- paths

  leads : (id : TypeId) (path : List (TypeId × ℕ)) (to : TypeId) → led t id path ≡ Some to → LeadsFrom t id.0 path to.0
  leads id [] to e = let is : id ≡ to = cc in ap (λ (x : TypeId). x.0) is
  leads id (p ∷ path) to e = go (list_has (chain t id.0) (p.0).0) (part_at t p) (λ inner. leads inner path to) refl refl e
    where
      go : (b : Bool) (o : Option Part) → ((inner : TypeId) → led t inner path ≡ Some to → LeadsFrom t inner.0 path to.0) → list_has (chain t id.0) (p.0).0 ≡ b → part_at t p ≡ o
          → ((if b then entry_of o else None) >>= λ inner. led t inner path) ≡ Some to → LeadsFrom t id.0 (p ∷ path) to.0
      go false o further h i e = cc
      go true None further h i e = cc
      go true (Some (part.Plain name inner)) further h i e = (has_from (chain t id.0) (p.0).0 h, name, inner, i, further inner e)
      go true (Some (part.Fixed name inner v)) further h i e = cc
      go true (Some (part.Pad n)) further h i e = cc
      go true (Some (part.List name inner y k)) further h i e = cc
      go true (Some (part.Length name inner c0 c1)) further h i e = cc
      go true (Some (part.Check name inner k)) further h i e = cc

-- ---- operands

module _ (t : Table) (rules : KeepsRules t) where
  value-conforms : (id : ℕ) (v : Plain) → value_fits t id v ≡ true → Conforms t id v
  value-conforms id v e = let p = both (nat_lt id (length t)) (packs t id v) e in (sizes_are_exact t id rules (less id (length t) p.0) v).bool.0 p.1

  module _ (xs : List VarPlan) (args : List TypeId) where
    abbrev vars : List ℕ
    vars = map (λ (x : VarPlan). x.id.0) xs

    abbrev ids : List ℕ
    ids = map (λ (x : TypeId). x.0) args

    number-value : (v : Plain) → is_number_value v ≡ true → IsNumberValue t (Conforms t) vars ids v
    number-value (num n) e = (n, refl)
    number-value (label l) e = cc
    number-value (truth b) e = cc
    number-value (text s) e = cc
    number-value (bits n o) e = cc
    number-value (items vs) e = cc
    number-value (fields k vs) e = cc

    variable-typed : (x : ℕ) (path : List (TypeId × ℕ)) (id : TypeId) → variable_type t xs args x path ≡ Some id → HasType t (Conforms t) vars ids vars x path id.0
    variable-typed x path id e = go (slice_get xs x) refl e
      where
        go : (o : Option VarPlan) → slice_get xs x ≡ o → (o >>= λ (v : VarPlan). led t v.id path) ≡ Some id → HasType t (Conforms t) vars ids vars x path id.0
        go None i e = cc
        go (Some v) i e = (v.id.0, mapped (λ (x : VarPlan). x.id.0) xs x v i, leads t v.id path id e)

    argument-typed : (x : ℕ) (path : List (TypeId × ℕ)) (id : TypeId) → argument_type t xs args x path ≡ Some id → HasType t (Conforms t) vars ids ids x path id.0
    argument-typed x path id e = go (slice_get args x) refl e
      where
        go : (o : Option TypeId) → slice_get args x ≡ o → (o >>= λ (v : TypeId). led t v path) ≡ Some id → HasType t (Conforms t) vars ids ids x path id.0
        go None i e = cc
        go (Some v) i e = (v.0, mapped (λ (x : TypeId). x.0) args x v i, leads t v path id e)

    operand : (id : ℕ) (a : Operand) → operand_fits t xs args id a ≡ true → OperandFits t (Conforms t) vars ids id a
    operand id (source.Value v) e = value-conforms id (plain v) e
    operand id (source.Variable x path) e = go (variable_type t xs args x path) refl e
      where
        go : (o : Option TypeId) → variable_type t xs args x path ≡ o → type_fits t o id ≡ true → OperandFits t (Conforms t) vars ids id (source.Variable x path)
        go None i e = cc
        go (Some from) i e = (from.0, variable-typed x path from i, fit t from.0 id e)
    operand id (source.Argument x path) e = go (argument_type t xs args x path) refl e
      where
        go : (o : Option TypeId) → argument_type t xs args x path ≡ o → type_fits t o id ≡ true → OperandFits t (Conforms t) vars ids id (source.Argument x path)
        go None i e = cc
        go (Some from) i e = (from.0, argument-typed x path from i, fit t from.0 id e)

    number : (a : Operand) → is_number t xs args a ≡ true → IsNumber t (Conforms t) vars ids a
    number (source.Value v) e = number-value (plain v) e
    number (source.Variable x path) e = go (variable_type t xs args x path) refl e
      where
        go : (o : Option TypeId) → variable_type t xs args x path ≡ o → is_number_type t o ≡ true → IsNumber t (Conforms t) vars ids (source.Variable x path)
        go None i e = cc
        go (Some id) i e = (id.0, variable-typed x path id i, number-type t id.0 e)
    number (source.Argument x path) e = go (argument_type t xs args x path) refl e
      where
        go : (o : Option TypeId) → argument_type t xs args x path ≡ o → is_number_type t o ≡ true → IsNumber t (Conforms t) vars ids (source.Argument x path)
        go None i e = cc
        go (Some id) i e = (id.0, argument-typed x path id i, number-type t id.0 e)

    -- ---- conditions

    untyped : (from : Option TypeId) (id : ℕ) → from ≡ None → type_fits t from id ≡ true → ⊥
    untyped None id i e = cc
    untyped (Some x) id i e = cc

    two : (a b : Operand) → both_fit t xs args a b ≡ true → BothFit t (Conforms t) vars ids a b
    two (source.Value v) (source.Value w) e = cc
    two (source.Value v) (source.Variable x path) e = go (variable_type t xs args x path) refl e
      where
        go : (o : Option TypeId) → variable_type t xs args x path ≡ o → fit_by t xs args None o (source.Value v) (source.Variable x path) ≡ true → BothFit t (Conforms t) vars ids (source.Value v) (source.Variable x path)
        go None i e = cc
        go (Some id) i e = (id.0, variable-typed x path id i, value-conforms id.0 (plain v) e)
    two (source.Value v) (source.Argument x path) e = go (argument_type t xs args x path) refl e
      where
        go : (o : Option TypeId) → argument_type t xs args x path ≡ o → fit_by t xs args None o (source.Value v) (source.Argument x path) ≡ true → BothFit t (Conforms t) vars ids (source.Value v) (source.Argument x path)
        go None i e = cc
        go (Some id) i e = (id.0, argument-typed x path id i, value-conforms id.0 (plain v) e)
    two (source.Variable x path) b e = go (variable_type t xs args x path) (operand_type t xs args b) refl e
      where
        go : (o p : Option TypeId) → variable_type t xs args x path ≡ o → fit_by t xs args o p (source.Variable x path) b ≡ true → BothFit t (Conforms t) vars ids (source.Variable x path) b
        go (Some id) p i e = (id.0, variable-typed x path id i, operand id.0 b e)
        go None None i e = cc
        go None (Some id) i e = absurd (untyped (variable_type t xs args x path) id.0 i e)
    two (source.Argument x path) b e = go (argument_type t xs args x path) (operand_type t xs args b) refl e
      where
        go : (o p : Option TypeId) → argument_type t xs args x path ≡ o → fit_by t xs args o p (source.Argument x path) b ≡ true → BothFit t (Conforms t) vars ids (source.Argument x path) b
        go (Some id) p i e = (id.0, argument-typed x path id i, operand id.0 b e)
        go None None i e = cc
        go None (Some id) i e = absurd (untyped (argument_type t xs args x path) id.0 i e)

    numbers : (a b : Operand) → (is_number t xs args a && is_number t xs args b) ≡ true → IsNumber t (Conforms t) vars ids a × IsNumber t (Conforms t) vars ids b
    numbers a b e = let p = both (is_number t xs args a) (is_number t xs args b) e in (number a p.0, number b p.1)

    mutual
      one-condition : (c : Condition) → condition_fits t xs args c ≡ true → ConditionFits t (Conforms t) vars ids c
      one-condition (compare relation.Equal a b) e = let p = both (both_fit t xs args a b) true e in (two a b p.0, λ o. absurd o)
      one-condition (compare relation.NotEqual a b) e = let p = both (both_fit t xs args a b) true e in (two a b p.0, λ o. absurd o)
      one-condition (compare relation.Less a b) e = let p = both (both_fit t xs args a b) (is_number t xs args a && is_number t xs args b) e in (two a b p.0, λ o. numbers a b p.1)
      one-condition (compare relation.LessOrEqual a b) e = let p = both (both_fit t xs args a b) (is_number t xs args a && is_number t xs args b) e in (two a b p.0, λ o. numbers a b p.1)
      one-condition (compare relation.Greater a b) e = let p = both (both_fit t xs args a b) (is_number t xs args a && is_number t xs args b) e in (two a b p.0, λ o. numbers a b p.1)
      one-condition (compare relation.GreaterOrEqual a b) e = let p = both (both_fit t xs args a b) (is_number t xs args a && is_number t xs args b) e in (two a b p.0, λ o. numbers a b p.1)
      one-condition (every cs) e = all-conditions cs e
      one-condition (some cs) e = all-conditions cs e

      all-conditions : (cs : Conditions) → conditions_fit t xs args cs ≡ true → ConditionsFit t (Conforms t) vars ids cs
      all-conditions none e = tt
      all-conditions (more c cs) e = let p = both (condition_fits t xs args c) (conditions_fit t xs args cs) e in (one-condition c p.0, all-conditions cs p.1)

    -- ---- calculations

    leaves : (n : ℕ) (is : List MathItem) → leaves_one t xs args n is ≡ true → LeavesOne t (Conforms t) vars ids n is
    leaves n [] e = eqb-true n 1 e
    leaves n (math.Operand a ∷ is) e = let p = both (is_number t xs args a) (leaves_one t xs args (n + 1) is) e in (number a p.0, leaves (n + 1) is p.1)
    leaves n (math.Operator o ∷ is) e =
        let p = both (nat_le 2 n) (leaves_one t xs args (n - 1) is) e in
        let le : 2 ≤ n = at-most 2 n p.0 in
        let whole : n ≡ suc (suc (n - 2)) = omega arith in
        let less : n - 1 ≡ suc (n - 2) = omega arith in
        (n - 2, whole, subst (λ m. LeavesOne t (Conforms t) vars ids m is) less (leaves (n - 1) is p.1))

    -- ---- operands in turn

    first : (id : ℕ) (os rest : List Operand) → first_taken t xs args id os ≡ Some rest → (a : Operand) × (os ≡ a ∷ rest) × OperandFits t (Conforms t) vars ids id a
    first id [] rest e = cc
    first id (a ∷ os) rest e = go (operand_fits t xs args id a) refl e
      where
        go : (b : Bool) → operand_fits t xs args id a ≡ b → (if b then Some os else None) ≡ Some rest → (x : Operand) × (a ∷ os ≡ x ∷ rest) × OperandFits t (Conforms t) vars ids id x
        go true h e = let is : os ≡ rest = cc in (a, ap (λ r. a ∷ r) is, operand id a h)
        go false h e = cc

    fields-fit : (ps : List (List ℕ × TypeId)) (os : List Operand) → is_all (fields_taken t xs args ps os) ≡ true → OperandsFit t (Conforms t) vars ids (map (λ (p : List ℕ × TypeId). (p.1).0) ps) os
    fields-fit [] [] e = tt
    fields-fit [] (a ∷ os) e = cc
    fields-fit (p ∷ ps) os e = go (first_taken t xs args (p.1).0 os) (λ rest. fields-fit ps rest) refl e
      where
        go : (o : Option (List Operand)) → ((rest : List Operand) → is_all (fields_taken t xs args ps rest) ≡ true → OperandsFit t (Conforms t) vars ids (map (λ (p : List ℕ × TypeId). (p.1).0) ps) rest)
            → first_taken t xs args (p.1).0 os ≡ o → is_all (o >>= λ rest. fields_taken t xs args ps rest) ≡ true → OperandsFit t (Conforms t) vars ids (map (λ (p : List ℕ × TypeId). (p.1).0) (p ∷ ps)) os
        go None further i e = cc
        go (Some rest) further i e =
            let f = first (p.1).0 os rest i in subst (OperandsFit t (Conforms t) vars ids ((p.1).0 ∷ map (λ (p : List ℕ × TypeId). (p.1).0) ps)) (sym f.1) (f.2, further rest e)

    arguments-fit : (way : Way) (as' : List Argument) (os : List Operand) → is_all (arguments_taken t xs args way as' os) ≡ true → OperandsFit t (Conforms t) vars ids (carried_of way as') os
    arguments-fit way [] [] e = tt
    arguments-fit way [] (a ∷ os) e = cc
    arguments-fit way (a ∷ as') os e = go (goes way a.mode) (λ rest. arguments-fit way as' rest) e
      where
        next-fits : (o : Option (List Operand)) → ((rest : List Operand) → is_all (arguments_taken t xs args way as' rest) ≡ true → OperandsFit t (Conforms t) vars ids (carried_of way as') rest) → first_taken t xs args a.id.0 os ≡ o → is_all (o >>= λ rest. arguments_taken t xs args way as' rest) ≡ true
            → OperandsFit t (Conforms t) vars ids (a.id.0 ∷ carried_of way as') os
        next-fits None further i e = cc
        next-fits (Some rest) further i e = let f = first a.id.0 os rest i in subst (OperandsFit t (Conforms t) vars ids (a.id.0 ∷ carried_of way as')) (sym f.1) (f.2, further rest e)

        go : (b : Bool) → ((rest : List Operand) → is_all (arguments_taken t xs args way as' rest) ≡ true → OperandsFit t (Conforms t) vars ids (carried_of way as') rest) → is_all ((if b then first_taken t xs args a.id.0 os else Some os) >>= λ rest. arguments_taken t xs args way as' rest) ≡ true
            → OperandsFit t (Conforms t) vars ids (if b then a.id.0 ∷ carried_of way as' else carried_of way as') os
        go true further e = next-fits (first_taken t xs args a.id.0 os) further refl e
        go false further e = further os e

    -- ---- what is called and sent

    called : (activities : List Activity) (k : ℕ) (os : List Operand) → called_fits t xs args (slice_get activities k) os ≡ true
        → (b : Activity) × (slice_get activities k ≡ Some b) × OperandsFit t (Conforms t) vars ids (argument_types b) os
    called activities k os e = go (slice_get activities k) refl e
      where
        go : (o : Option Activity) → slice_get activities k ≡ o → called_fits t xs args o os ≡ true → (b : Activity) × (slice_get activities k ≡ Some b) × OperandsFit t (Conforms t) vars ids (argument_types b) os
        go None i e = cc
        go (Some b) i e = (b, i, fields-fit b.arguments os e)

    abbrev listed : Option Operand → List Operand
    listed None = []
    listed (Some a) = a ∷ []

    value-sent : (id : ℕ) (a : Option Operand) → value_sent t xs args id a ≡ true → OperandsFit t (Conforms t) vars ids (id ∷ []) (listed a)
    value-sent id None e = cc
    value-sent id (Some a) e = (operand id a e, tt)

    nothing-sent : (a : Option Operand) → nothing_sent a ≡ true → OperandsFit t (Conforms t) vars ids [] (listed a)
    nothing-sent None e = tt
    nothing-sent (Some a) e = cc

    sent-by : (o : Op) (way : Way) (name : List ℕ) (id : TypeId) (read_only : Bool) (a : Option Operand) → sent_by t xs args o way id.0 a ≡ true
        → OpFits o way (member.Parameter name id read_only) × OperandsFit t (Conforms t) vars ids (carried o way (Some (member.Parameter name id read_only))) (listed a)
    sent-by op.Command way name id r a e = cc
    sent-by op.Get Down name id r a e = (tt, nothing-sent a e)
    sent-by op.Get Up name id r a e = cc
    sent-by op.Set Down name id r a e = (tt, value-sent id.0 a e)
    sent-by op.Set Up name id r a e = cc
    sent-by op.Val Down name id r a e = cc
    sent-by op.Val Up name id r a e = (tt, value-sent id.0 a e)

-- ---- members

-- a member of an end that is there
record Found (ends : List EndPlan) (face place : ℕ) (required : Bool) (m : Member) : Type 0 where
  end : EndPlan
  end_is : slice_get ends face ≡ Some end
  member_is : slice_get end.instance.members place ≡ Some m
  is : end.required ≡ required

found : (ends : List EndPlan) (face place : ℕ) (required : Bool) (m : Member) → member_of ends face place ≡ Some (required, m) → Found ends face place required m
found ends face place required m e = go (slice_get ends face) refl e
  where
    inner : (x : EndPlan) (o : Option Member) → slice_get ends face ≡ Some x → slice_get x.instance.members place ≡ o → (o >>= λ (k : Member). with_end x.required k) ≡ Some (required, m) → Found ends face place required m
    inner x None i j e = cc
    inner x (Some k) i j e =
        let pair : ◌≡◌ {A = Bool × Member} (x.required, k) (required, m) = cc in
        record { end = x; end_is = i; member_is = j ∙ ap (λ (p : Bool × Member). Some p.1) pair; is = ap (λ (p : Bool × Member). p.0) pair }

    go : (o : Option EndPlan) → slice_get ends face ≡ o → (o >>= λ (x : EndPlan). member_in x place) ≡ Some (required, m) → Found ends face place required m
    go None i e = cc
    go (Some x) i e = inner x (slice_get x.instance.members place) i refl e

numbered : (count : ℕ) (name : Option ℕ) → is_numbered count name ≡ true → IsNumbered count name
numbered count None e = tt
numbered count (Some n) e = less n count e

-- ---- a component

module _ (t : Table) (rules : KeepsRules t) (c : ComponentPlan) where
  -- a command is carried by a member that is found
  carries-command : (way : Bool → Way) (face number : ℕ) (required : Bool) (name : List ℕ) (as' : List Argument) → member_of c.ends face number ≡ Some (required, member.Command name as')
      → CarriesAt way c face number op.Command (carried_of (way required) as')
  carries-command way face number required name as' e =
      let f = found c.ends face number required (member.Command name as') e in
      record { end = f.end; end_is = f.end_is; member = member.Command name as'; member_is = f.member_is; op = tt; types = ap (λ r. carried_of (way r) as') (sym f.is) }

  carries-parameter : (way : Bool → Way) (face number : ℕ) (o : Op) (required : Bool) (m : Member) → member_of c.ends face number ≡ Some (required, m)
      → OpFits o (way required) m → CarriesAt way c face number o (carried o (way required) (Some m))
  carries-parameter way face number o required m e fits =
      let f = found c.ends face number required m e in
      record { end = f.end; end_is = f.end_is; member = m; member_is = f.member_is; op = subst (λ r. OpFits o (way r) m) (sym f.is) fits; types = ap (λ r. carried o (way r) (Some m)) (sym f.is) }

  module _ (args : List TypeId) (ranks : List ℕ) (own : ℕ) where
    abbrev ids' : List ℕ
    ids' = map (λ (x : TypeId). x.0) args

    abbrev Calls : ℕ → List ℕ → Type 0
    Calls j js = TakesArguments c j js × (rank_of ranks j < own)

    command-carried : (face number : ℕ) (os : List Operand) → command_member_sent t c args ranks own (member_of c.ends face number) os ≡ true
        → (js : List ℕ) × CarriesAt leaving c face number op.Command js × OperandsFit t (Conforms t) (variable_types c) ids' js os
    command-carried face number os e = go (member_of c.ends face number) refl e
      where
        go : (o : Option (Bool × Member)) → member_of c.ends face number ≡ o → command_member_sent t c args ranks own o os ≡ true
            → (js : List ℕ) × CarriesAt leaving c face number op.Command js × OperandsFit t (Conforms t) (variable_types c) ids' js os
        go None i e = cc
        go (Some (required, member.Parameter name id r)) i e = cc
        go (Some (required, member.Command name as')) i e = (carried_of (leaving required) as', carries-command leaving face number required name as' i, arguments-fit t rules c.variables args (leaving required) as' os e)

    parameter-carried : (face number : ℕ) (o : Op) (a : Option Operand) → parameter_member_sent t c args ranks own o (member_of c.ends face number) a ≡ true
        → (js : List ℕ) × CarriesAt leaving c face number o js × OperandsFit t (Conforms t) (variable_types c) ids' js (listed t rules c.variables args a)
    parameter-carried face number o a e = go (member_of c.ends face number) refl e
      where
        go : (p : Option (Bool × Member)) → member_of c.ends face number ≡ p → parameter_member_sent t c args ranks own o p a ≡ true
            → (js : List ℕ) × CarriesAt leaving c face number o js × OperandsFit t (Conforms t) (variable_types c) ids' js (listed t rules c.variables args a)
        go None i e = cc
        go (Some (required, member.Command name as')) i e = cc
        go (Some (required, member.Parameter name id r)) i e =
            let s = sent-by t rules c.variables args o (leaving required) name id r a e in
            (carried o (leaving required) (Some (member.Parameter name id r)), carries-parameter leaving face number o required (member.Parameter name id r) i s.0, s.1)

    number-found : (x : ℕ) (path : List (TypeId × ℕ)) → is_number_type t (variable_type t c.variables args x path) ≡ true
        → (id : TypeId) × (variable_type t c.variables args x path ≡ Some id) × (is_numeric (kind_of t id.0) ≡ true)
    number-found x path e = go (variable_type t c.variables args x path) refl e
      where
        go : (o : Option TypeId) → variable_type t c.variables args x path ≡ o → is_number_type t o ≡ true → (id : TypeId) × (variable_type t c.variables args x path ≡ Some id) × (is_numeric (kind_of t id.0) ≡ true)
        go None i e = cc
        go (Some id) i e = (id, i, e)

    step-is : (step : ℤ) → not (int_eq step (pos 0)) ≡ true → step ≢ pos 0
    step-is step e is = let t : int_eq step (pos 0) ≡ true = (Decides-int_eq step (pos 0)).1 is in let f : not true ≡ true = subst (λ b. not b ≡ true) t e in cc

    mutual
      one-statement : (s : Stmt) → statement_fits t c args ranks own s ≡ true → StatementFits t (Conforms t) (variable_types c) ids' Calls (CarriesAt leaving c) (length c.transactions) s
      one-statement (assign x a) e = go (variable_type t c.variables args x.variable x.path) refl e
        where
          go : (o : Option TypeId) → variable_type t c.variables args x.variable x.path ≡ o → assigned_fits t c args ranks own o a ≡ true
              → StatementFits t (Conforms t) (variable_types c) ids' Calls (CarriesAt leaving c) (length c.transactions) (assign x a)
          go None i e = cc
          go (Some id) i e = (id.0, variable-typed t rules c.variables args x.variable x.path id i, operand t rules c.variables args id.0 a e)
      one-statement (calculate x is) e =
          let p = both (is_number_type t (variable_type t c.variables args x.variable x.path)) (leaves_one t c.variables args 0 is) e in
          let f = number-found x.variable x.path p.0 in
          (f.0.0, variable-typed t rules c.variables args x.variable x.path f.0 f.1, number-type t f.0.0 f.2, leaves t rules c.variables args 0 is p.1)
      one-statement (choose g a b) e =
          let p = both (condition_fits t c.variables args g) (statements_fit t c args ranks own a && statements_fit t c args ranks own b) e in
          let q = both (statements_fit t c args ranks own a) (statements_fit t c args ranks own b) p.1 in
          (one-condition t rules c.variables args g p.0, all-statements a q.0, all-statements b q.1)
      one-statement (iterate x a b step body) e =
          let n = is_number t c.variables args a && is_number t c.variables args b in
          let p = both (is_number_type t (variable_type t c.variables args x []) && n) (not (int_eq step (pos 0)) && statements_fit t c args ranks own body) e in
          let q = both (is_number_type t (variable_type t c.variables args x [])) n p.0 in
          let s = both (not (int_eq step (pos 0))) (statements_fit t c args ranks own body) p.1 in
          let f = number-found x [] q.0 in
          let h = variable-typed t rules c.variables args x [] f.0 f.1 in
          let m = numbers t rules c.variables args a b q.1 in
          (f.0.0, h.1 ∙ ap Some h.2, number-type t f.0.0 f.2, m.0, m.1, step-is step s.0, all-statements body s.1)
      one-statement (call action) e =
          let p = both (nat_lt (rank_of ranks action.activity) own) (called_fits t c.variables args (slice_get c.activities action.activity) action.operands) e in
          let f = called t rules c.variables args c.activities action.activity action.operands p.1 in
          (argument_types f.0, (record { body = f.0; is = f.1; types = refl }, less (rank_of ranks action.activity) own p.0), f.2)
      one-statement (send_command face number os name) e =
          let p = both (command_member_sent t c args ranks own (member_of c.ends face number) os) (is_numbered (length c.transactions) name) e in
          let f = command-carried face number os p.0 in
          (f.0, f.1, f.2, numbered (length c.transactions) name p.1)
      one-statement (send_parameter face number o None name) e =
          let p = both (parameter_member_sent t c args ranks own o (member_of c.ends face number) None) (is_numbered (length c.transactions) name) e in
          let f = parameter-carried face number o None p.0 in
          (f.0, f.1, f.2, numbered (length c.transactions) name p.1)
      one-statement (send_parameter face number o (Some a) name) e =
          let p = both (parameter_member_sent t c args ranks own o (member_of c.ends face number) (Some a)) (is_numbered (length c.transactions) name) e in
          let f = parameter-carried face number o (Some a) p.0 in
          (f.0, f.1, f.2, numbered (length c.transactions) name p.1)

      all-statements : (ss : Stmts) → statements_fit t c args ranks own ss ≡ true → StatementsFit t (Conforms t) (variable_types c) ids' Calls (CarriesAt leaving c) (length c.transactions) ss
      all-statements done e = tt
      all-statements (next s ss) e = let p = both (statement_fits t c args ranks own s) (statements_fit t c args ranks own ss) e in (one-statement s p.0, all-statements ss p.1)

  -- ---- machines

  abbrev numbers_of : List TypeId → List ℕ
  numbers_of js = map (λ (x : TypeId). x.0) js

  carried-are : (way : Way) (as' : List Argument) → numbers_of (carried_ids way as') ≡ carried_of way as'
  carried-are way [] = refl
  carried-are way (a ∷ as') = go (goes way a.mode) (carried-are way as')
    where
      go : (b : Bool) → numbers_of (carried_ids way as') ≡ carried_of way as' → numbers_of ((if b then a.id ∷ [] else []) ++ carried_ids way as') ≡ (if b then a.id.0 ∷ carried_of way as' else carried_of way as')
      go true more-are = ap (λ js. a.id.0 ∷ js) more-are
      go false more-are = more-are

  brings : (x : Trigger) (js : List TypeId) → brought c.ends x ≡ Some js → Brings c x (numbers_of js)
  brings trigger.Start js e = let is : [] ≡ js = cc in ap numbers_of (sym is)
  brings (trigger.Command face number) js e = go (member_of c.ends face number) refl e
    where
      go : (o : Option (Bool × Member)) → member_of c.ends face number ≡ o → command_brought o ≡ Some js → Brings c (trigger.Command face number) (numbers_of js)
      go None i e = cc
      go (Some (required, member.Parameter name id r)) i e = cc
      go (Some (required, member.Command name as')) i e =
          let is : carried_ids (arriving required) as' ≡ js = cc in
          subst (CarriesAt arriving c face number op.Command) (sym (carried-are (arriving required) as') ∙ ap numbers_of is) (carries-command arriving face number required name as' i)
  brings (trigger.Param face number o) js e = go (member_of c.ends face number) refl e
    where
      by-op : (o : Op) (way : Way) (name : List ℕ) (id : TypeId) (r : Bool) (js : List TypeId) → brought_by o way id ≡ Some js
          → OpFits o way (member.Parameter name id r) × (carried o way (Some (member.Parameter name id r)) ≡ numbers_of js)
      by-op op.Command way name id r js e = cc
      by-op op.Get Down name id r js e = let is : [] ≡ js = cc in (tt, ap numbers_of is)
      by-op op.Get Up name id r js e = cc
      by-op op.Set Down name id r js e = let is : id ∷ [] ≡ js = cc in (tt, ap numbers_of is)
      by-op op.Set Up name id r js e = cc
      by-op op.Val Down name id r js e = cc
      by-op op.Val Up name id r js e = let is : id ∷ [] ≡ js = cc in (tt, ap numbers_of is)

      go : (p : Option (Bool × Member)) → member_of c.ends face number ≡ p → parameter_brought o p ≡ Some js → Brings c (trigger.Param face number o) (numbers_of js)
      go None i e = cc
      go (Some (required, member.Command name as')) i e = cc
      go (Some (required, member.Parameter name id r)) i e =
          let s = by-op o (arriving required) name id r js e in
          subst (CarriesAt arriving c face number o) s.1 (carries-parameter arriving face number o required (member.Parameter name id r) i s.0)
  brings (trigger.Timer n) js e = go (nat_le n (10 ^ 18)) refl e
    where
      go : (b : Bool) → nat_le n (10 ^ 18) ≡ b → only b [] ≡ Some js → Brings c (trigger.Timer n) (numbers_of js)
      go true h e = let is : [] ≡ js = cc in (at-most n (10 ^ 18) h, ap numbers_of (sym is))
      go false h e = cc

  one-action : (args : List TypeId) (a : Option Action) → action_fits t c args a ≡ true → ActionFits t (Conforms t) c (numbers_of args) a
  one-action args None e = tt
  one-action args (Some a) e = called t rules c.variables args c.activities a.activity a.operands e

  one-guard : (args : List TypeId) (g : Option Guard) → guard_fits t c args g ≡ true → GuardFits t (Conforms t) c (numbers_of args) g
  one-guard args None e = tt
  one-guard args (Some g) e = one-condition t rules c.variables args (condition g) e

  all-states : (ss : List State) → states_fit t c ss ≡ true → AllByRecursion (StateFits t (Conforms t) c) ss
  all-states [] e = tt
  all-states (s ∷ ss) e =
      let p = both (state_fits t c s) (states_fit t c ss) e in
      let q = both (action_fits t c [] s.at_entry) (action_fits t c [] s.at_exit) p.0 in
      (record { at_entry = one-action [] s.at_entry q.0; at_exit = one-action [] s.at_exit q.1 }, all-states ss p.1)

  one-transition : (m : Machine) (x : Transition) → transition_fits t c (length m.states) x ≡ true → TransitionFits t (Conforms t) c m x
  one-transition m x e =
      let p = both (nat_lt x.from (length m.states) && nat_lt x.to (length m.states)) (is_numbered (length c.transactions) x.transaction && inner_fits t c (brought c.ends x.event) x) e in
      let q = both (nat_lt x.from (length m.states)) (nat_lt x.to (length m.states)) p.0 in
      let s = both (is_numbered (length c.transactions) x.transaction) (inner_fits t c (brought c.ends x.event) x) p.1 in
      go (less x.from (length m.states) q.0) (less x.to (length m.states) q.1) (numbered (length c.transactions) x.transaction s.0) (brought c.ends x.event) refl s.1
    where
      go : x.from < length m.states → x.to < length m.states → IsNumbered (length c.transactions) x.transaction → (o : Option (List TypeId)) → brought c.ends x.event ≡ o → inner_fits t c o x ≡ true → TransitionFits t (Conforms t) c m x
      go from to name None i e = cc
      go from to name (Some js) i e =
          let p = both (guard_fits t c js x.guard) (action_fits t c js x.action) e in
          record { from = from; to = to; brought = numbers_of js; event = brings x.event js i; transaction = name; guard = one-guard js x.guard p.0; action = one-action js x.action p.1 }

  all-transitions : (m : Machine) (xs : List Transition) → transitions_fit t c (length m.states) xs ≡ true → AllByRecursion (TransitionFits t (Conforms t) c m) xs
  all-transitions m [] e = tt
  all-transitions m (x ∷ xs) e = let p = both (transition_fits t c (length m.states) x) (transitions_fit t c (length m.states) xs) e in (one-transition m x p.0, all-transitions m xs p.1)

  all-machines : (ms : List Machine) → machines_fit t c ms ≡ true → AllByRecursion (MachineFits t (Conforms t) c) ms
  all-machines [] e = tt
  all-machines (m ∷ ms) e =
      let p = both (machine_fits t c m) (machines_fit t c ms) e in
      let q = both (nat_lt m.entry (length m.states)) (states_fit t c m.states && transitions_fit t c (length m.states) m.transitions) p.0 in
      let s = both (states_fit t c m.states) (transitions_fit t c (length m.states) m.transitions) q.1 in
      (record { entry = less m.entry (length m.states) q.0; states = all-states m.states s.0; transitions = all-transitions m m.transitions s.1 }, all-machines ms p.1)

  -- ---- what is declared

  all-variables : (xs : List VarPlan) → variables_fit t xs ≡ true → AllByRecursion (λ (x : VarPlan). Conforms t x.id.0 (plain x.initial)) xs
  all-variables [] e = tt
  all-variables (x ∷ xs) e = let p = both (value_fits t x.id.0 (plain x.initial)) (variables_fit t xs) e in (value-conforms t rules x.id.0 (plain x.initial) p.0, all-variables xs p.1)

  known-field : (ps : List (List ℕ × TypeId)) (j id : ℕ) → fields_known t ps ≡ true → slice_get (map (λ (p : List ℕ × TypeId). (p.1).0) ps) j ≡ Some id → id < length t
  known-field [] j id e at = cc
  known-field (p ∷ ps) zero id e at =
      let q = both (nat_lt (p.1).0 (length t)) (fields_known t ps) e in
      let is : (p.1).0 ≡ id = cc in
      let P : ℕ → Type 0 = λ n. n < length t in
      subst P is (less (p.1).0 (length t) q.0)
  known-field (p ∷ ps) (suc j) id e at = known-field ps j id (both (nat_lt (p.1).0 (length t)) (fields_known t ps) e).1 at

  known-argument : (as' : List Activity) (i j : ℕ) (a : Activity) (id : ℕ) → activities_known t as' ≡ true → slice_get as' i ≡ Some a → slice_get (argument_types a) j ≡ Some id → id < length t
  known-argument [] i j a id e at there = cc
  known-argument (b ∷ bs) zero j a id e at there =
      let q = both (fields_known t b.arguments) (activities_known t bs) e in
      let is : b ≡ a = cc in
      known-field b.arguments j id q.0 (subst (λ (x : Activity). slice_get (argument_types x) j ≡ Some id) (sym is) there)
  known-argument (b ∷ bs) (suc i) j a id e at there = known-argument bs i j a id (both (fields_known t b.arguments) (activities_known t bs) e).1 at there

  all-arguments : (as' : List Argument) → arguments_known t as' ≡ true → AllByRecursion (λ (a : Argument). a.id.0 < length t) as'
  all-arguments [] e = tt
  all-arguments (a ∷ as') e = let p = both (nat_lt a.id.0 (length t)) (arguments_known t as') e in (less a.id.0 (length t) p.0, all-arguments as' p.1)

  one-member : (m : Member) → member_known t m ≡ true → MemberKnown t (Some m)
  one-member (member.Parameter name id r) e = less id.0 (length t) e
  one-member (member.Command name as') e = all-arguments as' e

  known-member : (ms : List Member) (j : ℕ) → members_known t ms ≡ true → MemberKnown t (slice_get ms j)
  known-member [] j e = tt
  known-member (m ∷ ms) zero e = one-member m (both (member_known t m) (members_known t ms) e).0
  known-member (m ∷ ms) (suc j) e = known-member ms j (both (member_known t m) (members_known t ms) e).1

  known-end : (es : List EndPlan) (i j : ℕ) (x : EndPlan) → ends_known t es ≡ true → slice_get es i ≡ Some x → MemberKnown t (slice_get x.instance.members j)
  known-end [] i j x e at = cc
  known-end (y ∷ es) zero j x e at =
      let q = both (members_known t y.instance.members) (ends_known t es) e in
      let is : y ≡ x = cc in
      subst (λ (z : EndPlan). MemberKnown t (slice_get z.instance.members j)) is (known-member y.instance.members j q.0)
  known-end (y ∷ es) (suc i) j x e at = known-end es i j x (both (members_known t y.instance.members) (ends_known t es) e).1 at

  one-map : (m : MapPlan) → of_one_type (member_of c.ends m.face m.member) (slice_get c.variables m.variable) ≡ true → MapFits c m
  one-map m e = go (member_of c.ends m.face m.member) (slice_get c.variables m.variable) refl refl e
    where
      go : (p : Option (Bool × Member)) (o : Option VarPlan) → member_of c.ends m.face m.member ≡ p → slice_get c.variables m.variable ≡ o → of_one_type p o ≡ true → MapFits c m
      go None o i j e = cc
      go (Some p) None i j e = cc
      go (Some (required, member.Command name as')) (Some x) i j e = cc
      go (Some (required, member.Parameter name id r)) (Some x) i j e =
          let f = found c.ends m.face m.member required (member.Parameter name id r) i in
          record { end = f.end; end_is = f.end_is; name = name; id = id; read_only = r; member_is = f.member_is; variable = x; variable_is = j; same = ap (λ (n : ℕ). record { 0 = n }) (eqb-true x.id.0 id.0 e) }

  all-maps : (ms : List MapPlan) → maps_fit c ms ≡ true → AllByRecursion (MapFits c) ms
  all-maps [] e = tt
  all-maps (m ∷ ms) e = let p = both (of_one_type (member_of c.ends m.face m.member) (slice_get c.variables m.variable)) (maps_fit c ms) e in (one-map m p.0, all-maps ms p.1)

  -- ---- bodies

  ids-are : (ps : List (List ℕ × TypeId)) → numbers_of (argument_ids ps) ≡ map (λ (p : List ℕ × TypeId). (p.1).0) ps
  ids-are [] = refl
  ids-are (p ∷ ps) = ap (λ js. (p.1).0 ∷ js) (ids-are ps)

  module _ (ranks : List ℕ) where
    -- the body of the activity of a number
    abbrev BodyFits : ℕ → Activity → Type 0
    BodyFits i a = StatementsFit t (Conforms t) (variable_types c) (argument_types a) (λ j js. TakesArguments c j js × (rank_of ranks j < rank_of ranks i)) (CarriesAt leaving c) (length c.transactions) (stmts_of (stmts a.body))

    one-body : (i : ℕ) (a : Activity) → statements_fit t c (argument_ids a.arguments) ranks (rank_of ranks i) (stmts_of (stmts a.body)) ≡ true → BodyFits i a
    one-body i a e =
        subst (λ js. StatementsFit t (Conforms t) (variable_types c) js (λ j js. TakesArguments c j js × (rank_of ranks j < rank_of ranks i)) (CarriesAt leaving c) (length c.transactions) (stmts_of (stmts a.body)))
        (ids-are a.arguments) (all-statements (argument_ids a.arguments) ranks (rank_of ranks i) (stmts_of (stmts a.body)) e)

    all-bodies : (k : ℕ) (as' : List Activity) → bodies_fit t c ranks k as' ≡ true → (i : ℕ) (a : Activity) → slice_get as' i ≡ Some a → BodyFits (k + i) a
    all-bodies k [] e i a at = absurd cc
    all-bodies k (b ∷ bs) e zero a at =
        let q = both (statements_fit t c (argument_ids b.arguments) ranks (rank_of ranks k) (stmts_of (stmts b.body))) (bodies_fit t c ranks (k + 1) bs) e in
        let is : b ≡ a = cc in
        let here : k ≡ k + 0 = omega arith in
        subst (BodyFits (k + 0)) is (subst (λ n. BodyFits n b) here (one-body k b q.0))
    all-bodies k (b ∷ bs) e (suc i) a at =
        let q = both (statements_fit t c (argument_ids b.arguments) ranks (rank_of ranks k) (stmts_of (stmts b.body))) (bodies_fit t c ranks (k + 1) bs) e in
        let here : (k + 1) + i ≡ k + suc i = omega arith in
        subst (λ n. BodyFits n a) here (all-bodies (k + 1) bs q.1 i a at)

    pub component-fits : component_fits t c ranks ≡ true → ComponentFits t (Conforms t) c
    component-fits e =
        let v = variables_fit t c.variables in
        let k = activities_known t c.activities in
        let n = ends_known t c.ends in
        let m = maps_fit c c.maps in
        let b = bodies_fit t c ranks 0 c.activities in
        let f = nat_le (length c.machines) 16 in
        let x = machines_fit t c c.machines in
        let p = both (v && (k && (n && m))) (b && (f && x)) e in
        let d = both v (k && (n && m)) p.0 in
        let d2 = both k (n && m) d.1 in
        let d3 = both n m d2.1 in
        let q = both b (f && x) p.1 in
        let q2 = both f x q.1 in
        record {
          initial = all-variables c.variables d.0;
          known = λ i j a id at there. known-argument c.activities i j a id d2.0 at there;
          members = λ i j y at. known-end c.ends i j y d3.0 at;
          maps = all-maps c.maps d3.1;
          rank = λ i. rank_of ranks i;
          bodies = λ i a at. let from-0 : 0 + i ≡ i = omega arith in subst (λ k. BodyFits k a) from-0 (all-bodies 0 c.activities q.0 i a at);
          few = at-most (length c.machines) 16 q2.0;
          machines = all-machines c.machines q2.1;
        }
