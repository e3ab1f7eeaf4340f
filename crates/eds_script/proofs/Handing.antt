-- What a script has happen may be handed on.
use Rattle.std.proofs.Common.{◌≡◌, ◌≢◌, ℕ, suc, ◌+◌, ◌<◌, ◌≤◌, ◌^◌, ◌==◌, ◌&&◌, ◌||◌, nat_le, nat_lt, not, Bool, true, false, Option, Some, None, List, [], ◌∷◌, ◌++◌, Result, Ok, Err, length, option_map, slice_get, subst, refl, sym, ap, ◌∙◌, arith}
use Rattle.std.specs.List.{AllByRecursion, flat_map, list_any}
use Rattle.std.proofs.lemmas.Bool.Decides.{nat_tests}
use Rattle.std.proofs.lemmas.List.Folds.{list_any-append}
use Rattle.std.proofs.lemmas.Slice.Eq.{bytes_eq-Decides}
use Rattle.eds_base.specs.Answering.{◌>>=◌, or_stop}
use Rattle.eds_base.specs.Reading.{only, same}
use Rattle.eds_base.specs.Reading as reading
use Rattle.eds_base.specs.declared.ids.TypeId.{TypeId}
use Rattle.eds_types.specs.PackedSizes.{packs}
use Rattle.eds_types.specs.Plain.{Plain}
use Rattle.eds_types.specs.Rows.{Table}
use Rattle.eds_types.specs.Rules.{KeepsRules}
use Rattle.eds_types.proofs.PackedLaws.{sizes_are_exact}
use Rattle.eds_value.specs.Json.{arguments_in, value_in}
use Rattle.eds_value.specs.ValueOfJson.{octets_of_hex}
use Rattle.eds_plan.specs.Carried.{OpFits, arriving, carried_fields, carried_of, goes}
use Rattle.eds_plan.specs.Ends.{end_at, end_named, found_end}
use Rattle.eds_plan.specs.Lines.{Told, framed, passes, starts}
use Rattle.eds_plan.specs.Lines as lines
use Rattle.eds_plan.specs.declared.activity.Op.TheVariants as op
use Rattle.eds_plan.specs.declared.component.ComponentPlan.{ComponentPlan}
use Rattle.eds_plan.specs.declared.component.EndPlan.{EndPlan}
use Rattle.eds_plan.specs.declared.instance.Argument.{Argument}
use Rattle.eds_plan.specs.declared.instance.Member.{Member}
use Rattle.eds_plan.specs.declared.instance.Member.TheVariants as member
use Rattle.eds_plan.specs.declared.run.End.{End}
use Rattle.eds_plan.specs.declared.run.Way.{Way}
use Rattle.eds_plan.specs.declared.run.Wire.{Wire}
use Rattle.eds_script.specs.declared.why.LineWhy.{LineWhy}
use Rattle.eds_script.specs.declared.why.LineWhy.TheVariants as why
use Rattle.eds_script.specs.declared.words.Verb.{Verb}
use Rattle.eds_script.specs.declared.words.Verb.TheVariants.{Cmd, Frame, Get, Set, Val}
use Rattle.eds_script.specs.Arrivals.{arrival_told, arrived, command_told, fits, frame_told, get_told, member_told, set_told, val_told}
use Rattle.eds_script.specs.Fitting.{IsValueOf}
use Rattle.eds_script.specs.Given.{all_pack, frame_octets, given_arguments, given_value, or_why}
use Rattle.eds_script.specs.Handing.{IsFree, MayAllHappen, MayArrive, MayBring, MayHappen, ScriptsMayRun, end_of, passed}
use Rattle.eds_script.specs.Known.{AreKnown, IsKnown, KnowsTypes}
use Rattle.eds_script.specs.Lines.{Numbered, script_lines}
use Rattle.eds_script.specs.Meaning.{Meaning, wire, tick, comes, begun, meaning, saying_meaning, tied, ticks_by, time_of, wired_in}
use Rattle.eds_script.specs.Members.{Carrying, Commanded, Parametered, command_from, commanded, parameter_from}
use Rattle.eds_script.specs.Numbers.{is_in_time, number_of, tick_of}
use Rattle.eds_script.specs.Pairs.{AllPaired}
use Rattle.eds_script.specs.Scripts.{Plot, at_line, happenings_of, meanings, plot_of, wires_of}
use Rattle.eds_script.specs.Stops.{unless_stop}
use Rattle.eds_script.specs.Words.{Saying, ties, ticks, arrives, form}
use Rattle.eds_script.proofs.Knowing.{found-there, known-at, there-known}
use Rattle.eds_script.proofs.Scripting.{says, time-more}
use Rattle.eds_script.proofs.Steps.{bound, inside, tested, there}
use Rattle.eds_script.proofs.Starting.{from-start}

-- ---- ends of wires

-- the ends of all wires are wired ones
abbrev pub Cover : (List ℕ → Bool) → List Wire → Type 0
Cover wired wires = AllByRecursion (λ (w : Wire). (wired w.lower ≡ true) × (wired w.upper ≡ true)) wires

apart : (wired : List ℕ → Bool) (q r : List ℕ) → q ≡ r → wired q ≡ true → wired r ≡ false → ⊥
apart wired q r same held out = let both : true ≡ false = sym held ∙ ap wired same ∙ out in cc

-- no wire has a text that isn't wired
unnamed : (wired : List ℕ → Bool) (wires : List Wire) (text : List ℕ) → wired text ≡ false → Cover wired wires → AllByRecursion (λ (w : Wire). (w.lower ≢ text) × (w.upper ≢ text)) wires
unnamed wired [] text out covers = tt
unnamed wired (w ∷ wires) text out covers = (((λ h. apart wired w.lower text h covers.0.0 out), (λ h. apart wired w.upper text h covers.0.1 out)), unnamed wired wires text out covers.1)

-- so an end whose text isn't wired is free
pub free : (plan : List ComponentPlan) (wired : List ℕ → Bool) (wires : List Wire) (text : List ℕ) (e : End) → end_named plan text ≡ Some e → wired text ≡ false → Cover wired wires → IsFree plan wires e
free plan wired wires text e named out covers = record { text = text; named = named; unnamed = unnamed wired wires text out covers }

-- ---- members

-- a command that is found stands at its place
record CommandThere (ms : List Member) (i : ℕ) (m : Commanded) : Type 0 where
  pub at : ℕ
  pub name : List ℕ
  pub place : m.place ≡ i + at
  pub is : slice_get ms at ≡ Some (member.Command name m.arguments)

command-behind : (x : Member) (ms : List Member) (i : ℕ) (m : Commanded) → CommandThere ms (i + 1) m → CommandThere (x ∷ ms) i m
command-behind x ms i m h = record { at = suc h.at; name = h.name; place = (let place = h.place in omega (arith, place)); is = h.is }

command-there : (name : List ℕ) (i : ℕ) (ms : List Member) (m : Commanded) → command_from name i ms ≡ Some m → CommandThere ms i m
command-there name i [] m e = cc
command-there name i (member.Parameter n id read_only ∷ ms) m e = command-behind (member.Parameter n id read_only) ms i m (command-there name (i + 1) ms m e)
command-there name i (member.Command n args ∷ ms) m e = go (same n name) refl (λ h. command-there name (i + 1) ms m h)
  where
    go : (b : Bool) → same n name ≡ b → (command_from name (i + 1) ms ≡ Some m → CommandThere ms (i + 1) m) → CommandThere (member.Command n args ∷ ms) i m
    go true h others =
        let found : ◌≡◌ {A = Commanded} (record { place = i; arguments = args }) m = (let here = rw h at e in cc) in
        record { at = 0; name = n; place = (let at = ap (λ (x : Commanded). x.place) found in omega (arith, at)); is = ap (λ (x : Commanded). Some (member.Command n x.arguments)) found }
    go false h others = command-behind (member.Command n args) ms i m (others (rw h at e))

-- and so does a parameter
record ParameterThere (ms : List Member) (i : ℕ) (m : Parametered) : Type 0 where
  pub at : ℕ
  pub name : List ℕ
  pub place : m.place ≡ i + at
  pub is : slice_get ms at ≡ Some (member.Parameter name m.id m.read_only)

parameter-behind : (x : Member) (ms : List Member) (i : ℕ) (m : Parametered) → ParameterThere ms (i + 1) m → ParameterThere (x ∷ ms) i m
parameter-behind x ms i m h = record { at = suc h.at; name = h.name; place = (let place = h.place in omega (arith, place)); is = h.is }

parameter-there : (name : List ℕ) (i : ℕ) (ms : List Member) (m : Parametered) → parameter_from name i ms ≡ Some m → ParameterThere ms i m
parameter-there name i [] m e = cc
parameter-there name i (member.Command n args ∷ ms) m e = parameter-behind (member.Command n args) ms i m (parameter-there name (i + 1) ms m e)
parameter-there name i (member.Parameter n id read_only ∷ ms) m e = go (same n name) refl (λ h. parameter-there name (i + 1) ms m h)
  where
    go : (b : Bool) → same n name ≡ b → (parameter_from name (i + 1) ms ≡ Some m → ParameterThere ms (i + 1) m) → ParameterThere (member.Parameter n id read_only ∷ ms) i m
    go true h others =
        let found : ◌≡◌ {A = Parametered} (record { place = i; id = id; read_only = read_only }) m = (let here = rw h at e in cc) in
        record { at = 0; name = n; place = (let at = ap (λ (x : Parametered). x.place) found in omega (arith, at)); is = ap (λ (x : Parametered). Some (member.Parameter n x.id x.read_only)) found }
    go false h others = parameter-behind (member.Parameter n id read_only) ms i m (others (rw h at e))

at-place : (ms : List Member) (i at : ℕ) (m : Member) → i ≡ 0 + at → slice_get ms at ≡ Some m → slice_get ms i ≡ Some m
at-place ms i at m is held = ap (slice_get ms) (is ∙ omega arith) ∙ held

-- ---- values

module _ (t : Table) (rules : KeepsRules t) where
  is-value : (id : ℕ) (v : Plain) → id < length t → packs t id v ≡ true → IsValueOf t id v
  is-value id v known packed = let found = (sizes_are_exact t id rules known v).bool.0 packed in record { known = known; size = found.0; packs = found.1 }

  both : (a b : Bool) → (a && b) ≡ true → (a ≡ true) × (b ≡ true)
  both true true h = (refl, refl)
  both true false h = cc
  both false b h = cc

  -- values of the arguments that go that way
  paired : (way : Way) (args : List Argument) (vs : List Plain) → AllByRecursion (λ (a : Argument). a.id.0 < length t) args → all_pack t (carried_fields way args) vs ≡ true
      → AllPaired (λ (id : ℕ) (v : Plain). IsValueOf t id v) (carried_of way args) vs
  paired way [] [] known h = tt
  paired way [] (v ∷ vs) known h = cc
  paired way (a ∷ as') vs known h = go (goes way a.mode) refl vs h (λ ws g. paired way as' ws known.1 g)
    where
      go : (b : Bool) → goes way a.mode ≡ b → (vs : List Plain) → all_pack t (carried_fields way (a ∷ as')) vs ≡ true
          → ((ws : List Plain) → all_pack t (carried_fields way as') ws ≡ true → AllPaired (λ (id : ℕ) (v : Plain). IsValueOf t id v) (carried_of way as') ws)
          → AllPaired (λ (id : ℕ) (v : Plain). IsValueOf t id v) (carried_of way (a ∷ as')) vs
      go false e vs h others = rw e (others vs (rw e at h))
      go true e [] h others = let none = rw e at h in cc
      go true e (v ∷ vs) h others =
          let two = both (packs t a.id.0 v) (all_pack t (carried_fields way as') vs) (rw e at h) in
          rw e (is-value a.id.0 v known.0 two.0, others vs two.1)

-- ---- what arrives

-- what arrives is something at this end that may arrive there, or a frame that may
abbrev pub Fitting : Table → List ComponentPlan → End → Told → Type 0
Fitting t plan e starts = ⊥
Fitting t plan e (passes n) = ⊥
Fitting t plan e (lines.arrives comp face number way o vs) = (end_of comp face ≡ e) × MayArrive t plan (end_of comp face) number way o vs
Fitting t plan e (framed comp face number octets) = (end_of comp face ≡ e) × MayBring plan (end_of comp face) number octets

module _ (t : Table) (rules : KeepsRules t) (plan : List ComponentPlan) (e : End) (p : EndPlan) (is : end_at plan e ≡ Some p) (known : AreKnown t p) where
  given-fits : (fields : List (List ℕ × TypeId)) (json : List ℕ) (vs : List Plain) → given_arguments t fields json ≡ Ok vs → all_pack t fields vs ≡ true
  unfolding given_arguments
  given-fits fields json vs h =
      let one = bound (or_why (arguments_in t fields json)) _ vs h in
      let two = bound (unless_stop why.Value (all_pack t fields one.0)) _ vs one.2 in
      let same : one.0 ≡ vs = inside one.0 vs two.2 in
      ap (all_pack t fields) (sym same) ∙ tested why.Value (all_pack t fields one.0) two.0 two.1

  value-fits : (id : ℕ) (json : List ℕ) (vs : List Plain) → id < length t → given_value t id json ≡ Ok vs → AllPaired (λ (i : ℕ) (v : Plain). IsValueOf t i v) (id ∷ []) vs
  unfolding given_value
  value-fits id json vs there h =
      let one = bound (or_why (value_in t id json)) _ vs h in
      let two = bound (unless_stop why.Value (packs t id one.0)) _ vs one.2 in
      let same : one.0 ∷ [] ≡ vs = inside (one.0 ∷ []) vs two.2 in
      subst (λ xs. AllPaired (λ (i : ℕ) (v : Plain). IsValueOf t i v) (id ∷ []) xs) same (is-value t rules id one.0 there (tested why.Value (packs t id one.0) two.0 two.1), tt)

  -- a command that is found with its fields
  record Found (name : List ℕ) (m : Carrying) : Type 0 where
    pub called : List ℕ
    pub arguments : List Argument
    pub there : slice_get p.instance.members m.place ≡ Some (member.Command called arguments)
    pub fields : m.fields ≡ carried_fields (arriving p.required) arguments

  found : (name : List ℕ) (m : Carrying) → commanded p name ≡ Some m → Found name m
  found name m h = go (command_from name 0 p.instance.members) refl h
    where
      go : (o : Option Commanded) → command_from name 0 p.instance.members ≡ o
          → option_map {U = Carrying} (λ (x : Commanded). record { place = x.place; fields = carried_fields (arriving p.required) x.arguments }) o ≡ Some m → Found name m
      go None from h = cc
      go (Some x) from h =
          let same : ◌≡◌ {A = Carrying} (record { place = x.place; fields = carried_fields (arriving p.required) x.arguments }) m = cc in
          let c = command-there name 0 p.instance.members x from in
          record {
            called = c.name;
            arguments = x.arguments;
            there = ap (slice_get p.instance.members) (sym (ap (λ (y : Carrying). y.place) same)) ∙ at-place p.instance.members x.place c.at (member.Command c.name x.arguments) c.place c.is;
            fields = sym (ap (λ (y : Carrying). y.fields) same);
          }

  command-fits : (name json : List ℕ) (x : Told) → command_told t e p name json ≡ Ok x → Fitting t plan e x
  unfolding command_told
  command-fits name json x h =
      let one = bound (or_stop why.Member (commanded p name)) _ x h in
      let m : Carrying = one.0 in
      let two = bound (given_arguments t m.fields json) _ x one.2 in
      let vs : List Plain = two.0 in
      let f = found name m (there why.Member (commanded p name) m one.1) in
      let packed : all_pack t (carried_fields (arriving p.required) f.arguments) vs ≡ true = ap (λ fs. all_pack t fs vs) (sym f.fields) ∙ given-fits m.fields json vs two.1 in
      let all_known : AllByRecursion (λ (a : Argument). a.id.0 < length t) f.arguments = known-at (IsKnown t) p.instance.members m.place (member.Command f.called f.arguments) f.there known in
      subst (Fitting t plan e) (inside (arrived e m.place p.required op.Command vs) x two.2) (
        refl,
        record { end = p; end_is = is; member = member.Command f.called f.arguments; member_is = f.there; way_is = refl; op = tt; values = paired t rules (arriving p.required) f.arguments vs all_known packed },
      )

  one-field : (n : ℕ) → (n == 1) ≡ true → n ≡ 1
  one-field n h = grind (arith, nat_tests)

  few-octets : (hex octets : List ℕ) → frame_octets hex ≡ Some octets → length octets ≤ 65536
  unfolding frame_octets
  few-octets hex octets h = go (octets_of_hex hex) h
    where
      at_most : (os : List ℕ) (b : Bool) → nat_le (length os) 65536 ≡ b → only b os ≡ Some octets → length octets ≤ 65536
      at_most os true le h = let is : os ≡ octets = cc in rw (← is) (grind (arith, nat_tests))
      at_most os false le h = cc

      go : (o : Option (List ℕ)) → (reading.◌>>=◌ o (λ os. only (nat_le (length os) 65536) os)) ≡ Some octets → length octets ≤ 65536
      go None h = cc
      go (Some os) h = at_most os (nat_le (length os) 65536) refl h

  frame-fits : (name hex : List ℕ) (x : Told) → frame_told e p name hex ≡ Ok x → Fitting t plan e x
  unfolding frame_told
  frame-fits name hex x h =
      let one = bound (or_stop why.Member (commanded p name)) _ x h in
      let m : Carrying = one.0 in
      let two = bound (unless_stop why.Args (length m.fields == 1)) _ x one.2 in
      let three = bound (or_stop why.Hex (frame_octets hex)) _ x two.2 in
      let octets : List ℕ = three.0 in
      let f = found name m (there why.Member (commanded p name) m one.1) in
      subst (Fitting t plan e) (inside (framed e.comp.0 e.face m.place octets) x three.2) (
        refl,
        record {
          end = p;
          end_is = is;
          name = f.called;
          arguments = f.arguments;
          command = f.there;
          one = ap length (sym f.fields) ∙ one-field (length m.fields) (tested why.Args (length m.fields == 1) two.0 two.1);
          few = few-octets hex octets (there why.Hex (frame_octets hex) octets three.1);
        },
      )

  -- a parameter that is found
  record FoundParameter (m : Parametered) : Type 0 where
    pub called : List ℕ
    pub there : slice_get p.instance.members m.place ≡ Some (member.Parameter called m.id m.read_only)
    pub id_known : m.id.0 < length t

  found-parameter : (name : List ℕ) (m : Parametered) → parameter_from name 0 p.instance.members ≡ Some m → FoundParameter m
  found-parameter name m h =
      let c = parameter-there name 0 p.instance.members m h in
      let held = at-place p.instance.members m.place c.at (member.Parameter c.name m.id m.read_only) c.place c.is in
      record { called = c.name; there = held; id_known = known-at (IsKnown t) p.instance.members m.place (member.Parameter c.name m.id m.read_only) held known }

  get-fits : (name : List ℕ) (x : Told) → p.required ≡ false → get_told e p name ≡ Ok x → Fitting t plan e x
  unfolding get_told
  get-fits name x provided h =
      let one = bound (or_stop why.Member (parameter_from name 0 p.instance.members)) _ x h in
      let m : Parametered = one.0 in
      let f = found-parameter name m (there why.Member (parameter_from name 0 p.instance.members) m one.1) in
      subst (Fitting t plan e) (inside (arrived e m.place p.required op.Get []) x one.2) (
        refl,
        record { end = p; end_is = is; member = member.Parameter f.called m.id m.read_only; member_is = f.there; way_is = refl; op = subst (λ (b : Bool). OpFits op.Get (arriving b) (member.Parameter f.called m.id m.read_only)) (sym provided) tt; values = tt },
      )

  set-fits : (name json : List ℕ) (x : Told) → p.required ≡ false → set_told t e p name json ≡ Ok x → Fitting t plan e x
  unfolding set_told
  set-fits name json x provided h =
      let one = bound (or_stop why.Member (parameter_from name 0 p.instance.members)) _ x h in
      let m : Parametered = one.0 in
      let two = bound (unless_stop why.ReadOnly (not m.read_only)) _ x one.2 in
      let three = bound (given_value t m.id.0 json) _ x two.2 in
      let vs : List Plain = three.0 in
      let f = found-parameter name m (there why.Member (parameter_from name 0 p.instance.members) m one.1) in
      subst (Fitting t plan e) (inside (arrived e m.place p.required op.Set vs) x three.2) (
        refl,
        record { end = p; end_is = is; member = member.Parameter f.called m.id m.read_only; member_is = f.there; way_is = refl; op = subst (λ (b : Bool). OpFits op.Set (arriving b) (member.Parameter f.called m.id m.read_only)) (sym provided) tt; values = value-fits m.id.0 json vs f.id_known three.1 },
      )

  val-fits : (name json : List ℕ) (x : Told) → p.required ≡ true → val_told t e p name json ≡ Ok x → Fitting t plan e x
  unfolding val_told
  val-fits name json x required h =
      let one = bound (or_stop why.Member (parameter_from name 0 p.instance.members)) _ x h in
      let m : Parametered = one.0 in
      let two = bound (given_value t m.id.0 json) _ x one.2 in
      let vs : List Plain = two.0 in
      let f = found-parameter name m (there why.Member (parameter_from name 0 p.instance.members) m one.1) in
      subst (Fitting t plan e) (inside (arrived e m.place p.required op.Val vs) x two.2) (
        refl,
        record { end = p; end_is = is; member = member.Parameter f.called m.id m.read_only; member_is = f.there; way_is = refl; op = subst (λ (b : Bool). OpFits op.Val (arriving b) (member.Parameter f.called m.id m.read_only)) (sym required) tt; values = value-fits m.id.0 json vs f.id_known two.1 },
      )

  provided : (b : Bool) → not b ≡ true → b ≡ false
  provided true h = cc
  provided false h = refl

  member-fits : (verb : Verb) (name rest : List ℕ) (x : Told) → fits verb p.required ≡ true → member_told t verb e p name rest ≡ Ok x → Fitting t plan e x
  member-fits Cmd name rest x way h = command-fits name rest x h
  member-fits Frame name rest x way h = frame-fits name rest x h
  member-fits Get name rest x way h = get-fits name x (provided p.required way) h
  member-fits Set name rest x way h = set-fits name rest x (provided p.required way) h
  member-fits Val name rest x way h = val-fits name rest x way h

-- ---- one line

-- an end that is found is named
found-named : (plan : List ComponentPlan) (text : List ℕ) (e : End) (p : EndPlan) → found_end plan text ≡ Some (e, p) → end_named plan text ≡ Some e
found-named plan text e p found = at_end (end_named plan text) refl found
  where
    at_place : (x : End) (o : Option EndPlan) → option_map {U = End × EndPlan} (λ q. (x, q)) o ≡ Some (e, p) → x ≡ e
    at_place x None h = cc
    at_place x (Some q) h = let both : ◌≡◌ {A = End × EndPlan} (x, q) (e, p) = cc in ap (λ (z : End × EndPlan). z.0) both

    at_end : (o : Option End) → end_named plan text ≡ o → (reading.◌>>=◌ o (λ x. option_map {U = End × EndPlan} (λ q. (x, q)) (end_at plan x))) ≡ Some (e, p) → end_named plan text ≡ Some e
    at_end None is h = cc
    at_end (Some x) is h = is ∙ ap Some (at_place x (end_at plan x) h)

module _ (t : Table) (rules : KeepsRules t) (plan : List ComponentPlan) (known : KnowsTypes t plan) (wired : List ℕ → Bool) where
  -- what arrives fits the end that its text names, which isn't wired
  arrival-fits : (verb : Verb) (end name rest : List ℕ) (x : Told) → arrival_told t plan wired verb end name rest ≡ Ok x
      → (e : End) × (end_named plan end ≡ Some e) × (wired end ≡ false) × Fitting t plan e x
  unfolding arrival_told
  arrival-fits verb end name rest x h =
      let one = bound (or_stop why.End (found_end plan end)) _ x h in
      let e : End = one.0.0 in
      let p : EndPlan = one.0.1 in
      let two = bound (unless_stop why.Wired (not (wired end))) _ x one.2 in
      let three = bound (unless_stop why.Way (fits verb p.required)) _ x two.2 in
      let found : found_end plan end ≡ Some (e, p) = there why.End (found_end plan end) one.0 one.1 in
      let here : end_at plan e ≡ Some p = found-there plan end e p found in (
        e,
        found-named plan end e p found,
        provided t rules plan e p here (there-known t plan e p here known) (wired end) (tested why.Wired (not (wired end)) two.0 two.1),
        member-fits t rules plan e p here (there-known t plan e p here known) verb name rest x (tested why.Way (fits verb p.required) three.0 three.1) three.2,
      )

  -- so it may happen, and no time goes on by it
  pub fitting-happens : (wires : List Wire) (time : ℕ) (e : End) (x : Told) → Fitting t plan e x → IsFree plan wires e → MayHappen t plan wires time x × (passed x ≡ 0)
  fitting-happens wires time e starts h out = absurd h
  fitting-happens wires time e (passes n) h out = absurd h
  fitting-happens wires time e (lines.arrives comp face number way o vs) h out = ((subst (IsFree plan wires) (sym h.0) out, h.1), refl)
  fitting-happens wires time e (framed comp face number octets) h out = ((subst (IsFree plan wires) (sym h.0) out, h.1), refl)

  ticks-in-time : (time : ℕ) (number : List ℕ) (n : ℕ) → tick_of time number ≡ Ok n → time + n < 2 ^ 63
  unfolding tick_of
  ticks-in-time time number n h =
      let one = bound (or_stop why.Number (number_of number)) _ n h in
      let two = bound (unless_stop why.Time (is_in_time time one.0)) _ n one.2 in
      let same : one.0 ≡ n = inside one.0 n two.2 in
      let small = both t rules (nat_le one.0 (10 ^ 18)) (nat_lt (time + one.0) (2 ^ 63)) (tested why.Time (is_in_time time one.0) two.0 two.1) in
      subst (λ k. time + k < 2 ^ 63) same (below (time + one.0) (2 ^ 63) small.1)
    where
      below : (a b : ℕ) → nat_lt a b ≡ true → a < b
      below a b h = grind (arith, nat_tests)

  said-same : (l u lower upper : List ℕ) → l ≡ lower → u ≡ upper → ◌≡◌ {A = Result Saying LineWhy} (Ok (ties l u)) (Ok (ties lower upper))
  said-same l u lower upper one other = rw (one, other) refl

  -- a line that means a wire says so
  wire-said : (late : Bool) (time : ℕ) (r : Result Saying LineWhy) (lower upper : List ℕ) → (r >>= λ s. saying_meaning t plan wired late time s) ≡ Ok (wire lower upper) → r ≡ Ok (ties lower upper)
  wire-said late time (Err w) lower upper h = cc
  wire-said true time (Ok (ties l u)) lower upper h = cc
  wire-said false time (Ok (ties l u)) lower upper h =
      let same : wire l u ≡ wire lower upper = inside (wire l u) (wire lower upper) h in
      let one : l ≡ lower = cc in
      let other : u ≡ upper = cc in
      said-same l u lower upper one other
  wire-said late time (Ok (ticks number)) lower upper h = go (tick_of time number) h
    where
      go : (r : Result ℕ LineWhy) → (r >>= λ n. Ok (tick n)) ≡ Ok (wire lower upper) → ◌≡◌ {A = Result Saying LineWhy} (Ok (ticks number)) (Ok (ties lower upper))
      go (Ok n) g = cc
      go (Err w) g = cc
  wire-said late time (Ok (arrives verb end name rest)) lower upper h = go (arrival_told t plan wired verb end name rest) h
    where
      go : (r : Result Told LineWhy) → (r >>= λ x. Ok (comes x)) ≡ Ok (wire lower upper) → ◌≡◌ {A = Result Saying LineWhy} (Ok (arrives verb end name rest)) (Ok (ties lower upper))
      go (Ok x) g = cc
      go (Err w) g = cc

  -- a line that means a tick ends in time
  pub tick-said : (late : Bool) (time : ℕ) (r : Result Saying LineWhy) (n : ℕ) → (r >>= λ s. saying_meaning t plan wired late time s) ≡ Ok (tick n) → time + n < 2 ^ 63
  tick-said late time (Err w) n h = cc
  tick-said true time (Ok (ties l u)) n h = cc
  tick-said false time (Ok (ties l u)) n h = cc
  tick-said late time (Ok (ticks number)) n h = go (tick_of time number) refl h
    where
      go : (r : Result ℕ LineWhy) → tick_of time number ≡ r → (r >>= λ k. Ok (tick k)) ≡ Ok (tick n) → time + n < 2 ^ 63
      go (Ok k) is g = let same : k ≡ n = (let inner = inside (tick k) (tick n) g in cc) in ticks-in-time time number n (is ∙ ap Ok same)
      go (Err w) is g = cc
  tick-said late time (Ok (arrives verb end name rest)) n h = go (arrival_told t plan wired verb end name rest) h
    where
      go : (r : Result Told LineWhy) → (r >>= λ x. Ok (comes x)) ≡ Ok (tick n) → time + n < 2 ^ 63
      go (Ok x) g = cc
      go (Err w) g = cc

  -- a line by which something comes
  pub coming-said : (late : Bool) (time : ℕ) (r : Result Saying LineWhy) (x : Told) → (r >>= λ s. saying_meaning t plan wired late time s) ≡ Ok (comes x)
      → (end : List ℕ) × (e : End) × (end_named plan end ≡ Some e) × (wired end ≡ false) × Fitting t plan e x
  coming-said late time (Err w) x h = cc
  coming-said true time (Ok (ties l u)) x h = cc
  coming-said false time (Ok (ties l u)) x h = cc
  coming-said late time (Ok (ticks number)) x h = absurd (go (tick_of time number) h)
    where
      go : (r : Result ℕ LineWhy) → (r >>= λ k. Ok (tick k)) ≡ Ok (comes x) → ⊥
      go (Ok k) g = cc
      go (Err w) g = cc
  coming-said late time (Ok (arrives verb end name rest)) x h = let f = arrival-fits verb end name rest x (go (arrival_told t plan wired verb end name rest) h) in (end, f.0, f.1, f.2, f.3)
    where
      go : (r : Result Told LineWhy) → (r >>= λ y. Ok (comes y)) ≡ Ok (comes x) → r ≡ Ok x
      go (Ok y) g = let same : y ≡ x = (let inner = inside (comes y) (comes x) g in cc) in ap Ok same
      go (Err w) g = cc

  at-line : (n : ℕ) (r : Result Meaning LineWhy) (m : Meaning) → at_line n r ≡ Ok m → r ≡ Ok m
  at-line n (Ok x) m h = let same : x ≡ m = inside x m h in ap Ok same
  at-line n (Err w) m h = cc

  -- ---- lines

  -- the first line's meaning, and those of the lines behind it
  record Parted (before : List (List ℕ)) (line : Numbered) (ls : List Numbered) (ms : List (ℕ × Meaning)) : Type 0 where
    pub m : Meaning
    pub more : List (ℕ × Meaning)
    pub means : meaning t plan wired before line.1 ≡ Ok m
    pub behind : meanings t plan wired (before ++ line.1 ∷ []) ls ≡ Ok more
    pub all : (line.0, m) ∷ more ≡ ms

  parted : (before : List (List ℕ)) (line : Numbered) (ls : List Numbered) (ms : List (ℕ × Meaning)) → meanings t plan wired before (line ∷ ls) ≡ Ok ms → Parted before line ls ms
  parted before line ls ms h =
      let one = bound (at_line line.0 (meaning t plan wired before line.1)) _ ms h in
      let two = bound (meanings t plan wired (before ++ line.1 ∷ []) ls) _ ms one.2 in
      record { m = one.0; more = two.0; means = at-line line.0 (meaning t plan wired before line.1) one.0 one.1; behind = two.1; all = inside ((line.0, one.0) ∷ two.0) ms two.2 }

  -- a text among those of wire lines is wired
  abbrev Wires : List (List ℕ) → Type 0
  Wires texts = (q : List ℕ) → list_any (same q) texts ≡ true → wired q ≡ true

  abbrev tied_lines : List Numbered → List (List ℕ)
  tied_lines ls = flat_map (λ (line : Numbered). tied (form line.1)) ls

  wires-behind : (xs ys : List (List ℕ)) → Wires (xs ++ ys) → Wires ys
  wires-behind xs ys all q h = all q (list_any-append (same q) xs ys ∙ ap (λ b. list_any (same q) xs || b) h ∙ any (list_any (same q) xs))
    where
      any : (b : Bool) → (b || true) ≡ true
      any true = refl
      any false = refl

  wires-here : (xs ys : List (List ℕ)) → Wires (xs ++ ys) → Wires xs
  wires-here xs ys all q h = all q (list_any-append (same q) xs ys ∙ ap (λ b. b || list_any (same q) ys) h)

  same-text : (q : List ℕ) → same q q ≡ true
  same-text q = (bytes_eq-Decides q q).1 refl

  -- the ends of all wires stand in wire lines
  covers : (before : List (List ℕ)) (ls : List Numbered) (ms : List (ℕ × Meaning)) → Wires (tied_lines ls) → meanings t plan wired before ls ≡ Ok ms → Cover wired (wires_of ms)
  covers before [] ms all h = let none : [] ≡ ms = inside [] ms h in subst (λ xs. Cover wired (wires_of xs)) none tt
  covers before (line ∷ ls) ms all h =
      let s = parted before line ls ms h in
      subst (λ xs. Cover wired (wires_of xs)) s.all (go s.m s.means s.more (covers (before ++ line.1 ∷ []) ls s.more (wires-behind (tied (form line.1)) (tied_lines ls) all) s.behind))
    where
      go : (m : Meaning) → meaning t plan wired before line.1 ≡ Ok m → (more : List (ℕ × Meaning)) → Cover wired (wires_of more) → Cover wired (wires_of ((line.0, m) ∷ more))
      go (wire lower upper) means more rest =
          let said : form line.1 ≡ Ok (ties lower upper) = wire-said (begun before) (time_of before) (form line.1) lower upper (sym (from-start t plan wired before line.1) ∙ means) in
          let here : Wires (lower ∷ upper ∷ []) = subst (λ r. Wires (tied r)) said (wires-here (tied (form line.1)) (tied_lines ls) all) in
          ((here lower (rw (same-text lower) refl), here upper (second lower upper)), rest)
        where
          second : (lower upper : List ℕ) → list_any (same upper) (lower ∷ upper ∷ []) ≡ true
          second lower upper = pick (same upper lower) (same upper upper) (same-text upper)
            where
              pick : (a b : Bool) → b ≡ true → (a || (b || false)) ≡ true
              pick true b h = refl
              pick false true h = refl
              pick false false h = h
      go (tick n) means more rest = rest
      go (comes x) means more rest = rest

  -- what lines have happen may happen, over wires that are covered
  happens : (wires : List Wire) → Cover wired wires → (before : List (List ℕ)) (ls : List Numbered) (ms : List (ℕ × Meaning)) → meanings t plan wired before ls ≡ Ok ms
      → MayAllHappen t plan wires (time_of before) (happenings_of ms)
  happens wires covered before [] ms h = let none : [] ≡ ms = inside [] ms h in subst (λ xs. MayAllHappen t plan wires (time_of before) (happenings_of xs)) none tt
  happens wires covered before (line ∷ ls) ms h =
      let s = parted before line ls ms h in
      let agree = says t plan wired (begun before) (time_of before) (form line.1) s.m (sym (from-start t plan wired before line.1) ∙ s.means) in
      let later : time_of (before ++ line.1 ∷ []) ≡ time_of before + ticks_by s.m = time-more before line.1 ∙ ap (λ n. time_of before + n) agree.1 in
      subst (λ xs. MayAllHappen t plan wires (time_of before) (happenings_of xs)) s.all
      (go s.m s.means s.more (subst (λ n. MayAllHappen t plan wires n (happenings_of s.more)) later (happens wires covered (before ++ line.1 ∷ []) ls s.more s.behind)))
    where
      go : (m : Meaning) → meaning t plan wired before line.1 ≡ Ok m → (more : List (ℕ × Meaning)) → MayAllHappen t plan wires (time_of before + ticks_by m) (happenings_of more)
          → MayAllHappen t plan wires (time_of before) (happenings_of ((line.0, m) ∷ more))
      go (wire lower upper) means more rest = subst (λ n. MayAllHappen t plan wires n (happenings_of more)) (omega arith) rest
      go (tick n) means more rest = (tick-said (begun before) (time_of before) (form line.1) n (sym (from-start t plan wired before line.1) ∙ means), rest)
      go (comes x) means more rest =
          let c = coming-said (begun before) (time_of before) (form line.1) x (sym (from-start t plan wired before line.1) ∙ means) in
          let f = fitting-happens wires (time_of before) c.1 x c.4 (free plan wired wires c.0 c.1 c.2 c.3 covered) in
          (f.0, subst (λ n. MayAllHappen t plan wires n (happenings_of more)) (ap (λ n. time_of before + n) (sym f.1)) rest)

-- ---- scripts

pub scripts_may_run : ScriptsMayRun
unfolding script_lines
scripts_may_run t plan octets p rules known h =
    let ls = script_lines octets in
    let wired = wired_in ls in
    let one = bound (meanings t plan wired [] ls) _ p h in
    let ms : List (ℕ × Meaning) = one.0 in
    let same : plot_of ms ≡ p = inside (plot_of ms) p one.2 in
    let covered = covers t rules plan known wired [] ls ms (λ q found. found) one.1 in
    record {
      rest = happenings_of ms;
      lines = ap (λ (x : Plot). x.lines) (sym same);
      happen = subst (λ ws. MayAllHappen t plan ws 0 (happenings_of ms)) (ap (λ (x : Plot). x.wires) same) (happens t rules plan known wired (wires_of ms) covered [] ls ms one.1);
    }
