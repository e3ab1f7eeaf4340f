-- Rows that keep the rules on types keep them with the constraints of their containers, where nothing breaks a rule on constraints.
use Rattle.std.proofs.Common.{◌≡◌, ℕ, zero, suc, ◌+◌, ◌<◌, ◌≤◌, ℤ, Bool, List, [], ◌∷◌, map, length, Option, Some, None, refl, sym, ap, subst, ◌∙◌, arith}
use Rattle.std.specs.Prelude.{option_map, slice_get}
use Rattle.std.specs.List.{AllByRecursion, filter_map, flat_map}
use Rattle.std.proofs.lemmas.Option.{slice_get_within}
use Rattle.eds_base.specs.Reading.{◌>>=◌}
use Rattle.eds_base.specs.declared.ids.TypeId.{TypeId}
use Rattle.eds_base.specs.declared.spans.Span.{Span}
use Rattle.eds_base.specs.Spans.{IsWithin}
use Rattle.eds_bits.specs.Lists.{Has}
use Rattle.eds_types.specs.declared.row.Constraint.{Constraint}
use Rattle.eds_types.specs.declared.row.Kind.{Kind}
use Rattle.eds_types.specs.declared.row.Kind.TheVariants as kind
use Rattle.eds_types.specs.declared.row.TypeRow.{TypeRow}
use Rattle.eds_types.specs.Domains.{InDomain, InDomainOfType}
use Rattle.eds_types.specs.Fields.{type_by, type_on, StartsInEntries, constraints_along}
use Rattle.eds_types.specs.Overlap.{IsSolution}
use Rattle.eds_types.specs.Rows.{Table, base_in, base_of, container_in, constraints_in, constraints_of, chain, Placed, own_parts}
use Rattle.eds_types.specs.Rules.{AreDistinct, IsHollow, HasKind, KindKeeps, DerivesFrom, IsNested, ItemsNest, PartKeeps, SequenceKeeps, Follows, TargetKeeps, ConstraintKeeps, KeepsRules}
use Rattle.eds_types.proofs.AllOf.{All-weaker, All-unflat, All-flat, All-has, All-at}
use Rattle.eds_types.proofs.ChainLaws.{itself_in}
use Rattle.eds_types.proofs.RuleFacts.{table_of}
use Rattle.eds_constraints.specs.declared.asked.Aim.{Aim}
use Rattle.eds_constraints.specs.declared.asked.Asked.{Asked}
use Rattle.eds_constraints.specs.Breaks.{Lists, Posed, aim_at, admitted, posed_by, posed_of, asked_of, breaks_target, breaks_value, breaks_empty}
use Rattle.eds_constraints.specs.ConstrainedRows.{is_on_kind, constraint_by, constraint_of, constraints_for, kind_with, row_with, rows_with, constrained}
use Rattle.eds_constraints.specs.Laws.{ConstraintsKeepRules}
use Rattle.eds_constraints.specs.Sets.{set_of}
use Rattle.eds_constraints.proofs.AdmittedFacts.{set_speaks, set_in_domain}
use Rattle.eds_constraints.proofs.AimFacts.{Leads, aim_leads, one_text, name_at}
use Rattle.eds_constraints.proofs.AlikeTables.{Alike, kind_kept, derives_kept, same_base, same_chain, same_derived, same_own_parts, same_sequence, same_type_on, container_before, hollow_before, nested_then, items_then, part_then, starts_then, follows_then, target_then, domain_then}
use Rattle.eds_constraints.proofs.LeftSome.{AdmitsIt, AdmitsOn, IsAimed, all_aimed, chain_leaves}

-- ---- the rows

rows_size : (t : Table) (lists : Lists) (n : ℕ) (rows : List TypeRow) → length rows ≡ length (rows_with t lists n rows)
rows_size t lists n [] = refl
rows_size t lists n (row ∷ rows) = ap suc (rows_size t lists (n + 1) rows)

rows_named : (t : Table) (lists : Lists) (n : ℕ) (rows : List TypeRow) → map (λ (row : TypeRow). row.name) rows ≡ map (λ (row : TypeRow). row.name) (rows_with t lists n rows)
rows_named t lists n [] = refl
rows_named t lists n (row ∷ rows) = ap (λ names. row.name ∷ names) (rows_named t lists (n + 1) rows)

row_at : (t : Table) (lists : Lists) (n : ℕ) (rows : List TypeRow) (id : ℕ) (k : ℕ) → n + id ≡ k → slice_get (rows_with t lists n rows) id ≡ option_map (row_with (constraints_for t lists k)) (slice_get rows id)
row_at t lists n [] id k e = refl
row_at t lists n (row ∷ rows) zero k e = let f : n ≡ k = omega arith in ap (λ m. Some (row_with (constraints_for t lists m) row)) f
row_at t lists n (row ∷ rows) (suc id) k e = row_at t lists (n + 1) rows id k (omega arith)

here : (t : Table) (lists : Lists) (id : ℕ) → slice_get (constrained t lists) id ≡ option_map (row_with (constraints_for t lists id)) (slice_get t id)
here t lists id = row_at t lists 0 t id id (omega arith)

alike : (t : Table) (lists : Lists) → Alike t (constrained t lists)
alike t lists = record { size = rows_size t lists 0 t; rows = λ id. (constraints_for t lists id, here t lists id) }

-- what has a spelling of no bits with constraints has one without
pub hollow_kept : (t : Table) (lists : Lists) (id : ℕ) → IsHollow (constrained t lists) id → IsHollow t id
hollow_kept t lists id h = hollow_before t (constrained t lists) (alike t lists) id h

-- what holds of no constraint and of those that are put in, holds of those of the row
of_kind : (P : List Constraint → Type 0) (cs : List Constraint) → P [] → P cs → (name : List ℕ) (base : Option TypeId) (k : Kind) → P (constraints_in (container_in (Some (record { name = name; base = base; kind = kind_with cs k }))))
of_kind P cs n h name base (kind.Int form spans) = n
of_kind P cs n h name base (kind.Enum form listing) = n
of_kind P cs n h name base (kind.Bool form) = n
of_kind P cs n h name base (kind.Str form) = n
of_kind P cs n h name base (kind.Bin m free) = n
of_kind P cs n h name base (kind.Arr item m) = n
of_kind P cs n h name base (kind.Con c) = h

of_row : (P : List Constraint → Type 0) (cs : List Constraint) → P [] → P cs → (o : Option TypeRow) → P (constraints_in (container_in (option_map (row_with cs) o)))
of_row P cs n h None = n
of_row P cs n h (Some row) = of_kind P cs n h row.name row.base row.kind

own : (P : List Constraint → Type 0) (t : Table) (lists : Lists) (k : ℕ) → P [] → P (constraints_for t lists k) → P (constraints_of (constrained t lists) k)
own P t lists k n h = subst (λ o. P (constraints_in (container_in o))) (sym (here t lists k)) (of_row P (constraints_for t lists k) n h (slice_get t k))

-- ---- one constraint

-- a constraint as a row holds it, with where it leads and what it admits
record IsHeld (t : Table) (p : Posed) (c : Constraint) : Type 0 where
  aim : Aim
  set : List Span
  aimed : aim_at t p ≡ Some aim
  set_is : set_of t aim.target.0 p.asked.test ≡ Some set
  is : c ≡ record { path = aim.path; set = set; on_kind = is_on_kind p.asked.test }

held : (t : Table) (p : Posed) (c : Constraint) → constraint_of t p ≡ Some c → IsHeld t p c
held t p c e = go (aim_at t p) refl e
  where
    go : (o : Option Aim) → aim_at t p ≡ o → (o >>= λ aim. constraint_by p.asked.test aim (set_of t aim.target.0 p.asked.test)) ≡ Some c → IsHeld t p c
    go None f h = absurd cc
    go (Some aim) f h = by (set_of t aim.target.0 p.asked.test) refl h
      where
        by : (s : Option (List Span)) → set_of t aim.target.0 p.asked.test ≡ s → constraint_by p.asked.test aim s ≡ Some c → IsHeld t p c
        by None g h = absurd cc
        by (Some set) g h = let q : record { path = aim.path; set = set; on_kind = is_on_kind p.asked.test } ≡ c = cc in record { aim = aim; set = set; aimed = f; set_is = g; is = sym q }

held_admits : (t : Table) (p : Posed) (c : Constraint) (h : IsHeld t p c) → admitted t p ≡ Some h.set
held_admits t p c h = ap (λ o. o >>= λ aim. set_of t aim.target.0 p.asked.test) h.aimed ∙ h.set_is

-- what is admitted by a constraint lies in the set that the row holds
held_within : (t : Table) (p : Posed) (c : Constraint) (n : ℤ) → IsHeld t p c → AdmitsIt t n p → IsWithin c.set n
held_within t p c n h a =
    let f : Some h.set ≡ Some a.0 = sym (held_admits t p c h) ∙ a.1 in
    let q : h.set ≡ a.0 = cc in
    subst (λ s. IsWithin s n) (sym (ap (λ (c : Constraint). c.set) h.is ∙ q)) a.2

leads_of : (t : Table) (p : Posed) (c : Constraint) (h : IsHeld t p c) → Leads t p.base p.asked h.aim
leads_of t p c h = aim_leads t p.base p.asked h.aim h.aimed

-- constraints on one path of steps have one path of names
one_path : (t : Table) (p q : Posed) (c d : Constraint) → IsHeld t p c → IsHeld t q d → c.path ≡ d.path → p.asked.path ≡ q.asked.path
one_path t p q c d h i e =
    let f = (leads_of t p c h).path in
    let g = (leads_of t q d i).path in
    one_text p.asked.path q.asked.path (f.named ∙ ap (map (name_at t)) (sym (ap (λ (c : Constraint). c.path) h.is) ∙ e ∙ ap (λ (c : Constraint). c.path) i.is) ∙ sym g.named)

-- ---- those of a container

filtered : {X Y : Type 0} (f : X → Option Y) (P : X → Type 0) (Q : Y → Type 0) → ((x : X) (y : Y) → f x ≡ Some y → P x → Q y) → (xs : List X) → AllByRecursion P xs → AllByRecursion Q (filter_map f xs)
filtered f P Q g [] h = tt
filtered f P Q g (x ∷ xs) h = go (f x) refl (filtered f P Q g xs h.1)
  where
    go : (o : Option _) → f x ≡ o → AllByRecursion Q (filter_map f xs) → AllByRecursion Q (filter_map f (x ∷ xs))
    go None e more = rw e more
    go (Some y) e more = rw e (g x y e h.0, more)

module _ (t : Table) (lists : Lists) (keeps : KeepsRules t) (target : breaks_target t lists ≡ []) (value : breaks_value t lists ≡ []) (empty : breaks_empty t lists ≡ []) where
  -- a number that all constraints of the chain on the path of one of them admit, is in the sets of the rows
  all_within : (k : ℕ) (p : Posed) (c : Constraint) (n : ℤ) → IsHeld t p c → AllByRecursion (AdmitsOn t p.asked.path n) (flat_map (posed_of t lists) (chain t k)) → AllByRecursion (λ (d : Constraint). d.path ≡ c.path → IsWithin d.set n) (constraints_along (constrained t lists) k)
  all_within k p c n h all =
      subst (λ ys. AllByRecursion (λ (d : Constraint). d.path ≡ c.path → IsWithin d.set n) (flat_map (constraints_of (constrained t lists)) ys)) (sym (same_chain t (constrained t lists) (alike t lists) k))
      (All-flat (λ (d : Constraint). d.path ≡ c.path → IsWithin d.set n) (λ y. AllByRecursion (AdmitsOn t p.asked.path n) (posed_of t lists y)) (constraints_of (constrained t lists)) of (chain t k) (All-unflat (AdmitsOn t p.asked.path n) (posed_of t lists) (chain t k) all))
    where
      one : (q : Posed) (d : Constraint) → constraint_of t q ≡ Some d → AdmitsOn t p.asked.path n q → d.path ≡ c.path → IsWithin d.set n
      one q d e a f = let i = held t q d e in held_within t q d n i (a (one_path t q p d c i h f))

      of : (y : ℕ) → AllByRecursion (AdmitsOn t p.asked.path n) (posed_of t lists y) → AllByRecursion (λ (d : Constraint). d.path ≡ c.path → IsWithin d.set n) (constraints_of (constrained t lists) y)
      of y a = own (AllByRecursion (λ (d : Constraint). d.path ≡ c.path → IsWithin d.set n)) t lists y tt (filtered (constraint_of t) (AdmitsOn t p.asked.path n) (λ (d : Constraint). d.path ≡ c.path → IsWithin d.set n) one (posed_of t lists y) a)

  solution : (k : ℕ) (p : Posed) (c : Constraint) → k < length t → Has (posed_of t lists k) p → IsHeld t p c → (n : ℤ) × IsSolution (constrained t lists) (constraints_along (constrained t lists) k) c.path n
  solution k p c lt there h =
      let l = chain_leaves t lists target value empty keeps k lt p.asked.path in
      let n = l.some.0 in
      let all = l.all n l.some.1 in
      let own_ones = All-at (λ y. AllByRecursion (AdmitsOn t p.asked.path n) (posed_of t lists y)) (chain t k) k (itself_in t (table_of t keeps) k) (All-unflat (AdmitsOn t p.asked.path n) (posed_of t lists) (chain t k) all) in
      let mine = All-at (AdmitsOn t p.asked.path n) (posed_of t lists k) p there own_ones refl in
      let within : IsWithin h.set n = subst (λ s. IsWithin s n) (ap (λ (c : Constraint). c.set) h.is) (held_within t p c n h mine) in
      let leads = leads_of t p c h in
      let in_row = set_in_domain t keeps.few (table_of t keeps) h.aim.target.0 p.asked.test h.set n leads.suits h.set_is within in (
        n,
        record {
          domain = domain_then t (constrained t lists) (alike t lists) c.path n (subst (λ path. InDomain t path n) (sym (ap (λ (c : Constraint). c.path) h.is)) (subst (λ o. InDomainOfType t o n) (sym leads.on) in_row));
          constraints = all_within k p c n h all;
        },
      )

  keeps_one : (k base : ℕ) → k < length t → base_of t k ≡ Some base → (p : Posed) (c : Constraint) → constraint_of t p ≡ Some c → Has (posed_of t lists k) p × (p.base ≡ base_of t k) → ConstraintKeeps (constrained t lists) base k c
  keeps_one k base lt e p c is there =
      let h = held t p c is in
      let leads = leads_of t p c h in
      let f : Some leads.above ≡ Some base = sym leads.base_is ∙ there.1 ∙ e in
      let q : leads.above ≡ base = cc in
      let path : h.aim.path ≡ c.path = sym (ap (λ (c : Constraint). c.path) h.is) in
      let u = constrained t lists in
      let a = alike t lists in
      record {
        starts = subst (λ b. StartsInEntries u b c.path) q (subst (StartsInEntries u leads.above) path (starts_then t u a leads.above h.aim.path leads.path.starts));
        follows = subst (Follows u) path (follows_then t u a h.aim.path leads.path.follows);
        target = h.aim.target.0;
        leads = ap (type_on u) (sym path) ∙ same_type_on t u a h.aim.path ∙ leads.on;
        speaks = subst (λ (d : Constraint). TargetKeeps u h.aim.target.0 d.on_kind d.set) (sym h.is) (target_then t u a h.aim.target.0 (is_on_kind p.asked.test) h.set (set_speaks t keeps.few h.aim.target.0 p.asked.test h.set leads.suits h.set_is));
        can_hold = solution k p c lt there.0 h;
      }

  posed_there : (k : ℕ) → AllByRecursion (λ (p : Posed). Has (posed_of t lists k) p × (p.base ≡ base_of t k)) (posed_of t lists k)
  posed_there k = both (posed_of t lists k) (All-has [] (posed_of t lists k)) (based (asked_of lists k))
    where
      based : (asked : List Asked) → AllByRecursion (λ (p : Posed). p.base ≡ base_of t k) (map (posed_by (base_of t k)) asked)
      based [] = tt
      based (one ∷ asked) = (refl, based asked)

      both : (ps : List Posed) → AllByRecursion (Has (posed_of t lists k)) ps → AllByRecursion (λ (p : Posed). p.base ≡ base_of t k) ps → AllByRecursion (λ (p : Posed). Has (posed_of t lists k) p × (p.base ≡ base_of t k)) ps
      both [] a b = tt
      both (p ∷ ps) a b = ((a.0, b.0), both ps a.1 b.1)

  there_of : (k base : ℕ) → base_of t k ≡ Some base → k < length t
  there_of k base e = go (slice_get t k) refl e
    where
      go : (o : Option TypeRow) → slice_get t k ≡ o → base_in o ≡ Some base → k < length t
      go None f h = absurd cc
      go (Some row) f h = slice_get_within t k row f

  keeps_all : (k base : ℕ) → base_of (constrained t lists) k ≡ Some base → AllByRecursion (ConstraintKeeps (constrained t lists) base k) (constraints_of (constrained t lists) k)
  keeps_all k base e =
      let f : base_of t k ≡ Some base = sym (same_base t (constrained t lists) (alike t lists) k) ∙ e in
      own (AllByRecursion (ConstraintKeeps (constrained t lists) base k)) t lists k tt (filtered (constraint_of t) (λ (p : Posed). Has (posed_of t lists k) p × (p.base ≡ base_of t k)) (ConstraintKeeps (constrained t lists) base k) (keeps_one k base (there_of k base f) f) (posed_of t lists k) (posed_there k))

  -- ---- a container without a base

  no_aim : (asked : List Asked) → AllByRecursion (IsAimed t) (map (posed_by None) asked) → map (posed_by None) asked ≡ []
  no_aim [] h = refl
  no_aim (one ∷ asked) h = absurd (let p = h.0 in let f : None ≡ Some p.0 = p.1 in cc)

  root_has_none : (k : ℕ) → base_of (constrained t lists) k ≡ None → constraints_of (constrained t lists) k ≡ []
  root_has_none k e = go (slice_get t k) refl
    where
      f : base_of t k ≡ None
      f = sym (same_base t (constrained t lists) (alike t lists) k) ∙ e

      go : (o : Option TypeRow) → slice_get t k ≡ o → constraints_of (constrained t lists) k ≡ []
      go None g = ap (λ o. constraints_in (container_in o)) (here t lists k ∙ ap (option_map (row_with (constraints_for t lists k))) g)
      go (Some row) g =
          let none : posed_of t lists k ≡ [] = ap (λ b. map (posed_by b) (asked_of lists k)) f ∙ no_aim (asked_of lists k) (subst (λ b. AllByRecursion (IsAimed t) (map (posed_by b) (asked_of lists k))) f (all_aimed t lists target k (slice_get_within t k row g))) in
          own (λ cs. cs ≡ []) t lists k refl (ap (filter_map (constraint_of t)) none)

  -- ---- all rules

  row_there : (P : TypeRow → Type 0) (id : ℕ) (row : TypeRow) → slice_get (constrained t lists) id ≡ Some row → ((old : TypeRow) → slice_get t id ≡ Some old → P (row_with (constraints_for t lists id) old)) → P row
  row_there P id row e g = go (slice_get t id) refl
    where
      go : (o : Option TypeRow) → slice_get t id ≡ o → P row
      go None f = absurd (let h : None ≡ Some row = sym (here t lists id ∙ ap (option_map (row_with (constraints_for t lists id))) f) ∙ e in cc)
      go (Some old) f =
          let h : Some (row_with (constraints_for t lists id) old) ≡ Some row = sym (here t lists id ∙ ap (option_map (row_with (constraints_for t lists id))) f) ∙ e in
          let q : row_with (constraints_for t lists id) old ≡ row = cc in
          subst P q (g old f)

  pub constrained_keeps : KeepsRules (constrained t lists)
  constrained_keeps =
      let u = constrained t lists in
      let a = alike t lists in
      record {
        few = subst (λ n. n ≤ 4096) a.size keeps.few;
        names = subst AreDistinct (rows_named t lists 0 t) keeps.names;
        kinds = λ id row e. row_there (λ r. KindKeeps r.kind) id row e (λ old f. kind_kept KindKeeps (λ c cs h. h) (constraints_for t lists id) old.kind (keeps.kinds id old f));
        bases = λ id base row e b. row_there (λ r. HasKind u base (DerivesFrom r.kind)) id row e (λ old f. derived_of id base old (keeps.bases id base old f (sym (same_base t u a id) ∙ b)));
        level = keeps.level;
        chains = keeps.chains;
        base_level = λ id base e. keeps.base_level id base (sym (same_base t u a id) ∙ e);
        family = λ id c. subst (λ ks. length ks ≤ 512) (sym (same_derived t u a id)) (keeps.family id (container_before t u a id c));
        rank = keeps.rank;
        nesting = keeps.nesting;
        base_rank = λ id base e. keeps.base_rank id base (sym (same_base t u a id) ∙ e);
        parts_nest = λ y. subst (AllByRecursion (λ (p : Placed). (id : ℕ) → type_by (Some p.part) ≡ Some id → IsNested u keeps.rank y id)) (sym (same_own_parts t u a y)) (All-weaker (λ (p : Placed). (id : ℕ) → type_by (Some p.part) ≡ Some id → IsNested t keeps.rank y id) (λ (p : Placed). (id : ℕ) → type_by (Some p.part) ≡ Some id → IsNested u keeps.rank y id) (λ p h id e. nested_then t u a keeps.rank y id (h id e)) (own_parts t y) (keeps.parts_nest y));
        items_nest = λ id row e. row_there (λ r. ItemsNest u keeps.rank id r.kind) id row e (λ old f. items_then t u a keeps.rank id (constraints_for t lists id) old.kind (keeps.items_nest id old f));
        parts = λ y. subst (AllByRecursion (λ (p : Placed). PartKeeps u p p.part)) (sym (same_own_parts t u a y)) (All-weaker (λ (p : Placed). PartKeeps t p p.part) (λ (p : Placed). PartKeeps u p p.part) (λ p h. part_then t u a p p.part h) (own_parts t y) (keeps.parts y));
        sequences = λ k. subst SequenceKeeps (sym (same_sequence t u a k)) (keeps.sequences k);
        root_constraints = root_has_none;
        constraints = keeps_all;
      }
    where
      derived_of : (id base : ℕ) (old : TypeRow) → HasKind t base (DerivesFrom old.kind) → HasKind (constrained t lists) base (DerivesFrom (kind_with (constraints_for t lists id) old.kind))
      derived_of id base old h = (row_with (constraints_for t lists base) h.0, here t lists base ∙ ap (option_map (row_with (constraints_for t lists base))) h.1, derives_kept (constraints_for t lists id) (constraints_for t lists base) old.kind (h.0).kind h.2)

pub constraints_keep_rules : ConstraintsKeepRules
constraints_keep_rules t lists keeps target value empty = constrained_keeps t lists keeps target value empty
