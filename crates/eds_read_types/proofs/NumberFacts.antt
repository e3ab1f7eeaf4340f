-- The domains of integer types and sub-ranges in a sheet that breaks no rule on bases and scalar types.
use Rattle.std.proofs.Common.{◌≡◌, ℕ, zero, suc, ◌<◌, ◌≤◌, Bool, true, false, ◌&&◌, List, [], ◌∷◌, length, slice_get, Option, Some, None, refl, sym, ap, subst, ◌∙◌, arith}
use Rattle.std.specs.Prelude.{not, if◌then◌else◌}
use Rattle.std.specs.List.{list_any}
use Rattle.std.proofs.lemmas.Option.{slice_get-map}
use Rattle.eds_base.specs.declared.ids.Place.{Place}
use Rattle.eds_base.specs.declared.ids.TypeId.{TypeId}
use Rattle.eds_base.specs.declared.spans.Span.{Span}
use Rattle.eds_base.specs.declared.rule.Rule.TheVariants.{BadEncoding}
use Rattle.eds_bits.specs.declared.forms.IntForm.{IntForm}
use Rattle.eds_tree.specs.declared.tree.Node.{Node}
use Rattle.eds_names.specs.LookUp.{Names}
use Rattle.eds_types.specs.Rules.{IsDomain, IsSubRange}
use Rattle.eds_type_rows.specs.declared.numbers.FormAndDomain.{FormAndDomain}
use Rattle.eds_type_rows.specs.Places.{type_places, is_sub_range, is_container}
use Rattle.eds_type_rows.specs.Forms.{int_form_of}
use Rattle.eds_domains.specs.Ranges.{no_range}
use Rattle.eds_type_rows.specs.Ranges.{range_of}
use Rattle.eds_domains.specs.Domains.{has_none}
use Rattle.eds_type_rows.specs.Bases.{base_found, bases_of, base_at, bases_within}
use Rattle.eds_type_rows.specs.Numbers.{wide_form, form_or_wide, numbers_with, all_numbers, own_numbers_in, own_numbers_at, range_at, narrowed_numbers, numbers_by, numbers_within, numbers_of}
use Rattle.eds_type_rows.specs.ScalarKinds.{is_integer}
use Rattle.eds_read_types.specs.Breaks.{breaks_in, breaks_at, breaks_each}
use Rattle.eds_type_rows.specs.LackingForms.{lacks_form, lacks_form_in, lacks_form_at}
use Rattle.eds_read_types.specs.BadEncoding.{encoding_breaks}
use Rattle.eds_read_types.specs.EmptyRange.{range_breaks, is_empty_type, is_faulty, is_empty_by_itself, sub_range_at, breaks_sub_range}
use Rattle.eds_read_types.proofs.LawFacts.{none_broken, domain_kept, narrowed_kept, narrowed_derives, integer_unbroken}
use Rattle.eds_read_types.proofs.ChainFacts.{over-none, each-none, unmet, no_bases, bases_none, bases_step, level, less_bases}

-- the type of a number has a domain
abbrev pub HasNumbers : FormAndDomain → Type 0
HasNumbers numbers = IsDomain numbers.form numbers.spans

pub all_domain : HasNumbers all_numbers
all_domain = domain_kept wide_form no_range refl

some_numbers : (form : IntForm) (spans : List Span) → IsDomain form spans → has_none spans ≡ false
some_numbers form [] d = absurd d.some.1
some_numbers form (s ∷ spans) d = refl

-- ---- numbers over bases

module _ (trees : List (List Node)) (places : List Place) (bases : List (Option TypeId)) where
  pub own_within : (n id : ℕ) → base_at bases id ≡ None → numbers_within n trees places bases id ≡ own_numbers_at trees (slice_get places id)
  unfolding numbers_within
  own_within zero id e = refl
  own_within (suc n) id e = ap (numbers_by (numbers_within n trees places bases) (range_at trees (slice_get places id)) (own_numbers_at trees (slice_get places id))) e

  narrowed_within : (n id : ℕ) (base : TypeId) → base_at bases id ≡ Some base → numbers_within (suc n) trees places bases id ≡ narrowed_numbers (range_at trees (slice_get places id)) (numbers_within n trees places bases base.0)
  unfolding numbers_within
  narrowed_within n id base e = ap (numbers_by (numbers_within n trees places bases) (range_at trees (slice_get places id)) (own_numbers_at trees (slice_get places id))) e

  -- the number of steps doesn't matter, where there are enough
  numbers_stay : (n id : ℕ) → length (bases_within n bases id) < n → numbers_within (suc n) trees places bases id ≡ numbers_within n trees places bases id
  numbers_stay zero id h = absurd (omega arith)
  numbers_stay (suc n) id h = go (numbers_stay n) (base_at bases id) refl
    where
      go : ((id : ℕ) → length (bases_within n bases id) < n → numbers_within (suc n) trees places bases id ≡ numbers_within n trees places bases id) → (o : Option TypeId) → base_at bases id ≡ o → numbers_within (suc (suc n)) trees places bases id ≡ numbers_within (suc n) trees places bases id
      go up None e = own_within (suc (suc n)) id e ∙ sym (own_within (suc n) id e)
      go up (Some base) e =
          let len = ap length (bases_step bases n id base e) in
          narrowed_within (suc n) id base e ∙ ap (narrowed_numbers (range_at trees (slice_get places id))) (up base.0 (omega (arith, len, h))) ∙ sym (narrowed_within n id base e)

  -- a type with a base has those of the base's numbers that its range admits
  pub numbers_step : (id : ℕ) (base : TypeId) → base_at bases id ≡ Some base → level bases id < 16 → numbers_of trees places bases id ≡ narrowed_numbers (range_at trees (slice_get places id)) (numbers_of trees places bases base.0)
  unfolding level
  numbers_step id base e few =
      let len = ap length (bases_step bases 15 id base e) in
      narrowed_within 15 id base e ∙ ap (narrowed_numbers (range_at trees (slice_get places id))) (sym (numbers_stay 15 base.0 (omega (arith, len, few))))

-- ---- in a sheet

module _ (trees : List (List Node)) (names : Names) where
  -- a type that is not there has no base
  pub known_bases : (id : ℕ) → slice_get (type_places names) id ≡ None → base_at (bases_of trees names) id ≡ None
  known_bases id e = rw (slice_get-map (base_found trees names) (type_places names) id, e) refl

  -- the base of a type that is there
  pub base_there : (id : ℕ) (at : Place) → slice_get (type_places names) id ≡ Some at → base_at (bases_of trees names) id ≡ base_found trees names at
  base_there id at e = rw (slice_get-map (base_found trees names) (type_places names) id, e) refl

  -- whatever has a base is a sub-range, or else a container
  pub base_is_sub : (at : Place) (base : TypeId) → base_found trees names at ≡ Some base → is_container trees at ≡ false → is_sub_range trees at ≡ true
  base_is_sub at base e other = go (is_sub_range trees at) refl
    where
      go : (b : Bool) → is_sub_range trees at ≡ b → is_sub_range trees at ≡ true
      go true q = q
      go false q = let no : None ≡ Some base = rw (q, other) at e in absurd cc

  -- the type of a number is no container
  abbrev pub IsNoContainer : ℕ → Type 0
  IsNoContainer id = (at : Place) → slice_get (type_places names) id ≡ Some at → is_container trees at ≡ false

  module _ (low : (id : ℕ) → level (bases_of trees names) id < 16) (encodings : breaks_each encoding_breaks trees names ≡ []) (ranges : breaks_each range_breaks trees names ≡ []) (subs : breaks_sub_range trees names ≡ []) (on_numbers : (id : ℕ) (base : TypeId) → base_at (bases_of trees names) id ≡ Some base → IsNoContainer id → IsNoContainer base.0) where
    less_levels : (id : ℕ) (base : TypeId) → base_at (bases_of trees names) id ≡ Some base → level (bases_of trees names) id ≡ suc (level (bases_of trees names) base.0)
    less_levels id base e = less_bases (bases_of trees names) low id base e

    has_form : (id : ℕ) → lacks_form_at trees (slice_get (type_places names) id) ≡ false
    has_form id = go (slice_get (type_places names) id) refl
      where
        in_tree : (at : Place) (o : Option (List Node)) → breaks_in encoding_breaks o at ≡ [] → lacks_form_in o at.node ≡ false
        in_tree at None h = refl
        in_tree at (Some t) h = none_broken (lacks_form t at.node) BadEncoding at h

        go : (o : Option Place) → slice_get (type_places names) id ≡ o → lacks_form_at trees o ≡ false
        go None e = refl
        go (Some at) e = in_tree at (slice_get trees at.file) (each-none (breaks_at encoding_breaks trees names) (type_places names) encodings id at e)

    own_domain : (id : ℕ) → HasNumbers (own_numbers_at trees (slice_get (type_places names) id))
    own_domain id = go (slice_get (type_places names) id) refl
      where
        of_type : (t : List Node) (at : Place) (b : Bool) → is_integer t at.node ≡ b → encoding_breaks t at ≡ [] → range_breaks t at ≡ [] → HasNumbers (if b then numbers_with (form_or_wide (int_form_of t at.node)) (range_of t at.node) else all_numbers)
        of_type t at true is enc ran = let d = integer_unbroken t at is enc ran in subst (λ form. HasNumbers (numbers_with (form_or_wide form) (range_of t at.node))) (sym d.form_is) d.is_domain
        of_type t at false is enc ran = all_domain

        in_tree : (at : Place) (o : Option (List Node)) → breaks_in encoding_breaks o at ≡ [] → breaks_in range_breaks o at ≡ [] → HasNumbers (own_numbers_in o at.node)
        in_tree at None h k = all_domain
        in_tree at (Some t) h k = of_type t at (is_integer t at.node) refl h k

        go : (o : Option Place) → slice_get (type_places names) id ≡ o → HasNumbers (own_numbers_at trees o)
        go None e = all_domain
        go (Some at) e = in_tree at (slice_get trees at.file) (each-none (breaks_at encoding_breaks trees names) (type_places names) encodings id at e) (each-none (breaks_at range_breaks trees names) (type_places names) ranges id at e)

    abbrev numbers_at : ℕ → FormAndDomain
    numbers_at id = numbers_of trees (type_places names) (bases_of trees names) id

    abbrev faulty : ℕ → Bool
    faulty id = is_faulty trees (type_places names) (bases_of trees names) id

    -- the types up to a level that are no containers have domains
    abbrev HaveNumbers : ℕ → Type 0
    HaveNumbers n = (id : ℕ) → IsNoContainer id → level (bases_of trees names) id < n → HasNumbers (numbers_at id)

    sound_bases : (n : ℕ) → HaveNumbers n → (m id : ℕ) → IsNoContainer id → level (bases_of trees names) id ≤ n → list_any faulty (bases_within m (bases_of trees names) id) ≡ false
    sound_bases n have zero id c h = ap (list_any faulty) (bases_none (bases_of trees names) id)
    sound_bases n have (suc m) id c h = go (sound_bases n have m) (base_at (bases_of trees names) id) refl
      where
        go : ((id : ℕ) → IsNoContainer id → level (bases_of trees names) id ≤ n → list_any faulty (bases_within m (bases_of trees names) id) ≡ false) → (o : Option TypeId) → base_at (bases_of trees names) id ≡ o → list_any faulty (bases_within (suc m) (bases_of trees names) id) ≡ false
        go up None e = ap (list_any faulty) (no_bases (bases_of trees names) (suc m) id e)
        go up (Some base) e =
            let less = less_levels id base e in
            let other = on_numbers id base e c in
            let numbers = have base.0 other (omega (arith, less, h)) in
            ap (list_any faulty) (bases_step (bases_of trees names) m id base e) ∙ rw (has_form base.0, some_numbers (numbers_at base.0).form (numbers_at base.0).spans numbers) (up base.0 other (omega (arith, less, h)))

    -- a sub-range whose bases have domains has one
    sub_domain : (n id : ℕ) (at : Place) (base : TypeId) → HaveNumbers n → IsNoContainer id → level (bases_of trees names) id ≤ n → slice_get (type_places names) id ≡ Some at → base_at (bases_of trees names) id ≡ Some base → HasNumbers (numbers_at id)
    sub_domain n id at base have c h there e =
        let less = less_levels id base e in
        let numbers = have base.0 (on_numbers id base e c) (omega (arith, less, h)) in
        let sub = base_is_sub at base (sym (base_there id at there) ∙ e) (c at there) in
        let kept : is_empty_type trees (type_places names) (bases_of trees names) id ≡ false = own_fault (is_sub_range trees at) (is_empty_type trees (type_places names) (bases_of trees names) id) _ sub (sound_bases n have 16 id c h) (unmet (is_sub_range trees at && is_empty_by_itself trees (type_places names) (bases_of trees names) id) _ (over-none (sub_range_at trees (type_places names) (bases_of trees names)) 0 (type_places names) subs id at there id (omega arith))) in
        let step = numbers_step trees (type_places names) (bases_of trees names) id base e (low id) in
        subst HasNumbers (sym step) (narrowed_kept (numbers_at base.0).form (numbers_at base.0).spans (range_at trees (slice_get (type_places names) id)) numbers (ap (λ (m : FormAndDomain). has_none m.spans) (sym step) ∙ kept))
      where
        own_fault : (sub empty any : Bool) → sub ≡ true → any ≡ false → (sub && (empty && not any)) ≡ false → empty ≡ false
        own_fault true true false p q r = cc
        own_fault true true true p q r = cc
        own_fault true false any p q r = refl
        own_fault false empty any p q r = cc

    domains_to : (n : ℕ) → HaveNumbers n
    domains_to zero id c h = absurd (omega arith)
    domains_to (suc n) id c h = go (domains_to n) (base_at (bases_of trees names) id) refl
      where
        there : (base : TypeId) → HaveNumbers n → base_at (bases_of trees names) id ≡ Some base → (o : Option Place) → slice_get (type_places names) id ≡ o → HasNumbers (numbers_at id)
        there base have e None q = let no : None ≡ Some base = sym (known_bases id q) ∙ e in absurd cc
        there base have e (Some at) q = sub_domain n id at base have c (omega arith) q e

        go : HaveNumbers n → (o : Option TypeId) → base_at (bases_of trees names) id ≡ o → HasNumbers (numbers_at id)
        go have None e = subst HasNumbers (sym (own_within trees (type_places names) (bases_of trees names) 16 id e)) (own_domain id)
        go have (Some base) e = there base have e (slice_get (type_places names) id) refl

    pub domains : (id : ℕ) → IsNoContainer id → HasNumbers (numbers_of trees (type_places names) (bases_of trees names) id)
    domains id c = domains_to 16 id c (low id)

    -- a sub-range derives from its base
    pub derives_from : (id : ℕ) (base : TypeId) → base_at (bases_of trees names) id ≡ Some base → IsSubRange (numbers_at id).form (numbers_at id).spans (numbers_at base.0).form (numbers_at base.0).spans
    derives_from id base e =
        subst (λ (m : FormAndDomain). IsSubRange m.form m.spans (numbers_at base.0).form (numbers_at base.0).spans) (sym (numbers_step trees (type_places names) (bases_of trees names) id base e (low id)))
        (narrowed_derives (numbers_at base.0).form (numbers_at base.0).spans (range_at trees (slice_get (type_places names) id)))
