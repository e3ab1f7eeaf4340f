-- A fault other than Short stays, whatever bits are appended.
use Rattle.eds_base.specs.declared.fault.Fault.{Fault}
use Rattle.std.proofs.Common.{◌≡◌, ℕ, zero, suc, ◌+◌, ◌*◌, ◌/◌, ◌≤◌, ℤ, Bool, true, false, List, [], ◌∷◌, ◌++◌, length, take, drop, Option, Some, None, refl, sym, ap, subst, ◌∙◌, append_assoc, arith, ◌⊎◌, inl, inr}
use Rattle.std.proofs.lemmas.List.{length-append, take-append-drop}
use Rattle.eds_base.specs.declared.fault.Reason.TheVariants.{Short, BadDigit}
use Rattle.eds_base.specs.declared.fault.Reason.{Reason}
use Rattle.eds_bits.specs.declared.forms.IntForm.{IntForm}
use Rattle.eds_types.specs.Rows.{Placed}
use Rattle.eds_types.specs.Sizes.{tail_of}
use Rattle.eds_types.specs.declared.row.Kind.{Kind}
use Rattle.eds_types.specs.declared.row.Kind.TheVariants as kind
use Rattle.eds_types.specs.declared.row.Part.{Part}
use Rattle.eds_types.specs.declared.row.Part.TheVariants as part
use Rattle.eds_bits.specs.Bits.{Bits, octets_of}
use Rattle.eds_bits.specs.IntForms.{number_of}
use Rattle.eds_bits.specs.Lists.{Has}
use Rattle.eds_bits.specs.Scalars.{before_stop, IsCoded}
use Rattle.eds_bits.specs.Style.{any}
use Rattle.eds_bits.specs.declared.forms.TextForm.{TextForm}
use Rattle.eds_types.proofs.TextReading.{take_within, whole_octs, whole_length, take_octs, octs_within, cut_at, has_whole, before_short, before_is, take_has}
use Rattle.eds_types.specs.Failing.{fault_here, Station, condition, entry, choice, end, whole_octets, ItemFails, Differs, PartFails, EntryFailsBy, StationFails, BadNumber, TextFails, KindFails, FailsWithin}
use Rattle.eds_types.specs.Plain.{Plain}
use Rattle.eds_types.specs.Rows.{Table}
use Rattle.eds_types.specs.Spelling.{Progress, SpellsWithin}

longer : (n : ℕ) (b more : Bits) → n ≤ length b → n ≤ length (b ++ more)
longer n b more h = omega (arith, length-append b more)

-- the whole octets go on
whole_more : (b more : Bits) (k : ℕ) → k ≤ length b / 8 → take k (whole_octets (b ++ more)) ≡ take k (whole_octets b)
whole_more b more k h =
    let l = length-append b more in
    ap (take k) (whole_octs (b ++ more)) ∙ take_octs k (length (b ++ more) / 8) (b ++ more) (omega arith) ∙ octs_within k b more (omega arith) ∙ sym (ap (take k) (whole_octs b) ∙ take_octs k (length b / 8) b h)

take_own_length : (n : ℕ) (os : List ℕ) → length os ≡ n → take n os ≡ os
take_own_length zero [] h = refl
take_own_length zero (o ∷ os) h = absurd (omega arith)
take_own_length (suc n) [] h = refl
take_own_length (suc n) (o ∷ os) h = ap (λ l. o ∷ l) (take_own_length n os (omega arith))

whole_front : (b more : Bits) → whole_octets (b ++ more) ≡ whole_octets b ++ drop (length b / 8) (whole_octets (b ++ more))
whole_front b more =
    let k = length b / 8 in
    sym (take-append-drop k (whole_octets (b ++ more))) ∙ ap (λ l. l ++ drop k (whole_octets (b ++ more))) (whole_more b more k (omega arith) ∙ take_own_length k (whole_octets b) (whole_length b))

module _ (t : Table) (SpellsInner : ℕ → Plain → Bits → Type 0) (FailsInner : ℕ → Bits → Fault → Type 0) where
  abbrev NotShort : Fault → Type 0
  NotShort g = g.reason ≡ Short → ⊥

  short_not : {A : Type 0} (g : Fault) → NotShort g → g ≡ fault_here Short → A
  short_not g ns e = absurd (ns (ap (λ (z : Fault). z.reason) e))

  items_stay : (E : Plain → Bits → Type 0) (F : Bits → Fault → Type 0) (more : Bits) → ((b : Bits) (g : Fault) → NotShort g → F b g → F (b ++ more) g) → (count : ℕ) (b : Bits) (g : Fault) → NotShort g → ItemFails E F count b g → ItemFails E F count (b ++ more) g
  items_stay E F more s count b g ns h = record { before = h.before; few = h.few; c = h.c; d = h.d ++ more; bits = ap (λ z. z ++ more) h.bits ∙ append_assoc h.c h.d more; spelled = h.spelled; why = h.why; fails = s h.d h.why (λ e. ns (ap (λ (z : Fault). z.reason) h.is ∙ e)) h.fails; is = h.is }

  module _ (more : Bits) (s : (id : ℕ) (b : Bits) (g : Fault) → NotShort g → FailsInner id b g → FailsInner id (b ++ more) g) where
    differs_stay : (id : ℕ) (v : Plain) (b : Bits) → Differs t SpellsInner FailsInner id v b → Differs t SpellsInner FailsInner id v (b ++ more)
    differs_stay id v b h = record { other = h.other; c = h.c; rest = h.rest ++ more; bits = ap (λ z. z ++ more) h.bits ∙ append_assoc h.c h.rest more; spelled = h.spelled; differs = h.differs }

    part_stays : (st : Progress) (q : Part) (b : Bits) (g : Fault) → NotShort g → PartFails t SpellsInner FailsInner st q b g → PartFails t SpellsInner FailsInner st q (b ++ more) g
    part_stays st (part.Plain name id) b g ns h = s id.0 b g ns h
    part_stays st (part.Fixed name id v) b g ns (inl h) = inl (s id.0 b g ns h)
    part_stays st (part.Fixed name id v) b g ns (inr h) = inr (differs_stay id.0 _ b h.0, h.1)
    part_stays st (part.Pad n) b g ns h = short_not g ns h.1
    part_stays st (part.List name id y i) b g ns h = items_stay (SpellsInner id.0) (FailsInner id.0) more (s id.0) _ b g ns h
    part_stays st (part.Length name id c0 c1) b g ns h = s id.0 b g ns h
    part_stays st (part.Check name id k) b g ns (inl h) = inl (s id.0 b g ns h)
    part_stays st (part.Check name id k) b g ns (inr h) = inr (differs_stay id.0 _ b h.0, h.1)

    entry_stays : (st : Progress) (p : Placed) (o : Option ℕ) (b : Bits) (g : Fault) → NotShort g → EntryFailsBy t SpellsInner FailsInner o st p b g → EntryFailsBy t SpellsInner FailsInner o st p (b ++ more) g
    entry_stays st p None b g ns h = (h.0, part_stays st p.part b h.0 (λ e. ns (ap (λ (z : Fault). z.reason) h.2 ∙ e)) h.1, h.2)
    entry_stays st p (Some n) b g ns (inl h) = inl h
    entry_stays st p (Some n) b g ns (inr h) = absurd (ns (ap (λ (z : Fault). z.reason) h.4))

    station_stays : (x : ℕ) (st : Progress) (p : Station) (b : Bits) (g : Fault) → NotShort g → StationFails t SpellsInner FailsInner x st p b g → StationFails t SpellsInner FailsInner x st p (b ++ more) g
    station_stays x st (condition y c) b g ns h = h
    station_stays x st (entry p) b g ns h = entry_stays st p (tail_of t p.part) b g ns h
    station_stays x st (choice y) b g ns h = h
    station_stays x st end b g ns h = h

    number_stays : (form : IntForm) (Good : ℤ → Type 0) (bad : Reason) (b : Bits) (g : Fault) → BadNumber form Good bad b g → BadNumber form Good bad (b ++ more) g
    number_stays form Good bad b g h =
        let e : take form.bits (b ++ more) ≡ take form.bits b = take_within form.bits b more h.enough in
        record { enough = longer form.bits b more h.enough; why = subst (λ z. ((number_of form z ≡ None) × (g ≡ fault_here BadDigit)) ⊎ ((n : ℤ) × (number_of form z ≡ Some n) × (Good n → ⊥) × (g ≡ fault_here bad))) (sym e) h.why }

    text_stays : (form : TextForm) (fixed : Bool) (b : Bits) (g : Fault) → NotShort g → TextFails form fixed b g → TextFails form fixed (b ++ more) g
    text_stays form true b g ns (inl h) = short_not g ns h.1
    text_stays form true b g ns (inr h) = inr (longer (8 * form.length) b more h.0, subst (λ z. IsCoded form.ascii (before_stop form.stop (octets_of z)) → ⊥) (sym (take_within (8 * form.length) b more h.0)) h.1, h.2)
    text_stays form false b g ns (inl h) = short_not g ns h.2
    text_stays form false b g ns (inr (inl h)) =
        let l = whole_length b in let k = h.0 in let w = whole_length (b ++ more) in let a = length-append b more in
        inr (inl (omega arith, subst (λ z. Has z form.stop → ⊥) (sym (whole_more b more (form.length + 1) (omega arith))) h.1, h.2))
    text_stays form false b g ns (inr (inr h)) =
        let c = cut_at form.stop (whole_octets b) (has_whole (form.length + 1) form.stop (whole_octets b) h.0) in
        let tail = drop (length b / 8) (whole_octets (b ++ more)) in
        let w : whole_octets (b ++ more) ≡ before_stop form.stop (whole_octets b) ++ form.stop ∷ (c.tail ++ tail) = whole_front b more ∙ ap (λ l. l ++ tail) c.is ∙ append_assoc (before_stop form.stop (whole_octets b)) (form.stop ∷ c.tail) tail in
        let there = subst (λ z. Has (take (form.length + 1) z) form.stop) (sym w) (take_has (form.length + 1) form.stop (before_stop form.stop (whole_octets b)) (c.tail ++ tail) (before_short (form.length + 1) form.stop (whole_octets b) h.0)) in
        let word : before_stop form.stop (whole_octets (b ++ more)) ≡ before_stop form.stop (whole_octets b) = ap (before_stop form.stop) w ∙ before_is form.stop (before_stop form.stop (whole_octets b)) (c.tail ++ tail) c.free in
        inr (inr (there, subst (λ z. IsCoded form.ascii z → ⊥) (sym word) h.1, h.2))

    kind_stays : (id : ℕ) (k : Kind) (b : Bits) (g : Fault) → NotShort g → KindFails t SpellsInner FailsInner id k b g → KindFails t SpellsInner FailsInner id k (b ++ more) g
    kind_stays id (kind.Int form spans) b g ns (inl h) = short_not g ns h.1
    kind_stays id (kind.Int form spans) b g ns (inr h) = inr (number_stays form _ _ b g h)
    kind_stays id (kind.Enum form listing) b g ns (inl h) = short_not g ns h.1
    kind_stays id (kind.Enum form listing) b g ns (inr h) = inr (number_stays form _ _ b g h)
    kind_stays id (kind.Bool form) b g ns h = short_not g ns h.1
    kind_stays id (kind.Str form) b g ns h = text_stays form form.fixed b g ns h
    kind_stays id (kind.Bin n free) b g ns h = short_not g ns h.1
    kind_stays id (kind.Arr item n) b g ns h = items_stay (SpellsInner item.0) (FailsInner item.0) more (s item.0) n b g ns h
    kind_stays id (kind.Con c) b g ns h = record { x = h.x; under = h.under; done = h.done; station = h.station; rest = h.rest; is_course = h.is_course; state = h.state; c = h.c; d = h.d ++ more; bits = ap (λ z. z ++ more) h.bits ∙ append_assoc h.c h.d more; passes = h.passes; fails = station_stays h.x h.state h.station h.d g ns h.fails }

-- a fault stays
pub stays_within : (t : Table) (n id : ℕ) (b more : Bits) (g : Fault) → (g.reason ≡ Short → ⊥) → FailsWithin n t id b g → FailsWithin n t id (b ++ more) g
unfolding FailsWithin
stays_within t zero id b more g ns h = absurd h
stays_within t (suc n) id b more g ns h = (h.0, h.1, kind_stays t (SpellsWithin n any t) (FailsWithin n t) more (λ x c k ms q. stays_within t n x c more k ms q) id (h.0).kind b g ns h.2)
