-- All recordings agree, or there is a first difference.
use Rattle.std.proofs.Common.{◌≡◌, ℕ, ◌+◌, ◌⊎◌, Bool, true, false, List, [], ◌∷◌, ◌++◌, codes, length, take, drop, Option, Some, None, inl, inr, refl, sym, ap, subst, ◌∙◌, arith}
use Rattle.std.specs.List.{AllByRecursion}
use Rattle.std.specs.Str.{bytes_eq}
use Rattle.std.proofs.Math.Seq.{take-append_seam}
use Rattle.std.proofs.lemmas.Bool.{cases_lt}
use Rattle.std.proofs.lemmas.List.{length-append, take-append-drop}
use Rattle.std.proofs.lemmas.Slice.Eq.{bytes_eq-Decides}
use Rattle.eds_base.specs.declared.fault.Fault.{Fault}
use Rattle.eds_bits.specs.Bits.{Bits, bits_of}
use Rattle.eds_overlap.specs.Laws.{HasOneOutcome, IsReadable, OneOutcome}
use Rattle.eds_plan.specs.Outs.{Report}
use Rattle.eds_plan.specs.declared.component.ComponentPlan.{ComponentPlan}
use Rattle.eds_script.specs.Frames.{Framed, frame_in}
use Rattle.eds_script.specs.Given.{frame_octets}
use Rattle.eds_script.specs.Known.{KnowsTypes}
use Rattle.eds_script.specs.Laws.{OneLine}
use Rattle.eds_types.specs.Failing.{FailsAt}
use Rattle.eds_types.specs.Overlap.{IsClear}
use Rattle.eds_types.specs.Plain.{Plain}
use Rattle.eds_types.specs.Reading.{same}
use Rattle.eds_types.specs.Rows.{Table}
use Rattle.eds_types.specs.Rules.{KeepsRules}
use Rattle.eds_types.specs.Spelling.{Spells}
use Rattle.eds_types.proofs.SameValues.{is-same, same-is}
use Rattle.eds_replay.specs.declared.differs.Differs.{Differs}
use Rattle.eds_replay.specs.declared.session.Recorded.{Recorded}
use Rattle.eds_replay.specs.Agreement.{Agrees, ArgumentsAreClear, IsEventText, IsRespelled}
use Rattle.eds_replay.specs.Differences.{AllAgree, IsFirstDifference}
use Rattle.eds_replay.specs.Frames.{HoldValue, Respells}
use Rattle.eds_replay.specs.Laws.{HasText}
use Rattle.eds_replay.proofs.FrameTypes.{frame-known, frame_has}
use Rattle.eds_replay.proofs.Pairing.{agrees-otherwise, never-agrees}
use Rattle.eds_replay.proofs.Respelling.{never-respelled, value-there}

-- it holds, or it doesn't
abbrev Decided : Type 0 → Type 0
Decided A = A ⊎ (A → ⊥)

value-decided : (v w : Plain) → Decided (v ≡ w)
value-decided v w = go (same v w) refl
  where
    go : (b : Bool) → same v w ≡ b → Decided (v ≡ w)
    go true e = inl (same-is v w e)
    go false e = inr (λ k. let wrong : true ≡ false = sym (is-same v) ∙ ap (same v) k ∙ e in cc wrong)

module _ (law : OneLine) (reads : OneOutcome) (t : Table) (plan : List ComponentPlan) (rules : KeepsRules t) (known : KnowsTypes t plan) (clear : ArgumentsAreClear t plan) where
  -- ---- octets

  held-decided : (id : ℕ) (value : Plain) (octets : List ℕ) → IsReadable t id → Decided (HoldValue t id value octets)
  held-decided id value octets is = go one.either
    where
      one : HasOneOutcome t id (bits_of octets)
      one = reads t id is (bits_of octets)

      whole : (v : Plain) (c rest : Bits) → bits_of octets ≡ c ++ rest → Spells t id v c → v ≡ value → Decided (HoldValue t id value octets)
      whole v c rest split spells same = elim (cases_lt 7 (length rest)) [
        | inl many ↦ inr (λ h.
            let k = one.one_value v value c h.spelling rest h.holds.rest split h.holds.begins spells h.spells in
            let sizes : length c + length rest ≡ length h.spelling + length h.holds.rest = sym (length-append c rest) ∙ ap length (sym split ∙ h.holds.begins) ∙ length-append h.spelling h.holds.rest in
            let fronts : length c ≡ length h.spelling = ap length k.1 in
            let few = h.holds.few in
            omega (arith, many, sizes, fronts, few))
        | inr few ↦ inl (record { spelling = c; spells = subst (λ x. Spells t id x c) same spells; holds = record { rest = rest; begins = split; few = few } })
      ]

      go : ((v : Plain) × (c : Bits) × (rest : Bits) × (bits_of octets ≡ c ++ rest) × Spells t id v c) ⊎ ((g : Fault) × FailsAt t id (bits_of octets) g) → Decided (HoldValue t id value octets)
      go (inl k) = elim (value-decided k.0 value) [
        | inl same ↦ whole k.0 k.1 k.2 k.3 k.4 same
        | inr other ↦ inr (λ h. other (one.one_value k.0 value k.1 h.spelling k.2 h.holds.rest k.3 h.holds.begins k.4 h.spells).0)
      ]
      go (inr k) = inr (λ h. one.not_both value h.spelling h.holds.rest k.0 h.holds.begins h.spells k.1)

  -- ---- a frame

  behind-decided : (f : Framed) (text hex : List ℕ) → text ≡ (f.head ++ 32 ∷ []) ++ hex → IsReadable t f.id.0 → Decided (Respells t f text)
  behind-decided f text hex split is = go (frame_octets hex) refl
    where
      go : (o : Option (List ℕ)) → frame_octets hex ≡ o → Decided (Respells t f text)
      go None e = inr (never-respelled t f text hex split e)
      go (Some octets) e = elim (held-decided f.id.0 f.value octets is) [
        | inl held ↦ inl (record { hex = hex; line = split; octets = octets; digits = e; value = held })
        | inr never ↦ inr (λ h. never (value-there t f text hex split octets e h))
      ]

  frame-decided : (f : Framed) (text : List ℕ) → IsReadable t f.id.0 → Decided (Respells t f text)
  frame-decided f text is = go (bytes_eq (take (length front) text) front) refl
    where
      front : List ℕ
      front = f.head ++ 32 ∷ []

      go : (b : Bool) → bytes_eq (take (length front) text) front ≡ b → Decided (Respells t f text)
      go true e =
          let begins : take (length front) text ≡ front = (bytes_eq-Decides (take (length front) text) front).0 e in
          behind-decided f text (drop (length front) text) (sym (take-append-drop (length front) text) ∙ ap (λ xs. xs ++ drop (length front) text) begins) is
      go false e = inr (λ h.
          let begins : take (length front) text ≡ front = ap (take (length front)) h.line ∙ take-append_seam front h.hex in
          let wrong : true ≡ false = sym ((bytes_eq-Decides (take (length front) text) front).1 begins) ∙ e in
          cc wrong)

  respelled-decided : (r : Report) (text : List ℕ) → Decided (IsRespelled t plan r text)
  respelled-decided r text = go (frame_in plan r) refl
    where
      go : (o : Option Framed) → frame_in plan r ≡ o → Decided (IsRespelled t plan r text)
      go None e = inr (λ h. let wrong : None ≡ Some h.0 = sym e ∙ h.1 in cc wrong)
      go (Some f) e = elim (frame-decided f text (record { rules = rules; there = frame-known t plan r f known e; clear = frame_has (IsClear t) plan clear r f e })) [
        | inl is ↦ inl (f, e, is)
        | inr never ↦ inr (λ h. let some : Some f ≡ Some h.0 = sym e ∙ h.1 in let one : f ≡ h.0 = cc some in never (subst (λ g. Respells t g text) (sym one) h.2))
      ]

  -- ---- a pair

  agreement-decided : (r : Report) (text : List ℕ) → HasText t plan r → ((n : ℕ) × Agrees t plan text r n) ⊎ ((n : ℕ) → Agrees t plan text r n → ⊥)
  agreement-decided r text has = go (bytes_eq has.0 text) refl
    where
      go : (b : Bool) → bytes_eq has.0 text ≡ b → ((n : ℕ) × Agrees t plan text r n) ⊎ ((n : ℕ) → Agrees t plan text r n → ⊥)
      go true e = inl (0, inl (subst (IsEventText t plan r) ((bytes_eq-Decides has.0 text).0 e) has.1, refl))
      go false e = elim (respelled-decided r text) [
        | inl is ↦ inl (1, agrees-otherwise t plan r text has.0 law rules known has.1 (sym e) is)
        | inr never ↦ inr (never-agrees t plan r text has.0 law rules known has.1 (sym e) never)
      ]

  -- ---- all

  pub some-outcome : (owner : ℕ) (xs : List Recorded) (rs : List Report) → AllByRecursion (HasText t plan) rs → ((n : ℕ) × AllAgree t plan xs rs n) ⊎ ((d : Differs) × IsFirstDifference t plan owner xs rs d)
  some-outcome owner [] [] h = inl (0, refl)
  some-outcome owner [] (r ∷ rs) h = inr (record { line = owner; want = codes "nothing"; got = h.0.0 }, record { line = refl; want = refl; got = h.0.1 })
  some-outcome owner (x ∷ xs) [] h = inr (record { line = x.line; want = x.text; got = codes "nothing" }, record { line = refl; want = refl; got = refl })
  some-outcome owner (x ∷ xs) (r ∷ rs) h = go (agreement-decided r x.text h.0) (some-outcome owner xs rs h.1)
    where
      go : ((n : ℕ) × Agrees t plan x.text r n) ⊎ ((n : ℕ) → Agrees t plan x.text r n → ⊥) → ((n : ℕ) × AllAgree t plan xs rs n) ⊎ ((d : Differs) × IsFirstDifference t plan owner xs rs d)
          → ((n : ℕ) × AllAgree t plan (x ∷ xs) (r ∷ rs) n) ⊎ ((d : Differs) × IsFirstDifference t plan owner (x ∷ xs) (r ∷ rs) d)
      go (inl a) (inl all) = inl (a.0 + all.0, (a.0, all.0, a.1, all.1, refl))
      go (inl a) (inr d) = inr (d.0, inr (a.0, a.1, d.1))
      go (inr never) rest = inr (record { line = x.line; want = x.text; got = h.0.0 }, inl (record { never = never; line = refl; want = refl; got = h.0.1 }))
