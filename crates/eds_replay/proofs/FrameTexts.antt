-- The text of a frame that leaves a run.
use Rattle.std.proofs.Common.{◌≡◌, ℕ, length, List, [], ◌∷◌, ◌++◌, Option, Some, None, codes, slice_get, option_map, refl, sym, ap, subst, ◌∙◌, arith}
use Rattle.std.proofs.lemmas.List.{append_cancel_right}
use Rattle.hex.specs.Hex.{encode_lower}
use Rattle.eds_base.specs.Reading.{◌>>=◌}
use Rattle.eds_base.specs.declared.ids.TypeId.{TypeId}
use Rattle.eds_bits.specs.Bits.{Bits, octets_of}
use Rattle.eds_types.specs.Laws.{IsThere}
use Rattle.eds_types.specs.Plain.{Plain}
use Rattle.eds_types.specs.Rows.{Table}
use Rattle.eds_types.specs.Rules.{KeepsRules}
use Rattle.eds_types.specs.Spelling.{Canon}
use Rattle.eds_types.proofs.TypeLaws.{has_canonical, one_canonical}
use Rattle.eds_plan.specs.Carried.{carried_fields}
use Rattle.eds_plan.specs.Ends.{end_at}
use Rattle.eds_plan.specs.Outs.{Report, Signal, left, stopped, refused}
use Rattle.eds_plan.specs.declared.component.ComponentPlan.{ComponentPlan}
use Rattle.eds_plan.specs.declared.component.EndPlan.{EndPlan}
use Rattle.eds_plan.specs.declared.component.Level.{Level}
use Rattle.eds_plan.specs.declared.component.Level.TheVariants as level
use Rattle.eds_plan.specs.declared.instance.Member.{Member}
use Rattle.eds_plan.specs.declared.instance.Member.TheVariants as member
use Rattle.eds_script.specs.Events.{IsCommandBy, IsMemberLine, IsSentLine, frame_type, front}
use Rattle.eds_script.specs.Fitting.{AreValuesOf, FitsMember, FitsPlan, IsValueOf}
use Rattle.eds_script.specs.Frames.{Framed, frame_in, member_framed, sent_framed}
use Rattle.eds_script.specs.Names.{member_in, text_of_end}
use Rattle.eds_replay.specs.Agreement.{IsEventText}
use Rattle.eds_replay.specs.Frames.{IsFrameText}

module _ (t : Table) (rules : KeepsRules t) where
  -- the one value is of the type of the one field
  value-of : (l : Level) (fs : List (List ℕ × TypeId)) (id : TypeId) (v : Plain) → frame_type l fs ≡ Some id → AreValuesOf t fs (v ∷ []) → IsValueOf t id.0 v
  value-of level.Subnetwork [] id v e h = cc
  value-of level.Subnetwork (f ∷ []) id v e h = let same : f.1 ≡ id = cc in subst (λ (x : TypeId). IsValueOf t x.0 v) same h.0
  value-of level.Subnetwork (f ∷ g ∷ fs) id v e h = cc
  value-of level.Access fs id v e h = cc
  value-of level.Functional fs id v e h = cc
  value-of level.Application fs id v e h = cc

  -- canonical bits of a value that packs are a spelling, and not too many
  of-canonical : (f : Framed) (text : List ℕ) (bits : Bits) → IsValueOf t f.id.0 f.value → Canon t f.id.0 f.value bits → text ≡ f.head ++ codes " " ++ encode_lower (octets_of bits) → IsFrameText t f text
  of-canonical f text bits is canonical line =
      let there : IsThere t f.id.0 = record { rules = rules; there = is.known } in
      let same : bits ≡ (is.packs).0 = one_canonical t f.id.0 there f.value bits (is.packs).0 canonical (is.packs).1 in
      record {
        bits = bits;
        spells = (has_canonical t f.id.0 there f.value).1 bits canonical;
        few = let l = ap length same in omega (arith, l, (is.packs).2, (is.packs).3);
        line = line;
      }

  module _ (time : ℕ) (end name : List ℕ) where
    -- the frame of a type and a value, where these are there
    abbrev Chosen : Option TypeId → Option Plain → Option Framed
    Chosen id v = id >>= λ i. option_map (λ x. record { head = front time (codes "frame") end name; id = i; value = x }) v

    command-text : (l : Level) (fs : List (List ℕ × TypeId)) (vs : List Plain) (f : Framed) (text : List ℕ) → AreValuesOf t fs vs → Chosen (frame_type l fs) (slice_get vs 0) ≡ Some f
        → IsCommandBy (frame_type l fs) t time end name fs vs (text ++ codes "\n") → IsFrameText t f text
    command-text l fs vs f text fit e is = go (frame_type l fs) refl e is
      where
        go : (o : Option TypeId) → frame_type l fs ≡ o → Chosen o (slice_get vs 0) ≡ Some f → IsCommandBy o t time end name fs vs (text ++ codes "\n") → IsFrameText t f text
        go None p q h = cc
        go (Some i) p q h =
            let g : Framed = record { head = front time (codes "frame") end name; id = i; value = h.value } in
            let same : g ≡ f = let r : Some g ≡ Some f = sym (ap (λ (xs : List Plain). Chosen (Some i) (slice_get xs 0)) h.one) ∙ q in cc in
            let of : IsValueOf t i.0 h.value = value-of l fs i h.value p (subst (λ (xs : List Plain). AreValuesOf t fs xs) h.one fit) in
            subst (λ (k : Framed). IsFrameText t k text) same
            (of-canonical g text h.bits of h.canonical (append_cancel_right text (front time (codes "frame") end name ++ codes " " ++ encode_lower (octets_of h.bits)) (codes "\n") h.line))

  member-text : (time : ℕ) (end : List ℕ) (l : Level) (s : Signal) (m : Option Member) (f : Framed) (text : List ℕ) → FitsMember t s m → member_framed time end l s m ≡ Some f
      → IsMemberLine t time end l s m (text ++ codes "\n") → IsFrameText t f text
  member-text time end l s None f text fits e is = cc
  member-text time end l s (Some (member.Parameter name id read_only)) f text fits e is = cc
  member-text time end l s (Some (member.Command name args)) f text fits e is = command-text time end name l (carried_fields s.way args) s.arguments f text fits.1 e is

  sent-text : (time : ℕ) (end : List ℕ) (s : Signal) (o : Option EndPlan) (f : Framed) (text : List ℕ) → FitsMember t s (member_in o s.member) → sent_framed time end s o ≡ Some f
      → IsSentLine t time end s o (text ++ codes "\n") → IsFrameText t f text
  sent-text time end s None f text fits e is = cc
  sent-text time end s (Some x) f text fits e is = member-text time end x.level s (member_in (Some x) s.member) f text fits e is

  -- the text of a frame that leaves a run
  pub frame-text : (plan : List ComponentPlan) (r : Report) (f : Framed) (text : List ℕ) → FitsPlan t plan r → frame_in plan r ≡ Some f → IsEventText t plan r text → IsFrameText t f text
  frame-text plan (left time s) f text fits e is = sent-text time (text_of_end plan s.end) s (end_at plan s.end) f text fits e is
  frame-text plan (stopped time component machine halt) f text fits e is = cc
  frame-text plan (refused time end member fault) f text fits e is = cc
