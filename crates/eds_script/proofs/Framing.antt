-- A command that is sent, as a frame of its one argument.
use Rattle.std.proofs.Common.{◌≡◌, ℕ, List, [], ◌∷◌, ◌++◌, codes, Option, Some, None, slice_get, option_map, refl, sym, ap, subst}
use Rattle.hex.specs.Hex.{encode_lower}
use Rattle.eds_base.specs.Reading.{◌>>=◌}
use Rattle.eds_base.specs.declared.ids.TypeId.{TypeId}
use Rattle.eds_bits.specs.Bits.{octets_of}
use Rattle.eds_types.specs.Plain.{Plain}
use Rattle.eds_types.specs.Rows.{Table}
use Rattle.eds_types.specs.Spelling.{Canon}
use Rattle.eds_plan.specs.Carried.{carried_fields}
use Rattle.eds_plan.specs.Outs.{Signal}
use Rattle.eds_plan.specs.declared.component.Level.{Level}
use Rattle.eds_plan.specs.declared.instance.Argument.{Argument}
use Rattle.eds_script.specs.Events.{IsCommandBy, frame_type, front}
use Rattle.eds_script.specs.Fitting.{AreValuesOf, IsOneOf, IsValueOf}
use Rattle.eds_script.specs.Frames.{Framed, IsFramed, command_framed}
use Rattle.eds_script.specs.Laws.{ArgumentsRead}
use Rattle.eds_script.proofs.Printing.{frame-one}

module _ (t : Table) (head : List ℕ) where
  -- what a type and a value make
  abbrev Chosen : Option TypeId → Option Plain → Option Framed
  Chosen id v = id >>= λ i. option_map (λ x. record { head = head; id = i; value = x }) v

  -- the frame of one value
  abbrev IsOnly : TypeId → List Plain → Framed → Type 0
  IsOnly i vs f = (vs ≡ f.value ∷ []) × (i ≡ f.id) × (head ≡ f.head) × IsValueOf t f.id.0 f.value

  one-framed : (i : TypeId) (vs : List Plain) (f : Framed) → IsOneOf t i vs → Some f ≡ Chosen (Some i) (slice_get vs 0) → IsOnly i vs f
  one-framed i [] f one e = absurd one
  one-framed i (v ∷ []) f one e =
      let g : Framed = record { head = head; id = i; value = v } in
      let same : g ≡ f = cc in
      subst (λ (k : Framed). IsOnly i (v ∷ []) k) same (refl, refl, refl, one)
  one-framed i (v ∷ w ∷ vs) f one e = absurd one

  chosen-id : (id : Option TypeId) (v : Option Plain) (f : Framed) → Some f ≡ Chosen id v → id ≡ Some f.id
  chosen-id None v f e = cc
  chosen-id (Some i) None f e = cc
  chosen-id (Some i) (Some x) f e =
      let g : Framed = record { head = head; id = i; value = x } in
      let same : g ≡ f = cc in
      ap (λ (k : Framed). Some k.id) same

  never-none : (i : TypeId) (vs : List Plain) → IsOneOf t i vs → None ≡ Chosen (Some i) (slice_get vs 0) → ⊥
  never-none i [] one e = one
  never-none i (v ∷ []) one e = cc
  never-none i (v ∷ w ∷ vs) one e = one

module _ (t : Table) (time : ℕ) (end name : List ℕ) (l : Level) (s : Signal) (args : List Argument) (fits : AreValuesOf t (carried_fields s.way args) s.arguments) where
  abbrev Fields : List (List ℕ × TypeId)
  Fields = carried_fields s.way args

  one : (i : TypeId) → frame_type l Fields ≡ Some i → IsOneOf t i s.arguments
  one i e = frame-one t l Fields s.arguments i e fits

  pub framed-value : (f : Framed) → Some f ≡ command_framed time end l s name args → IsValueOf t f.id.0 f.value
  framed-value f = go (frame_type l Fields) refl
    where
      go : (o : Option TypeId) → frame_type l Fields ≡ o → Some f ≡ Chosen t (front time (codes "frame") end name) o (slice_get s.arguments 0) → IsValueOf t f.id.0 f.value
      go None p e = cc
      go (Some i) p e = (one-framed t (front time (codes "frame") end name) i s.arguments f (one i p) e).3

  pub framed-line : (f : Framed) (text : List ℕ) → Some f ≡ command_framed time end l s name args → IsFramed t f text → IsCommandBy (frame_type l Fields) t time end name Fields s.arguments text
  framed-line f text e h = go (frame_type l Fields) refl e
    where
      go : (o : Option TypeId) → frame_type l Fields ≡ o → Some f ≡ Chosen t (front time (codes "frame") end name) o (slice_get s.arguments 0) → IsCommandBy o t time end name Fields s.arguments text
      go None p q = cc
      go (Some i) p q =
          let is = one-framed t (front time (codes "frame") end name) i s.arguments f (one i p) q in
          record {
            value = f.value;
            bits = h.0;
            one = is.0;
            canonical = subst (λ (x : TypeId). Canon t x.0 f.value h.0) (sym is.1) h.1;
            line = subst (λ (x : List ℕ). text ≡ x ++ codes " " ++ encode_lower (octets_of h.0) ++ codes "\n") (sym is.2) h.2;
          }

  pub framed-reads : (f : Framed) → Some f ≡ command_framed time end l s name args → ArgumentsRead (frame_type l Fields) t Fields s.arguments
  framed-reads f e = subst (λ (o : Option TypeId). ArgumentsRead o t Fields s.arguments) (sym (chosen-id t (front time (codes "frame") end name) (frame_type l Fields) (slice_get s.arguments 0) f e)) tt

  pub not-framed : None ≡ command_framed time end l s name args → frame_type l Fields ≡ None
  not-framed = go (frame_type l Fields) refl
    where
      go : (o : Option TypeId) → frame_type l Fields ≡ o → None ≡ Chosen t (front time (codes "frame") end name) o (slice_get s.arguments 0) → o ≡ None
      go None p e = refl
      go (Some i) p e = absurd (never-none t (front time (codes "frame") end name) i s.arguments (one i p) e)
