-- Values that fit, and texts that are put together.
use Rattle.std.proofs.Common.{◌≡◌, ℕ, zero, suc, ◌*◌, ◌-◌, ◌<◌, ◌≤◌, true, false, nat_le, All, Option, Some, None, List, [], ◌∷◌, Result, Ok, Err, length, replicate, slice_get, subst, refl, sym, ap, ◌∙◌, arith, lit<, codes}
use Rattle.std.specs.Prelude.{IfOk, OnOk}
use Rattle.std.proofs.lemmas.Bool.Decides.{nat_tests}
use Rattle.std.proofs.lemmas.List.{length-replicate}
use Rattle.std.proofs.lemmas.List.Elements.{All-head, All-tail}
use Rattle.hex.specs.Hex.{IsBytes, decode_of, encode_lower}
use Rattle.hex.proofs.HexLemmas.{decode_of-encode_lower}
use Rattle.eds_base.specs.declared.ids.TypeId.{TypeId}
use Rattle.eds_bits.specs.Bits.{Bits, oct, octets_of}
use Rattle.eds_bits.proofs.OctetLaws.{bits_of-octets_of, length-octets_of, octets_of_below}
use Rattle.eds_types.specs.Plain.{Plain}
use Rattle.eds_types.specs.Rows.{Table}
use Rattle.eds_types.specs.Rules.{KeepsRules}
use Rattle.eds_types.proofs.TypeLaws.{one_canonical}
use Rattle.eds_value.specs.Laws.{AreOfTypes, IsOfType}
use Rattle.eds_plan.specs.Carried.{carried_fields}
use Rattle.eds_plan.specs.Outs.{Signal, left, stopped, refused}
use Rattle.eds_plan.specs.declared.activity.Op.{Op}
use Rattle.eds_plan.specs.declared.activity.Op.TheVariants as op
use Rattle.eds_plan.specs.declared.component.EndPlan.{EndPlan}
use Rattle.eds_plan.specs.declared.component.Level.{Level}
use Rattle.eds_plan.specs.declared.component.Level.TheVariants as level
use Rattle.eds_plan.specs.declared.instance.Member.{Member}
use Rattle.eds_plan.specs.declared.instance.Member.TheVariants as member
use Rattle.eds_plan.specs.Ends.{end_at}
use Rattle.eds_script.specs.Events.{IsCommandBy, IsFrameLine, IsMemberLine, IsSentLine, frame_type, given_line}
use Rattle.eds_script.specs.Fitting.{AreValuesOf, FitsParameter, IsOneOf, IsValueOf}
use Rattle.eds_script.specs.Given.{frame_octets}
use Rattle.eds_script.specs.Known.{AreFieldsKnown, AreKnown, IsKnown}
use Rattle.eds_script.specs.Laws.{FramesRead, MemberReads, OneLine, SentReads}
use Rattle.eds_script.specs.Names.{member_in}
use Rattle.eds_script.proofs.Knowing.{fields-known, known-at, there-known}

-- ---- values that fit

pub is-of-type : (t : Table) (id : ℕ) (v : Plain) → IsValueOf t id v → IsOfType t id v
is-of-type t id v h = (h.packs.0, h.packs.1)

pub of-types : (t : Table) (fs : List (List ℕ × TypeId)) (vs : List Plain) → AreValuesOf t fs vs → AreOfTypes t fs vs
of-types t [] [] h = tt
of-types t [] (v ∷ vs) h = absurd h
of-types t (f ∷ fs) [] h = absurd h
of-types t (f ∷ fs) (v ∷ vs) h = (is-of-type t f.1.0 v h.0, of-types t fs vs h.1)

-- the one value, where one is looked up
pub one-at : (t : Table) (id : TypeId) (vs : List Plain) (v : Plain) → IsOneOf t id vs → slice_get vs 0 ≡ Some v → IsValueOf t id.0 v
one-at t id [] v h e = absurd h
one-at t id (w ∷ []) v h e = let is : w ≡ v = cc in subst (λ (x : Plain). IsValueOf t id.0 x) is h
one-at t id (w ∷ x ∷ vs) v h e = absurd h

-- the value of a parameter
pub parameter-one : (t : Table) (id : TypeId) (o : Op) (vs : List Plain) (v : Plain) → FitsParameter t id o vs → slice_get vs 0 ≡ Some v → IsValueOf t id.0 v
parameter-one t id op.Command vs v h e = absurd h
parameter-one t id op.Get [] v h e = cc
parameter-one t id op.Get (w ∷ vs) v h e = cc
parameter-one t id op.Set vs v h e = one-at t id vs v h e
parameter-one t id op.Val vs v h e = one-at t id vs v h e

-- the argument of a frame
pub frame-one : (t : Table) (l : Level) (fs : List (List ℕ × TypeId)) (vs : List Plain) (id : TypeId) → frame_type l fs ≡ Some id → AreValuesOf t fs vs → IsOneOf t id vs
frame-one t level.Subnetwork [] vs id e h = cc
frame-one t level.Subnetwork (f ∷ []) [] id e h = absurd h
frame-one t level.Subnetwork (f ∷ []) (v ∷ []) id e h = let is : f.1 ≡ id = cc in subst (λ (x : TypeId). IsValueOf t x.0 v) is h.0
frame-one t level.Subnetwork (f ∷ []) (v ∷ w ∷ vs) id e h = absurd h.1
frame-one t level.Subnetwork (f ∷ g ∷ fs) vs id e h = cc
frame-one t level.Access fs vs id e h = cc
frame-one t level.Functional fs vs id e h = cc
frame-one t level.Application fs vs id e h = cc

-- what holds of every answer
pub anyway : {A E : Type 0} (r : Result A E) → IfOk r (λ (x : A). Unit {0})
anyway (Ok x) = tt
anyway (Err e) = tt

-- what is done comes to more
pub when-done : {A E P Q : Type 0} (r : Result A E) → (P → Q) → OnOk r P → OnOk r Q
when-done (Ok x) more h = more h
when-done (Err e) more h = tt

-- ---- what is sent for the member that is found

module _ {E : Type 0} (t : Table) (s : Signal) (e : Option EndPlan) (p : EndPlan) (m : Member) (r : Result (List ℕ) E) (is : e ≡ Some p) (found : member_in e s.member ≡ Some m) where
  held : member_in (Some p) s.member ≡ Some m
  held = ap (λ (x : Option EndPlan). member_in x s.member) (sym is) ∙ found

  pub sent-line : (time : ℕ) (end text : List ℕ) → text ≡ end → IfOk r (λ o. IsMemberLine t time text p.level s (Some m) o) → IfOk r (λ o. IsSentLine t time end s e o)
  sent-line time end text same h =
      subst (λ (x : Option EndPlan). IfOk r (λ o. IsSentLine t time end s x o)) (sym is)
      (subst (λ (y : Option Member). IfOk r (λ o. IsMemberLine t time end p.level s y o)) (sym held)
      (subst (λ (z : List ℕ). IfOk r (λ o. IsMemberLine t time z p.level s (Some m) o)) same h))

  pub sent-reads : IfOk r (λ o. MemberReads t p.level s (Some m)) → IfOk r (λ o. SentReads t s e)
  sent-reads h =
      subst (λ (x : Option EndPlan). IfOk r (λ o. SentReads t s x)) (sym is)
      (subst (λ (y : Option Member). IfOk r (λ o. MemberReads t p.level s y)) (sym held) h)

-- ---- frames

are_bytes : (xs : List ℕ) → All (λ x. x < 256) xs → IsBytes xs
are_bytes [] h i = lit< tt
are_bytes (x ∷ xs) h zero = All-head (λ x. x < 256) x xs h
are_bytes (x ∷ xs) h (suc i) = are_bytes xs (All-tail (λ x. x < 256) x xs h) i

up_to : (n m : ℕ) → n ≤ m → nat_le n m ≡ true
up_to n m h = grind (arith, nat_tests)

octets_read : (octets : List ℕ) → IsBytes octets → length octets ≤ 65536 → frame_octets (encode_lower octets) ≡ Some octets
unfolding frame_octets
octets_read octets below few =
    let back : decode_of (encode_lower octets) ≡ Ok octets = decode_of-encode_lower octets below in
    let small : nat_le (length octets) 65536 ≡ true = up_to (length octets) 65536 few in
    rw (back, small) refl

pub frames_read : FramesRead
frames_read bits few = (
  octets_of bits,
  octets_read (octets_of bits) (are_bytes (octets_of bits) (octets_of_below bits)) (omega (arith, length-octets_of bits)),
  record {
    rest = replicate (8 * oct bits - length bits) false;
    begins = bits_of-octets_of bits;
    few = omega (arith, length-replicate (8 * oct bits - length bits) false);
  },
)

-- ---- one line

frame-known : (t : Table) (l : Level) (fs : List (List ℕ × TypeId)) (id : TypeId) → frame_type l fs ≡ Some id → AreFieldsKnown t fs → id.0 < length t
frame-known t level.Subnetwork [] id e known = cc
frame-known t level.Subnetwork (f ∷ []) id e known = let is : f.1 ≡ id = cc in subst (λ (x : TypeId). x.0 < length t) is known.0
frame-known t level.Subnetwork (f ∷ g ∷ fs) id e known = cc
frame-known t level.Access fs id e known = cc
frame-known t level.Functional fs id e known = cc
frame-known t level.Application fs id e known = cc

module _ (t : Table) (rules : KeepsRules t) (time : ℕ) (end : List ℕ) where
  -- one value has one frame
  frame-same : (name : List ℕ) (id : TypeId) (vs : List Plain) (one other : List ℕ) → id.0 < length t
      → IsFrameLine t time end name id vs one → IsFrameLine t time end name id vs other → one ≡ other
  frame-same name id vs one other known a b =
      let values : a.value ∷ [] ≡ b.value ∷ [] = sym a.one ∙ b.one in
      let value : a.value ≡ b.value = cc in
      let bits : a.bits ≡ b.bits = one_canonical t id.0 (record { rules = rules; there = known }) a.value a.bits b.bits a.canonical (rw value b.canonical) in
      a.line ∙ ap (λ (x : Bits). given_line time (codes "frame") end name (encode_lower (octets_of x))) bits ∙ sym b.line

  command-same : (l : Level) (name : List ℕ) (fs : List (List ℕ × TypeId)) (vs : List Plain) (one other : List ℕ) → AreFieldsKnown t fs
      → IsCommandBy (frame_type l fs) t time end name fs vs one → IsCommandBy (frame_type l fs) t time end name fs vs other → one ≡ other
  command-same l name fs vs one other known = go (frame_type l fs) refl
    where
      go : (o : Option TypeId) → frame_type l fs ≡ o → IsCommandBy o t time end name fs vs one → IsCommandBy o t time end name fs vs other → one ≡ other
      go None e a b = a ∙ sym b
      go (Some id) e a b = frame-same name id vs one other (frame-known t l fs id e known) a b

  member-same : (l : Level) (s : Signal) (o : Option Member) (one other : List ℕ) → ((m : Member) → o ≡ Some m → IsKnown t m)
      → IsMemberLine t time end l s o one → IsMemberLine t time end l s o other → one ≡ other
  member-same l s None one other known a b = absurd a
  member-same l s (Some (member.Parameter name id read_only)) one other known a b = a ∙ sym b
  member-same l s (Some (member.Command name args)) one other known a b =
      command-same l name (carried_fields s.way args) s.arguments one other (fields-known t s.way args (known (member.Command name args) refl)) a b

  sent-same : (s : Signal) (o : Option EndPlan) (one other : List ℕ) → ((p : EndPlan) → o ≡ Some p → AreKnown t p)
      → IsSentLine t time end s o one → IsSentLine t time end s o other → one ≡ other
  sent-same s None one other known a b = absurd a
  sent-same s (Some e) one other known a b =
      member-same e.level s (member_in (Some e) s.member) one other (λ m is. known-at (IsKnown t) e.instance.members s.member m is (known e refl)) a b

pub one_line : OneLine
one_line t plan (left time s) one other rules known a b = sent-same t rules time _ s (end_at plan s.end) one other (λ p is. there-known t plan s.end p is known) a b
one_line t plan (stopped time component machine h) one other rules known a b = a ∙ sym b
one_line t plan (refused time e member fault) one other rules known a b = a ∙ sym b
