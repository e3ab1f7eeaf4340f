-- What cutting octets into packets comes to is one thing; and how it is cut packet after packet.
use Rattle.std.proofs.Common.{◌≡◌, ◌≢◌, ℕ, zero, suc, ◌+◌, ◌≤◌, ◌<◌, codes, Bool, true, false, nat_le, List, [], ◌∷◌, ◌++◌, length, take, drop, refl, sym, ◌∙◌, ap, subst, arith, inl, inr, ◌⊎◌}
use Rattle.std.specs.Prelude.{IsSome}
use Rattle.std.proofs.lemmas.Bool.{leb-true, leb-false}
use Rattle.std.proofs.lemmas.List.{append-nil, append_assoc, length-append, length-drop, length-take-le, take-append-drop, take_all}
use Rattle.std.proofs.Math.Seq.{take-append_seam, take-append-add}
use Rattle.eds_base.specs.declared.fault.Fault.{Fault}
use Rattle.eds_base.specs.declared.fault.Reason.{Reason}
use Rattle.eds_base.specs.declared.fault.Reason.TheVariants.{Short, OutOfRange, NoLabel, BadDigit, BadText, Unterminated, FixedDiffers, Constraint, NoDerived, LengthDiffers, CheckDiffers, TooLong, Trailing}
use Rattle.eds_bits.specs.Bits.{Bits, bits_of, octets_for}
use Rattle.eds_overlap.specs.Laws.{EmptyTypes}
use Rattle.eds_types.specs.Failing.{fault_at}
use Rattle.eds_types.specs.Plain.{Plain}
use Rattle.eds_types.specs.Rows.{Table}
use Rattle.eds_types.specs.Rules.{KeepsRules}
use Rattle.eds_types.specs.Spelling.{Spells}
use Rattle.eds_unpack.specs.Packets.{AreCut, Framing, Packet, IsPacket}
use Rattle.eds_unpack.specs.Pieces.{HasOneCut, IsCutUpTo, IsLastFault, OneCut}
use Rattle.eds_unpack.specs.Split.{is_short}
use Rattle.eds_unpack.specs.Splitting.{FailsIn, IsFraming}
use Rattle.eds_unpack.proofs.Cutting.{packet_of}
use Rattle.eds_unpack.proofs.Taking.{octets_there, packet_read}
use Rattle.eds_value.specs.JsonOfValue.{json_text}
use Rattle.eds_cmd.specs.declared.status.Status.{Status}
use Rattle.eds_cmd.specs.declared.status.Status.TheVariants as statuses
use Rattle.eds_cmd.specs.declared.stop.Stop.{Stop}
use Rattle.eds_cmd.specs.Endings.{UpToLimit}
use Rattle.eds_cmd.specs.Limits.{packet_octets, report_octets}
use Rattle.eds_cmd.specs.Split.{HoldsPacket, Splits, TakesPacket, framing_of, packet_failure, packet_lines, packets_line}
use Rattle.eds_cmd.specs.Stops.{IsStop, packet_fault, status_of}
use Rattle.eds_cmd.specs.Target.{IsKnown, TypeIn}

-- ---- packets of a type

-- packets of a type that is known are told by their bits: it is not hollow, and a type that is clear is no open binary
pub framing_for : EmptyTypes → (type : TypeIn) → KeepsRules type.table → IsKnown type → IsFraming (framing_of type)
framing_for empty type rules known = record {
  rules = rules;
  there = known.there;
  clear = known.clear;
  some_bits = λ v spelled. elim ((empty type.table type.id (record { rules = rules; there = known.there })).0 (v, spelled)) [
    | inl hollow ↦ known.solid hollow
    | inr is_open ↦ (let none : false ≡ true = subst IsSome known.clear.not_open is_open in cc)
  ];
  least = omega arith;
}

-- ---- one way

module _ (law : OneCut) (type : TypeIn) (is : IsFraming (framing_of type)) (octets : List ℕ) where
  one : HasOneCut (framing_of type) octets
  one = law (framing_of type) is octets

  -- what cutting comes to is one status with one report
  pub one_way : (s o : Status) (r l : List ℕ) → Splits type octets s r → Splits type octets o l → (s ≡ o) × (r ≡ l)
  one_way s o r l (inl a) (inl b) = (a.status_is ∙ sym b.status_is, rw (a.report_is, b.report_is, one.one_cut a.packets b.packets a.cut b.cut) refl)
  one_way s o r l (inl a) (inr b) = absurd (one.not_both a.packets b.packets (fault_at b.reason b.path) a.cut b.cut)
  one_way s o r l (inr a) (inl b) = absurd (one.not_both b.packets a.packets (fault_at a.reason a.path) b.cut a.cut)
  one_way s o r l (inr a) (inr b) =
      let same = one.one_fault a.packets b.packets (fault_at a.reason a.path) (fault_at b.reason b.path) a.cut b.cut in
      let P : List Packet → Fault → Type 0 = λ ps g. IsStop (packet_fault type.table (length ps + 1) g.reason g.path) s r in
      let told : IsStop (packet_fault type.table (length b.packets + 1) b.reason b.path) s r = subst (P b.packets) same.1 (subst (λ ps. P ps (fault_at a.reason a.path)) same.0 a.stop) in
      (told.status_is ∙ sym b.stop.status_is, told.report_is ∙ sym b.stop.report_is)

  -- and it comes to something: a report of what is done, or a stop
  pub some_way : ((report : List ℕ) × Splits type octets statuses.Done report) ⊎ ((stop : Stop) × Splits type octets (status_of stop.cause) stop.report)
  some_way = go one.either
    where
      go : ((ps : List Packet) × AreCut (framing_of type) ps octets) ⊎ ((ps : List Packet) × (g : Fault) × IsCutUpTo (framing_of type) octets ps g) → ((report : List ℕ) × Splits type octets statuses.Done report) ⊎ ((stop : Stop) × Splits type octets (status_of stop.cause) stop.report)
      go (inl x) = inl (packet_lines type.table x.0 ++ packets_line (length x.0) (length octets), inl (record { packets = x.0; cut = x.1; status_is = refl; report_is = refl }))
      go (inr x) =
          let stop = packet_fault type.table (length x.0 + 1) (x.1).reason (x.1).path in
          inr (stop, inr (record { packets = x.0; reason = (x.1).reason; path = (x.1).path; cut = x.2; stop = record { status_is = refl; report_is = refl } }))

-- ---- one packet

short_is : (r : Reason) → is_short r ≡ true → r ≡ Short
short_is Short h = refl
short_is OutOfRange h = cc
short_is NoLabel h = cc
short_is BadDigit h = cc
short_is BadText h = cc
short_is Unterminated h = cc
short_is FixedDiffers h = cc
short_is Constraint h = cc
short_is NoDerived h = cc
short_is LengthDiffers h = cc
short_is CheckDiffers h = cc
short_is TooLong h = cc
short_is Trailing h = cc

not_short : (r : Reason) → is_short r ≡ false → r ≢ Short
not_short r h e = absurd (cc (h, ap is_short e))

-- the fault that is told of a packet, where reading the octets at its front fails so
pub failure_is : (type : TypeIn) (octets : List ℕ) (g : Fault) → FailsIn (framing_of type) octets g → IsLastFault (framing_of type) octets (packet_failure g (length octets))
failure_is type octets g fails = go (is_short g.reason) refl (nat_le packet_octets (length octets)) refl
  where
    go : (b : Bool) → is_short g.reason ≡ b → (c : Bool) → nat_le packet_octets (length octets) ≡ c → IsLastFault (framing_of type) octets (packet_failure g (length octets))
    go true e true f = rw (e, f) (inl (inr (record { fault = g; fails = fails; short = short_is g.reason e; many = leb-true packet_octets (length octets) f }, refl)))
    go true e false f = rw (e, f) (inr (fails, short_is g.reason e, leb-false packet_octets (length octets) f))
    go false e c f = rw e (inl (inl (fails, not_short g.reason e)))

-- where a value is spelled by the first bits of as many octets as a packet may have, the octets that they fill are a packet
pub packet_is : (type : TypeIn) → IsFraming (framing_of type) → (v : Plain) (octets judged : List ℕ) (n m : ℕ) → judged ≡ take packet_octets octets → m ≡ octets_for n → n ≤ length (bits_of judged)
    → Spells type.table type.id v (take n (bits_of judged)) → HoldsPacket type v octets m
packet_is type is v octets judged n m e o few s =
    let begins = packet_read (framing_of type) octets judged v n m e o few s in
    let within = octets_there packet_octets octets judged n m e o few in
    record { bits = n; begins = begins; some = filled (take n (bits_of judged)) s; within = within }
  where
    filled : (c : Bits) → Spells type.table type.id v c → 1 ≤ m
    filled c spelled = go n o s
      where
        go : (k : ℕ) → m ≡ octets_for k → Spells type.table type.id v (take k (bits_of judged)) → 1 ≤ m
        go zero f t = absurd (is.some_bits v t)
        go (suc k) f t = omega (arith, f)

-- ---- packet after packet

-- a text is these lines, or both are longer than a report may be
abbrev pub AreLines : (text lines : List ℕ) → Type 0
AreLines text lines = (text ≡ lines) ⊎ ((report_octets < length text) × (report_octets < length lines))

-- so many octets are cut into so many packets, whose lines are this text
pub record IsCutTo (type : TypeIn) (octets : List ℕ) (at count : ℕ) (text : List ℕ) : Type 0 where
  pub packets : List Packet
  pub cut : AreCut (framing_of type) packets (take at octets)
  pub count_is : count ≡ length packets
  pub lines : AreLines text (packet_lines type.table packets)
  pub few : count ≤ at
  pub within : at ≤ length octets

pub cut_to_none : (type : TypeIn) (octets : List ℕ) → IsCutTo type octets 0 0 []
cut_to_none type octets = record { packets = []; cut = refl; count_is = refl; lines = inl refl; few = omega arith; within = omega arith }

lines-more : (t : Table) (ps : List Packet) (p : Packet) → packet_lines t (ps ++ p ∷ []) ≡ packet_lines t ps ++ (json_text t p.value ++ codes "\n")
lines-more t [] p = append-nil (json_text t p.value ++ codes "\n")
lines-more t (q ∷ ps) p = ap (λ l. (json_text t q.value ++ codes "\n") ++ l) (lines-more t ps p) ∙ sym (append_assoc (json_text t q.value ++ codes "\n") (packet_lines t ps) (json_text t p.value ++ codes "\n"))

-- one more packet behind others
cut_more : (k : Framing) (ps : List Packet) (p : Packet) (octets others : List ℕ) → AreCut k ps octets → IsPacket k p others → AreCut k (ps ++ p ∷ []) (octets ++ others)
cut_more k [] p octets others none is = rw none (others, [], sym (append-nil others), is, refl)
cut_more k (q ∷ ps) p octets others cut is = (cut.0, cut.1 ++ others, ap (λ xs. xs ++ others) cut.2 ∙ append_assoc cut.0 cut.1 others, cut.3, cut_more k ps p cut.1 others cut.4 is)

take-more : (i j : ℕ) (xs : List ℕ) → i ≤ length xs → take (i + j) xs ≡ take i xs ++ take j (drop i xs)
take-more i j xs within =
    let size : length (take i xs) ≡ i = length-take-le i xs within in
    ap (λ n. take (n + j) xs) (sym size) ∙ ap (take (length (take i xs) + j)) (sym (take-append-drop i xs)) ∙ take-append-add (take i xs) (drop i xs) j

-- the front of what begins with a packet
front_is : (type : TypeIn) (value : Plain) (octets : List ℕ) (size : ℕ) (h : HoldsPacket type value octets size) → h.begins.front ≡ take size octets
front_is type value octets size h =
    let front : List ℕ = h.begins.front in
    let rest : List ℕ = drop size octets in
    let e : front ++ rest ≡ take size octets ++ rest = sym h.begins.is ∙ sym (take-append-drop size octets) in
    let same : length front ≡ length (take size octets) = omega (arith, ap length e, length-append front rest, length-append (take size octets) rest) in
    sym (take-append_seam front rest) ∙ ap (take (length front)) e ∙ ap (λ n. take n (take size octets ++ rest)) same ∙ take-append_seam (take size octets) rest

-- one more line, or none behind lines that are longer than a report may be
lines_up : (t : Table) (ps : List Packet) (p : Packet) (text longer : List ℕ) → AreLines text (packet_lines t ps)
    → (longer ≡ text ++ (json_text t p.value ++ codes "\n")) ⊎ ((report_octets < length text) × (longer ≡ text)) → AreLines longer (packet_lines t (ps ++ p ∷ []))
lines_up t ps p text longer lines put = go lines put
  where
    line : List ℕ
    line = json_text t p.value ++ codes "\n"

    more : length (packet_lines t (ps ++ p ∷ [])) ≡ length (packet_lines t ps) + length line
    more = ap length (lines-more t ps p) ∙ length-append (packet_lines t ps) line

    go : AreLines text (packet_lines t ps) → (longer ≡ text ++ line) ⊎ ((report_octets < length text) × (longer ≡ text)) → AreLines longer (packet_lines t (ps ++ p ∷ []))
    go (inl e) (inl is) = inl (is ∙ ap (λ l. l ++ line) e ∙ sym (lines-more t ps p))
    go (inl e) (inr left) = inr (omega (arith, left.0, ap length left.1), omega (arith, left.0, ap length e, more))
    go (inr past) (inl is) = inr (omega (arith, past.0, ap length is, length-append text line), omega (arith, past.1, more))
    go (inr past) (inr left) = inr (omega (arith, past.0, ap length left.1), omega (arith, past.1, more))

-- one more packet
pub cut_to_more : (type : TypeIn) (octets : List ℕ) (at count size : ℕ) (text longer : List ℕ) → IsCutTo type octets at count text → TakesPacket type (drop at octets) size text longer
    → IsCutTo type octets (at + size) (count + 1) longer
cut_to_more type octets at count size text longer k taken =
    let h = taken.holds in
    let p : Packet = packet_of taken.value h.bits in
    let packet : IsPacket (framing_of type) p (take size (drop at octets)) = subst (IsPacket (framing_of type) p) (front_is type taken.value (drop at octets) size h) h.begins.spelled in
    record {
      packets = k.packets ++ p ∷ [];
      cut = subst (AreCut (framing_of type) (k.packets ++ p ∷ [])) (sym (take-more at size octets k.within)) (cut_more (framing_of type) k.packets p (take at octets) (take size (drop at octets)) k.cut packet);
      count_is = omega (arith, k.count_is, length-append k.packets (p ∷ []));
      lines = lines_up type.table k.packets p text longer k.lines taken.line;
      few = omega (arith, k.few, h.some);
      within = omega (arith, k.within, h.within, length-drop at octets);
    }

-- the report of packets, whose lines may have been left out
report_up : (type : TypeIn) (octets : List ℕ) (packets : List Packet) (text report : List ℕ) → AreCut (framing_of type) packets octets → AreLines text (packet_lines type.table packets)
    → report ≡ text ++ packets_line (length packets) (length octets) → UpToLimit (Splits type octets) statuses.Done report
report_up type octets packets text report cut (inl e) is = inl (inl (record { packets = packets; cut = cut; status_is = refl; report_is = is ∙ rw e refl }))
report_up type octets packets text report cut (inr past) is =
    let line = packets_line (length packets) (length octets) in
    let lines = packet_lines type.table packets in
    inr (record {
      status_is = refl;
      past = omega (arith, past.0, ap length is, length-append text line);
      whole = lines ++ line;
      says = inl (record { packets = packets; cut = cut; status_is = refl; report_is = refl });
      whole_past = omega (arith, past.1, length-append lines line);
    })

-- all octets are cut
pub split_by : (type : TypeIn) (octets : List ℕ) (at count : ℕ) (text report : List ℕ) → IsCutTo type octets at count text → length octets ≤ at
    → report ≡ text ++ packets_line count (length octets) → UpToLimit (Splits type octets) statuses.Done report
split_by type octets at count text report k all is =
    let cut = subst (AreCut (framing_of type) k.packets) (take_all at octets all) k.cut in
    report_up type octets k.packets text report cut k.lines (is ∙ ap (λ n. text ++ packets_line n (length octets)) k.count_is)

-- what follows can't be read
pub cut_off_by : (type : TypeIn) (octets : List ℕ) (at count : ℕ) (text : List ℕ) (fault : Fault) (stop : Stop) → IsCutTo type octets at count text → at < length octets
    → IsLastFault (framing_of type) (drop at octets) fault → stop ≡ packet_fault type.table (count + 1) fault.reason fault.path → UpToLimit (Splits type octets) (status_of stop.cause) stop.report
cut_off_by type octets at count text fault stop k longer fails is =
    let told : stop ≡ packet_fault type.table (length k.packets + 1) fault.reason fault.path = is ∙ ap (λ n. packet_fault type.table (n + 1) fault.reason fault.path) k.count_is in
    inl (inr (record {
      packets = k.packets;
      reason = fault.reason;
      path = fault.path;
      cut = record { front = take at octets; rest = drop at octets; is = sym (take-append-drop at octets); cut = k.cut; some = λ e. omega (arith, longer, ap length e, length-drop at octets); fails = fails };
      stop = record { status_is = ap (λ (s : Stop). status_of s.cause) told; report_is = ap (λ (s : Stop). s.report) told };
    }))
