-- Octets are split in one way, whatever the pieces in which they come.
use Rattle.eds_base.specs.declared.fault.Fault.{Fault}
use Rattle.eds_base.specs.declared.fault.Reason.{Reason}
use Rattle.eds_base.specs.declared.fault.Reason.TheVariants.{Short, OutOfRange, NoLabel, BadDigit, BadText, Unterminated, FixedDiffers, Constraint, NoDerived, LengthDiffers, CheckDiffers, TooLong, Trailing}
use Rattle.std.proofs.Common.{◌≡◌, ◌≢◌, ◌↔◌, ℕ, zero, Bool, true, false, nat_lt, suc, ◌+◌, ◌<◌, ◌≤◌, List, [], ◌∷◌, ◌++◌, length, take, drop, refl, sym, ap, subst, ◌∙◌, ◌⊎◌, inl, inr, append_assoc, append-nil, arith, length-append, length-drop}
use Rattle.std.proofs.lemmas.Bool.Decides.{nat_tests}
use Rattle.std.proofs.lemmas.List.{length-take}
use Rattle.eds_bits.specs.Bits.{Bits, bits_of, octets_for}
use Rattle.eds_bits.proofs.OctetLaws.{length-bits_of}
use Rattle.eds_types.specs.Failing.{FailsAt, fault_here}
use Rattle.eds_types.specs.Plain.{Plain}
use Rattle.eds_types.specs.Spelling.{Spells}
use Rattle.eds_overlap.proofs.Theorems.{one_outcome}
use Rattle.eds_unpack.specs.Packets.{Framing, Packet, AreCut}
use Rattle.eds_unpack.specs.Splitting.{Splitting, IsFraming, FailsIn, Answer, packet, more, refused, BeginsWith, Takes, Feeds}
use Rattle.eds_unpack.specs.Pieces.{Event, fed, asked, AllHappen, octets_fed, packet_in, packets_taken, EndsWith, IsSplit, OneSplit, WholeCut, PiecesDontMatter}
use Rattle.eds_unpack.proofs.Cutting.{packet_of, readable, one_packet, packet_at, no_packet, one_end}

-- ---- tests

short_or_not : (r : Reason) → (r ≡ Short) ⊎ (r ≢ Short)
short_or_not Short = inl refl
short_or_not OutOfRange = inr (λ e. absurd cc)
short_or_not NoLabel = inr (λ e. absurd cc)
short_or_not BadDigit = inr (λ e. absurd cc)
short_or_not BadText = inr (λ e. absurd cc)
short_or_not Unterminated = inr (λ e. absurd cc)
short_or_not FixedDiffers = inr (λ e. absurd cc)
short_or_not Constraint = inr (λ e. absurd cc)
short_or_not NoDerived = inr (λ e. absurd cc)
short_or_not LengthDiffers = inr (λ e. absurd cc)
short_or_not CheckDiffers = inr (λ e. absurd cc)
short_or_not TooLong = inr (λ e. absurd cc)
short_or_not Trailing = inr (λ e. absurd cc)

few_or_many : (a b : ℕ) → (a < b) ⊎ (b ≤ a)
few_or_many a b = go (nat_lt a b) refl
  where
    go : (t : Bool) → nat_lt a b ≡ t → (a < b) ⊎ (b ≤ a)
    go true e = inl (grind (arith, nat_tests))
    go false e = inr (grind (arith, nat_tests))

-- ---- two cuts of the same octets

module _ (k : Framing) (is : IsFraming k) where
  first_of : (p : Packet) (ps : List Packet) (o front rest : List ℕ) → o ≡ front ++ rest → AreCut k (p ∷ ps) front → (r : List ℕ) × BeginsWith k p o (r ++ rest) × AreCut k ps r
  first_of p ps o front rest e c =
      let f = c.0 in
      let r = c.1 in
      (r, record { front = f; is = e ∙ ap (λ z. z ++ rest) c.2 ∙ append_assoc f r rest; spelled = c.3 }, c.4)

  -- the packets of one cut are the first ones of another one, behind which no packet stands
  pub firsts : (ps qs : List Packet) (o front rest whole end : List ℕ) (a : Answer) → o ≡ front ++ rest → AreCut k ps front → o ≡ whole ++ end → AreCut k qs whole → EndsWith k end a → (others : List Packet) × (qs ≡ ps ++ others)
  firsts [] qs o front rest whole end a e c f d x = (qs, refl)
  firsts (p ∷ ps) [] o front rest whole end a e c f d x =
      let h = first_of p ps o front rest e c in
      absurd (no_packet k is end (h.0 ++ rest) a p x (subst (λ z. BeginsWith k p z (h.0 ++ rest)) (f ∙ ap (λ z. z ++ end) d) h.1))
  firsts (p ∷ ps) (q ∷ qs) o front rest whole end a e c f d x =
      let h = first_of p ps o front rest e c in
      let j = first_of q qs o whole end f d in
      let one = one_packet k is p q o (h.0 ++ rest) (j.0 ++ end) h.1 j.1 in
      let more = firsts ps qs (h.0 ++ rest) h.0 rest j.0 end a refl h.2 one.rest j.2 x in
      (more.0, ap (λ z. z ∷ qs) (sym one.packet) ∙ ap (λ z. p ∷ z) more.1)

  -- two cuts behind which no packet stands are the same
  pub same_cut : (ps qs : List Packet) (o front rest whole end : List ℕ) (a b : Answer) → o ≡ front ++ rest → AreCut k ps front → EndsWith k rest a → o ≡ whole ++ end → AreCut k qs whole → EndsWith k end b → (ps ≡ qs) × (rest ≡ end)
  same_cut [] [] o front rest whole end a b e c x f d y = (refl, ap (λ z. z ++ rest) (sym c) ∙ sym e ∙ f ∙ ap (λ z. z ++ end) d)
  same_cut [] (q ∷ qs) o front rest whole end a b e c x f d y =
      let j = first_of q qs o whole end f d in
      absurd (no_packet k is rest (j.0 ++ end) a q x (subst (λ z. BeginsWith k q z (j.0 ++ end)) (e ∙ ap (λ z. z ++ rest) c) j.1))
  same_cut (p ∷ ps) [] o front rest whole end a b e c x f d y =
      let h = first_of p ps o front rest e c in
      absurd (no_packet k is end (h.0 ++ rest) b p y (subst (λ z. BeginsWith k p z (h.0 ++ rest)) (f ∙ ap (λ z. z ++ end) d) h.1))
  same_cut (p ∷ ps) (q ∷ qs) o front rest whole end a b e c x f d y =
      let h = first_of p ps o front rest e c in
      let j = first_of q qs o whole end f d in
      let one = one_packet k is p q o (h.0 ++ rest) (j.0 ++ end) h.1 j.1 in
      let more = same_cut ps qs (h.0 ++ rest) h.0 rest j.0 end a b refl h.2 x one.rest j.2 y in
      (ap (λ z. z ∷ ps) one.packet ∙ ap (λ z. q ∷ z) more.0, more.1)

  pub only_split : (o : List ℕ) (ps qs : List Packet) (a b : Answer) (r s : List ℕ) → IsSplit k o ps a r → IsSplit k o qs b s → (ps ≡ qs) × (a ≡ b) × (r ≡ s)
  only_split o ps qs a b r s h j =
      let same = same_cut ps qs o h.front r j.front s a b h.is h.cut h.ends j.is j.cut j.ends in
      (same.0, one_end k is r a b h.ends (subst (λ z. EndsWith k z b) (sym same.1) j.ends), same.1)

  -- ---- octets that are packets and nothing else

  some_octets : (v : Plain) (c : Bits) → Spells k.table k.id v c → 1 ≤ length c
  some_octets v [] s = absurd (is.some_bits v s)
  some_octets v (b ∷ c) s = omega arith

  not_empty : (p : Packet) (o r : List ℕ) → o ≡ [] → BeginsWith k p o r → ⊥
  not_empty p o r e h =
      let a : length o ≡ length h.front + length r = ap length h.is ∙ length-append h.front r in
      let b = length-bits_of h.front in
      let c : length (bits_of h.front) ≡ length h.spelled.spelling + length h.spelled.fill = ap length h.spelled.bits ∙ length-append h.spelled.spelling h.spelled.fill in
      let d = some_octets p.value h.spelled.spelling h.spelled.spelled in
      let f : length o ≡ 0 = ap length e in
      omega (arith, a, b, c, d, f)

  all_cut : (qs ps : List Packet) (o front rest : List ℕ) (a : Answer) → AreCut k qs o → o ≡ front ++ rest → AreCut k ps front → EndsWith k rest a → (rest ≡ []) × (qs ≡ ps)
  all_cut [] [] o front rest a d e c x = (sym (e ∙ ap (λ z. z ++ rest) c) ∙ d, refl)
  all_cut [] (p ∷ ps) o front rest a d e c x = let h = first_of p ps o front rest e c in absurd (not_empty p o (h.0 ++ rest) d h.1)
  all_cut (q ∷ qs) [] o front rest a d e c x =
      let j = first_of q qs o o [] (sym (append-nil o)) d in
      absurd (no_packet k is rest (j.0 ++ []) a q x (subst (λ z. BeginsWith k q z (j.0 ++ [])) (e ∙ ap (λ z. z ++ rest) c) j.1))
  all_cut (q ∷ qs) (p ∷ ps) o front rest a d e c x =
      let h = first_of p ps o front rest e c in
      let j = first_of q qs o o [] (sym (append-nil o)) d in
      let one = one_packet k is q p o (j.0 ++ []) (h.0 ++ rest) j.1 h.1 in
      let more = all_cut qs ps j.0 h.0 rest a j.2 (sym (append-nil j.0) ∙ one.rest) h.2 x in
      (more.0, ap (λ z. z ∷ qs) one.packet ∙ ap (λ z. p ∷ z) more.1)

  pub whole_cut : (o : List ℕ) (ps : List Packet) (a : Answer) (rest : List ℕ) → IsSplit k o ps a rest → (qs : List Packet) → AreCut k qs o ↔ ((rest ≡ []) × (qs ≡ ps))
  whole_cut o ps a rest s qs = (
    (λ d. all_cut qs ps o s.front rest a d s.is s.cut s.ends),
    (λ e. subst (λ z. AreCut k z o) (sym e.1) (subst (AreCut k ps) (sym (s.is ∙ ap (λ z. s.front ++ z) e.0 ∙ append-nil s.front)) s.cut)),
  )

  -- ---- a split is found

  pub record Split (o : List ℕ) : Type 0 where
    pub packets : List Packet
    pub last : Answer
    pub rest : List ℕ
    pub split : IsSplit k o packets last rest

  at_once : (o : List ℕ) (a : Answer) → EndsWith k o a → Split o
  at_once o a x = record { packets = []; last = a; rest = o; split = record { front = []; is = refl; cut = refl; ends = x } }

  behind : (p : Packet) (o r : List ℕ) → BeginsWith k p o r → Split r → Split o
  behind p o r h s = record {
    packets = p ∷ s.packets;
    last = s.last;
    rest = s.rest;
    split = record {
      front = h.front ++ s.split.front;
      is = h.is ∙ ap (λ z. h.front ++ z) s.split.is ∙ sym (append_assoc h.front s.split.front s.rest);
      cut = (h.front, s.split.front, refl, h.spelled, s.split.cut);
      ends = s.split.ends;
    };
  }

  stopped : (o : List ℕ) (g : Fault) → FailsIn k o g → Split o
  stopped o g f = by_reason (short_or_not g.reason)
    where
      by_size : g.reason ≡ Short → (length o < k.most) ⊎ (k.most ≤ length o) → Split o
      by_size e (inl few) = at_once o more (record { fault = g; fails = f; short = e; few = few })
      by_size e (inr many) = at_once o (refused (fault_here TooLong)) (inr (record { fault = g; fails = f; short = e; many = many }, refl))

      by_reason : (g.reason ≡ Short) ⊎ (g.reason ≢ Short) → Split o
      by_reason (inl e) = by_size e (few_or_many (length o) k.most)
      by_reason (inr n) = at_once o (refused g) (inl (f, n))

  none_begin : (o : List ℕ) (v : Plain) (c rest : Bits) → length o ≤ 0 → bits_of (take k.most o) ≡ c ++ rest → Spells k.table k.id v c → ⊥
  none_begin o v c rest l e s =
      let a = length-bits_of (take k.most o) in
      let b = length-take k.most o in
      let d : length (bits_of (take k.most o)) ≡ length c + length rest = ap length e ∙ length-append c rest in
      let f = some_octets v c s in
      omega (arith, a, b, d, f)

  fewer : (n m : ℕ) (o : List ℕ) → length o ≤ suc n → 1 ≤ m → length (drop (octets_for m) o) ≤ n
  fewer n m o l s = let e = length-drop (octets_for m) o in omega arith

  abbrev Begun : List ℕ → Type 0
  Begun o = ((v : Plain) × (c : Bits) × (rest : Bits) × (bits_of (take k.most o) ≡ c ++ rest) × Spells k.table k.id v c) ⊎ ((g : Fault) × FailsAt k.table k.id (bits_of (take k.most o)) g)

  split_none : (o : List ℕ) → length o ≤ 0 → Begun o → Split o
  split_none o l (inl h) = absurd (none_begin o h.0 h.1 h.2 l h.3 h.4)
  split_none o l (inr f) = stopped o f.0 f.1

  split_some : (n : ℕ) (o : List ℕ) → length o ≤ suc n → ((r : List ℕ) → length r ≤ n → Split r) → Begun o → Split o
  split_some n o l then (inl h) =
      let m = octets_for (length h.1) in
      behind (packet_of h.0 (length h.1)) o (drop m o) (packet_at k o h.0 h.1 h.2 h.3 h.4) (then (drop m o) (fewer n (length h.1) o l (some_octets h.0 h.1 h.4)))
  split_some n o l then (inr f) = stopped o f.0 f.1

  pub split_within : (n : ℕ) (o : List ℕ) → length o ≤ n → Split o
  split_within zero o l = split_none o l (one_outcome k.table k.id (readable k is) (bits_of (take k.most o))).either
  split_within (suc n) o l = split_some n o l (split_within n) (one_outcome k.table k.id (readable k is) (bits_of (take k.most o))).either

-- ---- calls, one after the other

record Folded (s : Splitting) (es : List Event) (u : Splitting) : Type 0 where
  front : List ℕ
  octets : s.held ++ octets_fed es ≡ front ++ u.held
  cut : AreCut s.framing (packets_taken es) front
  framing : u.framing ≡ s.framing

pair_fold : (s m u : Splitting) (piece : List ℕ) (es : List Event) → Feeds s piece m → Folded m es u → Folded s (fed piece ∷ es) u
pair_fold s m u piece es h f = record {
  front = f.front;
  octets =
      ap (λ z. s.held ++ z) refl
      ∙ sym (append_assoc s.held piece (octets_fed es))
      ∙ ap (λ (x : Splitting). x.held ++ octets_fed es) (sym h.is)
      ∙ f.octets;
  cut = subst (λ (x : Splitting). AreCut x.framing (packets_taken es) f.front) h.is f.cut;
  framing = f.framing ∙ ap (λ (x : Splitting). x.framing) h.is;
}

same_fold : (s m u : Splitting) (a : Answer) (es : List Event) → packet_in a ≡ [] → m ≡ s → Folded m es u → Folded s (asked a ∷ es) u
same_fold s m u a es none e f = record {
  front = f.front;
  octets = ap (λ (x : Splitting). x.held ++ octets_fed es) (sym e) ∙ f.octets;
  cut = subst (λ ps. AreCut s.framing (ps ++ packets_taken es) f.front) (sym none) (subst (λ (x : Splitting). AreCut x.framing (packets_taken es) f.front) e f.cut);
  framing = f.framing ∙ ap (λ (x : Splitting). x.framing) e;
}

packet_fold : (s m u : Splitting) (p : Packet) (es : List Event) → BeginsWith s.framing p s.held m.held → m.framing ≡ s.framing → Folded m es u → Folded s (asked (packet p) ∷ es) u
packet_fold s m u p es h e f = record {
  front = h.front ++ f.front;
  octets =
      ap (λ z. z ++ octets_fed es) h.is
      ∙ append_assoc h.front m.held (octets_fed es)
      ∙ ap (λ z. h.front ++ z) f.octets
      ∙ sym (append_assoc h.front f.front u.held);
  cut = (h.front, f.front, refl, h.spelled, subst (λ k. AreCut k (packets_taken es) f.front) e f.cut);
  framing = f.framing ∙ e;
}

fold : (s : Splitting) (es : List Event) (u : Splitting) → AllHappen s es u → Folded s es u
fold s [] u h = record { front = []; octets = append-nil s.held ∙ ap (λ (x : Splitting). x.held) (sym h); cut = refl; framing = ap (λ (x : Splitting). x.framing) h }
fold s (fed piece ∷ es) u h = pair_fold s h.0 u piece es h.1 (fold h.0 es u h.2)
fold s (asked (packet p) ∷ es) u h = packet_fold s h.0 u p es h.1.0 h.1.1 (fold h.0 es u h.2)
fold s (asked more ∷ es) u h = same_fold s h.0 u more es refl h.1.1 (fold h.0 es u h.2)
fold s (asked (refused g) ∷ es) u h = same_fold s h.0 u (refused g) es refl h.1.1 (fold h.0 es u h.2)

-- ---- the laws

pub one_split : OneSplit
one_split k is octets =
    let s = split_within k is (length octets) octets (omega arith) in
    record { packets = s.packets; last = s.last; rest = s.rest; is = s.split; only = λ ps a r h. only_split k is octets ps s.packets a s.last r s.rest h s.split }

pub whole_cut_law : WholeCut
whole_cut_law k is octets ps last rest s qs = whole_cut k is octets ps last rest s qs

-- what a call answers that gives no packet
ends_with : (u w : Splitting) (a : Answer) → packet_in a ≡ [] → Takes u a w → EndsWith u.framing u.held a
ends_with u w (packet p) none h = absurd (let e : p ∷ [] ≡ [] = none in cc)
ends_with u w more none h = h.0
ends_with u w (refused g) none h = h.0

pub pieces_dont_matter : PiecesDontMatter
pieces_dont_matter k is s u es start h = record {
  first = λ qs last rest split. firsts k is (packets_taken es) qs (octets_fed es) f.front u.held split.front rest last octets cut split.is split.cut split.ends;
  whole = λ a w none t. record { front = f.front; is = octets; cut = cut; ends = subst (λ x. EndsWith x u.held a) framing (ends_with u w a none t) };
}
  where
    f : Folded s es u
    f = fold s es u h

    octets : octets_fed es ≡ f.front ++ u.held
    octets = ap (λ (x : Splitting). x.held ++ octets_fed es) (sym start) ∙ f.octets

    cut : AreCut k (packets_taken es) f.front
    cut = subst (λ (x : Splitting). AreCut x.framing (packets_taken es) f.front) start f.cut

    framing : u.framing ≡ k
    framing = f.framing ∙ ap (λ (x : Splitting). x.framing) start
