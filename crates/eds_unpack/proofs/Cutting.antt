-- What octets begin with: one packet, or one answer that is none.
use Rattle.eds_base.specs.declared.fault.Fault.{Fault}
use Rattle.eds_base.specs.declared.fault.Reason.TheVariants.{Short}
use Rattle.std.proofs.Common.{◌≡◌, ◌≢◌, ℕ, ◌+◌, ◌-◌, ◌*◌, ◌/◌, ◌≤◌, List, ◌++◌, length, take, drop, refl, sym, ap, ◌∙◌, inl, inr, append_assoc, arith, take-append-drop, length-append, length-drop}
use Rattle.std.proofs.lemmas.List.{length-take, length-take-le, take-take, take_at, drop_at}
use Rattle.eds_bits.specs.Bits.{Bits, bits_of, octets_for}
use Rattle.eds_bits.proofs.OctetLaws.{length-bits_of, bits_of-append, take-bits_of}
use Rattle.eds_types.specs.Plain.{Plain}
use Rattle.eds_types.specs.Spelling.{Spells}
use Rattle.eds_overlap.specs.Laws.{IsReadable}
use Rattle.eds_overlap.proofs.Theorems.{one_outcome}
use Rattle.eds_unpack.specs.Packets.{Framing, Packet, IsPacket}
use Rattle.eds_unpack.specs.Splitting.{Splitting, IsFraming, FailsIn, WantsMore, IsRefused, Answer, packet, more, refused, BeginsWith, Takes}
use Rattle.eds_unpack.specs.Pieces.{EndsWith}

-- ---- lists

-- two ways to part a list whose first parts are as long
same_parts : {A : Type 0} (xs ys us vs : List A) → length xs ≡ length us → xs ++ ys ≡ us ++ vs → (xs ≡ us) × (ys ≡ vs)
same_parts xs ys us vs l e = (
  sym (take_at xs ys (length xs) refl) ∙ ap (take (length xs)) e ∙ take_at us vs (length xs) (sym l),
  sym (drop_at xs ys (length xs) refl) ∙ ap (drop (length xs)) e ∙ drop_at us vs (length xs) (sym l),
)

-- the first n items are those of the front, and some more
over : {A : Type 0} (n : ℕ) (all front rest : List A) → all ≡ front ++ rest → length front ≤ n → take n all ≡ front ++ drop (length front) (take n all)
over n all front rest e l =
    sym (take-append-drop (length front) (take n all))
    ∙ ap (λ z. z ++ drop (length front) (take n all)) (take-take (length front) n all l ∙ ap (take (length front)) e ∙ take_at front rest (length front) refl)

-- ---- packets

abbrev pub packet_of : Plain → ℕ → Packet
packet_of v n = record { value = v; size = n }

pub readable : (k : Framing) → IsFraming k → IsReadable k.table k.id
readable k h = record { rules = h.rules; there = h.there; clear = h.clear }

-- the bits that are judged begin with the spelling of the packet
begins : (k : Framing) (p : Packet) (o r : List ℕ) → (h : BeginsWith k p o r) → (after : Bits) × (bits_of (take k.most o) ≡ h.spelled.spelling ++ after)
begins k p o r h =
    let s = h.spelled in
    let x = drop (length h.front) (take k.most o) in
    let e : take k.most o ≡ h.front ++ x = over k.most o h.front r h.is s.within in
    (s.fill ++ bits_of x, ap bits_of e ∙ bits_of-append h.front x ∙ ap (λ z. z ++ bits_of x) s.bits ∙ append_assoc s.spelling s.fill (bits_of x))

same_size : (a b c d e f : ℕ) → 8 * a ≡ c + d → 8 * b ≡ e + f → c ≡ e → d ≤ 7 → f ≤ 7 → a ≡ b
same_size a b c d e f p q r s t = omega arith

size_of : (k : Framing) (p : Packet) (o : List ℕ) → (h : IsPacket k p o) → 8 * length o ≡ length h.spelling + length h.fill
size_of k p o h = sym (length-bits_of o) ∙ ap length h.bits ∙ length-append h.spelling h.fill

pub record SameFront (p q : Packet) (f g r s : List ℕ) : Type 0 where
  pub packet : p ≡ q
  pub front : f ≡ g
  pub rest : r ≡ s

-- one packet stands at the front
pub one_packet : (k : Framing) → IsFraming k → (p q : Packet) (o r s : List ℕ) → (h : BeginsWith k p o r) → (j : BeginsWith k q o s) → SameFront p q h.front j.front r s
one_packet k is p q o r s h j =
    let a = begins k p o r h in
    let b = begins k q o s j in
    let one : (p.value ≡ q.value) × (h.spelled.spelling ≡ j.spelled.spelling) = (one_outcome k.table k.id (readable k is) (bits_of (take k.most o))).one_value p.value q.value h.spelled.spelling j.spelled.spelling a.0 b.0 a.1 b.1 h.spelled.spelled j.spelled.spelled in
    let spellings : length h.spelled.spelling ≡ length j.spelled.spelling = ap length one.1 in
    let sizes : p.size ≡ q.size = sym h.spelled.size ∙ spellings ∙ j.spelled.size in
    let fronts : length h.front ≡ length j.front = same_size (length h.front) (length j.front) _ _ _ _ (size_of k p h.front h.spelled) (size_of k q j.front j.spelled) spellings h.spelled.few j.spelled.few in
    let parts = same_parts h.front r j.front s fronts (sym h.is ∙ j.is) in
    record { packet = ap (λ v. packet_of v p.size) one.0 ∙ ap (packet_of q.value) sizes; front = parts.0; rest = parts.1 }

-- a packet stands there, or reading fails
pub not_both : (k : Framing) → IsFraming k → (p : Packet) (o r : List ℕ) (g : Fault) → BeginsWith k p o r → FailsIn k o g → ⊥
not_both k is p o r g h f =
    let a = begins k p o r h in
    (one_outcome k.table k.id (readable k is) (bits_of (take k.most o))).not_both p.value h.spelled.spelling a.0 g a.1 h.spelled.spelled f

pub one_fault : (k : Framing) → IsFraming k → (o : List ℕ) (g h : Fault) → FailsIn k o g → FailsIn k o h → g ≡ h
one_fault k is o g h = (one_outcome k.table k.id (readable k is) (bits_of (take k.most o))).one_place g h

-- ---- what is read there

enough : (n m l t : ℕ) → 8 * l ≡ n + m → t ≡ (n + 7) / 8 → t ≤ l
enough n m l t e q = omega arith

few_bits : (n t : ℕ) → t ≡ (n + 7) / 8 → 8 * t - n ≤ 7
few_bits n t q = omega arith

filled : (n t : ℕ) → t ≡ (n + 7) / 8 → n ≤ 8 * t
filled n t q = omega arith

-- the packet whose spelling the bits that are judged begin with
pub packet_at : (k : Framing) (o : List ℕ) (v : Plain) (c rest : Bits) → bits_of (take k.most o) ≡ c ++ rest → Spells k.table k.id v c → BeginsWith k (packet_of v (length c)) o (drop (octets_for (length c)) o)
packet_at k o v c rest e s =
    let n = octets_for (length c) in
    let whole : 8 * length (take k.most o) ≡ length c + length rest = sym (length-bits_of (take k.most o)) ∙ ap length e ∙ length-append c rest in
    let few : n ≤ length (take k.most o) = enough (length c) (length rest) _ n whole refl in
    let within : n ≤ k.most = omega (arith, few, length-take k.most o) in
    let there : n ≤ length o = omega (arith, few, length-take k.most o) in
    let size : length (take n o) ≡ n = length-take-le n o there in
    let fill = drop (length c) (take (8 * n) (bits_of (take k.most o))) in
    let bits : bits_of (take n o) ≡ c ++ fill =
    ap bits_of (sym (take-take n k.most o within)) ∙ sym (take-bits_of n (take k.most o)) ∙ over (8 * n) (bits_of (take k.most o)) c rest e (filled (length c) n refl) in
    let some : length fill ≤ 7 =
    (let a : length fill ≡ length (take (8 * n) (bits_of (take k.most o))) - length c = length-drop (length c) (take (8 * n) (bits_of (take k.most o))) in
    let b = length-take (8 * n) (bits_of (take k.most o)) in
    omega (arith, a, b, few_bits (length c) n refl)) in
    record {
      front = take n o;
      is = sym (take-append-drop n o);
      spelled = record { within = omega (arith, size, within); spelling = c; fill = fill; bits = bits; spelled = s; size = refl; few = some };
    }

-- ---- what is none

not_short : (k : Framing) → IsFraming k → (o : List ℕ) (g h : Fault) → FailsIn k o g → FailsIn k o h → (g.reason ≢ Short) → h.reason ≡ Short → ⊥
not_short k is o g h f j n e = n (ap (λ (x : Fault). x.reason) (one_fault k is o g h f j) ∙ e)

pub one_refusal : (k : Framing) → IsFraming k → (o : List ℕ) (g h : Fault) → IsRefused k o g → IsRefused k o h → g ≡ h
one_refusal k is o g h (inl a) (inl b) = one_fault k is o g h a.0 b.0
one_refusal k is o g h (inl a) (inr b) = absurd (not_short k is o g b.0.fault a.0 b.0.fails a.1 b.0.short)
one_refusal k is o g h (inr a) (inl b) = absurd (not_short k is o h a.0.fault b.0 a.0.fails b.1 a.0.short)
one_refusal k is o g h (inr a) (inr b) = a.1 ∙ sym b.1

pub wants_or_refused : (k : Framing) → IsFraming k → (o : List ℕ) (g : Fault) → WantsMore k o → IsRefused k o g → ⊥
wants_or_refused k is o g w (inl b) = not_short k is o g w.fault b.0 w.fails b.1 w.short
wants_or_refused k is o g w (inr b) = let few = w.few in let many = b.0.many in omega arith

fault_of : (k : Framing) (o : List ℕ) (g : Fault) → IsRefused k o g → (h : Fault) × FailsIn k o h
fault_of k o g (inl a) = (g, a.0)
fault_of k o g (inr a) = (a.0.fault, a.0.fails)

-- octets that begin with no packet have one answer
pub one_end : (k : Framing) → IsFraming k → (o : List ℕ) (a b : Answer) → EndsWith k o a → EndsWith k o b → a ≡ b
one_end k is o more more x y = refl
one_end k is o more (refused h) x y = absurd (wants_or_refused k is o h x y)
one_end k is o (refused g) more x y = absurd (wants_or_refused k is o g y x)
one_end k is o (refused g) (refused h) x y = ap refused (one_refusal k is o g h x y)
one_end k is o (packet p) b x y = absurd x
one_end k is o a (packet q) x y = absurd y

-- and begin with no packet
pub no_packet : (k : Framing) → IsFraming k → (o r : List ℕ) (a : Answer) (p : Packet) → EndsWith k o a → BeginsWith k p o r → ⊥
no_packet k is o r more p x h = not_both k is p o r x.fault h x.fails
no_packet k is o r (refused g) p x h = let f = fault_of k o g x in not_both k is p o r f.0 h f.1
no_packet k is o r (packet q) p x h = x

-- ---- one answer

abbrev splitting_of : Framing → List ℕ → Splitting
splitting_of f o = record { framing = f; held = o }

same_splitting : (s u : Splitting) → s.framing ≡ u.framing → s.held ≡ u.held → s ≡ u
same_splitting s u p q = ap (λ f. splitting_of f s.held) p ∙ ap (splitting_of u.framing) q

-- from one splitter a call gives one answer and leaves one splitter
pub one_answer : (s u w : Splitting) (a b : Answer) → IsFraming s.framing → Takes s a u → Takes s b w → (a ≡ b) × (u ≡ w)
one_answer s u w (packet p) (packet q) is x y = let e = one_packet s.framing is p q s.held u.held w.held x.0 y.0 in (ap packet e.packet, same_splitting u w (x.1 ∙ sym y.1) e.rest)
one_answer s u w (packet p) more is x y = absurd (no_packet s.framing is s.held u.held more p y.0 x.0)
one_answer s u w (packet p) (refused g) is x y = absurd (no_packet s.framing is s.held u.held (refused g) p y.0 x.0)
one_answer s u w more (packet q) is x y = absurd (no_packet s.framing is s.held w.held more q x.0 y.0)
one_answer s u w (refused g) (packet q) is x y = absurd (no_packet s.framing is s.held w.held (refused g) q x.0 y.0)
one_answer s u w more more is x y = (refl, x.1 ∙ sym y.1)
one_answer s u w more (refused g) is x y = absurd (wants_or_refused s.framing is s.held g x.0 y.0)
one_answer s u w (refused g) more is x y = absurd (wants_or_refused s.framing is s.held g y.0 x.0)
one_answer s u w (refused g) (refused h) is x y = (ap refused (one_refusal s.framing is s.held g h x.0 y.0), x.1 ∙ sym y.1)
