-- What a call of take answers, from what reading the octets gives.
use Rattle.std.proofs.Common.{◌≡◌, ℕ, ◌≤◌, List, length, take, drop, Result, Ok, Err, sym, ap, subst, ◌∙◌, arith, take-append-drop}
use Rattle.std.specs.Prelude.{IfOk}
use Rattle.std.proofs.lemmas.List.{length-take, length-take-le}
use Rattle.eds_base.specs.declared.fail.Memory.{Memory}
use Rattle.eds_bits.specs.Bits.{bits_of, octets_for}
use Rattle.eds_bits.proofs.OctetLaws.{length-bits_of}
use Rattle.eds_types.specs.Plain.{Plain}
use Rattle.eds_types.specs.Spelling.{Spells}
use Rattle.eds_unpack.specs.declared.splitter.Taken.{Taken}
use Rattle.eds_unpack.specs.Packets.{Framing}
use Rattle.eds_unpack.specs.Split.{answer_of}
use Rattle.eds_unpack.specs.Splitting.{Splitting, IsFraming, Answer, BeginsWith, Takes}
use Rattle.eds_unpack.proofs.Cutting.{packet_of, packet_at, one_answer}

-- ---- a packet

pub packet_read : (k : Framing) (held judged : List ℕ) (v : Plain) (n m : ℕ) → judged ≡ take k.most held → m ≡ octets_for n → n ≤ length (bits_of judged) → Spells k.table k.id v (take n (bits_of judged)) → BeginsWith k (packet_of v n) held (drop m held)
packet_read k held judged v n m e o few s =
    let b = bits_of judged in
    let size : length (take n b) ≡ n = length-take-le n b few in
    let begins = packet_at k held v (take n b) (drop n b) (ap bits_of (sym e) ∙ sym (take-append-drop n b)) s in
    subst (λ z. BeginsWith k (packet_of v n) held (drop z held)) (sym o) (subst (λ z. BeginsWith k (packet_of v z) held (drop (octets_for z) held)) size begins)

-- so many octets are there
pub octets_there : (most : ℕ) (held judged : List ℕ) (n m : ℕ) → judged ≡ take most held → m ≡ octets_for n → n ≤ length (bits_of judged) → m ≤ length held
octets_there most held judged n m e o few =
    let a = length-bits_of judged in
    let b = ap length e in
    let c = length-take most held in
    omega (arith, a, b, c)

-- ---- the only answer

pub only_taken : (s u : Splitting) → IsFraming s.framing → (r : Result Taken Memory) → IfOk r (λ x. Takes s (answer_of x) u) → (a : Answer) (w : Splitting) → Takes s a w → IfOk r (λ x. (answer_of x ≡ a) × (u ≡ w))
only_taken s u is (Ok x) h a w t = one_answer s u w (answer_of x) a is h t
only_taken s u is (Err e) h a w t = tt
