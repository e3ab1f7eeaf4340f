-- What the bits of entries say.
use Rattle.std.proofs.Common.{◌≡◌, ℕ, ◌+◌, ◌≤◌, List, [], ◌∷◌, ◌++◌, length, map, get_or, take, drop, Option, Some, Ok, Err, sym, ap, subst, ◌∙◌}
use Rattle.std.specs.Prelude.{Result, slice_get, option_map}
use Rattle.std.specs.List.{All, AllZip}
use Rattle.std.specs.Result.{result_ok}
use Rattle.std.proofs.lemmas.List.{map-append, take_more}
use Rattle.std.proofs.lemmas.List.Elements.{All-get_or}
use Rattle.std.proofs.lemmas.Option.{get_or_from_slice_get, slice_get-map, slice_get_within}
use Rattle.eds_base.specs.declared.fault.Fault.{Fault}
use Rattle.eds_bits.specs.Bits.{Bits, low_bits, unsigned_of}
use Rattle.eds_types.specs.Plain.{Plain}
use Rattle.eds_types.specs.Rows.{Table}
use Rattle.eds_unpack.specs.declared.scalar.Scalar.{Scalar}
use Rattle.eds_unpack.specs.declared.segment.Operation.{Operation}
use Rattle.eds_unpack.specs.Scalars.{plain_of}
use Rattle.eds_unpack.specs.Segments.{Says, said, value_in}
use Rattle.eds_unpack.proofs.SegmentReads.{said as is_said}

-- what is told of an entry's bits is what they say
pub entry_says : (t : Table) (b : Bits) (ops : List Operation) (es : List (Option Plain)) (i : ℕ) (o : Operation) (x : ℕ) (v : Plain) → es ≡ map (said t b) ops → slice_get ops i ≡ Some o → All (λ (o : Operation). o.at + o.bits ≤ length b) ops
    → x ≡ unsigned_of (take o.bits (drop o.at b)) → value_in (slice_get t o.id.0) (low_bits o.bits x) ≡ Ok v → slice_get es i ≡ Some (Some v)
entry_says t b ops es i o x v same there within e found =
    let lt = slice_get_within ops i o there in
    let is : get_or ops i o ≡ o = get_or_from_slice_get ops i o o there in
    let here = subst (λ (o : Operation). o.at + o.bits ≤ length b) is (All-get_or (λ (o : Operation). o.at + o.bits ≤ length b) ops i o lt within) in
    ap (λ xs. slice_get xs i) same ∙ slice_get-map (said t b) ops i ∙ ap (option_map (said t b)) there ∙ ap (λ r. Some (result_ok r)) (is_said t b o x v here e found)

ok_is : (r : Result Plain Fault) (v : Plain) → result_ok r ≡ Some v → r ≡ Ok v
ok_is (Ok w) v e = let same : w ≡ v = cc in ap Ok same
ok_is (Err g) v e = absurd cc

-- where the bits of each operation say something, they say these values
pub all_say : (t : Table) (b : Bits) (ops : List Operation) (vs : List Plain) → map (said t b) ops ≡ map Some vs → AllZip (Says t b) ops vs
all_say t b [] [] e = tt
all_say t b [] (v ∷ vs) e = absurd cc
all_say t b (o ∷ ops) [] e = absurd cc
all_say t b (o ∷ ops) (v ∷ vs) e =
    let first : said t b o ≡ Some v = cc in
    let others : map (said t b) ops ≡ map Some vs = cc in
    (ok_is (value_in (slice_get t o.id.0) (take o.bits (drop o.at b))) v first, all_say t b ops vs others)

-- one scalar more
pub scalar_more : (es : List (Option Plain)) (i : ℕ) (s : Scalar) (old new : List Scalar) → slice_get es i ≡ Some (Some (plain_of s)) → new ≡ old ++ s ∷ [] → take i es ≡ map Some (map plain_of old) → take (i + 1) es ≡ map Some (map plain_of new)
scalar_more es i s old new there put so =
    take_more es i (Some (plain_of s)) (slice_get_within es i (Some (plain_of s)) there)
    ∙ ap (λ x. take i es ++ x ∷ []) (get_or_from_slice_get es i (Some (plain_of s)) (Some (plain_of s)) there)
    ∙ ap (λ xs. xs ++ Some (plain_of s) ∷ []) so
    ∙ sym (ap (λ ss. map Some (map plain_of ss)) put ∙ ap (map Some) (map-append plain_of old (s ∷ [])) ∙ map-append Some (map plain_of old) (plain_of s ∷ []))
