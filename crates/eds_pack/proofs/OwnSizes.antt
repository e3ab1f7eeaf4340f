-- The size of the fields of a container, from the sizes of what is judged in turn.
use Rattle.std.proofs.Common.{◌≡◌, ℕ, ◌+◌, ◌^◌, min, cond, List, [], ◌∷◌, ◌++◌, map, reverse, Ok, Err, refl, sym, ap, ◌∙◌, arith}
use Rattle.std.specs.List.{flat_map}
use Rattle.eds_bits.specs.Bits.{octets_for}
use Rattle.eds_types.specs.declared.reason.PackReason.TheVariants as reason
use Rattle.eds_types.specs.Failing.{Station, choice, end, entry, own_stations, length_path}
use Rattle.eds_types.specs.Fields.{Field, paired}
use Rattle.eds_types.specs.Packing.{PackFault, pack_fault_at}
use Rattle.eds_types.specs.PackedSizes.{Size, after, choice_size, own_size, packed_size_within, stations_size}
use Rattle.eds_types.specs.Plain.{Plain}
use Rattle.eds_types.specs.Reading.{candidate_under}
use Rattle.eds_types.specs.Rows.{Table, chain, placed_trailers, sequence}
use Rattle.eds_types.specs.Rules.{KeepsRules}
use Rattle.eds_types.proofs.ContainerPacking.{course_is}
use Rattle.eds_pack.specs.Counting.{added, capped, counted}
use Rattle.eds_pack.specs.Nesting.{IsLow}
use Rattle.eds_pack.proofs.Counts.{Counted, added_err, added_ok, entries_front, goes_both, goes_moved, moved}
use Rattle.eds_pack.proofs.LengthEntries.{Ends, capped_fits}

after_twice : (r : Size) (g h : ℕ → Size) → after (after r g) h ≡ after r (λ a. after (g a) h)
after_twice (Ok n) g h = refl
after_twice (Err e) g h = refl

module _ (t : Table) (rules : KeepsRules t) (n k : ℕ) (low : IsLow t (n + 1) k) (f : List Plain) where
  abbrev S : ℕ → Plain → Size
  S = packed_size_within n t

  abbrev fs : List Field
  fs = paired (sequence t k) f

  abbrev Goes : ℕ → List Station → Size
  Goes b ss = stations_size t S fs k b ss

  abbrev own : List Station
  own = flat_map (own_stations t) (chain t k)

  abbrev others : List Station
  others = map entry (flat_map (placed_trailers t) (reverse (chain t k)))

  abbrev Choice : Size
  Choice = choice_size t S fs k (candidate_under t k fs)

  abbrev Last : ℕ → Size
  Last m = after (Ends t rules n k (octets_for m)) (λ e. Ok (m + e))

  parts_are : own_size t S k f ≡ after (Goes 0 (own ++ (choice k ∷ others))) Last
  parts_are = ap (Goes 0) (course_is t k) ∙ goes_both t S fs k (own ++ (choice k ∷ others)) (end ∷ []) 0

  begins : (a : Size) → Goes 0 own ≡ a → own_size t S k f ≡ after (after a (λ b. after Choice (λ c. Goes (b + c) others))) Last
  begins a e = parts_are ∙ ap (λ r. after r Last) (goes_both t S fs k own (choice k ∷ others) 0 ∙ ap (λ r. after r (λ b. after Choice (λ c. Goes (b + c) others))) e)

  goes_on : (a : ℕ) (c : Size) → Goes 0 own ≡ Ok a → Ok 0 ≡ Choice → Goes 0 others ≡ c → own_size t S k f ≡ after (moved (a + 0) c) Last
  goes_on a c e h g =
      begins (Ok a) e ∙ ap (λ r. after (after r (λ b. Goes (a + b) others)) Last) (sym h)
      ∙ ap (λ r. after r Last) (goes_moved t S fs k others (entries_front (flat_map (placed_trailers t) (reverse (chain t k)))) (a + 0) ∙ ap (moved (a + 0)) g)

  pub first_stops : (s : ℕ) (g : PackFault) → ◌≡◌ {A = Counted} (Err g) (added s (Goes 0 own)) → Err g ≡ counted (own_size t S k f)
  first_stops s g e = sym (ap counted (begins (Err g) (added_err s g (Goes 0 own) e)))

  pub choice_stops : (s one : ℕ) (g : PackFault) → ◌≡◌ {A = Counted} (Ok one) (added s (Goes 0 own)) → Err g ≡ Choice → Err g ≡ counted (own_size t S k f)
  choice_stops s one g e h =
      let a = added_ok s one (Goes 0 own) e in
      sym (ap counted (begins (Ok a.0) a.1 ∙ ap (λ r. after (after r (λ b. Goes (a.0 + b) others)) Last) (sym h)))

  pub others_stop : (s one : ℕ) (g : PackFault) → ◌≡◌ {A = Counted} (Ok one) (added s (Goes 0 own)) → Ok 0 ≡ Choice → ◌≡◌ {A = Counted} (Err g) (added one (Goes 0 others)) → Err g ≡ counted (own_size t S k f)
  others_stop s one g e h o =
      let a = added_ok s one (Goes 0 own) e in
      sym (ap counted (goes_on a.0 (Err g) a.1 h (added_err one g (Goes 0 others) o)))

  -- counted up to the bound
  twice : (s one all a c top : ℕ) → s ≡ 0 → one ≡ min (s + a) top → all ≡ min (one + c) top → all ≡ min (a + 0 + c) top
  twice s one all a c top z e h = omega arith

  module _ (s one all : ℕ) (z : s ≡ 0) (e : ◌≡◌ {A = Counted} (Ok one) (added s (Goes 0 own))) (h : Ok 0 ≡ Choice) (o : ◌≡◌ {A = Counted} (Ok all) (added one (Goes 0 others))) where
    first : (m : ℕ) × (Goes 0 own ≡ Ok m) × (one ≡ capped (s + m))
    first = added_ok s one (Goes 0 own) e

    second : (m : ℕ) × (Goes 0 others ≡ Ok m) × (all ≡ capped (one + m))
    second = added_ok one all (Goes 0 others) o

    abbrev bits : ℕ
    bits = first.0 + 0 + second.0

    all_is : all ≡ capped bits
    all_is = twice s one all first.0 second.0 (2 ^ 100) z first.2 second.2

    ends_same : Ends t rules n k (octets_for all) ≡ Ends t rules n k (octets_for bits)
    ends_same =
        ap (λ m. Ends t rules n k (octets_for m)) all_is
        ∙ ap (λ b. cond b (Ok 0) (Err (pack_fault_at reason.LengthField (length_path t k)))) (capped_fits t rules n k low bits)

    whole : own_size t S k f ≡ Last bits
    whole = goes_on first.0 (Ok second.0) first.1 h second.1

    pub end_stops : (g : PackFault) → Err g ≡ Ends t rules n k (octets_for all) → Err g ≡ counted (own_size t S k f)
    end_stops g q = sym (ap counted (whole ∙ ap (λ r. after r (λ m. Ok (bits + m))) (sym ends_same ∙ sym q)))

    pub all_pass : Ok 0 ≡ Ends t rules n k (octets_for all) → Ok all ≡ counted (own_size t S k f)
    all_pass q = ap Ok (all_is ∙ ap capped (omega arith)) ∙ sym (ap counted (whole ∙ ap (λ r. after r (λ m. Ok (bits + m))) (sym ends_same ∙ sym q)))
