-- Each run along the course of some container is read so, where no two containers overlap.
use Rattle.eds_base.specs.declared.fault.Fault.{Fault}
use Rattle.std.proofs.Common.{◌≡◌, ℕ, zero, suc, ◌<◌, false, cond, List, [], ◌∷◌, ◌++◌, length, map, drop, Option, Some, None, Ok, Err, refl, sym, ap, subst, ◌∙◌, append_assoc, append-nil, arith, ◌⊎◌, inl, inr, unwrap_or}
use Rattle.std.specs.Prelude.{slice_get, IsTrue}
use Rattle.std.specs.List.{AllByRecursion, flat_map}
use Rattle.std.proofs.lemmas.Bool.{false_from_ne_true}
use Rattle.std.proofs.Math.Seq.{drop-append_seam}
use Rattle.eds_base.specs.declared.fault.Step.TheVariants as step
use Rattle.eds_base.specs.declared.fault.Reason.TheVariants.{Constraint, NoDerived, LengthDiffers}
use Rattle.eds_types.specs.declared.row.Constraint.{Constraint as Condition}
use Rattle.eds_bits.specs.Bits.{Bits}
use Rattle.eds_bits.specs.Style.{any}
use Rattle.eds_overlap.proofs.Course.{bind_assoc, seam_get, same_tail, Runs, tail, later_is, Good, is_fit, fits_is}
use Rattle.eds_types.proofs.ChainLaws.{chain_end, same_chain, under_is, child_is, child_of, longer, under_in, itself_in, short_chain}
use Rattle.eds_types.proofs.ExactReading.{done, failed}
use Rattle.eds_types.proofs.PartReading.{entry_exact}
use Rattle.eds_types.proofs.ReadingTests.{holds_from, holds_in, found_is, none_is}
use Rattle.eds_types.specs.Failing.{Station, condition, entry, choice, end, chosen_stations, own_stations, course, GoesOn, NoneUnder, path_steps, length_path, fault_at}
use Rattle.eds_types.specs.Fields.{IsAtOrUnder, IsCandidate}
use Rattle.eds_types.specs.Plain.{Plain}
use Rattle.eds_types.specs.Reading.{Read, Ends, ◌>>=◌, read_parts, check_all, holds, candidate_under, stay, nowhere, under, next_of, next, size_fits, finish, read_own, trailers_up, read_chain, go_on, read_under, read_to_end}
use Rattle.eds_types.specs.Rows.{Table, chain, is_concrete, constraints_of, Placed, placed_entries, id_of}
use Rattle.eds_types.specs.Spelling.{Progress, started, PartPasses}
use Rattle.eds_types.proofs.Tables.{IsTable}

module _ (t : Table) (read : ℕ → Bits → Read Plain) (SpellsInner : ℕ → Plain → Bits → Type 0) (FailsInner : ℕ → Bits → Fault → Type 0) where
  module _ (top : ℕ) (Inv : Progress → Type 0) where
    -- a good part that keeps what is true of states
    pub record Keeping (p : Placed) : Type 0 where
      pub good : Good t SpellsInner FailsInner read p
      pub keeps : (s : Progress) (u : Progress) (c : Bits) → Inv s → PartPasses any t SpellsInner s p p.part u c → Inv u

    parts_to : (x : ℕ) (more : List Station) (ps : List Placed) (s : Progress) (b : Bits) (k : Progress × Bits → Ends) (r : Ends) → AllByRecursion Keeping ps → Inv s
        → ((m : Progress) (d : Bits) → Inv m → Runs t SpellsInner FailsInner x more m d r → k (m, d) ≡ r) → Runs t SpellsInner FailsInner x (map entry ps ++ more) s b r → (read_parts t read ps s b >>= k) ≡ r
    unfolding read_parts
    parts_to x more [] s b k r good i h run = h s b i run
    parts_to x more (p ∷ ps) s b k r good i h (inl f) =
        let e = (entry_exact t read SpellsInner FailsInner s p (good.0).good).to b (Err f.0) f.1 in
        ap (λ q. (q >>= λ v. read_parts t read ps v.0 v.1) >>= k) e ∙ sym f.2
    parts_to x more (p ∷ ps) s b k r good i h (inr q) =
        let e = (entry_exact t read SpellsInner FailsInner s p (good.0).good).to b (Ok (q.0, q.2)) (record { front = q.1; is = q.3; has = q.4 }) in
        ap (λ w. (w >>= λ v. read_parts t read ps v.0 v.1) >>= k) e
        ∙ parts_to x more ps q.0 q.2 k r good.1 ((good.0).keeps s q.0 q.1 i (q.4).0) h q.5

    -- a station that takes no bits leaves the state as it is
    still : (x : ℕ) (more : List Station) (s m : Progress) (b c d : Bits) (r : Ends) → m ≡ s → c ≡ [] → b ≡ c ++ d → Runs t SpellsInner FailsInner x more m d r → Runs t SpellsInner FailsInner x more s b r
    still x more s m b c d r em ec eb run =
        let same : d ≡ b = sym (eb ∙ ap (λ z. z ++ d) ec) in
        subst (λ z. Runs t SpellsInner FailsInner x more s z r) same (subst (λ z. Runs t SpellsInner FailsInner x more z d r) em run)

    conditions_to : (x y : ℕ) (more : List Station) (cs : List Condition) (s : Progress) (b : Bits) (q r : Ends) → (Runs t SpellsInner FailsInner x more s b r → q ≡ r) → Runs t SpellsInner FailsInner x (map (condition y) cs ++ more) s b r → (check_all t cs s.fields >>= λ u. q) ≡ r
    unfolding check_all
    conditions_to x y more [] s b q r h run = h run
    conditions_to x y more (c ∷ cs) s b q r h (inl f) =
        let off = false_from_ne_true (holds t s.fields c) (λ e. (f.1).0 (holds_from t s.fields c e)) in
        ap (λ z. cond z (check_all t cs s.fields) (Err (fault_at Constraint (path_steps c.path))) >>= λ u. q) off ∙ ap (failed (ℕ × Progress × Bits)) (sym (f.1).1) ∙ sym f.2
    conditions_to x y more (c ∷ cs) s b q r h (inr p) =
        let on = holds_in t s.fields c (p.4).2 in
        ap (λ z. cond z (check_all t cs s.fields) (Err (fault_at Constraint (path_steps c.path))) >>= λ u. q) on
        ∙ conditions_to x y more cs s b q r h (still x (map (condition y) cs ++ more) s p.0 b p.1 p.2 r (p.4).0 (p.4).1 p.3 p.5)

    chain_to : (x : ℕ) (more : List Station) (ys : List ℕ) (s : Progress) (b : Bits) (k : Progress × Bits → Ends) (r : Ends) → AllByRecursion (λ y. AllByRecursion Keeping (placed_entries t y)) ys → Inv s
        → ((m : Progress) (d : Bits) → Inv m → Runs t SpellsInner FailsInner x more m d r → k (m, d) ≡ r) → Runs t SpellsInner FailsInner x (flat_map (own_stations t) ys ++ more) s b r → (read_chain t read ys s b >>= k) ≡ r
    unfolding read_chain
    chain_to x more [] s b k r good i h run = h s b i run
    chain_to x more (y ∷ ys) s b k r good i h run =
        let checks = check_all t (constraints_of t y) s.fields in
        let parts = read_parts t read (placed_entries t y) s b in
        let rest = flat_map (own_stations t) ys ++ more in
        let run1 = subst (λ l. Runs t SpellsInner FailsInner x l s b r) (append_assoc (own_stations t y) (flat_map (own_stations t) ys) more ∙ append_assoc (map (condition y) (constraints_of t y)) (map entry (placed_entries t y)) rest) run in
        bind_assoc (read_own t read y s b) (λ v. read_chain t read ys v.0 v.1) k ∙ bind_assoc checks (λ u. parts) (λ v. read_chain t read ys v.0 v.1 >>= k)
        ∙ conditions_to x y (map entry (placed_entries t y) ++ rest) (constraints_of t y) s b (parts >>= λ v. read_chain t read ys v.0 v.1 >>= k) r
        (parts_to x rest (placed_entries t y) s b (λ v. read_chain t read ys v.0 v.1 >>= k) r good.0 i (λ m d j run2. chain_to x more ys m d k r good.1 j h run2)) run1

    tail_to : (x : ℕ) (s : Progress) (b : Bits) (r : Ends) → AllByRecursion Keeping (trailers_up t read x) → Inv s → Runs t SpellsInner FailsInner x (tail t SpellsInner FailsInner x) s b r → (read_parts t read (trailers_up t read x) s b >>= finish x (length_path t x)) ≡ r
    tail_to x s b r good i run = parts_to x (end ∷ []) (trailers_up t read x) s b (finish x (length_path t x)) r good i (λ m d j run. go m d run) run
      where
        go : (m : Progress) (d : Bits) → Runs t SpellsInner FailsInner x (end ∷ []) m d r → finish x (length_path t x) (m, d) ≡ r
        go m d (inl f) =
            ap (λ z. cond z (Ok (x, m, d)) (Err (fault_at LengthDiffers (length_path t x)))) (false_from_ne_true (size_fits m.octets m.before) (λ e. (f.1).0 (fits_is t SpellsInner FailsInner read m.octets m.before e)))
            ∙ ap (failed (ℕ × Progress × Bits)) (sym (f.1).1) ∙ sym f.2
        go m d (inr p) =
            let same : p.2 ≡ d = sym (p.3 ∙ ap (λ z. z ++ p.2) (p.4).1) in
            ap (λ z. cond z (Ok (x, m, d)) (Err (fault_at LengthDiffers (length_path t x)))) (is_fit t SpellsInner FailsInner read m.octets m.before (p.4).2)
            ∙ ap (λ z. done (x, m, z)) (sym same) ∙ ap (λ z. done (x, z, p.2)) (sym (p.4).0) ∙ sym p.5

    -- the parts of all containers above a container under the top keep it
    pub record Kept : Type 0 where
      pub entries : (k : ℕ) → IsAtOrUnder t top k → AllByRecursion (λ y. AllByRecursion Keeping (placed_entries t y)) (chain t k)
      pub trailers : (k : ℕ) → IsAtOrUnder t top k → AllByRecursion Keeping (trailers_up t read k)

    pub record Agreeing : Type 0 where
      pub start : Inv started
      pub agree : (y k l one other : ℕ) (more rest : List ℕ) (s : Progress) → IsAtOrUnder t top y → Inv s → chain t k ≡ chain t y ++ one ∷ more → chain t l ≡ chain t y ++ other ∷ rest → IsCandidate t y k s.fields → IsCandidate t y l s.fields → one ≡ other

    module _ (is : IsTable t) (kept : Kept) (agrees : Agreeing) where
      last_kept : (z : ℕ) → IsAtOrUnder t top z → AllByRecursion Keeping (placed_entries t z)
      last_kept z u =
          let e = chain_end t is z in
          back e.0 (subst (AllByRecursion (λ y. AllByRecursion Keeping (placed_entries t y))) e.1 (kept.entries z u))
        where
          back : (front : List ℕ) → AllByRecursion (λ y. AllByRecursion Keeping (placed_entries t y)) (front ++ z ∷ []) → AllByRecursion Keeping (placed_entries t z)
          back [] h = h.0
          back (x ∷ front) h = back front h.1

      -- where some candidate is below a container, reading goes to it
      goes_to : (y z l : ℕ) (more : List ℕ) (s : Progress) → IsAtOrUnder t top y → Inv s → IsCandidate t y l s.fields → chain t l ≡ chain t y ++ z ∷ more → (o : Option ℕ) → candidate_under t y s.fields ≡ o → next_of t y o ≡ under z
      goes_to y z l more s u i c e None h = absurd (none_is t y s.fields h l (longer t is y l z more e) c)
      goes_to y z l more s u i c e (Some m) h =
          let k = found_is t y s.fields m h in
          let other = child_of t is y m k.1.under.before k.1.under.after k.1.under.is k.0 in
          ap under (ap (λ c. unwrap_or (slice_get c (length (chain t y))) 0) other.2 ∙ ap (λ o. unwrap_or o 0) (seam_get (chain t y) other.0 other.1))
          ∙ ap under (agrees.agree y m l other.0 z other.1 more s u i other.2 e k.1 c)

      stays_at : (y : ℕ) (s : Progress) → NoneUnder t y s → IsTrue (is_concrete t y) → (o : Option ℕ) → candidate_under t y s.fields ≡ o → next_of t y o ≡ stay
      stays_at y s none c None h = ap (λ q. cond q stay nowhere) c
      stays_at y s none c (Some l) h = let k = found_is t y s.fields l h in absurd (none l k.0 k.1.under k.1)

      nowhere_is : (y : ℕ) (s : Progress) → is_concrete t y ≡ false → ((l : ℕ) → IsCandidate t y l s.fields → ⊥) → (o : Option ℕ) → candidate_under t y s.fields ≡ o → next_of t y o ≡ nowhere
      nowhere_is y s c none None h = ap (λ q. cond q stay nowhere) c
      nowhere_is y s c none (Some l) h = absurd (none l (found_is t y s.fields l h).1)

      apart : (z l : ℕ) → IsAtOrUnder t z l → (after : List ℕ) × (chain t l ≡ chain t z ++ after)
      apart z l u = (u.after, (under_is t is z l u.before u.after u.is).1)

      course_by : (x : ℕ) (zs : List ℕ) → chain t x ≡ chain t top ++ zs → flat_map (own_stations t) (chain t top) ++ (choice top ∷ (chosen_stations t zs ++ tail t SpellsInner FailsInner x)) ≡ course t top x
      course_by x zs e = ap (λ q. flat_map (own_stations t) (chain t top) ++ (choice top ∷ (chosen_stations t q ++ tail t SpellsInner FailsInner x))) (sym (ap (drop (length (chain t top))) e ∙ drop-append_seam (chain t top) zs))

      under_to : (n x y : ℕ) (zs : List ℕ) (s : Progress) (b : Bits) (r : Ends) → IsAtOrUnder t top x → IsAtOrUnder t top y → chain t x ≡ chain t y ++ zs → length zs < n → Inv s → Runs t SpellsInner FailsInner x (choice y ∷ (chosen_stations t zs ++ tail t SpellsInner FailsInner x)) s b r → read_under t read n y s b ≡ r
      unfolding read_under
      under_to zero x y zs s b r ux u e lt i run = absurd (omega arith)
      under_to (suc n) x y zs s b r ux u e lt i (inl f) =
          let same = (f.1).0 in
          let q : next t y s.fields ≡ nowhere = ap (λ w. next t w s.fields) same ∙ nowhere_is x s (f.1).1 (f.1).2 (candidate_under t x s.fields) refl in
          ap (go_on t read (read_under t read n) y s b) q ∙ ap (λ w. failed (ℕ × Progress × Bits) (fault_at NoDerived (step.Choice (id_of w) ∷ []))) same ∙ ap (failed (ℕ × Progress × Bits)) (sym (f.1).3) ∙ sym f.2
      under_to (suc n) x y zs s b r ux u e lt i (inr p) = past zs e lt (p.4).2 (still x (chosen_stations t zs ++ tail t SpellsInner FailsInner x) s p.0 b p.1 p.2 r (p.4).0 (p.4).1 p.3 p.5) (λ z zs' m d uz ez lz j run'. under_to n x z zs' m d r ux uz ez lz j run')
        where
          past : (zs : List ℕ) → chain t x ≡ chain t y ++ zs → length zs < suc n → (GoesOn t y x s ⊎ ((y ≡ x) × IsTrue (is_concrete t x) × NoneUnder t x s)) → Runs t SpellsInner FailsInner x (chosen_stations t zs ++ tail t SpellsInner FailsInner x) s b r
              → ((z : ℕ) (zs' : List ℕ) (m : Progress) (d : Bits) → IsAtOrUnder t top z → chain t x ≡ chain t z ++ zs' → length zs' < n → Inv m → Runs t SpellsInner FailsInner x (choice z ∷ (chosen_stations t zs' ++ tail t SpellsInner FailsInner x)) m d r → read_under t read n z m d ≡ r)
              → go_on t read (read_under t read n) y s b (next t y s.fields) ≡ r
          past [] e lt (inl g) run ih = absurd (longer t is y x g.child g.towards.0 g.towards.1 (same_chain t is x y (e ∙ append-nil (chain t y))))
          past [] e lt (inr g) run ih =
              let same : y ≡ x = g.0 in
              let q : next t y s.fields ≡ stay = ap (λ w. next t w s.fields) same ∙ stays_at x s g.2 g.1 (candidate_under t x s.fields) refl in
              ap (go_on t read (read_under t read n) y s b) q ∙ ap (λ w. read_parts t read (trailers_up t read w) s b >>= finish w (length_path t w)) same
              ∙ tail_to x s b r (kept.trailers x ux) i run
          past (z ∷ more) e lt (inr g) run ih = absurd (longer t is y x z more e (sym g.0))
          past (z ∷ more) e lt (inl g) run ih =
              let tails : g.child ∷ g.towards.0 ≡ z ∷ more = same_tail (chain t y) (g.child ∷ g.towards.0) (z ∷ more) (sym g.towards.1 ∙ e) in
              let z_is : g.child ≡ z = cc in
              let chain_z = (child_is t is y z x more e).0 in
              let w = apart z g.candidate (subst (λ w. IsAtOrUnder t w g.candidate) z_is g.under) in
              let el : chain t g.candidate ≡ chain t y ++ z ∷ w.0 = w.1 ∙ ap (λ c. c ++ w.0) chain_z ∙ append_assoc (chain t y) (z ∷ []) w.0 in
              let q : next t y s.fields ≡ under z = goes_to y z g.candidate w.0 s u i g.is el (candidate_under t y s.fields) refl in
              let up = under_is t is top y u.before u.after u.is in
              let uz : IsAtOrUnder t top z = under_in t is top z (u.after ++ z ∷ []) (chain_z ∙ ap (λ c. c ++ z ∷ []) up.1 ∙ append_assoc (chain t top) u.after (z ∷ [])) in
              let ex : chain t x ≡ chain t z ++ more = e ∙ sym (append_assoc (chain t y) (z ∷ []) more) ∙ ap (λ c. c ++ more) (sym chain_z) in
              ap (go_on t read (read_under t read n) y s b) q
              ∙ parts_to x (choice z ∷ (chosen_stations t more ++ tail t SpellsInner FailsInner x)) (placed_entries t z) s b (λ v. read_under t read n z v.0 v.1) r (last_kept z uz) i (λ m d j run'. ih z more m d uz ex (omega arith) j run')
              (subst (λ l. Runs t SpellsInner FailsInner x l s b r) (later_is t SpellsInner FailsInner z more (tail t SpellsInner FailsInner x)) run)

      pub container_to : (b : Bits) (r : Ends) (x : ℕ) → IsAtOrUnder t top x → Runs t SpellsInner FailsInner x (course t top x) started b r → read_to_end t read top b ≡ r
      container_to b r x u run =
          let up = under_is t is top x u.before u.after u.is in
          let run' = subst (λ q. Runs t SpellsInner FailsInner x q started b r) (sym (course_by x u.after up.1)) run in
          let itself = itself_in t is top in
          chain_to x (choice top ∷ (chosen_stations t u.after ++ tail t SpellsInner FailsInner x)) (chain t top) started b (λ v. read_under t read 16 top v.0 v.1) r (kept.entries top itself) agrees.start
          (λ m d j run2. under_to 16 x top u.after m d r u itself up.1 (short_chain t is top x u.after up.1) j run2) run'
