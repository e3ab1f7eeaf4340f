-- Reading a container is a run along the course of some container, and each such run is read.
use Rattle.eds_base.specs.declared.fault.Fault.{Fault}
use Rattle.std.proofs.Common.{◌≡◌, ℕ, zero, suc, ◌+◌, ◌<◌, ℤ, pos, Bool, true, false, cond, List, [], ◌∷◌, ◌++◌, length, map, drop, reverse, Option, Some, None, Result, Ok, Err, refl, sym, ap, subst, ◌∙◌, append_assoc, append-nil, arith, ◌⊎◌, inl, inr, unwrap_or}
use Rattle.std.specs.Prelude.{slice_get, IfSome}
use Rattle.std.specs.List.{AllByRecursion, flat_map}
use Rattle.std.proofs.lemmas.Bool.{cases_eq, both_ways}
use Rattle.std.proofs.lemmas.Bool.Decides.{Decides-int_eq}
use Rattle.std.proofs.lemmas.List.{length-append}
use Rattle.std.proofs.Math.Seq.{drop-append_seam}
use Rattle.eds_base.specs.declared.fault.Step.TheVariants as step
use Rattle.eds_base.specs.declared.fault.Reason.TheVariants.{Constraint, NoDerived, LengthDiffers}
use Rattle.eds_types.specs.declared.row.Constraint.{Constraint as Condition}
use Rattle.eds_bits.specs.Bits.{Bits, octets_for}
use Rattle.eds_types.proofs.ChainLaws.{chain_end, child_is, child_of, chain_length, under_in}
use Rattle.eds_types.proofs.ExactReading.{same_ok, ok_err, Is}
use Rattle.eds_types.proofs.PartReading.{PartGood, entry_exact}
use Rattle.eds_types.proofs.ReadingTests.{holds_from, holds_in, found_is, none_is}
use Rattle.eds_types.specs.Failing.{Station, condition, entry, choice, end, chosen_stations, own_stations, course, path_steps, length_path, StationPasses, StationFails, EntryPasses, EntryFails, fault_at}
use Rattle.eds_types.specs.Fields.{IsAtOrUnder, IsCandidate}
use Rattle.eds_types.specs.Plain.{Plain}
use Rattle.eds_types.specs.Reading.{Read, Ends, ◌>>=◌, read_entry, read_parts, check_all, holds, candidate_under, stay, nowhere, under, next_of, size_fits, finish, read_own, trailers_up, read_chain, go_on, read_under, read_to_end}
use Rattle.eds_types.specs.Rows.{Table, chain, is_concrete, constraints_of, Placed, placed_entries, placed_trailers, id_of}
use Rattle.eds_types.specs.Spelling.{Progress, started}
use Rattle.eds_types.proofs.Tables.{IsTable}

pub bind_assoc : {A B C : Type 0} (r : Result A Fault) (f : A → Result B Fault) (g : B → Result C Fault) → ((r >>= f) >>= g) ≡ (r >>= λ x. f x >>= g)
bind_assoc (Ok x) f g = refl
bind_assoc (Err e) f g = refl

pub seam_get : {A : Type 0} (xs : List A) (y : A) (ys : List A) → slice_get (xs ++ y ∷ ys) (length xs) ≡ Some y
seam_get [] y ys = refl
seam_get (x ∷ xs) y ys = seam_get xs y ys

pub same_tail : (a : List ℕ) (ys zs : List ℕ) → a ++ ys ≡ a ++ zs → ys ≡ zs
same_tail [] ys zs e = e
same_tail (c ∷ a) ys zs e = let q : a ++ ys ≡ a ++ zs = cc in same_tail a ys zs q

module _ (t : Table) (SpellsInner : ℕ → Plain → Bits → Type 0) (FailsInner : ℕ → Bits → Fault → Type 0) where
  -- how going through stations of x ends
  abbrev pub Runs : ℕ → List Station → Progress → Bits → Ends → Type 0
  Runs x [] s b r = r ≡ Ok (x, s, b)
  Runs x (p ∷ ps) s b r = ((g : Fault) × StationFails t SpellsInner FailsInner x s p b g × (r ≡ Err g)) ⊎ ((m : Progress) × (c : Bits) × (d : Bits) × (b ≡ c ++ d) × StationPasses t SpellsInner x s p m c × Runs x ps m d r)

  abbrev pub tail : ℕ → List Station
  tail x = map entry (flat_map (placed_trailers t) (reverse (chain t x))) ++ end ∷ []

  pub later_is : (z : ℕ) (zs : List ℕ) (more : List Station) → chosen_stations t (z ∷ zs) ++ more ≡ map entry (placed_entries t z) ++ (choice z ∷ (chosen_stations t zs ++ more))
  later_is z zs more = append_assoc (map entry (placed_entries t z) ++ choice z ∷ []) (chosen_stations t zs) more ∙ append_assoc (map entry (placed_entries t z)) (choice z ∷ []) (chosen_stations t zs ++ more)

  module _ (read : ℕ → Bits → Read Plain) where
    abbrev pub Good : Placed → Type 0
    Good p = PartGood t read SpellsInner FailsInner p.part

    pub parts_from : (x : ℕ) (more : List Station) (ps : List Placed) (s : Progress) (b : Bits) (k : Progress × Bits → Ends) → AllByRecursion Good ps
        → ((v : Progress × Bits) → read_parts t read ps s b ≡ Ok v → Runs x more v.0 v.1 (k v)) → Runs x (map entry ps ++ more) s b (read_parts t read ps s b >>= k)
    unfolding read_parts
    parts_from x more [] s b k good h = h (s, b) refl
    parts_from x more (p ∷ ps) s b k good h = go (read_entry t read s p b) ((entry_exact t read SpellsInner FailsInner s p good.0).from b) h (λ m d. parts_from x more ps m d k good.1)
      where
        go : (r : Read Progress) → Is (EntryPasses t SpellsInner s p) (EntryFails t SpellsInner FailsInner s p) b r → ((v : Progress × Bits) → (r >>= λ v. read_parts t read ps v.0 v.1) ≡ Ok v → Runs x more v.0 v.1 (k v))
            → ((m : Progress) (d : Bits) → ((v : Progress × Bits) → read_parts t read ps m d ≡ Ok v → Runs x more v.0 v.1 (k v)) → Runs x (map entry ps ++ more) m d (read_parts t read ps m d >>= k))
            → Runs x (map entry (p ∷ ps) ++ more) s b ((r >>= λ v. read_parts t read ps v.0 v.1) >>= k)
        go (Ok v) i h ih = inr (v.0, i.front, v.1, i.is, i.has, ih v.0 v.1 h)
        go (Err g) i h ih = inl (g, i, refl)

    conditions_from : (x y : ℕ) (more : List Station) (cs : List Condition) (s : Progress) (b : Bits) (r : Ends) → (check_all t cs s.fields ≡ Ok tt → Runs x more s b r) → Runs x (map (condition y) cs ++ more) s b (check_all t cs s.fields >>= λ u. r)
    unfolding check_all
    conditions_from x y more [] s b r h = h refl
    conditions_from x y more (c ∷ cs) s b r h = go (holds t s.fields c) refl h (conditions_from x y more cs s b r)
      where
        go : (q : Bool) → holds t s.fields c ≡ q → (cond q (check_all t cs s.fields) (Err (fault_at Constraint (path_steps c.path))) ≡ Ok tt → Runs x more s b r)
            → ((check_all t cs s.fields ≡ Ok tt → Runs x more s b r) → Runs x (map (condition y) cs ++ more) s b (check_all t cs s.fields >>= λ u. r))
            → Runs x (map (condition y) (c ∷ cs) ++ more) s b (cond q (check_all t cs s.fields) (Err (fault_at Constraint (path_steps c.path))) >>= λ u. r)
        go true e h ih = inr (s, [], b, refl, (refl, refl, holds_from t s.fields c e), ih h)
        go false e h ih = inl ((fault_at Constraint (path_steps c.path)), ((λ h. both_ways (holds t s.fields c) e (holds_in t s.fields c h)), refl), refl)

    own_from : (x y : ℕ) (more : List Station) (s : Progress) (b : Bits) (k : Progress × Bits → Ends) → AllByRecursion Good (placed_entries t y)
        → ((v : Progress × Bits) → read_own t read y s b ≡ Ok v → Runs x more v.0 v.1 (k v)) → Runs x (own_stations t y ++ more) s b (read_own t read y s b >>= k)
    own_from x y more s b k good h =
        let checks = check_all t (constraints_of t y) s.fields in
        let parts = read_parts t read (placed_entries t y) s b in
        subst (λ l. Runs x l s b ((checks >>= λ u. parts) >>= k)) (sym (append_assoc (map (condition y) (constraints_of t y)) (map entry (placed_entries t y)) more))
        (subst (Runs x (map (condition y) (constraints_of t y) ++ (map entry (placed_entries t y) ++ more)) s b) (sym (bind_assoc checks (λ u. parts) k))
        (conditions_from x y (map entry (placed_entries t y) ++ more) (constraints_of t y) s b (parts >>= k)
        (λ e. parts_from x more (placed_entries t y) s b k good (λ v ev. h v (ap (λ z. z >>= λ u. parts) e ∙ ev)))))

    chain_from : (x : ℕ) (more : List Station) (ys : List ℕ) (s : Progress) (b : Bits) (k : Progress × Bits → Ends) → AllByRecursion (λ y. AllByRecursion Good (placed_entries t y)) ys
        → ((v : Progress × Bits) → read_chain t read ys s b ≡ Ok v → Runs x more v.0 v.1 (k v)) → Runs x (flat_map (own_stations t) ys ++ more) s b (read_chain t read ys s b >>= k)
    unfolding read_chain
    chain_from x more [] s b k good h = h (s, b) refl
    chain_from x more (y ∷ ys) s b k good h =
        subst (λ l. Runs x l s b ((read_own t read y s b >>= λ v. read_chain t read ys v.0 v.1) >>= k)) (sym (append_assoc (own_stations t y) (flat_map (own_stations t) ys) more))
        (subst (Runs x (own_stations t y ++ (flat_map (own_stations t) ys ++ more)) s b) (sym (bind_assoc (read_own t read y s b) (λ v. read_chain t read ys v.0 v.1) k))
        (own_from x y (flat_map (own_stations t) ys ++ more) s b (λ v. read_chain t read ys v.0 v.1 >>= k) good.0
        (λ v e. chain_from x more ys v.0 v.1 k good.1 (λ w ew. h w (ap (λ z. z >>= λ v. read_chain t read ys v.0 v.1) e ∙ ew)))))

    pub fits_is : (o : Option ℤ) (b : Bits) → size_fits o b ≡ true → IfSome o (λ n. n ≡ pos (octets_for (length b)))
    fits_is None b e = tt
    fits_is (Some n) b e = (Decides-int_eq n (pos (octets_for (length b)))).0 e

    pub is_fit : (o : Option ℤ) (b : Bits) → IfSome o (λ n. n ≡ pos (octets_for (length b))) → size_fits o b ≡ true
    is_fit None b h = refl
    is_fit (Some n) b h = (Decides-int_eq n (pos (octets_for (length b)))).1 h

    tail_from : (x : ℕ) (s : Progress) (b : Bits) → AllByRecursion Good (trailers_up t read x) → Runs x (tail x) s b (read_parts t read (trailers_up t read x) s b >>= finish x (length_path t x))
    tail_from x s b good = parts_from x (end ∷ []) (trailers_up t read x) s b (finish x (length_path t x)) good (λ v e. go v (size_fits (v.0).octets (v.0).before) refl)
      where
        go : (v : Progress × Bits) (q : Bool) → size_fits (v.0).octets (v.0).before ≡ q → Runs x (end ∷ []) v.0 v.1 (cond q (Ok (x, v.0, v.1)) (Err (fault_at LengthDiffers (length_path t x))))
        go v true e = inr (v.0, [], v.1, refl, (refl, refl, fits_is (v.0).octets (v.0).before e), refl)
        go v false e = inl ((fault_at LengthDiffers (length_path t x)), ((λ h. both_ways (size_fits (v.0).octets (v.0).before) e (is_fit (v.0).octets (v.0).before h)), refl), refl)

    -- the parts of all containers above a container under the top are good
    pub record Family (top : ℕ) : Type 0 where
      pub entries : (k : ℕ) → IsAtOrUnder t top k → AllByRecursion (λ y. AllByRecursion Good (placed_entries t y)) (chain t k)
      pub trailers : (k : ℕ) → IsAtOrUnder t top k → AllByRecursion Good (trailers_up t read k)

    module _ (is : IsTable t) (top : ℕ) (family : Family top) where
      pub record Below (y : ℕ) (s : Progress) (b : Bits) (r : Ends) : Type 0 where
        pub x : ℕ
        pub zs : List ℕ
        pub chain_is : chain t x ≡ chain t y ++ zs
        pub runs : Runs x (choice y ∷ (chosen_stations t zs ++ tail x)) s b r

      pub under_top : (y : ℕ) (ws : List ℕ) → chain t y ≡ chain t top ++ ws → IsAtOrUnder t top y
      under_top y ws e = under_in t is top y ws e

      pub last_good : (z : ℕ) → IsAtOrUnder t top z → AllByRecursion Good (placed_entries t z)
      last_good z u =
          let e = chain_end t is z in
          let all = subst (AllByRecursion (λ y. AllByRecursion Good (placed_entries t y))) e.1 (family.entries z u) in (back e.0 all)
        where
          back : (front : List ℕ) → AllByRecursion (λ y. AllByRecursion Good (placed_entries t y)) (front ++ z ∷ []) → AllByRecursion Good (placed_entries t z)
          back [] h = h.0
          back (x ∷ front) h = back front h.1

      goes_below : (then : ℕ → Progress → Bits → Ends) (y z l : ℕ) (zs ws : List ℕ) (s : Progress) (b : Bits) → chain t y ≡ chain t top ++ ws → chain t l ≡ chain t y ++ z ∷ zs → IsCandidate t y l s.fields → ((m : Progress) (d : Bits) → Below z m d (then z m d)) → Below y s b (read_parts t read (placed_entries t z) s b >>= λ v. then z v.0 v.1)
      goes_below then y z l zs ws s b e el c ih = go (read_parts t read (placed_entries t z) s b) refl
        where
          chain_z : chain t z ≡ chain t y ++ z ∷ []
          chain_z = (child_is t is y z l zs el).0

          good : AllByRecursion Good (placed_entries t z)
          good = last_good z (under_top z (ws ++ z ∷ []) (chain_z ∙ ap (λ c. c ++ z ∷ []) e ∙ append_assoc (chain t top) ws (z ∷ [])))

          under_z : IsAtOrUnder t z l
          under_z = under_in t is z l zs (el ∙ sym (append_assoc (chain t y) (z ∷ []) zs) ∙ ap (λ c. c ++ zs) (sym chain_z))

          made : (x : ℕ) (more : List ℕ) → chain t x ≡ chain t z ++ more → Runs x (map entry (placed_entries t z) ++ (choice z ∷ (chosen_stations t more ++ tail x))) s b (read_parts t read (placed_entries t z) s b >>= λ v. then z v.0 v.1) → Below y s b (read_parts t read (placed_entries t z) s b >>= λ v. then z v.0 v.1)
          made x more ex runs =
              let ex' : chain t x ≡ chain t y ++ z ∷ more = ex ∙ ap (λ c. c ++ more) chain_z ∙ append_assoc (chain t y) (z ∷ []) more in
              record {
                x = x;
                zs = z ∷ more;
                chain_is = ex';
                runs = inr (
                  s,
                  [],
                  b,
                  refl,
                  (refl, refl, inl (record { candidate = l; is = c; child = z; towards = (more, ex'); under = under_z })),
                  subst (λ q. Runs x q s b (read_parts t read (placed_entries t z) s b >>= λ v. then z v.0 v.1)) (sym (later_is z more (tail x))) runs,
                );
              }

          go : (r : Read Progress) → read_parts t read (placed_entries t z) s b ≡ r → Below y s b (read_parts t read (placed_entries t z) s b >>= λ v. then z v.0 v.1)
          go (Ok v) q =
              let below = ih v.0 v.1 in
              made below.x below.zs below.chain_is (parts_from below.x (choice z ∷ (chosen_stations t below.zs ++ tail below.x)) (placed_entries t z) s b (λ v. then z v.0 v.1) good
              (λ w ew. subst (λ (u : Progress × Bits). Runs below.x (choice z ∷ (chosen_stations t below.zs ++ tail below.x)) u.0 u.1 (then z u.0 u.1)) (same_ok (read_parts t read (placed_entries t z) s b) v w q ew) below.runs))
          go (Err g) q = made z [] (sym (append-nil (chain t z))) (parts_from z (choice z ∷ (chosen_stations t [] ++ tail z)) (placed_entries t z) s b (λ v. then z v.0 v.1) good (λ w ew. absurd (ok_err (read_parts t read (placed_entries t z) s b) w g ew q)))

      stays : (y : ℕ) (ws : List ℕ) (s : Progress) (b : Bits) (then : ℕ → Progress → Bits → Ends) → chain t y ≡ chain t top ++ ws → candidate_under t y s.fields ≡ None → (q : Bool) → is_concrete t y ≡ q → Below y s b (go_on t read then y s b (cond q stay nowhere))
      stays y ws s b then e none true c = record {
        x = y;
        zs = [];
        chain_is = sym (append-nil (chain t y));
        runs = inr (s, [], b, refl, (refl, refl, inr (refl, c, λ l ne u h. none_is t y s.fields none l ne h)), tail_from y s b (family.trailers y (under_top y ws e)));
      }
      stays y ws s b then e none false c = record {
        x = y;
        zs = [];
        chain_is = sym (append-nil (chain t y));
        runs = inl ((fault_at NoDerived (step.Choice (id_of y) ∷ [])), (refl, c, (λ l h. elim (cases_eq l y) [ inl q ↦ both_ways (is_concrete t l) (ap (is_concrete t) q ∙ c) h.concrete | inr ne ↦ none_is t y s.fields none l ne h ]), refl), refl);
      }

      under_from : (n y : ℕ) (ws : List ℕ) (s : Progress) (b : Bits) → chain t y ≡ chain t top ++ ws → 16 < length (chain t y) + n → Below y s b (read_under t read n y s b)
      unfolding read_under
      under_from zero y ws s b e lt = absurd (omega (arith, chain_length 16 t y))
      under_from (suc n) y ws s b e lt = go (candidate_under t y s.fields) refl (λ z wz m d ez lz. under_from n z wz m d ez lz)
        where
          go : (o : Option ℕ) → candidate_under t y s.fields ≡ o → ((z : ℕ) (wz : List ℕ) (m : Progress) (d : Bits) → chain t z ≡ chain t top ++ wz → 16 < length (chain t z) + n → Below z m d (read_under t read n z m d)) → Below y s b (go_on t read (read_under t read n) y s b (next_of t y o))
          go None found ih = stays y ws s b (read_under t read n) e found (is_concrete t y) refl
          go (Some l) found ih =
              let h = found_is t y s.fields l found in
              let z = child_of t is y l h.1.under.before h.1.under.after h.1.under.is h.0 in
              let z_is : next_of t y (Some l) ≡ under z.0 = ap under (ap (λ c. unwrap_or (slice_get c (length (chain t y))) 0) z.2 ∙ ap (λ o. unwrap_or o 0) (seam_get (chain t y) z.0 z.1)) in
              let chain_z = (child_is t is y z.0 l z.1 z.2).0 in
              let longer_z = ap length chain_z ∙ length-append (chain t y) (z.0 ∷ []) in
              subst (λ w. Below y s b (go_on t read (read_under t read n) y s b w)) (sym z_is)
              (goes_below (read_under t read n) y z.0 l z.1 ws s b e z.2 h.1 (λ m d. ih z.0 (ws ++ z.0 ∷ []) m d (chain_z ∙ ap (λ c. c ++ z.0 ∷ []) e ∙ append_assoc (chain t top) ws (z.0 ∷ [])) (omega arith)))

      pub record Run (b : Bits) (r : Ends) : Type 0 where
        pub x : ℕ
        pub under : IsAtOrUnder t top x
        pub runs : Runs x (course t top x) started b r

      pub course_is : (x : ℕ) (zs : List ℕ) → chain t x ≡ chain t top ++ zs → flat_map (own_stations t) (chain t top) ++ (choice top ∷ (chosen_stations t zs ++ tail x)) ≡ course t top x
      course_is x zs e = ap (λ q. flat_map (own_stations t) (chain t top) ++ (choice top ∷ (chosen_stations t q ++ tail x))) (sym (ap (drop (length (chain t top))) e ∙ drop-append_seam (chain t top) zs))

      pub container_from : (b : Bits) → Run b (read_to_end t read top b)
      container_from b = go (read_chain t read (chain t top) started b) refl
        where
          nil : chain t top ≡ chain t top ++ []
          nil = sym (append-nil (chain t top))

          then : Progress × Bits → Ends
          then v = read_under t read 16 top v.0 v.1

          deep : 16 < length (chain t top) + 16
          deep = omega (arith, ap length (chain_end t is top).1, length-append (chain_end t is top).0 (top ∷ []))

          good : AllByRecursion (λ y. AllByRecursion Good (placed_entries t y)) (chain t top)
          good = family.entries top (under_top top [] nil)

          made : (x : ℕ) (zs : List ℕ) → chain t x ≡ chain t top ++ zs → Runs x (flat_map (own_stations t) (chain t top) ++ (choice top ∷ (chosen_stations t zs ++ tail x))) started b (read_chain t read (chain t top) started b >>= then) → Run b (read_to_end t read top b)
          made x zs e runs = record { x = x; under = under_top x zs e; runs = subst (λ q. Runs x q started b (read_to_end t read top b)) (course_is x zs e) runs }

          go : (r : Read Progress) → read_chain t read (chain t top) started b ≡ r → Run b (read_to_end t read top b)
          go (Ok v) q =
              let below = under_from 16 top [] v.0 v.1 nil deep in
              made below.x below.zs below.chain_is (chain_from below.x (choice top ∷ (chosen_stations t below.zs ++ tail below.x)) (chain t top) started b then good
              (λ w ew. subst (λ (u : Progress × Bits). Runs below.x (choice top ∷ (chosen_stations t below.zs ++ tail below.x)) u.0 u.1 (then u)) (same_ok (read_chain t read (chain t top) started b) v w q ew) below.runs))
          go (Err g) q = made top [] nil (chain_from top (choice top ∷ (chosen_stations t [] ++ tail top)) (chain t top) started b then good (λ w ew. absurd (ok_err (read_chain t read (chain t top) started b) w g ew q)))
