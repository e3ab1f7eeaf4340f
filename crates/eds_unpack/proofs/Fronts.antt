-- What the reading function gives is the one value that the bits begin with, or the one fault.
use Rattle.std.proofs.Common.{◌-◌, ◌≡◌, ℕ, ◌<◌, ◌≤◌, List, [], ◌∷◌, ◌++◌, length, take, drop, Result, Ok, Err, refl, sym, ap, subst, ◌∙◌, arith, length-drop}
use Rattle.std.specs.Prelude.{IfOk, IfErr}
use Rattle.std.proofs.lemmas.List.{length-append, take-append-drop}
use Rattle.eds_base.specs.declared.fail.Fail.{Fail}
use Rattle.eds_base.specs.declared.fail.Fail.TheVariants.{Named, Memory}
use Rattle.eds_base.specs.declared.fault.Fault.{Fault}
use Rattle.eds_base.specs.declared.ids.TypeId.{TypeId}
use Rattle.eds_bits.specs.Bits.{Bits}
use Rattle.eds_overlap.specs.Laws.{IsReadable, read_type, IsRead, ReadingIsExact}
use Rattle.eds_types.specs.declared.value.Value.{Value}
use Rattle.eds_types.specs.Failing.{FailsAt}
use Rattle.eds_types.specs.Overlap.{IsClear}
use Rattle.eds_types.specs.Plain.{Plain, plain}
use Rattle.eds_types.specs.Reading.{Read}
use Rattle.eds_types.specs.Rows.{Table}
use Rattle.eds_types.specs.Rules.{KeepsRules}
use Rattle.eds_types.specs.Spelling.{Spells}
use Rattle.eds_types.proofs.ExactReading.{done, failed, err_is, ok_err, same_ok}
use Rattle.eds_unpack.specs.Answers.{IsMemory, IsValue, StopsAt, IsFault, IfNamed, IfFault, IsRecognised, IsOnlyFault}
use Rattle.eds_unpack.specs.Readers.{Stops, Gives, sized}
use Rattle.eds_unpack.specs.Walks.{type_of}

pub readable : (t : Table) (id : ℕ) → KeepsRules t → IsClear t id → id < length t → IsReadable t id
readable t id rules clear there = record { rules = rules; there = there; clear = clear }

take_front : {A : Type 0} (c rest : List A) → take (length c) (c ++ rest) ≡ c
take_front [] rest = refl
take_front (x ∷ c) rest = ap (λ y. x ∷ y) (take_front c rest)

module _ (law : ReadingIsExact) (t : Table) (id : ℕ) (is : IsReadable t id) (b : Bits) where
  read_is : (r : Read Plain) → read_type t id b ≡ r → IsRead t id b r
  read_is r e = subst (IsRead t id b) e (law t id is b).0

  value_is : (v : Plain) (c rest : Bits) → b ≡ c ++ rest → Spells t id v c → read_type t id b ≡ Ok (v, rest)
  value_is v c rest e s = (law t id is b).1 (Ok (v, rest)) (c, e, s)

  fault_is : (g : Fault) → FailsAt t id b g → read_type t id b ≡ Err g
  fault_is g f = (law t id is b).1 (Err g) f

  -- no more bits are left than there were
  pub no_longer : (v : Plain) (rest : Bits) → read_type t id b ≡ Ok (v, rest) → length rest ≤ length b
  no_longer v rest e = let h = read_is (Ok (v, rest)) e in omega (arith, ap length h.1, length-append h.0 rest)

  -- the value that a front of the bits spells is read, with its size
  pub sized_front : (v : Plain) (n : ℕ) → n ≤ length b → Spells t id v (take n b) → sized b (read_type t id b) ≡ Ok (v, n)
  sized_front v n few spelled =
      let size : length b - length (drop n b) ≡ n = omega (arith, length-drop n b) in
      ap (sized b) (value_is v (take n b) (drop n b) (sym (take-append-drop n b)) spelled) ∙ ap (λ m. Ok (v, m)) size

  -- ---- a value and its size

  pub record IsSized (v : Plain) (n : ℕ) : Type 0 where
    pub rest : Bits
    pub read : read_type t id b ≡ Ok (v, rest)
    pub size : n ≡ length b - length rest

  is_sized : (v : Plain) (n : ℕ) → sized b (read_type t id b) ≡ Ok (v, n) → IsSized v n
  is_sized v n e = go (read_type t id b) refl e
    where
      go : (r : Read Plain) → read_type t id b ≡ r → sized b r ≡ Ok (v, n) → IsSized v n
      go (Err g) p e = absurd (ok_err (sized b (Err g)) (v, n) g e refl)
      go (Ok x) p e =
          let q = same_ok (sized b (Ok x)) (x.0, length b - length x.1) (v, n) refl e in
          record { rest = x.1; read = p ∙ ap (λ w. done (w, x.1)) (ap (λ y. y.0) q); size = sym (ap (λ y. y.1) q) }

  sized_err : (g : Fault) → sized b (read_type t id b) ≡ Err g → read_type t id b ≡ Err g
  sized_err g e = go (read_type t id b) refl e
    where
      go : (r : Read Plain) → read_type t id b ≡ r → sized b r ≡ Err g → read_type t id b ≡ Err g
      go (Err h) p e = p ∙ ap (failed (Plain × Bits)) (err_is (Plain × ℕ) h g e)
      go (Ok x) p e = absurd (ok_err (sized b (Ok x)) (x.0, length b - length x.1) g refl e)

  spelled : (v : Plain) (n : ℕ) → IsSized v n → (n ≤ length b) × Spells t id v (take n b)
  spelled v n s =
      let h = read_is (Ok (v, s.rest)) s.read in
      let k : n ≡ length h.0 = (let size = s.size in omega (arith, ap length h.1, length-append h.0 s.rest)) in
      let front : take n b ≡ h.0 = ap (λ m. take m b) k ∙ ap (take (length h.0)) h.1 ∙ take_front h.0 s.rest in
      (omega (arith, ap length h.1, length-append h.0 s.rest), subst (Spells t id v) (sym front) h.2)

  -- the value is spelled by as many bits as its size
  pub size_fits : (v : Plain) (n : ℕ) → sized b (read_type t id b) ≡ Ok (v, n) → n ≤ length b
  size_fits v n e = (spelled v n (is_sized v n e)).0

  pub front_spells : (v : Plain) (n : ℕ) → sized b (read_type t id b) ≡ Ok (v, n) → Spells t id v (take n b)
  front_spells v n e = (spelled v n (is_sized v n e)).1

  abbrev pub IsAnswer : Result (Value × ℕ) (Fail Fault) → Type 0
  IsAnswer result = Gives (λ x. (plain x.0, x.1)) result (sized b (read_type t id b))

  pub fits_size : (r : Result (Value × ℕ) (Fail Fault)) → IsAnswer r → IfOk r (λ x. x.1 ≤ length b)
  fits_size (Ok x) h = (spelled (plain x.0) x.1 (is_sized (plain x.0) x.1 h)).0
  fits_size (Err stop) h = tt

  pub is_spelled : (r : Result (Value × ℕ) (Fail Fault)) → IsAnswer r → IfOk r (λ x. Spells t id (plain x.0) (take x.1 b))
  is_spelled (Ok x) h = (spelled (plain x.0) x.1 (is_sized (plain x.0) x.1 h)).1
  is_spelled (Err stop) h = tt

  only_memory : (stop : Fail Fault) (v : Plain) (rest : Bits) → Stops stop (sized b (read_type t id b)) → read_type t id b ≡ Ok (v, rest) → IsMemory stop
  only_memory (Named fault) v rest h e = absurd (ok_err (read_type t id b) (v, rest) fault e (sized_err fault h))
  only_memory Memory v rest h e = tt

  pub only_value : (r : Result (Value × ℕ) (Fail Fault)) → IsAnswer r → (v : Plain) (c rest : Bits) → b ≡ c ++ rest → Spells t id v c → IsValue v (length c) r
  only_value (Ok x) h v c rest e s =
      let z = is_sized (plain x.0) x.1 h in
      let p = same_ok (read_type t id b) (plain x.0, z.rest) (v, rest) z.read (value_is v c rest e s) in
      let q : z.rest ≡ rest = ap (λ y. y.1) p in
      let size = z.size in
      (ap (λ y. y.0) p, omega (arith, ap length q, ap length e, length-append c rest))
  only_value (Err stop) h v c rest e s = only_memory stop v rest h (value_is v c rest e s)

  named_fault : (stop : Fail Fault) → Stops stop (sized b (read_type t id b)) → IfNamed (FailsAt t id b) stop
  named_fault (Named fault) h = read_is (Err fault) (sized_err fault h)
  named_fault Memory h = tt

  pub is_fault : (r : Result (Value × ℕ) (Fail Fault)) → IsAnswer r → IfFault (FailsAt t id b) r
  is_fault (Ok x) h = tt
  is_fault (Err stop) h = named_fault stop h

  stops_at : (stop : Fail Fault) (g : Fault) → Stops stop (sized b (read_type t id b)) → read_type t id b ≡ Err g → StopsAt g stop
  stops_at (Named fault) g h e = err_is (Plain × Bits) fault g (sym (sized_err fault h) ∙ e)
  stops_at Memory g h e = tt

  pub only_fault : (r : Result (Value × ℕ) (Fail Fault)) → IsAnswer r → (g : Fault) → FailsAt t id b g → IsFault g r
  only_fault (Ok x) h g f = let z = is_sized (plain x.0) x.1 h in absurd (ok_err (read_type t id b) (plain x.0, z.rest) g z.read (fault_is g f))
  only_fault (Err stop) h g f = stops_at stop g h (fault_is g f)

  -- ---- a container and its size

  abbrev pub IsFound : Result (TypeId × ℕ) Fault → Type 0
  IsFound result = IfOk result (λ x. (v : Plain) × (sized b (read_type t id b) ≡ Ok (v, x.1)) × (type_of id v ≡ (x.0).0))

  abbrev pub IsStopped : Result (TypeId × ℕ) Fault → Type 0
  IsStopped result = IfErr result (λ g. read_type t id b ≡ Err g)

  pub found_fits : (r : Result (TypeId × ℕ) Fault) → IsFound r → IfOk r (λ x. x.1 ≤ length b)
  found_fits (Ok x) h = (spelled h.0 x.1 (is_sized h.0 x.1 h.1)).0
  found_fits (Err g) h = tt

  pub found_spelled : (r : Result (TypeId × ℕ) Fault) → IsFound r → IfOk r (λ x. (v : Plain) × Spells t id v (take x.1 b) × (type_of id v ≡ (x.0).0))
  found_spelled (Ok x) h = (h.0, (spelled h.0 x.1 (is_sized h.0 x.1 h.1)).1, h.2)
  found_spelled (Err g) h = tt

  pub only_found : (r : Result (TypeId × ℕ) Fault) → IsFound r → IsStopped r → (v : Plain) (c rest : Bits) → b ≡ c ++ rest → Spells t id v c → IsRecognised (type_of id v) (length c) r
  only_found (Ok x) h stops v c rest e s =
      let z = is_sized h.0 x.1 h.1 in
      let p = same_ok (read_type t id b) (h.0, z.rest) (v, rest) z.read (value_is v c rest e s) in
      let q : z.rest ≡ rest = ap (λ y. y.1) p in
      let size = z.size in
      (sym h.2 ∙ ap (λ y. type_of id y.0) p, omega (arith, ap length q, ap length e, length-append c rest))
  only_found (Err g) h stops v c rest e s = absurd (ok_err (read_type t id b) (v, rest) g (value_is v c rest e s) stops)

  pub stopped_fault : (r : Result (TypeId × ℕ) Fault) → IsStopped r → IfErr r (FailsAt t id b)
  stopped_fault (Ok x) h = tt
  stopped_fault (Err g) h = read_is (Err g) h

  pub only_stopped : (r : Result (TypeId × ℕ) Fault) → IsFound r → IsStopped r → (g : Fault) → FailsAt t id b g → IsOnlyFault g r
  only_stopped (Ok x) h stops g f = let z = is_sized h.0 x.1 h.1 in absurd (ok_err (read_type t id b) (h.0, z.rest) g z.read (fault_is g f))
  only_stopped (Err fault) h stops g f = err_is (Plain × Bits) fault g (sym stops ∙ fault_is g f)
