-- Values that pack as a type.
use Rattle.std.proofs.Common.{ℕ, ◌<◌, length}
use Rattle.std.proofs.lemmas.Option.{slice_get_within}
use Rattle.eds_types.specs.Plain.{Plain}
use Rattle.eds_types.specs.Rows.{Table}
use Rattle.eds_types.specs.Spelling.{SpellsWithin}
use Rattle.eds_act.specs.Does.{Conforms}
use Rattle.eds_script.specs.Fitting.{IsValueOf}

-- a type as which a value packs is there
pub is-known : (t : Table) (id : ℕ) (v : Plain) → Conforms t id v → id < length t
unfolding SpellsWithin
is-known t id v h = slice_get_within t id ((h.1).1).0 (((h.1).1).1)

pub is-value : (t : Table) (id : ℕ) (v : Plain) → Conforms t id v → IsValueOf t id v
is-value t id v h = record { known = is-known t id v h; size = h.0; packs = h.1 }

pub conforms-by : (t : Table) (id : ℕ) (v : Plain) → IsValueOf t id v → Conforms t id v
conforms-by t id v h = (h.size, h.packs)
