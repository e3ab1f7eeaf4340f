-- The choice of a derived container, by what is known of the entries before it.
use Rattle.std.specs.Prelude.{◌≡◌, ℕ, List, true}
use Rattle.std.specs.List.{AllByRecursion}
use Rattle.eds_types.specs.declared.row.Constraint.{Constraint}
use Rattle.eds_types.specs.Fields.{Field}
use Rattle.eds_types.specs.Reading.{Next, stay, nowhere, under, starts_above}
use Rattle.eds_types.specs.Rows.{Table, constraints_of}
use Rattle.eds_overlap.specs.Pairs.{Steps}
use Rattle.eds_unpack.specs.declared.choice.Next.{Next as Chosen}
use Rattle.eds_unpack.specs.declared.choice.Next.TheVariants as chosen
use Rattle.eds_unpack.specs.declared.known.Known.{Known}
use Rattle.eds_unpack.specs.declared.known.Known.TheVariants as known
use Rattle.eds_unpack.specs.Courses.{fields_of}
use Rattle.eds_unpack.specs.Index.{Among}
use Rattle.eds_unpack.specs.Noted.{IsNoted}

-- what a choice is in the definition
abbrev pub next_in : Chosen → Next
next_in chosen.Stay = stay
next_in chosen.Nowhere = nowhere
next_in (chosen.Under id) = under id.0

-- what is known tells the number that the fields have on the path
abbrev pub TellsOn : Table → List Field → Known → Steps → Type 0
TellsOn t fs (known.Fields read) path = fields_of read.now ≡ fs
TellsOn t fs (known.Numbers notes numbers) path = Among notes.now path × IsNoted t notes.now numbers.now fs path

-- so that it tells whether the constraint holds of them
abbrev pub Tells : Table → List Field → Known → Constraint → Type 0
Tells t fs k c = TellsOn t fs k c.path

-- it does where the constraint is on an entry that is read before the choice at x
abbrev pub TellsAbove : Table → ℕ → List Field → Known → Constraint → Type 0
TellsAbove t x fs k c = starts_above t x c.path ≡ true → Tells t fs k c

-- and so for all constraints of the table
abbrev pub TellsChoice : Table → ℕ → List Field → Known → Type 0
TellsChoice t x fs k = (y : ℕ) → AllByRecursion (TellsAbove t x fs k) (constraints_of t y)
