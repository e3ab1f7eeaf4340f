-- The numbers that a constraint admits: those of its entry's domain that it asks for.
use Rattle.std.specs.Prelude.{ℕ, ◌+◌, ℤ, pos, List, [], ◌∷◌, filter, Bool, true, false, if◌then◌else◌, Option, None, option_map, slice_get}
use Rattle.std.specs.List.{flat_map}
use Rattle.std.specs.Ordering.{int_eq}
use Rattle.eds_base.specs.Reading.{◌>>=◌, only}
use Rattle.eds_base.specs.Numbers.{whole_number, flag_value}
use Rattle.eds_base.specs.declared.spans.Span.{Span}
use Rattle.eds_base.specs.Spans.{bottom, top}
use Rattle.eds_types.specs.declared.row.Kind.{Kind}
use Rattle.eds_types.specs.declared.row.Kind.TheVariants as kind
use Rattle.eds_types.specs.Domains.{int_domain_by}
use Rattle.eds_types.specs.Fields.{listed}
use Rattle.eds_types.specs.Reading.{is_within}
use Rattle.eds_types.specs.Rows.{Table, is_concrete, derived, chain, list_has}
use Rattle.eds_constraints.specs.declared.asked.Test.{Test}
use Rattle.eds_constraints.specs.declared.asked.Test.TheVariants.{Value, Within, Under}
use Rattle.eds_domains.specs.declared.range.End.TheVariants.{Inclusive}
use Rattle.eds_domains.specs.declared.range.Range.{Range}
use Rattle.eds_domains.specs.Domains.{narrowed}

-- ---- sets

-- one number alone
abbrev pub one_number : ℤ → List Span
one_number n = record { low = n; high = n } ∷ []

-- every number that a set may hold
abbrev pub all_numbers : List Span
all_numbers = record { low = bottom; high = top } ∷ []

-- the range of the numbers of an interval
abbrev pub between : Span → Range
between s = record { low = Inclusive s.low; high = Inclusive s.high }

-- the numbers that two sets have in common
abbrev pub met : List Span → List Span → List Span
met xs ys = flat_map (λ s. narrowed (between s) ys) xs

-- a number put before greater ones: into the first interval, where it is the number just below
abbrev pub put_before : ℕ → List Span → List Span
put_before k [] = one_number (pos k)
put_before k (s ∷ spans) = if int_eq (pos (k + 1)) s.low then record { low = pos k; high = s.high } ∷ spans else record { low = pos k; high = pos k } ∷ (s ∷ spans)

-- the set of some rising numbers
abbrev pub set_of_numbers : List ℕ → List Span
set_of_numbers [] = []
set_of_numbers (k ∷ ks) = put_before k (set_of_numbers ks)

-- the concrete containers at or under a type
abbrev pub concrete_under : Table → ℕ → List Span
concrete_under t id = set_of_numbers (filter (is_concrete t) (derived t id))

-- ---- what a constraint admits

-- 0 or 1
abbrev pub truth_number : Bool → ℤ
truth_number true = pos 1
truth_number false = pos 0

-- a number alone, where it is of the domain
abbrev pub number_within : List Span → ℤ → List Span
number_within domain n = if is_within domain n then one_number n else []

-- the number that a text stands for, by the kind of the entry: a whole number, a label or a flag. None where it stands for none; a
-- number outside the domain is one that the entry never has.
abbrev pub value_set : Kind → List ℕ → Option (List Span)
value_set (kind.Int form spans) text = option_map (number_within spans) (whole_number text)
value_set (kind.Enum form listing) text = option_map one_number (listed listing text)
value_set (kind.Bool form) text = option_map (λ b. one_number (truth_number b)) (flag_value text)
value_set (kind.Str form) text = None
value_set (kind.Bin n free) text = None
value_set (kind.Arr item n) text = None
value_set (kind.Con c) text = None

-- the concrete containers at or under a type that is the entry's, or derives from it; none where it is another
abbrev pub type_set : Table → (target kept : ℕ) → Option (List Span)
type_set t target kept = only (list_has (chain t kept) target) (concrete_under t kept)

-- what a constraint admits of an entry of this kind
abbrev pub set_by : Table → (target : ℕ) → Kind → Test → Option (List Span)
set_by t target k (Value text) = value_set k text
set_by t target k (Within range) = option_map (narrowed range) (int_domain_by k)
set_by t target k (Under id) = type_set t target id.0

-- what a constraint admits of an entry of this type; none where it stands for nothing there
abbrev pub set_of : Table → (target : ℕ) → Test → Option (List Span)
set_of t target test = slice_get t target >>= λ row. set_by t target row.kind test
