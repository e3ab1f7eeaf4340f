-- What operands stand for, and what they fit.
use Rattle.std.specs.Prelude.{ℕ, ◌==◌, ◌||◌, List, codes, Bool, true, false, is_some, is_none, Option, Some, None, option_map, slice_get, pos}
use Rattle.eds_base.specs.Reading.{◌>>=◌}
use Rattle.eds_base.specs.Numbers.{whole_number}
use Rattle.eds_base.specs.declared.ids.TypeId.{TypeId}
use Rattle.eds_types.specs.declared.row.Kind.{Kind}
use Rattle.eds_types.specs.declared.row.Kind.TheVariants as kind
use Rattle.eds_types.specs.declared.row.TypeRow.{TypeRow}
use Rattle.eds_types.specs.declared.value.Value.TheVariants as value
use Rattle.eds_types.specs.Plain.{Plain, num, stored}
use Rattle.eds_types.specs.Rows.{Table, chain, list_has}
use Rattle.eds_types.specs.TextValues.{text_value_of}
use Rattle.eds_plan.specs.declared.activity.Operand.{Operand}
use Rattle.eds_plan.specs.declared.activity.Operand.TheVariants as source
use Rattle.eds_read_act.specs.declared.activity_sort.ActivitySort.{ActivitySort}
use Rattle.eds_read_act.specs.declared.activity_sort.ActivitySort.TheVariants as sort
use Rattle.eds_read_act.specs.declared.naming.Found.{Found}
use Rattle.eds_read_act.specs.declared.operand.Wanted.{Wanted}
use Rattle.eds_read_act.specs.declared.operand.Wanted.TheVariants as wanted
use Rattle.eds_read_act.specs.ActivitySorts.{sort_at}
use Rattle.eds_read_act.specs.Inside.{text_at}
use Rattle.eds_read_act.specs.Naming.{found_in, fields_of}
use Rattle.eds_read_act.specs.Scopes.{Scope}

-- ---- types

-- what a row says of its type
abbrev pub kind_in : Option TypeRow → Option Kind
kind_in row = option_map (λ (r : TypeRow). r.kind) row

-- the kind of a type, if the table has it
abbrev pub kind_of : Table → TypeId → Option Kind
kind_of t id = kind_in (slice_get t id.0)

-- numbers
abbrev pub is_number : Option Kind → Bool
is_number (Some (kind.Int f s)) = true
is_number k = false

-- values of the two kinds may stand for each other: numbers for numbers, truth values, texts and binaries likewise, values of one
-- enumerated type or array type, and containers of which one is the other or derives from it
abbrev pub are_alike : Table → TypeId → Kind → TypeId → Kind → Bool
are_alike t a (kind.Int f s) b (kind.Int g u) = true
are_alike t a (kind.Bool f) b (kind.Bool g) = true
are_alike t a (kind.Str f) b (kind.Str g) = true
are_alike t a (kind.Bin m tail) b (kind.Bin n free) = true
are_alike t a (kind.Enum f l) b (kind.Enum g m) = a.0 == b.0
are_alike t a (kind.Arr i m) b (kind.Arr j n) = a.0 == b.0
are_alike t a (kind.Con c) b (kind.Con d) = list_has (chain t b.0) a.0 || list_has (chain t a.0) b.0
are_alike t a k b l = false

-- values of the two kinds may stand for each other, where both kinds are known
abbrev pub both_alike : Table → TypeId → Option Kind → TypeId → Option Kind → Bool
both_alike t a (Some k) b (Some l) = are_alike t a k b l
both_alike t a k b l = false

-- values of the two types may stand for each other
abbrev pub fit_together : Table → TypeId → TypeId → Bool
fit_together t a b = both_alike t a (kind_of t a) b (kind_of t b)

-- ---- values

-- the value of what is wanted that a text stands for: where a number is wanted, each whole number is one
abbrev pub literal : Table → Wanted → List ℕ → Option Plain
literal t (wanted.Type id) s = kind_of t id >>= λ k. text_value_of k s
literal t wanted.Number s = option_map num (whole_number s)

-- ---- operands

-- what a reference finds that is an operand; a value is no reference
abbrev pub found_as : ActivitySort → Scope → ℕ → Option Found
found_as sort.VariableRef s n = found_in s.table (fields_of s.variables) (text_at s.tree n (codes "variableRef"))
found_as sort.ArgumentRef s n = s.arguments >>= λ fields. found_in s.table fields (text_at s.tree n (codes "argumentRef"))
found_as k s n = None

-- what an element finds that is a reference to a variable or an argument
abbrev pub found_at : Scope → ℕ → Option Found
found_at s n = found_as (sort_at s.tree n) s n

-- an ArgumentRef where it isn't known which arguments there are
abbrev pub is_unknown_as : ActivitySort → Scope → Bool
is_unknown_as sort.ArgumentRef s = is_none s.arguments
is_unknown_as k s = false

-- the same of an element, whatever it is
abbrev pub is_unknown : Scope → ℕ → Bool
is_unknown s n = is_unknown_as (sort_at s.tree n) s

-- its type
abbrev pub type_of : Scope → ℕ → Option TypeId
type_of s n = option_map (λ (f : Found). f.id) (found_at s n)

-- a type is one that is wanted
abbrev pub type_fits : Table → Wanted → TypeId → Bool
type_fits t (wanted.Type id) from = fit_together t from id
type_fits t wanted.Number from = is_number (kind_of t from)

-- what a reference finds is wanted
abbrev pub found_fits : Table → Wanted → Option Found → Bool
found_fits t w None = false
found_fits t w (Some f) = type_fits t w f.id

-- the operand fits what is wanted
abbrev pub fits_as : ActivitySort → Scope → Wanted → ℕ → Bool
fits_as sort.Value s w n = is_some (literal s.table w (text_at s.tree n (codes "value")))
fits_as k s w n = found_fits s.table w (found_as k s n)

-- the operand that an element is fits what is wanted
abbrev pub operand_fits : Scope → Wanted → ℕ → Bool
operand_fits s w n = fits_as (sort_at s.tree n) s w n

-- ---- as plan data; 0 stands for what is not there

-- the number 0, in place of an operand that is not there
abbrev pub zero_operand : Operand
zero_operand = source.Value (value.Num (pos 0))

-- a value as an operand, 0 where a text stands for none
abbrev pub literal_operand : Option Plain → Operand
literal_operand None = zero_operand
literal_operand (Some v) = source.Value (stored v)

-- a variable or an entry of it as an operand, 0 where none is found
abbrev pub variable_operand : Option Found → Operand
variable_operand None = zero_operand
variable_operand (Some f) = source.Variable f.at f.path

-- an argument or an entry of it as an operand, 0 where none is found
abbrev pub argument_operand : Option Found → Operand
argument_operand None = zero_operand
argument_operand (Some f) = source.Argument f.at f.path

-- the operand that an element of this sort is, where this is wanted; 0 where it is none
abbrev pub operand_as : ActivitySort → Scope → Wanted → ℕ → Operand
operand_as sort.Value s w n = literal_operand (literal s.table w (text_at s.tree n (codes "value")))
operand_as sort.VariableRef s w n = variable_operand (found_as sort.VariableRef s n)
operand_as sort.ArgumentRef s w n = argument_operand (found_as sort.ArgumentRef s n)
operand_as k s w n = zero_operand

-- the operand that an element is, where this is wanted
abbrev pub operand_at : Scope → Wanted → ℕ → Operand
operand_at s w n = operand_as (sort_at s.tree n) s w n

-- the operand that an element is, where this is wanted; 0 where there is no element
abbrev pub operand_if : Scope → Wanted → Option ℕ → Operand
operand_if s w None = zero_operand
operand_if s w (Some n) = operand_at s w n
