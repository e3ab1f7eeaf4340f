-- The numbers of types.
use Rattle.std.specs.Prelude.{◌≡◌, ℕ, ℤ, pos, List, Option, Some, None, slice_get, IsTrue, ◌⊎◌}
use Rattle.eds_base.specs.declared.ids.TypeId.{TypeId}
use Rattle.eds_base.specs.declared.spans.Span.{Span}
use Rattle.eds_base.specs.Spans.{IsWithin}
use Rattle.eds_bits.specs.Lists.{HasOne}
use Rattle.eds_types.specs.declared.row.TypeRow.{TypeRow}
use Rattle.eds_types.specs.declared.row.Kind.{Kind}
use Rattle.eds_types.specs.declared.row.Kind.TheVariants as kind
use Rattle.eds_types.specs.Rows.{Table, is_concrete}
use Rattle.eds_types.specs.Fields.{type_on, IsAtOrUnder}

-- ---- of integer types and sub-ranges, as intervals

-- the numbers of an integer kind; other kinds have none
abbrev pub int_domain_by : Kind → Option (List Span)
int_domain_by (kind.Int form spans) = Some spans
int_domain_by (kind.Enum form listing) = None
int_domain_by (kind.Bool form) = None
int_domain_by (kind.Str form) = None
int_domain_by (kind.Bin n free) = None
int_domain_by (kind.Arr item n) = None
int_domain_by (kind.Con c) = None

-- the same of a row, if there is one
abbrev pub int_domain_in : Option TypeRow → Option (List Span)
int_domain_in None = None
int_domain_in (Some row) = int_domain_by row.kind

-- the domain of an integer type or sub-range; any other type has none
abbrev pub int_domain : Table → ℕ → Option (List Span)
int_domain t id = int_domain_in (slice_get t id)

-- ---- of all types

-- the numbers that a value of this kind can have: those of a truth value are 0 and 1, and those of a container are the
-- concrete containers at or under it
abbrev pub InDomainOf : Table → ℕ → Kind → ℤ → Type 0
InDomainOf t id (kind.Int form spans) n = IsWithin spans n
InDomainOf t id (kind.Enum form listing) n = HasOne (λ e. e.1 ≡ n) listing
InDomainOf t id (kind.Bool form) n = (n ≡ pos 0) ⊎ (n ≡ pos 1)
InDomainOf t id (kind.Str form) n = ⊥
InDomainOf t id (kind.Bin size free) n = ⊥
InDomainOf t id (kind.Arr item size) n = ⊥
InDomainOf t id (kind.Con c) n = (k : ℕ) × (n ≡ pos k) × IsTrue (is_concrete t k) × IsAtOrUnder t id k

-- a number is of the domain of a row's type
abbrev pub InDomainOfRow : Table → ℕ → Option TypeRow → ℤ → Type 0
InDomainOfRow t id None n = ⊥
InDomainOfRow t id (Some row) n = InDomainOf t id row.kind n

-- a number is of the domain of a type, if there is one
abbrev pub InDomainOfType : Table → Option ℕ → ℤ → Type 0
InDomainOfType t None n = ⊥
InDomainOfType t (Some id) n = InDomainOfRow t id (slice_get t id) n

-- the domain of a path is that of the type it leads to
abbrev pub InDomain : Table → List (TypeId × ℕ) → ℤ → Type 0
InDomain t path n = InDomainOfType t (type_on t path) n
