-- What scalar types have that break no rule, as the table of types asks for it.
use Rattle.std.specs.Prelude.{◌≡◌, ℕ, List, Some}
use Rattle.eds_bits.specs.declared.forms.IntForm.{IntForm}
use Rattle.eds_tree.specs.declared.tree.Node.{Node}
use Rattle.eds_types.specs.Rules.{IsDomain, IsListing}
use Rattle.eds_type_rows.specs.Forms.{int_form_of}
use Rattle.eds_type_rows.specs.Ranges.{range_of}
use Rattle.eds_domains.specs.Domains.{domain_of}
use Rattle.eds_type_rows.specs.Listings.{listing_of}

-- the integer type has a form, and its domain is one of the form
pub record HasDomain (t : List Node) (n : ℕ) : Type 0 where
  pub form : IntForm
  pub form_is : int_form_of t n ≡ Some form
  pub is_domain : IsDomain form (domain_of form (range_of t n))

-- the enumerated type has a form, and its listing is one of the form
pub record HasListing (t : List Node) (n : ℕ) : Type 0 where
  pub form : IntForm
  pub form_is : int_form_of t n ≡ Some form
  pub lists : IsListing form (listing_of t n)
