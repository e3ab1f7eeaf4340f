-- The layout of a type comes to one report.
use Rattle.std.proofs.Common.{◌≡◌, ◌∙◌, ℕ, List, refl, sym}
use Rattle.eds_types.specs.Rules.{KeepsRules}
use Rattle.eds_layout.specs.Laws.{HasLayouts, LayoutsTell}
use Rattle.eds_layout.specs.Printed.{layouts_text}
use Rattle.eds_layout.specs.TextLaws.{OneText}
use Rattle.eds_cmd.specs.declared.status.Status.{Status}
use Rattle.eds_cmd.specs.declared.status.Status.TheVariants as statuses
use Rattle.eds_cmd.specs.Layout.{LaysOut}
use Rattle.eds_cmd.specs.Target.{TypeIn}

-- the laws of layouts
pub record LayoutLaws : Type 0 where
  pub there : HasLayouts
  pub tell : LayoutsTell
  pub one : OneText

module _ (laws : LayoutLaws) (type : TypeIn) where
  pub one_of_layout : (s o : Status) (r l : List ℕ) → LaysOut type s r → LaysOut type o l → (s ≡ o) × (r ≡ l)
  one_of_layout s o r l a b = (a.status_is ∙ sym b.status_is, a.report_is ∙ laws.one type.table type.id a.layout b.layout a.is b.is ∙ sym b.report_is)

  -- each type of a table has a layout, so there is a report
  pub some_of_layout : KeepsRules type.table → (report : List ℕ) × LaysOut type statuses.Done report
  some_of_layout rules =
      let found = laws.there type.table type.id rules in
      let told = laws.tell type.table type.id rules found.0 found.1 in
      (layouts_text type.table found.0, record { layout = found.0; is = found.1; tells = told; status_is = refl; report_is = refl })
