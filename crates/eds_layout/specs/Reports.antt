-- The text of a type's layouts, or one that stands for it where it is longer than it may be.
use Rattle.std.specs.Prelude.{◌≡◌, ℕ, ◌<◌, ◌≤◌, List, ◌++◌, length, ◌⊎◌}
use Rattle.eds_types.specs.declared.sets.PathSet.{PathSet}
use Rattle.eds_types.specs.Rows.{Table, id_of}
use Rattle.eds_layout.specs.PartRows.{bits_of, rows_of}
use Rattle.eds_layout.specs.declared.layout.TypeLayout.{TypeLayout}
use Rattle.eds_layout.specs.Layouts.{IsContainerLayout, AreContainerLayouts, IsLayout}
use Rattle.eds_layout.specs.Printed.{layout_text, layouts_text}

-- the octets are the text; or both are longer than they may be
abbrev pub IsUpTo : ℕ → List ℕ → List ℕ → Type 0
IsUpTo most text octets = (octets ≡ text) ⊎ ((most < length text) × (most < length octets))

-- the report is the text of layouts of these containers, or stands for it
abbrev pub IsReportOf : Table → List ℕ → ℕ → List ℕ → Type 0
IsReportOf t ks most report = (layout : List TypeLayout) × AreContainerLayouts t ks layout × IsUpTo most (layouts_text t layout) report

-- the report is the text of layouts of the type, or stands for it
abbrev pub IsReport : Table → ℕ → ℕ → List ℕ → Type 0
IsReport t id most report = (layout : List TypeLayout) × IsLayout t id layout × IsUpTo most (layouts_text t layout) report

-- the text of a layout of the container goes behind others, unless these are too long
abbrev pub GoesOn : Table → ℕ → ℕ → List ℕ → List ℕ → Type 0
GoesOn t k most old new = (l : TypeLayout) × IsContainerLayout t k l × (((length old ≤ most) × (new ≡ old ++ layout_text t l)) ⊎ ((most < length old) × (new ≡ old)))

-- the layout of a container with these sets
abbrev pub layout_with : Table → ℕ → List PathSet → TypeLayout
layout_with t k sets = record { id = id_of k; bits = bits_of t k; rows = rows_of t k; sets = sets }
