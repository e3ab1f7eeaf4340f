-- The places at which something happens, in words.
use Rattle.std.specs.Prelude.{ℕ, List}
use Rattle.eds_plan.specs.Ends.{end_text}
use Rattle.eds_script.specs.declared.names.Place.{Place}
use Rattle.eds_script.specs.declared.names.Place.TheVariants.{Component, End}

-- `Package/Component` or `Package/Component:end`
abbrev pub place_text : Place → List ℕ
place_text (Component name) = name.now
place_text (End component end) = end_text component.now end.now
