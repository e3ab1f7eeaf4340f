use Rattle.std.proofs.Common.{◌≤◌, take}
use Rattle.eds_unpack.specs.Templates.{AreTemplateParts}
use Rattle.eds_unpack.proofs.template.template_by.Given as goal

abbrev pub invariant-loop-place : goal.invariant-loop-place
invariant-loop-place l = record {
  are : AreTemplateParts l.table 0 l.bits (take l.place-index l.all) l.parts.items l.places.items;
  few : l.bits ≤ 524288;
}
