use Rattle.std.proofs.Common.{◌≡◌, ◌+◌, Some, length}
use Rattle.std.specs.Str.{IsUtf8}
use Rattle.eds_names.specs.LookUp.{candidates, first_found, slashes}
use Rattle.eds_names.proofs.space.Space.look_up_below.Given as goal

abbrev pub invariant-fronts : goal.invariant-fronts
invariant-fronts l = record {
  text : IsUtf8 l.front;
  depth : slashes l.front + 1 + slashes l.text ≡ l.depth;
  found : first_found l.self.declared (candidates (Some l.front) l.text) ≡ first_found l.self.declared (candidates (Some l.around) l.text);
}

abbrev pub decreases-fronts : goal.decreases-fronts
decreases-fronts l = length l.front
