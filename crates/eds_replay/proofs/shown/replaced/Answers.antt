use Rattle.std.proofs.Common.{refl, ◌∙◌, ap, ◌++◌, string_bytes}
use Rattle.std.specs.Str.Lossy.{replacement_bytes}
use Rattle.eds_replay.proofs.Showing.{shown-more, shown-last}
use Rattle.eds_replay.proofs.shown.replaced.Goals as goal

pub loop-at-preserved : goal.loop-at-preserved
loop-at-preserved c =
    shown-more (string_bytes c.loop-at.text) (string_bytes c.push_str.new.self) c.loop-at.rest.now _ c.in-Some.at _ c.in-Some.ensures.some c.in-Some.ensures.short refl
    (c.in_ok-push_str.ensures.bytes ∙ ap (λ t. t ++ replacement_bytes) c.in_ok-add_text.ensures) c.loop-at.invariant

pub returns : goal.returns
returns c = c.from_string.ensures ∙ shown-last (string_bytes c.loop-at.text) (string_bytes c.add_text-2.new.text) c.loop-at.rest.now _ c.in_default.ensures.none c.in_ok-add_text-2.ensures c.loop-at.invariant
