use Rattle.std.proofs.Common.{sym, ◌∙◌}
use Rattle.eds_read_act.specs.Scopes.{scope_of}
use Rattle.eds_read_act.proofs.Sound.{pushed_sound}
use Rattle.eds_read_act.proofs.type_mismatch.+push_sound.Goals as goal

pub push_sound-returns : goal.push_sound-returns
push_sound-returns t c =
    pushed_sound (scope_of c.args.scope.now) c.args.depth c.args.link c.args.links.now.items c.push.new.self.items _ c.if-depth-eq0.false
    (sym c.if-branch.false ∙ c.in_ok-is_bad.ensures) c.in_ok-push.ensures.items c.in_ok-push_sound_children.ensures
