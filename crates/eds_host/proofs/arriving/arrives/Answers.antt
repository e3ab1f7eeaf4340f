use Rattle.std.proofs.Common.{arith, ap, sym, ◌∙◌, length}
use Rattle.eds_host.specs.Settings.{running}
use Rattle.eds_host.proofs.Tied.{tied_after, dues_length}
use Rattle.eds_host.proofs.Standing.{set_length}
use Rattle.eds_host.proofs.arriving.arrives.Goals as goal

pub note_due-requires-clause-room : goal.note_due-requires-clause-room
note_due-requires-clause-room c = ap length c.requires.tied ∙ dues_length (running c.args.setting.now) 0 c.args.states.now ∙ sym (set_length c.args.states.now c.args.comp.0 _) ∙ ap length (sym c.in_ok-reacts.ensures.state)

pub returns-clause-tied : goal.returns-clause-tied
returns-clause-tied c = tied_after (running c.args.setting.now) c.args.dues.now c.note_due.new.dues c.args.states.now c.reacts.new.states c.args.comp.0 _ (omega (arith, c.requires.known, c.requires.states.all)) c.requires.tied c.in_ok-reacts.ensures.state c.in_ok-note_due.ensures
