use Rattle.eds_host.specs.Hosts.{RunsHaveOneOutcome}
use Rattle.eds_host.specs.Alike.{AlikeRuns, AlikeSystems, AlikeWires}
use Rattle.eds_layout.specs.Laws.{HasLayouts, LayoutsTell}
use Rattle.eds_layout.specs.TextLaws.{OneText}
use Rattle.eds_overlap.specs.Laws.{EmptyTypes, OneCanonical, OneOutcome, PackingIsDecided}
use Rattle.eds_read_comp.specs.Laws.{SeenPlansAreAlike}
use Rattle.eds_replay.specs.Alike.{AlikeAgreement, AlikeDifferences}
use Rattle.eds_script.specs.Alike.{AlikeEvents, AlikeScripts, AlikeStates}
use Rattle.eds_unpack.specs.Pieces.{OneCut}
use Rattle.eds_cmd.specs.ReplayLaws.{OneReplay, SomeReplay, ValidSessionsReplay}
use Rattle.eds_cmd.specs.RunLaws.{OneRun, SomeRun, ValidScriptsRun}
use Rattle.eds_cmd.proofs.OneAnswer.{ValueLaws, one_answer, some_answer}
use Rattle.eds_cmd.proofs.OneLayout.{LayoutLaws}
use Rattle.eds_cmd.proofs.SheetReplays.{SessionLaws}
use Rattle.eds_cmd.proofs.SheetRuns.{ScriptLaws}
use Rattle.eds_cmd.proofs.ValidLemmas.{valid_done}
use Rattle.eds_cmd.proofs.law.answer_is_one.Goals as goal

-- the laws of runs
script_laws : RunsHaveOneOutcome → SeenPlansAreAlike → AlikeSystems → AlikeWires → AlikeRuns → AlikeScripts → AlikeEvents → AlikeStates → OneRun → SomeRun → ValidScriptsRun → ScriptLaws
script_laws outcome seen systems wires runs scripts events states one some valid = record {
  alike = record { seen = seen; systems = systems; wires = wires; runs = runs; scripts = scripts; events = events; states = states };
  outcome = outcome;
  one = one;
  some = some;
  valid = valid;
}

-- the laws of replays
session_laws : ScriptLaws → AlikeAgreement → AlikeDifferences → OneReplay → SomeReplay → ValidSessionsReplay → SessionLaws
session_laws scripts agree differ one some valid = record { alike = scripts.alike; agree = agree; differ = differ; one = one; some = some; valid = valid }

-- the laws of layouts
layout_laws : HasLayouts → LayoutsTell → OneText → LayoutLaws
layout_laws there tell one = record { there = there; tell = tell; one = one }

-- and all laws
laws : OneOutcome → OneCanonical → PackingIsDecided → EmptyTypes → OneCut → LayoutLaws → ScriptLaws → SessionLaws → ValueLaws
laws outcome canonical packing empty cut layouts scripts sessions = record { outcome = outcome; canonical = canonical; packing = packing; empty = empty; cut = cut; layouts = layouts; scripts = scripts; sessions = sessions }

pub returns-clause-one : goal.returns-clause-one
returns-clause-one c =
    let alike = c.alike_plans_run_alike.ensures in
    let told = c.alike_plans_are_told_alike.ensures in
    let run = c.run_is_one.ensures in
    let layouts = layout_laws c.layouts_are_there.ensures c.layouts_tell.ensures c.one_text.ensures in
    let scripts = script_laws c.runs_join.ensures.one c.seen_plans_are_alike.ensures alike.systems alike.wires alike.runs told.scripts told.events told.states run.one run.some run.valid in
    let replay = c.replay_is_one.ensures in
    let judged = c.alike_plans_agree_alike.ensures in
    let sessions = session_laws scripts judged.agree judged.differ replay.one replay.some replay.valid in
    one_answer (laws c.one_outcome.ensures c.canonical_spelling.ensures.one c.packing_is_decided.ensures c.empty_types.ensures c.one_cut.ensures layouts scripts sessions) c.sheets_are_sound.ensures

pub returns-clause-some : goal.returns-clause-some
returns-clause-some c =
    let alike = c.alike_plans_run_alike.ensures in
    let told = c.alike_plans_are_told_alike.ensures in
    let run = c.run_is_one.ensures in
    let layouts = layout_laws c.layouts_are_there.ensures c.layouts_tell.ensures c.one_text.ensures in
    let scripts = script_laws c.runs_join.ensures.one c.seen_plans_are_alike.ensures alike.systems alike.wires alike.runs told.scripts told.events told.states run.one run.some run.valid in
    let replay = c.replay_is_one.ensures in
    let judged = c.alike_plans_agree_alike.ensures in
    let sessions = session_laws scripts judged.agree judged.differ replay.one replay.some replay.valid in
    some_answer (laws c.one_outcome.ensures c.canonical_spelling.ensures.one c.packing_is_decided.ensures c.empty_types.ensures c.one_cut.ensures layouts scripts sessions) c.sheets_are_sound.ensures

pub returns-clause-valid : goal.returns-clause-valid
returns-clause-valid c =
    let alike = c.alike_plans_run_alike.ensures in
    let told = c.alike_plans_are_told_alike.ensures in
    let run = c.run_is_one.ensures in
    let layouts = layout_laws c.layouts_are_there.ensures c.layouts_tell.ensures c.one_text.ensures in
    let scripts = script_laws c.runs_join.ensures.one c.seen_plans_are_alike.ensures alike.systems alike.wires alike.runs told.scripts told.events told.states run.one run.some run.valid in
    let replay = c.replay_is_one.ensures in
    let judged = c.alike_plans_agree_alike.ensures in
    let sessions = session_laws scripts judged.agree judged.differ replay.one replay.some replay.valid in
    λ firsts files command status report valid answer.
    valid_done (laws c.one_outcome.ensures c.canonical_spelling.ensures.one c.packing_is_decided.ensures c.empty_types.ensures c.one_cut.ensures layouts scripts sessions) c.sheets_are_sound.ensures
    firsts files command valid status report answer
