use Rattle.std.proofs.Common.{◌≡◌, ◌∙◌, [], ◌∷◌, None, Ok, refl, subst}
use Rattle.eds_sheet.specs.Compiled.{compiled, seen_sheet}
use Rattle.eds_cmd.proofs.Demonstrating.{runnable_by, runs_by}
use Rattle.eds_cmd.proofs.demonstration.demonstrate.Goals as goal

pub returns : goal.returns
returns c = λ firsts tells.
    let e = c.components_of-components.ensures in
    record {
      sheet = seen_sheet c.in_ok-sheet.sheet;
      sheet_is = subst (λ file. compiled firsts (file ∷ []) None ≡ Ok (seen_sheet c.in_ok-sheet.sheet)) c.in_ok-file.ensures.sheet (c.in_ok-sheet.ensures.sheet firsts tells);
      plan = c.in_ok-sheet.sheet.plan;
      is = record { seen = refl; fits = (runnable_by _ _ _ _ e.table e.plan e.runnable).fits };
      tally = c.in_ok-counted.counted.tally;
      end = c.in_ok-counted.counted.end;
      runs = runs_by _ _ _ _ _ _ _ _ e.table e.plan (c.as_slice.ensures ∙ c.in_ok-file.ensures.script) c.in_ok-counted.ensures;
      status_is = refl;
      report_is = c.octets_of.ensures ∙ c.in_ok-line.ensures;
    }
