use Rattle.std.proofs.Common.{◌≡◌, ℕ, ◌<◌, ◌^◌, List, [], ◌∷◌, ◌++◌, length, sym, ◌∙◌, ap, arith, length-append}
use Rattle.std.proofs.lemmas.List.Elements.{All-push}
use Rattle.std.proofs.lemmas.List.Sums.{sum_by_push}
use Rattle.eds_io.specs.Counts.{HasRisen}
use Rattle.eds_cmd.proofs.SheetFiles.{are, ended_reached, ended_told, handed_on, sheet_files-more, sheet_reached}
use Rattle.eds_cmd.proofs.perform.sheet_files.Goals as goal

pub returns-in_err-octets-clause-told : goal.returns-in_err-octets-clause-told
returns-in_err-octets-clause-told g c = λ files told.
    let endings = rw c.as_str.ensures at (c.in_err-octets.ensures.told files (c.loop-name.invariant.files ∙ told)) in
    rw (handed_on c.from_residual.result c.in_err-octets.field-0.0 c.from_residual.ensures.1)
    (ended_told files c.args.names.now c.loop-name.name-index c.loop-name.before c.name-item.result c.in_err-octets.field-0.0 c.loop-name.sheets (omega arith) c.name-item.is c.loop-name.invariant.all (c.loop-name.invariant.so_far files told) endings)

pub returns-in_err-octets-clause-reached : goal.returns-in_err-octets-clause-reached
returns-in_err-octets-clause-reached g c = λ files told.
    let faults = g.S.Shelf.faults in
    let reached = sheet_reached files c.args.names.now c.loop-name.name-index c.name-item.result c.loop-name.sheets (omega arith) c.name-item.is (c.loop-name.invariant.so_far files told) in
    rw (handed_on c.from_residual.result c.in_err-octets.field-0.0 c.from_residual.ensures.1)
    (ended_reached files c.args.names.now c.name-item.result c.in_err-octets.field-0.0 (λ n. HasRisen (faults c.loop-name.shelf n) (faults c.sheet_file.new.shelf n)) reached (rw c.as_str.ensures at c.in_err-octets.ensures.unread))

pub loop-name-preserved : goal.loop-name-preserved
loop-name-preserved g c =
    let names = c.args.names.now in
    let i = c.loop-name.name-index in
    let name = c.name-item.result in
    let sheets = c.loop-name.sheets in
    let octets = c.in_ok-octets.octets in
    let pushed : c.push.new.self ≡ sheets ++ octets ∷ [] = c.in_ok-push.ensures.ok in
    record {
      so_far = λ told known.
          let read = rw c.as_str.ensures at (c.in_ok-octets.ensures.told told (c.loop-name.invariant.files ∙ known)) in
          sheet_files-more told names i c.loop-name.before name octets sheets (omega arith) c.name-item.is c.loop-name.invariant.all (c.loop-name.invariant.so_far told known) read ∙ ap are (sym pushed);
      all = rw pushed (omega (arith, sum_by_push length sheets octets, c.len.ensures, c.loop-name.invariant.all));
      within = omega (arith, c.in_ok-octets.ensures.all, c.len.ensures);
      count = rw pushed (omega (arith, length-append sheets (octets ∷ []), c.loop-name.invariant.count));
      short = rw pushed (All-push (λ (sheet : List ℕ). length sheet < 2 ^ 32) sheets octets c.loop-name.invariant.short c.in_ok-octets.ensures.bound);
      files = c.sheet_file.ensures.files ∙ c.loop-name.invariant.files;
      calm = λ other. omega (arith, c.sheet_file.ensures.calm other, c.loop-name.invariant.calm other);
    }
