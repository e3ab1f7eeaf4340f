use Rattle.std.proofs.Common.{◌++◌, ◌∷◌, [], map, sym, ap, subst, ◌∙◌, append_assoc}
use Rattle.std.proofs.lemmas.List.{map-append}
use Rattle.std.specs.List.{AllByRecursion}
use Rattle.std.specs.Prelude.{List}
use Rattle.eds_plan.specs.declared.run.Send.{Send}
use Rattle.eds_plan.specs.Outs.{report}
use Rattle.eds_plan.specs.Sends.{sent}
use Rattle.eds_host.specs.Plans.{IsSent}
use Rattle.eds_host.specs.Wires.{other_end}
use Rattle.eds_host.specs.Systems.{queued, leaving}
use Rattle.eds_host.proofs.Sent.{queued_more, leaving_more}
use Rattle.eds_host.proofs.sending.send_all.Goals as goal

pub send_one-requires-clause-fits : goal.send_one-requires-clause-fits
send_one-requires-clause-fits c =
    let s = c.args.setting.now in
    (subst (λ (ws : List Send). AllByRecursion (IsSent s.table.now s.plan.now) (map sent ws)) c.in-Some.ensures.steps.0 c.loop-what.invariant.fits).0

pub loop-what-preserved : goal.loop-what-preserved
loop-what-preserved c =
    let s = c.args.setting.now in let tied = other_end s.links.now in let ys = map sent c.loop-what.yielded in let x = sent c.in-Some.what ∷ [] in
    let more = map-append sent c.loop-what.yielded (c.in-Some.what ∷ []) in
    let fits = subst (λ (ws : List Send). AllByRecursion (IsSent s.table.now s.plan.now) (map sent ws)) c.in-Some.ensures.steps.0 c.loop-what.invariant.fits in
    record {
      placed = c.in_ok-send_one.ensures.placed;
      fits = fits.1;
      still = λ h. c.in_ok-send_one.ensures.fits (c.loop-what.invariant.still h);
      queue = c.in_ok-send_one.ensures.queue ∙ ap (λ q. q ++ queued tied x) c.loop-what.invariant.queue ∙ append_assoc c.args.queue.now (queued tied ys) (queued tied x) ∙ ap (λ q. c.args.queue.now ++ q) (sym (queued_more tied ys x) ∙ ap (queued tied) (sym more));
      out = c.in_ok-send_one.ensures.out ∙ ap (λ q. q ++ leaving tied c.args.now c.args.comp.0 x) c.loop-what.invariant.out ∙ append_assoc (map report c.args.out.now) (leaving tied c.args.now c.args.comp.0 ys) (leaving tied c.args.now c.args.comp.0 x) ∙ ap (λ q. map report c.args.out.now ++ q) (sym (leaving_more tied c.args.now c.args.comp.0 ys x) ∙ ap (leaving tied c.args.now c.args.comp.0) (sym more));
    }
