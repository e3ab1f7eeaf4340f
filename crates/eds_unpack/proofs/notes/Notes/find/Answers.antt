use Rattle.std.proofs.Common.{◌<◌, length, get_or, drop, Some, ap, sym, ◌∙◌, arith}
use Rattle.eds_types.specs.Rows.{id_of}
use Rattle.eds_overlap.proofs.Solutions.{same_is}
use Rattle.eds_unpack.proofs.Indexing.{all_within, none_empty, not_here, not_there, path_front}
use Rattle.eds_unpack.proofs.Ranks.{all_at}
use Rattle.eds_unpack.proofs.notes.Notes.find.Goals as goal

pub loop-at-init : goal.loop-at-init
loop-at-init c = λ at e. c.own-at-items.ensures.complete at (get_or c.args.path.now 0 (id_of 0, 0)).1 (drop 1 c.args.path.now) (e ∙ ap Some (path_front c.args.path.now (id_of 0, 0) c.in-len1-up.len_at_least))

pub path-requires : goal.path-requires
path-requires c =
    all_at (λ n. n < length c.args.self.now) c.own-at-items.result.now c.loop-at.at-index 0 (omega arith)
    (all_within c.args.self.now (get_or c.args.path.now 0 (id_of 0, 0)).0 c.own-at-items.result.now c.own-at-items.ensures.sound)

pub loop-at-preserved : goal.loop-at-preserved
loop-at-preserved c = not_here c.args.self.now c.args.path.now c.path.result.now c.own-at-items.result.now c.loop-at.at-index (omega arith) c.path.ensures (sym c.if-is_same.ensures) c.loop-at.invariant

pub returns : goal.returns
returns c = record { some = tt; none = not_there c.args.self.now c.args.path.now c.own-at-items.result.now c.loop-at.at-index (omega arith) c.loop-at.invariant }

pub returns-in_default-clause-none : goal.returns-in_default-clause-none
returns-in_default-clause-none c = none_empty c.args.self.now c.args.path.now c.has_steps.ensures c.in_default.len_below

pub returns-then-is_same-clause-some : goal.returns-then-is_same-clause-some
returns-then-is_same-clause-some c = c.path.ensures ∙ ap Some (same_is c.path.result.now c.args.path.now (sym c.is_same.ensures ∙ c.if-is_same.true))
