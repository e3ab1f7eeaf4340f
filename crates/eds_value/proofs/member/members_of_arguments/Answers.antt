use Rattle.std.proofs.Common.{◌≡◌, ◌<◌, min, length, drop, map, refl, sym, ap, ◌∙◌, arith, length-drop}
use Rattle.std.proofs.lemmas.List.{length-map}
use Rattle.serde_json.specs.Data.{no_members}
use Rattle.eds_types.specs.Plain.{plain}
use Rattle.eds_value.specs.Seen.{seen}
use Rattle.eds_value.specs.JsonOfValue.{json_of_value}
use Rattle.eds_value.specs.Members.{put_all}
use Rattle.eds_value.proofs.Steps.{drop-read, not_missing}
use Rattle.eds_value.proofs.WithValues.{one_put, with_values-done}
use Rattle.eds_value.proofs.member.members_of_arguments.Goals as goal
use Rattle.eds_value.proofs.member.members_of_arguments.Goals.{in-Some+in_ok-push, in_default}

pub loop-i-preserved : goal.loop-i-preserved
loop-i-preserved c t =
    let i = c.loop-i.i in
    let vs = c.args.values.now in
    let below : i < length c.args.entries.now = omega (arith, c.loop-i-test.true, c.min-count.ensures) in
    let there : i < length vs = omega (arith, c.loop-i-test.true, c.min-count.ensures, c.len.ensures) in
    elim c.match-get.branch [
      | in-Some+in_ok-push w ↦
          one_put t c.args.entries.now i _ (map (json_of_value t) (drop i vs)) _ (json_of_value t (plain w.in-Some.value.now)) c.loop-i.members.items c.match-get.members.items _ _
          below (ap (map (json_of_value t)) (drop-read vs i (plain w.in-Some.value.now) (sym w.in-Some.ensures))) (ap (λ m. m.items) w.members-is ∙ w.in_ok-push.ensures.items) refl refl (c.loop-i.invariant t)
      | in_default w ↦ absurd (not_missing vs i there (sym w.in_default.ensures))
    ]

pub returns : goal.returns
returns c t =
    let es = map seen (drop c.loop-i.i c.args.entries.now) in
    let ds = map (json_of_value t) (drop c.loop-i.i c.args.values.now) in
    let over : min (length es) (length ds) ≡ 0 =
    omega (arith, length-map (drop c.loop-i.i c.args.entries.now) seen, length-map (drop c.loop-i.i c.args.values.now) (json_of_value t), length-drop c.loop-i.i c.args.entries.now, length-drop c.loop-i.i c.args.values.now, c.min-count.ensures, c.len.ensures, c.loop-i-test.false) in
    sym (with_values-done es ds (put_all t c.loop-i.members.items no_members) over) ∙ c.loop-i.invariant t
