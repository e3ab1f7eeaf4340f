use Rattle.std.proofs.Common.{◌≡◌, ◌<◌, List, min, length, drop, map, refl, sym, ap, ◌∙◌, arith, length-drop}
use Rattle.std.proofs.lemmas.List.{length-map}
use Rattle.serde_json.specs.Data.{no_members}
use Rattle.eds_types.specs.declared.value.Value.{Value}
use Rattle.eds_types.specs.Plain.{plain}
use Rattle.eds_value.specs.Seen.{seen}
use Rattle.eds_value.specs.JsonOfValue.{json_of_value}
use Rattle.eds_value.specs.Members.{put_all}
use Rattle.eds_value.proofs.Steps.{drop_one}
use Rattle.eds_value.proofs.WithValues.{one_put, with_values-done}
use Rattle.eds_value.proofs.member.members_of_fields.Goals as goal

pub loop-i-preserved : goal.loop-i-preserved
loop-i-preserved c t =
    let i = c.loop-i.i in
    let vs = c.args.values.now in
    let below : i < length c.args.entries.now = omega (arith, c.loop-i-test.true, c.min-count.ensures) in
    let there : i < length vs = omega (arith, c.loop-i-test.true, c.min-count.ensures) in
    one_put t c.args.entries.now i _ (map (json_of_value t) (map plain (drop i vs))) _ (json_of_value t (plain c.index-values-i.result)) c.loop-i.members.items c.push-in-loop-i.new.self.items _ _
    below (ap (λ (ws : List Value). map (json_of_value t) (map plain ws)) (drop_one vs i c.index-values-i.result there c.index-values-i.is)) c.in_ok-push-2.ensures.items refl refl (c.loop-i.invariant t)

pub returns : goal.returns
returns c t =
    let es = map seen (drop c.loop-i.i c.args.entries.now) in
    let ds = map (json_of_value t) (map plain (drop c.loop-i.i c.args.values.now)) in
    let over : min (length es) (length ds) ≡ 0 =
    omega (arith, length-map (drop c.loop-i.i c.args.entries.now) seen, length-map (map plain (drop c.loop-i.i c.args.values.now)) (json_of_value t), length-map (drop c.loop-i.i c.args.values.now) plain, length-drop c.loop-i.i c.args.entries.now, length-drop c.loop-i.i c.args.values.now, c.min-count.ensures, c.loop-i-test.false) in
    sym (with_values-done es ds (put_all t c.loop-i.members.items no_members) over) ∙ c.loop-i.invariant t
