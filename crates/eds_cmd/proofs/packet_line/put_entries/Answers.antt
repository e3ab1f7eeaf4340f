use Rattle.std.proofs.Common.{◌≡◌, ◌-◌, ◌<◌, ◌++◌, ℕ, length, map, drop, rules, sym, subst, arith, refl}
use Rattle.std.proofs.lemmas.List.{drop_all}
use Rattle.std.specs.List.{AllByRecursion}
use Rattle.eds_value.specs.declared.layout.Piece.{Piece}
use Rattle.eds_unpack.proofs.Meanings.{on_true}
use Rattle.eds_value.specs.JsonOfValue.{json_of_value, json_text}
use Rattle.eds_value.proofs.LaidTexts.{piece_put}
use Rattle.eds_value.proofs.Pushed.{all_pieces, no_pieces}
use Rattle.eds_cmd.proofs.PacketLines.{IsSaid, all_said, piece_said, value_said, value_within, values_said}
use Rattle.eds_cmd.proofs.packet_line.put_entries.Goals as goal

pub loop-at-init : goal.loop-at-init
loop-at-init c =
    let es = c.args.entries.now in
    let ps = c.as_slice-pieces.result.now in
    let end : c.put_padded.new.self ≡ c.args.layout.now.end ++ c.args.line.now = search rules in
    record {
      within = omega arith;
      said = subst (AllByRecursion (λ (p : Piece). IsSaid es p.position)) (sym (drop_all (length ps) ps (omega arith))) tt;
      text = λ t. no_pieces (map (json_of_value t) (values_said es)) ps (length ps) c.args.layout.now.end c.args.line.now c.put_padded.new.self (omega arith) end;
    }

pub loop-at-preserved : goal.loop-at-preserved
loop-at-preserved c =
    let es = c.args.entries.now in
    let ps = c.as_slice-pieces.result.now in
    let so = c.loop-at.invariant in
    let i = c.loop-at.at - 1 in
    let p = c.index-pieces-at.result in
    let few : i < length ps = omega (arith, so.within) in
    let put = on_true c.in_ok-put_entry.field-0 c.in_ok-put_entry.ensures c.if-not-branch.false in
    let v = put.0 in
    record {
      within = omega arith;
      said = piece_said es ps i c.loop-at.at p few (omega arith) c.index-pieces-at.is (v, put.1) so.said;
      text = λ t. piece_put t (values_said es) ps i c.loop-at.at p v c.args.layout.now.end c.args.line.now c.loop-at.line (json_text t v ++ c.loop-at.line) c.put_entry.new.line few (omega arith) c.index-pieces-at.is
          (value_within es p.position v put.1) (value_said es p.position v put.1) (so.text t) refl (put.2 t);
    }

pub returns : goal.returns
returns c =
    let es = c.args.entries.now in
    let so = c.loop-at.invariant in
    let ps = c.as_slice-pieces.result.now in
    let all = c.args.layout.now.pieces.items in
    let P : Piece → Type 0 = λ (p : Piece). IsSaid es p.position in
    let begin : c.loop-at.at ≡ 0 = omega arith in
    let said : AllByRecursion P all = subst (AllByRecursion P) c.as_slice-pieces.ensures.value (subst (λ (n : ℕ). AllByRecursion P (drop n ps)) begin so.said) in (
      values_said es,
      all_said es all c.requires said,
      λ t. all_pieces (map (json_of_value t) (values_said es)) ps all c.loop-at.at c.args.layout.now.end c.args.line.now c.loop-at.line begin c.as_slice-pieces.ensures.value (so.text t),
    )
