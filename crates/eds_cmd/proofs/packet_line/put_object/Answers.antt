use Rattle.std.proofs.Common.{◌≡◌, ◌-◌, ◌<◌, ◌++◌, All, length, rules, map, get_or, pos, sym, subst, arith}
use Rattle.std.proofs.lemmas.List.{length-map}
use Rattle.std.proofs.lemmas.List.Elements.{All-get_or, All-same}
use Rattle.eds_unpack.specs.declared.scalar.Scalar.{Scalar}
use Rattle.eds_unpack.specs.declared.scalar.Scalar.TheVariants.{Num}
use Rattle.eds_unpack.specs.Scalars.{plain_of}
use Rattle.eds_value.specs.declared.layout.Piece.{Piece}
use Rattle.eds_value.specs.JsonOfValue.{json_of_value}
use Rattle.eds_value.proofs.LaidTexts.{piece_put}
use Rattle.eds_value.proofs.Pushed.{all_pieces, no_pieces}
use Rattle.eds_cmd.proofs.PacketLines.{plain_at}
use Rattle.eds_cmd.proofs.packet_line.put_object.Goals as goal

pub loop-at-init : goal.loop-at-init
loop-at-init c =
    let ss = c.args.scalars.now in
    let ps = c.as_slice-pieces.result.now in
    let end : c.put_padded.new.self ≡ c.args.layout.now.end ++ c.args.line.now = search rules in
    record { within = omega arith; text = λ t. no_pieces (map (json_of_value t) (map plain_of ss)) ps (length ps) c.args.layout.now.end c.args.line.now c.put_padded.new.self (omega arith) end }

pub loop-at-preserved : goal.loop-at-preserved
loop-at-preserved c =
    let ss = c.args.scalars.now in
    let ps = c.as_slice-pieces.result.now in
    let i = c.loop-at.at - 1 in
    let p = c.index-pieces-at.result in
    let P : Piece → Type 0 = λ (p : Piece). p.position < length ss in
    let few : i < length ps = omega (arith, c.loop-at.invariant.within) in
    let within : All P ps = All-same P ps c.args.layout.now.pieces.items c.as_slice-pieces.ensures.value c.requires in
    let lt : p.position < length ss = subst P (sym c.index-pieces-at.is) (All-get_or P ps i p few within) in
    let none : Scalar = Num (pos 0) in
    let s = get_or ss p.position none in
    record {
      within = omega arith;
      text = λ t. piece_put t (map plain_of ss) ps i c.loop-at.at p (plain_of s) c.args.layout.now.end c.args.line.now c.loop-at.line c.put_scalar.new.line c.put_padded-in-loop-at.new.self few (omega arith) c.index-pieces-at.is
          (omega (arith, lt, length-map ss plain_of)) (plain_at ss p.position none lt) (c.loop-at.invariant.text t) (c.in_ok-put_scalar.ensures t) c.in_ok-put_padded-2.ensures;
    }

pub returns : goal.returns
returns c = λ t.
    all_pieces (map (json_of_value t) (map plain_of c.args.scalars.now)) c.as_slice-pieces.result.now c.args.layout.now.pieces.items c.loop-at.at c.args.layout.now.end c.args.line.now c.loop-at.line (omega arith) c.as_slice-pieces.ensures.value (c.loop-at.invariant.text t)
