use Rattle.std.proofs.Common.{◌≡◌, ◌∷◌, ◌++◌, List, [], ℕ, get_or, rules, string_bytes, sym, ap, ◌∙◌}
use Rattle.json.specs.Print.{quoted}
use Rattle.serde_json.specs.Data.{null}
use Rattle.serde_json.specs.Written.{comma_if, compact_text}
use Rattle.eds_value.specs.Layouts.{content_at, pieces_text}
use Rattle.eds_value.proofs.Pieces.{joined, piece_put, three_put}
use Rattle.eds_value.proofs.Positions.{position_put}
use Rattle.eds_value.proofs.layout.push_slot.Goals as goal

pub returns-in_ok-push-in-Some-clause-text : goal.returns-in_ok-push-in-Some-clause-text
returns-in_ok-push-in-Some-clause-text c ds rest =
    let ps = c.args.pieces.now.items in
    let slot = c.args.slot.now in
    let own = c.args.own_name.now in
    let empty : string_bytes c.clear.new.self ≡ [] = search rules in
    let old = string_bytes c.args.text.now in
    let comma = comma_if c.args.later in
    let name = quoted slot.name.now in
    let first : string_bytes c.push_comma.new.report ≡ old ++ comma = c.in_ok-push_comma.ensures in
    let second : string_bytes c.push_quoted.new.report ≡ string_bytes c.push_comma.new.report ++ name = c.in_ok-push_quoted.ensures in
    let third : string_bytes c.push_str.new.self ≡ string_bytes c.push_quoted.new.report ++ 58 ∷ [] = search rules in
    let taken : c.in_ok-before-in-Some.before ≡ string_bytes c.push_str.new.self = search rules in
    let text : c.in_ok-before-in-Some.before ≡ old ++ (comma ++ (name ++ 58 ∷ [])) = taken ∙ three_put old comma name (58 ∷ []) _ _ _ first second third in
    let at : compact_text (get_or ds c.in-Some.position null) ≡ compact_text (content_at own ds slot.content) = ap (λ o. compact_text (content_at own ds o)) (sym c.in-Some.is) in
    ap (λ (s : List ℕ). pieces_text ds c.push.new.self.items ++ (s ++ rest)) empty ∙ piece_put ds ps c.push.new.self.items _ rest c.in_ok-push-in-Some.ensures.items
    ∙ joined (pieces_text ds ps) c.in_ok-before-in-Some.before (string_bytes c.args.text.now) (comma_if c.args.later) (quoted slot.name.now) _ _ rest text at

pub returns-in_ok-push-in-Some-clause-each : goal.returns-in_ok-push-in-Some-clause-each
returns-in_ok-push-in-Some-clause-each c i h = position_put c.args.pieces.now.items c.push.new.self.items _ c.args.slot.now.content i c.in_ok-push-in-Some.ensures.items c.in-Some.is h
