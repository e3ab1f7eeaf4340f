use Rattle.std.proofs.Common.{◌≡◌, ℕ, List, take, drop, replicate, length, ap, ◌∙◌, length-take, arith}
use Rattle.std.proofs.lemmas.Bool.{OnTrue_at}
use Rattle.std.proofs.lemmas.List.{length-replicate}
use Rattle.eds_bits.specs.Reader.{bits_left}
use Rattle.eds_bits.specs.Scalars.{before_stop}
use Rattle.eds_bits.specs.Texts.{front_octets}
use Rattle.eds_codec.proofs.Blocks.{block_octets, block_taken, block_text}
use Rattle.eds_codec.proofs.scan.next_block.Goals as goal

pub returns-clause-size : goal.returns-clause-size
returns-clause-size c =
    let zeros : List ℕ = replicate 64 0 in
    let wide : length (take c.args.n zeros) ≡ c.args.n = omega (arith, length-take c.args.n zeros, length-replicate {A = ℕ} 64 0) in
    let room : c.take_octets.new.room ≡ front_octets c.args.n (bits_left c.args.reader.now) =
    block_octets c.args.n c.take_octets.new.room (bits_left c.args.reader.now) c.requires.enough c.requires.few (OnTrue_at (c.take_octets.ensures.enough.1 (omega (arith, c.requires.enough))) c.take_octets.ensures.value) in
    c.text_size-size.ensures.value ∙ ap (λ os. length (before_stop c.args.stop os)) (block_taken c.args.n c.take_octets.new.room (drop c.args.n zeros) (bits_left c.args.reader.now) c.requires.enough room)

pub returns-clause-octets : goal.returns-clause-octets
returns-clause-octets c =
    let zeros : List ℕ = replicate 64 0 in
    let wide : length (take c.args.n zeros) ≡ c.args.n = omega (arith, length-take c.args.n zeros, length-replicate {A = ℕ} 64 0) in
    let room : c.take_octets.new.room ≡ front_octets c.args.n (bits_left c.args.reader.now) =
    block_octets c.args.n c.take_octets.new.room (bits_left c.args.reader.now) c.requires.enough c.requires.few (OnTrue_at (c.take_octets.ensures.enough.1 (omega (arith, c.requires.enough))) c.take_octets.ensures.value) in
    let size = c.text_size-size.ensures.value ∙ ap (λ os. length (before_stop c.args.stop os)) (block_taken c.args.n c.take_octets.new.room (drop c.args.n zeros) (bits_left c.args.reader.now) c.requires.enough room) in
    block_text c.args.stop c.args.n c.text_size-size.result c.take_octets.new.room (drop c.args.n zeros) c.copy_from_slice.new.self (bits_left c.args.reader.now) c.requires.enough room size c.copy_from_slice.ensures.after
