-- Where a piece goes past `most`, so does the file.
use Rattle.std.proofs.Common.{rules, ◌++◌, arith, refl, sym, subst, ◌∙◌, take, length-append, length-take}
use Rattle.eds_io.specs.Files.{file_named}
use Rattle.eds_io.specs.Reads.{Come}
use Rattle.eds_io.proofs.Coming.{come-more, come-end, take-none, ends-memory}
use Rattle.eds_io.proofs.Begins.{Begins-more, piece-past}
use Rattle.eds_io.proofs.whole.read_whole.Goals as goal

pub returns-then-n-most-clause-too_big : goal.returns-then-n-most-clause-too_big
returns-then-n-most-clause-too_big g c = λ told known _.
    piece-past (file_named c.args.name.now told) c.read_at.new.room c.loop-octets.from c.in-Bytes.n c.args.most
    (c.in-Bytes.ensures.octets told c.in-Bytes.n (c.loop-octets.invariant.files ∙ known) refl)
    c.loop-octets.invariant.within (omega (arith, c.if-n-most.true))

pub returns-then-n-most-clause-missing : goal.returns-then-n-most-clause-missing
returns-then-n-most-clause-missing g c = λ told known lacks.
    let longer = returns-then-n-most-clause-too_big g c told known refl in
    absurd (rw lacks at longer)

pub returns-then-n-most-clause-complete : goal.returns-then-n-most-clause-complete
returns-then-n-most-clause-complete g c = λ told file known there small.
    let longer = returns-then-n-most-clause-too_big g c told known refl in
    absurd (omega (arith, rw there at longer))

pub returns-then-n-most-clause-steady : goal.returns-then-n-most-clause-steady
returns-then-n-most-clause-steady g c = λ told file known there small _.
    returns-then-n-most-clause-complete g c told file known there small

pub loop-octets-preserved : goal.loop-octets-preserved
loop-octets-preserved g c =
    let now = c.in_ok-extend_from_slice-in-Bytes.ensures.items in
    record {
      so_far = λ told known. rw now (Begins-more (file_named c.args.name.now told) c.loop-octets.octets.items c.read_at.new.room c.in-Bytes.n (c.loop-octets.invariant.so_far told known)
          (rw c.loop-octets.invariant.size (c.in-Bytes.ensures.octets told c.in-Bytes.n (c.loop-octets.invariant.files ∙ known) refl)));
      came = subst (λ xs. Come g.S.Shelf.gives c.args.name.now c.args.shelf.now xs c.read_at.new.self) (sym now) (come-more g.S.Shelf.gives c.args.name.now c.args.shelf.now _ c.read_at.new.self c.loop-octets.octets.items c.loop-octets.from _ c.loop-octets.invariant.size c.loop-octets.invariant.came c.in-Bytes.ensures.gives);
      size = rw (now, length-append c.loop-octets.octets.items (take c.in-Bytes.n c.read_at.new.room), length-take c.in-Bytes.n c.read_at.new.room) (omega (arith, c.in-Bytes.ensures.bound c.in-Bytes.n refl));
      within = omega (arith, c.if-n-most.false);
      files = c.read_at.ensures.files ∙ c.loop-octets.invariant.files;
      calm = λ other. omega (arith, c.read_at.ensures.calm other, c.loop-octets.invariant.calm other);
    }

pub returns-in-NoFile-clause-came : goal.returns-in-NoFile-clause-came
returns-in-NoFile-clause-came g c = (
  c.loop-octets.octets.items,
  come-end g.S.Shelf.gives c.args.name.now c.args.shelf.now _ c.read_at.new.self c.loop-octets.octets.items c.loop-octets.from _ c.loop-octets.invariant.size c.loop-octets.invariant.came c.in-NoFile.ensures.gives refl,
  omega (arith, c.loop-octets.invariant.size, c.loop-octets.invariant.within),
)

pub returns-in-Failed-clause-came : goal.returns-in-Failed-clause-came
returns-in-Failed-clause-came g c = (
  c.loop-octets.octets.items,
  come-end g.S.Shelf.gives c.args.name.now c.args.shelf.now _ c.read_at.new.self c.loop-octets.octets.items c.loop-octets.from _ c.loop-octets.invariant.size c.loop-octets.invariant.came c.in-Failed.ensures.gives refl,
  omega (arith, c.loop-octets.invariant.size, c.loop-octets.invariant.within),
)

pub returns-in-Bytes-eq0-clause-came : goal.returns-in-Bytes-eq0-clause-came
returns-in-Bytes-eq0-clause-came g c = (
  c.loop-octets.octets.items,
  come-end g.S.Shelf.gives c.args.name.now c.args.shelf.now _ c.read_at.new.self c.loop-octets.octets.items c.loop-octets.from _ c.loop-octets.invariant.size c.loop-octets.invariant.came c.in-Bytes-eq0.ensures.gives (take-none c.read_at.new.room c.in-Bytes-eq0.field-0 (search rules)),
  (sym c.from_vec.ensures, omega (arith, c.loop-octets.invariant.size, c.loop-octets.invariant.within)),
)

pub returns-then-n-most-clause-came : goal.returns-then-n-most-clause-came
returns-then-n-most-clause-came g c = (
  c.loop-octets.octets.items ++ take c.in-Bytes.n c.read_at.new.room,
  come-more g.S.Shelf.gives c.args.name.now c.args.shelf.now _ c.read_at.new.self c.loop-octets.octets.items c.loop-octets.from _ c.loop-octets.invariant.size c.loop-octets.invariant.came c.in-Bytes.ensures.gives,
  rw (length-append c.loop-octets.octets.items (take c.in-Bytes.n c.read_at.new.room), length-take c.in-Bytes.n c.read_at.new.room)
      (omega (arith, c.if-n-most.true, c.loop-octets.invariant.size, c.loop-octets.invariant.within, c.in-Bytes.ensures.bound c.in-Bytes.n refl)),
)

pub returns-in_err-extend_from_slice-in-Bytes-clause-came : goal.returns-in_err-extend_from_slice-in-Bytes-clause-came
returns-in_err-extend_from_slice-in-Bytes-clause-came g c = (
  c.loop-octets.octets.items ++ take c.in-Bytes.n c.read_at.new.room,
  come-more g.S.Shelf.gives c.args.name.now c.args.shelf.now _ c.read_at.new.self c.loop-octets.octets.items c.loop-octets.from _ c.loop-octets.invariant.size c.loop-octets.invariant.came c.in-Bytes.ensures.gives,
  ends-memory c.args.most _ c.from_residual-in_err-extend_from_slice-in-Bytes.result (search rules),
)
