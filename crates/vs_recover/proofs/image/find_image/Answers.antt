use Rattle.std.proofs.Common.{◌≡◌, arith, length, sym, subst, ◌∙◌}
use Rattle.vs_recover.specs.Images.{IsImage}
use Rattle.vs_recover.proofs.ChoiceLaws.{image_refused}
use Rattle.vs_recover.proofs.ReadingLaws.{blocks_stay, file_stays, file_was, reads_blocks, reads_ok, reads_passed, reads_then, there_stays}
use Rattle.vs_recover.proofs.image.find_image.Goals as goal

pub read_open-requires : goal.read_open-requires
read_open-requires g c = record {
  len = there_stays c.read_opening.ensures.reading c.args.name.now (λ file. c.in_ok-opening.opening.len ≡ length file) c.in_ok-opening.ensures.len;
  zero = λ file is. sym (c.in_ok-opening.ensures.zero file (file_was c.read_opening.ensures.reading is)) ∙ c.in-Ok.is;
}

pub returns-in-Err-clause-image : goal.returns-in-Err-clause-image
returns-in-Err-clause-image g c = λ file is.
    subst (λ i. IsImage file i) (sym c.refused_image.ensures) (image_refused file c.in-Err.why (sym (c.in_ok-opening.ensures.zero file is) ∙ c.in-Err.is))

pub returns-in_ok-image-in-Ok-clause-image : goal.returns-in_ok-image-in-Ok-clause-image
returns-in_ok-image-in-Ok-clause-image g c = λ file is. c.in_ok-image-in-Ok.ensures.image file (file_stays c.read_opening.ensures.reading is)

pub returns-in_err-image-in-Ok-clause-reading : goal.returns-in_err-image-in-Ok-clause-reading
returns-in_err-image-in-Ok-clause-reading g c =
    let len = there_stays c.read_opening.ensures.reading c.args.name.now (λ file. c.in_ok-opening.opening.len ≡ length file) c.in_ok-opening.ensures.len in
    reads_passed c.in_err-image-in-Ok.was c.from_residual-in_err-image-in-Ok.ensures.1 (omega (arith, blocks_stay c.in_ok-opening.ensures.reading c.args.name.now)) (reads_then c.in_ok-opening.ensures.reading (reads_blocks c.args.name.now c.in_ok-opening.opening.len len c.read_open.ensures.reading))

pub returns-in_ok-image-in-Ok-clause-reading : goal.returns-in_ok-image-in-Ok-clause-reading
returns-in_ok-image-in-Ok-clause-reading g c =
    let len = there_stays c.read_opening.ensures.reading c.args.name.now (λ file. c.in_ok-opening.opening.len ≡ length file) c.in_ok-opening.ensures.len in
    reads_ok (omega (arith, blocks_stay c.in_ok-opening.ensures.reading c.args.name.now)) (reads_then c.in_ok-opening.ensures.reading (reads_blocks c.args.name.now c.in_ok-opening.opening.len len c.in_ok-image-in-Ok.ensures.reading))
