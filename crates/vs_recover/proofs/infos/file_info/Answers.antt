use Rattle.std.proofs.Common.{sym, ◌∙◌, string_bytes, arith}
use Rattle.vs_recover.proofs.ChoiceLaws.{found_file, info_absent, info_some}
use Rattle.vs_recover.proofs.ReadingLaws.{blocks_stay, file_stays, no_memory, reads_ended, reads_ok, reads_passed, reads_then, there_found}
use Rattle.vs_recover.proofs.infos.file_info.Goals as goal

pub find_image-requires : goal.find_image-requires
find_image-requires g c = record { there = there_found c.has_file.ensures.reading c.args.name.now (λ told. sym c.if-not-branch.false ∙ c.in_ok-has_file.ensures.value told) }

pub returns-then-not-branch-clause-info : goal.returns-then-not-branch-clause-info
returns-then-not-branch-clause-info g c = λ told. info_absent _ c.args.name.now (string_bytes c.new.result) (sym (c.in_ok-has_file.ensures.value told) ∙ c.if-not-branch.true) c.new.ensures.bytes

pub returns-clause-info : goal.returns-clause-info
returns-clause-info g c = λ told.
    info_some _ c.args.name.now (string_bytes c.in_ok-line.line) c.in_ok-image.image (sym (c.in_ok-has_file.ensures.value told) ∙ c.if-not-branch.false)
    (λ file is. c.in_ok-image.ensures.image file (file_stays c.has_file.ensures.reading (found_file g.F.World.tells (g.F.World.scene c.args.host.now) c.args.name.now file told is)))
    c.in_ok-line.ensures

pub returns-in_err-image-clause-reading : goal.returns-in_err-image-clause-reading
returns-in_err-image-clause-reading g c = reads_passed c.in_err-image.was c.from_residual-in_err-image.ensures.1 (omega (arith, blocks_stay c.in_ok-has_file.ensures.reading c.args.name.now)) (reads_then c.in_ok-has_file.ensures.reading c.find_image.ensures.reading)

pub returns-in_err-line-clause-reading : goal.returns-in_err-line-clause-reading
returns-in_err-line-clause-reading g c = reads_ended (no_memory _ c.from_residual-in_err-line.ensures.1) (omega (arith, blocks_stay c.in_ok-has_file.ensures.reading c.args.name.now)) (reads_then c.in_ok-has_file.ensures.reading c.in_ok-image.ensures.reading)

pub returns-clause-reading : goal.returns-clause-reading
returns-clause-reading g c = reads_ok (omega (arith, blocks_stay c.in_ok-has_file.ensures.reading c.args.name.now)) (reads_then c.in_ok-has_file.ensures.reading c.in_ok-image.ensures.reading)
