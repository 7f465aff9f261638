use Rattle.std.proofs.Common.{sym, subst, ◌∙◌, arith}
use Rattle.vs_host.specs.World.{content_of}
use Rattle.vs_recover.specs.Choices.{IsStanding}
use Rattle.vs_recover.proofs.ChoiceLaws.{found_file, opening_len, opening_zero, stands_absent, text_found, text_refused}
use Rattle.vs_recover.proofs.ReadingLaws.{reads_blocks, reads_none, reads_ok, reads_passed}
use Rattle.vs_recover.proofs.newest.read_text.Goals as goal

pub read_open-requires : goal.read_open-requires
read_open-requires g c = record {
  len = opening_len g.F.World.tells (g.F.World.scene c.args.host.now) c.args.name.now c.args.opening.now c.in-Some.opening c.in-Some.is c.requires.opening;
  zero = λ file is. sym (opening_zero g.F.World.tells (g.F.World.scene c.args.host.now) c.args.name.now c.args.opening.now c.in-Some.opening c.in-Some.is c.requires.opening file is) ∙ c.in-Ok.is;
}

pub returns-in_default-clause-text : goal.returns-in_default-clause-text
returns-in_default-clause-text g c = λ told. stands_absent _ _ c.in_default.is (c.requires.opening told)

pub returns-in-Err-clause-text : goal.returns-in-Err-clause-text
returns-in-Err-clause-text g c = λ told. text_refused _ _ c.in-Some.opening _ c.in-Some.is c.in-Err.is (c.requires.opening told)

pub returns-in_ok-image-in-Ok-clause-text : goal.returns-in_ok-image-in-Ok-clause-text
returns-in_ok-image-in-Ok-clause-text g c = λ told.
    let found = text_found (content_of (g.F.World.scene c.args.host.now) c.args.name.now) c.in_ok-image-in-Ok.image c.args.opening.now c.in-Some.opening c.in-Some.is (c.requires.opening told)
    (λ file is. c.in_ok-image-in-Ok.ensures.image file (found_file g.F.World.tells (g.F.World.scene c.args.host.now) c.args.name.now file told is)) in
    subst (λ v. IsStanding (content_of (g.F.World.scene c.args.host.now) c.args.name.now) v) (sym c.text_of.ensures) found

pub returns-in_default-clause-reading : goal.returns-in_default-clause-reading
returns-in_default-clause-reading g c = reads_none g.F.World.tells (λ is. cc)

pub returns-in-Err-clause-reading : goal.returns-in-Err-clause-reading
returns-in-Err-clause-reading g c = reads_none g.F.World.tells (λ is. cc)

pub returns-in_err-image-in-Ok-clause-reading : goal.returns-in_err-image-in-Ok-clause-reading
returns-in_err-image-in-Ok-clause-reading g c =
    let len = opening_len g.F.World.tells (g.F.World.scene c.args.host.now) c.args.name.now c.args.opening.now c.in-Some.opening c.in-Some.is c.requires.opening in
    reads_passed c.in_err-image-in-Ok.was c.from_residual.ensures.1 (omega arith) (reads_blocks c.args.name.now c.in-Some.opening.len len c.read_open.ensures.reading)

pub returns-in_ok-image-in-Ok-clause-reading : goal.returns-in_ok-image-in-Ok-clause-reading
returns-in_ok-image-in-Ok-clause-reading g c =
    let len = opening_len g.F.World.tells (g.F.World.scene c.args.host.now) c.args.name.now c.args.opening.now c.in-Some.opening c.in-Some.is c.requires.opening in
    reads_ok (omega arith) (reads_blocks c.args.name.now c.in-Some.opening.len len c.in_ok-image-in-Ok.ensures.reading)
