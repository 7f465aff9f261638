use Rattle.std.proofs.Common.{◌≡◌, ◌++◌, ◌∙◌, List, ℕ, IfErr, ap, subst}
use Rattle.vs_text.specs.declared.format.Format.TheVariants.{Dos}
use Rattle.vs_pieces.specs.Files.{FileReading, HasReadFile, IsCertainIn}
use Rattle.vs_pieces.specs.contracts.file.FileReader.{the_view}
use Rattle.vs_pieces.proofs.Files.{HandsOn-dos, refused_in}
use Rattle.vs_pieces.proofs.file.FileReader.feed_dos.Goals as goal

pub returns-clause-certain : goal.returns-clause-certain
returns-clause-certain c =
    let old = the_view c.self.inside in
    let piece = c.args.piece.now in
    let handed = c.append_plain.new.into.items in
    let is : old.format ≡ Dos = ap (λ (f : FileReading). f.format) c.self.view_is ∙ c.requires.dos in
    let hands = HandsOn-dos old.format old.holds piece handed c.in_ok-self-inside.field-0 c.clear.new.self.items is c.clear.ensures.items c.in_ok-self-inside.ensures.plain in
    subst (λ (f : FileReading). IfErr c.feed.result (λ error. (taken : List (List ℕ)) (fed : List ℕ) → HasReadFile f taken fed → IsCertainIn f.format (fed ++ piece) error)) c.self.view_is
    (refused_in c.feed.result old piece handed c.deref.result.now c.in_ok-self-inside.field-0 hands c.deref.ensures.value c.feed.ensures.certain)
