use Rattle.std.proofs.Common.{◌≡◌, ◌++◌, ◌∷◌, [], List, ℕ, Err, ap, subst, sym, append-nil}
use Rattle.std.proofs.lemmas.Result.{err_from_is_err_and}
use Rattle.vs_text.specs.Documents.{plain_in}
use Rattle.vs_pieces.specs.Files.{FileReading, HasReadFile, held_back}
use Rattle.vs_pieces.specs.Reader.{IsAnswer}
use Rattle.vs_pieces.specs.contracts.file.FileReader.{the_view}
use Rattle.vs_pieces.proofs.Files.{IsAnswer-handed}
use Rattle.vs_pieces.proofs.Reading.{IsAnswer-certain}
use Rattle.vs_pieces.proofs.file.FileReader.end.Goals as goal

pub returns-then-not-self : goal.returns-then-not-self
returns-then-not-self c = λ taken fed h.
    let g : HasReadFile (the_view c.self.inside) taken fed = subst (λ (f : FileReading). HasReadFile f taken fed) (sym c.self.view_is) h in
    let so = subst (λ (bytes : List ℕ). IsAnswer taken bytes c.end.result) (sym (append-nil g.handed)) (c.end.ensures.answer taken g.handed g.reads) in
    let none : held_back (the_view c.self.inside).holds ≡ [] = ap held_back c.if-not-self.true in
    subst (λ (f : FileReading). IsAnswer taken (plain_in f.format fed) c.end.result) c.self.view_is (IsAnswer-handed (the_view c.self.inside) taken fed c.end.result g [] none so)

pub returns-in_err-feed : goal.returns-in_err-feed
returns-in_err-feed c = λ taken fed h.
    let g : HasReadFile (the_view c.self.inside) taken fed = subst (λ (f : FileReading). HasReadFile f taken fed) (sym c.self.view_is) h in
    let p = err_from_is_err_and c.from_residual.result c.from_residual.ensures.1 in
    let one : held_back (the_view c.self.inside).holds ≡ 13 ∷ [] = ap held_back c.if-not-self.false in
    let certain = IsAnswer-certain taken (g.handed ++ 13 ∷ []) c.in_err-feed.field-0.0 (c.in_err-feed.ensures.certain taken g.handed g.reads) in
    let so = IsAnswer-handed (the_view c.self.inside) taken fed (Err c.in_err-feed.field-0.0) g (13 ∷ []) one certain in
    rw (p.1, p.2) (subst (λ (f : FileReading). IsAnswer taken (plain_in f.format fed) (Err c.in_err-feed.field-0.0)) c.self.view_is so)

pub returns : goal.returns
returns c = λ taken fed h.
    let g : HasReadFile (the_view c.self.inside) taken fed = subst (λ (f : FileReading). HasReadFile f taken fed) (sym c.self.view_is) h in
    let one : held_back (the_view c.self.inside).holds ≡ 13 ∷ [] = ap held_back c.if-not-self.false in
    let so = c.end-2.ensures.answer taken (g.handed ++ 13 ∷ []) (c.in_ok-feed.ensures.reads taken g.handed g.reads) in
    subst (λ (f : FileReading). IsAnswer taken (plain_in f.format fed) c.end-2.result) c.self.view_is (IsAnswer-handed (the_view c.self.inside) taken fed c.end-2.result g (13 ∷ []) one so)
