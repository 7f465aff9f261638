use Rattle.std.proofs.Common.{◌++◌, List, ℕ, Option, take, drop, arith, refl, ap, ◌∙◌, subst}
use Rattle.memchr.specs.Find.{IsFirstByte, is_byte}
use Rattle.vs_recover.proofs.OriginalLaws.{rest_of, takes_all, takes_end}
use Rattle.vs_recover.proofs.original.Original.take_piece.Goals as goal

pub returns-in_ok-keep-in-Some-clause-taken : goal.returns-in_ok-keep-in-Some-clause-taken
returns-in_ok-keep-in-Some-clause-taken c =
    let piece = rest_of c.deref.result.now c.args.self.now.piece.items c.args.self.now.used c.deref.ensures.value in
    let found : IsFirstByte (is_byte 10) (drop c.args.self.now.used c.args.self.now.piece.items) c.memchr.result = subst (λ (bs : List ℕ). IsFirstByte (is_byte 10) bs c.memchr.result) piece c.memchr.ensures in
    takes_end c.args.self.now.piece.items c.args.into.now.items c.keep.new.into.items c.args.self.now.used _ c.in-Some.end refl
    (subst (λ (o : Option ℕ). IsFirstByte (is_byte 10) (drop c.args.self.now.used c.args.self.now.piece.items) o) c.in-Some.is found)
    (c.in_ok-keep-in-Some.ensures ∙ ap (λ bs. take 1048578 (c.args.into.now.items ++ take c.in-Some.end bs)) piece)

pub returns-in_ok-keep-in-None-clause-taken : goal.returns-in_ok-keep-in-None-clause-taken
returns-in_ok-keep-in-None-clause-taken c =
    let piece = rest_of c.deref.result.now c.args.self.now.piece.items c.args.self.now.used c.deref.ensures.value in
    let found : IsFirstByte (is_byte 10) (drop c.args.self.now.used c.args.self.now.piece.items) c.memchr.result = subst (λ (bs : List ℕ). IsFirstByte (is_byte 10) bs c.memchr.result) piece c.memchr.ensures in
    takes_all c.args.self.now.piece.items c.args.into.now.items c.keep-in-None.new.into.items c.args.self.now.used c.len-self.result (omega (arith, c.len-self.ensures))
    (subst (λ (o : Option ℕ). IsFirstByte (is_byte 10) (drop c.args.self.now.used c.args.self.now.piece.items) o) c.in-None.is found)
    (c.in_ok-keep-in-None.ensures ∙ ap (λ bs. take 1048578 (c.args.into.now.items ++ bs)) piece)
