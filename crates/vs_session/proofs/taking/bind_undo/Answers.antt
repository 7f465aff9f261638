use Rattle.std.proofs.Common.{refl, rules, subst}
use Rattle.vs_ufile.specs.Values.{history_of}
use Rattle.vs_ubind.specs.Binding.{IsRefused}
use Rattle.vs_session.proofs.Calls.{KeepsText-as}
use Rattle.vs_session.proofs.Bindings.{changes_bound, other_digest, other_lines}
use Rattle.vs_session.proofs.taking.bind_undo.Goals as goal

pub returns-in-Ok-clause-taken : goal.returns-in-Ok-clause-taken
returns-in-Ok-clause-taken g c told lines syncs bytes fits file =
    let bound = c.in-Ok.ensures.bound told lines syncs fits in
    (bound.0, (history_of c.args.contents.now, file, bound.1), bound.2, changes_bound c.args.contents.now lines bound.0 bound.1)

pub returns-in-Err-DigestDiffers-clause-refused : goal.returns-in-Err-DigestDiffers-clause-refused
returns-in-Err-DigestDiffers-clause-refused g c told lines syncs bytes fits file =
    let contents = history_of c.args.contents.now in
    (contents, file, other_digest contents lines _ _ (subst (λ e. IsRefused contents lines e) c.in-Err-DigestDiffers.field-0-is (c.in-Err-DigestDiffers.ensures.refused told lines syncs fits)))

pub returns-in-Err-LinesDiffer-clause-refused : goal.returns-in-Err-LinesDiffer-clause-refused
returns-in-Err-LinesDiffer-clause-refused g c told lines syncs bytes fits file =
    let contents = history_of c.args.contents.now in
    (contents, file, other_lines contents lines _ _ (subst (λ e. IsRefused contents lines e) c.in-Err-LinesDiffer.field-0-is (c.in-Err-LinesDiffer.ensures.refused told lines syncs fits)))

pub returns-in-Err-EntryDoesNotFit-clause-refused : goal.returns-in-Err-EntryDoesNotFit-clause-refused
returns-in-Err-EntryDoesNotFit-clause-refused g c told lines syncs bytes fits file =
    let contents = history_of c.args.contents.now in
    (contents, file, subst (λ e. IsRefused contents lines e) c.in-Err-EntryDoesNotFit.field-0-is (c.in-Err-EntryDoesNotFit.ensures.refused told lines syncs fits))

pub returns-in-Ok-clause-kept : goal.returns-in-Ok-clause-kept
returns-in-Ok-clause-kept g c = KeepsText-as c.in-Ok.ensures.kept (λ failed. absurd (cc)) (λ failed. absurd (cc))

pub returns-in-Err-DigestDiffers-clause-kept : goal.returns-in-Err-DigestDiffers-clause-kept
returns-in-Err-DigestDiffers-clause-kept g c = KeepsText-as c.in-Err-DigestDiffers.ensures.kept (λ failed. absurd (cc)) (λ failed. let is = c.in-Err-DigestDiffers.field-0-is in absurd (cc))

pub returns-in-Err-LinesDiffer-clause-kept : goal.returns-in-Err-LinesDiffer-clause-kept
returns-in-Err-LinesDiffer-clause-kept g c = KeepsText-as c.in-Err-LinesDiffer.ensures.kept (λ failed. absurd (cc)) (λ failed. let is = c.in-Err-LinesDiffer.field-0-is in absurd (cc))

pub returns-in-Err-EntryDoesNotFit-clause-kept : goal.returns-in-Err-EntryDoesNotFit-clause-kept
returns-in-Err-EntryDoesNotFit-clause-kept g c = KeepsText-as c.in-Err-EntryDoesNotFit.ensures.kept (λ failed. absurd (cc)) (λ failed. let is = c.in-Err-EntryDoesNotFit.field-0-is in absurd (cc))

pub returns-in-Err-NoMemory-clause-kept : goal.returns-in-Err-NoMemory-clause-kept
returns-in-Err-NoMemory-clause-kept g c = KeepsText-as c.in-Err-NoMemory.ensures.kept (λ failed. absurd (cc)) (λ failed. let is = c.in-Err-NoMemory.field-0-is in absurd (cc))

pub returns-in-Err-Failed-clause-kept : goal.returns-in-Err-Failed-clause-kept
returns-in-Err-Failed-clause-kept g c = KeepsText-as c.in-Err-Failed.ensures.kept (λ failed. search rules) (λ failed. refl)
