-- The names that were handed on are those of the pair.
use Rattle.std.proofs.Common.{◌≡◌, ◌∷◌, [], ◌∙◌, IsSome, rules, subst, sym}
use Rattle.vs_host.specs.Disk.{Name}
use Rattle.vs_host.specs.Trace.{Looked}
use Rattle.vs_host.specs.World.{IsTold, content_of}
use Rattle.vs_host.specs.declared.names.Names.{Names}
use Rattle.vs_text.specs.Documents.{file_in}
use Rattle.vs_tree.specs.Texts.{Tells}
use Rattle.vs_backup.specs.Backups.{IsNoName, WorksOn}
use Rattle.vs_backup.specs.Modes.{RewritesLike}
use Rattle.vs_backup.specs.Works.{SparesOthers}
use Rattle.vs_backup.specs.Writing.{FailsNoEarlier}
use Rattle.vs_pair.specs.Pair.{shown_in}
use Rattle.vs_desk.specs.Writes.{WritesFile}
use Rattle.vs_desk.proofs.Naming.{copied, file_short, name_allowed, new_named, new_short, swap_named}
use Rattle.vs_desk.proofs.write.write_in.Goals as goal

pub copy_name-name-requires : goal.copy_name-name-requires
copy_name-name-requires g c = file_short c.args.pair.now.files.names c.args.pair.now.files.named

pub copy_name-file_new-requires : goal.copy_name-file_new-requires
copy_name-file_new-requires g c = new_short c.args.pair.now.files.names c.args.pair.now.files.named

pub write_out-requires-clause-allowed : goal.write_out-requires-clause-allowed
write_out-requires-clause-allowed g c =
    let names = c.args.pair.now.files.names in
    name_allowed names c.args.pair.now.files.named c.as_str.result.now (c.as_str.ensures.value ∙ c.copy_name-name.ensures)

pub write_out-requires-clause-file_new : goal.write_out-requires-clause-file_new
write_out-requires-clause-file_new g c =
    let names = c.args.pair.now.files.names in
    new_named names c.args.pair.now.files.named c.as_str.result.now (c.as_str.ensures.value ∙ c.copy_name-name.ensures)
    c.as_str-2.result.now (c.as_str-2.ensures.value ∙ c.copy_name-file_new.ensures)

pub write_out-requires-clause-reads : goal.write_out-requires-clause-reads
write_out-requires-clause-reads g c =
    let names = c.args.pair.now.files.names in
    swap_named names c.args.pair.now.files.named c.as_str.result.now (c.as_str.ensures.value ∙ c.copy_name-name.ensures)

pub write_out-requires-clause-valid : goal.write_out-requires-clause-valid
write_out-requires-clause-valid g c = record {
  fits = record {
    few = c.requires.bounded.few_lines;
    few_bytes = c.requires.bounded.few_bytes;
    one = λ told. let text = c.requires.paged told in (text.0, text.1.present);
  };
  ready = c.requires.ready;
}

pub returns-clause-written : goal.returns-clause-written
returns-clause-written g c told text paged =
    let names = c.args.pair.now.files.names in
    let name : Name = c.as_str.result.now in
    let made : Name = c.as_str-2.result.now in
    let is : name ≡ names.file = c.as_str.ensures.value ∙ c.copy_name-name.ensures in
    let is_made : made ≡ names.file_new = c.as_str-2.ensures.value ∙ c.copy_name-file_new.ensures in
    let bytes = file_in c.args.options.now.format text in
    let s0 = g.F.World.scene c.args.host.now in
    let s1 = g.F.World.scene c.write_out.new.desk.pages.host.now in
    let has : Tells g.F.World.tells.folder (shown_in c.args.pair.now s0.folder).present c.args.tree.now.present text = record { told = told; has = paged.present } in
    let copy : Names = record names { file = name; file_new = made } in
    let file : WritesFile c.args.options.now copy bytes s0 s1 c.write_out.result = record {
      backed = λ old there backup made. c.write_out.ensures.backed told old there backup made text has;
      all_taken = λ there on none. c.write_out.ensures.all_taken told there on none;
      plain = λ old there off. c.write_out.ensures.plain told old there off text has;
      fresh = λ none. c.write_out.ensures.fresh told none text has;
    } in
    search (rules, subst (λ (n : Names). WritesFile c.args.options.now n bytes s0 s1 c.write_out.result) (copied names name made is is_made) file)

pub returns-clause-no_name : goal.returns-clause-no_name
returns-clause-no_name g c failed =
    let is : c.as_str.result.now ≡ c.args.pair.now.files.names.file = c.as_str.ensures.value ∙ c.copy_name-name.ensures in
    subst (λ (n : Name). IsNoName c.args.options.now n g.F.World.tells.folder (g.F.World.scene c.args.host.now).folder) is (c.write_out.ensures.no_name failed)

pub returns-clause-calls : goal.returns-clause-calls
returns-clause-calls g c told text paged =
    let is : c.as_str.result.now ≡ c.args.pair.now.files.names.file = c.as_str.ensures.value ∙ c.copy_name-name.ensures in
    let s0 = g.F.World.scene c.args.host.now in
    let s1 = g.F.World.scene c.write_out.new.desk.pages.host.now in
    let has : Tells g.F.World.tells.folder (shown_in c.args.pair.now s0.folder).present c.args.tree.now.present text = record { told = told; has = paged.present } in
    search (rules, subst (λ (n : Name). FailsNoEarlier n (file_in c.args.options.now.format text) s0 s1 c.write_out.result) is (c.write_out.ensures.calls told text has))

pub returns-clause-unseen : goal.returns-clause-unseen
returns-clause-unseen g c told there on refused =
    let is : c.as_str.result.now ≡ c.args.pair.now.files.names.file = c.as_str.ensures.value ∙ c.copy_name-name.ensures in
    let s0 = g.F.World.scene c.args.host.now in
    let s1 = g.F.World.scene c.write_out.new.desk.pages.host.now in
    let told_as : (name : Name) → c.as_str.result.now ≡ name → IsSome (content_of s0 name) → IsTold Looked (name ∷ []) c.write_out.result s0 s1 =
    λ name same is_there. subst (λ (n : Name). IsTold Looked (n ∷ []) c.write_out.result s0 s1) same
    (c.write_out.ensures.unseen told (subst (λ (n : Name). IsSome (content_of s0 n)) (sym same) is_there) on refused) in
    search (rules, told_as c.args.pair.now.files.names.file is there)

pub returns-clause-others : goal.returns-clause-others
returns-clause-others g c told inside outside apart =
    let is : c.as_str.result.now ≡ c.args.pair.now.files.names.file = c.as_str.ensures.value ∙ c.copy_name-name.ensures in
    let s0 = g.F.World.scene c.args.host.now in
    let s1 = g.F.World.scene c.write_out.new.desk.pages.host.now in
    let spares : SparesOthers (WorksOn c.args.options.now c.args.pair.now.files.names.file s0.folder) s0 s1 =
    subst (λ (n : Name). SparesOthers (WorksOn c.args.options.now n s0.folder) s0 s1) is (c.write_out.ensures.others told) in
    search (rules, spares inside outside apart)

pub returns-clause-modes : goal.returns-clause-modes
returns-clause-modes g c there told allowed owner has =
    let is : c.as_str.result.now ≡ c.args.pair.now.files.names.file = c.as_str.ensures.value ∙ c.copy_name-name.ensures in
    let s0 = g.F.World.scene c.args.host.now in
    let s1 = g.F.World.scene c.write_out.new.desk.pages.host.now in
    let rewrites : RewritesLike g.F.World.tells c.args.pair.now.files.names.file s0 s1 = subst (λ (n : Name). RewritesLike g.F.World.tells n s0 s1) is c.write_out.ensures.modes in
    search (rules, rewrites there told allowed owner has)
