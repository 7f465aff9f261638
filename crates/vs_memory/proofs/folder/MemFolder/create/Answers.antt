use Rattle.std.proofs.Common.{rules, ◌≡◌, ◌∷◌, [], ℕ, List, length, ap, ◌∙◌}
use Rattle.std.proofs.Common.{◌++◌, ◌+◌}
use Rattle.std.specs.Prelude.{string_bytes}
use Rattle.vs_memory.specs.declared.names.NameChange.TheVariants.{Create}
use Rattle.vs_memory.specs.Folders.{disk_of, with_file}
use Rattle.vs_memory.proofs.Stores.{more_files}
use Rattle.vs_memory.proofs.folder.MemFolder.create.Goals as goal

pub returns-clause-ok : goal.returns-clause-ok
returns-clause-ok c =
    let changes = c.args.self.now.changes.items in
    let files = c.args.self.now.files.items in
    let pending : ℕ = c.args.self.now.pending in
    let more : c.push-2.new.self.items ≡ changes ++ Create c.in_ok-from_str.field-0 c.len.result ∷ [] = c.in_default.ensures.items in
    let filed : c.push.new.self.items ≡ files ++ c.empty.result ∷ [] = c.in_ok-push.ensures.items in
    let count : c.len.result ≡ length files = search rules in
    let name : string_bytes c.in_ok-from_str.field-0 ≡ c.args.name.now = search rules in
    (λ i. disk_of (more i) (pending + 1) (filed i))
    ∙ ap (λ (n : ℕ). disk_of (changes ++ Create c.in_ok-from_str.field-0 n ∷ []) (pending + 1) (files ++ c.empty.result ∷ [])) count
    ∙ more_files changes pending files c.in_ok-from_str.field-0 c.empty.result c.args.mode c.empty.ensures.file c.empty.ensures.mode
    ∙ ap (λ (b : List ℕ). with_file b c.args.mode (disk_of changes pending files)) name
