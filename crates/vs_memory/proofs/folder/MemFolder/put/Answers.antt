use Rattle.std.proofs.Common.{rules, ◌≡◌, ◌∷◌, [], ℕ, List, length, ap, ◌∙◌}
use Rattle.std.proofs.Common.{◌++◌}
use Rattle.std.specs.Prelude.{string_bytes}
use Rattle.vs_memory.specs.declared.names.NameChange.TheVariants.{Create}
use Rattle.vs_memory.specs.Folders.{disk_of}
use Rattle.vs_memory.specs.Replay.{with_put}
use Rattle.vs_memory.proofs.Stores.{put_file}
use Rattle.vs_memory.proofs.folder.MemFolder.put.Goals as goal

pub returns-clause-ok : goal.returns-clause-ok
returns-clause-ok c =
    let changes = c.args.self.now.changes.items in
    let files = c.args.self.now.files.items in
    let pending : ℕ = c.args.self.now.pending in
    let more : c.push-2.new.self.items ≡ changes ++ Create c.in_ok-from_str.field-0 c.len.result ∷ [] = c.in_default.ensures.items in
    let filed : c.push.new.self.items ≡ files ++ c.of_bytes.result ∷ [] = c.in_ok-push.ensures.items in
    let count : c.len.result ≡ length files = search rules in
    let name : string_bytes c.in_ok-from_str.field-0 ≡ c.args.name.now = search rules in
    (λ i. disk_of (more i) 0 (filed i))
    ∙ ap (λ (n : ℕ). disk_of (changes ++ Create c.in_ok-from_str.field-0 n ∷ []) 0 (files ++ c.of_bytes.result ∷ [])) count
    ∙ put_file changes pending files c.in_ok-from_str.field-0 c.of_bytes.result c.args.bytes.items c.of_bytes.ensures.file c.of_bytes.ensures.mode
    ∙ ap (λ (b : List ℕ). with_put b c.args.bytes.items (disk_of changes pending files)) name
