-- Each write fills its fields on what the one before left, and the laws of such a page are those of its contents.
use Rattle.std.proofs.Common.{◌≡◌, ℕ, List, replicate, sym, ap, ◌∙◌, arith}
use Rattle.vs_zero.specs.Layout.{pair_tag_field, generation_field, pair_flags_field}
use Rattle.vs_zero.specs.Zero.{closed_page, opened, name_of, reading_of, with_contents, file_contents, magic_contents}
use Rattle.vs_zero.proofs.Contents.{filled_next}
use Rattle.vs_zero.proofs.RoundTrip.{IsWritable, closed_refused, opened_name, opened_reads}
use Rattle.vs_zero.proofs.Zero.write_closed.Goals as goal

pub returns-in-Some : goal.returns-in-Some
returns-in-Some c =
    let zero = c.args.self.now in
    let name : List ℕ = c.args.name.now in
    let pair = c.in-Some.pair in
    let good : IsWritable zero pair name = record {
      sized = c.requires.sized;
      short = grind (arith, c.requires.allowed);
      paired = c.in-Some.is;
      counted = omega arith;
    } in
    let blank : c.fill.new.self ≡ replicate zero.page_size 0 =
    c.fill.ensures.after (λ y same. same) ∙ ap (λ (n : ℕ). replicate n 0) (c.requires.whole ∙ sym c.requires.sized) in
    let file : c.put_file_fields.new.page ≡ with_contents (replicate zero.page_size 0) (file_contents zero name) =
    c.put_file_fields.ensures ∙ ap (λ (page : List ℕ). with_contents page (file_contents zero name)) blank in
    let magic = c.put_magic_fields.ensures ∙ ap (λ (page : List ℕ). with_contents page magic_contents) file in
    let tag = filled_next pair_tag_field _ c.put_magic_fields.new.page magic c.put.ensures in
    let generation = filled_next generation_field _ c.put.new.page tag c.put_le_u64.ensures in
    let whole : c.put_le_u32.new.b ≡ closed_page zero pair name =
    filled_next pair_flags_field _ c.put_le_u64.new.b generation (rw c.from.ensures at c.put_le_u32.ensures) in
    record {
      page = rw c.in-Some.is whole;
      closed = ap reading_of whole ∙ closed_refused zero pair name good;
      reads = ap (λ (page : List ℕ). reading_of (opened page)) whole ∙ opened_reads zero pair name good c.requires.known;
      named = ap (λ (page : List ℕ). name_of (opened page)) whole ∙ opened_name zero pair name good c.requires.allowed;
    }
