use Rattle.std.proofs.Common.{◌≡◌, ◌<◌, ◌∷◌, ℕ, List, length, sym, ap, ◌∙◌, subst}
use Rattle.vs_host.specs.File.{File}
use Rattle.vs_memory.specs.Memory.{Memory}
use Rattle.vs_memory.specs.Images.{kept_bytes, IsLeft, AreLeft}
use Rattle.vs_memory.proofs.Stores.{here}
use Rattle.vs_memory.proofs.Lefts.{put_left}
use Rattle.vs_memory.proofs.image.put_one.Goals as goal

pub returns-in_ok-put-clause-left : goal.returns-in_ok-put-clause-left
returns-in_ok-put-clause-left c =
    let files = c.args.folder.now.files.items in
    let base : c.put.new.self.base ≡ (c.args.name.now, c.in_ok-bytes.bytes.items) ∷ c.args.host.now.base = ap (λ (m : Memory). m.base) c.in_ok-put.ensures.ok in
    let lt : c.in-Some.number < length c.args.folder.now.files.items = c.in-Some.ensures.below (length c.args.folder.now.files.items) c.requires.below in
    let left_here : IsLeft c.args.keep c.args.folder.now.files.items c.args.kept.now c.args.name.now c.in_ok-bytes.bytes.items = record {
      number = c.in-Some.number;
      leads = sym c.number_of.ensures.value ∙ c.in-Some.is;
      is = c.in_ok-bytes.ensures ∙ ap (λ (f : File). kept_bytes c.args.keep f) (here c.args.folder.now.files.items c.in-Some.number c.index.result.now lt c.index.ensures);
    } in
    λ left. subst (λ (b : List (List ℕ × List ℕ)). AreLeft c.args.keep c.args.folder.now.files.items c.args.kept.now b) (sym base)
    (put_left c.args.keep c.args.folder.now.files.items c.args.kept.now c.args.host.now.base c.args.name.now c.in_ok-bytes.bytes.items left_here left)
