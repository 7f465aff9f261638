-- The bytes up to a place are copied.
use Rattle.std.proofs.Common.{◌≡◌, ℕ, ◌+◌, ◌<◌, ◌≤◌, List, [], ◌∷◌, ◌++◌, length, get_or, map, take, set, refl, sym, ap, ◌∙◌, arith, add-one}
use Rattle.std.proofs.lemmas.List.{map-append, take_all}
use Rattle.std.proofs.Math.ListN.{length-set}
use Rattle.std.proofs.Math.Seq.{take-suc, take-suc-set}
use Rattle.vs_tree.specs.Reads.{exchanged_byte}
use Rattle.vs_tree.proofs.copy.exchange_into.Goals as goal

-- one more byte
one_copied : (from to now : List ℕ) (at byte : ℕ) → at < length from → length to ≡ length from → byte ≡ exchanged_byte (get_or from at 0) → now ≡ set to at byte
    → take at to ≡ map exchanged_byte (take at from) → take (at + 1) now ≡ map exchanged_byte (take (at + 1) from)
one_copied from to now at byte within same is set_is so_far =
    rw (add-one, set_is) (take-suc-set to at byte (omega arith) ∙ ap (λ xs. xs ++ byte ∷ []) so_far ∙ ap (λ b. map exchanged_byte (take at from) ++ b ∷ []) is
    ∙ sym (map-append exchanged_byte (take at from) (get_or from at 0 ∷ [])) ∙ ap (λ xs. map exchanged_byte xs) (sym (take-suc from at 0 within)))

pub loop-at-preserved : goal.loop-at-preserved
loop-at-preserved c =
    let within : c.loop-at.at < length c.args.bytes.now = c.loop-at-test.true in
    record {
      size = length-set c.loop-at.into c.loop-at.at c.exchanged_byte.result ∙ c.loop-at.invariant.size;
      copied = one_copied c.args.bytes.now c.loop-at.into (set c.loop-at.into c.loop-at.at c.exchanged_byte.result) c.loop-at.at c.exchanged_byte.result within c.loop-at.invariant.size
          c.exchanged_byte.ensures refl c.loop-at.invariant.copied;
    }

pub returns : goal.returns
returns c =
    let past : length c.args.bytes.now ≤ c.loop-at.at = c.loop-at-test.false in
    sym (take_all c.loop-at.at c.loop-at.into (omega (arith, c.loop-at.invariant.size))) ∙ c.loop-at.invariant.copied
    ∙ ap (λ xs. map exchanged_byte xs) (take_all c.loop-at.at c.args.bytes.now past)
