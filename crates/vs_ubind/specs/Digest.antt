-- The digest of a text.
use Rattle.std.specs.Prelude.{ℕ, List, [], ◌∷◌, ◌++◌}
use Rattle.std.specs.List.{flat_map}
use Rattle.sha2.specs.Sha256.{sha256}
use Rattle.vs_text.specs.Text.{stored}

-- each line followed by one zero byte
abbrev pub ended : List (List ℕ) → List ℕ
ended lines = flat_map (λ line. line ++ 0 ∷ []) lines

-- SHA-256 over the stored form of the text, each line followed by one zero byte
unfoldable pub digest_of : List (List ℕ) → List ℕ
digest_of text = sha256 (ended (stored text))
