-- Each request stands for some command of a script.
use Rattle.std.proofs.Common.{◌≡◌, ℕ, zero, suc, ◌+◌, ◌≤◌, List, [], ◌∷◌, length, All, refl, arith, inl}
use Rattle.std.proofs.lemmas.List.Elements.{All-nil, All-cons, All-head}
use Rattle.vs_text.specs.Limits.{IsShort}
use Rattle.vs_text.specs.declared.TheConstants.{MAX_LINE_BYTES, MAX_LINES}
use Rattle.vs_exparse.specs.Command.{result_of}
use Rattle.vs_excmd.specs.Request.{Instruction, IsRequest, StandsFor}
use Rattle.vs_excmd.specs.declared.request.Block.{Block}
use Rattle.vs_excmd.specs.declared.request.Block.TheVariants as block
use Rattle.vs_excmd.specs.declared.request.Request.{Request}

-- a line of so many bytes, and so many empty lines
zeros : (n : ℕ) → (line : List ℕ) × (length line ≡ n)
zeros zero = ([], refl)
zeros (suc n) = let rest = zeros n in (0 ∷ rest.0, omega (arith, rest.1))

blanks : (n : ℕ) → (lines : List (List ℕ)) × (length lines ≡ n) × All IsShort lines
blanks zero = ([], refl, All-nil IsShort)
blanks (suc n) = let rest = blanks n in ([] ∷ rest.0, omega (arith, rest.1), All-cons IsShort [] rest.0 (omega arith) rest.2)

stands : (b : Block) → (lines : List (List ℕ)) × StandsFor b lines
stands block.Absent = ([], refl)
stands (block.Lines kept) = (kept.items, refl)
stands block.TooLong = let long = zeros (MAX_LINE_BYTES + 1) in (long.0 ∷ [], λ all. let short : length long.0 ≤ MAX_LINE_BYTES = All-head IsShort long.0 [] all in absurd (omega (arith, long.1, short)))
stands block.TooMany = let many = blanks (MAX_LINES + 1) in (many.0, (many.2, inl (omega (arith, many.1))))
stands block.NoMemory = ([], tt)

pub some_command : (request : Request) → (instruction : Instruction) × IsRequest request instruction
some_command request =
    let lines = stands request.block in
    (record { parsed = result_of request.parsed; block = lines.0 }, record { parsed = refl; block = lines.1 })
