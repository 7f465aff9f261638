-- Rows of such commands, computed from the marks on.
use Rattle.std.specs.Prelude.{◌≡◌, ℕ, Bool, false, true, pos, List, [], ◌∷◌, codes, Some, None, Ok, Err, refl}
use Rattle.vs_exparse.specs.Command.Command.{Delete, Move, CopyTo, Join}
use Rattle.vs_exparse.specs.declared.command.Address.{Address}
use Rattle.vs_exparse.specs.declared.command.Base.TheVariants as base
use Rattle.vs_exparse.specs.declared.command.Range.TheVariants as range
use Rattle.vs_exparse.specs.declared.command.ExErr.TheVariants.{E16}
use Rattle.vs_global.specs.Global.{changed_at}

abbrev zero_line : Address
zero_line = record { base = base.Number 0; offset = pos 0 }

abbrev here : Address
here = record { base = base.Current; offset = pos 0 }

abbrev three_on : Address
three_on = record { base = base.Current; offset = pos 3 }

abbrev last_line : Address
last_line = record { base = base.Last; offset = pos 0 }

abbrev four : List (List ℕ)
four = codes "a x" ∷ codes "b" ∷ codes "c x" ∷ codes "d" ∷ []

abbrev first_third : List Bool
first_third = true ∷ false ∷ true ∷ false ∷ []

abbrev second_fourth : List Bool
second_fourth = false ∷ true ∷ false ∷ true ∷ []

-- g/\Vx/d
row_d : changed_at (Delete range.Absent None) four 1 first_third ≡ Ok (Some (record { top = 0; old = 3; new = codes "b" ∷ []; cursor = 2 }))
row_d = refl

-- v/\Vx/m0
row_m : changed_at (Move range.Absent zero_line) four 1 second_fourth ≡ Ok (Some (record { top = 0; old = 4; new = codes "d" ∷ codes "b" ∷ codes "a x" ∷ codes "c x" ∷ []; cursor = 1 }))
row_m = refl

-- v/\Vz/m0 on three lines
row_reverse : changed_at (Move range.Absent zero_line) (codes "1" ∷ codes "2" ∷ codes "3" ∷ []) 1 (true ∷ true ∷ true ∷ [])
    ≡ Ok (Some (record { top = 0; old = 3; new = codes "3" ∷ codes "2" ∷ codes "1" ∷ []; cursor = 1 }))
row_reverse = refl

-- g/\Vx/co0 on the single line x: one copy
row_co : changed_at (CopyTo range.Absent zero_line) (codes "x" ∷ []) 1 (true ∷ []) ≡ Ok (Some (record { top = 0; old = 0; new = codes "x" ∷ []; cursor = 1 }))
row_co = refl

-- g/\Vx/m$ : the lines go to the end, each once
row_end : changed_at (Move range.Absent last_line) four 1 first_third
    ≡ Ok (Some (record { top = 0; old = 4; new = codes "b" ∷ codes "d" ∷ codes "a x" ∷ codes "c x" ∷ []; cursor = 4 }))
row_end = refl

-- g/\Vx/.,+3d takes the second marked line away with its mark; from the third line on there are not four lines
row_span : changed_at (Delete (range.Two here three_on) None) four 1 first_third ≡ Ok (Some (record { top = 0; old = 4; new = []; cursor = 0 }))
row_span = refl

row_past : changed_at (Delete (range.Two here three_on) None) four 1 (false ∷ true ∷ false ∷ false ∷ []) ≡ Err E16
row_past = refl

-- all lines joined two by two: the line that is joined loses its mark, and the joined line keeps that of its first
row_j : changed_at (Join range.Absent false None) four 1 (true ∷ true ∷ true ∷ true ∷ [])
    ≡ Ok (Some (record { top = 0; old = 4; new = codes "a x b" ∷ codes "c x d" ∷ []; cursor = 2 }))
row_j = refl

-- the last line joins none: no change, and the cursor is there
row_j_last : changed_at (Join range.Absent false None) four 1 (false ∷ false ∷ false ∷ true ∷ []) ≡ Ok None
row_j_last = refl
