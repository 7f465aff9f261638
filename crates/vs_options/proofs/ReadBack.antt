-- A setting in full is read as the setting: each of its words as they stand, and its number digit by digit.
use Rattle.std.proofs.Common.{◌≡◌, ◌∙◌, ◌≤◌, ◌&&◌, ◌++◌, ◌+◌, ◌*◌, ◌-◌, ℕ, Bool, true, false, nat_le, min, List, length, fold, codes, decimal, Option, Some, refl, ap, arith}
use Rattle.std.specs.Char.{is_ascii_digit}
use Rattle.std.specs.Int.{IsInRange}
use Rattle.std.specs.List.{list_all}
use Rattle.std.proofs.lemmas.Bool.Decides.{nat_tests}
use Rattle.std.proofs.lemmas.Fmt.{digits_decimal, digits_value-decimal, length-decimal-le}
use Rattle.std.proofs.lemmas.Str.Parse.{FoldsDigits, IsDigitsTest, IsNumeralModel, numerals_by_fold}
use Rattle.vs_exparse.specs.Argument.{is_levels, levels_in, max_levels, setting_of}
use Rattle.vs_exparse.specs.Bytes.{is_digit, number_of, value_of}
use Rattle.vs_exparse.specs.Form.{HasSettingForm}
use Rattle.vs_exparse.specs.declared.command.Setting.{Setting}
use Rattle.vs_exparse.specs.declared.command.Setting.TheVariants.{Backup, WriteBackup, UndoFile, CopyYes, CopyNo, CopyAuto, UndoLevels, Unix, Dos}
use Rattle.vs_options.specs.Options.{full_text, words}

tells : IsDigitsTest (λ ds. list_all is_digit ds ≡ true)
tells = record {
  empty = refl;
  parts = λ c cs all. grind (arith, nat_tests);
  more = λ c cs is all. grind (arith, nat_tests);
}

reads : FoldsDigits (λ n ds. fold (λ number digit. number * 10 + (digit - 48)) n ds)
reads = record { empty = λ n. refl; more = λ n c cs is. refl }

own : IsNumeralModel (λ ds. list_all is_digit ds ≡ true) value_of
own = numerals_by_fold (λ ds. list_all is_digit ds ≡ true) tells (λ n ds. fold (λ number digit. number * 10 + (digit - 48)) n ds) reads

levels-read : (n : ℕ) → 1 ≤ n → n ≤ max_levels → levels_in (decimal n) ≡ Some (UndoLevels n)
levels-read n least most =
    let all : list_all is_digit (decimal n) ≡ true = digits_decimal own n (omega arith) in
    let worth : value_of (decimal n) ≡ n = digits_value-decimal own n (omega arith) in
    let value : number_of (decimal n) ≡ n = omega (arith, worth) in
    let size : length (decimal n) ≤ 7 = length-decimal-le 7 n (omega arith) (omega arith) (omega arith) in
    let short : nat_le (length (decimal n)) 7 ≡ true = grind (arith, nat_tests) in
    let low : nat_le 1 n ≡ true = grind (arith, nat_tests) in
    let high : nat_le n max_levels ≡ true = grind (arith, nat_tests) in
    rw (value, all, short, low, high) refl

pub full-read : (setting : Setting) → HasSettingForm setting → setting_of (full_text setting) ≡ Some setting
full-read (Backup true) form = refl
full-read (Backup false) form = refl
full-read (WriteBackup true) form = refl
full-read (WriteBackup false) form = refl
full-read (UndoFile true) form = refl
full-read (UndoFile false) form = refl
full-read CopyYes form = refl
full-read CopyNo form = refl
full-read CopyAuto form = refl
full-read (UndoLevels levels) form = levels-read levels form.0 form.1
full-read Unix form = refl
full-read Dos form = refl
