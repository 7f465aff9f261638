-- Lines that are taken from the bytes of a page in their stored form are the first lines of the bytes that they came from.
use Rattle.std.proofs.Common.{◌≡◌, ◌≢◌, ℕ, ◌<◌, ◌≤◌, List, [], ◌∷◌, ◌++◌, length, map, take, drop, All, refl, sym, ap, ◌∙◌, arith, length-drop}
use Rattle.std.specs.List.{AllByRecursion}
use Rattle.std.proofs.lemmas.Bool.Decides.{nat_tests}
use Rattle.std.proofs.lemmas.List.{length-map, length-take-le, take-append-drop, take-map, take-take}
use Rattle.std.proofs.lemmas.List.Elements.{All-from_recursion, recursion_from_All}
use Rattle.vs_text.specs.Text.{IsLine, file_of, lines_of, plain_byte, plain_line, stored_byte, stored_line}
use Rattle.vs_text.proofs.Reading.{lines_of-file_then}
use Rattle.vs_tree_blocks.specs.Runs.{IsFirstRun}
use Rattle.vs_tree.specs.Appends.{IsFilled}
use Rattle.vs_tree.specs.Reads.{exchanged_byte}
use Rattle.vs_tree.proofs.Ended.{ended_lines, lines_plain}
use Rattle.vs_tree.proofs.Packing.{whole_rest}

abbrev HasNoZero : List ℕ → Type 0
HasNoZero line = All (λ byte. byte ≢ 0) line

byte_back : (byte : ℕ) → exchanged_byte (exchanged_byte byte) ≡ byte
byte_back byte = grind (arith, nat_tests)

exchanged_back : (bytes : List ℕ) → map exchanged_byte (map exchanged_byte bytes) ≡ bytes
exchanged_back [] = refl
exchanged_back (byte ∷ bytes) = rw (byte_back byte, exchanged_back bytes) refl

stored_byte_back : (byte : ℕ) → byte ≢ 0 → stored_byte (plain_byte byte) ≡ byte
stored_byte_back byte some = grind (arith, nat_tests)

stored_line_back : (line : List ℕ) → AllByRecursion (λ byte. byte ≢ 0) line → stored_line (plain_line line) ≡ line
stored_line_back [] none = refl
stored_line_back (byte ∷ line) some = rw (stored_byte_back byte some.0, stored_line_back line some.1) refl

stored_back : (lines : List (List ℕ)) → AllByRecursion HasNoZero lines → lines ≡ map stored_line (map plain_line lines)
stored_back [] none = refl
stored_back (line ∷ lines) some =
    ap (λ (l : List ℕ). l ∷ lines) (sym (stored_line_back line (recursion_from_All (λ byte. byte ≢ 0) line some.0))) ∙ ap (λ ls. stored_line (plain_line line) ∷ ls) (stored_back lines some.1)

module _ (bytes stored : List ℕ) (count taken : ℕ) (run : List (List ℕ)) (within : count ≤ length bytes) (is : stored ≡ map exchanged_byte (take count bytes))
    (first : IsFirstRun stored run taken) (some : 0 < taken) where
  long : length stored ≡ count
  long = ap length is ∙ length-map (take count bytes) exchanged_byte ∙ length-take-le count bytes within

  few : taken ≤ count
  few = omega (arith, first.within, long)

  front : take taken bytes ≡ file_of (map plain_line run)
  front = sym (take-take taken count bytes few) ∙ sym (exchanged_back (take taken (take count bytes)))
      ∙ ap (λ xs. map exchanged_byte xs) (sym (take-map exchanged_byte taken (take count bytes)) ∙ ap (λ xs. take taken xs) (sym is) ∙ first.lines_end)
      ∙ ended_lines run (recursion_from_All HasNoZero run first.no_zero)

  run_some : (lines : List (List ℕ)) → run ≡ lines → 0 < length (map plain_line lines)
  run_some [] none = absurd (omega (arith, length-take-le taken bytes (omega (arith, few, within)), ap length front, ap (λ ls. length (file_of (map plain_line ls))) none))
  run_some (line ∷ lines) there = omega arith

  cut : bytes ≡ file_of (map plain_line run) ++ drop taken bytes
  cut = sym (take-append-drop taken bytes) ∙ ap (λ xs. xs ++ drop taken bytes) front

  all_lines_are : lines_of bytes ≡ map plain_line run ++ lines_of (drop taken bytes)
  all_lines_are = ap lines_of cut ∙ lines_of-file_then (map plain_line run) (drop taken bytes) (All-from_recursion IsLine (map plain_line run) (lines_plain run))

  pub filled_front : IsFilled bytes run (drop taken bytes)
  filled_front = record {
    put = map plain_line run;
    lines = all_lines_are;
    stored = stored_back run (recursion_from_All HasNoZero run first.no_zero);
    some = run_some run refl;
    less = omega (arith, length-drop taken bytes, few, within, some);
    whole = whole_rest bytes (drop taken bytes) (map plain_line run) all_lines_are cut;
  }
