-- Worked examples of REFERENCE 10, written by hand: what an input says, and what is printed. proofs/Cases.antt proves the table by one
-- theorem over the definitions; crate trial_closer_run runs the whole program on every kind of input. Assumes nothing.
use Rattle.std.specs.Prelude.{◌≡◌, List, [], ◌∷◌, ℕ}
use Prim.Native.String.{String}
use Rattle.common.specs.Text.{text}
use Rattle.edge_closer_text.specs.Input.{Parsed, bad_line, input, parse}
use Rattle.edge_closer_text.specs.Output.{answer, refusal, bad_line_text, name}

-- a case of the table
pub data Case : Type 0 where
  -- what an input gives
  read : String → Parsed → Case
  -- what is printed
  print : List ℕ → String → Case

-- a case is as the definitions have it
abbrev pub Holds : Case → Type 0
Holds (read s p) = parse (text s) ≡ p
Holds (print t s) = t ≡ text s

-- so is each of the cases
abbrev pub AllHold : List Case → Type 0
AllHold [] = Unit {0}
AllHold (x ∷ xs) = Holds x × AllHold xs

-- the table
abbrev pub cases : List Case
cases =
    -- the worked example; the largest id; the first of two bad lines
    read "3\n31 1 32\n32 8 33\n" (input 3 (31 ∷ 1 ∷ 32 ∷ 32 ∷ 8 ∷ 33 ∷ [])) ∷
    read "0\n0 1 4294967295\n" (input 0 (0 ∷ 1 ∷ 4294967295 ∷ [])) ∷
    read "3\n31 1 32\n32 8\n33\n" (bad_line 3) ∷
    -- an accepted run of the worked example, of whose rows pass and rule are not printed; one with a finding, a refused run, a bad line, a
    -- name
    print (answer (9 ∷ 1 ∷ 9 ∷ 1 ∷ 1 ∷ 9 ∷ 1 ∷ 30 ∷ 0 ∷ 0 ∷ 10 ∷ 1 ∷ 9 ∷ 1 ∷ 1 ∷ 10 ∷ 1 ∷ 30 ∷ 0 ∷ 0 ∷ 31 ∷ 1 ∷ 9 ∷ 1 ∷ 1
    ∷ 31 ∷ 1 ∷ 32 ∷ 0 ∷ 0 ∷ 31 ∷ 1 ∷ 33 ∷ 1 ∷ 14 ∷ 32 ∷ 1 ∷ 9 ∷ 1 ∷ 1 ∷ 32 ∷ 8 ∷ 33 ∷ 0 ∷ 0 ∷ 0 ∷ 0 ∷ 0 ∷ 0 ∷ 0 ∷ []) 9 [] 0)
    "0 9 0\n9 1 9\n9 1 30\n10 1 9\n10 1 30\n31 1 9\n31 1 32\n31 1 33\n32 1 9\n32 8 33\n" ∷
    print (answer (9 ∷ 1 ∷ 9 ∷ 1 ∷ 1 ∷ []) 1 (1 ∷ 31 ∷ 32 ∷ 33 ∷ 0 ∷ 0 ∷ 0 ∷ 0 ∷ 0 ∷ 0 ∷ []) 1) "0 1 1\n9 1 9\n1 31 32 33 0\n" ∷
    print (refusal 8) "8 0 0\n" ∷
    print (bad_line_text 4294967295) "bad line 4294967295\n" ∷
    print (name 500) "urn:t500" ∷
    []
