-- Reading a file, line by line: what holds of the terms held and the triples read before a line holds after it. A refused file has a
-- number after 2; loads of at least 16,384 triples are read into alike. Assumes nothing.
use mathlib.Core.Path.{◌≡◌, refl, sym, ◌∙◌, ap, subst}
use mathlib.Core.Logic.{◌≢◌}
use mathlib.Core.Bool.{Bool, true, false, ◌&&◌}
use mathlib.Core.List.{List, [], ◌∷◌, ◌++◌}
use Prim.Native.Nat.{ℕ, ◌/◌, ◌%◌, ◌≤◌, ◌<◌}
use native.Mathlib.Omega.{arith}
use lib.Dec.{T, ltb, eqb, ltb→lt}
use lib.ListN.{length, length-append}
use borrow.Author.Tests.{eq-eqb, ne_eqb, lt-ltb, ltb-true}
use Rattle.common.specs.Sizes.{load_width, load_limit}
use Rattle.common.specs.Triples.{Triple, if}
use Rattle.common.proofs.Lists.{and→}
use Rattle.dictionary_layout.specs.Terms.{Term}
use Rattle.dictionary_layout.specs.Layout.{Dict, decode}
use Rattle.dictionary_layout.specs.Dictionary.{AllPut, full, all_put, put_all, valid}
use Rattle.dictionary_layout.proofs.Choice.{if_yes, if_no}
use Rattle.ntriples.specs.Grammar.{Terms, Line, nothing, says, bad, line}
use Rattle.ntriples.specs.Reading.{line_limit, lines, Outcome, refused, read, in_order, all_short, ids, fits, on_put, on_said}
use Rattle.ntriples.specs.Reading.{read_line, on_read, read_lines, read_file, read_answer, shown, abstract_read, ReadResult}
use Rattle.ntriples.specs.Reading.{read_laid, read_gives}

-- what a line, or a file, comes to: a claim of the terms held and the triples read, or a refusal after 2
abbrev pub After : (List Term → List Triple → Type 0) → Outcome → Type 0
After Q (refused n) = 2 < n
After Q (read us ys) = Q us ys

-- a claim that every line that gives a triple keeps
module _ (Q : List Term → List Triple → Type 0) (tl al cap : ℕ)
    (keeps : (ts : List Term) (xs : List Triple) (t : Terms) (us : List Term) → Q ts xs → put_all tl al ts (in_order t) ≡ all_put us
    → T (fits cap xs) → Q us (xs ++ (ids us t ∷ []))) where
  line_keeps : (ts : List Term) (xs : List Triple) (l : List ℕ) → Q ts xs → After Q (read_line tl al cap ts xs l)
  unfolding read_line
  line_keeps ts xs l h = go (ltb line_limit (length l))
    where
      room : (t : Terms) (us : List Term) → put_all tl al ts (in_order t) ≡ all_put us → (b : Bool) → (T b → T (fits cap xs))
          → After Q (if b (λ _. read us (xs ++ (ids us t ∷ []))) (λ _. refused 3))
      room t us e true f = keeps ts xs t us h e (f tt)
      room t us e false f = omega arith

      put : (t : Terms) (w : AllPut) → put_all tl al ts (in_order t) ≡ w → After Q (on_put cap xs t w)
      put t full e = omega arith
      put t (all_put us) e = room t us e (fits cap xs) (λ k. k)

      short : (t : Terms) (b : Bool) → After Q (if b (λ _. on_put cap xs t (put_all tl al ts (in_order t))) (λ _. refused 11))
      short t true = put t (put_all tl al ts (in_order t)) refl
      short t false = omega arith

      said : (s : Line) → After Q (on_said tl al cap ts xs s)
      said nothing = h
      said (says t) = short t (all_short t)
      said bad = omega arith

      go : (b : Bool) → After Q (if b (λ _. refused 14) (λ _. on_said tl al cap ts xs (line l)))
      go true = omega arith
      go false = said (line l)

  lines_keep : (ts : List Term) (xs : List Triple) (ls : List (List ℕ)) → Q ts xs → After Q (read_lines tl al cap ts xs ls)
  unfolding read_lines
  lines_keep ts xs [] h = h
  lines_keep ts xs (l ∷ ls) h = go (read_line tl al cap ts xs l) (line_keeps ts xs l h) (λ us ys k. lines_keep us ys ls k)
    where
      go : (o : Outcome) → After Q o → ((us : List Term) (ys : List Triple) → Q us ys → After Q (read_lines tl al cap us ys ls))
          → After Q (on_read o (λ us ys. read_lines tl al cap us ys ls))
      go (refused n) k f = k
      go (read us ys) k f = f us ys k

  -- A FILE
  pub file_keeps : (ts : List Term) (bs : List ℕ) → Q ts [] → After Q (read_file tl al cap ts bs)
  unfolding read_file
  file_keeps ts bs h = lines_keep ts [] (lines bs) h

-- THE CALL where the contents are valid, and where they are broken
module _ (d : Dict) (load file : List ℕ) where
  abbrev broken : ReadResult
  broken = record { answer = read_answer 1 0 load; contents = d }

  pub read_valid : T (valid d) → read_gives d load file ≡ read_laid load file (length d.table) (length d.arena) (decode d)
  unfolding read_gives
  read_valid v = if_yes (valid d) (λ _. read_laid load file (length d.table) (length d.arena) (decode d)) (λ _. broken) v

  pub read_broken : (T (valid d) → ⊥) → read_gives d load file ≡ broken
  unfolding read_gives
  read_broken n = if_no (valid d) (λ _. read_laid load file (length d.table) (length d.arena) (decode d)) (λ _. broken) n

-- a load of whole triples, and one of others: refusal 2
module _ (tl al : ℕ) (ts : List Term) (load file : List ℕ) where
  pub read_whole : length load % load_width ≡ 0
      → abstract_read tl al ts load file ≡ shown ts load (read_file tl al (length load / load_width) ts file)
  unfolding abstract_read
  read_whole h = simp (eq-eqb (length load % load_width) 0 h)

  pub read_ragged : length load % load_width ≢ 0 → abstract_read tl al ts load file ≡ record { answer = read_answer 2 0 load; held = ts }
  unfolding abstract_read
  read_ragged h = simp (ne_eqb (length load % load_width) 0 h)

-- THE CALL keeps a claim of the terms held that putting terms keeps
pub read_keeps : (P : List Term → Type 0) (tl al : ℕ) → ((ts r us : List Term) → P ts → put_all tl al ts r ≡ all_put us → P us)
    → (ts : List Term) (load file : List ℕ) → P ts → P (abstract_read tl al ts load file).held
unfolding abstract_read
read_keeps P tl al keeps ts load file h = go (eqb (length load % load_width) 0)
  where
    cap : ℕ
    cap = length load / load_width

    outcome : (o : Outcome) → After (λ us ys. P us) o → P (shown ts load o).held
    outcome (refused n) k = h
    outcome (read us xs) k = k

    go : (b : Bool) → P (if b (λ _. shown ts load (read_file tl al cap ts file))
        (λ _. record { answer = read_answer 2 0 load; held = ts })).held
    go true =
        outcome (read_file tl al cap ts file)
        (file_keeps (λ us ys. P us) tl al cap (λ ws xs t us k e f. keeps ws (in_order t) us k e) ts file h)
    go false = h

-- and never answers 1: the contents are a dictionary's
pub read_not_1 : (tl al : ℕ) (ts : List Term) (load file : List ℕ) → (abstract_read tl al ts load file).answer.number ≢ 1
unfolding abstract_read
read_not_1 tl al ts load file = go (eqb (length load % load_width) 0)
  where
    cap : ℕ
    cap = length load / load_width

    outcome : (o : Outcome) → After (λ us ys. Unit {0}) o → (shown ts load o).answer.number ≢ 1
    outcome (refused n) k e = omega arith
    outcome (read us xs) k e = omega arith

    go : (b : Bool) → (if b (λ _. shown ts load (read_file tl al cap ts file))
        (λ _. record { answer = read_answer 2 0 load; held = ts })).answer.number ≢ 1
    go true = outcome (read_file tl al cap ts file) (file_keeps (λ us ys. Unit {0}) tl al cap (λ ws xs t us k e f. tt) ts file tt)
    go false = omega arith

-- HOW MANY TRIPLES: at most 16,384, and at most those that the load has room for
abbrev Few : ℕ → List Term → List Triple → Type 0
Few cap us xs = (length xs ≤ load_limit) × (length xs ≤ cap)

pub read_few : (tl al cap : ℕ) (ts : List Term) (bs : List ℕ) (us : List Term) (xs : List Triple)
    → read_file tl al cap ts bs ≡ read us xs → Few cap us xs
read_few tl al cap ts bs us xs e = subst (After (Few cap)) e (file_keeps (Few cap) tl al cap one ts bs (omega arith, omega arith))
  where
    one : (ws : List Term) (ys : List Triple) (t : Terms) (vs : List Term) → Few cap ws ys → put_all tl al ws (in_order t) ≡ all_put vs
        → T (fits cap ys) → Few cap vs (ys ++ (ids vs t ∷ []))
    one ws ys t vs f e g =
        let (a, b) = and→ (ltb (length ys) load_limit) (ltb (length ys) cap) g in
        let p = ltb→lt (length ys) load_limit a in
        let q = ltb→lt (length ys) cap b in
        let n = length-append ys (ids vs t ∷ []) in
        (omega arith, omega arith)

-- LOADS OF AT LEAST 16,384 TRIPLES are read into alike
fits_long : (cap : ℕ) (xs : List Triple) → load_limit ≤ cap → fits cap xs ≡ ltb (length xs) load_limit
fits_long cap xs h = go (ltb (length xs) load_limit) refl
  where
    go : (b : Bool) → ltb (length xs) load_limit ≡ b → b && ltb (length xs) cap ≡ b
    go true e = lt-ltb (length xs) cap (omega (arith, ltb-true (length xs) load_limit e))
    go false e = refl

module _ (tl al cap cap' : ℕ) (h : load_limit ≤ cap) (h' : load_limit ≤ cap') where
  line_long : (ts : List Term) (xs : List Triple) (l : List ℕ) → read_line tl al cap ts xs l ≡ read_line tl al cap' ts xs l
  unfolding read_line
  line_long ts xs l = ap (λ (o : Line → Outcome). if (ltb line_limit (length l)) (λ _. refused 14) (λ _. o (line l))) (λ i s. said s i)
    where
      put : (t : Terms) (w : AllPut) → on_put cap xs t w ≡ on_put cap' xs t w
      put t full = refl
      put t (all_put us) =
          ap (λ (b : Bool). if b (λ _. read us (xs ++ (ids us t ∷ []))) (λ _. refused 3)) (fits_long cap xs h ∙ sym (fits_long cap' xs h'))

      said : (s : Line) → on_said tl al cap ts xs s ≡ on_said tl al cap' ts xs s
      said nothing = refl
      said (says t) = ap (λ (o : Outcome). if (all_short t) (λ _. o) (λ _. refused 11)) (put t (put_all tl al ts (in_order t)))
      said bad = refl

  lines_long : (ts : List Term) (xs : List Triple) (ls : List (List ℕ)) → read_lines tl al cap ts xs ls ≡ read_lines tl al cap' ts xs ls
  unfolding read_lines
  lines_long ts xs [] = refl
  lines_long ts xs (l ∷ ls) =
      ap (λ (o : Outcome). on_read o (λ us ys. read_lines tl al cap us ys ls)) (line_long ts xs l)
      ∙ go (read_line tl al cap' ts xs l) (λ us ys. lines_long us ys ls)
    where
      go : (o : Outcome) → ((us : List Term) (ys : List Triple) → read_lines tl al cap us ys ls ≡ read_lines tl al cap' us ys ls)
          → on_read o (λ us ys. read_lines tl al cap us ys ls) ≡ on_read o (λ us ys. read_lines tl al cap' us ys ls)
      go (refused n) f = refl
      go (read us ys) f = f us ys

  pub file_long : (ts : List Term) (bs : List ℕ) → read_file tl al cap ts bs ≡ read_file tl al cap' ts bs
  unfolding read_file
  file_long ts bs = lines_long ts [] (lines bs)
