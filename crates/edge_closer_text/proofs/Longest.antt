-- A good input: how long it is, how large its count, how many ids it has. Assumes nothing.
use mathlib.Core.Path.{◌≡◌, refl, sym, ap, subst, ◌∙◌}
use mathlib.Core.Logic.{◌⊎◌, inl, inr}
use mathlib.Core.Bool.{Bool, true, false}
use mathlib.Core.Option.{Option, some, none}
use mathlib.Core.List.{List, [], ◌∷◌, ◌++◌}
use Prim.Native.Nat.{ℕ, zero, suc, ◌+◌, ◌*◌, ◌≤◌}
use native.Mathlib.Omega.{arith}
use lib.Dec.{T, leb, leb→le}
use lib.ListN.{length, length-append, length-drop}
use Rattle.common.specs.Triples.{if}
use Rattle.common.specs.Sizes.{load_width}
use Rattle.edge_decimal.proofs.Digits.{either}
use Rattle.edge_decimal.proofs.Numerals.{numeral}
use Rattle.edge_closer_text.specs.Sizes.{count_limit, line_limit, last_line, line_over_limit, three_width, longest_input}
use Rattle.edge_closer_text.specs.Input.{on, fields, id, three_ids, before, parts, lines, id_line, count_line, id_lines, reading}
use Rattle.edge_closer_text.specs.Input.{read_lines, read, bad_line, input, parse}
use Rattle.edge_closer_text.proofs.Parts.{after_line, lines_next}
use Rattle.edge_closer_text.proofs.Lengths.{none_some, short_count, short_ids, ids_over, ids_stop, ids_next}

-- A GOOD INPUT: what was read of it
record Good (text : List ℕ) (n : ℕ) : Type 0 where
  whole : (read text).bad ≡ none
  count_is : (read text).count ≡ n

-- a good input has no bad line
good : (text : List ℕ) (n : ℕ) (is : List ℕ) → parse text ≡ input n is → Good text n
unfolding parse
good text n is e = go (read text).bad refl
  where
    go : (x : Option ℕ) → (read text).bad ≡ x → Good text n
    go none f = let g : input (read text).count (read text).ids ≡ input n is = rw f at e in record { whole = f; count_is = cc }
    go (some k) f = let g : bad_line k ≡ input n is = rw f at e in let z : ◌≡◌ {A = ℕ} 0 1 = cc in absurd (omega arith)

-- id lines keep the count
ids_count : (c k : ℕ) (is : List ℕ) (ls : List (List ℕ)) → (id_lines c k is ls).count ≡ c
unfolding id_lines
ids_count c k is [] = refl
ids_count c k is (l ∷ ls) = go (either (leb k last_line)) (id_line l) refl (λ t. ids_count c (suc k) (is ++ t) ls)
  where
    go : (leb k last_line ≡ true) ⊎ (leb k last_line ≡ false) → (x : Option (List ℕ)) → id_line l ≡ x
        → ((t : List ℕ) → (id_lines c (suc k) (is ++ t) ls).count ≡ c) → (id_lines c k is (l ∷ ls)).count ≡ c
    go (inr t) x e ih = rw t refl
    go (inl t) none e ih = rw (t, e) refl
    go (inl t) (some u) e ih = rw (t, e) (ih u)

-- one line of them, where what is left of the text is short enough
line_length : (r c k : ℕ) (is bs : List ℕ) → k + suc r ≡ line_over_limit → (id_lines c k is (lines bs)).bad ≡ none
    → ((t rest : List ℕ) → (id_lines c (suc k) (is ++ t) (lines rest)).bad ≡ none → length rest ≤ three_width * r)
    → length bs ≤ three_width * suc r
line_length r c k is [] h e ih = omega arith
line_length r c k is (b ∷ bs) h e ih = go (id_line (before 10 (b ∷ bs))) refl
  where
    split : (id_lines c k is (before 10 (b ∷ bs) ∷ lines (after_line (b ∷ bs)))).bad ≡ none
    split = rw (lines_next (b ∷ bs) (omega arith)) at e

    go : (x : Option (List ℕ)) → id_line (before 10 (b ∷ bs)) ≡ x → length (b ∷ bs) ≤ three_width * suc r
    go none f = none_some (sym split ∙ ap (λ x. x.bad) (ids_stop c k is (before 10 (b ∷ bs)) (lines (after_line (b ∷ bs))) f))
    go (some t) f =
        let s = short_ids (before 10 (b ∷ bs)) t f in
        let n = ids_next c k is (before 10 (b ∷ bs)) t (lines (after_line (b ∷ bs))) (omega arith) f in
        let i = ih t (after_line (b ∷ bs)) (sym (ap (λ x. x.bad) n) ∙ split) in
        let l = length-drop (suc (length (before 10 (b ∷ bs)))) (b ∷ bs) in
        omega arith

-- all of them
ids_bytes : (r c k : ℕ) (is bs : List ℕ) → k + r ≡ line_over_limit → (id_lines c k is (lines bs)).bad ≡ none → length bs ≤ three_width * r
ids_bytes zero c k is [] h e = omega arith
ids_bytes zero c k is (b ∷ bs) h e =
    none_some (sym (rw (lines_next (b ∷ bs) (omega arith)) at e)
    ∙ ap (λ x. x.bad) (ids_over c k is (before 10 (b ∷ bs)) (lines (after_line (b ∷ bs))) (omega arith)))
ids_bytes (suc r) c k is bs h e = line_length r c k is bs h e (λ t rest f. ids_bytes r c (suc k) (is ++ t) rest (omega arith) f)

-- the count's line and the lines after it
record Counts (text : List ℕ) : Type 0 where
  n : ℕ
  first : count_line (before 10 text) ≡ some n
  after : read text ≡ id_lines n 2 [] (lines (after_line text))

-- a good input has a count
counts : (text : List ℕ) → (read text).bad ≡ none → Counts text
unfolding read parts
counts [] e = none_some (sym e)
counts (b ∷ bs) e = go (count_line (before 10 (b ∷ bs))) refl
  where
    split : read_lines (lines (b ∷ bs)) ≡ read_lines (before 10 (b ∷ bs) ∷ lines (after_line (b ∷ bs)))
    split = ap read_lines (lines_next (b ∷ bs) (omega arith))

    go : (x : Option ℕ) → count_line (before 10 (b ∷ bs)) ≡ x → Counts (b ∷ bs)
    go none f = none_some {a = 1} (sym e ∙ ap (λ x. x.bad) split ∙ rw f refl)
    go (some c) f = record { n = c; first = f; after = split ∙ rw f refl }

-- how many bytes a good input has at most
pub longest : (text : List ℕ) (n : ℕ) (is : List ℕ) → parse text ≡ input n is → length text ≤ longest_input
longest text n is e =
    let g = good text n is e in
    let c = counts text g.whole in
    let s = short_count (before 10 text) c.n c.first in
    let l = ids_bytes line_limit c.n 2 [] (after_line text) refl (sym (ap (λ x. x.bad) c.after) ∙ g.whole) in
    let d = length-drop (suc (length (before 10 text))) text in
    omega arith

-- and how large its count is
pub count_small : (text : List ℕ) (n : ℕ) (is : List ℕ) → parse text ≡ input n is → n ≤ count_limit
count_small text n is e =
    let g = good text n is e in
    let c = counts text g.whole in
    let m = (numeral count_limit (before 10 text) c.n c.first).most_is in
    let k = sym (ids_count c.n 2 [] (lines (after_line text))) ∙ ap (λ x. x.count) (sym c.after) ∙ g.count_is in
    omega arith

-- THE IDS that are read: three a line
abbrev pub Threes : List ℕ → Type 0
Threes l = (m : ℕ) × (length l ≡ load_width * m) × (m ≤ line_limit)

-- an id line has three ids
three : (l t : List ℕ) → id_line l ≡ some t → length t ≡ load_width
unfolding id_line
three l t e = go (fields l) e
  where
    ids : (x y z : Option ℕ) → on x (λ s. on y (λ p. on z (λ o. some (s ∷ p ∷ o ∷ [])) (λ _. none)) (λ _. none)) (λ _. none)
        ≡ some t → length t ≡ load_width
    ids none y z e = none_some e
    ids (some s) none z e = none_some e
    ids (some s) (some p) none e = none_some e
    ids (some s) (some p) (some o) e = let q : t ≡ s ∷ p ∷ o ∷ [] = cc in ap length q

    go : (fs : List (List ℕ)) → three_ids fs ≡ some t → length t ≡ load_width
    go [] e = none_some e
    go (a ∷ []) e = none_some e
    go (a ∷ b ∷ []) e = none_some e
    go (a ∷ b ∷ c ∷ []) e = ids (id a) (id b) (id c) e
    go (a ∷ b ∷ c ∷ d ∷ fs) e = none_some e

-- those of the lines that are left
ids_threes : (c k : ℕ) (is : List ℕ) (ls : List (List ℕ)) (m : ℕ) → length is ≡ load_width * m → k ≡ m + 2 → m ≤ line_limit
    → Threes (id_lines c k is ls).ids
unfolding id_lines
ids_threes c k is [] m e f h = (m, e, h)
ids_threes c k is (l ∷ ls) m e f h =
    go (leb k last_line) (id_line l) (leb→le k last_line) (three l)
    (λ t q b. ids_threes c (suc k) (is ++ t) ls (suc m) (omega (arith, length-append is t)) (omega arith) (omega arith))
  where
    go : (a : Bool) (x : Option (List ℕ)) → (T a → k ≤ last_line) → ((t : List ℕ) → x ≡ some t → length t ≡ load_width)
        → ((t : List ℕ) → length t ≡ load_width → k ≤ last_line → Threes (id_lines c (suc k) (is ++ t) ls).ids)
        → Threes (if a (λ _. on x (λ t. id_lines c (suc k) (is ++ t) ls) (λ _. reading c is (some k))) (λ _. reading c is (some k))).ids
    go true (some t) i j ih = ih t (j t refl) (i tt)
    go true none i j ih = (m, e, h)
    go false x i j ih = (m, e, h)

-- those of the whole text
read_threes : (text : List ℕ) → Threes (read text).ids
unfolding read
read_threes text = go (lines text)
  where
    counted : (x : Option ℕ) (ls : List (List ℕ)) → Threes (on x (λ n. id_lines n 2 [] ls) (λ _. reading 0 [] (some 1))).ids
    counted (some n) ls = ids_threes n 2 [] ls 0 refl refl (omega arith)
    counted none ls = (0, refl, omega arith)

    go : (ls : List (List ℕ)) → Threes (read_lines ls).ids
    go [] = (0, refl, omega arith)
    go (l ∷ ls) = counted (count_line l) ls

-- those of a good input
pub input_threes : (text : List ℕ) (n : ℕ) (ids : List ℕ) → parse text ≡ input n ids → Threes ids
unfolding parse
input_threes text n ids e = go (read text).bad e
  where
    go : (x : Option ℕ) → on x (λ k. bad_line k) (λ _. input (read text).count (read text).ids) ≡ input n ids → Threes ids
    go none f = let q : (read text).ids ≡ ids = cc in subst Threes q (read_threes text)
    go (some k) f = let z : ◌≡◌ {A = ℕ} 0 1 = cc in absurd (omega arith)
