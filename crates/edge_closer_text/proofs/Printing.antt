-- What the program prints: there is room for it, and it is that of the triples and findings. Assumes nothing.
use mathlib.Core.Path.{◌≡◌, refl, ap}
use mathlib.Core.List.{List, [], ◌∷◌, ◌++◌}
use Prim.Native.Nat.{ℕ, zero, suc, ◌+◌, ◌-◌, ◌*◌, ◌^◌, ◌≤◌, ◌<◌}
use native.Mathlib.Nat.{mul-suc, mul-le-mul_right}
use native.Mathlib.Omega.{arith}
use lib.ListN.{replicate, length, take, drop, length-append, length-take}
use Rattle.common.specs.Triples.{Row, Finding, concat_map, erase}
use Rattle.common.specs.Rows.{flat_rows, flat_findings, filled}
use Rattle.common.specs.Sizes.{store_width, finding_width}
use Rattle.common.proofs.RowLists.{length_erase}
use Rattle.edge_decimal.specs.Decimal.{digits}
use Rattle.edge_decimal.specs.Promises.{Wrote}
use Rattle.edge_decimal.proofs.Writing.{short_digits, wrote_length, wrote_then}
use Rattle.edge_closer_text.specs.Sizes.{triple_width, number_width, three_width}
use Rattle.edge_closer_text.specs.Output.{line, table, printed, answer}
use Rattle.edge_closer_text.specs.Promises.{TableFits, AnswerFits}
use Rattle.edge_closer_text.proofs.Writing.{Words, words_drop, words_take, line_short}

-- THE OUTPUTS. A number after a word:
module _ {old : List ℕ} {at : ℕ} {word b : List ℕ} {m : ℕ} (n : ℕ) (h : n < 2 ^ 32) (w : Wrote old at word b m) where
  -- there is room for the number
  pub number_fits : at + length word + 10 ≤ length old → m + length (digits n) ≤ length b
  number_fits f = let s = short_digits n h in let e = w.end in let l = wrote_length w in omega arith

  -- and a byte after it
  pub byte_fits : {d : List ℕ} {e : ℕ} → at + length word + 11 ≤ length old → Wrote b m (digits n) d e → e < length d
  byte_fits f v =
      let s = short_digits n h in
      let i = w.end in
      let j = v.end in
      let k = wrote_length w in
      let l = wrote_length v in
      omega arith

-- a table of numbers is short
table_short : (w c k : ℕ) (ns : List ℕ) → Words ns → length (table w c k ns) ≤ number_width * (c * k)
unfolding table
table_short w c zero ns f = omega arith
table_short w c (suc k) ns f =
    let s = line_short (take c ns) (words_take c ns f) in
    let r = table_short w c k (drop w ns) (words_drop w ns f) in
    let l = length-take c ns in
    rw (mul-suc c k) (simp length-append (omega arith))

-- three numbers
three_words : (a b c : ℕ) → a < 2 ^ 32 → b < 2 ^ 32 → c < 2 ^ 32 → Words (a ∷ b ∷ c ∷ [])
three_words a b c f g h zero = f
three_words a b c f g h (suc zero) = g
three_words a b c f g h (suc (suc zero)) = h
three_words a b c f g h (suc (suc (suc k))) = omega arith

-- a line of them is short
pub three_short : (a b c : ℕ) → a < 2 ^ 32 → b < 2 ^ 32 → c < 2 ^ 32 → length (line (a ∷ b ∷ c ∷ [])) ≤ three_width
three_short a b c f g h = line_short (a ∷ b ∷ c ∷ []) (three_words a b c f g h)

module _ {store : List ℕ} {triples : ℕ} {findings : List ℕ} {records : ℕ} {old : List ℕ}
    (f : AnswerFits store triples findings records old)
    (h : triples < 2 ^ 32) (i : records < 2 ^ 32) {b : List ℕ} {m : ℕ} (w : Wrote old 0 (line (0 ∷ triples ∷ records ∷ [])) b m) where
  -- there is room for the triples after the counts,
  pub triples_fit : TableFits store store_width triple_width triples b m
  triples_fit = record {
    within = omega arith;
    held = f.stored;
    room =
        let s = three_short 0 triples records (omega arith) h i in
        let e = w.end in
        let l = wrote_length w in
        let r = f.room in
        omega arith;
  }

  -- for the findings after them, five numbers a line or fewer,
  pub findings_fit : {d : List ℕ} {n width : ℕ} → width ≤ finding_width → Words store
      → Wrote b m (table store_width triple_width triples store) d n → TableFits findings width width records d n
  findings_fit u q v =
      let a = mul-le-mul_right records u in
      record {
        within = omega arith;
        held = let o = f.found in omega arith;
        room =
            let s = three_short 0 triples records (omega arith) h i in
            let t = table_short store_width triple_width triples store q in
            let e = w.end in
            let g = v.end in
            let k = wrote_length w in
            let l = wrote_length v in
            let r = f.room in
            omega arith;
      }

  -- and the three pieces are the answer
  pub answer_whole : {d : List ℕ} {n : ℕ} {c : List ℕ} {last : ℕ} → Wrote b m (table store_width triple_width triples store) d n
      → Wrote d n (table finding_width finding_width records findings) c last → Wrote old 0 (answer store triples findings records) c last
  answer_whole u v = wrote_then w (wrote_then u v)

-- A STORE that holds rows, and findings, as a run leaves them: the output is that of the rows' triples and the findings
rows_table : (rs : List Row) (rest : List ℕ) → table store_width triple_width (length rs) (flat_rows rs ++ rest)
    ≡ concat_map (erase rs) (λ t. line (t.s ∷ t.p ∷ t.o ∷ []))
unfolding table
rows_table [] rest = refl
rows_table (r ∷ rs) rest = ap (λ x. line (r.it.s ∷ r.it.p ∷ r.it.o ∷ []) ++ x) (rows_table rs rest)

-- the lines of the findings
findings_table : (fs : List Finding) (rest : List ℕ)
    → table finding_width finding_width (length fs) (flat_findings fs ++ rest)
    ≡ concat_map fs (λ x. line (x.check ∷ x.a ∷ x.b ∷ x.c ∷ x.d ∷ []))
unfolding table
findings_table [] rest = refl
findings_table (x ∷ fs) rest = ap (λ l. line (x.check ∷ x.a ∷ x.b ∷ x.c ∷ x.d ∷ []) ++ l) (findings_table fs rest)

-- all of it
pub answer_printed : (store findings : List ℕ) (rs : List Row) (fs : List Finding)
    → answer (filled store (flat_rows rs)) (length rs) (filled findings (flat_findings fs)) (length fs) ≡ printed (erase rs) fs
answer_printed store findings rs fs =
    rw (
      rows_table rs (replicate (length store - length (flat_rows rs)) 0),
      findings_table fs
          (replicate (length findings - length (flat_findings fs)) 0),
      length_erase rs,
    ) refl
