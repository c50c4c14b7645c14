-- How a dictionary begins: with the entries and the bytes of the start's terms, as a fresh dictionary has them. Assumes nothing.
use mathlib.Core.Path.{◌≡◌, refl, sym, ◌∙◌, ap, subst}
use mathlib.Core.Bool.{Bool, true, false}
use mathlib.Core.List.{List, [], ◌∷◌, ◌++◌, append_assoc}
use Prim.Native.Nat.{ℕ, suc, ◌+◌, ◌*◌, ◌-◌, ◌≤◌, ◌<◌}
use native.Mathlib.Omega.{arith}
use lib.Dec.{T}
use lib.ListN.{length, take, drop, take-append-drop}
use lib.Seq.{drop_at, take-append-add}
use Rattle.common.specs.Sizes.{entry_width, heads_width}
use Rattle.dictionary_layout.specs.Terms.{Term, start_terms, start_count, start_bytes}
use Rattle.dictionary_layout.specs.Layout.{Dict, dict, chain, all_bytes, size, front, heads, entries, all_heads, all_entries, span}
use Rattle.dictionary_layout.specs.Layout.{layout, read, decode, start_table, entry_at}
use Rattle.dictionary_layout.specs.Dictionary.{same_row, holdable, valid}
use Rattle.dictionary_valid.specs.Scanning.{named, Scanned, FreshStart, Begins}
use Rattle.dictionary_layout.proofs.Choice.{true_false, true→T, false→not_T}
use Rattle.dictionary_layout.proofs.Equality.{same_row→, same_rows}
use Rattle.dictionary_layout.proofs.Rows.{zero_row}
use Rattle.dictionary_layout.proofs.Decoding.{length_span, read_all}
use Rattle.dictionary_layout.proofs.Holding.{holds←, holds_start, valid→, start_fits→}
use Rattle.dictionary_layout.proofs.Reachable.{refusal_none}

-- terms that begin others have the first entries and the first bytes
entries_begin : (H : ℕ → ℕ) (i at : ℕ) (ps us : List Term) (z : List ℕ)
    → take (4 * length ps) (entries H i at (ps ++ us) ++ z) ≡ entries H i at ps
unfolding entries
entries_begin H i at [] us z = refl
entries_begin H i at (p ∷ ps) us z =
    let q : 4 * suc (length ps) ≡ suc (suc (suc (suc (4 * length ps)))) = omega arith in
    let r = entries (front H (chain p) i) (suc i) (at + length p.bytes) (ps ++ us) ++ z in
    ap (λ (n : ℕ). take n (at ∷ length p.bytes ∷ p.kind ∷ H (chain p) ∷ r)) q
    ∙ ap (λ (l : List ℕ). at ∷ length p.bytes ∷ p.kind ∷ H (chain p) ∷ l)
    (entries_begin (front H (chain p) i) (suc i) (at + length p.bytes) ps us z)

all_entries_begin : (ps us : List Term) (z : List ℕ) → 0 < length ps → take (4 * length ps) (all_entries (ps ++ us) ++ z) ≡ all_entries ps
all_entries_begin [] us z h = absurd (omega arith)
all_entries_begin (p ∷ ps) us z h =
    let q : 4 * suc (length ps) ≡ suc (suc (suc (suc (4 * length ps)))) = omega arith in
    let r = entries (λ c. 0) 1 (length p.bytes) (ps ++ us) ++ z in
    ap (λ (n : ℕ). take n (0 ∷ length p.bytes ∷ p.kind ∷ 0 ∷ r)) q
    ∙ ap (λ (l : List ℕ). 0 ∷ length p.bytes ∷ p.kind ∷ 0 ∷ l) (entries_begin (λ c. 0) 1 (length p.bytes) ps us z)

all_bytes_begin : (ps us : List Term) (z : List ℕ) → take (size ps) (all_bytes (ps ++ us) ++ z) ≡ all_bytes ps
all_bytes_begin [] us z = refl
all_bytes_begin (p ∷ ps) us z =
    ap (take (length p.bytes + size ps)) (append_assoc p.bytes (all_bytes (ps ++ us)) z)
    ∙ (take-append-add p.bytes (all_bytes (ps ++ us) ++ z) (size ps) ∙ ap (λ (l : List ℕ). p.bytes ++ l) (all_bytes_begin ps us z))

-- the numbers of the start's entries
abbrev pub first_entries : List ℕ → List ℕ
first_entries table = take (entry_width * start_count) (drop heads_width table)

-- what every dictionary begins with
module _ (d : Dict) (v : T (valid d)) where
  pub valid_entries : first_entries d.table ≡ all_entries start_terms
  unfolding layout start_terms
  valid_entries =
      let (h, e) = valid→ d v in
      let ts = decode d in
      let z = zero_row (length d.table - entry_at (length ts)) in
      ap (λ (x : Dict). first_entries x.table) (sym e)
      ∙ (ap (take (entry_width * start_count))
      (drop_at (span heads_width 0 (all_heads ts)) (all_entries ts ++ z) heads_width (length_span heads_width 0 (all_heads ts)))
      ∙ (ap (λ (l : List Term). take (entry_width * start_count) (all_entries l ++ z)) h.whole
      ∙ all_entries_begin start_terms h.more z (omega arith)))

  pub valid_bytes : take start_bytes d.arena ≡ all_bytes start_terms
  unfolding layout start_terms
  valid_bytes =
      let (h, e) = valid→ d v in
      let ts = decode d in
      let z = zero_row (length d.arena - size ts) in
      ap (λ (x : Dict). take start_bytes x.arena) (sym e)
      ∙ (ap (λ (l : List Term). take start_bytes (all_bytes l ++ z)) h.whole ∙ all_bytes_begin start_terms h.more z)

-- a fresh dictionary begins so
module _ {table arena fresh iris : List ℕ} (f : FreshStart table arena fresh iris) where
  pub fresh_entries : first_entries fresh ≡ all_entries start_terms
  unfolding layout start_terms span heads entries
  fresh_entries = ap (λ (l : List ℕ). first_entries l) f.entries

  pub fresh_bytes : iris ≡ all_bytes start_terms
  unfolding layout start_terms
  fresh_bytes = f.bytes

  fresh_chains : take heads_width fresh ≡ span heads_width 0 (all_heads start_terms)
  unfolding layout start_terms span heads entries
  fresh_chains = ap (take heads_width) f.entries

  -- entries and bytes that begin so name the start's terms
  module _ (e : first_entries table ≡ all_entries start_terms) (b : take start_bytes arena ≡ all_bytes start_terms) where
    names_start : named table arena start_count ≡ start_terms
    unfolding start_terms
    names_start =
        let rest = drop (entry_width * start_count) (drop heads_width table) in
        let more = drop start_bytes arena in
        let es = sym (take-append-drop (entry_width * start_count) (drop heads_width table)) ∙ ap (λ (l : List ℕ). l ++ rest) e in
        let bs = sym (take-append-drop start_bytes arena) ∙ ap (λ (l : List ℕ). l ++ more) b in
        (λ i. read start_count (es i) (bs i)) ∙ read_all start_terms rest more

    pub scanned_start : Scanned table arena fresh start_count start_bytes
    unfolding start_terms
    scanned_start =
        let (s, r) = refusal_none (length table) (length arena) f.accepted in
        record {
          holds = subst (λ (l : List Term). T (holdable (length table) (length arena) l)) (sym names_start)
              (holds← (length table) (length arena) start_terms (holds_start (length table) (length arena) s r));
          entries = e ∙ ap all_entries (sym names_start);
          bytes = b ∙ ap all_bytes (sym names_start);
          used = ap size (sym names_start);
          chains = fresh_chains ∙ ap (λ (l : List Term). span heads_width 0 (all_heads l)) (sym names_start);
        }

  -- the tests of the beginning
  pub begins_other_entries : {r : Bool} → r ≡ same_row (first_entries table) (first_entries fresh) → r ≡ false
      → Begins table arena fresh r
  begins_other_entries e f = record {
    yes = λ p. true_false (sym p ∙ f);
    no = λ _ n used v. false→not_T (same_row (first_entries table) (first_entries fresh)) (sym f ∙ e)
        (same_rows (valid_entries (dict table arena n used) v ∙ sym fresh_entries));
  }

  pub begins_by_bytes : {r : Bool} → true ≡ same_row (first_entries table) (first_entries fresh)
      → r ≡ same_row (take start_bytes arena) iris → Begins table arena fresh r
  begins_by_bytes {r} e g = record {
    yes = λ p. scanned_start (same_row→ (first_entries table) (first_entries fresh)
        (true→T (same_row (first_entries table) (first_entries fresh)) e)
        ∙ fresh_entries) (same_row→ (take start_bytes arena) iris (true→T (same_row (take start_bytes arena) iris) (sym p ∙ g))
        ∙ fresh_bytes);
    no = λ p n used v. false→not_T (same_row (take start_bytes arena) iris) (sym p ∙ g)
        (same_rows (valid_bytes (dict table arena n used) v ∙ sym fresh_bytes));
  }

-- room for the beginning
pub fresh_room : {table arena fresh iris : List ℕ} → FreshStart table arena fresh iris
    → (start_table ≤ length table) × (start_bytes ≤ length arena) × (length fresh ≡ start_table) × (length iris ≡ start_bytes)
unfolding layout start_terms span heads entries
fresh_room {table} {arena} f =
    let (s, r) = refusal_none (length table) (length arena) f.accepted in
    let (a, b) = start_fits→ (length table) (length arena) r in
    (a, b, ap (λ (l : List ℕ). length l) f.entries, ap (λ (l : List ℕ). length l) f.bytes)
