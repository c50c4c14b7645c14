-- On the way to a started dictionary: what the first term needs, and each further one. Assumes nothing.
use mathlib.Core.Path.{◌≡◌, refl, sym, ◌∙◌, ap}
use mathlib.Core.Bool.{Bool, true, ◌&&◌}
use mathlib.Core.List.{List, [], ◌∷◌, ◌++◌}
use Prim.Native.Nat.{ℕ, zero, suc, ◌+◌, ◌-◌, ◌≤◌}
use native.Mathlib.Omega.{arith}
use native.Mathlib.Numerals.{add-one}
use lib.Dec.{T, leb, leb→le}
use lib.ListN.{length, take, drop, replicate, length-replicate, replicate-append-replicate}
use lib.Seq.{sets, paste, take_at, take-length, take-suc, length-take-le, length-paste, take-paste}
use Rattle.common.specs.Text.{text}
use Rattle.common.specs.Sizes.{heads_width}
use Rattle.common.proofs.Lists.{and→}
use Rattle.dictionary_layout.specs.Terms.{Term, term, no_term, start_terms, start_count, start_bytes}
use Rattle.dictionary_layout.specs.Layout.{Dict, dict, chain, size, heads, entries, span, layout, decode, start_table, entry_at}
use Rattle.dictionary_layout.specs.Dictionary.{term_of, start_refusal}
use Rattle.dictionary_layout.specs.Calls.{start_result, start_gives}
use Rattle.dictionary_entries.specs.Entries.{Appendable, with_term}
use Rattle.dictionary_entries.specs.Starting.{iri_limit, Upto, Next, Blank}
use Rattle.dictionary_layout.proofs.Rows.{zero_row}
use Rattle.dictionary_layout.proofs.Vocabulary.{start_sizes}
use Rattle.dictionary_layout.proofs.Decoding.{decode_layout}
use Rattle.dictionary_layout.proofs.Holding.{sized→, start_fits→}
use Rattle.dictionary_layout.proofs.Reachable.{refusal_none, start_accepts}
use Rattle.dictionary_entries.proofs.Appending.{four, four_set, drop_zeros}
use Rattle.dictionary_entries.proofs.Reading.{size_upto}

-- no term of the start has more bytes than the buffer of its IRI
abbrev all_below : List Term → Bool
all_below [] = true
all_below (t ∷ ts) = leb (length t.bytes) iri_limit && all_below ts

all_short : T (all_below start_terms)
unfolding start_terms
all_short = tt

short_at : (ts : List Term) → T (all_below ts) → (i : ℕ) → length (term_of ts i).bytes ≤ iri_limit
short_at [] h i = omega arith
short_at (t ∷ ts) h zero = leb→le (length t.bytes) iri_limit (and→ (leb (length t.bytes) iri_limit) (all_below ts) h).0
short_at (t ∷ ts) h (suc i) = short_at ts (and→ (leb (length t.bytes) iri_limit) (all_below ts) h).1 i

-- THE TERMS THAT ARE THERE
module _ {d : Dict} {n : ℕ} (u : Upto d n) (h : n ≤ start_count) where
  upto_length : length (take n start_terms) ≡ n
  upto_length = length-take-le n start_terms (omega (arith, start_sizes.0))

  pub upto_decode : decode d ≡ take n start_terms
  upto_decode = ap decode u.laid ∙ decode_layout (length d.table) (length d.arena) (take n start_terms)

  pub upto_terms : d.terms ≡ n
  unfolding layout
  upto_terms = ap (λ (x : Dict). x.terms) u.laid ∙ upto_length

  pub upto_used : d.used ≡ size (take n start_terms)
  unfolding layout
  upto_used = ap (λ (x : Dict). x.used) u.laid

-- ONE MORE
module _ {d : Dict} {id : ℕ} {iri : List ℕ} (x : Next d id iri) where
  next_size : size (take id start_terms) + length iri ≤ start_bytes
  next_size =
      omega (
        arith,
        size_upto start_terms id (omega (arith, start_sizes.0, x.below)),
        start_sizes.1,
        ap
            (λ (t : Term). length t.bytes) x.is,
      )

  next_terms : take (id + 1) start_terms ≡ decode d ++ (term 1 iri ∷ [])
  next_terms =
      ap (λ (k : ℕ). take k start_terms) (add-one id)
      ∙ (take-suc start_terms id no_term (omega (arith, start_sizes.0, x.below))
      ∙ (λ i. sym (upto_decode x.before (omega (arith, x.below))) i ++ (x.is i ∷ [])))

  pub next_appendable : {c : ℕ} → c ≡ chain (term 1 iri) → Appendable d (term 1 iri) c
  next_appendable e =
      let r = x.before.room in
      let n = upto_terms x.before (omega (arith, x.below)) in
      record {
        laid = ap (layout (length d.table) (length d.arena)) (upto_decode x.before (omega (arith, x.below)))
            ∙ sym x.before.laid;
        some = omega (arith, n, x.later);
        entry = omega (arith, n, x.below, r.entries);
        table = r.table_short;
        bytes = omega (arith, upto_used x.before (omega (arith, x.below)), next_size, r.bytes);
        arena = r.arena_short;
        chained = e;
      }

  -- an IRI of the start fits into its buffer
  pub next_short : length iri ≤ iri_limit
  next_short = omega (arith, short_at start_terms all_short id, ap (λ (t : Term). length t.bytes) x.is)

  pub next_done : {d' : Dict} → length d'.table ≡ length d.table → length d'.arena ≡ length d.arena
      → d' ≡ with_term d (term 1 iri) → Upto d' (id + 1)
  next_done {d'} a b e =
      let r = x.before.room in
      record {
        room = record {
          entries = omega (arith, r.entries);
          table_short = omega (arith, r.table_short);
          bytes = omega
              (arith, r.bytes);
          arena_short = omega (arith, r.arena_short);
        };
        laid = e ∙ (λ i. layout (sym a i) (sym b i) (sym next_terms i));
      }

-- A NAMESPACE AND A LOCAL NAME, one behind the other in a buffer
pub joined : (z p q : List ℕ) → length p + length q ≤ length z
    → take (length p + length q) (paste (paste z 0 p (length p)) (length p) q (length q)) ≡ p ++ q
joined z p q h =
    let first : take (length p) (paste z 0 p (length p))
    ≡ p = take_at (take (length p) p) (drop (0 + length p) z) (length p) (ap (λ (x : List ℕ). length x) (take-length p))
    ∙ take-length p in
    let n = length-paste z 0 p (length p) (omega arith) (omega arith) in
    take-paste (paste z 0 p (length p)) (length p) q (length q) (omega (arith, n)) (omega arith) ∙ (λ i. first i ++ take-length q i)

-- THE FIRST TERM, id 0
first_table : (tl : ℕ) → start_table ≤ tl → sets (zero_row tl) heads_width (four 0 5 1 0)
    ≡ zero_row heads_width ++ (0 ∷ 5 ∷ 1 ∷ 0 ∷ zero_row (tl - entry_at 1))
first_table tl h =
    let q : tl ≡ heads_width + (4 + (tl - entry_at 1)) = omega arith in
    ap (λ (l : List ℕ). sets l heads_width (four 0 5 1 0))
    (ap zero_row q ∙ sym (replicate-append-replicate heads_width (4 + (tl - entry_at 1)) 0 ∙ refl)
    ∙ ap (λ (l : List ℕ). zero_row heads_width ++ l) (sym (replicate-append-replicate 4 (tl - entry_at 1) 0)))
    ∙ four_set (zero_row heads_width) (zero_row (tl - entry_at 1)) heads_width 0 5 1 0 refl

pub blank_done : {table arena table' arena' : List ℕ} → Blank table arena → length table' ≡ length table
    → length arena' ≡ length arena → table' ≡ sets table (entry_at 0) (four 0 5 1 0) → arena' ≡ paste arena 0 (text "urn:_") 5
    → Upto (dict table' arena' 1 5) 1
unfolding layout start_terms span entries heads
blank_done {table} {arena} {table'} {arena'} b tl al e f =
    let r = b.room in
    let e₁ : table' ≡ zero_row heads_width ++ (0 ∷ 5 ∷ 1 ∷ 0 ∷ zero_row (length table' - entry_at 1)) = e
    ∙ (ap (λ (l : List ℕ). sets l heads_width (four 0 5 1 0)) b.table_zero
    ∙ (first_table (length table) r.entries ∙ ap
    (λ (n : ℕ). zero_row heads_width ++ (0 ∷ 5 ∷ 1 ∷ 0 ∷ zero_row (n - entry_at 1))) (sym tl))) in
    let e₂ : arena' ≡ text "urn:_" ++ zero_row (length arena' - 5) = f
    ∙ (ap (λ (l : List ℕ). text "urn:_" ++ drop 5 l) b.arena_zero
    ∙ (ap (λ (l : List ℕ). text "urn:_" ++ l) (drop_zeros 5 (length arena))
    ∙ ap (λ (n : ℕ). text "urn:_" ++ zero_row (n - 5)) (sym al))) in
    record {
      room = record {
        entries = omega (arith, r.entries);
        table_short = omega (arith, r.table_short);
        bytes = omega
            (arith, r.bytes);
        arena_short = omega (arith, r.arena_short);
      };
      laid = λ i. dict (e₁ i) (e₂ i) 1 5;
    }

pub joined_by : (z p q : List ℕ) {z' z'' : List ℕ} → length p + length q ≤ length z → z' ≡ paste z 0 p (length p)
    → z'' ≡ paste z' (length p) q (length q) → take (length p + length q) z'' ≡ p ++ q
joined_by z p q h e f = ap (take (length p + length q)) (f ∙ ap (λ (x : List ℕ). paste x (length p) q (length q)) e) ∙ joined z p q h

-- ALL OF THEM
pub all_entered : {d : Dict} {tl al : ℕ} → Upto d start_count → length d.table ≡ tl → length d.arena ≡ al
    → d ≡ layout tl al start_terms
unfolding start_terms
all_entered u a b = u.laid ∙ (λ i. layout (a i) (b i) start_terms)

-- cleared buffers that a start accepts
pub blank_cleared : (tl al : ℕ) {table arena : List ℕ} → start_refusal tl al ≡ 0 → table ≡ replicate tl 0
    → arena ≡ replicate al 0 → Blank table arena
blank_cleared tl al {table} {arena} e f g =
    let (s, r) = refusal_none tl al e in
    let w = sized→ tl al s in
    let (m, n) = start_fits→ tl al r in
    let p : length table ≡ tl = ap (λ (l : List ℕ). length l) f ∙ length-replicate tl 0 in
    let q : length arena ≡ al = ap (λ (l : List ℕ). length l) g ∙ length-replicate al 0 in
    record {
      room = record {
        entries = omega arith;
        table_short = omega (arith, w.high);
        bytes = omega arith;
        arena_short = omega
            (arith, w.arena);
      };
      table_zero = f ∙ ap zero_row (sym p);
      arena_zero = g ∙ ap zero_row (sym q);
    }

pub start_done : (table arena : List ℕ) {tl al : ℕ} {d : Dict} → start_refusal (length table) (length arena) ≡ 0
    → tl ≡ length table → al ≡ length arena → d ≡ layout tl al start_terms → start_result 0 d ≡ start_gives table arena
start_done table arena e f g h = ap (start_result 0) (h ∙ (λ i. layout (f i) (g i) start_terms)) ∙ sym (start_accepts table arena e)
