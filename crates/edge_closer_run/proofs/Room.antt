-- Puts for which there is room, and the program's dictionary, which has room for its names. Assumes nothing.
use mathlib.Core.Path.{◌≡◌, refl, ap, ◌∙◌}
use mathlib.Core.Logic.{◌⊎◌, inl, inr}
use mathlib.Core.Bool.{Bool, true, false}
use mathlib.Core.Option.{Option, some, none}
use mathlib.Core.List.{List, [], ◌∷◌, ◌++◌}
use Prim.Native.Nat.{ℕ, zero, suc, ◌+◌, ◌*◌, ◌^◌, ◌≤◌, ◌<◌}
use native.Mathlib.Omega.{arith}
use lib.Dec.{T, leb, le→leb}
use lib.ListN.{length, length-append, length-replicate, replicate}
use Rattle.common.specs.Triples.{if}
use Rattle.common.proofs.Lists.{and←}
use Rattle.dictionary_layout.specs.Terms.{Term, term, start_terms, run_terms}
use Rattle.dictionary_layout.specs.Layout.{Dict, size, layout}
use Rattle.dictionary_layout.specs.Dictionary.{place_of, kind_known, short, roomy, put_answer, put_at, abstract_put, full, all_put}
use Rattle.dictionary_layout.specs.Dictionary.{if_zero, put_all, sized, start_fits, start_refusal}
use Rattle.dictionary_layout.specs.Calls.{StartResult, start_result, start_gives, PutResult, put_gives}
use Rattle.dictionary_layout.proofs.Decoding.{size_append}
use Rattle.dictionary_layout.proofs.Holding.{Added, put_cases, Holds, holds_start, holds_put}
use Rattle.dictionary_layout.proofs.Reachable.{start_accepts}
use Rattle.dictionary_run_terms.proofs.Running.{put_on}
use Rattle.edge_closer_text.specs.Output.{name}
use Rattle.edge_decimal.proofs.Writing.{short_digits}
use Rattle.common.specs.Sizes.{heads_width, entry_width, run_terms_count}
use Rattle.edge_closer_text.specs.Sizes.{count_limit, name_width}
use Rattle.edge_closer_run.specs.Sizes.{table_length, arena_length}
use Rattle.edge_closer_run.specs.Program.{named, dictionary}

-- a buffer of zeros has its length
pub zeros_length : (n : ℕ) → length {A = ℕ} (replicate n 0) ≡ n
zeros_length n = length-replicate {A = ℕ} n 0

-- at most one term longer
abbrev Grown : List Term → Term → List Term → Type 0
Grown ts t us = (length us ≤ length ts + 1) × (size us ≤ size ts + length t.bytes)

-- PUTS with room
module _ (tl al : ℕ) (ts : List Term) (t : Term) where
  -- what a put leaves is at most one term longer
  put_grown : Grown ts t (abstract_put tl al ts t).held
  put_grown = go (put_cases tl al ts t)
    where
      go : ((abstract_put tl al ts t).held ≡ ts) ⊎ Added tl al ts t (abstract_put tl al ts t) → Grown ts t (abstract_put tl al ts t).held
      go (inl e) = (omega (arith, ap (λ (l : List Term). length l) e), omega (arith, ap size e))
      go (inr a) = (
        omega (arith, ap (λ (l : List Term). length l) a.longer, length-append ts (t ∷ [])),
        omega (arith, ap size a.longer, size_append ts (t ∷ [])),
      )

  -- a put for which there is room is accepted
  put_accepted : T (kind_known t) → T (short t) → heads_width + entry_width * suc (length ts) ≤ tl → size ts + length t.bytes ≤ al
      → (abstract_put tl al ts t).number ≡ 0
  unfolding abstract_put
  put_accepted k s e b = go (kind_known t) (short t) (place_of t ts) k s
    where
      room : T (roomy tl al ts t)
      room =
          and← (leb (heads_width + entry_width * suc (length ts)) tl) (leb (size ts + length t.bytes) al)
          (le→leb (heads_width + entry_width * suc (length ts)) tl e) (le→leb (size ts + length t.bytes) al b)

      last : (r : Bool) → T r → (if r (λ _. put_answer 0 (length ts) (ts ++ (t ∷ []))) (λ _. put_answer 7 0 ts)).number ≡ 0
      last true h = refl
      last false h = absurd h

      go : (a c : Bool) (o : Option ℕ) → T a → T c
          → (if a (λ _. if c (λ _. put_at tl al ts t o) (λ _. put_answer 11 0 ts)) (λ _. put_answer 10 0 ts)).number ≡ 0
      go true true (some i) x y = refl
      go true true none x y = last (roomy tl al ts t) room
      go true false o x y = absurd y
      go false c o x y = absurd x

-- terms that any put takes
abbrev pub Well : List Term → Type 0
Well [] = Unit {0}
Well (t ∷ r) = T (kind_known t) × T (short t) × Well r

-- where there is room for all of them, all are put
pub put_all_room : (tl al : ℕ) (ts r : List Term) → Well r → heads_width + entry_width * (length ts + length r) ≤ tl → size ts + size r ≤
    al
    → (us : List Term) × (put_all tl al ts r ≡ all_put us)
unfolding put_all
put_all_room tl al ts [] w e b = (ts, refl)
put_all_room tl al ts (t ∷ r) w e b =
    let (x, y) = put_grown tl al ts t in
    go (abstract_put tl al ts t).number (put_accepted tl al ts t w.0 w.1 (omega arith) (omega arith))
    (put_all_room tl al (abstract_put tl al ts t).held r w.2 (omega arith) (omega arith))
  where
    go : (n : ℕ) → n ≡ 0 → (us : List Term) × (put_all tl al (abstract_put tl al ts t).held r ≡ all_put us)
        → (us : List Term) × (if_zero n (λ _. put_all tl al (abstract_put tl al ts t).held r) (λ _. full) ≡ all_put us)
    go zero e k = k
    go (suc n) e k = absurd (omega arith)

-- the terms that a run puts are such,
pub run_well : Well run_terms
unfolding run_terms
run_well = (tt, tt, (tt, tt, (tt, tt, tt)))

-- and how long they are
pub run_size : (length run_terms ≡ run_terms_count) × (size run_terms ≡ 158)
unfolding run_terms
run_size = (refl, refl)

-- THE DICTIONARY of n names
pub record Named (n : ℕ) : Type 0 where
  pub terms : List Term
  pub is : dictionary n ≡ layout table_length arena_length terms
  pub holds : Holds table_length arena_length terms
  pub few : length terms ≤ length start_terms + n
  pub small : size terms ≤ size start_terms + name_width * n

-- a start in the program's buffers is accepted,
start_ok : start_refusal table_length arena_length ≡ 0
unfolding start_refusal start_terms
start_ok = refl

-- leaves the start's terms,
started : start_gives (replicate table_length 0) (replicate arena_length 0)
    ≡ start_result 0 (layout table_length arena_length start_terms)
started =
    let t = zeros_length table_length in
    let a = zeros_length arena_length in
    start_accepts (replicate table_length 0) (replicate arena_length 0) ((λ i. start_refusal (t i) (a i)) ∙ start_ok)
    ∙ (λ i. start_result 0 (layout (t i) (a i) start_terms))

-- and has room for them
start_room : T (sized table_length arena_length) × T (start_fits table_length arena_length)
unfolding start_terms
start_room = (tt, tt)

-- so its number is 0
pub start_zero : (start_gives (replicate table_length 0) (replicate arena_length 0)).number ≡ 0
start_zero = ap (λ (r : StartResult). r.number) started

-- no name
start_named : Named 0
unfolding dictionary named
start_named = record {
  terms = start_terms;
  is = ap (λ (r : StartResult). r.contents) started;
  holds = holds_start table_length arena_length start_room.0 start_room.1;
  few = omega arith;
  small = omega arith;
}

-- how long a name is
name_short : (n : ℕ) → n < 2 ^ 32 → length (name n) ≤ name_width
name_short n h = let s = short_digits n h in omega arith

-- so many names
pub all_named : (n : ℕ) → n ≤ count_limit → Named n
unfolding dictionary named
all_named zero h = start_named
all_named (suc n) h =
    let p = all_named n (omega arith) in
    let t = term 1 (name (suc n)) in
    let (x, y) = put_grown table_length arena_length p.terms t in
    let s = name_short (suc n) (omega arith) in
    let a = p.few in
    let b = p.small in
    record {
      terms = (abstract_put table_length arena_length p.terms t).held;
      is = ap (λ (d : Dict). (put_gives d t).contents) p.is
          ∙ ap (λ (r : PutResult). r.contents) (put_on table_length arena_length p.terms t p.holds);
      holds = holds_put table_length arena_length p.terms t p.holds;
      few = omega arith;
      small = omega arith;
    }
