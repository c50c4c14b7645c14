-- What a line's triple, a line, and the lines that are left come to. Assumes nothing.
use mathlib.Core.Path.{◌≡◌, refl, sym, ◌∙◌, ap, subst}
use mathlib.Core.Logic.{◌≢◌}
use mathlib.Core.List.{List, [], ◌∷◌, ◌++◌}
use Prim.Native.Nat.{ℕ, zero, suc, ◌+◌, ◌/◌}
use lib.Dec.{T, ltb}
use lib.ListN.{length}
use Rattle.common.specs.Sizes.{load_width}
use Rattle.common.specs.Triples.{Triple, if}
use Rattle.common.specs.Values.{triple_of}
use Rattle.common.specs.declared.Triple as declared
use Rattle.std.specs.Prelude.{Option as Maybe, Some, None}
use Rattle.dictionary_layout.specs.declared.values.Counters.{Counters}
use Rattle.dictionary_layout.specs.Layout.{Dict, decode}
use Rattle.dictionary_layout.specs.Values.{contents}
use Rattle.dictionary_layout.proofs.Choice.{if_yes, if_no}
use Rattle.ntriples.specs.Grammar.{Terms, Line, says, line}
use Rattle.ntriples.specs.Reading.{line_limit, Outcome, refused, read, all_short, fits, on_put, read_line, on_read, read_lines}
use Rattle.driver_read.specs.declared.values.LineIds.{LineIds}
use Rattle.driver_read.specs.declared.values.ReadNext.{ReadNext}
use Rattle.driver_read.specs.Lines.{Kept, put_as, PutsTerms, so_far, Rows, cap, Added, Unadded, Between, said_comes, line_comes}
use Rattle.driver_read.specs.Lines.{lines_come, outcome_of, ComesTo}
use Rattle.driver_read.proofs.Ends.{left}
use Rattle.driver_read.proofs.Putting.{kept_all, kept_on}

abbrev pub answer : ℕ → ℕ → Counters → ReadNext
answer n k c = record { number = n; count = k; counters = c }

-- an answer by its numbers
pub answered : {o : Outcome} {d : Dict} {table arena hash load : List ℕ} {r s : ReadNext} → r ≡ s
    → ComesTo o d table arena hash load s → ComesTo o d table arena hash load r
answered {o} {d} {table} {arena} {hash} {load} e x = subst (ComesTo o d table arena hash load) (sym e) x

-- A REFUSAL, with nothing put and nothing written
pub refuses : {o : Outcome} {table arena hash load : List ℕ} {next : ReadNext} (n : ℕ) → Between table arena hash load next
    → n ≢ 0 → o ≡ refused n
    → ComesTo o (contents table arena next.counters) table arena hash load (answer n next.count next.counters)
refuses {o} {table} {arena} {hash} {load} {next} n b z e = record {
  outcome = go n z ∙ sym e;
  between = record { indexed = b.indexed; rows = b.rows };
  kept = kept_all b.indexed.unbroken;
}
  where
    go : (n : ℕ) → n ≢ 0 → outcome_of n (contents table arena next.counters) load next.count ≡ refused n
    go zero z = absurd (z refl)
    go (suc n) z = refl

-- A LINE THAT SAYS NOTHING
pub passes : {o : Outcome} {table arena hash load : List ℕ} {next : ReadNext} → Between table arena hash load next
    → o ≡ read (decode (contents table arena next.counters)) (so_far load next.count)
    → ComesTo o (contents table arena next.counters) table arena hash load (answer 0 next.count next.counters)
passes b e = record {
  outcome = sym e;
  between = record { indexed = b.indexed; rows = b.rows };
  kept = kept_all b.indexed.unbroken;
}

-- A TRIPLE
module _ (d : Dict) (load : List ℕ) (k : ℕ) (t : Terms) where
  abbrev said : Outcome
  said = said_comes d load k (says t)

  -- with a term that is too long
  pub says_long : (T (all_short t) → ⊥) → said ≡ refused 11
  says_long n = if_no (all_short t) _ _ n

  -- whose terms are put
  module _ {table arena hash : List ℕ} {ids' : LineIds} (s : T (all_short t)) (p : PutsTerms d t table arena hash ids') where
    abbrev e : Dict
    e = contents table arena ids'.counters

    on_puts : said ≡ on_put (cap load) (so_far load k) t (put_as ids'.triple e)
    on_puts = if_yes (all_short t) _ _ s ∙ ap (on_put (cap load) (so_far load k) t) p.puts

    -- not all of them
    says_full : ids'.triple ≡ None → said ≡ refused 7
    says_full n = on_puts ∙ ap (λ (x : Maybe declared.Triple). on_put (cap load) (so_far load k) t (put_as x e)) n

    pub comes_full : Rows load k → ids'.triple ≡ None → ComesTo said d table arena hash load (answer 7 k ids'.counters)
    comes_full r n = record {
      outcome = sym (says_full n);
      between = record { indexed = p.indexed; rows = r };
      kept = p.kept;
    }

    -- all of them
    module _ {y : declared.Triple} (z : ids'.triple ≡ Some y) where
      says_put : said ≡ if (fits (cap load) (so_far load k)) (λ _. read (decode e) (so_far load k ++ (triple_of y ∷ [])))
          (λ _. refused 3)
      says_put =
          on_puts
          ∙ (ap (λ (x : Maybe declared.Triple). on_put (cap load) (so_far load k) t (put_as x e)) z
          ∙ ap (λ (x : Triple). if (fits (cap load) (so_far load k)) (λ _. read (decode e) (so_far load k ++ (x ∷ []))) (λ _. refused 3))
          (sym (p.named y z)))

      -- without room for the triple
      pub comes_out : {new : List ℕ} → Rows load k → Unadded load k new
          → ComesTo said d table arena hash new (answer 3 k ids'.counters)
      comes_out r u =
          subst (λ (l : List ℕ). ComesTo said d table arena hash l (answer 3 k ids'.counters)) (sym u.same) (record {
            outcome = sym (says_put ∙ if_no (fits (cap load) (so_far load k)) _ _ u.no_room);
            between = record { indexed = p.indexed; rows = r };
            kept = p.kept;
          })

      -- and with room
      pub comes_in : {new : List ℕ} → Added load k (triple_of y) new
          → ComesTo said d table arena hash new (answer 0 (k + 1) ids'.counters)
      comes_in a = record {
        outcome = ap (read (decode e)) a.more ∙ sym (says_put ∙ if_yes (fits (cap load) (so_far load k)) _ _ a.room);
        between = record { indexed = p.indexed; rows = a.rows };
        kept = p.kept;
      }

-- A LINE: too long, or what it says
module _ (d : Dict) (load : List ℕ) (k : ℕ) (l : List ℕ) where
  pub line_long : T (ltb line_limit (length l)) → line_comes d load k l ≡ refused 14
  unfolding read_line
  line_long h = if_yes (ltb line_limit (length l)) _ _ h

  pub line_said : {s : Line} → (T (ltb line_limit (length l)) → ⊥) → s ≡ line l → line_comes d load k l ≡ said_comes d load k s
  unfolding read_line
  line_said h e = if_no (ltb line_limit (length l)) _ _ h ∙ ap (said_comes d load k) (sym e)

-- ALL LINES: the state at the head of the loop, with the lines that are left
pub record Reading (o : Outcome) (d : Dict) (table arena hash load : List ℕ) (next : ReadNext) (ls : List (List ℕ)) : Type 0 where
  pub number : next.number ≡ 0
  pub between : Between table arena hash load next
  pub kept : Kept d (contents table arena next.counters)
  pub comes : lines_come (contents table arena next.counters) load next.count ls ≡ o

pub reading_start : {o : Outcome} {table arena hash load : List ℕ} {next : ReadNext} {ls : List (List ℕ)}
    → Between table arena hash load next → next.number ≡ 0 → lines_come (contents table arena next.counters) load next.count ls ≡ o
    → Reading o (contents table arena next.counters) table arena hash load next ls
reading_start b z e = record { number = z; between = b; kept = kept_all b.indexed.unbroken; comes = e }

module _ {o : Outcome} {d : Dict} {table arena hash load : List ℕ} {next : ReadNext} where
  -- none is left
  pub reading_end : Reading o d table arena hash load next [] → ComesTo o d table arena hash load next
  unfolding read_lines
  reading_end r = record {
    outcome = ap (λ (n : ℕ). outcome_of n (contents table arena next.counters) load next.count) r.number ∙ r.comes;
    between = r.between;
    kept = r.kept;
  }

  module _ {l : List ℕ} {ls : List (List ℕ)} (r : Reading o d table arena hash load next (l ∷ ls)) {table' arena' hash' load' : List ℕ}
      {next' : ReadNext} (x : ComesTo (line_comes (contents table arena next.counters) load next.count l)
      (contents table arena next.counters) table' arena' hash' load' next') where
    abbrev d₂ : Dict
    d₂ = contents table' arena' next'.counters

    abbrev then : Outcome → Outcome
    then q = on_read q (λ us ys. read_lines (length table) (length arena) (cap load) us ys ls)

    comes_then : then (outcome_of next'.number d₂ load' next'.count) ≡ o
    unfolding read_lines
    comes_then = ap then x.outcome ∙ r.comes

    -- the next one is refused
    pub reading_refused : next'.number ≢ 0 → ComesTo o d table' arena' hash' load' next'
    reading_refused n = record {
      outcome = go next'.number n ∙ comes_then;
      between = x.between;
      kept = kept_on r.kept x.kept;
    }
      where
        go : (n : ℕ) → n ≢ 0 → outcome_of n d₂ load' next'.count ≡ then (outcome_of n d₂ load' next'.count)
        go zero n = absurd (n refl)
        go (suc m) n = refl

    -- the next one is read
    pub reading_more : next'.number ≡ 0 → length load' ≡ length load → Reading o d table' arena' hash' load' next' ls
    reading_more z h = record {
      number = z;
      between = x.between;
      kept = kept_on r.kept x.kept;
      comes =
          (λ i. read_lines (x.kept.table i) (x.kept.arena i) (h i / load_width) (decode d₂) (so_far load' next'.count) ls)
          ∙ (ap (λ (n : ℕ). then (outcome_of n d₂ load' next'.count)) (sym z) ∙ comes_then);
    }

-- in a file, from a place on; the buffers have their lengths
pub record Going (o : Outcome) (d : Dict) (file hash₀ load₀ chars₀ out₀ table arena hash load chars out : List ℕ)
    (next : ReadNext) (at : ℕ) : Type 0 where
  pub reading : Reading o d table arena hash load next (left file at)
  pub hash_long : length hash ≡ length hash₀
  pub load_long : length load ≡ length load₀
  pub chars_long : length chars ≡ length chars₀
  pub out_long : length out ≡ length out₀
