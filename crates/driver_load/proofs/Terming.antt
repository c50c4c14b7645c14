-- What the dictionary after the put of the run's terms, and a load that is not refused, say to the parts of the closing. Assumes nothing.
use mathlib.Core.Path.{◌≡◌, refl, ap, subst, ◌∙◌}
use mathlib.Core.Bool.{Bool}
use mathlib.Core.List.{List}
use Prim.Native.Nat.{ℕ, ◌+◌, ◌/◌, ◌<◌}
use native.Mathlib.Omega.{arith}
use lib.ListN.{length}
use Rattle.common.specs.Triples.{Triple, triple, In}
use Rattle.meaning.specs.Containers.{Containers}
use Rattle.common.specs.Sizes.{load_width}
use Rattle.common.specs.Rows.{triples}
use Rattle.meaning.specs.Lists.{members}
use Rattle.meaning.specs.Start.{Start}
use Rattle.meaning.specs.Closure.{Sub}
use Rattle.meaning.proofs.LoadClosure.{closure_is}
use Rattle.meaning.proofs.Ids.{Each, closure_below}
use Rattle.store_rows.specs.Rows.{row_at, load_at, load_rows}
use Rattle.store_rows.specs.Layout.{members_at, rests_at, roles_length}
use Rattle.store_rows.proofs.Listed.{in_listed←}
use Rattle.dictionary_layout.specs.Layout.{Dict, decode}
use Rattle.dictionary_layout.specs.Values.{contents}
use Rattle.dictionary_run_terms.specs.declared.values.RunTerms.{RunTerms}
use Rattle.dictionary_entries.proofs.Reading.{Lengths, lengths}
use Rattle.engine_start.specs.Starting.{start_pass, StartAdded, containers_by, Loadable, StartOf}
use Rattle.engine_start.proofs.Starting.{rows_triples}
use Rattle.engine_table.specs.Clauses.{Clause, TableOfRules}
use Rattle.engine_lists.specs.Lists.{Ready, Made}
use Rattle.engine_closing.specs.Closing.{Closable}
use Rattle.driver_load.specs.Closed.{containers}
use Rattle.driver_load.specs.Loads.{Termed, Loaded, Unused}
use Rattle.driver_load.proofs.Loading.{LoadLists, rows_start}

module _ {table arena load store work : List ℕ} {r : RunTerms} (A : Termed table arena r)
    (L : Loaded load store work r.counters.terms) where
  abbrev terms : ℕ
  terms = r.counters.terms

  abbrev d : Dict
  d = contents table arena r.counters

  abbrev c : Containers
  c = containers (decode d)

  K : Lengths d A.sound
  K = lengths d A.sound

  -- the containers that the start knows by these ids are the dictionary's
  same_containers : containers_by (decode d) r.ids ≡ c
  unfolding containers
  same_containers = ap (containers_by (decode d)) A.ids

  -- the load has as many triples as 3 goes into its numbers
  abbrev count : ℕ
  count = length load / load_width

  load_triples : load_rows count load ≡ triples load
  load_triples = rows_triples count load (omega (arith, L.whole))

  -- the ids of the load are terms
  load_known : (j : ℕ) → j < count → Each (λ i. i < terms) (load_at load j).s (load_at load j).p (load_at load j).o
  load_known j p =
      L.known (load_at load j) (subst (In (load_at load j)) load_triples (in_listed← count (load_at load) j p))

  pub loadable : Loadable load count r.ids
  loadable = record {
    long = omega (arith, L.whole);
    small = λ j p. let k = load_known j p in
        record { s = omega (arith, k.0, K.few); p = omega (arith, k.1, K.few); o = omega (arith, k.2, K.few) };
    ids = record {
      property = omega (arith, A.below.property, K.few);
      membership = omega (arith, A.below.membership, K.few);
      member = omega (arith, A.below.member, K.few);
    };
  }

  -- the lists of the load can be made
  pub listable : {hash ix : List ℕ} {k : ℕ} → k ≡ terms → Unused hash ix → Ready k load count work ix
  listable e u = record {
    rows = record {
      long = omega (arith, L.whole);
      subjects = λ j p. omega (arith, (load_known j p).0);
      objects = λ j p. omega (arith, (load_known j p).2);
    };
    room = record { long = omega (arith, L.room); few = omega (arith, K.few) };
    wide = u.wide;
    no_members = λ x p. u.zero (members_at + x);
    no_rests = λ x p. u.zero (rests_at + x);
  }

  -- they are those that the load's triples say
  pub load_lists : {k : ℕ} {work' ix ix' : List ℕ} → Made k load count work' ix ix' → LoadLists (triples load) work'
  load_lists m = record { same = λ x. m.lists x ∙ ap (λ (ts : List Triple). members ts x) load_triples }

  -- every id of the start is a term's
  start_known : Sub (Start c (triples load)) (Each (λ i. i < terms))
  start_known x y z i = closure_below c (triples load) terms K.some (λ s p o j. L.known (triple s p o) j)
      (subst (λ (k : Containers). k.property < terms) same_containers A.below.property)
      (subst (λ (k : Containers). k.membership < terms) same_containers A.below.membership)
      (subst (λ (k : Containers). k.member < terms) same_containers A.below.member)
      x y z ((closure_is c (triples load)).holds x y z i)

  module _ {l₀ l h : List ℕ} {n : ℕ} {f : Bool}
      (a : StartAdded (StartOf (containers_by (decode d) r.ids) load) (start_pass 0) l₀ 0 l h n f) where
    pub started : StartAdded (StartOf c load) (start_pass 0) l₀ 0 l h n f
    started = subst (λ (k : Containers). StartAdded (StartOf k load) (start_pass 0) l₀ 0 l h n f) same_containers a

    row_known : (j : ℕ) → j < n → Each (λ i. i < terms) (row_at l j).s (row_at l j).p (row_at l j).o
    row_known j p = start_known _ _ _ (rows_start c (triples load) started _ _ _ (record { at = j; below = p; is = refl }))

    -- the store can be closed, once the lists are made
    pub closable : {table' : List Clause} {hash ix ix' work' roles : List ℕ} {k : ℕ} → k ≡ terms → Unused hash ix
        → TableOfRules table' → Made k load count work' ix ix' → length roles ≡ roles_length → Closable table' l h ix' roles work' n
    closable e u t m w = record {
      rules = t;
      good = a.good;
      lists = m.chains;
      enough = omega (arith, K.some, m.all_terms);
      subjects = λ j p. omega (arith, (row_known j p).0, m.all_terms);
      predicates = λ j p. omega (arith, (row_known j p).1, m.all_terms);
      objects = λ j p. omega (arith, (row_known j p).2, m.all_terms);
      blank = λ x p. m.elsewhere x p ∙ u.zero x;
      roles = omega arith;
    }
