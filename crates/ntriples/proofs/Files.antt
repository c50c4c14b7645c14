-- What a file gives depends on its lines that are not empty: line feed, carriage return and both are alike. And two files read one after
-- the other give what one file with the lines of both gives. Assumes nothing.
use mathlib.Core.Path.{◌≡◌, refl, sym, ◌∙◌, ap, ap₂, subst}
use mathlib.Core.Logic.{◌⊎◌, inl, inr}
use mathlib.Core.Bool.{Bool, true, false}
use mathlib.Core.List.{List, [], ◌∷◌, ◌++◌, append_assoc, append-nil}
use Prim.Native.Nat.{ℕ, ◌+◌, ◌-◌, ◌*◌, ◌/◌, ◌%◌, ◌≤◌}
use native.Mathlib.Omega.{arith}
use native.Mathlib.Decide.{ℕ_discrete}
use lib.Dec.{T, ltb, eqb, lt→ltb}
use lib.ListN.{length, length-append, replicate}
use lib.Seq.{take_at}
use Rattle.common.specs.Sizes.{load_width, load_limit}
use Rattle.common.specs.Triples.{Triple, if}
use Rattle.common.specs.Rows.{flat}
use Rattle.common.proofs.Lists.{and→, and←}
use Rattle.common.proofs.Rows.{length_flat}
use Rattle.dictionary_layout.specs.Terms.{Term}
use Rattle.dictionary_layout.specs.Layout.{Dict, layout, decode}
use Rattle.dictionary_layout.specs.Dictionary.{AllPut, full, all_put, put_all, valid}
use Rattle.dictionary_layout.proofs.Choice.{if_yes, decide_bool}
use Rattle.dictionary_layout.proofs.Decoding.{decode_layout, layout_table, layout_arena}
use Rattle.dictionary_layout.proofs.Holding.{Holds, holds_fits, put_all_holds, valid→}
use Rattle.ntriples.specs.Utf8.{decode_after}
use Rattle.ntriples.specs.Characters.{all, line_end}
use Rattle.ntriples.specs.Grammar.{Terms, Line, nothing, says, bad, ws, ended, statement, line}
use Rattle.ntriples.specs.Reading.{line_limit, lines, Outcome, refused, read, in_order, all_short, ids, fits, on_put, on_said}
use Rattle.ntriples.specs.Reading.{read_line, on_read, read_lines, read_file, read_answer, AbstractReadResult, shown}
use Rattle.ntriples.specs.Reading.{abstract_read, ReadResult, read_gives}
use Rattle.ntriples.specs.Files.{kept, End, line_feed, carriage_return, both, end_bytes, joined, inline, all_inline, accepted}
use Rattle.ntriples.specs.Files.{rows_read, both_read}
use Rattle.ntriples.proofs.Lines.{lines_one, lines_append}
use Rattle.ntriples.proofs.Growing.{After, file_keeps, read_valid, read_broken, read_whole, read_ragged}

-- EMPTY LINES
module _ (tl al cap : ℕ) where
  -- one says nothing
  empty_line : (ts : List Term) (xs : List Triple) → read_line tl al cap ts xs [] ≡ read ts xs
  unfolding read_line line decode_after statement ended ws
  empty_line ts xs = refl

  -- so the others say all
  read_kept : (ls : List (List ℕ)) (ts : List Term) (xs : List Triple)
      → read_lines tl al cap ts xs ls ≡ read_lines tl al cap ts xs (kept ls)
  unfolding read_lines kept
  read_kept [] ts xs = refl
  read_kept ([] ∷ ls) ts xs =
      ap (λ (o : Outcome). on_read o (λ us ys. read_lines tl al cap us ys ls)) (empty_line ts xs) ∙ read_kept ls ts xs
  read_kept ((b ∷ l) ∷ ls) ts xs = go (read_line tl al cap ts xs (b ∷ l)) (read_kept ls)
    where
      go : (o : Outcome) → ((us : List Term) (ys : List Triple) → read_lines tl al cap us ys ls ≡ read_lines tl al cap us ys (kept ls))
          → on_read o (λ us ys. read_lines tl al cap us ys ls) ≡ on_read o (λ us ys. read_lines tl al cap us ys (kept ls))
      go (refused n) k = refl
      go (read us ys) k = k us ys

  -- FILES WITH THE SAME LINES, empty ones left out, give the same
  pub same_lines : (ts : List Term) (f g : List ℕ) → kept (lines f) ≡ kept (lines g) → read_file tl al cap ts f ≡ read_file tl al cap ts g
  unfolding read_file
  same_lines ts f g e = read_kept (lines f) ts [] ∙ (ap (read_lines tl al cap ts []) e ∙ sym (read_kept (lines g) ts []))

-- so do the calls, with the same answer, load and contents
module _ (f g : List ℕ) (e : kept (lines f) ≡ kept (lines g)) (load : List ℕ) where
  pub same_abstract : (tl al : ℕ) (ts : List Term) → abstract_read tl al ts load f ≡ abstract_read tl al ts load g
  unfolding abstract_read
  same_abstract tl al ts =
      ap (λ (o : Outcome). if (eqb (length load % load_width) 0) (λ _. shown ts load o)
      (λ _. record { answer = read_answer 2 0 load; held = ts })) (same_lines tl al (length load / load_width) ts f g e)

  -- for all contents of the buffers
  pub same_call : (d : Dict) → read_gives d load f ≡ read_gives d load g
  unfolding read_gives
  same_call d =
      let tl = length d.table in
      let al = length d.arena in
      ap (λ (r : AbstractReadResult). if (valid d) (λ _. record { answer = r.answer; contents = layout tl al r.held })
      (λ _. record { answer = read_answer 1 0 load; contents = d })) (same_abstract tl al (decode d))

-- THE ENDS OF LINES: any of the three ends between two parts of a file keeps the lines of both
kept_append : (ls ms : List (List ℕ)) → kept (ls ++ ms) ≡ kept ls ++ kept ms
unfolding kept
kept_append [] ms = refl
kept_append ([] ∷ ls) ms = kept_append ls ms
kept_append ((b ∷ l) ∷ ls) ms = ap (λ (m : List (List ℕ)). (b ∷ l) ∷ m) (kept_append ls ms)

kept_end : (b : ℕ) (f g : List ℕ) → T (line_end b) → kept (lines (f ++ (b ∷ g))) ≡ kept (lines f) ++ kept (lines g)
kept_end b f g t = ap kept (lines_append b f g t) ∙ kept_append (lines f) (lines g)

pub kept_ends : (e : End) (f g : List ℕ) → kept (lines (f ++ (end_bytes e ++ g))) ≡ kept (lines f) ++ kept (lines g)
unfolding lines kept
kept_ends line_feed f g = kept_end 10 f g tt
kept_ends carriage_return f g = kept_end 13 f g tt
kept_ends both f g = kept_end 13 f (10 ∷ g) tt

-- so one end may be exchanged for another anywhere in a file, and none is needed after the last line
pub end_exchanged : (e h : End) (f g : List ℕ) → kept (lines (f ++ (end_bytes e ++ g))) ≡ kept (lines (f ++ (end_bytes h ++ g)))
end_exchanged e h f g = kept_ends e f g ∙ sym (kept_ends h f g)

pub last_end : (e : End) (f : List ℕ) → kept (lines (f ++ end_bytes e)) ≡ kept (lines f)
unfolding lines kept
last_end e f =
    ap (λ (l : List ℕ). kept (lines (f ++ l))) (sym (append-nil (end_bytes e))) ∙ (kept_ends e f [] ∙ append-nil (kept (lines f)))

-- the lines put together are those read, empty ones left out
pub kept_joined : (e : End) (ls : List (List ℕ)) → T (all_inline ls) → kept (lines (joined e ls)) ≡ kept ls
unfolding joined lines kept
kept_joined e [] h = refl
kept_joined e (l ∷ ls) h =
    let (i, j) = and→ (all inline l) (all_inline ls) h in
    kept_ends e l (joined e ls)
    ∙ (ap₂ (λ (x y : List (List ℕ)). kept x ++ y) (lines_one l i) (kept_joined e ls j) ∙ sym (kept_append (l ∷ []) ls))

-- LINE FEED, CARRIAGE RETURN AND BOTH ARE ALIKE
module _ (e f : End) (ls : List (List ℕ)) (h : T (all_inline ls)) where
  alike : kept (lines (joined e ls)) ≡ kept (lines (joined f ls))
  alike = kept_joined e ls h ∙ sym (kept_joined f ls h)

  -- for a file
  pub ends_alike : (tl al cap : ℕ) (ts : List Term) → read_file tl al cap ts (joined e ls) ≡ read_file tl al cap ts (joined f ls)
  ends_alike tl al cap ts = same_lines tl al cap ts (joined e ls) (joined f ls) alike

  -- and for the call
  pub ends_alike_call : (d : Dict) (load : List ℕ) → read_gives d load (joined e ls) ≡ read_gives d load (joined f ls)
  ends_alike_call d load = same_call (joined e ls) (joined f ls) alike load d

-- READ ANEW: lines that were read give the same triples behind any others, in any load that has room for both
refused_read : {A : Type 0} {n : ℕ} {us : List Term} {ys : List Triple} → refused n ≡ read us ys → A
refused_read e = absurd (let z : ◌≡◌ {A = ℕ} 0 1 = cc in omega arith)

-- room for triples behind others
abbrev Room : ℕ → List Triple → List Triple → Type 0
Room cap zs new = (length zs + length new ≤ load_limit) × (length zs + length new ≤ cap)

-- what took the terms ts and triples ys to the terms us and triples xs takes others on likewise
record Anew (ys xs : List Triple) (us : List Term) (o : ℕ → List Triple → Outcome) : Type 0 where
  new : List Triple
  whole : xs ≡ ys ++ new
  anew : (cap : ℕ) (zs : List Triple) → Room cap zs new → o cap zs ≡ read us (zs ++ new)

module _ (tl al cap : ℕ) (us : List Term) (xs : List Triple) where
  none_anew : (ts : List Term) (ys : List Triple) → read ts ys ≡ read us xs → Anew ys xs us (λ c zs. read ts zs)
  none_anew ts ys e =
      let p : ts ≡ us = cc in
      let q : xs ≡ ys = cc in
      record { new = []; whole = q ∙ sym (append-nil ys); anew = λ c zs r. ap₂ read p (sym (append-nil zs)) }

  fits_anew : (c : ℕ) (zs : List Triple) (x : Triple) → Room c zs (x ∷ []) → T (fits c zs)
  fits_anew c zs x (a, b) =
      and← (ltb (length zs) load_limit) (ltb (length zs) c) (lt→ltb (length zs) load_limit (omega arith))
      (lt→ltb (length zs) c (omega arith))

  put_anew : (ys : List Triple) (t : Terms) (w : AllPut) → on_put cap ys t w ≡ read us xs → Anew ys xs us (λ c zs. on_put c zs t w)
  put_anew ys t full e = refused_read e
  put_anew ys t (all_put vs) e = go (fits cap ys) e
    where
      go : (b : Bool) → if b (λ _. read vs (ys ++ (ids vs t ∷ []))) (λ _. refused 3) ≡ read us xs
          → Anew ys xs us (λ c zs. on_put c zs t (all_put vs))
      go true e =
          let p : vs ≡ us = cc in
          let q : xs ≡ ys ++ (ids vs t ∷ []) = cc in
          record {
            new = ids vs t ∷ [];
            whole = q;
            anew = λ c zs r. if_yes (fits c zs) _ _ (fits_anew c zs (ids vs t) r)
                ∙ ap (λ (m : List Term). read m (zs ++ (ids vs t ∷ []))) p;
          }
      go false e = refused_read e

  said_anew : (ts : List Term) (ys : List Triple) (m : Line) → on_said tl al cap ts ys m ≡ read us xs
      → Anew ys xs us (λ c zs. on_said tl al c ts zs m)
  said_anew ts ys nothing e = none_anew ts ys e
  said_anew ts ys (says t) e = go (all_short t) e
    where
      go : (b : Bool) → if b (λ _. on_put cap ys t (put_all tl al ts (in_order t))) (λ _. refused 11) ≡ read us xs
          → Anew ys xs us (λ c zs. if b (λ _. on_put c zs t (put_all tl al ts (in_order t))) (λ _. refused 11))
      go true e = put_anew ys t (put_all tl al ts (in_order t)) e
      go false e = refused_read e
  said_anew ts ys bad e = refused_read e

  line_anew : (ts : List Term) (ys : List Triple) (l : List ℕ) → read_line tl al cap ts ys l ≡ read us xs
      → Anew ys xs us (λ c zs. read_line tl al c ts zs l)
  unfolding read_line
  line_anew ts ys l e = go (ltb line_limit (length l)) e
    where
      go : (b : Bool) → if b (λ _. refused 14) (λ _. on_said tl al cap ts ys (line l)) ≡ read us xs
          → Anew ys xs us (λ c zs. if b (λ _. refused 14) (λ _. on_said tl al c ts zs (line l)))
      go true e = refused_read e
      go false e = said_anew ts ys (line l) e

module _ (tl al cap : ℕ) (us : List Term) (xs : List Triple) where
  lines_anew : (ls : List (List ℕ)) (ts : List Term) (ys : List Triple) → read_lines tl al cap ts ys ls ≡ read us xs
      → Anew ys xs us (λ c zs. read_lines tl al c ts zs ls)
  unfolding read_lines
  lines_anew [] ts ys e = none_anew tl al cap us xs ts ys e
  lines_anew (l ∷ ls) ts ys e = go (read_line tl al cap ts ys l) refl e (lines_anew ls)
    where
      go : (o : Outcome) → read_line tl al cap ts ys l ≡ o → on_read o (λ vs ws. read_lines tl al cap vs ws ls) ≡ read us xs
          → ((vs : List Term) (ws : List Triple) → read_lines tl al cap vs ws ls ≡ read us xs
          → Anew ws xs us (λ c zs. read_lines tl al c vs zs ls))
          → Anew ys xs us (λ c zs. on_read (read_line tl al c ts zs l) (λ vs ws. read_lines tl al c vs ws ls))
      go (refused n) q e k = refused_read e
      go (read vs ws) q e k =
          let a = line_anew tl al cap vs ws ts ys l q in
          let b = k vs ws e in
          let n = length-append a.new b.new in
          record {
            new = a.new ++ b.new;
            whole = b.whole ∙ (ap (λ (m : List Triple). m ++ b.new) a.whole ∙ append_assoc ys a.new b.new);
            anew = λ c zs (i, j).
                let m = length-append zs a.new in
                ap (λ (o : Outcome). on_read o (λ vs ws. read_lines tl al c vs ws ls)) (a.anew c zs (omega arith, omega arith))
                ∙ (b.anew c (zs ++ a.new) (omega arith, omega arith)
                ∙ ap (read us) (append_assoc zs a.new b.new));
          }

  file_anew : (ts : List Term) (f : List ℕ) → read_file tl al cap ts f ≡ read us xs → (c : ℕ) (zs : List Triple) → Room c zs xs
      → read_lines tl al c ts zs (lines f) ≡ read us (zs ++ xs)
  unfolding read_file
  file_anew ts f e c zs r =
      let a = lines_anew (lines f) ts [] e in
      let q : xs ≡ a.new = a.whole in
      a.anew c zs (subst (Room c zs) q r) ∙ ap (λ (m : List Triple). read us (zs ++ m)) (sym q)

-- lines behind others
lines_behind : (tl al cap : ℕ) (ls ms : List (List ℕ)) (ts : List Term) (xs : List Triple) → read_lines tl al cap ts xs (ls ++ ms)
    ≡ on_read (read_lines tl al cap ts xs ls) (λ us ys. read_lines tl al cap us ys ms)
unfolding read_lines
lines_behind tl al cap [] ms ts xs = refl
lines_behind tl al cap (l ∷ ls) ms ts xs = go (read_line tl al cap ts xs l) (lines_behind tl al cap ls ms)
  where
    go : (o : Outcome) → ((us : List Term) (ys : List Triple) → read_lines tl al cap us ys (ls ++ ms)
        ≡ on_read (read_lines tl al cap us ys ls) (λ us ys. read_lines tl al cap us ys ms))
        → on_read o (λ us ys. read_lines tl al cap us ys (ls ++ ms))
        ≡ on_read (on_read o (λ us ys. read_lines tl al cap us ys ls)) (λ us ys. read_lines tl al cap us ys ms)
    go (refused n) k = refl
    go (read us ys) k = k us ys

-- TWO FILES: one file with the lines of both gives the same terms, and the triples of both, those of the first before
pub two_files : (tl al cap₁ cap₂ cap : ℕ) (ts us vs : List Term) (xs ys : List Triple) (f g : List ℕ) (b : ℕ) → T (line_end b)
    → read_file tl al cap₁ ts f ≡ read us xs → read_file tl al cap₂ us g ≡ read vs ys → Room cap xs ys
    → read_file tl al cap ts (f ++ (b ∷ g)) ≡ read vs (xs ++ ys)
unfolding read_file
two_files tl al cap₁ cap₂ cap ts us vs xs ys f g b t d e (m, n) =
    ap (read_lines tl al cap ts []) (lines_append b f g t)
    ∙ (lines_behind tl al cap (lines f) (lines g) ts []
    ∙ (ap (λ (o : Outcome). on_read o (λ us ys. read_lines tl al cap us ys (lines g)))
    (file_anew tl al cap₁ us xs ts f d cap [] (omega arith, omega arith))
    ∙ file_anew tl al cap₂ vs ys us g e cap xs (m, n)))

-- THE CALLS: an accepted read, taken apart
record Accepted (d : Dict) (load f : List ℕ) : Type 0 where
  unbroken : T (valid d)
  whole : length load % load_width ≡ 0
  terms : List Term
  triples : List Triple
  reads : read_file (length d.table) (length d.arena) (length load / load_width) (decode d) f ≡ read terms triples
  holds : Holds (length d.table) (length d.arena) terms
  gives : read_gives d load f ≡ accepted load (length triples) (flat triples) (layout (length d.table) (length d.arena) terms)

module _ (d : Dict) (load f : List ℕ) where
  abbrev tl : ℕ
  tl = length d.table

  abbrev al : ℕ
  al = length d.arena

  abbrev cap : ℕ
  cap = length load / load_width

  -- what is read is given
  accepts : T (valid d) → length load % load_width ≡ 0 → (us : List Term) (xs : List Triple) → read_file tl al cap (decode d) f ≡ read us
      xs
      → read_gives d load f ≡ accepted load (length xs) (flat xs) (layout tl al us)
  accepts v w us xs e =
      read_valid d load f v
      ∙ ap (λ (r : AbstractReadResult). record { answer = r.answer; contents = layout tl al r.held })
      (read_whole tl al (decode d) load f w ∙ ap (shown (decode d) load) e)

  -- and where no refusal is, something was read
  accepted→ : (read_gives d load f).answer.number ≡ 0 → Accepted d load f
  accepted→ z = start (decide_bool (valid d))
    where
      outcome : T (valid d) → length load % load_width ≡ 0 → (o : Outcome) → read_file tl al cap (decode d) f ≡ o
          → After (λ us xs. Holds tl al us) o → (shown (decode d) load o).answer.number ≡ 0 → Accepted d load f
      outcome v w (refused n) e k q = absurd (omega arith)
      outcome v w (read us xs) e k q =
          record { unbroken = v; whole = w; terms = us; triples = xs; reads = e; holds = k; gives = accepts v w us xs e }

      number : T (valid d) → (abstract_read tl al (decode d) load f).answer.number ≡ 0
      number v = sym (ap (λ (r : ReadResult). r.answer.number) (read_valid d load f v)) ∙ z

      load_whole : T (valid d) → Dec (length load % load_width ≡ 0) → Accepted d load f
      load_whole v (yes w) =
          outcome v w (read_file tl al cap (decode d) f) refl
          (file_keeps (λ us xs. Holds tl al us) tl al cap (λ ts xs t us h e r. put_all_holds tl al ts (in_order t) us h e) (decode d) f
          (valid→ d v).0)
          (sym (ap (λ (r : AbstractReadResult). r.answer.number) (read_whole tl al (decode d) load f w)) ∙ number v)
      load_whole v (no n) =
          let q : (abstract_read tl al (decode d) load f).answer.number ≡ 2 =
          ap (λ (r : AbstractReadResult). r.answer.number) (read_ragged tl al (decode d) load f n) in
          absurd (omega (arith, number v))

      start : T (valid d) ⊎ (T (valid d) → ⊥) → Accepted d load f
      start (inl v) = load_whole v (ℕ_discrete (length load % load_width) 0)
      start (inr n) =
          let q : (read_gives d load f).answer.number ≡ 1 = ap (λ (r : ReadResult). r.answer.number) (read_broken d load f n) in
          absurd (omega arith)

-- the numbers of triples one behind the other
flat_append : (xs ys : List Triple) → flat (xs ++ ys) ≡ flat xs ++ flat ys
flat_append [] ys = refl
flat_append (x ∷ xs) ys = ap (λ (l : List ℕ). x.s ∷ x.p ∷ x.o ∷ l) (flat_append xs ys)

-- what an accepted read gave
rows_accepted : (r : ReadResult) (load : List ℕ) (xs : List Triple) (d : Dict) → r ≡ accepted load (length xs) (flat xs) d
    → rows_read r ≡ flat xs
rows_accepted r load xs d e =
    ap rows_read e ∙ take_at (flat xs) (replicate (length load - length (flat xs)) 0) (load_width * length xs) (length_flat xs)

-- contents that hold terms, put in place of others
module _ (tl al : ℕ) (us : List Term) (h : Holds tl al us) (d : Dict) (e : d ≡ layout tl al us) where
  laid_table : length d.table ≡ tl
  laid_table = ap (λ (x : Dict). length x.table) e ∙ layout_table tl al us (holds_fits tl al us h).0

  laid_arena : length d.arena ≡ al
  laid_arena = ap (λ (x : Dict). length x.arena) e ∙ layout_arena tl al us (holds_fits tl al us h).1

  laid_terms : decode d ≡ us
  laid_terms = ap decode e ∙ decode_layout tl al us

-- TWO CALLS: where two files are accepted one after the other and their triples together fit, one file with the lines of both gives the
-- contents that the two left, and their loads one behind the other
pub two_calls : (d : Dict) (load₁ load₂ load f g : List ℕ) (b : ℕ) → T (line_end b) → (read_gives d load₁ f).answer.number ≡ 0
    → (read_gives (read_gives d load₁ f).contents load₂ g).answer.number ≡ 0 → length load % load_width ≡ 0
    → (read_gives d load₁ f).answer.count + (read_gives (read_gives d load₁ f).contents load₂ g).answer.count ≤ load_limit
    → (read_gives d load₁ f).answer.count + (read_gives (read_gives d load₁ f).contents load₂ g).answer.count ≤ length load / load_width
    → read_gives d load (f ++ (b ∷ g))
    ≡ both_read load (read_gives d load₁ f) (read_gives (read_gives d load₁ f).contents load₂ g)
two_calls d load₁ load₂ load f g b t z₁ z₂ w m n =
    second (accepted→ d load₁ f z₁) (read_gives d load₁ f) refl (accepted→ (read_gives d load₁ f).contents load₂ g z₂)
    (read_gives (read_gives d load₁ f).contents load₂ g) refl m n
  where
    second : (A : Accepted d load₁ f) (r : ReadResult) → r ≡ read_gives d load₁ f → Accepted (read_gives d load₁ f).contents load₂ g
        → (s : ReadResult) → s ≡ read_gives (read_gives d load₁ f).contents load₂ g
        → r.answer.count + s.answer.count ≤ load_limit → r.answer.count + s.answer.count ≤ length load / load_width
        → read_gives d load (f ++ (b ∷ g)) ≡ both_read load r s
    second A r p B s q m n =
        let tl = length d.table in
        let al = length d.arena in
        let e = (read_gives d load₁ f).contents in
        let xs = A.triples in
        let ys = B.triples in
        let u = p ∙ A.gives in
        let v = q ∙ B.gives in
        let laid : e ≡ layout tl al A.terms = ap (λ (x : ReadResult). x.contents) A.gives in
        let lt = laid_table tl al A.terms A.holds e laid in
        let la = laid_arena tl al A.terms A.holds e laid in
        let ld = laid_terms tl al A.terms A.holds e laid in
        let c₁ : r.answer.count ≡ length xs = ap (λ (x : ReadResult). x.answer.count) u in
        let c₂ : s.answer.count ≡ length ys = ap (λ (x : ReadResult). x.answer.count) v in
        let reads : read_file tl al (length load₂ / load_width) A.terms g ≡ read B.terms ys =
        (λ i. read_file (sym lt i) (sym la i) (length load₂ / load_width) (sym ld i) g) ∙ B.reads in
        let whole = two_files tl al (length load₁ / load_width) (length load₂ / load_width) (length load / load_width) (decode d) A.terms
        B.terms xs ys f g b t A.reads reads (omega arith, omega arith) in
        let k : length (xs ++ ys) ≡ r.answer.count + s.answer.count = omega (arith, length-append xs ys) in
        let rows : flat (xs ++ ys) ≡ rows_read r ++ rows_read s =
        flat_append xs ys ∙ sym (ap₂ (λ x y. x ++ y) (rows_accepted r load₁ xs _ u) (rows_accepted s load₂ ys _ v)) in
        let left : layout tl al B.terms ≡ s.contents =
        (λ i. layout (sym lt i) (sym la i) B.terms) ∙ sym (ap (λ (x : ReadResult). x.contents) v) in
        accepts d load (f ++ (b ∷ g)) A.unbroken w B.terms (xs ++ ys) whole ∙ (λ i. accepted load (k i) (rows i) (left i))
