-- Laws of records appended to the findings buffer. Assumes nothing.
use mathlib.Core.Path.{◌≡◌, refl, sym, ap, ap₂, ◌∙◌}
use mathlib.Core.Logic.{◌⊎◌, ⊎_elim}
use mathlib.Core.Bool.{Bool, false}
use mathlib.Core.List.{List, [], ◌∷◌, ◌++◌, append_assoc, append-nil}
use Prim.Native.Nat.{ℕ, ◌+◌, ◌*◌, ◌≤◌, ◌<◌}
use native.Mathlib.Omega.{arith}
use lib.ListN.{length, get_or, set, length-set}
use lib.Seq.{get_or-set_same, get_or-set_other}
use Rattle.common.specs.Sizes.{finding_limit}
use Rattle.common.specs.Triples.{Finding, In, here, there, Distinct}
use Rattle.meaning.specs.Closure.{five_counts}
use Rattle.common.proofs.Lists.{in_nil, in_cons, in_left, in_right, in_cases}
use Rattle.store_rows.specs.Rows.{finding_at, finding_rows}
use Rattle.store_rows.proofs.Cases.{true_false}
use Rattle.store_rows.proofs.Listed.{listed_more, listed_ext, length_listed}
use Rattle.engine_checks.specs.declared.Checked.{Checked}
use Rattle.engine_checks.specs.Findings.{set_finding, raised, Ready, Appended}
use Rattle.engine_checks.proofs.Counting.{five_le, five_snoc}

-- findings are the same where their numbers are
finding_eq : (x y : Finding) → x.check ≡ y.check → x.a ≡ y.a → x.b ≡ y.b → x.c ≡ y.c → x.d ≡ y.d → x ≡ y
finding_eq x y p q r s t = λ i. record { check = p i; a = q i; b = r i; c = s i; d = t i }

-- One record put.
module _ (f : List ℕ) (j : ℕ) (x : Finding) where
  abbrev put1 : List ℕ
  put1 = set f (5 * j) x.check

  abbrev put2 : List ℕ
  put2 = set put1 (5 * j + 1) x.a

  abbrev put3 : List ℕ
  put3 = set put2 (5 * j + 2) x.b

  abbrev put4 : List ℕ
  put4 = set put3 (5 * j + 3) x.c

  pub length_put : length (set_finding f j x) ≡ length f
  length_put = simp length-set

  -- no other number has changed
  other : (i : ℕ) → (i ≡ 5 * j → ⊥) → (i ≡ 5 * j + 1 → ⊥) → (i ≡ 5 * j + 2 → ⊥) → (i ≡ 5 * j + 3 → ⊥) → (i ≡ 5 * j + 4 → ⊥)
      → get_or (set_finding f j x) i 0 ≡ get_or f i 0
  other i p q r s t =
      get_or-set_other put4 (5 * j + 4) i x.d 0 t
      ∙ get_or-set_other put3 (5 * j + 3) i x.c 0 s
      ∙ get_or-set_other put2 (5 * j + 2) i x.b 0 r
      ∙ get_or-set_other put1 (5 * j + 1) i x.a 0 q
      ∙ get_or-set_other f (5 * j) i x.check 0 p

  -- it is there
  put_is : 5 * j + 5 ≤ length f → finding_at (set_finding f j x) j ≡ x
  put_is h =
      let h1 : 5 * j + 1 < length put1 = simp length-set (omega arith) in
      let h2 : 5 * j + 2 < length put2 = simp length-set (omega arith) in
      let h3 : 5 * j + 3 < length put3 = simp length-set (omega arith) in
      let h4 : 5 * j + 4 < length put4 = simp length-set (omega arith) in
      finding_eq (finding_at (set_finding f j x) j) x
      (get_or-set_other put4 (5 * j + 4) (5 * j) x.d 0 (λ e. omega arith)
      ∙ get_or-set_other put3 (5 * j + 3) (5 * j) x.c 0 (λ e. omega arith)
      ∙ get_or-set_other put2 (5 * j + 2) (5 * j) x.b 0 (λ e. omega arith)
      ∙ get_or-set_other put1 (5 * j + 1) (5 * j) x.a 0 (λ e. omega arith) ∙ get_or-set_same f (5 * j) x.check 0 (omega arith))
      (get_or-set_other put4 (5 * j + 4) (5 * j + 1) x.d 0 (λ e. omega arith)
      ∙ get_or-set_other put3 (5 * j + 3) (5 * j + 1) x.c 0 (λ e. omega arith)
      ∙ get_or-set_other put2 (5 * j + 2) (5 * j + 1) x.b 0 (λ e. omega arith) ∙ get_or-set_same put1 (5 * j + 1) x.a 0 h1)
      (get_or-set_other put4 (5 * j + 4) (5 * j + 2) x.d 0 (λ e. omega arith)
      ∙ get_or-set_other put3 (5 * j + 3) (5 * j + 2) x.c 0 (λ e. omega arith) ∙ get_or-set_same put2 (5 * j + 2) x.b 0 h2)
      (get_or-set_other put4 (5 * j + 4) (5 * j + 3) x.d 0 (λ e. omega arith) ∙ get_or-set_same put3 (5 * j + 3) x.c 0 h3)
      (get_or-set_same put4 (5 * j + 4) x.d 0 h4)

  put_before : (k : ℕ) → k < j → finding_at (set_finding f j x) k ≡ finding_at f k
  put_before k h = finding_eq (finding_at (set_finding f j x) k) (finding_at f k)
      (at (5 * k) (omega arith)) (at (5 * k + 1) (omega arith)) (at (5 * k + 2) (omega arith)) (at (5 * k + 3) (omega arith))
      (at (5 * k + 4) (omega arith))
    where
      at : (i : ℕ) → i < 5 * j → get_or (set_finding f j x) i 0 ≡ get_or f i 0
      at i p = other i (λ e. omega arith) (λ e. omega arith) (λ e. omega arith) (λ e. omega arith) (λ e. omega arith)

  -- behind the others
  pub records_put : 5 * j + 5 ≤ length f → finding_rows (j + 1) (set_finding f j x) ≡ finding_rows j f ++ (x ∷ [])
  records_put h =
      listed_more j (finding_at (set_finding f j x)) ∙ ap₂ (λ u v. u ++ (v ∷ []))
      (listed_ext j (finding_at (set_finding f j x)) (finding_at f) put_before) (put_is h)

-- a count can be raised
pub count_few : {f : List ℕ} {a : Checked} → Ready f a → (i : ℕ) → get_or a.counts i 0 ≤ finding_limit
count_few {f} {a} r i =
    omega (arith, ap (λ c. get_or c i 0) r.counts, five_le i (finding_rows a.n f), length_listed a.n (finding_at f), r.room, r.few)

-- THE RECORD IS APPENDED
pub appended_one : {f : List ℕ} {a b : Checked} (x : Finding) → Ready f a → 1 ≤ x.check → x.check ≤ 5
    → 5 * a.n + 5 ≤ length f → b.n ≡ a.n + 1 → b.counts ≡ raised a.counts x.check → {f' : List ℕ}
    → f' ≡ set_finding f a.n x → Appended (λ y. y ≡ x) f a f' b false
appended_one {f} {a} {b} x r p q h en ec {f'} e = record {
  same_length = long;
  ready = record {
    room = omega (arith, long);
    few = omega (arith, r.few, long);
    counts = ec ∙ ap (λ c. raised c x.check) r.counts ∙ sym (five_snoc (finding_rows a.n f) x p q) ∙ ap five_counts (sym rows);
  };
  new = x ∷ [];
  records = rows;
  distinct = (λ i. in_nil i, tt);
  sound = λ y i. ⊎_elim (λ z. z) (λ j. absurd (in_nil j)) (in_cons i);
  all = λ _ y z. here z;
  over = λ z. true_false (sym z);
}
  where
    long : length f' ≡ length f
    long = ap length e ∙ length_put f a.n x

    rows : finding_rows b.n f' ≡ finding_rows a.n f ++ (x ∷ [])
    rows = ap₂ finding_rows en e ∙ records_put f a.n x h

-- nothing to append
pub appended_nothing : {C : Finding → Type 0} {f : List ℕ} {a : Checked} → Ready f a
    → ((x : Finding) → C x → ⊥) → Appended C f a f a false
appended_nothing {f = f} {a = a} r c = record {
  same_length = refl;
  ready = r;
  new = [];
  records = sym (append-nil (finding_rows a.n f));
  distinct = tt;
  sound = λ y i. absurd (in_nil i);
  all = λ _ y z. absurd (c y z);
  over = λ z. true_false (sym z);
}

-- the same records, under another description
pub appended_iff : {C D : Finding → Type 0} {f f' : List ℕ} {a b : Checked} {w : Bool} → ((x : Finding) → C x → D x)
    → ((x : Finding) → D x → C x) → Appended C f a f' b w → Appended D f a f' b w
appended_iff u v p = record {
  same_length = p.same_length;
  ready = p.ready;
  new = p.new;
  records = p.records;
  distinct = p.distinct;
  sound = λ x i. u x (p.sound x i);
  all = λ e x d. p.all e x (v x d);
  over = λ e. let o = p.over e in record { short = o.short; what = o.what; wanted = u o.what o.wanted; absent = o.absent };
}

-- two lists without repeats that have nothing in common
distinct_append : (xs ys : List Finding) → Distinct xs → Distinct ys → ((x : Finding) → In x xs → In x ys → ⊥) → Distinct (xs ++ ys)
distinct_append [] ys d e f = e
distinct_append (x ∷ xs) ys d e f =
    (λ i. ⊎_elim d.0 (f x (here refl)) (in_cases xs i), distinct_append xs ys d.1 e (λ y i j. f y (there i) j))

-- some records, and then others; where one did not fit, it is one of more that were wanted
module _ {C D E : Finding → Type 0} {f f' f'' : List ℕ} {a b c : Checked} {w : Bool} (p : Appended C f a f' b false)
    (q : Appended D f' b f'' c w) (apart : (x : Finding) → C x → D x → ⊥) (left : (x : Finding) → C x → E x)
    (right : (x : Finding) → D x → E x) where
  pub appended_then : (w ≡ false → (x : Finding) → E x → C x ⊎ D x) → Appended E f a f'' c w
  appended_then all = record {
    same_length = q.same_length ∙ p.same_length;
    ready = q.ready;
    new = p.new ++ q.new;
    records = q.records ∙ ap (λ r. r ++ q.new) p.records ∙ append_assoc (finding_rows a.n f) p.new q.new;
    distinct = distinct_append p.new q.new p.distinct q.distinct (λ x i j. apart x (p.sound x i) (q.sound x j));
    sound = λ x i. ⊎_elim (λ j. left x (p.sound x j)) (λ j. right x (q.sound x j)) (in_cases p.new i);
    all = λ z x i. ⊎_elim (λ j. in_left q.new (p.all refl x j)) (λ j. in_right p.new (q.all z x j)) (all z x i);
    over = λ z. let o = q.over z in record {
      short = o.short;
      what = o.what;
      wanted = right o.what o.wanted;
      absent = λ i. ⊎_elim (λ j. apart o.what (p.sound o.what j) o.wanted) o.absent (in_cases p.new i);
    };
  }
