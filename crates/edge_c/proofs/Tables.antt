-- A table of bytes as it is passed on, and what start and put leave in it. Assumes nothing.
use Rattle.std.specs.Prelude.{Result, Ok, Err}
use Rattle.common.specs.declared.refusal.Refusal.{Refusal}
use Rattle.common.specs.Refusals.{number_of, answer_number}
use mathlib.Core.Path.{◌≡◌, refl, sym, ap, subst, ◌∙◌}
use mathlib.Core.Logic.{◌⊎◌, inl, inr, ⊎_elim, ◌≢◌}
use mathlib.Core.Bool.{Bool, true, false}
use mathlib.Core.List.{List}
use Prim.Native.Nat.{ℕ, zero, suc, ◌*◌, ◌<◌}
use native.Mathlib.Omega.{arith}
use lib.Dec.{T}
use lib.ListN.{length}
use Rattle.common.specs.Triples.{if}
use Rattle.common.specs.Sizes.{heads_width, table_limit}
use Rattle.dictionary_layout.specs.Terms.{Term, start_terms}
use Rattle.dictionary_layout.specs.Layout.{Dict, dict, layout}
use Rattle.dictionary_layout.specs.Dictionary.{sized, start_fits, start_refusal, valid}
use Rattle.dictionary_layout.specs.Calls.{StartResult, start_result, start_gives, PutResult, put_result, put_gives}
use Rattle.dictionary_index.specs.Values.{start_left, put_left}
use Rattle.dictionary_layout.specs.declared.values.Counters.{Counters}
use Rattle.dictionary_index.specs.declared.values.PutNext.{PutNext}
use Rattle.dictionary_layout.proofs.Choice.{false→not_T, decide_bool}
use Rattle.dictionary_layout.proofs.Holding.{valid→, sized→}
use Rattle.dictionary_layout.proofs.Reachable.{refusal_4, refusal_none, start_accepts, start_refuses, put_broken}
use Rattle.edge_bytes.specs.Bytes.{read_buffer, changes, left_bytes}
use Rattle.edge_c.specs.Calls.{read_dict, start_in_bytes, start_bytes_give, put_in_bytes, put_bytes_give}
use Rattle.edge_bytes.proofs.Coding.{left_alone}
use Rattle.edge_c.proofs.Forwarding.{TableForwarded, whole, ragged, long, ReadTable}

-- a call that changes no buffer leaves the bytes, whatever numbers it worked on
pub same_left : (n : ℕ) (b l m : List ℕ) → false ≡ changes n → left_bytes n b l ≡ left_bytes n b m
same_left n b l m e = sym (left_alone n b l e) ∙ left_alone n b m e

pub quiet_1 : false ≡ changes 1
unfolding changes
quiet_1 = refl

not_quiet : (n : ℕ) → T (changes n) → false ≡ changes n → ⊥
not_quiet n t e = false→not_T (changes n) e t

-- THE ANSWERS of start and put: their numbers, and what they leave in a table of bytes
started_number : (r : Result Counters Refusal) (t a : List ℕ) → (start_left r t a).number ≡ answer_number r
started_number (Ok c) t a = refl
started_number (Err e) t a = refl

started_in_bytes : (r : Result Counters Refusal) (t a tb : List ℕ) {l : List ℕ} → l ≡ left_bytes (answer_number r) tb t
    → start_left r l a ≡ start_in_bytes tb (start_left r t a)
started_in_bytes (Ok c) t a tb q = ap (λ (m : List ℕ). start_result 0 (dict m a c.terms c.used)) q
started_in_bytes (Err e) t a tb q = ap (λ (m : List ℕ). start_result (number_of e) (dict m a 0 0)) q

put_number : (c : Counters) (r : Result PutNext Refusal) (t a : List ℕ) → (put_left c r t a).number ≡ answer_number r
put_number c (Ok r) t a = refl
put_number c (Err e) t a = refl

left_in_bytes : (c : Counters) (r : Result PutNext Refusal) (t a tb : List ℕ) {l : List ℕ} → l ≡ left_bytes (answer_number r) tb t
    → put_left c r l a ≡ put_in_bytes tb (put_left c r t a)
left_in_bytes c (Ok r) t a tb q = ap (λ (m : List ℕ). put_result 0 r.id.0 (dict m a r.counters.terms r.counters.used)) q
left_in_bytes c (Err e) t a tb q = ap (λ (m : List ℕ). put_result (number_of e) 0 (dict m a c.terms c.used)) q

too_short : (n al : ℕ) → n < heads_width → T (sized n al) → ⊥
too_short n al h s = omega (arith, (sized→ n al s).low)

too_long : (n al : ℕ) → table_limit < n → T (sized n al) → ⊥
too_long n al h s = omega (arith, (sized→ n al s).high)

module _ {tb : List ℕ} {n : ℕ} (h : TableForwarded tb n) (al : ℕ) where
  -- a table that is well sized is passed on whole
  table_whole : T (sized n al) → length tb ≡ 4 * n
  table_whole s = go h
    where
      go : TableForwarded tb n → length tb ≡ 4 * n
      go (whole p u q r) = p
      go (ragged p q) = absurd (too_short n al (omega arith) s)
      go (long p u q r) = absurd (too_short n al (omega arith) s)

  -- and one that is not is passed on as another that is not
  table_alike : (n ≡ length (read_buffer tb)) ⊎ ((T (sized n al) → ⊥) × (T (sized (length (read_buffer tb)) al) → ⊥))
  table_alike = go h
    where
      go : TableForwarded tb n → (n ≡ length (read_buffer tb)) ⊎ ((T (sized n al) → ⊥) × (T (sized (length (read_buffer tb)) al) → ⊥))
      go (whole p u q r) = inl q
      go (ragged p q) = inl (p ∙ sym q)
      go (long p u q r) = inr (too_short n al (omega arith), too_long (length (read_buffer tb)) al (omega arith))

-- START
-- refusals 4 and 7 change no buffer
start_quiet : (tl al : ℕ) → start_refusal tl al ≢ 0 → false ≡ changes (start_refusal tl al)
unfolding start_refusal changes
start_quiet tl al z = go (sized tl al) (start_fits tl al) z
  where
    number : Bool → Bool → ℕ
    number p q = if p (λ _. if q (λ _. 0) (λ _. 7)) (λ _. 4)

    go : (p q : Bool) → number p q ≢ 0 → false ≡ changes (number p q)
    go true true z = absurd (z refl)
    go true false z = refl
    go false q z = refl

start_number : (t a : List ℕ) → (start_gives t a).number ≡ start_refusal (length t) (length a)
start_number t a = go (start_refusal (length t) (length a)) refl
  where
    go : (n : ℕ) → start_refusal (length t) (length a) ≡ n → (start_gives t a).number ≡ start_refusal (length t) (length a)
    go zero e = ap (λ (r : StartResult). r.number) (start_accepts t a e) ∙ sym e
    go (suc n) e = sym (ap (λ (r : StartResult). r.number) (start_refuses t a (suc n) (sym e) (λ q. omega arith))) ∙ sym e

module _ (tb t a : List ℕ) (h : TableForwarded tb (length t)) where
  same_refusal : start_refusal (length t) (length a) ≡ start_refusal (length (read_buffer tb)) (length a)
  same_refusal =
      ⊎_elim (λ e. ap (λ (n : ℕ). start_refusal n (length a)) e)
      (λ p. sym (refusal_4 (length t) (length a) p.0) ∙ refusal_4 (length (read_buffer tb)) (length a) p.1)
      (table_alike h (length a))

  start_alike : start_in_bytes tb (start_gives t a) ≡ start_bytes_give tb a
  unfolding start_bytes_give
  start_alike = go (start_refusal (length t) (length a)) refl
    where
      refused : ℕ → List ℕ → StartResult
      refused n l = start_result n (dict l a 0 0)

      go : (n : ℕ) → start_refusal (length t) (length a) ≡ n
          → start_in_bytes tb (start_gives t a) ≡ start_in_bytes tb (start_gives (read_buffer tb) a)
      go zero e =
          let s = (refusal_none (length t) (length a) e).0 in
          let k : length t ≡ length (read_buffer tb) = ⊎_elim (λ p. p) (λ p. absurd (p.0 s)) (table_alike h (length a)) in
          ap (start_in_bytes tb) (start_accepts t a e ∙ ap (λ (n : ℕ). start_result 0 (layout n (length a) start_terms)) k
          ∙ sym (start_accepts (read_buffer tb) a (sym same_refusal ∙ e)))
      go (suc n) e =
          let z : suc n ≢ 0 = λ q. omega arith in
          let k : false ≡ changes (suc n) = subst (λ (m : ℕ). false ≡ changes m) e (start_quiet (length t) (length a) (λ q. omega arith))
          in
          sym (ap (start_in_bytes tb) (start_refuses t a (suc n) (sym e) z))
          ∙ ap (λ (l : List ℕ). refused (suc n) l) (same_left (suc n) tb t (read_buffer tb) k)
          ∙ ap (start_in_bytes tb) (start_refuses (read_buffer tb) a (suc n) (sym e ∙ same_refusal) z)

  module _ (r : Result Counters Refusal) (t' a' : List ℕ) (e : start_left r t' a' ≡ start_gives t a) where
    pub start_room : length t' ≡ length t → T (changes (answer_number r)) → length tb ≡ 4 * length t'
    start_room k c =
        subst (λ (n : ℕ). length tb ≡ 4 * n) (sym k)
        (table_whole h (length a) (refusal_none (length t) (length a) (none (start_refusal (length t) (length a)) refl)).0)
      where
        number : answer_number r ≡ start_refusal (length t) (length a)
        number = sym (started_number r t' a') ∙ ap (λ (x : StartResult). x.number) e ∙ start_number t a

        none : (n : ℕ) → start_refusal (length t) (length a) ≡ n → start_refusal (length t) (length a) ≡ 0
        none zero q = q
        none (suc n) q =
            absurd (not_quiet (answer_number r) c (subst (λ (m : ℕ). false ≡ changes m) (sym number)
            (start_quiet (length t) (length a) (λ z. omega arith))))

    pub started : {tb' : List ℕ} → tb' ≡ left_bytes (answer_number r) tb t' → start_left r tb' a' ≡ start_bytes_give tb a
    started q = started_in_bytes r t' a' tb q ∙ (ap (start_in_bytes tb) e ∙ start_alike)

-- PUT, and every call that is lent a dictionary: its contents are passed on, or others that are broken too
abbrev pub with_table : List ℕ → Dict → Dict
with_table t d = dict t d.arena d.terms d.used

-- the dictionary d has a table of bytes, from which the numbers t were read
module _ (d : Dict) {t : List ℕ} (h : ReadTable d.table t) where
  abbrev al : ℕ
  al = length d.arena

  broken : (l : List ℕ) → (T (sized (length l) al) → ⊥) → T (valid (with_table l d)) → ⊥
  broken l f v = f (valid→ (with_table l d) v).0.sizes

  pub dict_alike : (with_table t d ≡ read_dict d) ⊎ ((T (valid (with_table t d)) → ⊥) × (T (valid (read_dict d)) → ⊥))
  dict_alike = go h.passed
    where
      own : List ℕ
      own = read_buffer d.table

      go : TableForwarded d.table (length t)
          → (with_table t d ≡ read_dict d) ⊎ ((T (valid (with_table t d)) → ⊥) × (T (valid (read_dict d)) → ⊥))
      go (whole p o q r) = inl (ap (λ (l : List ℕ). with_table l d) (h.numbers p ∙ sym r))
      go (ragged p q) =
          inr (broken t (too_short (length t) al (omega arith)), broken own (too_short (length own) al (omega arith)))
      go (long p o q r) =
          inr (broken t (too_short (length t) al (omega arith)), broken own (too_long (length own) al (omega arith)))

  -- the table of a dictionary that is not broken is passed on whole
  pub dict_room : (t' : List ℕ) → length t' ≡ length t → T (valid (with_table t d)) → length d.table ≡ 4 * length t'
  dict_room t' k v =
      subst (λ (m : ℕ). length d.table ≡ 4 * m) (sym k) (table_whole h.passed al (valid→ (with_table t d) v).0.sizes)

  module _ (x : Term) where
    put_alike : put_in_bytes d.table (put_gives (with_table t d) x) ≡ put_bytes_give d x
    unfolding put_bytes_give
    put_alike =
        ⊎_elim (λ e. ap (λ (y : Dict). put_in_bytes d.table (put_gives y x)) e)
        (λ p. ap (put_in_bytes d.table) (put_broken (with_table t d) x p.0)
        ∙ ap refused (same_left 1 d.table t (read_buffer d.table) quiet_1)
        ∙ sym (ap (put_in_bytes d.table) (put_broken (read_dict d) x p.1))) dict_alike
      where
        refused : List ℕ → PutResult
        refused l = put_result 1 0 (with_table l d)

    module _ (c : Counters) (r : Result PutNext Refusal) (t' a' : List ℕ) (e : put_left c r t' a' ≡ put_gives (with_table t d) x) where
      pub put_room : length t' ≡ length t → T (changes (answer_number r)) → length d.table ≡ 4 * length t'
      put_room k h = ⊎_elim (λ v. dict_room t' k v) (λ f. absurd (refused f)) (decide_bool (valid (with_table t d)))
        where
          refused : (T (valid (with_table t d)) → ⊥) → ⊥
          refused f =
              let q = sym (put_number c r t' a') ∙ ap (λ (y : PutResult). y.number) (e ∙ put_broken (with_table t d) x f) in
              not_quiet 1 (subst (λ (m : ℕ). T (changes m)) q h) quiet_1

      pub put_done : {tb' : List ℕ} → tb' ≡ left_bytes (answer_number r) d.table t' → put_left c r tb' a' ≡ put_bytes_give d x
      put_done q = left_in_bytes c r t' a' d.table q ∙ (ap (put_in_bytes d.table) e ∙ put_alike)
