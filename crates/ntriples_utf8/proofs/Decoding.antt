-- The loop that decodes: what is decoded, in front of what the rest decodes to. Assumes nothing.
use mathlib.Core.Path.{◌≡◌, refl, sym, ap, ◌∙◌}
use mathlib.Core.Bool.{◌&&◌}
use mathlib.Core.Option.{Option, some, none}
use mathlib.Core.List.{List, [], ◌∷◌, ◌++◌, append-nil}
use Rattle.std.specs.Prelude.{Some, None}
use Prim.Native.Nat.{ℕ, suc, ◌+◌, ◌-◌, ◌*◌, ◌≤◌, ◌<◌}
use native.Mathlib.Numerals.{add-one}
use native.Mathlib.Omega.{arith}
use lib.Dec.{leb, ltb}
use lib.ListN.{length, get_or, take, drop, set, length-set, length-drop, drop_of_length-le}
use lib.Seq.{drop-cons, drop-drop, take-suc-set, append_snoc}
use Rattle.ntriples.specs.Utf8.{within, scalar, Taken, taken, tail, fit, two, three, four, first, on, prefix, decode_after, decode}
use Rattle.ntriples.proofs.Tests.{if_ind, no_some}
use Rattle.ntriples.proofs.Bytes.{decode_drop}
use Rattle.ntriples_utf8.specs.Promises.{Decodes}

-- NO BYTES BEYOND THE LAST are read: what is read took at most n
abbrev Few : ℕ → Option Taken → Type 0
Few n o = (v k : ℕ) → some (taken v k) ≡ o → k ≤ n

-- how many it took
abbrev extra_of : Option Taken → ℕ
extra_of (some t) = t.extra
extra_of none = 0

-- nothing was read
few_none : (n : ℕ) → Few n none
few_none n v k e = no_some (sym e)

-- a value was read
few_some : (w j n : ℕ) → j ≤ n → Few n (some (taken w j))
few_some w j n h v k e = let q : k ≡ j = ap extra_of e in omega arith

-- where it fits
few_fit : (least w j n : ℕ) → j ≤ n → Few n (fit least w j)
few_fit least w j n h = if_ind (Few n) (leb least w && scalar w) _ _ (λ _. few_some w j n h) (λ _. few_none n)

-- with one byte more, two and three
few_two : (a : ℕ) (bs : List ℕ) → Few (length bs) (two a bs)
few_two a [] = few_none 0
few_two a (b ∷ bs) =
    let n = suc (length bs) in if_ind (Few n) (tail b) _ _ (λ _. few_fit 128 (64 * a + (b - 128)) 1 n (omega arith)) (λ _. few_none n)

few_three : (a : ℕ) (bs : List ℕ) → Few (length bs) (three a bs)
few_three a [] = few_none 0
few_three a (b ∷ []) = few_none 1
few_three a (b ∷ c ∷ bs) =
    let n = suc (suc (length bs)) in
    if_ind (Few n) (tail b && tail c) _ _ (λ _. few_fit 2048 (4096 * a + 64 * (b - 128) + (c - 128)) 2 n (omega arith)) (λ _. few_none n)

few_four : (a : ℕ) (bs : List ℕ) → Few (length bs) (four a bs)
few_four a [] = few_none 0
few_four a (b ∷ []) = few_none 1
few_four a (b ∷ c ∷ []) = few_none 2
few_four a (b ∷ c ∷ d ∷ bs) =
    let n = suc (suc (suc (length bs))) in
    if_ind (Few n) (tail b && (tail c && tail d)) _ _
    (λ _. few_fit 65536 (262144 * a + 4096 * (b - 128) + 64 * (c - 128) + (d - 128)) 3 n (omega arith)) (λ _. few_none n)

-- by the lead byte
first_few : (a : ℕ) (bs : List ℕ) → Few (length bs) (first a bs)
unfolding first
first_few a bs =
    let n = length bs in
    if_ind (Few n) (ltb a 128) _ _ (λ _. few_some a 0 n (omega arith)) λ _.
    if_ind (Few n) (within 192 223 a) _ _ (λ _. few_two (a - 192) bs) λ _.
    if_ind (Few n) (within 224 239 a) _ _ (λ _. few_three (a - 224) bs) λ _.
    if_ind (Few n) (within 240 247 a) _ _ (λ _. few_four (a - 240) bs) λ _. few_none n

-- THE LOOP: n scalar values of the first i bytes
pub record Decoding (bytes old chars : List ℕ) (i n : ℕ) : Type 0 where
  pub whole : decode bytes ≡ on (decode (drop i bytes)) (λ cs. some (take n chars ++ cs))
  pub few : n ≤ i
  pub upto : i ≤ length bytes
  pub same : length chars ≡ length old

module _ {bytes old chars : List ℕ} {i n : ℕ} (d : Decoding bytes old chars i n) (h : i < length bytes) where
  -- the bytes from i on: what the first of them begin, and the rest
  step : decode (drop i bytes)
      ≡ on (first (get_or bytes i 0) (drop (i + 1) bytes)) (λ t. on (decode_after t.extra (drop (i + 1) bytes)) (prefix t.value))
  unfolding decode_after
  step = rw (drop-cons bytes i 0 h, add-one i) refl

  -- they begin no scalar value
  pub decoding_bad : none ≡ first (get_or bytes i 0) (drop (i + 1) bytes) → Decodes bytes None chars
  decoding_bad e =
      let b : decode (drop i bytes) ≡ none = step ∙ rw (sym e) refl in
      record { chars_are = sym (d.whole ∙ rw b refl); few = omega arith }

  -- they begin one: it goes behind the others
  module _ (room : length bytes ≤ length old) (c k : ℕ) (e : some (taken c k) ≡ first (get_or bytes i 0) (drop (i + 1) bytes)) where
    -- its bytes are there
    pub extra_few : i + (1 + k) ≤ length bytes
    extra_few = let f = first_few (get_or bytes i 0) (drop (i + 1) bytes) c k e in let l = length-drop (i + 1) bytes in omega arith

    -- the bytes behind it
    rest : decode (drop i bytes) ≡ on (decode (drop (i + (1 + k)) bytes)) (prefix c)
    rest =
        let s : (i + 1) + k ≡ i + (1 + k) = omega arith in
        let g : decode_after k (drop (i + 1) bytes) ≡ decode (drop (i + (1 + k)) bytes) =
        decode_drop k (drop (i + 1) bytes) ∙ ap decode (drop-drop k (i + 1) bytes ∙ rw s refl) in
        step ∙ rw (sym e) (ap (λ o. on o (prefix c)) g)

    -- what they decode to, behind one value more
    behind : (o : Option (List ℕ)) → on (on o (prefix c)) (λ cs. some (take n chars ++ cs))
        ≡ on o (λ cs. some (take (n + 1) (set chars n c) ++ cs))
    behind none = refl
    behind (some cs) =
        let f = d.few in
        let l = d.same in
        rw (add-one n, take-suc-set chars n c (omega arith)) (ap some (sym (append_snoc (take n chars) c cs)))

    -- so the loop goes on
    pub decoding_next : Decoding bytes old (set chars n c) (i + (1 + k)) (n + 1)
    decoding_next =
        let f = d.few in
        record {
          whole = d.whole ∙ rw rest (behind (decode (drop (i + (1 + k)) bytes)));
          few = omega arith;
          upto = extra_few;
          same = length-set chars n c ∙ d.same;
        }

-- nothing is left
pub decoding_end : {bytes old chars : List ℕ} {i n : ℕ} → Decoding bytes old chars i n → length bytes ≤ i → Decodes bytes (Some n) chars
unfolding decode_after
decoding_end {bytes} {old} {chars} {i} {n} d h =
    let f = d.few in
    let u = d.upto in
    record {
      chars_are = sym (d.whole ∙ rw (drop_of_length-le bytes h) (ap some (append-nil (take n chars))));
      few = omega arith;
    }
