-- A character of IRIREF or STRING_LITERAL_QUOTE, raw or escaped: its value is a scalar value, and the characters that it took are there.
-- Assumes nothing.
use mathlib.Core.Path.{◌≡◌, sym, ap}
use mathlib.Core.Bool.{Bool, true, false}
use mathlib.Core.Option.{Option, some}
use mathlib.Core.List.{List, [], ◌∷◌}
use Prim.Native.Nat.{ℕ, zero, suc, ◌+◌, ◌*◌, ◌≤◌}
use native.Mathlib.Omega.{arith}
use lib.Dec.{T, eqb, eqb→eq}
use lib.ListN.{length}
use Rattle.common.specs.Triples.{if}
use Rattle.ntriples.specs.Utf8.{scalar, Taken, taken, on}
use Rattle.ntriples.specs.Characters.{one_of, hex, echar}
use Rattle.ntriples.specs.Grammar.{when, hexes, uchar, escape}
use Rattle.ntriples.proofs.Tests.{if_ind, no_some, on→, when→}
use Rattle.ntriples.proofs.Utf8.{scalar_top}
use Rattle.ntriples_utf8.specs.Promises.{top}
use Rattle.ntriples_tokens.specs.Promises.{raw, letters, character}

-- value v, and k characters after the first
pub record Sound (v k : ℕ) (cs : List ℕ) : Type 0 where
  pub small : v ≤ top
  pub few : k ≤ length cs

-- the parts of an answer
same_value : {v w k l : ℕ} → ◌≡◌ {A = Option Taken} (some (taken v k)) (some (taken w l)) → v ≡ w
same_value {v} {w} {k} {l} e = let t : taken v k ≡ taken w l = cc in ap (λ (t : Taken). t.value) t

same_extra : {v w k l : ℕ} → ◌≡◌ {A = Option Taken} (some (taken v k)) (some (taken w l)) → k ≡ l
same_extra {v} {w} {k} {l} e = let t : taken v k ≡ taken w l = cc in ap (λ (t : Taken). t.extra) t

-- n digits are there
hexes_long : (n v : ℕ) (cs : List ℕ) {w : ℕ} → hexes n v cs ≡ some w → n ≤ length cs
unfolding hexes
hexes_long zero v cs e = omega arith
hexes_long (suc n) v [] e = no_some e
hexes_long (suc n) v (c ∷ cs) {w} e =
    let g = on→ (hex c) (λ d. hexes n (16 * v + d) cs) w e in omega (arith, hexes_long n (16 * v + g.got) cs g.then)

-- UCHAR
uchar_sound : (n : ℕ) (cs : List ℕ) {v k : ℕ} → uchar n cs ≡ some (taken v k) → (v ≤ top) × (k ≤ suc (length cs))
unfolding uchar
uchar_sound n cs {v} {k} e =
    let g = on→ (hexes n 0 cs) (λ u. when (scalar u) (λ _. some (taken u (suc n)))) (taken v k) e in
    let w = when→ (scalar g.got) (λ _. some (taken g.got (suc n))) g.then in
    let l = hexes_long n 0 cs g.is in
    let t = scalar_top g.got w.0 in
    let a = same_value w.1 in
    let b = same_extra w.1 in
    (omega arith, omega arith)

-- ECHAR stands for small characters
echar_small : (c d : ℕ) → echar c ≡ some d → d ≤ 92
unfolding echar one_of
echar_small c d =
    const 116 9 (omega arith) (const 98 8 (omega arith) (const 110 10 (omega arith) (const 114 13 (omega arith) (const 102 12 (omega arith)
    (if_ind (λ (o : Option ℕ). o ≡ some d → d ≤ 92) (one_of (34 ∷ 39 ∷ 92 ∷ []) c) _ _
    (λ t e. let q : c ≡ d = cc in let m = same t in omega arith) (λ _ e. no_some e))))))
  where
    -- by the letters in turn
    const : (x y : ℕ) → y ≤ 92 → {o : Option ℕ} → (o ≡ some d → d ≤ 92) → if (eqb c x) (λ _. some y) (λ _. o) ≡ some d → d ≤ 92
    const x y l {o} k =
        if_ind (λ (o : Option ℕ). o ≡ some d → d ≤ 92) (eqb c x) (λ _. some y) (λ _. o) (λ _ e. let q : y ≡ d = cc in omega arith) (λ _. k)

    -- the last three stand for themselves
    here : (x : ℕ) → x ≤ 92 → (b : Bool) → (T b → c ≤ 92) → T (if (eqb c x) (λ _. true) (λ _. b)) → c ≤ 92
    here x l b k =
        if_ind (λ (b : Bool). T b → c ≤ 92) (eqb c x) (λ _. true) (λ _. b) (λ t _. let e = eqb→eq c x t in omega arith) (λ _. k)

    same : T (one_of (34 ∷ 39 ∷ 92 ∷ []) c) → c ≤ 92
    same = here 34 (omega arith) _ (here 39 (omega arith) _ (here 92 (omega arith) _ (λ t. absurd t)))

-- so do the letters of either token
letters_small : (b : Bool) (c d : ℕ) → letters b c ≡ some d → d ≤ top
letters_small true c d e = no_some e
letters_small false c d e = omega (arith, echar_small c d e)

-- an escape
escape_sound : (b : Bool) (cs : List ℕ) {v k : ℕ} → escape (letters b) cs ≡ some (taken v k) → Sound v k cs
unfolding escape
escape_sound b [] e = no_some e
escape_sound b (c ∷ cs) {v} {k} e =
    if_ind (λ (o : Option Taken). o ≡ some (taken v k) → Sound v k (c ∷ cs)) (eqb c 117) _ _ (λ _. by_number 4) (λ _.
    if_ind (λ (o : Option Taken). o ≡ some (taken v k) → Sound v k (c ∷ cs)) (eqb c 85) _ _ (λ _. by_number 8) (λ _. by_letter)) e
  where
    by_number : (n : ℕ) → uchar n cs ≡ some (taken v k) → Sound v k (c ∷ cs)
    by_number n e = let u = uchar_sound n cs e in record { small = u.0; few = u.1 }

    by_letter : on (letters b c) (λ d. some (taken d 1)) ≡ some (taken v k) → Sound v k (c ∷ cs)
    by_letter e =
        let g = on→ (letters b c) (λ d. some (taken d 1)) (taken v k) e in
        let s = letters_small b c g.got g.is in
        let x = same_value g.then in
        let y = same_extra g.then in
        record { small = omega arith; few = omega arith }

-- a character, raw or escaped
pub character_sound : (b : Bool) (c : ℕ) (cs : List ℕ) {v k : ℕ} → c ≤ top → some (taken v k) ≡ character b c cs → Sound v k cs
character_sound b c cs {v} {k} h e =
    if_ind (λ (o : Option Taken). o ≡ some (taken v k) → Sound v k cs) (eqb c 92) (λ _. escape (letters b) cs)
    (λ _. when (raw b c) (λ _. some (taken c 0))) (λ _. escape_sound b cs) (λ _. itself) (sym e)
  where
    itself : when (raw b c) (λ _. some (taken c 0)) ≡ some (taken v k) → Sound v k cs
    itself e =
        let w = when→ (raw b c) (λ _. some (taken c 0)) e in
        let x = same_value w.1 in
        let y = same_extra w.1 in
        record { small = omega arith; few = omega arith }
