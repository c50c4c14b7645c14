-- Decoding undoes encoding, and encoding decoding. Assumes nothing.
use mathlib.Core.Path.{◌≡◌, refl, sym, ◌∙◌, ap, ap₂, subst}
use mathlib.Core.Logic.{◌⊎◌, inl, inr}
use mathlib.Core.Bool.{◌&&◌}
use mathlib.Core.Option.{Option, some}
use mathlib.Core.List.{List, [], ◌∷◌, ◌++◌, append_assoc}
use Prim.Native.Nat.{ℕ, zero, suc, ◌+◌, ◌-◌, ◌*◌, ◌/◌, ◌%◌, ◌≤◌, ◌<◌}
use native.Mathlib.Omega.{arith}
use lib.Dec.{T, leb, ltb, leb→le, le→leb, ltb→lt, lt→ltb}
use lib.ListN.{length, drop, length-append}
use lib.Seq.{drop_at, drop-nil}
use Rattle.common.proofs.Lists.{and→, and←}
use Rattle.dictionary_layout.proofs.Choice.{if_yes, if_no}
use Rattle.ntriples.specs.Utf8.{within, scalar, Taken, taken, tail, fit, two, three, four, first, on, prefix, decode_after, decode}
use Rattle.ntriples.specs.Utf8.{encode_one, encode}
use Rattle.ntriples.specs.Characters.{all}
use Rattle.ntriples.proofs.Tests.{if_ind, in→, in←, or→, or_left, not_lt, no_some, same_some, on→}

-- the largest scalar value
pub scalar_top : (c : ℕ) → T (scalar c) → c ≤ 1114111
scalar_top c h = go (or→ (leb c 55295) (within 57344 1114111 c) h)
  where
    go : T (leb c 55295) ⊎ T (within 57344 1114111 c) → c ≤ 1114111
    go (inl t) = omega (arith, leb→le c 55295 t)
    go (inr t) = omega (arith, in→ 57344 1114111 c t)

-- below the surrogates all are scalar values
pub small_scalar : (c : ℕ) → c ≤ 55295 → T (scalar c)
small_scalar c h = or_left (leb c 55295) (within 57344 1114111 c) (le→leb c 55295 h)

fits : (least c v k : ℕ) → v ≡ c → least ≤ c → T (scalar c) → fit least v k ≡ some (taken c k)
fits least c v k e h s =
    subst (λ (x : ℕ). fit least x k ≡ some (taken c k)) (sym e)
    (if_yes (leb least c && scalar c) _ _ (and← (leb least c) (scalar c) (le→leb least c h) s))

-- what stands for one scalar value is read as it
pub record Coded (c : ℕ) (l : List ℕ) : Type 0 where
  pub lead : ℕ
  pub more : List ℕ
  pub whole : l ≡ lead ∷ more
  pub reads : (r : List ℕ) → first lead (more ++ r) ≡ some (taken c (length more))

module _ (c : ℕ) (s : T (scalar c)) where
  reads_one : c < 128 → Coded c (c ∷ [])
  unfolding first
  reads_one h = record { lead = c; more = []; whole = refl; reads = λ r. if_yes (ltb c 128) _ _ (lt→ltb c 128 h) }

  reads_two : 128 ≤ c → c < 2048 → Coded c ((192 + c / 64) ∷ (128 + c % 64) ∷ [])
  unfolding first
  reads_two low h =
      let a : ℕ = 192 + c / 64 in
      let x : ℕ = 128 + c % 64 in
      record {
        lead = a;
        more = x ∷ [];
        whole = refl;
        reads = λ r.
            if_ind (λ (o : Option Taken). o ≡ some (taken c 1)) (ltb a 128) _ _ (λ t. absurd (omega (arith, ltb→lt a 128 t))) λ _.
            if_ind (λ (o : Option Taken). o ≡ some (taken c 1)) (within 192 223 a) _ _
            (λ _. if_yes (tail x) _ _ (in← 128 191 x (omega arith) (omega arith))
            ∙ fits _ c (64 * (a - 192) + (x - 128)) 1 (omega arith) (omega arith) s)
            (λ n. absurd (n (in← 192 223 a (omega arith) (omega arith))));
      }

  reads_three : 2048 ≤ c → c < 65536 → Coded c ((224 + c / 4096) ∷ (128 + c / 64 % 64) ∷ (128 + c % 64) ∷ [])
  unfolding first
  reads_three low h =
      let a : ℕ = 224 + c / 4096 in
      let x : ℕ = 128 + c / 64 % 64 in
      let y : ℕ = 128 + c % 64 in
      record {
        lead = a;
        more = x ∷ y ∷ [];
        whole = refl;
        reads = λ r.
            if_ind (λ (o : Option Taken). o ≡ some (taken c 2)) (ltb a 128) _ _ (λ t. absurd (omega (arith, ltb→lt a 128 t))) λ _.
            if_ind (λ (o : Option Taken). o ≡ some (taken c 2)) (within 192 223 a) _ _ (λ t. absurd (omega (arith, in→ 192 223 a t))) λ _.
            if_ind (λ (o : Option Taken). o ≡ some (taken c 2)) (within 224 239 a) _ _
            (λ _. if_yes (tail x && tail y) _ _
            (and← (tail x) (tail y) (in← 128 191 x (omega arith) (omega arith)) (in← 128 191 y (omega arith) (omega arith)))
            ∙ fits _ c (4096 * (a - 224) + 64 * (x - 128) + (y - 128)) 2 (omega arith) (omega arith) s)
            (λ n. absurd (n (in← 224 239 a (omega arith) (omega arith))));
      }

  reads_four : 65536 ≤ c → Coded c ((240 + c / 262144) ∷ (128 + c / 4096 % 64) ∷ (128 + c / 64 % 64) ∷ (128 + c % 64) ∷ [])
  unfolding first
  reads_four low =
      let a : ℕ = 240 + c / 262144 in
      let x : ℕ = 128 + c / 4096 % 64 in
      let y : ℕ = 128 + c / 64 % 64 in
      let z : ℕ = 128 + c % 64 in
      let top = scalar_top c s in
      let f : c / 64 % 64 + 64 * (c / 4096) ≡ c / 64 = omega arith in
      let g : c / 4096 % 64 + 64 * (c / 262144) ≡ c / 4096 = omega arith in
      let whole : 262144 * (a - 240) + 4096 * (x - 128) + 64 * (y - 128) + (z - 128) ≡ c = omega arith in
      record {
        lead = a;
        more = x ∷ y ∷ z ∷ [];
        whole = refl;
        reads = λ r.
            if_ind (λ (o : Option Taken). o ≡ some (taken c 3)) (ltb a 128) _ _ (λ t. absurd (omega (arith, ltb→lt a 128 t))) λ _.
            if_ind (λ (o : Option Taken). o ≡ some (taken c 3)) (within 192 223 a) _ _ (λ t. absurd (omega (arith, in→ 192 223 a t))) λ _.
            if_ind (λ (o : Option Taken). o ≡ some (taken c 3)) (within 224 239 a) _ _ (λ t. absurd (omega (arith, in→ 224 239 a t))) λ _.
            if_ind (λ (o : Option Taken). o ≡ some (taken c 3)) (within 240 247 a) _ _
            (λ _. if_yes (tail x && (tail y && tail z)) _ _
            (and← (tail x) (tail y && tail z) (in← 128 191 x (omega arith) (omega arith))
            (and← (tail y) (tail z) (in← 128 191 y (omega arith) (omega arith)) (in← 128 191 z (omega arith) (omega arith))))
            ∙ fits _ c (262144 * (a - 240) + 4096 * (x - 128) + 64 * (y - 128) + (z - 128)) 3 whole (omega arith) s)
            (λ n. absurd (n (in← 240 247 a (omega arith) (omega arith))));
      }

  -- every scalar value
  pub coded : Coded c (encode_one c)
  unfolding encode_one
  coded =
      if_ind (Coded c) (ltb c 128) _ _ (λ t. reads_one (ltb→lt c 128 t)) λ n₁.
      if_ind (Coded c) (ltb c 2048) _ _ (λ t. reads_two (not_lt c 128 n₁) (ltb→lt c 2048 t)) λ n₂.
      if_ind (Coded c) (ltb c 65536) _ _ (λ t. reads_three (not_lt c 2048 n₂) (ltb→lt c 65536 t)) λ n₃.
      reads_four (not_lt c 65536 n₃)

-- bytes that are passed over
pass : (p r : List ℕ) → decode_after (length p) (p ++ r) ≡ decode r
unfolding decode_after
pass [] r = refl
pass (b ∷ p) r = pass p r

-- DECODING UNDOES ENCODING, in front of anything
pub decode_one : (c : ℕ) (r : List ℕ) → T (scalar c) → decode (encode_one c ++ r) ≡ on (decode r) (prefix c)
unfolding decode_after
decode_one c r s = go (encode_one c) (coded c s)
  where
    go : (l : List ℕ) → Coded c l → decode (l ++ r) ≡ on (decode r) (prefix c)
    go l d =
        ap (λ (x : List ℕ). decode (x ++ r)) d.whole
        ∙ (ap (λ (o : Option Taken). on o (λ t. on (decode_after t.extra (d.more ++ r)) (prefix t.value))) (d.reads r)
        ∙ ap (λ (o : Option (List ℕ)). on o (prefix c)) (pass d.more r))

-- so does a whole text
pub decode_encode : (cs : List ℕ) → T (all scalar cs) → decode (encode cs) ≡ some cs
unfolding encode decode_after
decode_encode [] h = refl
decode_encode (c ∷ cs) h =
    let (s, t) = and→ (scalar c) (all scalar cs) h in
    decode_one c (encode cs) s ∙ ap (λ (o : Option (List ℕ)). on o (prefix c)) (decode_encode cs t)

-- ENCODING UNDOES DECODING: the bytes taken are the value's
pub record Sound (a : ℕ) (bs : List ℕ) (t : Taken) : Type 0 where
  pub rest : List ℕ
  pub more : List ℕ
  pub split : bs ≡ more ++ rest
  pub count : t.extra ≡ length more
  pub one : encode_one t.value ≡ a ∷ more
  pub valid : T (scalar t.value)

fit→ : (least v k : ℕ) (t : Taken) → fit least v k ≡ some t → (least ≤ v) × T (scalar v) × (taken v k ≡ t)
fit→ least v k t e =
    if_ind (λ (o : Option Taken). o ≡ some t → (least ≤ v) × T (scalar v) × (taken v k ≡ t)) (leb least v && scalar v) _ _
    (λ h q. let (l, s) = and→ (leb least v) (scalar v) h in (leb→le least v l, s, same_some q)) (λ _ q. no_some q) e

one_of_four : (v : ℕ) → 65536 ≤ v → encode_one v ≡ (240 + v / 262144) ∷ (128 + v / 4096 % 64) ∷ (128 + v / 64 % 64) ∷ (128 + v % 64) ∷ []
unfolding encode_one
one_of_four v h =
    if_no (ltb v 128) _ _ (λ t. omega (arith, ltb→lt v 128 t))
    ∙ (if_no (ltb v 2048) _ _ (λ t. omega (arith, ltb→lt v 2048 t)) ∙ if_no (ltb v 65536) _ _ (λ t. omega (arith, ltb→lt v 65536 t)))

one_of_three : (v : ℕ) → 2048 ≤ v → v < 65536 → encode_one v ≡ (224 + v / 4096) ∷ (128 + v / 64 % 64) ∷ (128 + v % 64) ∷ []
unfolding encode_one
one_of_three v h k =
    if_no (ltb v 128) _ _ (λ t. omega (arith, ltb→lt v 128 t))
    ∙ (if_no (ltb v 2048) _ _ (λ t. omega (arith, ltb→lt v 2048 t)) ∙ if_yes (ltb v 65536) _ _ (lt→ltb v 65536 k))

one_of_two : (v : ℕ) → 128 ≤ v → v < 2048 → encode_one v ≡ (192 + v / 64) ∷ (128 + v % 64) ∷ []
unfolding encode_one
one_of_two v h k = if_no (ltb v 128) _ _ (λ t. omega (arith, ltb→lt v 128 t)) ∙ if_yes (ltb v 2048) _ _ (lt→ltb v 2048 k)

-- an ASCII character is its own byte
pub one_of_one : (v : ℕ) → v < 128 → encode_one v ≡ v ∷ []
unfolding encode_one
one_of_one v h = if_yes (ltb v 128) _ _ (lt→ltb v 128 h)

module _ (a : ℕ) (t : Taken) where
  abbrev Result : List ℕ → Option Taken → Type 0
  Result bs o = o ≡ some t → Sound a bs t

  sound_one : a < 128 → (bs : List ℕ) → taken a 0 ≡ t → Sound a bs t
  sound_one h bs e =
      subst (Sound a bs) e (record {
        rest = bs;
        more = [];
        split = refl;
        count = refl;
        one = one_of_one a h;
        valid = small_scalar a
            (omega arith);
      })

  sound_two : 192 ≤ a → a ≤ 223 → (bs : List ℕ) → Result bs (two (a - 192) bs)
  sound_two l u [] e = no_some e
  sound_two l u (b ∷ bs) e =
      if_ind (Result (b ∷ bs)) (tail b) _ _
      (λ h q.
      let w = in→ 128 191 b h in
      let v : ℕ = 64 * (a - 192) + (b - 128) in
      let f = fit→ _ v 1 t q in
      let g : 128 ≤ v = omega (arith, f.0) in
      let x : 192 + v / 64 ≡ a = omega arith in
      let y : 128 + v % 64 ≡ b = omega arith in
      subst (Sound a (b ∷ bs)) f.2
      (record {
        rest = bs;
        more = b ∷ [];
        split = refl;
        count = refl;
        one = one_of_two v g (omega arith)
            ∙ ap₂ (λ i j. i ∷ j ∷ []) x y;
        valid = f.1;
      }))
      (λ _ q. no_some q) e

  sound_three : 224 ≤ a → a ≤ 239 → (bs : List ℕ) → Result bs (three (a - 224) bs)
  sound_three l u [] e = no_some e
  sound_three l u (b ∷ []) e = no_some e
  sound_three l u (b ∷ c ∷ bs) e =
      if_ind (Result (b ∷ c ∷ bs)) (tail b && tail c) _ _
      (λ h q.
      let (hb, hc) = and→ (tail b) (tail c) h in
      let wb = in→ 128 191 b hb in
      let wc = in→ 128 191 c hc in
      let v : ℕ = 4096 * (a - 224) + 64 * (b - 128) + (c - 128) in
      let f = fit→ _ v 2 t q in
      let g : 2048 ≤ v = omega (arith, f.0) in
      let x : 224 + v / 4096 ≡ a = omega arith in
      let y : 128 + v / 64 % 64 ≡ b = omega arith in
      let z : 128 + v % 64 ≡ c = omega arith in
      let whole : encode_one v ≡ a ∷ b ∷ c ∷ [] = one_of_three v g (omega arith) ∙ (λ i. x i ∷ y i ∷ z i ∷ []) in
      subst (Sound a (b ∷ c ∷ bs)) f.2 (record { rest = bs; more = b ∷ c ∷ []; split = refl; count = refl; one = whole; valid = f.1 }))
      (λ _ q. no_some q) e

  sound_four : 240 ≤ a → a ≤ 247 → (bs : List ℕ) → Result bs (four (a - 240) bs)
  sound_four l u [] e = no_some e
  sound_four l u (b ∷ []) e = no_some e
  sound_four l u (b ∷ c ∷ []) e = no_some e
  sound_four l u (b ∷ c ∷ d ∷ bs) e =
      if_ind (Result (b ∷ c ∷ d ∷ bs)) (tail b && (tail c && tail d)) _ _
      (λ h q.
      let (hb, hk) = and→ (tail b) (tail c && tail d) h in
      let (hc, hd) = and→ (tail c) (tail d) hk in
      let wb = in→ 128 191 b hb in
      let wc = in→ 128 191 c hc in
      let wd = in→ 128 191 d hd in
      let v : ℕ = 262144 * (a - 240) + 4096 * (b - 128) + 64 * (c - 128) + (d - 128) in
      let f = fit→ _ v 3 t q in
      let g : 65536 ≤ v = omega (arith, f.0) in
      let x : 240 + v / 262144 ≡ a = omega arith in
      let y : 128 + v / 4096 % 64 ≡ b = omega arith in
      let z : 128 + v / 64 % 64 ≡ c = omega arith in
      let w : 128 + v % 64 ≡ d = omega arith in
      let whole : encode_one v ≡ a ∷ b ∷ c ∷ d ∷ [] = one_of_four v g ∙ (λ i. x i ∷ y i ∷ z i ∷ w i ∷ []) in
      subst (Sound a (b ∷ c ∷ d ∷ bs)) f.2
      (record { rest = bs; more = b ∷ c ∷ d ∷ []; split = refl; count = refl; one = whole; valid = f.1 }))
      (λ _ q. no_some q) e

  sound : (bs : List ℕ) → Result bs (first a bs)
  unfolding first
  sound bs =
      if_ind (Result bs) (ltb a 128) _ _ (λ h q. sound_one (ltb→lt a 128 h) bs (same_some q)) λ _.
      if_ind (Result bs) (within 192 223 a) _ _ (λ h. let w = in→ 192 223 a h in sound_two w.0 w.1 bs) λ _.
      if_ind (Result bs) (within 224 239 a) _ _ (λ h. let w = in→ 224 239 a h in sound_three w.0 w.1 bs) λ _.
      if_ind (Result bs) (within 240 247 a) _ _ (λ h. let w = in→ 240 247 a h in sound_four w.0 w.1 bs) λ _ q.
      no_some q

-- bytes that decode as the characters cs
pub record Decoded (bs cs : List ℕ) : Type 0 where
  pub same : encode cs ≡ bs
  pub valid : T (all scalar cs)

module _ (b : ℕ) (bs cs : List ℕ) (t : Taken) (ds : List ℕ) (d : Sound b bs t) (e : some (t.value ∷ ds) ≡ some cs) where
  long : t.extra ≤ length bs
  long = omega (arith, d.count, ap length d.split ∙ length-append d.more d.rest)

  join : Decoded (drop t.extra bs) ds → Decoded (b ∷ bs) cs
  unfolding encode
  join i =
      let q : t.value ∷ ds ≡ cs = cc in
      let r : drop t.extra bs ≡ d.rest =
      ap (λ (l : List ℕ). drop t.extra l) d.split ∙ drop_at d.more d.rest t.extra (sym d.count) in
      subst (Decoded (b ∷ bs)) q (
      record {
        same = ap₂ (λ x y. x ++ y) d.one (i.same ∙ r) ∙ ap (λ (l : List ℕ). b ∷ l) (sym d.split);
        valid = and← (scalar t.value) (all scalar ds) d.valid i.valid;
      }
      )

-- after k bytes
decoded_after : (k : ℕ) (bs cs : List ℕ) → decode_after k bs ≡ some cs → k ≤ length bs → Decoded (drop k bs) cs
unfolding decode_after encode
decoded_after k [] cs e h = let q : [] ≡ cs = cc in subst (Decoded (drop k [])) q (record { same = sym (drop-nil k); valid = tt })
decoded_after zero (b ∷ bs) cs e h =
    let w = on→ (first b bs) (λ t. on (decode_after t.extra bs) (prefix t.value)) cs e in
    let x = on→ (decode_after w.got.extra bs) (prefix w.got.value) cs w.then in
    let d = sound b w.got bs w.is in
    join b bs cs w.got x.got d x.then
    (decoded_after w.got.extra bs x.got x.is (long b bs cs w.got x.got d x.then))
decoded_after (suc k) (b ∷ bs) cs e h = decoded_after k bs cs e (omega arith)

-- ENCODING UNDOES DECODING: bytes that decode are the encoding of scalar values
pub decoded : (bs cs : List ℕ) → decode bs ≡ some cs → Decoded bs cs
decoded bs cs e = decoded_after 0 bs cs e (omega arith)

-- what was decoded are scalar values
pub decoded_scalars : (bs cs : List ℕ) → decode bs ≡ some cs → T (all scalar cs)
decoded_scalars bs cs e = (decoded bs cs e).valid

-- texts one after the other
pub encode_append : (a b : List ℕ) → encode (a ++ b) ≡ encode a ++ encode b
unfolding encode
encode_append [] b = refl
encode_append (c ∷ a) b =
    ap (λ (l : List ℕ). encode_one c ++ l) (encode_append a b) ∙ sym (append_assoc (encode_one c) (encode a) (encode b))
