-- A load between two lines: its triples, then zeros, and one triple more. Assumes nothing.
use mathlib.Core.Path.{◌≡◌, refl, sym, ◌∙◌, ap, ap₂, subst}
use mathlib.Core.List.{List, [], ◌∷◌, ◌++◌}
use Prim.Native.Nat.{ℕ, suc, ◌+◌, ◌-◌, ◌*◌, ◌≤◌, ◌<◌}
use native.Mathlib.Omega.{arith}
use lib.Dec.{T, ltb, ltb→lt, lt→ltb}
use lib.ListN.{length, take, drop, set, replicate, length-append, length-replicate}
use lib.Seq.{sets, sets-eq, take_at, drop-append-add, length-take-le, length-sets}
use Rattle.common.specs.Sizes.{load_width, load_limit}
use Rattle.common.specs.Triples.{Triple}
use Rattle.common.specs.Rows.{flat, triples, filled, cleared}
use Rattle.common.proofs.Lists.{and→, and←}
use Rattle.common.proofs.Rows.{flat_triples, triples_flat}
use Rattle.ntriples.specs.Reading.{fits}
use Rattle.driver_read.specs.Lines.{so_far, Rows, cap, Added, Unadded}

-- a load that was cleared has no triple yet
pub none_read : (load : List ℕ) {m : List ℕ} → m ≡ cleared 0 load → Rows m 0
unfolding cleared
none_read load {m} e =
    let long : length m ≡ length load - 0 = ap length e ∙ length-replicate {A = ℕ} (length load - 0) 0 in
    let q : length load - 0 ≡ length m - 0 = omega arith in
    record { within = omega arith; rest = e ∙ ap (λ (n : ℕ). replicate n 0) q }

module _ {load : List ℕ} {k : ℕ} (r : Rows load k) where
  front_long : length (take (load_width * k) load) ≡ load_width * k
  front_long = length-take-le (load_width * k) load r.within

  -- its triples: k of them, as they stand
  pub so_far_count : length (so_far load k) ≡ k
  so_far_count = (flat_triples k (take (load_width * k) load) front_long).1

  so_far_flat : flat (so_far load k) ≡ take (load_width * k) load
  so_far_flat = (flat_triples k (take (load_width * k) load) front_long).0

  -- THE LOAD is filled with them
  pub so_far_filled : load ≡ filled load (flat (so_far load k))
  unfolding cleared
  so_far_filled =
      r.rest
      ∙ (λ i. sym so_far_flat i ++ replicate (length load - (sym (ap length so_far_flat ∙ front_long)) i) 0)

  -- room for one more
  pub room : k < load_limit → load_width * k + load_width ≤ length load → T (fits (cap load) (so_far load k))
  room a b =
      let n = so_far_count in
      and← (ltb (length (so_far load k)) load_limit) (ltb (length (so_far load k)) (cap load))
      (lt→ltb (length (so_far load k)) load_limit (omega arith)) (lt→ltb (length (so_far load k)) (cap load) (omega arith))

  pub full_limit : load_limit ≤ k → Unadded load k load
  full_limit a = record {
    no_room = λ t. let n = so_far_count in
        let (p, q) = and→ (ltb (length (so_far load k)) load_limit) (ltb (length (so_far load k)) (cap load)) t in
        omega (arith, ltb→lt (length (so_far load k)) load_limit p);
    same = refl;
  }

  pub full_load : length load < load_width * k + load_width → Unadded load k load
  full_load a = record {
    no_room = λ t. let n = so_far_count in
        let (p, q) = and→ (ltb (length (so_far load k)) load_limit) (ltb (length (so_far load k)) (cap load)) t in
        omega (arith, ltb→lt (length (so_far load k)) (cap load) q);
    same = refl;
  }

  -- what was added had room
  pub added_few : {x : Triple} {new : List ℕ} → Added load k x new → k < load_limit
  added_few a =
      let n = so_far_count in
      let (p, q) = and→ (ltb (length (so_far load k)) load_limit) (ltb (length (so_far load k)) (cap load)) a.room in
      omega (arith, ltb→lt (length (so_far load k)) load_limit p)

  -- ONE MORE
  module _ (x : Triple) (b : load_width * k + load_width ≤ length load) where
    abbrev at : ℕ
    at = load_width * k

    abbrev new : List ℕ
    new = sets load (load_width * k) (x.s ∷ x.p ∷ x.o ∷ [])

    -- the zeros behind it
    abbrev rest : ℕ
    rest = length load - (at + 3)

    behind : drop (at + 3) load ≡ replicate rest 0
    unfolding cleared
    behind =
        let q : length load - at ≡ suc (suc (suc rest)) = omega arith in
        let f : at + 3 ≡ length (take at load) + 3 = omega (arith, front_long) in
        ap₂ (λ (n : ℕ) (l : List ℕ). drop n l) f (r.rest ∙ ap (λ (n : ℕ). take at load ++ replicate n 0) q)
        ∙ drop-append-add (take at load) (replicate (suc (suc (suc rest))) 0) 3

    abbrev both : List ℕ
    both = flat (so_far load k) ++ flat (x ∷ [])

    both_long : length both ≡ load_width * (k + 1)
    both_long =
        let e = length-append (flat (so_far load k)) (flat (x ∷ [])) in
        let f = ap length so_far_flat in
        omega (arith, front_long)

    new_is : new ≡ both ++ replicate rest 0
    new_is =
        sets-eq (flat (x ∷ [])) load at (omega arith) ∙ ap₂ (λ (u v : List ℕ). u ++ flat (x ∷ []) ++ v) (sym so_far_flat) behind

    new_long : length new ≡ length load
    new_long = length-sets load at (flat (x ∷ []))

    new_front : take (load_width * (k + 1)) new ≡ both
    new_front = ap (take (load_width * (k + 1))) new_is ∙ take_at both (replicate rest 0) (load_width * (k + 1)) both_long

    new_rest : new ≡ cleared (load_width * (k + 1)) new
    unfolding cleared
    new_rest =
        let q : rest ≡ length new - load_width * (k + 1) = omega (arith, new_long) in
        new_is ∙ ap₂ (λ (l : List ℕ) (n : ℕ). l ++ replicate n 0) (sym new_front) q

    added : k < load_limit → Added load k x new
    added a = record {
      room = room a b;
      rows = record { within = omega (arith, new_long); rest = new_rest };
      more = ap triples new_front ∙ triples_flat (so_far load k) (x ∷ []);
    }

    -- as the code writes it
    pub added_at : {l : List ℕ} → k < load_limit → l ≡ set (set (set load at x.s) (at + 1) x.p) (at + 2) x.o
        → Added load k x l
    added_at a e =
        let p : at + 1 ≡ suc at = omega arith in
        let q : at + 2 ≡ suc (suc at) = omega arith in
        subst (Added load k x) (sym (e ∙ ap₂ (λ (m n : ℕ). set (set (set load at x.s) m x.p) n x.o) p q)) (added a)
