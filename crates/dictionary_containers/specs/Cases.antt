-- The worked cases of local names, REFERENCE 11.2, one table, by the value and by the digits; proofs/Cases.antt proves it by one theorem.
-- Assumes nothing.
use Rattle.std.specs.Prelude.{◌≡◌, Bool, true, false, ◌&&◌, List, [], ◌∷◌, ◌++◌, map, ℕ, drop, replicate}
use Prim.Native.String.{String}
use Rattle.common.specs.Text.{text}
use Rattle.dictionary_containers.specs.Containers.{starts_with, is_container_term}
use Rattle.dictionary_containers.specs.ByDigits.{is_number_by_digits}

-- a local name of the rdf namespace, and whether it is a container property's
pub record Name : Type 0 where
  pub local : List ℕ
  pub container : Bool

abbrev pub bytes : List ℕ → Bool → Name
bytes l b = record { local = l; container = b }

abbrev pub name : String → Bool → Name
name s b = bytes (text s) b

-- `_`, a hundred zeros, and then these digits
abbrev pub after_hundred : String → Bool → Name
after_hundred s b = bytes (text "_" ++ replicate 100 48 ++ text s) b

-- the answers for a local name
abbrev pub by_value : List ℕ → Bool
by_value l = is_container_term 1 (text "http://www.w3.org/1999/02/22-rdf-syntax-ns#" ++ l)

abbrev pub by_digits : List ℕ → Bool
by_digits l = starts_with (text "_") l && is_number_by_digits (drop 1 l)

abbrev pub AllHold : List Name → Type 0
AllHold ns =
    (map (λ n. by_value n.local) ns ≡ map (λ n. n.container) ns) × (map (λ n. by_digits n.local) ns ≡ map (λ n. n.container) ns)

abbrev pub names : List Name
names =
    -- no digit left
    name "_" false ∷
    name "_0" false ∷
    name "_00" false ∷
    name "_000" false ∷
    after_hundred "" false ∷
    -- 1 to 19
    name "_1" true ∷
    name "_01" true ∷
    name "_9999999999999999999" true ∷
    after_hundred "9999999999999999999" true ∷
    -- 20, not above the largest number
    name "_10000000000000000000" true ∷
    name "_18446744073709551614" true ∷
    name "_18446744073709551615" true ∷
    name "_00018446744073709551615" true ∷
    after_hundred "18446744073709551615" true ∷
    -- 20, above it
    name "_18446744073709551616" false ∷
    after_hundred "18446744073709551616" false ∷
    name "_20000000000000000000" false ∷
    name "_99999999999999999999" false ∷
    -- one digit other than the largest number's: the first, one in the middle, the last but one and the last
    name "_08446744073709551615" true ∷
    name "_28446744073709551615" false ∷
    name "_18446744063709551615" true ∷
    name "_18446744083709551615" false ∷
    name "_18446744073709551605" true ∷
    name "_18446744073709551625" false ∷
    -- the first digit that differs decides, whatever follows it
    name "_18446744073709551599" true ∷
    name "_18446744073709551620" false ∷
    -- over 20
    name "_100000000000000000000" false ∷
    name "_184467440737095516150" false ∷
    -- bytes that are no digits: a letter at each end, a sign, the full-width digit 1, one behind the 20th digit
    name "_1a" false ∷
    name "_a1" false ∷
    name "_+1" false ∷
    name "_-1" false ∷
    bytes (text "_" ++ (239 ∷ 188 ∷ 145 ∷ [])) false ∷
    name "_18446744073709551615a" false ∷
    -- no `_`
    name "" false ∷
    name "1" false ∷
    name "li" false ∷
    []
