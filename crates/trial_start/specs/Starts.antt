-- What is said of a start in buffers of given lengths. REFERENCE 3.1: a refused start returns its number and 0 for the counters, and
-- changes no buffer; an accepted start leaves a dictionary of its 31 terms, of 1,325 bytes. Assumes nothing.
use Rattle.std.specs.Prelude.{Bool, false, ◌&&◌, List, [], ◌∷◌, ℕ, eqb, ltb, length, take, replicate}
use Rattle.common.specs.Triples.{if}
use Rattle.dictionary_layout.specs.Terms.{term}
use Rattle.dictionary_layout.specs.Layout.{Dict}
use Rattle.dictionary_layout.specs.Dictionary.{LookupAnswer, same_row, valid}
use Rattle.dictionary_layout.specs.Calls.{StartResult, PutResult, start_gives, put_gives, lookup_gives}

-- what every number and every byte of the buffers is beforehand
abbrev pub mark : ℕ
mark = 5

-- a buffer is as it was
abbrev pub kept : List ℕ → Bool
kept l = same_row l (replicate (length l) mark)

abbrev pub counted : ℕ → ℕ → ℕ → ℕ → Bool
counted n u terms used = eqb n terms && eqb u used

-- what an accepted start leaves, and a refused one
abbrev pub started : Dict → Bool
started d = counted d.terms d.used 31 1325 && valid d

abbrev pub refused : Dict → Bool
refused d = counted d.terms d.used 0 0 && (kept d.table && kept d.arena)

-- a start gives the number
unfoldable pub number_is : ℕ → StartResult → Bool
number_is n s = if (eqb s.number n) (λ _. if (eqb n 0) (λ _. started s.contents) (λ _. refused s.contents)) (λ _. false)

-- the bytes of the blank node b0, the first term that is put
abbrev pub b0 : List ℕ
b0 = 98 ∷ 48 ∷ []

abbrev pub is_put : PutResult → Bool
is_put p = eqb p.number 0 && (eqb p.id 31 && counted p.contents.terms p.contents.used 32 1327)

abbrev pub is_b0 : LookupAnswer → Bool
is_b0 l = eqb l.number 0 && (eqb l.kind 2 && same_row l.part b0)

-- a term that is put after a start is found again
unfoldable pub finds : StartResult → Bool
finds s =
    let p = put_gives s.contents (term 2 b0) in
    if (eqb s.number 0) (λ _. if (is_put p) (λ _. is_b0 (lookup_gives p.contents 31)) (λ _. false)) (λ _. false)

-- of these two what is asked
unfoldable pub said : Bool → ℕ → StartResult → Bool
said f n s = if f (λ _. finds s) (λ _. number_is n s)

-- the same of a start in the first t numbers and the first a bytes, where there are so many
unfoldable pub said_in : List ℕ → List ℕ → ℕ → ℕ → ℕ → Bool → Bool
said_in table arena t a n f =
    if (ltb (length table) t)
    (λ _. false)
    (λ _. if (ltb (length arena) a) (λ _. false) (λ _. said f n (start_gives (take t table) (take a arena))))

-- and in buffers of marks, of at most so many numbers and bytes
unfoldable pub said_of : ℕ → ℕ → ℕ → ℕ → ℕ → Bool → Bool
said_of numbers bytes t a n f =
    if (ltb numbers t)
    (λ _. false)
    (λ _. if (ltb bytes a) (λ _. false) (λ _. said f n (start_gives (replicate t mark) (replicate a mark))))
