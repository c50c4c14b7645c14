-- HOW MANY NUMBERS the calls on numbers are passed for buffers of bytes: all of a buffer that may be valid, and in place of a longer one
-- so many that the call refuses them with the same number, or, for the load of a read, reads the same into them. REFERENCE 9.2. Assumes
-- nothing.
use Rattle.std.specs.Prelude.{List, ◌≡◌, ℕ, ◌+◌, ◌*◌, ◌-◌, ◌/◌, ◌%◌, ◌≤◌, length, take}
use Rattle.common.specs.Sizes.{load_width, store_width, finding_width, load_limit, store_limit, finding_limit, entry_limit, table_limit}
use Rattle.common.specs.Sizes.{run_terms_count, work_width}
use Rattle.common.specs.Triples.{if}
use Rattle.common.specs.Rows.{filled}
use Rattle.driver_refusals.specs.Lent.{Lent}
use Rattle.edge_bytes.specs.Bytes.{numbers_of, bytes_of, forwarded}
use Rattle.edge_c.specs.Calls.{changes_load}

-- the numbers of the longest load, store and findings
abbrev pub longest_load : ℕ
longest_load = load_width * load_limit

abbrev pub longest_store : ℕ
longest_store = store_width * store_limit

abbrev pub longest_findings : ℕ
longest_findings = finding_width * finding_limit

-- no run needs more of the list work buffer: numbers for each term of a full dictionary and for each that a run puts
abbrev pub longest_work : ℕ
longest_work = work_width * (entry_limit + run_terms_count)

-- in place of a load of n numbers that is too long: another that is, and leaves the same remainder by the width of a triple
abbrev pub longer_load : ℕ → ℕ
longer_load n = longest_load + load_width + n % load_width

-- the most that are passed for a load
abbrev pub load_array : ℕ
load_array = longer_load (load_width - 1)

-- the numbers for a table of n bytes, a load, a store, findings and a list work buffer. One number is no table, no triple and no finding.
abbrev pub table_forwarded : ℕ → ℕ
table_forwarded n = forwarded table_limit 1 n

abbrev pub load_forwarded : ℕ → ℕ
load_forwarded n = forwarded longest_load (longer_load (n / 4)) n

abbrev pub store_forwarded : ℕ → ℕ
store_forwarded n = forwarded longest_store 1 n

abbrev pub findings_forwarded : ℕ → ℕ
findings_forwarded n = forwarded longest_findings 1 n

abbrev pub work_forwarded : ℕ → ℕ
work_forwarded n = forwarded longest_work longest_work n

-- no file gives more triples than the longest load has: in place of a longer one of n numbers, one of so many triples that leaves the
-- same remainder; the most that are passed for a read's load; and the numbers for a read's load of n bytes
abbrev pub full_load : ℕ → ℕ
full_load n = longest_load + n % load_width

abbrev pub full_array : ℕ
full_array = full_load (load_width - 1)

abbrev pub full_forwarded : ℕ → ℕ
full_forwarded n = forwarded longest_load (full_load (n / 4)) n

-- the numbers t, and those of m, are as many as a run is passed for the bytes of the table and of b
pub record ForwardedAll (t : List ℕ) (m : Lent) (table : List ℕ) (b : Lent) : Type 0 where
  pub table_numbers : length t ≡ table_forwarded (length table)
  pub load_numbers : length m.load ≡ load_forwarded (length b.load)
  pub store_numbers : length m.store ≡ store_forwarded (length b.store)
  pub findings_numbers : length m.findings ≡ findings_forwarded (length b.findings)
  pub work_numbers : length m.work ≡ work_forwarded (length b.work)

-- the numbers t, and those of m, suffice for all buffers of bytes
pub record Enough (t : List ℕ) (m : Lent) : Type 0 where
  pub table_room : table_limit ≤ length t
  pub load_room : load_array ≤ length m.load
  pub store_room : longest_store ≤ length m.store
  pub findings_room : longest_findings ≤ length m.findings
  pub work_room : longest_work ≤ length m.work

-- buffers of bytes that hold just the numbers which a run left for table, store and findings
pub record Roomy (t s f table store findings : List ℕ) : Type 0 where
  pub table_room : length table ≡ 4 * length t
  pub store_room : length store ≡ 4 * length s
  pub findings_room : length findings ≡ 4 * length f

-- the same for a read: the numbers t and l, for the bytes of the table and of the load
pub record ForwardedBoth (t l table load : List ℕ) : Type 0 where
  pub table_numbers : length t ≡ table_forwarded (length table)
  pub load_numbers : length l ≡ full_forwarded (length load)

pub record EnoughBoth (t l : List ℕ) : Type 0 where
  pub table_room : table_limit ≤ length t
  pub load_room : full_array ≤ length l

-- the bytes of a load after a read that answered n and left the numbers l of those passed: they stand in front, and zeros behind them
unfoldable pub front_load : ℕ → List ℕ → List ℕ → List ℕ
front_load n b l = if (changes_load n) (λ _. filled b (bytes_of l)) (λ _. b)

-- the same for a write: the numbers t and s, for the bytes of the table and of the store
pub record ForwardedStore (t s table store : List ℕ) : Type 0 where
  pub table_numbers : length t ≡ table_forwarded (length table)
  pub store_numbers : length s ≡ store_forwarded (length store)

pub record EnoughStore (t s : List ℕ) : Type 0 where
  pub table_room : table_limit ≤ length t
  pub store_room : longest_store ≤ length s

-- the numbers s begin with those of the first n rows of the bytes of a store, where they are as many as the bytes have
abbrev pub RowsRead : List ℕ → ℕ → List ℕ → Type 0
RowsRead store n s =
    store_width * n ≤ length s → length store ≡ 4 * length s → take (store_width * n) s ≡ take (store_width * n) (numbers_of store)
