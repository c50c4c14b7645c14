-- The widths of rows and the largest lengths of the lent buffers. REFERENCE 1.3, 1.5 and 2.2. Assumes nothing.
use Rattle.std.specs.Prelude.{ℕ, ◌+◌, ◌*◌}

-- how many numbers a triple of a load has, a row of a store, a finding
abbrev pub load_width : ℕ
load_width = 3

abbrev pub store_width : ℕ
store_width = 5

abbrev pub finding_width : ℕ
finding_width = 5

-- the most triples of a load, of a store, and the most findings
abbrev pub load_limit : ℕ
load_limit = 16384

abbrev pub store_limit : ℕ
store_limit = 65535

abbrev pub finding_limit : ℕ
finding_limit = 65535

-- the chain heads of a table, the numbers of an entry, the most entries, and the most numbers of a table
abbrev pub heads_width : ℕ
heads_width = 64

abbrev pub entry_width : ℕ
entry_width = 4

abbrev pub entry_limit : ℕ
entry_limit = 65535

abbrev pub table_limit : ℕ
table_limit = heads_width + entry_width * entry_limit

-- the most bytes of an arena, and of a term
abbrev pub arena_limit : ℕ
arena_limit = 1048576

abbrev pub term_limit : ℕ
term_limit = 4096

-- how many terms a run puts, and the numbers that the list work buffer has for each term
abbrev pub run_terms_count : ℕ
run_terms_count = 3

abbrev pub work_width : ℕ
work_width = 2
