-- The buffers of program closer's run, which suffice for every good input (proofs/Enough.antt). REFERENCE 10.3. Assumes nothing.
use Rattle.std.specs.Prelude.{ℕ, ◌+◌, ◌*◌}
use Rattle.common.specs.Sizes.{heads_width, entry_width, work_width}

-- how many entries the dictionary has room for, and how many numbers its table has
abbrev pub entries : ℕ
entries = 600

abbrev pub table_length : ℕ
table_length = heads_width + entry_width * entries

-- how many bytes its arena has
abbrev pub arena_length : ℕ
arena_length = 16384

-- how many numbers the list work buffer has
abbrev pub work_length : ℕ
work_length = work_width * entries
