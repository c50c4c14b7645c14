-- The numbers of program closer: what its input may hold, how long a line in print is, and how long its buffers are. REFERENCE 10.1, 10.3
-- and 10.4. Assumes nothing.
use Rattle.std.specs.Prelude.{ℕ, ◌+◌, ◌*◌}
use Rattle.common.specs.Sizes.{load_width, store_width, finding_width}

-- the largest count of names, the most id lines, and the largest id
abbrev pub count_limit : ℕ
count_limit = 500

abbrev pub line_limit : ℕ
line_limit = 1000

abbrev pub id_limit : ℕ
id_limit = 4294967295

-- the last id line, since line 1 has the count; and the line after it, which is bad
abbrev pub last_line : ℕ
last_line = line_limit + 1

abbrev pub line_over_limit : ℕ
line_over_limit = line_limit + 2

-- how many ids the lines have
abbrev pub ids_length : ℕ
ids_length = load_width * line_limit

-- how many numbers of a store's row are printed: its triple
abbrev pub triple_width : ℕ
triple_width = 3

-- the most bytes of a number of 32 bits, ten digits, with the byte after it; of the count; and of a line of three numbers
abbrev pub number_width : ℕ
number_width = 11

abbrev pub count_width : ℕ
count_width = 4

abbrev pub three_width : ℕ
three_width = 3 * number_width

-- the most bytes of the line "bad line " with its number, and of a name, urn:t with its number
abbrev pub bad_line_width : ℕ
bad_line_width = 9 + number_width

abbrev pub name_width : ℕ
name_width = 15

-- the most bytes of a good input, and how many the program reads: one more
abbrev pub longest_input : ℕ
longest_input = count_width + three_width * line_limit

abbrev pub input_length : ℕ
input_length = longest_input + 1

-- the most triples of the store and records of the findings, and how many numbers these are
abbrev pub triple_limit : ℕ
triple_limit = 2000

abbrev pub record_limit : ℕ
record_limit = 400

abbrev pub store_length : ℕ
store_length = store_width * triple_limit

abbrev pub findings_length : ℕ
findings_length = finding_width * record_limit

-- room to print the triples and the records, after a line of three numbers
abbrev pub output_length : ℕ
output_length = three_width + number_width * (triple_width * triple_limit + findings_length)
