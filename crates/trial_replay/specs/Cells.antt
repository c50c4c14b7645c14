-- The map of a memory: crates/trial_replay/README.md has it as a table. Assumes nothing.
use Rattle.std.specs.Prelude.{ℕ}

-- the cell that holds the length of the table, of the arena, of the term, or of the file of a read, which is in its cells, of the load,
-- of the store, of the findings, of the list work buffer, and of the page of a write, which is in the cells of a part
abbrev pub table_length_cell : ℕ
table_length_cell = 0

abbrev pub arena_length_cell : ℕ
arena_length_cell = 1

abbrev pub term_length_cell : ℕ
term_length_cell = 2

abbrev pub load_length_cell : ℕ
load_length_cell = 3

abbrev pub store_length_cell : ℕ
store_length_cell = 4

abbrev pub findings_length_cell : ℕ
findings_length_cell = 5

abbrev pub work_length_cell : ℕ
work_length_cell = 6

abbrev pub page_length_cell : ℕ
page_length_cell = 22

-- the cells of the arguments: the kind of a put, the id of a lookup, how many triples of the store a write is lent
abbrev pub put_kind_cell : ℕ
put_kind_cell = 7

abbrev pub lookup_id_cell : ℕ
lookup_id_cell = 8

abbrev pub triples_cell : ℕ
triples_cell = 23

-- the counters
abbrev pub terms_cell : ℕ
terms_cell = 9

abbrev pub used_cell : ℕ
used_cell = 10

-- the results: the number, the id of a put, the kind and the length of the part of a lookup, the count of a run or a read, the
-- five counts of a run, whether a run in turns is done, the length of the text of a write and the number of triples that it left out
abbrev pub number_cell : ℕ
number_cell = 11

abbrev pub id_cell : ℕ
id_cell = 12

abbrev pub kind_cell : ℕ
kind_cell = 13

abbrev pub part_length_cell : ℕ
part_length_cell = 14

abbrev pub count_cell : ℕ
count_cell = 15

abbrev pub counts_cells : ℕ
counts_cells = 16

abbrev pub done_cell : ℕ
done_cell = 21

abbrev pub text_length_cell : ℕ
text_length_cell = 24

abbrev pub left_out_cell : ℕ
left_out_cell = 25

-- the first cell of each buffer
abbrev pub table_cells : ℕ
table_cells = 32

abbrev pub arena_cells : ℕ
arena_cells = 352

abbrev pub term_cells : ℕ
term_cells = 9952

abbrev pub part_cells : ℕ
part_cells = 14052

abbrev pub store_cells : ℕ
store_cells = 18152

abbrev pub findings_cells : ℕ
findings_cells = 20252

abbrev pub work_cells : ℕ
work_cells = 20752

abbrev pub load_cells : ℕ
load_cells = 20952

-- how many cells each has
abbrev pub table_room : ℕ
table_room = 320

abbrev pub arena_room : ℕ
arena_room = 9600

abbrev pub term_room : ℕ
term_room = 4100

abbrev pub part_room : ℕ
part_room = 4100

abbrev pub store_room : ℕ
store_room = 2100

abbrev pub findings_room : ℕ
findings_room = 500

abbrev pub work_room : ℕ
work_room = 200

abbrev pub load_room : ℕ
load_room = 49160
