-- The numbers of the refusals, REFERENCE 1.5; 0 says that a call was not refused. Assumes nothing.
use Rattle.std.specs.Prelude.{ℕ, Result, Ok, Err}
use Rattle.common.specs.declared.refusal.Refusal.{Refusal}
use Rattle.common.specs.declared.refusal.Refusal.TheVariants.{BrokenDictionary, RaggedLoad, LoadTooLong, IllSizedStore, BlankId}
use Rattle.common.specs.declared.refusal.Refusal.TheVariants.{UnknownTerm, DictionaryFull, StoreFull, FindingsFull, UnknownKind}
use Rattle.common.specs.declared.refusal.Refusal.TheVariants.{TermTooLong, NoSuchId, BadLine, LongLine, PageFull}

abbrev pub number_of : Refusal → ℕ
number_of BrokenDictionary = 1
number_of RaggedLoad = 2
number_of LoadTooLong = 3
number_of IllSizedStore = 4
number_of BlankId = 5
number_of UnknownTerm = 6
number_of DictionaryFull = 7
number_of StoreFull = 8
number_of FindingsFull = 9
number_of UnknownKind = 10
number_of TermTooLong = 11
number_of NoSuchId = 12
number_of BadLine = 13
number_of LongLine = 14
number_of PageFull = 15

-- the number of an answer: 0 where it is no refusal
abbrev pub answer_number : {A : Type 0} → Result A Refusal → ℕ
answer_number (Ok a) = 0
answer_number (Err r) = number_of r
