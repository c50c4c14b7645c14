-- What the number of an answer says: 0 of one that is no refusal, and no refusal has the number 0. Assumes nothing.
use Rattle.std.specs.Prelude.{◌≡◌, true, Result, Ok, Err, is_err}
use Rattle.common.specs.declared.refusal.Refusal.{Refusal}
use Rattle.common.specs.declared.refusal.Refusal.TheVariants.{BrokenDictionary, RaggedLoad, LoadTooLong, IllSizedStore, BlankId}
use Rattle.common.specs.declared.refusal.Refusal.TheVariants.{UnknownTerm, DictionaryFull, StoreFull, FindingsFull, UnknownKind}
use Rattle.common.specs.declared.refusal.Refusal.TheVariants.{TermTooLong, NoSuchId, BadLine, LongLine, PageFull}
use Rattle.common.specs.Refusals.{number_of, answer_number}

pub numbered : (r : Refusal) → number_of r ≡ 0 → ⊥
numbered BrokenDictionary e = cc
numbered RaggedLoad e = cc
numbered LoadTooLong e = cc
numbered IllSizedStore e = cc
numbered BlankId e = cc
numbered UnknownTerm e = cc
numbered DictionaryFull e = cc
numbered StoreFull e = cc
numbered FindingsFull e = cc
numbered UnknownKind e = cc
numbered TermTooLong e = cc
numbered NoSuchId e = cc
numbered BadLine e = cc
numbered LongLine e = cc
numbered PageFull e = cc

pub refused : {A : Type 0} (r : Result A Refusal) → is_err r ≡ true → answer_number r ≡ 0 → ⊥
refused (Ok a) e z = cc
refused (Err r) e z = numbered r z
