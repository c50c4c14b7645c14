-- `dictionary_containers::all_digits` meets its contract. Assumes nothing.
use Rattle.std.proofs.Common.{◌≡◌, true, IsTrue, ◌↔◌, EachIndex, get_or, rules}
use Rattle.std.specs.Char.{is_ascii_digit}
use Rattle.dictionary_containers.proofs.DigitLoops.{digits_all}
use Rattle.dictionary_containers.proofs.all_digits.Goals as goal

pub returns : goal.returns
returns c =
    let bs = c.args.bytes.now in
    let e : IsTrue c.all.result ↔ EachIndex bs (λ k. is_ascii_digit (get_or bs k 0) ≡ true) = search rules in
    digits_all bs c.all.result e
