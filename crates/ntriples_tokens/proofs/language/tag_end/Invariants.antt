use Rattle.std.proofs.Common.{◌≡◌, ◌++◌, drop}
use Rattle.ntriples.specs.Grammar.{token, tag_run}
use Rattle.ntriples_tokens.specs.Promises.{part}
use Rattle.ntriples_tokens.proofs.language.tag_end.Given as goal

abbrev pub invariant-loop-i : goal.invariant-loop-i
invariant-loop-i l =
    let t = tag_run (drop l.i l.chars) in
    tag_run (drop l.at l.chars) ≡ token (part l.chars l.at l.i ++ t.chars) t.rest
