use Rattle.std.proofs.Common.{◌≡◌, drop}
use Rattle.ntriples.specs.Characters.{tag, tag_from}
use Rattle.ntriples_tokens.proofs.language.tag.Given as goal

abbrev pub invariant-loop-b : goal.invariant-loop-b
invariant-loop-b l = tag l.bytes ≡ tag_from l.letters l.seen (drop l.b-index l.bytes)
