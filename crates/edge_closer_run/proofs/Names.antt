-- The names that the program puts, one after the other. Assumes nothing.
use mathlib.Core.Path.{◌≡◌, refl, sym, ap, ◌∙◌}
use mathlib.Core.List.{List}
use Prim.Native.Nat.{ℕ, suc}
use Rattle.std.specs.Prelude.{Result, Ok, Err}
use Rattle.common.specs.declared.Id.{Id}
use Rattle.common.specs.declared.refusal.Refusal.{Refusal}
use Rattle.dictionary_layout.specs.Terms.{term}
use Rattle.dictionary_layout.specs.Layout.{Dict}
use Rattle.dictionary_layout.specs.Calls.{PutResult, put_gives}
use Rattle.dictionary_layout.specs.Values.{contents}
use Rattle.dictionary_layout.specs.declared.values.Counters.{Counters}
use Rattle.dictionary_index.specs.Values.{put_lent}
use Rattle.edge_closer_text.specs.Output.{name}
use Rattle.edge_closer_run.specs.Program.{named}

-- the contents that a put with lent counters leaves, whatever it answers
pub left_contents : (r : Result Id Refusal) (t a : List ℕ) (c : Counters) → contents t a c ≡ (put_lent r t a c).contents
left_contents (Ok i) t a c = refl
left_contents (Err e) t a c = refl

-- none
pub no_names : (d : Dict) → d ≡ named 0 d
unfolding named
no_names d = refl

-- one more
pub next_name : (n m : ℕ) (d₀ d : Dict) (bytes : List ℕ) (r : PutResult) → m ≡ suc n → d ≡ named n d₀ → bytes ≡ name m
    → r ≡ put_gives d (term 1 bytes) → r.contents ≡ named m d₀
unfolding named
next_name n m d₀ d bytes r h e f g =
    ap (λ (x : PutResult). x.contents) g
    ∙ ap (λ (x : Dict). (put_gives x (term 1 bytes)).contents) e
    ∙ ap (λ (b : List ℕ). (put_gives (named n d₀) (term 1 b)).contents) (f ∙ ap name h)
    ∙ ap (λ (k : ℕ). named k d₀) (sym h)
