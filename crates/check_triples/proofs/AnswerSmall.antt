-- The answer of reading a text has at most two digits. Assumes nothing.
use Prim.Native.Nat.{ℕ, ◌^◌, ◌<◌}
use mathlib.Core.Path.{◌≡◌}
use mathlib.Core.Bool.{Bool, true, false}
use mathlib.Core.List.{List}
use native.Mathlib.Omega.{arith}
use lib.Dec.{lit<, ltb}
use lib.ListN.{length}
use Rattle.rdfs.specs.Numbers.{product}
use Rattle.rdfs.specs.Refusals.{or_else, bad_size, inconsistent}
use Rattle.triples.specs.TextRead.{outside_profile, text_words}
use Rattle.triples.specs.ReadTriples.{read_triples_answer}

else_below : (b : Bool) (n rest : ℕ) → n < 100 → rest < 100 → or_else b n rest < 100
else_below true n rest p q = p
else_below false n rest p q = q

pub answer_small : (t text : List ℕ) (n : ℕ) → n ≡ read_triples_answer t text → n < 10 ^ 2
answer_small t text n e =
    let l : List ℕ = text_words product text in
    let small : read_triples_answer t text < 100 =
    else_below (bad_size product t) 1 _ (lit< tt) (else_below (outside_profile product.top text) 15 _ (lit< tt)
    (else_below (ltb (length t) (length l)) 11 _ (lit< tt) (else_below (inconsistent product l) 3 0 (lit< tt) (lit< tt)))) in
    omega (arith, e, small)
