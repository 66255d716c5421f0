-- All that a text gives stored in a table without facts: its members, its literals, its lines. Assumes nothing.
use Prim.Native.Nat.{ℕ, ◌<◌}
use mathlib.Core.Path.{◌≡◌, refl, ap, ◌∙◌}
use mathlib.Core.Bool.{true, false}
use mathlib.Core.List.{List, [], ◌∷◌}
use native.Mathlib.Omega.{arith}
use lib.ListN.{length}
use lib.Dec.{ltb}
use borrow.Author.Tests.{lt-ltb, le-ltb}
use Rattle.rdfs.specs.Numbers.{product}
use Rattle.rdfs.specs.Words.{filled, padded}
use Rattle.rdfs.proofs.Words.LaidOut.{laid_shape}
use Rattle.table.specs.Counted.{Counted}
use Rattle.table.proofs.Filled.{filled_within}
use Rattle.triples.specs.Storing.{put_all, Grown}

none_long : (l : List ℕ) → 0 ≡ length l → l ≡ []
none_long [] e = refl
none_long (x ∷ l) e = absurd (omega (arith, e))

-- In a table without facts.
module _ {t : List ℕ} (empty : Counted t 0) (puts : List ℕ) where
  begun : put_all puts (filled t) ≡ put_all puts []
  begun = ap (put_all puts) (none_long (filled t) empty.size)

  -- They have no room.
  pub no_room : length t < length (put_all puts (filled t)) → ltb (length t) (length (put_all puts [])) ≡ true
  no_room h = lt-ltb (length t) (length (put_all puts [])) (omega (arith, h, ap length begun))

  -- All are stored.
  module _ {after : List ℕ} {n : ℕ} (g : Grown t puts after n) where
    words : filled after ≡ put_all puts []
    words = g.words_are ∙ begun

    pub had_room : ltb (length t) (length (put_all puts [])) ≡ false
    had_room = le-ltb (length t) (length (put_all puts [])) (omega (
      arith,
      filled_within product after g.counted.laid,
      ap length words,
      g.size,
    ))

    pub stored_words : after ≡ padded (length t) (put_all puts [])
    stored_words = laid_shape product after g.counted.laid ∙ (ap (λ n. padded n (filled after)) g.size
        ∙ ap (padded (length t)) words)
