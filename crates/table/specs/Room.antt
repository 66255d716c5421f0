-- A table's words after one is put in, and after words are taken away.
use Rattle.std.specs.Prelude.{ℕ, suc, ◌-◌, List, ◌∷◌, ◌++◌, length, take, drop, replicate}

-- Of the first words, those from a place on go one place up, and a word stands there. What stood after the
-- first words is gone.
abbrev pub put_at : List ℕ → ℕ → ℕ → ℕ → List ℕ
put_at table count place word =
    take place table ++ (word ∷ (take (count - place) (drop place table) ++ drop (suc count) table))

-- Zeros from a place on.
abbrev pub cleared_from : List ℕ → ℕ → List ℕ
cleared_from table from = take from table ++ replicate (length table - from) 0
