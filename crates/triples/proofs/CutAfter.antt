-- Bytes cut after each byte of one value: the runs put together again, and the cut of a run with its end. Assumes nothing.
use Prim.Native.Nat.{ℕ}
use mathlib.Core.Path.{◌≡◌, refl, ap, ◌∙◌}
use mathlib.Core.Bool.{Bool, true, false, cond}
use mathlib.Core.List.{List, [], ◌∷◌, ◌++◌, append_assoc}
use lib.Dec.{eqb, eqb→eq, eqb_refl}
use Rattle.rdfs.specs.Lists.{◌∈◌, here, there, concat_map}
use Rattle.rdfs.proofs.Lists.Filters.{cond_yes, cond_no}
use Rattle.triples.specs.TextRead.{onto, cut_after}

-- Runs put together.
abbrev pub joined : List (List ℕ) → List ℕ
joined m = concat_map (λ l. l) m

joined_onto : (x : ℕ) (m : List (List ℕ)) → joined (onto x m) ≡ x ∷ joined m
joined_onto x [] = refl
joined_onto x (l ∷ m) = refl

pub cut_join : (end : ℕ) (text : List ℕ) → concat_map (λ l. l) (cut_after end text) ≡ text
cut_join end [] = refl
cut_join end (x ∷ text) = step (eqb x end) (cut_join end text)
  where
    step : (b : Bool) → joined (cut_after end text) ≡ text
        → joined (cond b ((x ∷ []) ∷ cut_after end text) (onto x (cut_after end text))) ≡ x ∷ text
    step true e = ap (λ l. x ∷ l) e
    step false e = joined_onto x (cut_after end text) ∙ ap (λ l. x ∷ l) e

-- A run without the end, then the end.
abbrev pub Free : ℕ → List ℕ → Type 0
Free end l = (x : ℕ) → x ∈ l → x ≡ end → ⊥

pub cut_run : (end : ℕ) (l rest : List ℕ) → Free end l → cut_after end (l ++ (end ∷ rest)) ≡ (l ++ (end ∷ [])) ∷ cut_after end rest
cut_run end [] rest f = cond_yes (eqb end end) ((end ∷ []) ∷ cut_after end rest) (onto end (cut_after end rest)) (eqb_refl end)
cut_run end (x ∷ l) rest f =
    let more : List (List ℕ) = cut_after end (l ++ (end ∷ rest)) in
    cond_no (eqb x end) ((x ∷ []) ∷ more) (onto x more) (λ t. f x (here refl) (eqb→eq x end t))
    ∙ ap (onto x) (cut_run end l rest (λ y h. f y (there h)))

pub cut_ended : (end : ℕ) (l rest : List ℕ) → Free end l
    → cut_after end ((l ++ (end ∷ [])) ++ rest) ≡ (l ++ (end ∷ [])) ∷ cut_after end rest
cut_ended end l rest f = ap (cut_after end) (append_assoc l (end ∷ []) rest) ∙ cut_run end l rest f
