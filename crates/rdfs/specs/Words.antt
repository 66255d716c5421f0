-- The word of a fact, which words are facts, and how a table is laid out.
use Rattle.std.specs.Prelude.{ℕ, suc, ◌+◌, ◌*◌, ◌-◌, ◌/◌, ◌%◌, Bool, true, not, ◌&&◌, ◌||◌, cond, List, [], ◌∷◌, ◌++◌, map, eqb, ltb, leb, length, replicate}
use Rattle.rdfs.specs.Numbers.{Numbers}
use Rattle.rdfs.specs.Lists.{filter, all}
use Rattle.rdfs.specs.Facts.{Fact, kind, first, second, third, made}

-- kind × base³ + a × base² + b × base + c
abbrev pub word : ℕ → Fact → ℕ
word base f = ((kind f * base + first f) * base + second f) * base + third f

abbrev pub fact : ℕ → ℕ → Fact
fact base n = made (n / base / base / base) (n / base / base % base) (n / base % base) (n % base)

-- Ids up to the highest, id 1 only as b of Rng.
abbrev pub allowed : ℕ → Fact → Bool
allowed top f =
    (leb (first f) top && (leb (second f) top && leb (third f) top))
    && (not (eqb (first f) 1) && (not (eqb (third f) 1) && (not (eqb (second f) 1) || eqb (kind f) 8)))

-- The word of an allowed fact. No other word is a fact.
abbrev pub is_fact : Numbers → ℕ → Bool
is_fact N n = let f : Fact = fact N.base n in eqb (word N.base f) n && allowed N.top f

-- Words of facts from `least` on, ascending, none twice, then zeros to the end.
abbrev pub laid_out : Numbers → ℕ → List ℕ → Bool
laid_out N least [] = true
laid_out N least (n ∷ l) =
    cond (eqb n 0) (all (λ m. eqb m 0) l) (leb least n && (is_fact N n && laid_out N (suc n) l))

-- The words of a table before its zeros, and the facts they stand for.
abbrev pub filled : List ℕ → List ℕ
filled table = filter (λ n. not (eqb n 0)) table

abbrev pub facts : Numbers → List ℕ → List Fact
facts N table = map (fact N.base) (filled table)

-- A number put at its place of an ascending list, unless it is there.
abbrev pub put : ℕ → List ℕ → List ℕ
put n [] = n ∷ []
put n (m ∷ l) = cond (ltb n m) (n ∷ m ∷ l) (cond (eqb n m) (m ∷ l) (m ∷ put n l))

abbrev pub sort : List ℕ → List ℕ
sort [] = []
sort (n ∷ l) = put n (sort l)

-- The words of facts, ascending, none twice.
abbrev pub words : Numbers → List Fact → List ℕ
words N K = sort (map (word N.base) K)

-- Zeros to a table's length.
abbrev pub padded : ℕ → List ℕ → List ℕ
padded size l = l ++ replicate (size - length l) 0

-- A fresh table of so many words: Cl(0) only.
abbrev pub fresh : Numbers → ℕ → List ℕ
fresh N size = padded size (words N (Fact.cl 0 ∷ []))
