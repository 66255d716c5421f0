-- Literals in no value, which have no line; and the table that a text is read as.
use Rattle.std.specs.Prelude.{ℕ, ◌≡◌, Bool, false, not, ◌&&◌, List, eqb, length}
use Rattle.rdfs.specs.Numbers.{product}
use Rattle.rdfs.specs.Lists.{◌⊆◌, filter, any}
use Rattle.rdfs.specs.Facts.{Fact, kind, first, second}
use Rattle.rdfs.specs.Words.{facts}
use Rattle.rdfs.specs.Register.{Table}
use Rattle.triples.specs.Texts.{text_of}
use Rattle.triples.specs.TextRead.{cut_after}

-- n is the b of a PI fact.
abbrev pub is_value : List Fact → ℕ → Bool
is_value K n = any (λ f. eqb (kind f) 10 && eqb (second f) n) K

-- Lit(n) with n the b of no PI fact.
abbrev pub is_lone : List Fact → Fact → Bool
is_lone K f = eqb (kind f) 4 && not (is_value K (first f))

abbrev pub without_lone : List Fact → List Fact
without_lone K = filter (λ f. not (is_lone K f)) K

-- What a table must be, and a text, so that the text is read as the table: it is consistent, has no lone
-- literal and as many words as the lent table, and the lines of the text are the lines of its own text, each
-- at least once, in any order.
pub record ReadsAs (lent text t : List ℕ) : Type 0 where
  pub table : Table product t
  pub size : length t ≡ length lent
  pub no_lone : any (is_lone (facts product t)) (facts product t) ≡ false
  pub only : cut_after 10 text ⊆ cut_after 10 (text_of (facts product t))
  pub each : cut_after 10 (text_of (facts product t)) ⊆ cut_after 10 text
