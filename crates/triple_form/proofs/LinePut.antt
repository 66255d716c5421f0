-- A line put over lent bytes, term after term, by the word of its fact. Assumes nothing.
use Prim.Native.Nat.{ℕ}
use mathlib.Core.Path.{◌≡◌, sym, ap, ◌∙◌}
use mathlib.Core.Bool.{Bool}
use mathlib.Core.List.{List, ◌++◌}
use lib.Dec.{T}
use Rattle.std.proofs.Common.{Option, Some}
use Rattle.rdfs.specs.Numbers.{product}
use Rattle.rdfs.specs.Words.{fact, is_fact}
use Rattle.table.specs.Parts.{first_of}
use Rattle.terms.specs.Terms.{bytes, spelt, spelling}
use Rattle.terms.specs.Terms.{ended}
use Rattle.triple_form.specs.Lines.{has_line, subject, predicate, object, line_of}
use Rattle.triple_form.specs.LineRead.{word_line}
use Rattle.terms.specs.Putting.{Room, Puts}
use Rattle.terms.specs.declared.term.Term.{Term}
use Rattle.terms.specs.declared.term.Term.TheVariants.{Id}
use Rattle.terms.proofs.Putting.{room_same, room_first, room_behind, puts_same, puts_behind}
use Rattle.triple_form.proofs.FactTermsOf.{word_subject}

-- A term in front of other bytes.
module _ (t : Term) (u : Option Term) (e : Some t ≡ u) (rest : List ℕ) where
  same : ended (spelt t) ≡ ended (spelling u)
  same = ap (λ v. ended (spelling v)) e

  term_room : (out : List ℕ) (at : ℕ) → Room out at (ended (spelling u) ++ rest) → Room out at (ended (spelt t))
  term_room out at room = room_same out at (sym same) (room_first out at (ended (spelling u)) rest room)

  module _ {out mid : List ℕ} {at next : ℕ} (room : Room out at (ended (spelling u) ++ rest))
      (p : Puts out at (ended (spelt t)) mid next) where
    term_behind : Room mid next rest
    term_behind = room_behind (ended (spelling u)) rest room (puts_same same p)

    term_puts : {after : List ℕ} {last : ℕ} → Puts mid next rest after last → Puts out at (ended (spelling u) ++ rest) after last
    term_puts q = puts_behind (ended (spelling u)) rest room (puts_same same p) q

-- What is behind the subject, and behind the predicate.
abbrev behind_predicate : ℕ → Bool → List ℕ
behind_predicate w literal = ended (spelling (object literal (fact product.base w))) ++ bytes ".\n"

abbrev behind_subject : ℕ → Bool → List ℕ
behind_subject w literal = ended (spelling (predicate (fact product.base w))) ++ behind_predicate w literal

module _ (w : ℕ) (literal : Bool) (h : T (is_fact product w)) (line : T (has_line (fact product.base w))) (out : List ℕ) (at : ℕ)
    (room : Room out at (line_of (word_line w literal))) where
  all : Room out at (ended (spelling (subject (fact product.base w))) ++ behind_subject w literal)
  unfolding line_of
  all = room

  module _ (a : ℕ) (e : a ≡ first_of w) where
    is_subject : Some (Id a) ≡ subject (fact product.base w)
    is_subject = ap (λ n. Some (Id n)) e ∙ sym (word_subject w h line)

    pub subject_room : Room out at (ended (spelt (Id a)))
    subject_room = term_room (Id a) (subject (fact product.base w)) is_subject (behind_subject w literal) out at all

    module _ {mid : List ℕ} {next : ℕ} (p : Puts out at (ended (spelt (Id a))) mid next) (t : Term)
        (d : Some t ≡ predicate (fact product.base w)) where
      left : Room mid next (behind_subject w literal)
      left = term_behind (Id a) (subject (fact product.base w)) is_subject (behind_subject w literal) all p

      pub predicate_room : Room mid next (ended (spelt t))
      predicate_room = term_room t (predicate (fact product.base w)) d (behind_predicate w literal) mid next left

      module _ {mid₂ : List ℕ} {next₂ : ℕ} (q : Puts mid next (ended (spelt t)) mid₂ next₂) (u : Term)
          (g : Some u ≡ object literal (fact product.base w)) where
        last_left : Room mid₂ next₂ (behind_predicate w literal)
        last_left = term_behind t (predicate (fact product.base w)) d (behind_predicate w literal) left q

        pub object_room : Room mid₂ next₂ (ended (spelt u))
        object_room = term_room u (object literal (fact product.base w)) g (bytes ".\n") mid₂ next₂ last_left

        module _ {mid₃ : List ℕ} {next₃ : ℕ} (r : Puts mid₂ next₂ (ended (spelt u)) mid₃ next₃) where
          pub end_room : Room mid₃ next₃ (bytes ".\n")
          end_room = term_behind u (object literal (fact product.base w)) g (bytes ".\n") last_left r

          pub line_put : {after : List ℕ} {last : ℕ} → Puts mid₃ next₃ (bytes ".\n") after last
              → Puts out at (line_of (word_line w literal)) after last
          unfolding line_of
          line_put s = term_puts (Id a) (subject (fact product.base w)) is_subject (behind_subject w literal) all p
              (term_puts t (predicate (fact product.base w)) d (behind_predicate w literal) left q
              (term_puts u (object literal (fact product.base w)) g (bytes ".\n") last_left r s))
