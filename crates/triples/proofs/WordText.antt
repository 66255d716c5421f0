-- The text of a word's fact, with the literals flagged: its line, or nothing. Assumes nothing.
use Prim.Native.Nat.{ℕ, ◌+◌, ◌≤◌}
use mathlib.Core.Path.{◌≡◌, sym, ap, subst, ◌∙◌}
use mathlib.Core.Bool.{Bool, true, false, cond}
use mathlib.Core.List.{List, [], ◌++◌}
use native.Mathlib.Omega.{arith}
use lib.Dec.{T}
use lib.ListN.{length, take, drop, take-append-drop}
use Rattle.rdfs.specs.Numbers.{product}
use Rattle.rdfs.specs.Words.{fact, is_fact}
use Rattle.triple_form.specs.Lines.{has_line, line_of}
use Rattle.triple_form.specs.LineRead.{word_line}
use Rattle.terms.specs.Putting.{Room, Puts}
use Rattle.triple_form.proofs.LineLength.{word_short}
use Rattle.triples.specs.Writing.{literal_by, text_by}

abbrev pub word_text : List Bool → ℕ → List ℕ
word_text literals w = text_by literals (fact product.base w)

-- Nothing is put.
puts_none : (out : List ℕ) (at : ℕ) → Puts out at [] out at
puts_none out at =
    let same : at + 0 ≡ at = omega arith in
    record {
      bytes_are = sym (ap (λ n. take at out ++ drop n out) same ∙ take-append-drop at out);
      end = sym same;
    }

module _ (literals : List Bool) (w : ℕ) where
  abbrev told : Bool
  told = has_line (fact product.base w)

  -- By what the tests answer.
  module _ {b : Bool} (e : b ≡ told) where
    pub line_told : b ≡ true → T told
    line_told q = subst T (sym (sym e ∙ q)) tt

    pub text_none : b ≡ false → [] ≡ word_text literals w
    text_none q = sym (ap (λ t. cond t (line_of (word_line w (literal_by literals (fact product.base w)))) []) (sym e ∙ q))

    pub put_none : b ≡ false → (out : List ℕ) (at : ℕ) → Puts out at (word_text literals w) out at
    put_none q out at = subst (λ l. Puts out at l out at) (text_none q) (puts_none out at)

    module _ {literal : Bool} (q : b ≡ true) (s : literal ≡ literal_by literals (fact product.base w)) where
      pub text_line : line_of (word_line w literal) ≡ word_text literals w
      text_line =
          let line : Bool → List ℕ = λ l. line_of (word_line w l) in
          ap line s ∙ sym (ap (λ t. cond t (line (literal_by literals (fact product.base w))) []) (sym e ∙ q))

      pub line_room : (out : List ℕ) (at : ℕ) → Room out at (word_text literals w) → Room out at (line_of (word_line w literal))
      line_room out at r = subst (Room out at) (sym text_line) r

      pub put_line : {out after : List ℕ} {at next : ℕ} → Puts out at (line_of (word_line w literal)) after next
          → Puts out at (word_text literals w) after next
      put_line {out} {after} {at} {next} p = subst (λ l. Puts out at l after next) text_line p

  -- A text has at most as many bytes as the longest line.
  pub word_text_short : T (is_fact product w) → length (word_text literals w) ≤ 154
  word_text_short h = by told
    where
      literal : Bool
      literal = literal_by literals (fact product.base w)

      by : (b : Bool) → length (cond b (line_of (word_line w literal)) []) ≤ 154
      by true = word_short w literal h
      by false = omega arith
