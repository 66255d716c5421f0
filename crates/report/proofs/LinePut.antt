-- Three numbers put one after another are a line. Assumes nothing.
use Prim.Native.Nat.{ℕ}
use mathlib.Core.Path.{refl, ap, ◌∙◌}
use mathlib.Core.List.{List, ◌++◌, append_assoc}
use native.Mathlib.Omega.{arith}
use lib.ListN.{take, length-append}
use Rattle.text.specs.Text.{Number, Puts}
use Rattle.report.specs.Lines.{Line}

pub line_put : {a b c at one two r : ℕ} {before first second after : List ℕ} → Puts (Number a 32) at one before first
    → Puts (Number b 32) one two first second → Puts (Number c 10) two r second after
    → Puts (Line a b c) at r before after
line_put {at = at} {before = before} p q s =
    let joined : List ℕ = (p.text ++ q.text) ++ s.text in
    let start : List ℕ = take at before in
    record {
      text = joined;
      is = (p.text, q.text, s.text, p.is, q.is, s.is, refl);
      there = s.there ∙ (ap (λ l. l ++ s.text) (q.there ∙ (ap (λ l. l ++ q.text) p.there
          ∙ append_assoc start p.text q.text)) ∙ append_assoc start (p.text ++ q.text) s.text);
      end =
          omega (arith, p.end, q.end, s.end, length-append (p.text ++ q.text) s.text, length-append p.text q.text);
    }
