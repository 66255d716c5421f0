-- A fact's word and a word's fact: with ids below the base, each says the other. Assumes nothing.
use Prim.Native.Nat.{ℕ, suc, ◌+◌, ◌*◌, ◌/◌, ◌%◌, ◌≤◌, ◌<◌}
use mathlib.Core.Path.{◌≡◌, sym, ap, ◌∙◌}
use native.Mathlib.Omega.{arith}
use native.Mathlib.Nat.{mul-le-mul_right, mul-add-div_right, div-eq_of_lt, mul-add-mod_self_right, mod-eq_of_lt}
use native.Mathlib.Decide.{dec_lt}
use Rattle.rdfs.specs.Numbers.{kind_count}
use Rattle.rdfs.specs.Facts.{Fact, cl, pr, ind, lit, csub, psub, dom, rng, ci, pi, excl, kind, first, second, third, made}
use Rattle.rdfs.specs.Words.{word, fact}
use Rattle.rdfs.proofs.Words.FactLaws.{made_of}

-- Digits at a base.
pub digits : (B q r q' r' : ℕ) → r < B → r' < B → q * B + r ≡ q' * B + r' → (q ≡ q') × (r ≡ r')
digits B q r q' r' h h' e =
    let a : q ≤ q' = no_less q r q' r' h h' e in
    let b : q' ≤ q = no_less q' r' q r h' h (sym e) in
    let p : q ≡ q' = omega arith in
    (p, omega (arith, ap (λ n. n * B) p, e))
  where
    no_less : (q r q' r' : ℕ) → r < B → r' < B → q * B + r ≡ q' * B + r' → q ≤ q'
    no_less q r q' r' h h' e =
        elim (dec_lt q' q) [ yes p ↦ absurd (omega (arith, mul-le-mul_right B p)) | no n ↦ omega (arith, n) ]

pub digit_bound : (B q r m : ℕ) → q < m → r < B → q * B + r < m * B
digit_bound B q r m h k = omega (arith, mul-le-mul_right B h)

-- The ids of a fact are below B.
pub record Below (B : ℕ) (f : Fact) : Type 0 where
  pub one : first f < B
  pub two : second f < B
  pub three : third f < B

pub word_says : (B : ℕ) (f g : Fact) → Below B f → Below B g → word B f ≡ word B g → f ≡ g
word_says B f g p q e =
    let d = digits B _ (third f) _ (third g) p.three q.three e in
    let c = digits B _ (second f) _ (second g) p.two q.two d.0 in
    let b = digits B (kind f) (first f) (kind g) (first g) p.one q.one c.0 in
    sym (made_of f) ∙ (ap (λ n. made n (first f) (second f) (third f)) b.0
    ∙ (ap (λ n. made (kind g) n (second f) (third f)) b.1
    ∙ (ap (λ n. made (kind g) (first g) n (third f)) c.1 ∙ (ap (λ n. made (kind g) (first g) (second g) n) d.1
    ∙ made_of g))))

pub kind_below : (f : Fact) → kind f < suc kind_count
kind_below (cl a) = omega arith
kind_below (pr a) = omega arith
kind_below (ind a) = omega arith
kind_below (lit a) = omega arith
kind_below (csub a b) = omega arith
kind_below (psub a b) = omega arith
kind_below (dom a b) = omega arith
kind_below (rng a b) = omega arith
kind_below (ci a b) = omega arith
kind_below (pi a b c) = omega arith
kind_below (excl a) = omega arith

pub word_bound : (B : ℕ) (f : Fact) → Below B f → word B f < suc kind_count * B * B * B
word_bound B f b = digit_bound B _ (third f) _ (digit_bound B _ (second f) _ (digit_bound B (kind f) (first f) (suc kind_count)
    (kind_below f)
    b.one) b.two) b.three

kind_some : (f : Fact) → 0 < kind f
kind_some (cl a) = omega arith
kind_some (pr a) = omega arith
kind_some (ind a) = omega arith
kind_some (lit a) = omega arith
kind_some (csub a b) = omega arith
kind_some (psub a b) = omega arith
kind_some (dom a b) = omega arith
kind_some (rng a b) = omega arith
kind_some (ci a b) = omega arith
kind_some (pi a b c) = omega arith
kind_some (excl a) = omega arith

digit_some : (B q r : ℕ) → 1 < B → 0 < q → 0 < q * B + r
digit_some B q r h k = omega (arith, mul-le-mul_right B k)

pub word_some : (B : ℕ) (f : Fact) → 1 < B → 0 < word B f
word_some B f h = digit_some B _ (third f) h (digit_some B _ (second f) h (digit_some B (kind f) (first f) h (kind_some f)))

-- A word's fact.
module _ (B : ℕ) (q r : ℕ) (h : r < B) where
  high : (q * B + r) / B ≡ q
  high = let z : 0 < B = omega arith in mul-add-div_right z q r ∙ omega (arith, div-eq_of_lt h)

  low : (q * B + r) % B ≡ r
  low = mul-add-mod_self_right q B r ∙ mod-eq_of_lt h

pub fact_word : (B : ℕ) (f : Fact) → Below B f → fact B (word B f) ≡ f
fact_word B f b =
    let k : ℕ = kind f in
    let q2 : ℕ = k * B + first f in
    let q1 : ℕ = q2 * B + second f in
    let w : ℕ = q1 * B + third f in
    ap (λ q. made (q / B / B) (q / B % B) (q % B) (w % B)) (high B q1 (third f) b.three)
    ∙ (ap (λ q. made (q / B) (q % B) (q1 % B) (w % B)) (high B q2 (second f) b.two)
    ∙ (ap (λ q. made q (q2 % B) (q1 % B) (w % B)) (high B k (first f) b.one)
    ∙ (ap (λ q. made k q (q1 % B) (w % B)) (low B k (first f) b.one)
    ∙ (ap (λ q. made k (first f) q (w % B)) (low B q2 (second f) b.two)
    ∙ (ap (λ q. made k (first f) (second f) q) (low B q1 (third f) b.three) ∙ made_of f)))))
