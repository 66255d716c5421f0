-- Consistency in three parts: the rules that demand facts which their left side names in full, those that only forbid, and those
-- that ask for some fact. Most proofs need one part only. Assumes nothing.
use Prim.Native.Nat.{ℕ}
use mathlib.Core.Logic.{◌⊎◌, inl, inr, ⊎_elim}
use mathlib.Core.List.{List}
use Rattle.rdfs.specs.Lists.{◌∈◌}
use Rattle.rdfs.specs.Facts.{Fact, Graph, pr, ind, lit, pi, ◌⊑◌}
use Rattle.rdfs.specs.Rules.{
  Meets,
  r4,
  r5,
  r6,
  r7,
  r8,
  r9,
  r10,
  r11,
  r13,
  r14,
  r15,
  r16,
  r17,
  r18,
  r19,
  r20,
  r21,
  r22,
  r23,
  r24,
  r25,
  r26,
  r27,
  h1,
  h2,
  h3,
  h4,
  e1,
  e2,
}
use Rattle.rdfs.specs.Consistency.{Lawful}

-- Every fact of a list is one of G.
abbrev pub All : Graph → List Fact → Type 0
All G l = (f : Fact) → f ∈ l → G f

pub record Demands (G : Graph) : Type 0 where
  pub d7 : Meets G r7
  pub d8 : Meets G r8
  pub d9 : Meets G r9
  pub d10 : Meets G r10
  pub d11 : Meets G r11
  pub d12 : (x y z : ℕ) → G (pi x y z) → G (ind x) × G (pr z)
  pub d13 : Meets G r13
  pub d14 : Meets G r14
  pub d18 : Meets G r18
  pub d20 : Meets G r20
  pub d22 : Meets G r22
  pub d23 : Meets G r23
  pub d24 : Meets G r24
  pub d25 : Meets G r25
  pub d26 : Meets G r26
  pub d27 : Meets G r27
  pub dh3 : Meets G h3
  pub de1 : Meets G e1

pub record Forbids (G : Graph) : Type 0 where
  pub f4 : Meets G r4
  pub f5 : Meets G r5
  pub f6 : Meets G r6
  pub f16 : Meets G r16
  pub f17 : Meets G r17
  pub f19 : Meets G r19
  pub f21 : Meets G r21
  pub fh2 : Meets G h2
  pub fh4 : Meets G h4
  pub fe2 : Meets G e2

pub record Exists (G : Graph) : Type 0 where
  pub e12 : (x y z : ℕ) → G (pi x y z) → G (ind y) ⊎ G (lit y)
  pub e15 : Meets G r15
  pub eh1 : Meets G h1

pub demands : (G : Graph) → Lawful G → Demands G
demands G c = record {
  d7 = c.rule_7;
  d8 = c.rule_8;
  d9 = c.rule_9;
  d10 = c.rule_10;
  d11 = c.rule_11;
  d12 = λ x y z h. ((c.rule_12 x y z h).0, (c.rule_12 x y z h).1);
  d13 = c.rule_13;
  d14 = c.rule_14;
  d18 = c.rule_18;
  d20 = c.rule_20;
  d22 = c.rule_22;
  d23 = c.rule_23;
  d24 = c.rule_24;
  d25 = c.rule_25;
  d26 = c.rule_26;
  d27 = c.rule_27;
  dh3 = c.rule_h3;
  de1 = c.rule_e1;
}

pub forbids : (G : Graph) → Lawful G → Forbids G
forbids G c = record {
  f4 = c.rule_4;
  f5 = c.rule_5;
  f6 = c.rule_6;
  f16 = c.rule_16;
  f17 = c.rule_17;
  f19 = c.rule_19;
  f21 = c.rule_21;
  fh2 = c.rule_h2;
  fh4 = c.rule_h4;
  fe2 = c.rule_e2;
}

pub lawful_of : (G : Graph) → Demands G → Forbids G → Exists G → Lawful G
lawful_of G d p e = record {
  rule_4 = p.f4;
  rule_5 = p.f5;
  rule_6 = p.f6;
  rule_7 = d.d7;
  rule_8 = d.d8;
  rule_9 = d.d9;
  rule_10 = d.d10;
  rule_11 = d.d11;
  rule_12 = λ x y z h. ((d.d12 x y z h).0, (d.d12 x y z h).1, e.e12 x y z h);
  rule_13 = d.d13;
  rule_14 = d.d14;
  rule_15 = e.e15;
  rule_16 = p.f16;
  rule_17 = p.f17;
  rule_18 = d.d18;
  rule_19 = p.f19;
  rule_20 = d.d20;
  rule_21 = p.f21;
  rule_22 = d.d22;
  rule_23 = d.d23;
  rule_24 = d.d24;
  rule_25 = d.d25;
  rule_26 = d.d26;
  rule_27 = d.d27;
  rule_h1 = e.eh1;
  rule_h2 = p.fh2;
  rule_h3 = d.dh3;
  rule_h4 = p.fh4;
  rule_e1 = d.de1;
  rule_e2 = p.fe2;
}

-- A part of a graph breaks no rule that forbids, if the graph breaks none.
pub forbids_part : (G H : Graph) → ◌⊑◌ H G → Forbids G → Forbids H
forbids_part G H sub p = record {
  f4 = λ x h k. p.f4 x (sub _ h) (sub _ k);
  f5 = λ x h k. p.f5 x (sub _ h) (sub _ k);
  f6 = λ x h k. p.f6 x (sub _ h) (sub _ k);
  f16 = λ x y z h k. p.f16 x y z (sub _ h) (sub _ k);
  f17 = λ x y z h k. p.f17 x y z (sub _ h) (sub _ k);
  f19 = λ x y h k. p.f19 x y (sub _ h) (sub _ k);
  f21 = λ x y h k. p.f21 x y (sub _ h) (sub _ k);
  fh2 = λ x h. let q = p.fh2 x (sub _ h) in ((λ k. q.0 (sub _ k)), (λ k. q.1 (sub _ k)), (λ k. q.2 (sub _ k)));
  fh4 = λ x y z w h k m. p.fh4 x y z w (sub _ h) (sub _ k) (sub _ m);
  fe2 = λ x y z w h k m. p.fe2 x y z w (sub _ h) (sub _ k) (sub _ m);
}

-- A part of a lawful graph is lawful if it meets the demands and has what the rules ask to exist.
pub part_lawful : (G H : Graph) → Lawful G → ◌⊑◌ H G → Demands H → Exists H → Lawful H
part_lawful G H c sub d e = lawful_of H d (forbids_part G H sub (forbids G c)) e

-- Of two graphs with the same facts, one is lawful if the other is.
pub demands_same : (G H : Graph) → ◌⊑◌ G H → ◌⊑◌ H G → Demands G → Demands H
demands_same G H to from d = record {
  d7 = λ x y h. let q = d.d7 x y (from _ h) in (to _ q.0, to _ q.1);
  d8 = λ x y h. let q = d.d8 x y (from _ h) in (to _ q.0, to _ q.1);
  d9 = λ x y h. let q = d.d9 x y (from _ h) in (to _ q.0, to _ q.1);
  d10 = λ x y h. let q = d.d10 x y (from _ h) in (to _ q.0, λ n. to _ (q.1 n));
  d11 = λ x y h. let q = d.d11 x y (from _ h) in (to _ q.0, to _ q.1);
  d12 = λ x y z h. let q = d.d12 x y z (from _ h) in (to _ q.0, to _ q.1);
  d13 = λ x h n. to _ (d.d13 x (from _ h) n);
  d14 = λ x h. to _ (d.d14 x (from _ h));
  d18 = λ x y z h k. to _ (d.d18 x y z (from _ h) (from _ k));
  d20 = λ x y z h k. to _ (d.d20 x y z (from _ h) (from _ k));
  d22 = λ x y z w h k m n. to _ (d.d22 x y z w (from _ h) (from _ k) (from _ m) n);
  d23 = λ x y z w h k m n o p. to _ (d.d23 x y z w (from _ h) (from _ k) (from _ m) n o p);
  d24 = λ x y z w h k. to _ (d.d24 x y z w (from _ h) (from _ k));
  d25 = λ x y z w h n k. to _ (d.d25 x y z w (from _ h) n (from _ k));
  d26 = λ x y z h k. to _ (d.d26 x y z (from _ h) (from _ k));
  d27 = λ x y z w h k. to _ (d.d27 x y z w (from _ h) (from _ k));
  dh3 = λ x y z h k. to _ (d.dh3 x y z (from _ h) (from _ k));
  de1 = λ x h. to _ (d.de1 x (from _ h));
}

pub lawful_same : (G H : Graph) → ◌⊑◌ G H → ◌⊑◌ H G → Lawful G → Lawful H
lawful_same G H to from c = part_lawful G H c from (demands_same G H to from (demands G c)) record {
  e12 = λ x y z h. ⊎_elim (λ a. inl (to _ a)) (λ b. inr (to _ b)) (c.rule_12 x y z (from _ h)).2;
  e15 = λ x h. let q = c.rule_15 x (from _ h) in ((q.0.0, to _ q.0.1), (q.1.0, to _ q.1.1));
  eh1 = to _ c.rule_h1;
}
