-- The rules in the paper's order, how many a graph meets before the first that it breaks, and which that is.
use Rattle.std.specs.Prelude.{ℕ, suc, ◌≤◌, ◌<◌, List, [], ◌∷◌, get_or, Option, None, Some}
use Rattle.rdfs.specs.Facts.{Graph}
use Rattle.rdfs.specs.Rules.{
  Rule,
  Meets,
  r4,
  r5,
  r6,
  r7,
  r8,
  r9,
  r10,
  r11,
  r12,
  r13,
  r14,
  r15,
  r16,
  r17,
  r18,
  r19,
  r20,
  r21,
  r22,
  r23,
  r24,
  r25,
  r26,
  r27,
  h1,
  h2,
  h3,
  h4,
  e1,
  e2,
}
use Rattle.rules.specs.RuleOf.{rule_of}
use Rattle.rules.specs.declared.Rule as code
use Rattle.consistency.specs.Printed.{place_of}

-- Fig. 3's rules 4 to 27 as printed, then H1 to H4, then E1 and E2.
abbrev pub rules_in_order : List Rule
rules_in_order =
    r4 ∷ r5 ∷ r6 ∷ r7 ∷ r8 ∷ r9 ∷ r10 ∷
    r11 ∷ r12 ∷ r13 ∷ r14 ∷ r15 ∷ r16 ∷ r17 ∷
    r18 ∷ r19 ∷ r20 ∷ r21 ∷ r22 ∷ r23 ∷ r24 ∷
    r25 ∷ r26 ∷ r27 ∷ h1 ∷ h2 ∷ h3 ∷ h4 ∷
    e1 ∷ e2 ∷ []

-- The rule at a place of a list, counted from 0.
abbrev pub rule_at : List Rule → ℕ → Rule
rule_at l i = get_or l i r4

-- The first n rules of a list are met, and the one after them, if there is one, is broken.
pub data MetFirst (G : Graph) : List Rule → ℕ → Type 0 where
  end : MetFirst G [] 0
  stop : {r : Rule} {l : List Rule} → (Meets G r → ⊥) → MetFirst G (r ∷ l) 0
  pass : {r : Rule} {l : List Rule} {n : ℕ} → Meets G r → MetFirst G l n → MetFirst G (r ∷ l) (suc n)

-- How many rules stand before E2, the last: those that are tested by the index of spans.
abbrev pub indexed_count : ℕ
indexed_count = 29

-- The same of these rules: n of them are met, and the one at n, if there is one, is broken.
pub record MetIndexed (G : Graph) (n : ℕ) : Type 0 where
  pub within : n ≤ indexed_count
  pub before : (i : ℕ) → i < n → Meets G (rule_at rules_in_order i)
  pub broken : n < indexed_count → Meets G (rule_at rules_in_order n) → ⊥

-- Each rule of the list is met.
pub data MeetsAll (G : Graph) : List Rule → Type 0 where
  none : MeetsAll G []
  also : {r : Rule} {l : List Rule} → Meets G r → MeetsAll G l → MeetsAll G (r ∷ l)

-- r is broken, and each rule before it in the list is met.
pub data FirstBroken (G : Graph) (r : Rule) : List Rule → Type 0 where
  here : {l : List Rule} → (Meets G r → ⊥) → FirstBroken G r (r ∷ l)
  later : {q : Rule} {l : List Rule} → Meets G q → FirstBroken G r l → FirstBroken G r (q ∷ l)

-- What an answer says of the rules of a list: the first that is broken, or none.
abbrev pub Answers : Graph → List Rule → Option code.Rule → Type 0
Answers G l None = MeetsAll G l
Answers G l (Some q) = FirstBroken G (rule_of q) l

-- The rule at place i and all before it are met.
abbrev pub MetThrough : Graph → ℕ → Type 0
MetThrough G i = (j : ℕ) → j ≤ i → Meets G (rule_at rules_in_order j)

-- A visit that found this got past place i: it met all rules, or the rule where it stopped stands after i.
abbrev pub Past : Option code.Rule → ℕ → Type 0
Past None i = Unit {0}
Past (Some q) i = i < place_of (rule_of q)
