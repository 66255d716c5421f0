-- A test that decides what is asked of the ids of a word decides whether each fact of a kind is as asked. Assumes nothing.
use Prim.Native.Nat.{ℕ, ◌≤◌}
use mathlib.Core.Path.{◌≡◌}
use mathlib.Core.Bool.{Bool, true, false}
use mathlib.Core.List.{List}
use Rattle.rdfs.specs.Numbers.{arity}
use Rattle.rdfs.specs.Rules.{Meets, r25, h3}
use Rattle.table.specs.Parts.{first_of, second_of, third_of}
use Rattle.table.specs.Counted.{Id}
use Rattle.table.specs.Answers.{Decides}
use Rattle.spans.specs.Spans.{at, FactWords}
use Rattle.spans.specs.Graphs.{Stands, graph_of, Each, Single}
use Rattle.spans.specs.IdTests.{ObjectMember, ObjectLiteral}
use Rattle.spans.proofs.Decided.{decides_as}
use Rattle.spans.proofs.Passed.{each_fact, fact_each, fact_each_two, fact_each_one}
use Rattle.rules.specs.Tested.{Tested, all_true, one_false}

-- What a test gives decides Q of the ids.
abbrev pub DecidesIds : (ℕ → ℕ → ℕ → Bool → Type 0) → (ℕ → ℕ → ℕ → Type 0) → Type 0
DecidesIds Gives Q = (x y z : ℕ) → Id x → Id y → Id z → (r : Bool) → Gives x y z r → Decides r (Q x y z)

module _ {t : List ℕ} (F : FactWords t) {k : ℕ} {Gives : ℕ → ℕ → ℕ → Bool → Type 0} where
  each_decides : (Q : ℕ → ℕ → ℕ → Type 0) (b : Bool) → Tested t k Gives b → DecidesIds Gives Q → Decides b (Each t k Q)
  each_decides Q true (all_true p) d = λ i h e.
      let ids = (F.facts i h).allowed in
      d (first_of (at t i)) (second_of (at t i)) (third_of (at t i)) ids.first ids.second ids.third true (p i h e)
  each_decides Q false (one_false i h e g) d = λ all.
      let ids = (F.facts i h).allowed in
      d (first_of (at t i)) (second_of (at t i)) (third_of (at t i)) ids.first ids.second ids.third false g (all i h e)

  module _ {b : Bool} (T : Tested t k Gives b) where
    -- A kind with one id, with two, with three.
    pub one_decides : arity k ≤ 1 → {Q : ℕ → Type 0} → DecidesIds Gives (λ x y z. Q x)
        → Decides b ((x : ℕ) → Stands t k x 0 0 → Q x)
    one_decides h {Q} d =
        decides_as b _ _ (λ E x. each_fact t k (λ x y z. Q x) E x 0 0) (fact_each_one F k h Q) (each_decides (λ x y z. Q x) b T d)

    pub two_decides : arity k ≤ 2 → {Q : ℕ → ℕ → Type 0} → DecidesIds Gives (λ x y z. Q x y)
        → Decides b ((x y : ℕ) → Stands t k x y 0 → Q x y)
    two_decides h {Q} d =
        decides_as b _ _ (λ E x y. each_fact t k (λ x y z. Q x y) E x y 0) (fact_each_two F k h Q)
        (each_decides (λ x y z. Q x y) b T d)

    pub three_decides : {Q : ℕ → ℕ → ℕ → Type 0} → DecidesIds Gives Q → Decides b ((x y z : ℕ) → Stands t k x y z → Q x y z)
    three_decides {Q} d = decides_as b _ _ (each_fact t k Q) (fact_each F k Q) (each_decides Q b T d)

    -- Two ids, and an id or two that the test is about, asked for before the fact.
    pub single_decides : arity k ≤ 2 → DecidesIds Gives (λ x y z. (v : ℕ) → Stands t k x v 0 → y ≡ v) → Decides b (Single t k)
    single_decides h d =
        decides_as b ((x y : ℕ) → Stands t k x y 0 → (v : ℕ) → Stands t k x v 0 → y ≡ v) _
        (λ f x y v p. f x y p v) (λ f x y p v. f x y v p) (two_decides h d)

    pub pair_decides : arity k ≤ 2 → {Q : ℕ → ℕ → ℕ → ℕ → Type 0} → DecidesIds Gives (λ x y z. (v w : ℕ) → Q x y v w)
        → Decides b ((x y v w : ℕ) → Stands t k x y 0 → Q x y v w)
    pair_decides h {Q} d =
        decides_as b ((x y : ℕ) → Stands t k x y 0 → (v w : ℕ) → Q x y v w) _
        (λ f x y v w p. f x y p v w) (λ f x y p v w. f x y v w p) (two_decides h d)

-- Rules 25 and H3 ask for the range before the value.
module _ {t : List ℕ} (F : FactWords t) {Gives : ℕ → ℕ → ℕ → Bool → Type 0} {b : Bool} (T : Tested t 10 Gives b) where
  pub member_decides : DecidesIds Gives (λ x y z. ObjectMember (graph_of t) y z) → Decides b (Meets (graph_of t) r25)
  member_decides d =
      decides_as b ((x y z : ℕ) → Stands t 10 x y z → ObjectMember (graph_of t) y z) _
      (λ f x y z w r n p. f x y z p w r n) (λ f x y z p w r n. f x y z w r n p) (three_decides F T d)

  pub literal_decides : DecidesIds Gives (λ x y z. ObjectLiteral (graph_of t) y z) → Decides b (Meets (graph_of t) h3)
  literal_decides d =
      decides_as b ((x y z : ℕ) → Stands t 10 x y z → ObjectLiteral (graph_of t) y z) _
      (λ f x y z r p. f x y z p r) (λ f x y z p r. f x y z r p) (three_decides F T d)
