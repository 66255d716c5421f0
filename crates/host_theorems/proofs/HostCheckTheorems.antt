-- What is proved of the host's check: it answers as reading does, names the first broken rule for 3 and none else, gets past
-- each place exactly if the rule there and all before it are met, and its number is one. All that is known of its number r is
-- its contract, `HostCheckPromise`. Assumes nothing.
use Prim.Native.Nat.{ℕ, suc, ◌<◌}
use mathlib.Core.Path.{◌≡◌, sym, ap, subst, ◌∙◌}
use mathlib.Core.Logic.{◌⊎◌, inl, inr, ⊎_elim}
use mathlib.Core.List.{List}
use native.Mathlib.Omega.{arith}
use lib.ListN.{length}
use Rattle.rdfs.specs.Numbers.{product}
use Rattle.rdfs.specs.Words.{facts}
use Rattle.consistency.specs.Order.{rules_in_order, MetThrough}
use Rattle.reading.specs.ReadPromise.{image_words, read_answer}
use Rattle.exchange.specs.ToText.{room}
use Rattle.packing.specs.Packed.{packed, answer_in}
use Rattle.consistency.proofs.Refused.{consistent_counted}
use Rattle.consistency.proofs.OrderTheorems.{count_gets_past}
use Rattle.exchange.proofs.PlaceLaws.{NamesFirst, place_few, place_one, place_none, place_counted, place_names}
use Rattle.vimelosa.specs.HostCheck.{image_graph, place_in, CheckedPast, HostCheckPromise}
use Rattle.host_theorems.proofs.Saved.{read_small}
use Rattle.vimelosa.proofs.CheckWays.{refused_inconsistent, accepted_consistent}

module _ (image : List ℕ) where
  module _ (r : ℕ) (p : HostCheckPromise image r) where
    told : place_in r ≡ p.place
    told = ap place_in p.number ∙ omega (arith, read_small image, place_few p.rule)

    -- The answer is reading's.
    pub check_answers_reading : answer_in r ≡ read_answer room image
    check_answers_reading = ap answer_in p.number ∙ omega (arith, read_small image)

    -- For 3 the place is that of the first rule that the image's graph breaks: it is broken, and each rule before it is met.
    pub check_names_the_first_broken : answer_in r ≡ 3 → NamesFirst (image_graph image) (place_in r)
    check_names_the_first_broken e =
        let third : read_answer room image ≡ 3 = sym check_answers_reading ∙ e in
        subst (NamesFirst (image_graph image)) (sym told) (place_names (facts product (image_words image)) p.rule third
        (refused_inconsistent image third))

    -- For any other answer it is 0.
    pub check_place_only_for_3 : (answer_in r ≡ 3 → ⊥) → place_in r ≡ 0
    check_place_only_for_3 n = told ∙ place_none p.rule (λ e. n (check_answers_reading ∙ e))

    -- An image that is accepted, or refused with 3 only: the check gets past a place exactly if the rule there and all before it
    -- are met.
    pub check_gets_past : (answer_in r ≡ 0) ⊎ (answer_in r ≡ 3) → (i : ℕ) → i < length rules_in_order
        → (CheckedPast r (suc i) → MetThrough (image_graph image) i) × (MetThrough (image_graph image) i → CheckedPast r (suc i))
    check_gets_past (inl z) i h =
        let met = consistent_counted (facts product (image_words image)) (accepted_consistent image
        (sym check_answers_reading ∙ z)) in
        (λ k. (count_gets_past (image_graph image) _ met i h).0 h, λ m. inl z)
    check_gets_past (inr e) i h =
        let at = place_counted p.rule (sym check_answers_reading ∙ e) in
        let past = count_gets_past (image_graph image) at.0 at.2 i h in (
          λ k. past.0 (⊎_elim (λ z. absurd (omega (arith, z, e))) (λ less. omega (arith, less, told, at.1)) k),
          λ m. inr (omega (arith, past.1 m, told, at.1)),
        )

  -- No two numbers keep the promise for one image.
  pub check_one_number : (r s : ℕ) → HostCheckPromise image r → HostCheckPromise image s → r ≡ s
  check_one_number r s p q =
      p.number ∙ (ap (λ n. packed (read_answer room image) n 0 0) (place_one p.rule q.rule) ∙ sym q.number)
