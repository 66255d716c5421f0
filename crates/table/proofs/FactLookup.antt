-- A lookup among facts: what the search says of one. Assumes nothing.
use Prim.Native.Nat.{ℕ}
use mathlib.Core.Path.{◌≡◌, ap, subst, ◌∙◌}
use mathlib.Core.List.{List}
use native.Mathlib.Omega.{arith}
use Rattle.rdfs.specs.Numbers.{product}
use Rattle.rdfs.specs.Lists.{◌∈◌, member}
use Rattle.rdfs.specs.Facts.{made, has}
use Rattle.rdfs.specs.Words.{fact, filled}
use Rattle.rdfs.proofs.Lists.Tests.{tests_as, tests_agree}
use Rattle.rdfs.proofs.Lists.ListLaws.{map_in}
use Rattle.rdfs.proofs.Words.FactLaws.{tests_has, tests_member}
use Rattle.rdfs.proofs.Words.LaidOut.{laid_word_in}
use Rattle.table.specs.Parts.{kind_of, first_of, second_of, third_of, word_of}
use Rattle.table.specs.Counted.{Full, Formed, facts_of}
use Rattle.table.proofs.PartLaws.{word_made}
use Rattle.table.proofs.CountedLaws.{full_filled}
use Rattle.table.proofs.FactParts.{made_same}

-- A fact is there if its word is.
pub has_word_of : {l : List ℕ} {k a b c : ℕ} → Full l → Formed k a b c
    → member l (word_of k a b c) ≡ has (facts_of l) (made k a b c)
has_word_of {l} {k} {a} {b} {c} q p =
    let w : ℕ = word_of k a b c in
    let parts : (kind_of w ≡ k) × (first_of w ≡ a) × (second_of w ≡ b) × (third_of w ≡ c) = omega (arith, p.1, p.2, p.3) in
    let again : fact product.base w ≡ made k a b c = made_same parts.0 parts.1 parts.2 parts.3 in
    let there : w ∈ filled l → made k a b c ∈ facts_of l = λ h. subst (λ g. g ∈ facts_of l) again (map_in
    (fact product.base) h) in
    let back : made k a b c ∈ facts_of l → w ∈ filled l = λ h. subst (λ x. x ∈ filled l) (word_made k a b c p.0)
    (laid_word_in product l q.laid (made k a b c) h) in
    ap (λ m. member m w) (full_filled q) ∙ tests_agree (tests_as (tests_member (filled l) w) there back)
    (tests_has (facts_of l) (made k a b c))
