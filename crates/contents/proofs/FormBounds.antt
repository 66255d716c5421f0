-- How large the numbers of a form are that the code reads. Assumes nothing.
use Prim.Native.Nat.{ℕ, ◌+◌, ◌*◌, ◌-◌, ◌^◌, ◌≤◌, ◌<◌}
use mathlib.Core.Path.{◌≡◌}
use mathlib.Core.Logic.{⊎_elim}
use mathlib.Core.List.{List, [], ◌∷◌, map}
use native.Mathlib.Omega.{arith}
use native.Mathlib.Nat.{mul-le-mul, mul-le-mul_right, pow-le-pow_right, le-max_left, le-max_right}
use lib.ListN.{length}
use Rattle.rdfs.specs.Numbers.{product, kind_count}
use Rattle.rdfs.specs.Lists.{◌∈◌}
use Rattle.rdfs.proofs.Lists.ListLaws.{in_cons, none_in}
use Rattle.table.proofs.Arity.{arity_few}
use Rattle.contents.specs.ImageForm.{
  Form,
  byte_values,
  field_values,
  fact_size,
  greatest,
  largest_fact,
  entry_size,
  entry_at,
  first_body,
  kinds,
}
use Rattle.contents.specs.Legible.{widest, fact_bytes, Legible, Complete}
use Rattle.contents.specs.WithinBytes.{HasEntry}
use Rattle.contents.proofs.Grouped.{kinds_has}

-- The values of fewer bytes are fewer.
pub values_mono : (n m : ℕ) → n ≤ m → byte_values ^ n ≤ byte_values ^ m
values_mono n m h = pow-le-pow_right {n = byte_values} (omega arith) h

-- The greatest number of a list.
greatest_bound : (f : ℕ → ℕ) (l : List ℕ) (x : ℕ) → x ∈ l → f x ≤ greatest (map f l)
greatest_bound f [] x i = absurd (none_in i)
greatest_bound f (y ∷ l) x i =
    let more : ℕ = greatest (map f l) in
    ⊎_elim (λ e. rw e (le-max_left (f y) more)) (λ j. omega (arith, greatest_bound f l x j, le-max_right (f y) more)) (in_cons i)

pub fact_largest : (F : Form) (k : ℕ) → k ∈ kinds F → fact_size F k ≤ largest_fact F
fact_largest F k i = greatest_bound (fact_size F) (kinds F) k i

module _ (F : Form) where
  -- The entries of n kinds have no more bytes than those of more kinds.
  entries_mono : (n m : ℕ) → n ≤ m → n * entry_size F ≤ m * entry_size F
  entries_mono n m h = mul-le-mul_right (entry_size F) h

  -- An entry ends before the first body.
  entry_within : (k : ℕ) → 1 ≤ k → k ≤ F.entries → entry_at F k + entry_size F ≤ first_body F
  entry_within k h l =
      let next : (k - 1) * entry_size F + entry_size F ≡ (k - 1 + 1) * entry_size F = omega arith in
      omega (arith, next, entries_mono (k - 1 + 1) F.entries (omega arith))

pub entry_inside : {F : Form} {bytes : List ℕ} {k : ℕ} → HasEntry F bytes k → entry_at F k + entry_size F ≤ length bytes
entry_inside {F} {bytes} {k} h = omega (arith, h.within, entry_within F k h.some h.most)

module _ {F : Form} (legible : Legible F) where
  pub fact_small : (k : ℕ) → fact_size F k ≤ fact_bytes
  fact_small k = mul-le-mul (arity_few k) legible.ids

  pub entries_small : (n : ℕ) → n ≤ F.entries → n * entry_size F ≤ kind_count * (2 + (widest + widest))
  entries_small n h =
      let few : n ≤ kind_count = omega (arith, h, legible.few) in
      let short : entry_size F ≤ 2 + (widest + widest) = omega (arith, legible.fields) in
      mul-le-mul few short

  pub first_small : first_body F ≤ 2 + kind_count * (2 + (widest + widest))
  first_small = omega (arith, entries_small F.entries (omega arith))

  pub field_small : field_values F ≤ byte_values ^ widest
  field_small = values_mono F.field_size widest legible.fields

  -- The size of a body.
  pub body_small : (size count : ℕ) → size ≤ fact_bytes → count < field_values F → size * count ≤ fact_bytes * byte_values ^ widest
  body_small size count h l =
      let few : count ≤ byte_values ^ widest = omega (arith, l, field_small) in
      mul-le-mul h few

-- A field has room for the number of a table's facts.
pub most_held : {F : Form} → Complete F → product.most < field_values F
most_held {F} c =
    let one : 1 ≤ largest_fact F = omega (
      arith,
      c.legible.proper.id,
      fact_largest F 1 (kinds_has 0 F.entries 1 (omega arith) (omega (arith, c.many))),
    ) in
    omega (arith, c.long, mul-le-mul_right product.most one)
