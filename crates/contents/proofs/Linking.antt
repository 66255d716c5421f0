-- A walk over the entries of an image. Assumes nothing.
use Prim.Native.Nat.{ℕ, suc, ◌+◌, ◌*◌, ◌-◌, ◌^◌, ◌≤◌, ◌<◌}
use mathlib.Core.Path.{◌≡◌, sym, ap, subst, ◌∙◌}
use mathlib.Core.List.{List, [], ◌∷◌}
use native.Mathlib.Omega.{arith}
use native.Mathlib.Numerals.{add-one}
use lib.ListN.{length}
use Rattle.contents.specs.ImageForm.{Form, byte_values, field_values, fact_size, first_body, kinds_after, kinds}
use Rattle.contents.specs.Legible.{widest, fact_bytes, Legible}
use Rattle.contents.specs.Reading.{count_at}
use Rattle.contents.specs.Contents.{Entry, Chained, Linked}
use Rattle.contents.proofs.FormBounds.{body_small}

-- Of n kinds, those after j: the next one, then the others.
pub kinds_more : (n j : ℕ) → j < n → kinds_after j (n - j) ≡ (j + 1) ∷ kinds_after (j + 1) (n - (j + 1))
kinds_more n j h =
    let more : n - j ≡ suc (n - (j + 1)) = omega arith in
    ap (kinds_after j) more ∙ ap (λ i. i ∷ kinds_after i (n - (j + 1))) (sym (add-one j))

-- All of them.
pub kinds_all : (F : Form) → kinds F ≡ kinds_after 0 (F.entries - 0)
kinds_all F = let all : F.entries ≡ F.entries - 0 = omega arith in ap (kinds_after 0) all

pub kinds_done : (n j : ℕ) → n ≤ j → kinds_after j (n - j) ≡ []
kinds_done n j h = let none : n - j ≡ 0 = omega arith in ap (kinds_after j) none

-- The entries of the first `done` kinds are right: all are if the others are, with their bodies from `start` on.
pub record Walk (F : Form) (bytes : List ℕ) (done start : ℕ) : Type 0 where
  pub within : done ≤ F.entries
  pub small : start ≤ first_body F + done * (fact_bytes * byte_values ^ widest)
  pub to : Linked F bytes → Chained F bytes start (kinds_after done (F.entries - done))
  pub from : Chained F bytes start (kinds_after done (F.entries - done)) → Linked F bytes

pub walk_start : (F : Form) (bytes : List ℕ) → Walk F bytes 0 (first_body F)
walk_start F bytes = record {
  within = omega arith;
  small = omega arith;
  to = λ h. subst (Chained F bytes (first_body F)) (kinds_all F) h.chain;
  from = λ h. record { chain = subst (Chained F bytes (first_body F)) (sym (kinds_all F)) h };
}

module _ {F : Form} {bytes : List ℕ} {done start : ℕ} (w : Walk F bytes done start) where
  next : done < F.entries → Linked F bytes → Entry F bytes (done + 1) start
      × Chained F bytes (start + fact_size F (done + 1) * count_at F bytes (done + 1))
      (kinds_after (done + 1) (F.entries - (done + 1)))
  next h l = subst (Chained F bytes start) (kinds_more F.entries done h) (w.to l)

  pub walk_wrong : done < F.entries → (Entry F bytes (done + 1) start → ⊥) → Linked F bytes → ⊥
  walk_wrong h n l = n (next h l).0

  pub walk_more : Legible F → (size count : ℕ) → size ≡ fact_size F (done + 1) → size ≤ fact_bytes
      → count ≡ count_at F bytes (done + 1) → count < field_values F → done < F.entries
      → Entry F bytes (done + 1) start → Walk F bytes (done + 1) (start + size * count)
  walk_more legible size count e few d small h right =
      let ks : List ℕ = kinds_after (done + 1) (F.entries - (done + 1)) in
      let same : start + size * count ≡ start + fact_size F (done + 1) * count_at F bytes (done + 1) =
      ap (λ n. start + n * count) e ∙ ap (λ n. start + fact_size F (done + 1) * n) d in
      record {
        within = omega arith;
        small = omega (arith, w.small, body_small legible size count few small);
        to = λ l. subst (λ n. Chained F bytes n ks) (sym same) (next h l).1;
        from = λ l. w.from (subst (Chained F bytes start) (sym (kinds_more F.entries done h)) (
          right,
          subst (λ n. Chained F bytes n ks) same l,
        ));
      }

  pub walk_end : F.entries ≤ done → (length bytes ≡ start → Linked F bytes) × (Linked F bytes → length bytes ≡ start)
  walk_end h = (
    (λ e. w.from (subst (Chained F bytes start) (sym (kinds_done F.entries done h)) e)),
    λ l. subst (Chained F bytes start) (kinds_done F.entries done h) (w.to l),
  )
