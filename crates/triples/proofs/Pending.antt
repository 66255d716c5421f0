-- Words stored in a table one after another: what the words left make of the table is what all make of it as it was. Assumes
-- nothing.
use Prim.Native.Nat.{ℕ, ◌+◌, ◌<◌}
use mathlib.Core.Path.{◌≡◌, refl, sym, ap, subst, ◌∙◌}
use mathlib.Core.List.{List, [], ◌∷◌, ◌++◌, append-nil}
use native.Mathlib.Omega.{arith}
use lib.Dec.{T}
use Rattle.std.proofs.Common.{Option, None, Some}
use lib.ListN.{length}
use Rattle.rdfs.specs.Numbers.{product}
use Rattle.rdfs.specs.Words.{is_fact, filled}
use Rattle.rdfs.proofs.Lists.Sorted.{put_longer}
use Rattle.rdfs.proofs.Words.LaidOut.{laid_ascending}
use Rattle.table.specs.Counted.{Counted}
use Rattle.table.specs.Storing.{StoreMeans}
use Rattle.table.specs.declared.room.Stored.{Stored}
use Rattle.table.specs.declared.room.Stored.TheVariants.{There, Added, NoRoom}
use Rattle.table.proofs.StoredWord.{stored_table, stored_length, stored_words}
use Rattle.triples.specs.Storing.{put_all, Grown, Stores}
use Rattle.triples.proofs.PutAll.{put_there, put_all_append, put_all_longer}

-- One word, by what `store` answered.
module _ (t : List ℕ) {n : ℕ} (w : ℕ) (c : Counted t n) (is : T (is_fact product w)) (after : List ℕ) {r : Stored}
    (m : StoreMeans t w after r) where
  pub one_there : r ≡ There → Stores t (w ∷ []) after (Some n)
  one_there e =
      let p = subst (StoreMeans t w after) e m in
      subst (λ l. Grown t (w ∷ []) l n) (sym p.1) (record {
        counted = c;
        size = refl;
        words_are = sym (put_there w (filled t) (laid_ascending product t c.laid) p.0);
      })

  pub one_room : r ≡ Added → n < length t
  one_room e = let p = subst (StoreMeans t w after) e m in omega (arith, p.room, c.size)

  pub one_added : r ≡ Added → Stores t (w ∷ []) after (Some (n + 1))
  one_added e =
      let p = subst (StoreMeans t w after) e m in
      let room : n < length t = one_room e in
      subst (λ l. Grown t (w ∷ []) l (n + 1)) (sym p.words) (record {
        counted = stored_table t n c w p.new is room;
        size = stored_length t n c w p.new is room;
        words_are = stored_words t n c w p.new is room;
      })

  pub one_full : r ≡ NoRoom → Stores t (w ∷ []) after None
  one_full e =
      let p = subst (StoreMeans t w after) e m in
      (omega (arith, p.full, put_longer w (filled t) p.new), ap length p.words)

-- The words `left` are still to be stored.
pub record Pending (before all left table : List ℕ) (count : ℕ) : Type 0 where
  pub counted : Counted table count
  pub size : length table ≡ length before
  pub same : put_all all (filled before) ≡ put_all left (filled table)

pub pending_start : {t : List ℕ} {n : ℕ} (all : List ℕ) → Counted t n → Pending t all all t n
pending_start all c = record { counted = c; size = refl; same = refl }

pub pending_as : {before all left other table : List ℕ} {count : ℕ} → left ≡ other → Pending before all left table count
    → Pending before all other table count
pending_as {before} {all} {table = table} {count} e p = subst (λ l. Pending before all l table count) e p

pub pending_now : {before all left table now : List ℕ} {count new : ℕ} → now ≡ table → new ≡ count
    → Pending before all left table count → Pending before all left now new
pending_now {before} {all} {left} {table} {new = new} e d p =
    subst (λ t. Pending before all left t new) (sym e) (subst (Pending before all left table) (sym d) p)

-- Some more are stored, or have no room.
module _ {before all table : List ℕ} {count : ℕ} (new left : List ℕ) (p : Pending before all (new ++ left) table count) where
  pub pending_more : {after : List ℕ} {next : ℕ} → Grown table new after next → Pending before all left after next
  pending_more g = record {
    counted = g.counted;
    size = g.size ∙ p.size;
    same = p.same ∙ (put_all_append new left (filled table) ∙ ap (put_all left) (sym g.words_are));
  }

  pub pending_full : length table < length (put_all new (filled table)) → length before < length (put_all all (filled before))
  pending_full h = omega (
    arith,
    h,
    p.size,
    ap length (p.same ∙ put_all_append new left (filled table)),
    put_all_longer new left (filled table) (laid_ascending product table p.counted.laid),
  )

pub pending_done : {before all table : List ℕ} {count : ℕ} → Pending before all [] table count → Grown before all table count
pending_done p = record { counted = p.counted; size = p.size; words_are = sym p.same }

-- The last of them are stored, or have no room.
pub pending_stored : {before all table : List ℕ} {count : ℕ} (new after : List ℕ) → Pending before all new table count
    → (r : Option ℕ) → Stores table new after r → Stores before all after r
pending_stored new after p (Some total) g = pending_done (pending_more new [] (pending_as (sym (append-nil new)) p) g)
pending_stored new after p None h = (pending_full new [] (pending_as (sym (append-nil new)) p) h.0, h.1 ∙ p.size)
