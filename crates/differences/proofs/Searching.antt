-- The search for the next word that the others lack: its invariant, with a law for each step. Assumes nothing.
use Prim.Native.Nat.{ℕ, suc, ◌+◌, ◌≤◌, ◌<◌}
use mathlib.Core.Path.{◌≡◌, refl, sym, subst, ap, ◌∙◌}
use mathlib.Core.List.{List, ◌∷◌}
use native.Mathlib.Numerals.{add-one}
use lib.ListN.{length, get_or, drop, drop_of_length-le}
use lib.Seq.{drop-length}
use Rattle.rdfs.specs.Register.{newcomers}
use Rattle.differences.specs.Besides.{Apart, NextBeside}
use Rattle.differences.proofs.Newcomers.{left_within, left_end, left_found, left_same, left_past}

-- No word up to the place `at` is one that the others lack, and none of those passed is sought any more.
pub record Searching (words others : List ℕ) (place past at passed : ℕ) : Type 0 where
  pub apart : Apart words others place past
  pub same : newcomers (drop past others) (drop place words) ≡ newcomers (drop passed others) (drop at words)

pub search_start : {words others : List ℕ} {place past : ℕ} → Apart words others place past
    → Searching words others place past place past
search_start p = record { apart = p; same = refl }

module _ {words others : List ℕ} {place past at passed : ℕ} (s : Searching words others place past at passed) where
  pub search_within : at < length words
  search_within = left_within words others s.apart.ascending s.apart.others_ascending at passed
      (subst (λ l. 0 < length l) s.same s.apart.some)

  -- A word below all others that are left, and one with none left: this is the next.
  pub search_end : length others ≤ passed → NextBeside words others place past (record { place = at; past = length others })
  search_end e =
      let all : drop passed others ≡ drop (length others) others =
      drop_of_length-le others {i = passed} e ∙ sym (drop-length others) in
      record {
        within = search_within;
        first = s.same ∙ (left_end words others s.apart.ascending s.apart.others_ascending at passed search_within e
            ∙ ap (λ l. get_or words at 0 ∷ newcomers l (drop (suc at) words)) all);
      }

  module _ (k : passed < length others) where
    pub search_found : get_or words at 0 < get_or others passed 0
        → NextBeside words others place past (record { place = at; past = passed })
    search_found e = record {
      within = search_within;
      first = s.same ∙ left_found words others s.apart.ascending s.apart.others_ascending at passed search_within k e;
    }

    pub search_same : get_or words at 0 ≡ get_or others passed 0 → Searching words others place past (at + 1) (passed + 1)
    search_same e = record {
      apart = s.apart;
      same = s.same ∙ (left_same words others s.apart.ascending s.apart.others_ascending at passed search_within k e
          ∙ (λ i. newcomers (drop (sym (add-one passed) i) others) (drop (sym (add-one at) i) words)));
    }

    pub search_past : get_or others passed 0 < get_or words at 0 → Searching words others place past at (passed + 1)
    search_past e = record {
      apart = s.apart;
      same = s.same ∙ (left_past words others s.apart.ascending s.apart.others_ascending at passed search_within k e
          ∙ ap (λ n. newcomers (drop n others) (drop at words)) (sym (add-one passed)));
    }
