-- What one list has beside another: nothing exactly if it lies within it; and the two counts balance the lengths. Assumes
-- nothing.
use Prim.Native.Nat.{ℕ, ◌+◌}
use mathlib.Core.Path.{◌≡◌, ap}
use mathlib.Core.Bool.{not}
use mathlib.Core.List.{List}
use native.Mathlib.Omega.{arith}
use lib.Dec.{T_not}
use lib.ListN.{length}
use Rattle.rdfs.specs.Lists.{◌⊆◌, filter, member, Ascending}
use Rattle.rdfs.specs.Register.{besides}
use Rattle.rdfs.proofs.Lists.ListLaws.{in_filter, filter_in}
use Rattle.rdfs.proofs.Lists.Sorted.{ascending_equal}
use Rattle.rdfs.proofs.Words.FactLaws.{member_in_lem, in_member}
use Rattle.rdfs.proofs.Lists.Filters.{filter_none, filter_split, filter_ascending}

pub besides_none : (old new : List ℕ) → new ⊆ old → besides old new ≡ 0
besides_none old new s =
    ap length (filter_none (λ x. not (member old x)) new (λ x h t. T_not (member old x) t (in_member old x (s x h))))

-- The numbers that two lists share, taken from the one, are among those taken from the other; ascending, they are one list.
common : (l m : List ℕ) → filter (member m) l ⊆ filter (member l) m
common l m x h =
    let r = in_filter (member m) l h in
    filter_in (member l) m (member_in_lem m x r.1) (in_member l x r.0)

common_same : (l m : List ℕ) → Ascending l → Ascending m → filter (member m) l ≡ filter (member l) m
common_same l m a b = ascending_equal (filter (member m) l) (filter (member l) m) (filter_ascending (member m) l a)
    (filter_ascending (member l) m b) (common l m) (common m l)

pub besides_balance : (old new : List ℕ) → Ascending old → Ascending new → length old + besides old new ≡ length new + besides new
    old
besides_balance old new a b =
    omega (arith, ap length (common_same old new a b), filter_split (member new) old, filter_split (member old) new)
