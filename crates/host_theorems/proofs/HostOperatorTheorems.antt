-- What is proved of the host's calls with operators' tickets alone: with an operator's kind the call is the plain one, and the
-- graphs put out have the facts of the other kinds that the image given has. Assumes nothing.
use Prim.Native.Nat.{ℕ}
use mathlib.Core.Path.{◌≡◌, refl, sym, ap, subst, ◌∙◌}
use mathlib.Core.Bool.{true, false}
use mathlib.Core.List.{List, [], ◌∷◌}
use lib.ListN.{length, take}
use Rattle.rdfs.specs.Numbers.{product, record_length, operator_kinds}
use Rattle.rdfs.specs.Lists.{◌∈◌}
use Rattle.rdfs.specs.Words.{facts}
use Rattle.rdfs.specs.Tickets.{decoded}
use Rattle.rdfs.specs.Register.{run_with, cut}
use Rattle.rdfs.specs.Operators.{others}
use Rattle.rdfs.proofs.OperatorTheorems.{operators_as_plain, operators_keep_others}
use Rattle.rdfs.proofs.Theorems.{product_sound}
use Rattle.list_form.proofs.Runs.{as_runs}
use Rattle.reading.specs.ReadPromise.{read_words, ReadPromise}
use Rattle.exchange.specs.ToText.{room}
use Rattle.exchange.proofs.Between.{read_table}
use Rattle.packing.specs.Packed.{answer_in, length_in}
use Rattle.host_ticket.specs.HostTicket.{applied, HostPromiseOf, HostPromise, OperatorHostPromise}
use Rattle.host_list.specs.HostList.{ran, OperatorHostListPromise}
use Rattle.host_theorems.proofs.Saved.{accepted}
use Rattle.host_theorems.proofs.HostTheorems.{host_output_reads_back}
use Rattle.host_theorems.proofs.HostListTheorems.{was_accepted, list_output_reads_back}

-- With an operator's kind the call promises what `vimelosa_apply` promises, no more and no less.
module _ (image ticket : List ℕ) (k : (decoded ticket).kind ∈ operator_kinds) where
  same_applied : applied true image ticket ≡ applied false image ticket
  unfolding applied
  same_applied = operators_as_plain product (read_words room image) ticket k

  pub host_operator_as_plain : (output : List ℕ) (r : ℕ) (v : List ℕ)
      → (OperatorHostPromise image ticket output r v → HostPromise image ticket output r v)
      × (HostPromise image ticket output r v → OperatorHostPromise image ticket output r v)
  host_operator_as_plain output r v = (
    subst (λ a. HostPromiseOf image output a r v) same_applied,
    subst (λ a. HostPromiseOf image output a r v) (sym same_applied),
  )

-- Whatever is put out, cut to the length answered, is read into any table u of 2,048 words as words w with the facts of the other
-- kinds that the image given has, no more and no less.
abbrev ReadsOthers : (image left : List ℕ) → ℕ → Type 0
ReadsOthers image left r = (u : List ℕ) → length u ≡ product.most → (n : ℕ) (w : List ℕ)
    → ReadPromise u (take (length_in r) left) n w → others (facts product w) ≡ others (facts product (read_words room image))

-- After one ticket of an operator, if it is accepted.
pub host_operator_keeps_others : (image ticket output : List ℕ) (r : ℕ) (v : List ℕ)
    → OperatorHostPromise image ticket output r v → answer_in r ≡ 0 → ReadsOthers image v r
unfolding applied run_with
host_operator_keeps_others image ticket output r v p e u h n w q =
    let read = (accepted true image ticket output (ap answer_in (sym p.0) ∙ e)).read in
    ap (λ x. others (facts product x)) (host_output_reads_back true image ticket output r v p e u h n w q).1
    ∙ operators_keep_others product product_sound (read_words room image) (read_table image 0 (sym read) refl refl) (ticket ∷ [])

-- After a list of operators' tickets, whatever their bytes, accepted or not, if the call is not refused.
pub host_operator_list_keeps_others : (image tickets answers output : List ℕ) (r : ℕ) (told left : List ℕ)
    → OperatorHostListPromise image tickets answers output r told left → answer_in r ≡ 0 → ReadsOthers image left r
unfolding ran
host_operator_list_keeps_others image tickets answers output r told left p e u h n w q =
    let read = (was_accepted true image tickets answers output r told left p e).read in
    let words : List ℕ = read_words room image in
    ap (λ x. others (facts product x)) ((list_output_reads_back true image tickets answers output r told left p e u h n w q).1
    ∙ ap (λ d. d.table) (as_runs true words tickets))
    ∙ operators_keep_others product product_sound words (read_table image 0 (sym read) refl refl) (cut record_length tickets)
