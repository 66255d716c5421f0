-- What is proved of the host's calls of Ask 6: all that is known of `vimelosa_ask` and `vimelosa_commit` is their contracts,
-- `HostAskPromise` and `HostCommitPromise`, and of `vimelosa_apply` its contract, `HostPromise`. Assumes nothing.
use Prim.Native.Nat.{ℕ, ◌<◌}
use mathlib.Core.Path.{◌≡◌, refl, sym, ap, subst, ◌∙◌}
use mathlib.Core.Bool.{Bool, true, false, ◌&&◌, cond}
use mathlib.Core.List.{List}
use native.Mathlib.Omega.{arith}
use native.Mathlib.Decide.{ℕ_discrete}
use lib.Dec.{eqb, lit<}
use lib.ListN.{take}
use Rattle.std.specs.Prelude.{Ok}
use Rattle.rdfs.specs.Numbers.{product}
use Rattle.rdfs.specs.Register.{Answer, refused_with, step, Table}
use Rattle.rdfs.proofs.Lists.Tests.{tests_self, tests_decides}
use Rattle.reading.specs.ReadPromise.{read_answer, read_words}
use Rattle.reading.proofs.ReadCall.{read_length}
use Rattle.exchange.specs.ToText.{room}
use Rattle.exchange.proofs.Between.{refused_keeps, passed_leaves, read_table}
use Rattle.packing.specs.Packed.{sixteen_bits, packed, answer_in, added_in, removed_in, length_in, refused_else}
use Rattle.packing.proofs.Refused.{refused_is, passed_is}
use Rattle.ticket.specs.Answered.{Outcome}
use Rattle.preview.specs.Previews.{Asked, added_words, removed_words, short_run, out_of_date, asking, committing}
use Rattle.preview.specs.PreviewPromises.{AskPromise}
use Rattle.preview.proofs.CommitWays.{committed_stale, committed_refused, committed_current}
use Rattle.preview_theorems.proofs.PreviewLaws.{ask_number_lem, commit_number, asked_is, ask_refused, stale_differs}
use Rattle.preview_theorems.proofs.AskTheorems.{asked_added, asked_removed}
use Rattle.host_ticket.specs.HostTicket.{applied, host_number, host_bytes, HostPromiseOf, HostPromise}
use Rattle.host_preview.specs.HostPreview.{asked_on, committed_on, HostAskPromise, HostCommitPromise}
use Rattle.host_theorems.proofs.Saved.{accepted_passes, read_small, step_small, counts_fit, refused_of_lem}

-- Of two numbers that fit their fields.
cond_small : (b : Bool) (n m : ℕ) → n < sixteen_bits → m < sixteen_bits → cond b n m < sixteen_bits
cond_small true n m p q = p
cond_small false n m p q = q

-- A call refused by reading promises the same, whatever the ticket's answer.
unread_same : (image output : List ℕ) (s t : Answer) → (read_answer room image ≡ 0 → ⊥) → (r : ℕ) (v : List ℕ)
    → HostPromiseOf image output s r v → HostPromiseOf image output t r v
unfolding host_number host_bytes
unread_same image output s t n r v p = (
  p.0 ∙ (refused_is (read_answer room image) _ n ∙ sym (refused_is (read_answer room image) _ n)),
  p.1 ∙ (refused_keeps (read_answer room image) _ output n ∙ sym (refused_keeps (read_answer room image) _ output n)),
)

-- Asking with an image: the number r and the runs left.
module _ (image ticket added removed : List ℕ) (r : ℕ) (added' removed' : List ℕ)
    (p : HostAskPromise image ticket added removed r added' removed') where
  abbrev w : List ℕ
  w = read_words room image

  abbrev a : Asked
  a = asking product w ticket added removed

  number_is : r ≡ refused_else (read_answer room image) (packed a.number a.added a.removed 0)
  unfolding asked_on
  number_is = p.answer

  number_small : a.number < sixteen_bits
  number_small = subst (λ n. n < sixteen_bits) (sym (ask_number_lem product w ticket added removed))
      (cond_small (eqb (step product w ticket).number 0 && short_run product w ticket added removed) 13
      (step product w ticket).number (lit< tt) (step_small w ticket))

  -- Refused, every word of the runs is as it was, and the number has nothing but its answer.
  pub host_ask_writes_nothing : (answer_in r ≡ 0 → ⊥) → (added' ≡ added) × (removed' ≡ removed) × (added_in r ≡ 0)
      × (removed_in r ≡ 0) × (length_in r ≡ 0)
  unfolding asked_on
  host_ask_writes_nothing n = elim (ℕ_discrete (read_answer room image) 0) [
    | yes z ↦ let number : r ≡ packed a.number a.added a.removed 0 = number_is ∙ passed_is (read_answer room image) _ z in
        let e = ask_refused product w ticket added removed (λ q. n (ap answer_in number ∙ omega (arith, q))) in
        let none : r ≡ packed a.number 0 0 0 = number ∙ (λ i. packed a.number (e i).added (e i).removed 0) in (
          p.added_run ∙ (passed_leaves (read_answer room image) _ added z ∙ ap (λ x. x.added_run) e),
          p.removed_run ∙ (passed_leaves (read_answer room image) _ removed z ∙ ap (λ x. x.removed_run) e),
          ap added_in none ∙ omega (arith, number_small),
          ap removed_in none ∙ omega (arith, number_small),
          ap length_in none ∙ omega (arith, number_small),
        )
    | no u ↦ let none : r ≡ packed (read_answer room image) 0 0 0 = number_is ∙ refused_is (read_answer room image) _ u in (
      p.added_run ∙ refused_keeps (read_answer room image) _ added u,
      p.removed_run ∙ refused_keeps (read_answer room image) _ removed u,
      ap added_in none ∙ omega (arith, read_small image),
      ap removed_in none ∙ omega (arith, read_small image),
      ap length_in none ∙ omega (arith, read_small image),
    )
  ]

  -- Asked and not refused.
  module _ (e : answer_in r ≡ 0) where
    passes : (read_answer room image ≡ 0) × (refused_else (read_answer room image) (packed a.number a.added a.removed 0)
        ≡ packed a.number a.added a.removed 0)
    passes = accepted_passes (read_answer room image) _ (read_small image) (ap answer_in (sym number_is) ∙ e)

    number : r ≡ packed a.number a.added a.removed 0
    number = number_is ∙ passes.1

    zero : a.number ≡ 0
    zero = omega (arith, number_small, sym (ap answer_in number) ∙ e)

    counts : (a.added < sixteen_bits) × (a.removed < sixteen_bits)
    counts =
        let s = asked_is product w ticket added removed zero in
        let t : Table product w = read_table image 0 (sym passes.0) refl refl in
        let small = counts_fit w ticket t (read_length room image) s.accepted in (
          subst (λ n. n < sixteen_bits) (sym (ap (λ x. x.added) s.all)) small.0,
          subst (λ n. n < sixteen_bits) (sym (ap (λ x. x.removed) s.all)) small.1,
        )

    -- The same answer as that of the call on a table.
    abbrev answered : Outcome
    answered = Ok (record { added = a.added; removed = a.removed })

    promise : AskPromise w ticket added removed answered a.added_run a.removed_run
    promise = record { number = sym zero; added_count = refl; removed_count = refl; added_run = refl; removed_run = refl }

    -- The runs, cut to the counts, are the words that would come and go.
    pub host_asked_added : take (added_in r) added' ≡ added_words product w ticket
    unfolding asked_on
    host_asked_added =
        let cut : added_in r ≡ a.added = ap added_in number ∙ omega (arith, zero, counts.0, counts.1) in
        let run : added' ≡ a.added_run = p.added_run ∙ passed_leaves (read_answer room image) _ added passes.0 in
        (λ i. take (cut i) (run i))
        ∙ asked_added w ticket added removed a.added_run a.removed_run answered promise refl

    pub host_asked_removed : take (removed_in r) removed' ≡ removed_words product w ticket
    unfolding asked_on
    host_asked_removed =
        let cut : removed_in r ≡ a.removed = ap removed_in number ∙ omega (arith, zero, counts.0, counts.1) in
        let run : removed' ≡ a.removed_run = p.removed_run ∙ passed_leaves (read_answer room image) _ removed passes.0 in
        (λ i. take (cut i) (run i))
        ∙ asked_removed w ticket added removed a.added_run a.removed_run answered promise refl

    -- Committing with the runs cut to the counts, on the same image, promises what `vimelosa_apply` does.
    pub host_asked_then_committed : (output : List ℕ) (c : ℕ) (v : List ℕ)
        → HostCommitPromise image ticket (take (added_in r) added') (take (removed_in r) removed') output c v
        → HostPromise image ticket output c v
    unfolding committed_on applied
    host_asked_then_committed output c v q =
        let came : List ℕ = take (added_in r) added' in
        let went : List ℕ = take (removed_in r) removed' in
        subst (λ s. HostPromiseOf image output s c v) (committed_current product w ticket came went
        (λ h. stale_differs product w ticket came went h (host_asked_added, host_asked_removed))) q

-- Committing with an image: the number c and the bytes v left in the output.
module _ (image ticket added removed output : List ℕ) (c : ℕ) (v : List ℕ)
    (q : HostCommitPromise image ticket added removed output c v) where
  abbrev before : List ℕ
  before = read_words room image

  abbrev s : Answer
  s = committing product before ticket added removed

  committed : HostPromiseOf image output s c v
  unfolding committed_on
  committed = q

  -- Refused, every byte of the output is as it was, and the number has nothing but its answer.
  pub host_commit_refusal_keeps : (answer_in c ≡ 0 → ⊥) → (v ≡ output) × (added_in c ≡ 0) × (removed_in c ≡ 0) × (length_in c ≡ 0)
  host_commit_refusal_keeps n =
      let small : s.number < sixteen_bits = subst (λ m. m < sixteen_bits) (sym (commit_number product before ticket added removed))
      (cond_small (eqb (step product before ticket).number 0 && out_of_date product before ticket added removed) 18
      (step product before ticket).number (lit< tt) (step_small before ticket)) in
      let k = refused_of_lem image output s small (λ e. n (ap answer_in committed.0 ∙ e)) in
      let number = committed.0 in
      (committed.1 ∙ k.0, ap added_in number ∙ k.1, ap removed_in number ∙ k.2, ap length_in number ∙ k.3)

  plain : s ≡ step product before ticket → HostPromise image ticket output c v
  unfolding applied
  plain e = subst (λ x. HostPromiseOf image output x c v) e committed

  stale_number : read_answer room image ≡ 0 → s ≡ refused_with 18 before → answer_in c ≡ 18
  unfolding host_number
  stale_number z e =
      let number : c ≡ packed 18 0 0 0 =
      committed.0 ∙ (ap (host_number image output) e ∙ passed_is (read_answer room image) _ z) in
      ap answer_in number

  -- Not refused with 18, it promises what `vimelosa_apply` does.
  pub host_committed_or_stale : (answer_in c ≡ 18 → ⊥) → HostPromise image ticket output c v
  host_committed_or_stale d = elim (ℕ_discrete (read_answer room image) 0) [
    | yes z ↦ elim (ℕ_discrete (step product before ticket).number 0) [
      | yes x ↦ elim (tests_decides (tests_self (out_of_date product before ticket added removed))) [
        | yes h ↦ absurd (d (stale_number z (committed_stale product before ticket added removed x h)))
        | no h ↦ plain (committed_current product before ticket added removed h)
      ]
      | no n ↦ plain (committed_refused product before ticket added removed n)
    ]
    | no u ↦ unread_same image output s (applied false image ticket) u c v committed
  ]
