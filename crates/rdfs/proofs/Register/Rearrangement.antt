-- A rearranged list of accepted insertions is accepted whole and ends in the same words. The idea: each list ends in a consistent
-- graph that holds what both ask for, so neither can leave it. Assumes nothing.
use Prim.Native.Nat.{ℕ, ◌≤◌}
use mathlib.Core.Path.{◌≡◌, refl, sym, ap, subst, ◌∙◌}
use mathlib.Core.Logic.{⊎_elim}
use mathlib.Core.List.{List, [], ◌∷◌, ◌++◌, append_assoc}
use lib.Dec.{T}
use lib.ListN.{length}
use Rattle.rdfs.specs.Numbers.{Numbers, Sound}
use Rattle.rdfs.specs.Lists.{◌∈◌, here, there, ◌⊆◌}
use Rattle.rdfs.specs.Facts.{Fact, cl, pr, graph}
use Rattle.rdfs.specs.Consistency.{Consistent}
use Rattle.rdfs.specs.Words.{facts, words, padded}
use Rattle.rdfs.specs.Tickets.{Ticket, decoded, inserts, asked}
use Rattle.rdfs.specs.Register.{step, run, Table}
use Rattle.rdfs.specs.Orders.{
  SameTickets,
  UsesProperty,
  MakesProperty,
  UsesClass,
  MakesClass,
  Waits,
  InOrder,
  AllInsertions,
  AllAccepted,
}
use Rattle.rdfs.specs.Promises.{Formed, Provided}
use Rattle.rdfs.proofs.Lists.ListLaws.{in_cons, in_one, none_in, in_append}
use Rattle.rdfs.proofs.Words.FactLaws.{in_list}
use Rattle.rdfs.proofs.Words.Tables.{words_same}
use Rattle.rdfs.proofs.Words.LaidOut.{laid_again, laid_fits}
use Rattle.rdfs.proofs.Register.Perms.{same_tickets_in, same_tickets_sym}
use Rattle.rdfs.proofs.Tickets.TicketRefusals.{Passed, passed}
use Rattle.rdfs.proofs.Tickets.Steps.{step_number, step_length}
use Rattle.rdfs.proofs.Insertion.InsertionSteps.{accepted_smallest, insertion_table}
use Rattle.rdfs.proofs.Insertion.Makes.{property_made, class_made}
use Rattle.rdfs.proofs.Insertion.Within.{accepted_within, accepted_inside}

-- What a ticket waits for stands where the facts of the start do and all that the tickets before it make.
waited : (role : ℕ → Fact) (Uses Makes : Ticket → ℕ → Type 0) (start : List Fact) (all : List (List ℕ))
    → Waits role Uses Makes start all → (before after : List (List ℕ)) (ticket : List ℕ) → all ≡ before ++ (ticket ∷ after)
    → (K : List Fact) → start ⊆ K → ((other : List ℕ) → other ∈ before → (x : ℕ) → Makes (decoded other) x → role x ∈ K)
    → (x : ℕ) → Uses (decoded ticket) x → role x ∈ K
waited role Uses Makes start all order before after ticket e K held made x u = elim (in_list start (role x)) [
  | yes h ↦ held (role x) h
  | no n ↦ let r = order before after ticket x e u n in made r.0 r.1 x r.2
]

module _ (N : Numbers) (s : Sound N) where
  -- What a run of accepted insertions leaves.
  record Grown (w : List ℕ) (l : List (List ℕ)) (v : List ℕ) : Type 0 where
    table : Table N v
    long : length v ≡ length w
    holds : facts N w ⊆ facts N v
    wanted : (ticket : List ℕ) → ticket ∈ l → asked (decoded ticket) ⊆ facts N v
    formed : (ticket : List ℕ) → ticket ∈ l → Formed N ticket

  grown : (l : List (List ℕ)) (w : List ℕ) → Table N w → AllInsertions l → AllAccepted (run N w l).numbers
      → Grown w l (run N w l).table
  unfolding run
  grown [] w t i a = record {
    table = t;
    long = refl;
    holds = λ f h. h;
    wanted = λ u h. absurd (none_in h);
    formed =
        λ u h. absurd (none_in h);
  }
  grown (b ∷ l) w t i a =
      let e : (step N w b).number ≡ 0 = a _ (here refl) in
      let m = accepted_smallest N s w b t (i b (here refl)) e in
      let p : Passed N w b = passed N w b (sym (step_number N w b) ∙ e) in
      let g : Grown (step N w b).table l (run N (step N w b).table l).table =
      grown l (step N w b).table (insertion_table N s w b t (i b (here refl)) e) (λ u h. i u (there h))
      (λ n h. a n (there h)) in
      record {
        table = g.table;
        long = g.long ∙ step_length N w b;
        holds = λ f h. g.holds f (m.holds_table f h);
        wanted = λ u h. ⊎_elim (λ q. subst (λ v. asked (decoded v) ⊆ facts N (run N (step N w b).table l).table) (sym q)
            (λ f k. g.holds f (m.holds_asked f k))) (g.wanted u) (in_cons h);
        formed = λ u h. ⊎_elim (λ q. subst (Formed N) (sym q) p.formed) (g.formed u) (in_cons h);
      }

  -- A run of accepted insertions stays within each consistent graph that holds its start and what it asks for.
  stays_within : (l : List (List ℕ)) (w : List ℕ) → Table N w → AllInsertions l → AllAccepted (run N w l).numbers
      → (E : List Fact) → Consistent (graph E) → facts N w ⊆ E
      → ((ticket : List ℕ) → ticket ∈ l → asked (decoded ticket) ⊆ E) → facts N (run N w l).table ⊆ E
  unfolding run
  stays_within [] w t i a E c held wanted = held
  stays_within (b ∷ l) w t i a E c held wanted =
      let e : (step N w b).number ≡ 0 = a _ (here refl) in
      let p : Passed N w b = passed N w b (sym (step_number N w b) ∙ e) in
      stays_within l (step N w b).table (insertion_table N s w b t (i b (here refl)) e) (λ u h. i u (there h))
      (λ n h. a n (there h)) E c
      (accepted_inside N s w b t (i b (here refl)) p.formed E c held (wanted b (here refl)) e) (λ u h. wanted u (there h))

  -- Tickets in order that a consistent graph of the table's size can take are accepted whole.
  module _ (start : List Fact) (all : List (List ℕ)) (order : InOrder start all) (E : List Fact) (c : Consistent (graph E)) where
    taken : (done l : List (List ℕ)) (w : List ℕ) → all ≡ done ++ l → Table N w → start ⊆ facts N w
        → ((u : List ℕ) → u ∈ done → asked (decoded u) ⊆ facts N w) → facts N w ⊆ E
        → ((ticket : List ℕ) → ticket ∈ l → T (inserts (decoded ticket)) × Formed N ticket × (asked (decoded ticket) ⊆ E))
        → length (words N E) ≤ length w
        → AllAccepted (run N w l).numbers
    unfolding run
    taken done [] w q t st dn held ok room = λ n h. absurd (none_in h)
    taken done (b ∷ l) w q t st dn held ok room =
        let o = ok b (here refl) in
        let uses : Provided (facts N w) (decoded b) = record {
          properties = waited pr UsesProperty MakesProperty start all order.properties done l b q (facts N w) st
              (λ u k. property_made (facts N w) (decoded u) (dn u k));
          classes = waited cl UsesClass MakesClass start all order.classes done l b q (facts N w) st
              (λ u k. class_made (facts N w) (decoded u) (dn u k) t.consistent);
        } in
        let e : (step N w b).number ≡ 0 = accepted_within N s w b t o.0 o.1 E c held o.2 uses room in
        let m = accepted_smallest N s w b t o.0 e in
        let rest = taken (done ++ (b ∷ [])) l (step N w b).table (q ∙ sym (append_assoc done (b ∷ []) l))
        (insertion_table N s w b t o.0 e)
        (λ f h. m.holds_table f (st f h))
        (λ u h. ⊎_elim (λ k f j. m.holds_table f (dn u k f j)) (λ k. subst (λ v. asked (decoded v) ⊆ facts N (step N w b).table)
        (sym (in_one k)) m.holds_asked) (in_append done h))
        (accepted_inside N s w b t o.0 o.1 E c held o.2 e) (λ u h. ok u (there h)) (subst (λ k. length (words N E) ≤ k)
        (sym (step_length N w b)) room) in
        λ n h. ⊎_elim (λ z. z ∙ e) (rest n) (in_cons h)

  -- The theorem: the same tickets, each as often, each property and class made before it is used.
  pub rearrangement : (w : List ℕ) → Table N w → (l m : List (List ℕ)) → AllInsertions l → AllAccepted (run N w l).numbers
      → SameTickets l m → InOrder (facts N w) m
      → AllAccepted (run N w m).numbers × ((run N w m).table ≡ (run N w l).table)
  rearrangement w t l m i a same order =
      let to : m ⊆ l = same_tickets_in m l (same_tickets_sym l m same) in
      let from : l ⊆ m = same_tickets_in l m same in
      let v : List ℕ = (run N w l).table in
      let g : Grown w l v = grown l w t i a in
      let fits : length (words N (facts N v)) ≤ length w =
      subst (λ n. length (words N (facts N v)) ≤ n) g.long (laid_fits N v g.table.laid) in
      let accepted : AllAccepted (run N w m).numbers = taken (facts N w) m order (facts N v) g.table.consistent [] m w refl t
      (λ f h. h) (λ u h. absurd (none_in h)) g.holds
      (λ u h. (i u (to u h), g.formed u (to u h), g.wanted u (to u h))) fits in
      let k : Grown w m (run N w m).table = grown m w t (λ u h. i u (to u h)) accepted in (
        accepted,
        same_words (run N w m).table v k.table g.table (k.long ∙ sym g.long)
            (stays_within m w t (λ u h. i u (to u h)) accepted (facts N v) g.table.consistent g.holds
            (λ u h. g.wanted u (to u h)))
            (stays_within l w t i a (facts N (run N w m).table) k.table.consistent k.holds
            (λ u h. k.wanted u (from u h))),
      )
    where
      same_words : (u v : List ℕ) → Table N u → Table N v → length u ≡ length v → facts N u ⊆ facts N v → facts N v ⊆ facts N u
          → u ≡ v
      same_words u v p q e to from =
          laid_again N u p.laid ∙ (ap (padded (length u)) (words_same N (facts N u) (facts N v) to from)
          ∙ (ap (λ n. padded n (words N (facts N v))) e ∙ sym (laid_again N v q.laid)))
