-- Each way through the steps on a consistent table does as the register. Assumes nothing.
use Prim.Native.Nat.{ℕ, ◌-◌, ◌≤◌, ◌<◌}
use mathlib.Core.Path.{◌≡◌, refl, sym, ap, subst, ◌∙◌}
use mathlib.Core.Bool.{Bool, true, false}
use mathlib.Core.List.{List}
use native.Mathlib.Omega.{arith}
use lib.Dec.{T, eqb, ltb→lt}
use lib.ListN.{length, take, replicate, length-append}
use Rattle.std.specs.Prelude.{Ok, Err}
use Rattle.rdfs.specs.Numbers.{product}
use Rattle.rdfs.specs.Lists.{all}
use Rattle.rdfs.specs.Facts.{Fact, made, has}
use Rattle.rdfs.specs.Words.{filled, words, padded}
use Rattle.rdfs.specs.Clashes.{clashes}
use Rattle.rdfs.specs.Insertion.{insertion}
use Rattle.rdfs.specs.Deletion.{deletion}
use Rattle.rdfs.specs.Tickets.{Ticket, asked, unknown_property, unknown_class, ticket_of}
use Rattle.rdfs.specs.Lookups.{lookup_clash}
use Rattle.rdfs.specs.Refusals.{or_else, too_many}
use Rattle.rdfs.specs.Register.{step}
use Rattle.rdfs.specs.Promises.{Formed, Known}
use Rattle.rdfs.proofs.Words.FactLaws.{tests_all_has}
use Rattle.rdfs.proofs.Words.LaidOut.{laid_shape}
use Rattle.rdfs.proofs.Tickets.TicketTests.{known_kind, known_provided}
use Rattle.rdfs.proofs.Theorems.{product_sound}
use Rattle.rdfs.proofs.Insertion.InsertionSteps.{new_is}
use Rattle.rdfs.proofs.Insertion.Within.{repeated_insertion}
use Rattle.table.specs.declared.refusals.Refusal.TheVariants.{UnknownProperty, UnknownClass, Clashing, TooMany as NoRoom}
use Rattle.table.specs.Counted.{Counted, facts_of}
use Rattle.table.proofs.CountedLaws.{counted_first, counted_search}
use Rattle.table.proofs.CutTable.{cut_facts, cut_full}
use Rattle.insertion.specs.GrowAnswers.{Insertable, GrowMeans}
use Rattle.std.specs.Prelude.{Option, Some, None}
use Rattle.ticket_form.specs.TicketForm.{record_of, Asked}
use Rattle.ticket.specs.Ready.{Ready, Possible}
use Rattle.ticket.specs.Answered.{Stepped, SteppedAs}
use Rattle.ticket.proofs.RefusedSteps.{
  formed_record,
  looked_clash,
  property_refused,
  class_refused,
  clash_refused,
  too_many_refused,
}
use Rattle.ticket.proofs.AcceptedSteps.{stepped_refused, stepped_same, stepped_inserted, stepped_deleted}

holds : {b : Bool} → b ≡ true → T b
holds e = subst T (sym e) tt

fails : {b : Bool} → b ≡ false → T b → ⊥
fails e t = subst T e t

-- The answers of the two lookups for what an insertion uses.
pub known_by : {K : List Fact} {t : Ticket} → false ≡ unknown_property K t → false ≡ unknown_class K t → Known K t
known_by p c = record { property = fails (sym p); class = fails (sym c) }

-- An insertion past these and the clash.
pub possible_by : {w : List ℕ} {n k a b c : ℕ} → Ready w n 1 k a b c
    → false ≡ unknown_property (facts_of w) (ticket_of 1 k a b c) → false ≡ unknown_class (facts_of w) (ticket_of 1 k a b c)
    → false ≡ lookup_clash (facts_of w) (ticket_of 1 k a b c) → Possible w n k a b c
possible_by r p u e = record { ready = r; known = known_by p u; free = sym e }

-- Words that fill no more than the list they are padded in.
padded_room : (l x : List ℕ) (n : ℕ) → x ≡ padded n l → length x ≡ n → length l ≤ n
padded_room l x n e h = omega (arith, ap length e, length-append l (replicate (n - length l) 0))

module _ {w : List ℕ} {n o k a b c : ℕ} (r : Ready w n o k a b c) where
  ready_formed : Formed product (record_of o k a b c)
  ready_formed = formed_record (record_of o k a b c) refl r.formed

  pub ready_counted : Counted w n
  ready_counted = record { laid = r.table.laid; size = r.size }

  pub ready_asked : Asked (take n w) o k a b c
  ready_asked = record { facts = cut_full ready_counted; formed = r.formed }

  -- A question put to the table's facts alone has the same answer.
  pub of_facts : {A : Type 0} (ask : List Fact → A) → ask (facts_of (take n w)) ≡ ask (facts_of w)
  of_facts ask = ap ask (cut_facts ready_counted)

module _ {w : List ℕ} {n k a b c : ℕ} (r : Ready w n 1 k a b c) where
  pub way_no_property : true ≡ unknown_property (facts_of w) (ticket_of 1 k a b c)
      → Stepped n (Err UnknownProperty) w (step product w (record_of 1 k a b c))
  way_no_property e = stepped_refused w (record_of 1 k a b c) n UnknownProperty (property_refused w (record_of 1 k a b c) r.table
      (ready_formed r) (holds (sym e)))

  pub way_no_class : false ≡ unknown_property (facts_of w) (ticket_of 1 k a b c)
      → true ≡ unknown_class (facts_of w) (ticket_of 1 k a b c) → Stepped n (Err UnknownClass) w (step product w (record_of 1 k a b c))
  way_no_class p e = stepped_refused w (record_of 1 k a b c) n UnknownClass (class_refused w (record_of 1 k a b c) r.table (ready_formed r)
      (fails (sym p)) (holds (sym e)))

  pub way_there : true ≡ all (has (facts_of w)) (asked (ticket_of 1 k a b c))
      → Stepped n (Ok n) w (step product w (record_of 1 k a b c))
  way_there e = stepped_same w (record_of 1 k a b c) r.table n r.size
      (repeated_insertion product product_sound w (record_of 1 k a b c) r.table tt (ready_formed r)
      ((tests_all_has (facts_of w) (asked (ticket_of 1 k a b c))).sound (holds (sym e))))

  pub way_clash : Known (facts_of w) (ticket_of 1 k a b c) → true ≡ lookup_clash (facts_of w) (ticket_of 1 k a b c)
      → Stepped n (Err Clashing) w (step product w (record_of 1 k a b c))
  way_clash u e = stepped_refused w (record_of 1 k a b c) n Clashing (clash_refused w (record_of 1 k a b c) r.table (ready_formed r) tt
      u (holds (sym e)))

-- The words of the graph that an insertion leaves.
abbrev pub grown_words : List ℕ → ℕ → ℕ → ℕ → ℕ → List ℕ
grown_words w k a b c = words product (insertion product.top (facts_of w) (asked (ticket_of 1 k a b c)))

module _ {w : List ℕ} {n k a b c : ℕ} (p : Possible w n k a b c) where
  way_too_many : length w < length (grown_words w k a b c) → Stepped n (Err NoRoom) w (step product w (record_of 1 k a b c))
  way_too_many h = stepped_refused w (record_of 1 k a b c) n NoRoom (too_many_refused w (record_of 1 k a b c) p.ready.table
      (ready_formed p.ready) tt p.known (fails p.free) h)

  way_grown : (x : List ℕ) (m : ℕ) → x ≡ padded (length w) (grown_words w k a b c) → m ≡ length (grown_words w k a b c)
      → length x ≡ length w
      → Stepped n (Ok m) x (step product w (record_of 1 k a b c))
  way_grown x m e d l = subst (λ y. Stepped n (Ok m) y (step product w (record_of 1 k a b c))) (sym e)
      (stepped_inserted w (record_of 1 k a b c) p.ready.table n p.ready.size (ready_formed p.ready) m tt
      p.known (fails p.free) d (omega (arith, d, padded_room (grown_words w k a b c) x (length w) e l)))

-- The words of the graph that a deletion leaves.
abbrev pub left_words : List ℕ → ℕ → ℕ → ℕ → ℕ → List ℕ
left_words w k a b c = words product (deletion (facts_of w) (made k a b c))

module _ {w : List ℕ} {n k a b c : ℕ} (r : Ready w n 2 k a b c) where
  pub way_deleted : (x : List ℕ) (m : ℕ) → x ≡ padded (length w) (left_words w k a b c) → m ≡ length (left_words w k a b c)
      → length x ≡ length w
      → Stepped n (Ok m) x (step product w (record_of 2 k a b c))
  way_deleted x m e d l = subst (λ y. Stepped n (Ok m) y (step product w (record_of 2 k a b c))) (sym e)
      (stepped_deleted w (record_of 2 k a b c) r.table n r.size (ready_formed r) m tt d
      (omega (arith, d, padded_room (left_words w k a b c) x (length w) e l)))

-- An insertion past refusal 10 may be put in.
pub possible_insertable : {w : List ℕ} {n k a b c : ℕ} → Possible w n k a b c → Insertable w n (ticket_of 1 k a b c)
possible_insertable {w} {n} {k} {a} {b} {c} p =
    let r = p.ready in
    let f = ready_formed r in
    let ticket = ticket_of 1 k a b c in
    let bytes = record_of 1 k a b c in
    record {
      counted = (ready_counted r);
      consistent = r.table.consistent;
      insert = tt;
      kinds = known_kind ticket f.kind;
      ids = f.ids;
      provided = known_provided (facts_of w) ticket tt p.known;
      free = λ h. fails p.free (subst T (sym (looked_clash w bytes r.table f tt p.known
          ∙ ap clashes (new_is product product_sound w bytes r.table tt))) h);
    }

pub possible_within : {w : List ℕ} {n k a b c : ℕ} → Possible w n k a b c → n ≤ length w
possible_within p = (counted_search (ready_counted p.ready)).0

pub possible_fits : {w : List ℕ} {n k a b c : ℕ} → Possible w n k a b c → n ≤ product.most
possible_fits p = omega (arith, possible_within p, p.ready.table.fits)

-- 11 as the register's number.
no_room : (b : Bool) → 11 ≡ or_else b 11 0 → T b
no_room true e = tt
no_room false e = absurd (omega (arith, e))

-- What the growth of the table w to x says.
module _ {w : List ℕ} {n k a b c : ℕ} (p : Possible w n k a b c) (x : List ℕ) where
  over : (g : Option ℕ) → g ≡ None → GrowMeans w (ticket_of 1 k a b c) x g → length w < length (grown_words w k a b c)
  over g f h = ltb→lt (length w) (length (grown_words w k a b c))
      (no_room (too_many product w (insertion product.top (facts_of w) (asked (ticket_of 1 k a b c))))
      (subst (GrowMeans w (ticket_of 1 k a b c) x) f h).0)

  -- There is no room; on a work table that is all.
  pub way_lost : (g : Option ℕ) → g ≡ None → GrowMeans w (ticket_of 1 k a b c) x g
      → SteppedAs false n (Err NoRoom) x (step product w (record_of 1 k a b c))
  way_lost g f h =
      let d = way_too_many p (over g f h) in
      record {
        numbers = subst (λ y. Stepped n (Err NoRoom) y (step product w (record_of 1 k a b c))) d.words d;
        words = λ z. absurd (subst (λ m. T (eqb m 0)) (sym d.number) z);
      }

  -- There is no room, and the saved words are put back.
  pub way_no_room : {s z : List ℕ} → s ≡ take n w → z ≡ padded (length x) s → (g : Option ℕ) → g ≡ None
      → GrowMeans w (ticket_of 1 k a b c) x g
      → Stepped n (Err NoRoom) z (step product w (record_of 1 k a b c))
  way_no_room {s} saved back g f h =
      let q = subst (GrowMeans w (ticket_of 1 k a b c) x) f h in
      let counted = (ready_counted p.ready) in
      let facts-saved : s ≡ filled w = saved ∙ counted_first counted in
      let again =
      back ∙ (ap (λ j. padded j s) q.1 ∙ (ap (padded (length w)) facts-saved ∙ sym (laid_shape product w counted.laid))) in
      subst (λ y. Stepped n (Err NoRoom) y (step product w (record_of 1 k a b c))) (sym again)
      (way_too_many p (over g f h))

  pub way_room : (g : Option ℕ) (m : ℕ) → g ≡ Some m → GrowMeans w (ticket_of 1 k a b c) x g → length x ≡ length w
      → Stepped n (Ok m) x (step product w (record_of 1 k a b c))
  way_room g m f h l = let q = (subst (GrowMeans w (ticket_of 1 k a b c) x) f h).1 in way_grown p x m q.0 q.1 l
