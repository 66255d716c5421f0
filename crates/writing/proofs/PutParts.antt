-- The contents and the bodies of an image, stored one after another. Assumes nothing.
use Prim.Native.Nat.{ℕ, suc, ◌+◌, ◌*◌, ◌-◌, ◌≤◌, ◌<◌}
use mathlib.Core.Path.{◌≡◌, refl, sym, ap, subst, ◌∙◌}
use mathlib.Core.List.{List, [], ◌∷◌, ◌++◌}
use native.Mathlib.Omega.{arith}
use native.Mathlib.Numerals.{add-one}
use lib.ListN.{length, get_or, set, take, drop, length-append, length-drop, drop_of_length-le, take-append-drop}
use lib.Seq.{drop_at, drop-drop, drop-cons, drop-set-lt}
use Rattle.rdfs.specs.Numbers.{product}
use Rattle.rdfs.specs.Lists.{concat_map}
use Rattle.rdfs.specs.Words.{filled}
use Rattle.rdfs.proofs.Theorems.{product_sound}
use Rattle.table.proofs.CountedLaws.{counted_at}
use Rattle.contents.specs.ImageForm.{Form, fact_size, entry_size, entry_at, first_body, kinds_after, kinds}
use Rattle.contents.specs.Image.{id_bytes, entry, image_of}
use Rattle.contents.proofs.ImageRead.{entry_length, entry_next, bodies_at}
use Rattle.contents.proofs.Linking.{kinds_more, kinds_all}
use Rattle.contents.proofs.RoundTrip.{filled_facts}
use Rattle.writing.specs.KindEnds.{count_by, entries_by, contents_by}
use Rattle.table.specs.Overlay.{over, Overlaid}
use Rattle.writing.specs.Writing.{Writing, Embodied}
use Rattle.writing.proofs.EndsLaws.{contents_long, Measured, measured_start, measured_more}
use Rattle.writing.proofs.Measuring.{bodies_all, image_whole}
use Rattle.table.proofs.Overlaid.{
  overlaid_length,
  overlaid_self,
  overlaid_trans,
  overlaid_more,
  overlaid_all,
  two_stores,
}

entry_after : (F : Form) (done : ℕ) → entry_at F (done + 1) + entry_size F ≡ entry_at F (done + 1 + 1)
entry_after F done = subst (λ n. entry_at F n + entry_size F ≡ entry_at F (n + 1)) (sym (add-one done))
    (entry_next F done ∙ ap (entry_at F) (sym (add-one (suc done))))

entry_first : (F : Form) → entry_at F (0 + 1) ≡ 2
entry_first F = let none : (0 + 1 - 1) * entry_size F ≡ 0 = omega arith in omega (arith, none)

entry_last : (F : Form) (done : ℕ) → done ≡ F.entries → entry_at F (done + 1) ≡ first_body F
entry_last F done e =
    let same : (done + 1 - 1) * entry_size F ≡ F.entries * entry_size F = ap (λ n. n * entry_size F) (omega arith) in
    omega (arith, same)

-- The edition and the number of entries are stored.
abbrev headed : Form → List ℕ → List ℕ
headed F out = set (set out 0 F.edition) 1 F.entries

module _ (F : Form) (ends : List ℕ) where
  -- The entries of the first `done` kinds are stored.
  pub record Entered (out₀ out : List ℕ) (done start : ℕ) : Type 0 where
    pub measured : Measured F ends done start
    pub laid : Overlaid (contents_by F ends) out₀ out (entry_at F (done + 1))
    pub rest : drop (entry_at F (done + 1)) (contents_by F ends) ≡ entries_by F ends start (kinds_after done (F.entries - done))

  pub entered_start : (out : List ℕ) → 2 ≤ length out → Entered (headed F out) (headed F out) 0 (first_body F)
  entered_start out room =
      let none : Overlaid (contents_by F ends) out out 0 = record { within = omega arith; so_far = refl } in
      let both : List ℕ = F.edition ∷ F.entries ∷ [] in
      let stored = overlaid_self (overlaid_more none both (entries_by F ends (first_body F) (kinds F)) refl (headed F out)
      (two_stores out 0 F.edition F.entries room)) in
      record {
        measured = measured_start F ends;
        laid = subst (Overlaid (contents_by F ends) (headed F out) (headed F out)) (sym (entry_first F)) stored;
        rest = ap (λ n. drop n (contents_by F ends)) (entry_first F) ∙ ap (entries_by F ends (first_body F)) (kinds_all F);
      }

  module _ {out₀ out : List ℕ} {done start : ℕ} (e : Entered out₀ out done start) where
    pub entered_length : first_body F ≤ length out₀ → length out ≡ length out₀
    entered_length room = overlaid_length e.laid (omega (arith, e.laid.within, contents_long F ends, room))

    pub entered_more : done < F.entries → (size count : ℕ) → size ≡ fact_size F (done + 1) → count ≡ count_by ends (done + 1)
        → (out' : List ℕ) → out' ≡ over out (entry_at F (done + 1)) (entry F (done + 1) start count)
        → Entered out₀ out' (done + 1) (start + size * count)
    entered_more h size count s d out' q =
        let k : ℕ = done + 1 in
        let at : ℕ = entry_at F k in
        let all : List ℕ = contents_by F ends in
        let new : List ℕ = entry F k start count in
        let later : List ℕ = entries_by F ends (start + size * count) (kinds_after k (F.entries - k)) in
        let split : drop at all ≡ new ++ later =
        e.rest ∙ (ap (entries_by F ends start) (kinds_more F.entries done h)
        ∙ (ap (λ n. entry F k start n ++ entries_by F ends (start + fact_size F k * n) (kinds_after k (F.entries - k))) (sym d)
        ∙ ap (λ n. new ++ entries_by F ends (start + n * count) (kinds_after k (F.entries - k))) (sym s))) in
        let next : at + length new ≡ entry_at F (k + 1) =
        ap (λ n. at + n) (entry_length product F k start count) ∙ entry_after F done in
        record {
          measured = measured_more F ends e.measured h size count s d;
          laid = subst (Overlaid all out₀ out') next (overlaid_more e.laid new later split out' q);
          rest = ap (λ n. drop n all) (sym next) ∙ (sym (drop-drop (length new) at all) ∙ (ap (drop (length new)) split
              ∙ drop_at new later (length new) refl));
        }

  pub entered_done : (out : List ℕ) {out' : List ℕ} {done start : ℕ} → Entered (headed F out) out' done start → F.entries ≤ done
      → out' ≡ contents_by F ends ++ drop (first_body F) out
  entered_done out {done = done} e h =
      let end : entry_at F (done + 1) ≡ first_body F = entry_last F done (omega (arith, h, e.measured.within)) in
      let long : length (contents_by F ends) ≡ first_body F = contents_long F ends in
      overlaid_all e.laid (omega (arith, end, long))
      ∙ (ap (λ n. contents_by F ends ++ drop n (headed F out)) long ∙ ap (λ m. contents_by F ends ++ m)
      (drop-set-lt (first_body F) (set out 0 F.edition) 1 F.entries (omega arith) ∙ drop-set-lt (first_body F) out 0
      F.edition (omega arith)))

-- Facts stored behind those that are stored, and the same over the bytes as they are now.
module _ {F : Form} {l out₀ out : List ℕ} {i at : ℕ} (e : Embodied F l out₀ out i at) where
  pub embodied_self : Embodied F l out out i at
  embodied_self = record { within = e.within; laid = overlaid_self e.laid; rest = e.rest }

  pub embodied_trans : {out' : List ℕ} {j end : ℕ} → Embodied F l out out' j end → at ≤ end → Embodied F l out₀ out' j end
  embodied_trans p h = record { within = p.within; laid = overlaid_trans e.laid p.laid h; rest = p.rest }

module _ {F : Form} {t : List ℕ} {n : ℕ} (w : Writing F t n) where
  abbrev image : List ℕ
  image = image_of product F (filled t)

  pub embodied_start : (out : List ℕ) → take (first_body F) out ≡ take (first_body F) image
      → Embodied F (filled t) out out 0 (first_body F)
  embodied_start out e = record {
    within = omega arith;
    laid = record {
      within = omega (arith, image_whole w.form t n w.writable);
      so_far = sym (take-append-drop (first_body F) out)
          ∙ ap (λ m. m ++ drop (first_body F) out) e;
    };
    rest = bodies_at product F w.form.legible.proper (filled t)
        ∙ bodies_all w.form (filled t) (filled_facts product product_sound t w.writable.counted.laid);
  }

  module _ {out₀ out : List ℕ} {i at : ℕ} (e : Embodied F (filled t) out₀ out i at) where
    abbrev word : ℕ
    word = get_or t i 0

    module _ (h : i < n) where
      below : i < length (filled t)
      below = omega (arith, h, w.writable.counted.size)

      split : drop at image ≡ id_bytes product F word ++ concat_map (id_bytes product F) (drop (i + 1) (filled t))
      split =
          let next : drop i (filled t) ≡ word ∷ drop (i + 1) (filled t) =
          drop-cons (filled t) i 0 below ∙ (ap (λ w. w ∷ drop (suc i) (filled t)) (counted_at w.writable.counted i h)
          ∙ ap (λ m. word ∷ drop m (filled t)) (sym (add-one i))) in
          e.rest ∙ ap (concat_map (id_bytes product F)) next

      pub embodied_room : length image ≤ length out₀ → at + length (id_bytes product F word) ≤ length out
      embodied_room room =
          omega (
            arith,
            room,
            overlaid_length e.laid (omega (arith, e.laid.within, room)),
            e.laid.within,
            length-drop at image,
            ap length split,
            length-append (id_bytes product F word) (concat_map (id_bytes product F) (drop (i + 1) (filled t))),
          )

      pub embodied_more : (next : ℕ) (out' : List ℕ) → next ≡ at + length (id_bytes product F word)
          → out' ≡ over out at (id_bytes product F word) → Embodied F (filled t) out₀ out' (i + 1) next
      embodied_more next out' p q =
          let rest : List ℕ = concat_map (id_bytes product F) (drop (i + 1) (filled t)) in
          let size : ℕ = length (id_bytes product F word) in
          record {
            within = omega (arith, below);
            laid = subst (Overlaid image out₀ out') (sym p) (overlaid_more e.laid (id_bytes product F word) rest
                split out' q);
            rest = ap (λ m. drop m image) p ∙ (sym (drop-drop size at image)
                ∙ (ap (drop size) split ∙ drop_at (id_bytes product F word) rest size refl));
          }

    pub embodied_all : n ≤ i → out ≡ image ++ drop (length image) out₀
    embodied_all h =
        let none : drop i (filled t) ≡ [] = drop_of_length-le (filled t) {i = i} (omega (arith, h, w.writable.counted.size)) in
        overlaid_all e.laid (omega (
          arith,
          length-drop at image,
          ap length (e.rest ∙ ap (concat_map (id_bytes product F)) none),
        ))
